-- What operators demand of their arguments.
use Rattle.std.specs.Prelude.{◌≡◌, ℕ, Bool, true, false, nat_eq, nat_lt, List, length, Option, Result, Ok, Err, ⊤}
use Rattle.chc_sorts.specs.declared.sort.Sort.{Sort}
use Rattle.chc_sorts.specs.declared.sort.Sort.TheVariants as sort
use Rattle.chc_sorts.specs.declared.op.Op.{Op}
use Rattle.chc_sorts.specs.Signature.{Signature}
use Rattle.chc_sorts.specs.Sorts.{same_sorts}
use Rattle.chc_terms.specs.declared.context.SortErr.{SortErr}
use Rattle.chc_terms.specs.declared.context.SortErr.TheVariants as refusal
use Rattle.chc_terms.specs.declared.demand.Demand.{Demand}
use Rattle.chc_terms.specs.declared.demand.Demand.TheVariants as demand
use Rattle.chc_terms.specs.Sorted.{op_sort, when, are_truths, equation_sort, choice_sort, read_sort, write_sort}
use Rattle.chc_terms.specs.Judged.{is_op_bound, takes_count}

-- whether that many arguments are demanded
abbrev pub demanded_count : Demand → ℕ → Bool
demanded_count (demand.Exactly f) n = nat_eq n (length f.params)
demanded_count demand.Truths n = nat_lt 1 n
demanded_count demand.Equation n = nat_eq n 2
demanded_count demand.Choice n = nat_eq n 3
demanded_count demand.Read n = nat_eq n 2
demanded_count demand.Write n = nat_eq n 3

-- the sort on arguments of these sorts, where they are demanded
abbrev pub demanded_sort : Demand → List Sort → Option Sort
demanded_sort (demand.Exactly f) sorts = when (same_sorts sorts f.params) f.result
demanded_sort demand.Truths sorts = when (are_truths sorts) sort.Bool
demanded_sort demand.Equation sorts = equation_sort sorts
demanded_sort demand.Choice sorts = choice_sort sorts
demanded_sort demand.Read sorts = read_sort sorts
demanded_sort demand.Write sorts = write_sort sorts

-- what an operator demands: its count and its sort are those of the demand
pub record IsDemand (sig : Signature) (o : Op) (d : Demand) : Type 0 where
  pub bound : is_op_bound sig o ≡ true
  pub count : (n : ℕ) → takes_count sig o n ≡ demanded_count d n
  pub sort : (sorts : List Sort) → op_sort sig o sorts ≡ demanded_sort d sorts

-- the answer is what the operator demands, or that something it names isn't there, or memory was refused
abbrev pub Demands : Signature → Op → Result Demand SortErr → Type 0
Demands sig o (Ok d) = IsDemand sig o d
Demands sig o (Err refusal.Unbound) = is_op_bound sig o ≡ false
Demands sig o (Err refusal.WrongCount) = ⊥
Demands sig o (Err refusal.WrongSort) = ⊥
Demands sig o (Err refusal.NoMemory) = ⊤
