-- The measure of a state: some numbers, compared from the left. The kinds of steps that are taken again and again make
-- it less, so that a run ends. More numbers may come at the end: what makes an earlier one less makes the measure less.
use Rattle.std.specs.Prelude.{◌≡◌, ◌<◌, ◌⊎◌, ◌+◌, ℕ, zero, suc, Bool, false, ◌&&◌, cond, nat_lt, List, [], ◌∷◌, length, sum_by, Option, Some, None, slice_get}
use Rattle.std.specs.List.{list_all}
use Rattle.chc_sorts.specs.declared.sort.Sort.{Sort, Sort-F, out-Sort}
use Rattle.chc_sorts.specs.declared.data.Data.{Data}
use Rattle.chc_sorts.specs.declared.data.Ctor.{Ctor}
use Rattle.chc_sorts.specs.declared.data.Field.{Field}
use Rattle.chc_sorts.specs.Signature.{Signature}
use Rattle.chc_state.specs.declared.clause.Clause.{Clause}
use Rattle.chc_state.specs.declared.clause.PredDecl.{PredDecl}
use Rattle.chc_state.specs.States.{StateView}
use Rattle.chc_state.specs.Limits.{live_count}
use Rattle.chc_state.specs.Used.{is_used}

-- the first list is less: at the first place where they differ, its number is
abbrev pub IsLess : List ℕ → List ℕ → Type 0
IsLess [] ns = ⊥
IsLess (m ∷ ms) [] = ⊥
IsLess (m ∷ ms) (n ∷ ns) = (m < n) ⊎ ((m ≡ n) × IsLess ms ns)

-- whether the datatype has two or more constructors, all without fields
abbrev pub is_enumeration : Data → Bool
is_enumeration t = nat_lt 1 (length t.ctors) && list_all (λ (k : Ctor). nat_lt (length k.fields) 1) t.ctors

-- how many datatypes of the list, the first of which has the number n, pass the test
abbrev pub count_from : (ℕ → Data → Bool) → ℕ → List Data → ℕ
count_from test n [] = 0
count_from test n (t ∷ ts) = cond (test n t) 1 0 + count_from test (n + 1) ts

-- how many enumerations the state uses
abbrev pub enumerations : StateView → ℕ
enumerations s = count_from (λ d t. is_used s d && is_enumeration t) 0 s.sig.datatypes

-- the weight of a datatype by those of its fields' sorts: with one constructor 1 more than their sum, and otherwise 1
abbrev pub data_weight : (Sort → ℕ) → Option Data → ℕ
data_weight weigh None = 1
data_weight weigh (Some t) = ctors_weight t.ctors
  where
    ctors_weight : List Ctor → ℕ
    ctors_weight [] = 1
    ctors_weight (k ∷ []) = 1 + sum_by (λ (f : Field). weigh f.sort) k.fields
    ctors_weight (k ∷ l ∷ more) = 1

abbrev pub level_weight : Signature → (Sort → ℕ) → Sort-F Sort → ℕ
level_weight sig weigh Sort-F.Bool = 1
level_weight sig weigh Sort-F.Int = 1
level_weight sig weigh (Sort-F.Data d) = data_weight weigh (slice_get sig.datatypes d)
level_weight sig weigh (Sort-F.Array element) = 1

-- the weight of a sort, looked for in datatypes within datatypes at most n deep
abbrev pub weight_within : Signature → ℕ → Sort → ℕ
weight_within sig zero s = 1
weight_within sig (suc n) s = level_weight sig (weight_within sig n) (out-Sort s)

-- the weight of a sort: a datatype with one constructor weighs 1 more than its fields, any other sort 1. As each datatype
-- has a value, those with one constructor stand in one another no deeper than there are datatypes
abbrev pub sort_weight : Signature → Sort → ℕ
sort_weight sig = weight_within sig (length sig.datatypes + 1)

abbrev pub sorts_weight : Signature → List Sort → ℕ
sorts_weight sig sorts = sum_by (sort_weight sig) sorts

-- the weight of a live predicate's positions
abbrev pub decl_weight : Signature → PredDecl → ℕ
decl_weight sig p = cond p.live (sorts_weight sig p.sorts) 0

-- the live predicates, the clauses, the enumerations that are used, the weight of all positions and of all variables
abbrev pub measure : StateView → List ℕ
measure s =
    live_count s.preds
    ∷ length s.clauses
    ∷ enumerations s
    ∷ sum_by (decl_weight s.sig) s.preds
    ∷ sum_by (λ (c : Clause). sorts_weight s.sig c.vars) s.clauses
    ∷ []
