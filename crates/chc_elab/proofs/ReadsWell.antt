-- What is read is well sorted, within the limits, and made of what the tree and the names give.
use Rattle.std.proofs.Common.{◌≡◌, ◌∙◌, sym, ap, subst, refl, arith, ℕ, zero, suc, ℤ, pos, negsuc, neg_ℤ, Bool, true, false, ◌&&◌, List, [], ◌∷◌, map, Ok, nat_abs}
use Rattle.std.specs.Prelude.{nat_le, IsTrue}
use Rattle.std.specs.List.{AllByRecursion, list_all}
use Rattle.std.proofs.lemmas.Bool.{le-leb}
use Rattle.chc_sorts.specs.declared.sort.Sort.{Sort}
use Rattle.chc_sorts.specs.declared.sort.Sort.TheVariants as sort
use Rattle.chc_sorts.specs.declared.op.Op.{Op}
use Rattle.chc_sorts.specs.declared.op.Op.TheVariants as op
use Rattle.chc_sorts.specs.Signature.{Signature}
use Rattle.chc_sorts.specs.Sorts.{sort_fits}
use Rattle.chc_sorts.proofs.SameSort.{both_true}
use Rattle.chc_sexpr.specs.declared.tree.Tree.{Tree}
use Rattle.chc_sexpr.specs.declared.tree.Tree.TheVariants as tree
use Rattle.chc_sexpr.proofs.Folds.{fold-Numeral, fold-Group}
use Rattle.chc_values.specs.Ranges.{is_int_in_range, greatest_int}
use Rattle.chc_terms.specs.declared.term.Term.{Term, Term-F, fold-Term}
use Rattle.chc_terms.specs.Numbers.{numbers_fit_step}
use Rattle.chc_terms.specs.Sorted.{op_fits, sorts_fit, sorts_fit_step}
use Rattle.chc_terms.proofs.OperatorShapes.{element_from}
use Rattle.chc_elab.specs.declared.typed.Typed.{Typed}
use Rattle.chc_elab.specs.declared.sorted_term.SortedTerm.{SortedTerm}
use Rattle.chc_elab.specs.Sites.{Setting}
use Rattle.chc_elab.specs.Binders.{outer_site}
use Rattle.chc_elab.specs.Reads.{read_at}
use Rattle.chc_elab.specs.Stands.{IsRead}
use Rattle.chc_elab.specs.WellRead.{Declares, NamesNoDefinition, has_no_call, has_no_call_step, are_numerals_in_range, numerals_step, IsWellRead, ReadsWell}
use Rattle.chc_elab.proofs.Asked.{Asks, every, every_step, asked_of_op}
use Rattle.chc_elab.proofs.AskedReads.{Meets, IsFine, read_fine}
use Rattle.chc_elab.proofs.Readings.{ok_same, bind_ok}
use Rattle.chc_elab.proofs.ReadStands.{read_stands}
use Rattle.chc_elab.proofs.SortedReads.{read_sorted}
use Rattle.chc_elab.proofs.SpelledSorts.{spelled_fits}

all_yes : {X : Type 0} (xs : List X) → list_all (λ x. true) xs ≡ true
all_yes [] = refl
all_yes (x ∷ xs) = all_yes xs

-- nothing is asked of the tree
abbrev Anything : Tree → Type 0
Anything t = Unit {0}

anything : (ts : List Tree) → AllByRecursion Anything ts
anything [] = tt
anything (t ∷ ts) = (tt, anything ts)

-- a test of terms that is made of tests of nodes
by_nodes : (a : Asks) (step : Term-F Bool → Bool) → ((x : Term-F Bool) → every_step a x ≡ step x) → (t : Term) → every a t ≡ fold-Term Bool step t
by_nodes a step same t = ap (λ (s : Term-F Bool → Bool). fold-Term Bool s t) (λ i x. same x i)

-- the sorts that a term writes out fit
abbrev fitting : Signature → Asks
fitting sig = record { number = λ n. true; element = λ s. sort_fits sig (sort.Array s); bound = sort_fits sig; call = λ k. true }

fitting_op : (sig : Signature) (o : Op) → asked_of_op (fitting sig) o ≡ op_fits sig o
fitting_op sig (op.Const s) = refl
fitting_op sig o = refl

fitting_step : (sig : Signature) (x : Term-F Bool) → every_step (fitting sig) x ≡ sorts_fit_step sig x
fitting_step sig (Term-F.Var i) = refl
fitting_step sig (Term-F.Num n) = refl
fitting_step sig (Term-F.Lit b) = refl
fitting_step sig (Term-F.App o parts) = ap (λ b. b && list_all (λ b. b) parts) (fitting_op sig o)
fitting_step sig (Term-F.Pred p parts) = refl
fitting_step sig (Term-F.Quant k sorts part) = refl
fitting_step sig (Term-F.Call k parts) = refl

fitting_meets : (setting : Setting) → Meets (fitting setting.sig) setting Anything
fitting_meets setting = record {
  zero_asked = refl;
  numeral = λ place n from. refl;
  minus = λ n h. refl;
  group = λ place ts from. anything ts;
  bound = λ t s is. spelled_fits setting t s is;
  element = λ t s e is element. ap (sort_fits setting.sig) (sym (element_from s e element)) ∙ spelled_fits setting t s is;
  call = λ name k f is. refl;
}

-- a term without calls
abbrev callless : Asks
callless = record { number = λ n. true; element = λ s. true; bound = λ s. true; call = λ k. false }

callless_op : (o : Op) → asked_of_op callless o ≡ true
callless_op (op.Const s) = refl
callless_op o = refl

callless_step : (x : Term-F Bool) → every_step callless x ≡ has_no_call_step x
callless_step (Term-F.Var i) = refl
callless_step (Term-F.Num n) = refl
callless_step (Term-F.Lit b) = refl
callless_step (Term-F.App o parts) = ap (λ b. b && list_all (λ b. b) parts) (callless_op o)
callless_step (Term-F.Pred p parts) = refl
callless_step (Term-F.Quant k sorts part) = ap (λ b. b && part) (all_yes sorts)
callless_step (Term-F.Call k parts) = refl

callless_meets : (setting : Setting) → NamesNoDefinition setting → Meets callless setting Anything
callless_meets setting none = record {
  zero_asked = refl;
  numeral = λ place n from. refl;
  minus = λ n h. refl;
  group = λ place ts from. anything ts;
  bound = λ t s is. refl;
  element = λ t s e is element. refl;
  call = λ name k f is. absurd (none name k f is);
}

-- numbers in range
abbrev ranged : Asks
ranged = record { number = is_int_in_range; element = λ s. true; bound = λ s. true; call = λ k. true }

ranged_op : (o : Op) → asked_of_op ranged o ≡ true
ranged_op (op.Const s) = refl
ranged_op o = refl

ranged_step : (x : Term-F Bool) → every_step ranged x ≡ numbers_fit_step x
ranged_step (Term-F.Var i) = refl
ranged_step (Term-F.Num n) = refl
ranged_step (Term-F.Lit b) = refl
ranged_step (Term-F.App o parts) = ap (λ b. b && list_all (λ b. b) parts) (ranged_op o)
ranged_step (Term-F.Pred p parts) = refl
ranged_step (Term-F.Quant k sorts part) = ap (λ b. b && part) (all_yes sorts)
ranged_step (Term-F.Call k parts) = refl

abs_neg : (n : ℤ) → nat_abs (neg_ℤ n) ≡ nat_abs n
abs_neg (pos zero) = refl
abs_neg (pos (suc n)) = refl
abs_neg (negsuc n) = refl

abbrev InRange : Tree → Type 0
InRange t = are_numerals_in_range t ≡ true

each_in_range : (ts : List Tree) → list_all (λ b. b) (map are_numerals_in_range ts) ≡ true → AllByRecursion InRange ts
each_in_range [] h = tt
each_in_range (t ∷ ts) h =
    let parts = both_true (are_numerals_in_range t) (list_all (λ b. b) (map are_numerals_in_range ts)) h in
    (parts.0, each_in_range ts parts.1)

ranged_meets : (setting : Setting) → Meets ranged setting InRange
ranged_meets setting = record {
  zero_asked = le-leb 0 greatest_int (omega arith);
  numeral = λ place n from. sym (fold-Numeral Bool numerals_step place n) ∙ from;
  minus = λ n h. ap (λ m. nat_le m greatest_int) (abs_neg n) ∙ h;
  group = λ place ts from. each_in_range ts (sym (fold-Group Bool numerals_step place ts) ∙ from);
  bound = λ t s is. refl;
  element = λ t s e is element. refl;
  call = λ name k f is. refl;
}

-- all of it, of what is read as a term with its sort
read_well : (setting : Setting) (names : List (List ℕ)) (sorts : List Sort) (t : Tree) (v : Typed) → IsRead setting (outer_site names sorts) t v
    → IsWellRead setting sorts t (record { term = v.term; sort = v.sort })
read_well setting names sorts t v read =
    let fits = read_fine (fitting setting.sig) setting Anything (fitting_meets setting) names sorts t v read tt in
    record {
      well_sorted = λ cx declares. read_sorted cx setting declares names sorts t v read;
      few_nodes = fits.within.0;
      few_levels = fits.within.1;
      fitting_sorts = sym (by_nodes (fitting setting.sig) (sorts_fit_step setting.sig) (fitting_step setting.sig) v.term) ∙ fits.holds;
      no_call = λ none.
          sym (by_nodes callless has_no_call_step callless_step v.term)
          ∙ (read_fine callless setting Anything (callless_meets setting none) names sorts t v read tt).holds;
      numbers = λ from.
          sym (by_nodes ranged numbers_fit_step ranged_step v.term)
          ∙ (read_fine ranged setting InRange (ranged_meets setting) names sorts t v read from).holds;
    }

pub reads_well : ReadsWell
reads_well setting names sorts t w e =
    let site = outer_site names sorts in
    let (v, read, same) = bind_ok (read_at setting t site) (λ (v : Typed). Ok (record { term = v.term; sort = v.sort })) w e in
    subst (IsWellRead setting sorts t) (ok_same (record { term = v.term; sort = v.sort }) w same) (read_well setting names sorts t v (read_stands setting site t v read))
