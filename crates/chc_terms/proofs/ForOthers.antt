-- Lemmas for the crates above, which may cite this file: the laws of the value of a term, and of lists of terms.
use Rattle.std.proofs.Common.{◌≡◌, Bool, true, List, [], ◌∷◌, map, Some}
use Rattle.std.specs.List.{list_all}
use Rattle.std.proofs.lemmas.Option.{none-some}
use Rattle.chc_sorts.specs.declared.sort.Sort.{Sort}
use Rattle.chc_sorts.specs.declared.sort.Sort.TheVariants as sort
use Rattle.chc_sorts.specs.Signature.{Signature}
use Rattle.chc_sorts.specs.WellFounded.{IsWellFounded}
use Rattle.chc_values.specs.declared.value.Value.{Value}
use Rattle.chc_values.specs.declared.value.Value.TheVariants as value
use Rattle.chc_values.specs.declared.world.WorldEntry.{WorldEntry}
use Rattle.chc_values.specs.Values.{IsOf, AreOf}
use Rattle.chc_values.specs.Worlds.{IsWorld}
use Rattle.chc_values.proofs.ValueSorts as ValueSorts
use Rattle.chc_terms.specs.declared.term.Term.{Term}
use Rattle.chc_terms.specs.Has.{Meaning, Has, EachHas}
use Rattle.chc_terms.specs.Sorted.{Context, sort_of, sorts_of, is_plain, is_unquantified}
use Rattle.chc_terms.specs.ShiftLaws.{ShiftKeepsValues, ShiftKeepsSort, ShiftKeepsCounts}
use Rattle.chc_terms.specs.Laws.{OneValue, OneValueUnderAny, SomeValue, SomeValueUnderAny, SameMeaning, Means, AreTotal}
use Rattle.chc_terms.proofs.Contexts.{alone, alone_extends, sort_kept, sorts_kept}
use Rattle.chc_terms.proofs.SameSort.{both_true}
use Rattle.chc_terms.proofs.OperatorLaws.{operators_fit, operators_answer, no_datatypes_answer}
use Rattle.chc_terms.proofs.DatatypeOperators.{datatypes_fit}
use Rattle.chc_terms.proofs.DatatypeAnswers.{datatypes_answer}
use Rattle.chc_terms.proofs.Uniqueness.{terms_single}
use Rattle.chc_terms.proofs.Existence.{terms_have}
use Rattle.chc_terms.proofs.TermLaws as TermLaws
use Rattle.chc_terms.proofs.ShiftKeeps as ShiftKeeps

-- the laws of one term
pub one_value : OneValue
one_value = TermLaws.one_value

pub one_value_under_any : OneValueUnderAny
one_value_under_any = TermLaws.one_value_under_any

pub some_value : SomeValue
some_value = TermLaws.some_value

pub some_value_under_any : SomeValueUnderAny
some_value_under_any = TermLaws.some_value_under_any

pub same_meaning : SameMeaning
same_meaning = TermLaws.same_meaning

-- the laws of a term with room for other variables
pub shift_keeps_values : ShiftKeepsValues
shift_keeps_values = ShiftKeeps.shift_keeps_values

pub shift_keeps_sort : ShiftKeepsSort
shift_keeps_sort = ShiftKeeps.shift_keeps_sort

pub shift_keeps_counts : ShiftKeepsCounts
shift_keeps_counts = ShiftKeeps.shift_keeps_counts

-- a value of Bool is a truth value
pub truth_value : (sig : Signature) (v : Value) → IsOf sig v sort.Bool → (b : Bool) × (v ≡ value.Bool b)
truth_value = ValueSorts.truth_value

-- a term without predicates and calls has its sort in every context with the same datatypes
pub sort_in_context : (cx : Context) (t : Term) (vars : List Sort) (s : Sort) → sort_of (record { sig = cx.sig; preds = []; defs = [] }) t vars ≡ Some s → sort_of cx t vars ≡ Some s
sort_in_context cx = sort_kept (alone cx.sig) cx (alone_extends cx)

pub sorts_in_context : (cx : Context) (ts : List Term) (vars sorts : List Sort) → sorts_of (record { sig = cx.sig; preds = []; defs = [] }) ts vars ≡ Some sorts → sorts_of cx ts vars ≡ Some sorts
sorts_in_context cx = sorts_kept (alone cx.sig) cx (alone_extends cx)

-- where nothing is declared, every meaning fits, and is total
pub nothing_meant : (sig : Signature) (preds defs : Meaning) → Means (record { sig = sig; preds = []; defs = [] }) preds defs
nothing_meant sig preds defs = record { preds_fit = λ p params h. absurd (none-some params h); defs_fit = λ k f h. absurd (none-some f h) }

pub nothing_to_answer : (sig : Signature) (preds defs : Meaning) → AreTotal (record { sig = sig; preds = []; defs = [] }) preds defs
nothing_to_answer sig preds defs = record { preds_total = λ p params h. absurd (none-some params h); defs_total = λ k f h. absurd (none-some f h) }

-- the laws of lists of terms
module _ (cx : Context) (w : List WorldEntry) (preds defs : Meaning) (world : IsWorld cx.sig w) (means : Means cx preds defs)
    (ts : List Term) (vars sorts : List Sort) (sorted : sorts_of cx ts vars ≡ Some sorts) (env : List Value) (fits : AreOf cx.sig env vars) where
  pub one_list : (us vs : List Value) → EachHas (Has cx.sig w preds defs) ts env us → EachHas (Has cx.sig w preds defs) ts env vs → us ≡ vs
  one_list = (terms_single cx w preds defs (operators_fit cx.sig w world.0 (datatypes_fit cx.sig w world)) means ts vars sorts sorted env fits).one

  pub list_of_sorts : (vs : List Value) → EachHas (Has cx.sig w preds defs) ts env vs → AreOf cx.sig vs sorts
  list_of_sorts = (terms_single cx w preds defs (operators_fit cx.sig w world.0 (datatypes_fit cx.sig w world)) means ts vars sorts sorted env fits).of

  pub some_list : cx.sig.datatypes ≡ [] → AreTotal cx preds defs → list_all (λ b. b) (map is_unquantified ts) ≡ true → (vs : List Value) × EachHas (Has cx.sig w preds defs) ts env vs
  some_list none total q =
      terms_have cx w preds defs (operators_fit cx.sig w world.0 (datatypes_fit cx.sig w world)) (operators_answer cx.sig w (no_datatypes_answer cx.sig w none)) means total
      ts q vars sorts sorted env fits

  -- the same under any signature that is well founded
  pub some_list_under_any : IsWellFounded cx.sig → AreTotal cx preds defs → list_all (λ b. b) (map is_unquantified ts) ≡ true → (vs : List Value) × EachHas (Has cx.sig w preds defs) ts env vs
  some_list_under_any founded total q =
      terms_have cx w preds defs (operators_fit cx.sig w world.0 (datatypes_fit cx.sig w world)) (operators_answer cx.sig w (datatypes_answer cx.sig w founded)) means total
      ts q vars sorts sorted env fits

-- what plain terms have doesn't depend on what predicates and definitions mean
pub same_meanings : (sig : Signature) (w : List WorldEntry) (preds defs others more : Meaning) (ts : List Term) → list_all (λ b. b) (map is_plain ts) ≡ true
    → (env vs : List Value) → EachHas (Has sig w preds defs) ts env vs → EachHas (Has sig w others more) ts env vs
same_meanings sig w preds defs others more [] h env [] p = tt
same_meanings sig w preds defs others more [] h env (v ∷ vs) p = p
same_meanings sig w preds defs others more (t ∷ ts) h env [] p = p
same_meanings sig w preds defs others more (t ∷ ts) h env (v ∷ vs) p =
    let b = both_true (is_plain t) (list_all (λ b. b) (map is_plain ts)) h in
    (same_meaning sig w preds defs others more t b.0 env v p.0, same_meanings sig w preds defs others more ts b.1 env vs p.1)
