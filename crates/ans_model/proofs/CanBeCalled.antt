-- Names that definitions can have: those of a state's predicates and of helpers.
use Rattle.std.proofs.Common.{◌≡◌, ◌∙◌, sym, ap, refl, subst, ℕ, zero, suc, Bool, true, false, not, ◌&&◌, List, [], ◌∷◌, ◌++◌, Some, slice_get, codes}
use Rattle.std.specs.Prelude.{decimal}
use Rattle.std.specs.List.{list_all, list_any, flat_map}
use Rattle.std.specs.Str.{bytes_eq}
use Rattle.std.proofs.lemmas.Bool.{and_parts, false≢true}
use Rattle.std.proofs.lemmas.List.Folds.{list_any-append, list_all-append}
use Rattle.std.proofs.lemmas.Slice.Eq.{bytes_eq-Decides}
use Rattle.chc_sorts.specs.declared.data.Data.{Data}
use Rattle.chc_sorts.specs.Functions.{function_names}
use Rattle.chc_sorts.specs.Groups.{fixed_functions}
use Rattle.chc_sorts.specs.Names.{has_name}
use Rattle.chc_sorts.specs.Signature.{Signature}
use Rattle.chc_elab.proofs.Locals.{either_false, not_true}
use Rattle.chc_elab.proofs.Readings.{none_some}
use Rattle.chc_sexpr.specs.Spelling.{is_quotable}
use Rattle.chc_state.specs.Names.{AreNamesOf, is_fixed_name, is_writable_name, signature_names}
use Rattle.chc_state.specs.States.{StateView}
use Rattle.chc_state.proofs.Places.{same_element}
use Rattle.chc_print.specs.Helpers.{numbered, AreHelpers}
use Rattle.chc_print.specs.Prefix.{IsVariablePrefix, begins_numbered, ctor_names, marked, used_names}
use Rattle.term_again.proofs.FunctionNames.{names_of_all_ctors}
use Rattle.term_again.proofs.Decimals.{decimal_quotable}
use Rattle.term_again.proofs.TermNames.{fails_at, passes_at, quotable_name}

-- a name that can be written, that no operator, truth value, constructor or selector has, and that doesn't begin like a variable
pub record CanBeCalled (sig : Signature) (prefix name : List ℕ) : Type 0 where
  pub quotable : list_all is_quotable name ≡ true
  pub unfixed : has_name fixed_functions name ≡ false
  pub free : has_name (function_names sig) name ≡ false
  pub unnumbered : begins_numbered prefix name ≡ false

-- a name that is there is not lacking
pub lacked : (names : List (List ℕ)) (i : ℕ) (name : List ℕ) → slice_get names i ≡ Some name → has_name names name ≡ false → ⊥
lacked [] i name at lacks = none_some name at
lacked (x ∷ names) zero name at lacks =
    let parts = either_false (bytes_eq name x) (has_name names name) lacks in
    false≢true (sym parts.0 ∙ (bytes_eq-Decides name x).1 (sym (same_element x name at)))
lacked (x ∷ names) (suc i) name at lacks = lacked names i name at (either_false (bytes_eq name x) (has_name names name) lacks).1

pub lacks-append : (xs ys : List (List ℕ)) (name : List ℕ) → has_name (xs ++ ys) name ≡ false → (has_name xs name ≡ false) × (has_name ys name ≡ false)
lacks-append xs ys name h = either_false (has_name xs name) (has_name ys name) (sym (list_any-append (bytes_eq name) xs ys) ∙ h)

-- ---- helpers

-- a helper: a stem and a number, which isn't in use
pub record IsHelper (used : List (List ℕ)) (stem name : List ℕ) : Type 0 where
  pub number : ℕ
  pub form : name ≡ numbered stem number
  pub free : has_name used name ≡ false

pub helper_at : (used : List (List ℕ)) (stem : List ℕ) (helpers : List (List ℕ)) → AreHelpers used stem helpers → (i : ℕ) (name : List ℕ) → slice_get helpers i ≡ Some name → IsHelper used stem name
helper_at used stem [] are i name at = absurd (none_some name at)
helper_at used stem (x ∷ helpers) are zero name at = subst (IsHelper used stem) (same_element x name at) (record { number = are.0.number; form = are.0.form; free = are.0.free })
helper_at used stem (x ∷ helpers) are (suc i) name at =
    let h = helper_at (used ++ x ∷ []) stem helpers are.1 i name at in
    record { number = h.number; form = h.form; free = (lacks-append used (x ∷ []) name h.free).0 }

-- no helper is an earlier one
not_first : (used : List (List ℕ)) (stem x : List ℕ) (helpers : List (List ℕ)) → AreHelpers used stem (x ∷ helpers) → (i : ℕ) (name : List ℕ) → slice_get helpers i ≡ Some name → x ≡ name → ⊥
not_first used stem x helpers are i name at same =
    let h = helper_at (used ++ x ∷ []) stem helpers are.1 i name at in
    lacked (x ∷ []) 0 name (ap Some same) (lacks-append used (x ∷ []) name h.free).1

pub helpers_apart : (used : List (List ℕ)) (stem : List ℕ) (helpers : List (List ℕ)) → AreHelpers used stem helpers
    → (i j : ℕ) (name : List ℕ) → slice_get helpers i ≡ Some name → slice_get helpers j ≡ Some name → i ≡ j
helpers_apart used stem [] are i j name at there = absurd (none_some name at)
helpers_apart used stem (x ∷ helpers) are zero zero name at there = refl
helpers_apart used stem (x ∷ helpers) are zero (suc j) name at there = absurd (not_first used stem x helpers are j name there (same_element x name at))
helpers_apart used stem (x ∷ helpers) are (suc i) zero name at there = absurd (not_first used stem x helpers are i name at (same_element x name there))
helpers_apart used stem (x ∷ helpers) are (suc i) (suc j) name at there = ap suc (helpers_apart (used ++ x ∷ []) stem helpers are.1 i j name at there)

-- a stem of bytes that can be written, with which no operator and no variable begins
pub record IsStem (stem : List ℕ) : Type 0 where
  pub quotable : list_all is_quotable stem ≡ true
  pub unfixed : (number : ℕ) → has_name fixed_functions (numbered stem number) ≡ false
  pub unnumbered : (marks number : ℕ) → begins_numbered (marked marks) (numbered stem number) ≡ false

goal_unfixed : (number : ℕ) → has_name fixed_functions (numbered (codes "goal!") number) ≡ false
unfolding fixed_functions
goal_unfixed number = refl

lift_unfixed : (number : ℕ) → has_name fixed_functions (numbered (codes "lift!") number) ≡ false
unfolding fixed_functions
lift_unfixed number = refl

pub goal_is_stem : IsStem (codes "goal!")
goal_is_stem = record { quotable = refl; unfixed = goal_unfixed; unnumbered = λ marks number. refl }

pub lift_is_stem : IsStem (codes "lift!")
lift_is_stem = record { quotable = refl; unfixed = lift_unfixed; unnumbered = λ marks number. refl }

module _ (s : StateView) (names : List (List ℕ)) (prefix : List ℕ) (variables : IsVariablePrefix (used_names s.sig names) prefix) where
  abbrev of_datatypes : List (List ℕ)
  of_datatypes = flat_map ctor_names (flat_map (λ (t : Data). t.ctors) s.sig.datatypes)

  -- ---- given names

  pub given_can : AreNamesOf s names → (p : ℕ) (name : List ℕ) → slice_get names p ≡ Some name → CanBeCalled s.sig prefix name
  given_can are p name at =
      let free = passes_at (λ name. not (is_fixed_name name) && not (has_name (function_names s.sig) name)) names p name are.free at in
      let parts = and_parts (not (is_fixed_name name)) (not (has_name (function_names s.sig) name)) free in
      let writable = (and_parts (list_all is_writable_name names) (list_all is_writable_name (signature_names s.sig)) (sym (list_all-append is_writable_name names (signature_names s.sig)) ∙ are.writable)).0 in
      record {
        quotable = quotable_name name (passes_at is_writable_name names p name writable at);
        unfixed = not_true (is_fixed_name name) parts.0;
        free = not_true (has_name (function_names s.sig) name) parts.1;
        unnumbered = fails_at (begins_numbered prefix) names p name (either_false (list_any (begins_numbered prefix) names) (list_any (begins_numbered prefix) of_datatypes) (sym (list_any-append (begins_numbered prefix) names of_datatypes) ∙ variables.free)).0 at;
      }

  -- ---- names of helpers

  pub helper_can : (stem : List ℕ) → IsStem stem → (name : List ℕ) → IsHelper (used_names s.sig names) stem name → CanBeCalled s.sig prefix name
  helper_can stem is name h =
      let parts = lacks-append names of_datatypes name h.free in
      record {
        quotable = ap (list_all is_quotable) h.form ∙ list_all-append is_quotable stem (decimal h.number) ∙ both (list_all is_quotable stem) is.quotable (decimal_quotable h.number);
        unfixed = ap (has_name fixed_functions) h.form ∙ is.unfixed h.number;
        free = ap (λ (l : List (List ℕ)). has_name l name) (names_of_all_ctors s.sig.datatypes) ∙ parts.1;
        unnumbered = subst (λ (p : List ℕ). begins_numbered p name ≡ false) (sym variables.form) (ap (begins_numbered (marked variables.marks)) h.form ∙ is.unnumbered variables.marks h.number);
      }
    where
      both : (b : Bool) → b ≡ true → list_all is_quotable (decimal h.number) ≡ true → (b && list_all is_quotable (decimal h.number)) ≡ true
      both true e digits = digits
      both false e digits = e
