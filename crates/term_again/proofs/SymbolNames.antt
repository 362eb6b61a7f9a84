-- The names of a state's predicates, those of helpers too: each stands for the predicate or definition that is declared under it.
use Rattle.std.proofs.Common.{◌≡◌, ◌∙◌, sym, ap, refl, subst, ℕ, zero, suc, true, false, not, ◌&&◌, List, [], ◌∷◌, ◌++◌, Some, slice_get, codes}
use Rattle.std.specs.Prelude.{decimal}
use Rattle.std.specs.List.{list_all, list_any, flat_map}
use Rattle.chc_sorts.specs.declared.data.Data.{Data}
use Rattle.std.specs.Str.{bytes_eq}
use Rattle.std.proofs.lemmas.Bool.{and_parts}
use Rattle.std.proofs.lemmas.List.Folds.{list_any-append, list_all-append}
use Rattle.chc_sorts.specs.Names.{has_name, look_up}
use Rattle.chc_sorts.specs.Functions.{functions, function_names}
use Rattle.chc_sorts.specs.Groups.{fixed_functions}
use Rattle.chc_sorts.specs.Signature.{Signature}
use Rattle.chc_sexpr.specs.Spelling.{is_quotable}
use Rattle.chc_state.specs.Names.{AreNamesOf, is_fixed_name, is_writable_name, signature_names}
use Rattle.chc_state.specs.States.{StateView}
use Rattle.chc_print.specs.Prefix.{ctor_names, used_names, begins_numbered, marked}
use Rattle.chc_print.specs.Helpers.{numbered, AreHelpers, NamesPredicates}
use Rattle.chc_elab.specs.declared.symbols.Symbol.{Symbol}
use Rattle.chc_elab.specs.Sites.{Setting}
use Rattle.chc_elab.proofs.Locals.{either_false, not_true}
use Rattle.term_again.specs.Naming.{NamesSymbol, AreNamedFor}
use Rattle.term_again.proofs.Decimals.{decimal_quotable}
use Rattle.term_again.proofs.FunctionNames.{names_of_all_ctors}
use Rattle.term_again.proofs.TermNames.{row_names, unfound, unfixed_operator, unfixed_literal, quotable_name, passes_at, fails_at, function_names_front, rest_of}

-- ---- names that can be those of predicates

-- a name that can be written, isn't fixed or a function's, and doesn't begin like a variable
record CanBePredicate (sig : Signature) (prefix name : List ℕ) : Type 0 where
  quotable : list_all is_quotable name ≡ true
  unfixed : has_name fixed_functions name ≡ false
  free : has_name (function_names sig) name ≡ false
  unnumbered : begins_numbered prefix name ≡ false

module _ (s : StateView) (names : List (List ℕ)) (prefix : List ℕ) (setting : Setting) (named : AreNamedFor s names prefix setting) where
  -- it stands for what is declared under it
  declared_named : (what : Symbol) (name : List ℕ) → CanBePredicate s.sig prefix name → look_up setting.symbols name ≡ Some what → NamesSymbol setting prefix what name
  declared_named what name can found =
      let rest = row_names (rest_of s.sig setting.sig named.more named.front) in
      let first = either_false (has_name (function_names setting.sig) name) (has_name rest name)
      (sym (list_any-append (bytes_eq name) (function_names setting.sig) rest) ∙ ap (λ (l : List (List ℕ)). has_name l name) (sym (function_names_front s.sig setting.sig named.more named.front)) ∙ can.free) in
      record {
        quotable = can.quotable;
        plain = unfixed_operator name can.unfixed;
        untrue = unfixed_literal name can.unfixed;
        meaningless = unfound (functions setting.sig) name first.0;
        unnumbered = can.unnumbered;
        found = found;
      }

  -- ---- given names

  given_name : AreNamesOf s names → (p : ℕ) (name : List ℕ) → slice_get names p ≡ Some name → CanBePredicate s.sig prefix name
  given_name are p name at =
      let free = passes_at (λ name. not (is_fixed_name name) && not (has_name (function_names s.sig) name)) names p name are.free at in
      let parts = and_parts (not (is_fixed_name name)) (not (has_name (function_names s.sig) name)) free in
      let writable = (and_parts (list_all is_writable_name names) (list_all is_writable_name (signature_names s.sig)) (sym (list_all-append is_writable_name names (signature_names s.sig)) ∙ are.writable)).0 in
      let others : List (List ℕ) = flat_map ctor_names (flat_map (λ (t : Data). t.ctors) s.sig.datatypes) in
      record {
        quotable = quotable_name name (passes_at is_writable_name names p name writable at);
        unfixed = not_true (is_fixed_name name) parts.0;
        free = not_true (has_name (function_names s.sig) name) parts.1;
        unnumbered = fails_at (begins_numbered prefix) names p name (either_false (list_any (begins_numbered prefix) names) (list_any (begins_numbered prefix) others) (sym (list_any-append (begins_numbered prefix) names others) ∙ named.variables.free)).0 at;
      }

  -- ---- names of helpers

  -- a helper's name begins with a `g`
  helper_fixed : (number : ℕ) → has_name fixed_functions (numbered (codes "goal!") number) ≡ false
  unfolding fixed_functions
  helper_fixed number = refl

  helper_name : (number : ℕ) (name : List ℕ) → name ≡ numbered (codes "goal!") number → has_name (used_names s.sig names) name ≡ false → CanBePredicate s.sig prefix name
  helper_name number name form free = record {
    quotable = ap (list_all is_quotable) form ∙ list_all-append is_quotable (codes "goal!") (decimal number) ∙ decimal_quotable number;
    unfixed = ap (has_name fixed_functions) form ∙ helper_fixed number;
    free = no_function name (either_false (has_name names name) (has_name (flat_map ctor_names (flat_map (λ (t : Data). t.ctors) s.sig.datatypes)) name) (sym (list_any-append (bytes_eq name) names (flat_map ctor_names (flat_map (λ (t : Data). t.ctors) s.sig.datatypes))) ∙ free)).1;
    unnumbered = subst (λ (p : List ℕ). begins_numbered p name ≡ false) (sym named.variables.form) (ap (begins_numbered (marked named.variables.marks)) form);
  }
    where
      no_function : (name : List ℕ) → has_name (flat_map ctor_names (flat_map (λ (t : Data). t.ctors) s.sig.datatypes)) name ≡ false → has_name (function_names s.sig) name ≡ false
      no_function name h = ap (λ (l : List (List ℕ)). has_name l name) (names_of_all_ctors s.sig.datatypes) ∙ h

  helper_at : (used : List (List ℕ)) (helpers : List (List ℕ)) → ((name : List ℕ) → has_name used name ≡ false → has_name (used_names s.sig names) name ≡ false) → AreHelpers used (codes "goal!") helpers
      → (i : ℕ) (name : List ℕ) → slice_get helpers i ≡ Some name → CanBePredicate s.sig prefix name
  helper_at used [] fewer are i name at = cc
  helper_at used (x ∷ helpers) fewer are zero name at =
      let is : x ≡ name = cc in
      subst (CanBePredicate s.sig prefix) is (helper_name are.0.number x are.0.form (fewer x are.0.free))
  helper_at used (x ∷ helpers) fewer are (suc i) name at =
      helper_at (used ++ x ∷ []) helpers (λ n h. fewer n (either_false (has_name used n) (has_name (x ∷ []) n) (sym (list_any-append (bytes_eq n) used (x ∷ [])) ∙ h)).0) are.1 i name at

  -- ---- all names

  name_of_two : (xs ys : List (List ℕ)) → ((i : ℕ) (name : List ℕ) → slice_get xs i ≡ Some name → CanBePredicate s.sig prefix name) → ((i : ℕ) (name : List ℕ) → slice_get ys i ≡ Some name → CanBePredicate s.sig prefix name)
      → (i : ℕ) (name : List ℕ) → slice_get (xs ++ ys) i ≡ Some name → CanBePredicate s.sig prefix name
  name_of_two [] ys f g i name at = g i name at
  name_of_two (x ∷ xs) ys f g zero name at = f zero name at
  name_of_two (x ∷ xs) ys f g (suc i) name at = name_of_two xs ys (λ j n h. f (suc j) n h) g i name at

  -- each name of the state's predicates stands for what is declared under it
  pub symbol_named : (all : List (List ℕ)) → AreNamesOf s names → NamesPredicates s names all → (p : ℕ) (what : Symbol) (name : List ℕ) → slice_get all p ≡ Some name
      → look_up setting.symbols name ≡ Some what → NamesSymbol setting prefix what name
  symbol_named all are naming p what name at found =
      declared_named what name
      (name_of_two names naming.helpers (given_name are) (helper_at (used_names s.sig names) naming.helpers (λ n h. h) naming.are_next) p name (ap (λ (l : List (List ℕ)). slice_get l p) (sym naming.whole) ∙ at)) found
