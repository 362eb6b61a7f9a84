-- The names of a state's predicates.
use Rattle.std.specs.Prelude.{◌≡◌, ◌≤◌, ℕ, Bool, not, ◌&&◌, IsTrue, nat_eq, List, ◌++◌, length, Some, slice_get}
use Rattle.std.specs.List.{list_all}
use Rattle.chc_sorts.specs.Signature.{Signature}
use Rattle.chc_sorts.specs.Names.{has_name}
use Rattle.chc_sorts.specs.Groups.{fixed_functions}
use Rattle.chc_sorts.specs.Named.{datatype_names}
use Rattle.chc_sorts.specs.Functions.{function_names}
use Rattle.chc_state.specs.States.{StateView}

-- whether the name is `true`, `false` or an operator's
abbrev pub is_fixed_name : List ℕ → Bool
is_fixed_name name = has_name fixed_functions name

-- whether the name can stand between bars: it has neither a bar nor a backslash
abbrev pub is_writable_name : List ℕ → Bool
is_writable_name name = list_all (λ b. not (nat_eq b 124) && not (nat_eq b 92)) name

-- the names of the signature: those of its datatypes, and of their constructors and selectors
abbrev pub signature_names : Signature → List (List ℕ)
signature_names sig = datatype_names sig ++ function_names sig

-- the names, by number, can be those of the state's predicates: no more than these, all different, none of them fixed or
-- a constructor's or selector's, and like those of the signature, all can be written
pub record AreNamesOf (s : StateView) (names : List (List ℕ)) : Type 0 where
  pub few : length names ≤ length s.preds
  pub apart : (i j : ℕ) (name : List ℕ) → slice_get names i ≡ Some name → slice_get names j ≡ Some name → i ≡ j
  pub free : IsTrue (list_all (λ name. not (is_fixed_name name) && not (has_name (function_names s.sig) name)) names)
  pub writable : IsTrue (list_all is_writable_name (names ++ signature_names s.sig))
