-- What stays as it is while steps are taken.
use Rattle.std.proofs.Common.{◌≡◌, ℕ, List, length, arith, subst, sym}
use Rattle.std.specs.Prelude.{IsTrue, not, ◌&&◌, ◌++◌}
use Rattle.std.specs.List.{list_all}
use Rattle.chc_sorts.specs.Signature.{Signature}
use Rattle.chc_sorts.specs.Names.{has_name}
use Rattle.chc_sorts.specs.Functions.{function_names}
use Rattle.chc_state.specs.States.{StateView}
use Rattle.chc_state.specs.Names.{AreNamesOf, is_fixed_name, is_writable_name, signature_names}

-- names of a state's predicates are those of a state with its signature and as many predicates
pub names_kept : (s z : StateView) (names : List (List ℕ)) → z.sig ≡ s.sig → length z.preds ≡ length s.preds → AreNamesOf s names → AreNamesOf z names
names_kept s z names sig many h =
    let Free : Signature → Type 0 = λ x. IsTrue (list_all (λ name. not (is_fixed_name name) && not (has_name (function_names x) name)) names) in
    let Writable : Signature → Type 0 = λ x. IsTrue (list_all is_writable_name (names ++ signature_names x)) in
    record { few = omega (arith, h.few, many); apart = h.apart; free = subst Free (sym sig) h.free; writable = subst Writable (sym sig) h.writable }
