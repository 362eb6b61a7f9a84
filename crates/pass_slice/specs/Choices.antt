-- Numbers that a step can remove.
use Rattle.std.specs.Prelude.{ℕ, Bool, false, ◌&&◌, List, [], ◌∷◌}
use Rattle.std.specs.List.{list_all}
use Rattle.chc_state.specs.declared.clause.PredDecl.{PredDecl}
use Rattle.chc_state.specs.States.{is_live}
use Rattle.chc_state.specs.PredSets.{is_ascending}

-- whether these are some numbers, ascending and of live predicates
abbrev pub is_choice : List PredDecl → List ℕ → Bool
is_choice preds [] = false
is_choice preds (p ∷ ps) = is_ascending (p ∷ ps) && list_all (is_live preds) (p ∷ ps)
