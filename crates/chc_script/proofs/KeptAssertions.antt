-- A script whose assertions say its clauses keeps their truth.
use Rattle.std.proofs.Common.{◌≡◌, ℕ, zero, suc, Bool, true, ◌&&◌, List, [], ◌∷◌, Some, slice_get, sym, ap, ◌∙◌}
use Rattle.std.specs.List.{list_all}
use Rattle.std.proofs.lemmas.Bool.{and_parts}
use Rattle.std.proofs.lemmas.Option.{none-some, same_Some}
use Rattle.chc_sorts.specs.WellFounded.{IsWellFounded}
use Rattle.chc_state.specs.declared.clause.PredDecl.{PredDecl}
use Rattle.chc_script.specs.Assertions.{KeepsAssertions}
use Rattle.chc_script.specs.Drafted.{SaysScript}
use Rattle.chc_script.specs.HornLaws.{KeepsTruth}
use Rattle.chc_script.specs.Scripts.{ScriptView}

-- whether the predicate is live
abbrev is_live_decl : PredDecl → Bool
is_live_decl decl = decl.live

live_at : (decls : List PredDecl) → list_all is_live_decl decls ≡ true → (p : ℕ) (decl : PredDecl) → slice_get decls p ≡ Some decl → decl.live ≡ true
live_at [] h p decl at = absurd (none-some decl at)
live_at (d ∷ decls) h zero decl at = ap is_live_decl (sym (same_Some d decl at)) ∙ (and_parts (is_live_decl d) (list_all is_live_decl decls) h).0
live_at (d ∷ decls) h (suc p) decl at = live_at decls (and_parts (is_live_decl d) (list_all is_live_decl decls) h).1 p decl at

pub keeps_assertions : KeepsTruth → (X : ScriptView) → IsWellFounded X.state.sig → list_all is_live_decl X.state.preds ≡ true → SaysScript X → KeepsAssertions X
keeps_assertions law X founded live says = record {
  counts = says.counts;
  clause_true = λ w d world defines k assertion clause at h.
      (law X.state w d world founded defines assertion clause (says.says k assertion clause at)).clause_true h;
  assertion_true = λ w d world defines decided k assertion clause at h.
      (law X.state w d world founded defines assertion clause (says.says k assertion clause at)).assertion_true decided (live_at X.state.preds live) h;
}
