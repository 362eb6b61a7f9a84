-- Numbers make a legal step exactly where they are a choice that meets the condition.
use Rattle.std.proofs.Common.{◌≡◌, ◌≢◌, ◌↔◌, ℕ, Bool, true, List, [], ◌∷◌, None, sym, ap, ◌∙◌}
use Rattle.std.specs.List.{list_all}
use Rattle.std.proofs.Math.Path.{fun_ext}
use Rattle.std.proofs.lemmas.Bool.{and_parts, false≢true}
use Rattle.chc_state.specs.declared.clause.PredDecl.{PredDecl}
use Rattle.pass_slice.specs.Slices.{Slice, is_unreached, is_unneeded, CanGo}
use Rattle.chc_state.specs.States.{StateView, is_live}
use Rattle.chc_state.specs.Limits.{first_passed}
use Rattle.chc_state.specs.PredSets.{PredSet, set_of, is_ascending}
use Rattle.pass_slice.specs.Tables.{marked}
use Rattle.pass_slice.specs.Choices.{is_choice}
use Rattle.pass_slice.proofs.Removing.{within-unreached, within-unneeded}

record Chosen (preds : List PredDecl) (ps : List ℕ) : Type 0 where
  some : ps ≢ []
  ascending : is_ascending ps ≡ true
  live : list_all (is_live preds) ps ≡ true

chosen : (preds : List PredDecl) (ps : List ℕ) → is_choice preds ps ≡ true → Chosen preds ps
chosen preds [] h = absurd (false≢true h)
chosen preds (p ∷ ps) h =
    let b = and_parts (is_ascending (p ∷ ps)) (list_all (is_live preds) (p ∷ ps)) h in
    record { some = λ e. cc; ascending = b.0; live = b.1 }

-- a table of the choice, and whether the condition holds of what is marked there
pub record Looked (s : StateView) (ps : List ℕ) (holds : PredSet → Bool) (met : Bool) : Type 0 where
  pub table : List Bool
  pub within : first_passed s.preds s.clauses ≡ None
  pub choice : is_choice s.preds ps ≡ true
  pub same : (p : ℕ) → marked table p ≡ set_of ps p
  pub meets : met ≡ holds (marked table)

condition_is : (s : StateView) (ps : List ℕ) (holds : PredSet → Bool) (met : Bool) → Looked s ps holds met → met ≡ holds (set_of ps)
condition_is s ps holds met h = h.meets ∙ ap holds (fun_ext h.same)

pub legal_unreached : (s : StateView) (ps : List ℕ) (met : Bool) → Looked s ps (is_unreached s.clauses) met → (met ≡ true) ↔ CanGo Slice.forward s ps
legal_unreached s ps met h =
    let c = chosen s.preds ps h.choice in
    let is = condition_is s ps (is_unreached s.clauses) met h in (
      λ held. record { some = c.some; ascending = c.ascending; live = c.live; meets = sym is ∙ held; within = within-unreached s ps c.some c.live h.within },
      λ legal. is ∙ legal.meets,
    )

pub legal_unneeded : (s : StateView) (ps : List ℕ) (met : Bool) → Looked s ps (is_unneeded s.clauses) met → (met ≡ true) ↔ CanGo Slice.backward s ps
legal_unneeded s ps met h =
    let c = chosen s.preds ps h.choice in
    let is = condition_is s ps (is_unneeded s.clauses) met h in (
      λ held. record { some = c.some; ascending = c.ascending; live = c.live; meets = sym is ∙ held; within = within-unneeded s ps c.some c.live h.within },
      λ legal. is ∙ legal.meets,
    )
