-- The parts that are left after a slice are those of the state after it.
use Rattle.std.proofs.Common.{◌≡◌, ℕ, Bool, not, List, length, ap, ◌∙◌}
use Rattle.std.proofs.Math.Path.{fun_ext}
use Rattle.std.specs.List.{filter}
use Rattle.chc_sorts.specs.Signature.{Signature}
use Rattle.chc_state.specs.declared.clause.Clause.{Clause}
use Rattle.chc_state.specs.declared.clause.PredDecl.{PredDecl}
use Rattle.pass_slice.specs.Slices.{Slice, without, sliced}
use Rattle.chc_state.specs.States.{StateView}
use Rattle.chc_state.specs.PredSets.{PredSet, set_of, retired}
use Rattle.pass_slice.specs.Tables.{marked}
use Rattle.chc_state.proofs.Retired.{length-retired}

same_set : (ps : List ℕ) (table other : List Bool) → ((p : ℕ) → marked table p ≡ set_of ps p) → other ≡ table → marked other ≡ set_of ps
same_set ps table other same e = ap marked e ∙ fun_ext same

-- what is left, as the tables tell it
pub record Left (gone : PredSet → Clause → Bool) (s : StateView) (ps : List ℕ) (z : StateView) : Type 0 where
  pub table : List Bool
  pub clauses_table : List Bool
  pub preds_table : List Bool
  pub was : StateView
  pub same : (p : ℕ) → marked table p ≡ set_of ps p
  pub one : clauses_table ≡ table
  pub two : preds_table ≡ table
  pub parts : was ≡ s
  pub sig : z.sig ≡ was.sig
  pub clauses : z.clauses ≡ filter (λ c. not (gone (marked clauses_table) c)) was.clauses
  pub preds : z.preds ≡ retired (marked preds_table) 0 was.preds

abbrev view : Signature → List PredDecl → List Clause → StateView
view sig preds clauses = record { sig = sig; preds = preds; clauses = clauses }

view_is : (a b : StateView) → a.sig ≡ b.sig → a.preds ≡ b.preds → a.clauses ≡ b.clauses → a ≡ b
view_is a b x y z =
    ap (λ (sig : Signature). view sig a.preds a.clauses) x ∙ ap (λ (ds : List PredDecl). view b.sig ds a.clauses) y ∙ ap (λ (cs : List Clause). view b.sig b.preds cs) z

pub left_is : (gone : PredSet → Clause → Bool) (s : StateView) (ps : List ℕ) (z : StateView) → Left gone s ps z → z ≡ without (set_of ps) (gone (set_of ps)) s
left_is gone s ps z h =
    view_is z (without (set_of ps) (gone (set_of ps)) s)
    (h.sig ∙ ap (λ (v : StateView). v.sig) h.parts)
    (h.preds ∙ ap (λ (f : PredSet). retired f 0 h.was.preds) (same_set ps h.table h.preds_table h.same h.two) ∙ ap (λ (v : StateView). retired (set_of ps) 0 v.preds) h.parts)
    (h.clauses ∙ ap (λ (f : PredSet). filter (λ c. not (gone f c)) h.was.clauses) (same_set ps h.table h.clauses_table h.same h.one)
    ∙ ap (λ (v : StateView). filter (λ c. not (gone (set_of ps) c)) v.clauses) h.parts)

pub length-sliced : (x : Slice) (s : StateView) (ps : List ℕ) → length (sliced x s ps).preds ≡ length s.preds
length-sliced x s ps = length-retired (set_of ps) 0 s.preds
