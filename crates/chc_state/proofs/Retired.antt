-- Predicates that are live, and those that no longer are.
use Rattle.std.proofs.Common.{◌≡◌, ℕ, zero, suc, ◌+◌, Bool, true, false, not, ◌&&◌, List, [], ◌∷◌, length, Some, None, refl, sym, ap, ◌∙◌, arith, add-zero}
use Rattle.std.specs.Prelude.{slice_get}
use Rattle.std.proofs.lemmas.Bool.{false≢true}
use Rattle.chc_state.specs.declared.clause.PredDecl.{PredDecl}
use Rattle.chc_state.specs.States.{is_live}
use Rattle.chc_state.specs.PredSets.{PredSet, retired}
use Rattle.chc_state.proofs.Places.{same_element}

pub length-retired : (gone : PredSet) (n : ℕ) (ds : List PredDecl) → length (retired gone n ds) ≡ length ds
length-retired gone n [] = refl
length-retired gone n (d ∷ ds) = ap suc (length-retired gone (n + 1) ds)

-- what a state has at a place whose predicates are no longer live
pub at-retired : (gone : PredSet) (n : ℕ) (ds : List PredDecl) (q : ℕ) (d : PredDecl) → slice_get ds q ≡ Some d
    → slice_get (retired gone n ds) q ≡ Some (record { sorts = d.sorts; live = d.live && not (gone (n + q)) })
at-retired gone n [] q d e = absurd (none_some d e)
  where
    none_some : (d : PredDecl) → None ≡ Some d → ⊥
    none_some d e = cc
at-retired gone n (x ∷ ds) zero d e = ap (λ (y : PredDecl). Some (record { sorts = y.sorts; live = y.live && not (gone n) })) (same_element x d e) ∙ ap (λ k. Some (record { sorts = d.sorts; live = d.live && not (gone k) })) (sym (add-zero n))
at-retired gone n (x ∷ ds) (suc q) d e =
    let k : n + 1 + q ≡ n + suc q = omega arith in
    at-retired gone (n + 1) ds q d e ∙ ap (λ j. Some (record { sorts = d.sorts; live = d.live && not (gone j) })) k

-- sets that agree on a number
pub retired-alike : (gone other : PredSet) (n : ℕ) (ds : List PredDecl) (q : ℕ) → gone (n + q) ≡ other (n + q) → slice_get (retired gone n ds) q ≡ slice_get (retired other n ds) q
retired-alike gone other n [] q e = refl
retired-alike gone other n (x ∷ ds) zero e = let h : gone n ≡ other n = ap gone (sym (add-zero n)) ∙ e ∙ ap other (add-zero n) in ap (λ b. Some (record { sorts = x.sorts; live = x.live && not b })) h
retired-alike gone other n (x ∷ ds) (suc q) e = let k : n + 1 + q ≡ n + suc q = omega arith in retired-alike gone other (n + 1) ds q (ap gone k ∙ e ∙ sym (ap other k))

-- nothing is retired
pub retired-nothing : (n : ℕ) (ds : List PredDecl) → retired (λ p. false) n ds ≡ ds
retired-nothing n [] = refl
retired-nothing n (d ∷ ds) = let same = still d.live in let rest = retired-nothing (n + 1) ds in λ i. record { sorts = d.sorts; live = same i } ∷ rest i
  where
    still : (b : Bool) → (b && true) ≡ b
    still true = refl
    still false = refl

-- a live predicate's declaration
pub record LiveAt (ds : List PredDecl) (p : ℕ) : Type 0 where
  pub decl : PredDecl
  pub at : slice_get ds p ≡ Some decl
  pub live : decl.live ≡ true

pub LiveAt-is_live : (ds : List PredDecl) (p : ℕ) → is_live ds p ≡ true → LiveAt ds p
LiveAt-is_live [] p h = absurd (false≢true h)
LiveAt-is_live (d ∷ ds) zero h = record { decl = d; at = refl; live = h }
LiveAt-is_live (d ∷ ds) (suc p) h = let found = LiveAt-is_live ds p h in record { decl = found.decl; at = found.at; live = found.live }
