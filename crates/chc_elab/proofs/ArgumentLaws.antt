-- Trees that are read as these terms, one by one.
use Rattle.std.proofs.Common.{◌≡◌, ◌∙◌, ap, refl, arith, ℕ, suc, ◌+◌, ◌≤◌, cond, ltb, List, [], ◌∷◌, length, map, Ok}
use Rattle.std.proofs.lemmas.Bool.{le-ltb}
use Rattle.chc_sexpr.specs.declared.tree.Tree.{Tree}
use Rattle.chc_sexpr.specs.declared.tree.Tree.TheVariants as tree
use Rattle.chc_sexpr.specs.declared.fault.Fault.TheVariants.{TooLarge}
use Rattle.chc_terms.specs.declared.term.Term.{Term}
use Rattle.chc_terms.specs.Counts.{size, size_all}
use Rattle.chc_terms.proofs.CountLaws.{size_all-cons}
use Rattle.chc_elab.specs.declared.typed.Typed.{Typed}
use Rattle.chc_elab.specs.Limits.{most_nodes}
use Rattle.chc_elab.specs.Sites.{Site, Setting, Reading, faulty, ◌>>>◌}
use Rattle.chc_elab.specs.Reads.{read_at, beside, trees_of, arguments, seconds_read}
use Rattle.chc_elab.specs.Stands.{Pairs}
use Rattle.chc_elab.specs.Stands as stands
use Rattle.chc_elab.proofs.Readings.{bind_of}
use Rattle.chc_elab.proofs.RoleLaws.{second-Group}

-- the terms without their sorts
abbrev pub terms_of : List Typed → List Term
terms_of vs = map (λ (v : Typed). v.term) vs

-- each tree is read as its term
abbrev pub AreRead : Setting → Site → List Tree → List Typed → Type 0
AreRead setting site [] [] = Unit
AreRead setting site [] (v ∷ vs) = ⊥
AreRead setting site (t ∷ ts) [] = ⊥
AreRead setting site (t ∷ ts) (v ∷ vs) = (read_at setting t site ≡ Ok v) × AreRead setting site ts vs

module _ (setting : Setting) where
  pub trees_of-beside : (ts : List Tree) → trees_of (beside setting ts) ≡ ts
  trees_of-beside [] = refl
  trees_of-beside (t ∷ ts) = ap (λ (us : List Tree). t ∷ us) (trees_of-beside ts)

  pub length-beside : (ts : List Tree) → length (beside setting ts) ≡ length ts
  length-beside [] = refl
  length-beside (t ∷ ts) = ap suc (length-beside ts)

  pub as_many : (site : Site) (ts : List Tree) (vs : List Typed) → AreRead setting site ts vs → length ts ≡ length vs
  as_many site [] [] h = refl
  as_many site [] (v ∷ vs) h = absurd h
  as_many site (t ∷ ts) [] h = absurd h
  as_many site (t ∷ ts) (v ∷ vs) h = ap suc (as_many site ts vs h.1)

  pub arguments_of : (place : ℕ) (site : Site) (ts : List Tree) (vs : List Typed) (before : ℕ) → AreRead setting site ts vs
      → before + size_all (terms_of vs) ≤ most_nodes → arguments place site before (beside setting ts) ≡ Ok vs
  arguments_of place site [] [] before h few = refl
  arguments_of place site [] (v ∷ vs) before h few = absurd h
  arguments_of place site (t ∷ ts) [] before h few = absurd h
  arguments_of place site (t ∷ ts) (v ∷ vs) before h few =
      let total : size_all (terms_of (v ∷ vs)) ≡ size v.term + size_all (terms_of vs) = size_all-cons v.term (terms_of vs) in
      bind_of (read_at setting t site) (argument_then place site before ts) v h.0
      ∙ ap (λ b. cond b (faulty place TooLarge []) (arguments place site (before + size v.term) (beside setting ts) >>> (λ rest. Ok (v ∷ rest))))
      (le-ltb most_nodes (before + size v.term) (omega arith))
      ∙ ap (λ r. r >>> (λ rest. Ok (v ∷ rest))) (arguments_of place site ts vs (before + size v.term) h.1 (omega arith))
    where
      argument_then : ℕ → Site → ℕ → List Tree → Typed → Reading (List Typed)
      argument_then place site before ts first =
          cond (ltb most_nodes (before + size first.term)) (faulty place TooLarge []) (arguments place site (before + size first.term) (beside setting ts) >>> (λ rest. Ok (first ∷ rest)))

  pub seconds_of : (site : Site) (ps : List Tree) (names : List (List ℕ)) (seconds : List Tree) (vs : List Typed) → Pairs ps names seconds
      → AreRead setting site seconds vs → seconds_read (beside setting ps) site ≡ Ok vs
  seconds_of site ps names seconds [] stands.no_pair h = refl
  seconds_of site ps names seconds (v ∷ vs) stands.no_pair h = absurd h
  seconds_of site ps names seconds [] (stands.pair_before place at name t pairs names' seconds' rest) h = absurd h
  seconds_of site ps names seconds (v ∷ vs) (stands.pair_before place at name t pairs names' seconds' rest) h =
      ap (λ r. r >>> (λ first. seconds_read (beside setting pairs) site >>> (λ others. Ok (first ∷ others)))) (second-Group setting place (tree.Symbol at name ∷ t ∷ []) site ∙ h.0)
      ∙ ap (λ r. r >>> (λ others. Ok (v ∷ others))) (seconds_of site pairs names' seconds' vs rest h.1)
