-- What is read beside trees stands for them.
use Rattle.std.proofs.Common.{◌≡◌, ap, subst, refl, arith, ℕ, suc, ◌+◌, ◌≤◌, cond, ltb, List, [], ◌∷◌, length, Some, Ok}
use Rattle.std.specs.List.{AllByRecursion}
use Rattle.std.proofs.lemmas.Bool.{ltb-false}
use Rattle.chc_sexpr.specs.declared.tree.Tree.{Tree}
use Rattle.chc_sexpr.specs.declared.tree.Tree.TheVariants as tree
use Rattle.chc_sexpr.specs.declared.fault.TextFault.{TextFault}
use Rattle.chc_sexpr.specs.declared.fault.Fault.TheVariants.{TooLarge}
use Rattle.chc_sexpr.specs.Shapes.{group_of}
use Rattle.chc_terms.specs.Counts.{size, size_all}
use Rattle.chc_terms.proofs.CountLaws.{size_all-cons}
use Rattle.chc_elab.specs.declared.typed.Typed.{Typed}
use Rattle.chc_elab.specs.Limits.{most_nodes}
use Rattle.chc_elab.specs.Sites.{Site, Setting, Reading, faulty, ◌>>>◌}
use Rattle.chc_elab.specs.Binders.{second_tree}
use Rattle.chc_elab.specs.Reads.{roles_of, read_at, beside, arguments, seconds_read}
use Rattle.chc_elab.specs.Stands.{Stands, StandAll, IsRead, IsWithin, AreFew, Pairs}
use Rattle.chc_elab.specs.Stands as stands
use Rattle.chc_elab.proofs.Readings.{bind_ok, cond_else_ok, ok_same}
use Rattle.chc_elab.proofs.ShapeLaws.{group_of-Group}
use Rattle.chc_elab.proofs.ArgumentLaws.{terms_of}

module _ (setting : Setting) where
  -- each tree stands for its term
  abbrev pub AllStand : Site → List Tree → List Typed → Type 0
  AllStand = StandAll setting IsWithin AreFew

  -- what is read of a tree in each of its roles stands
  pub record Told (t : Tree) : Type 0 where
    pub whole : (site : Site) (v : Typed) → read_at setting t site ≡ Ok v → IsRead setting site t v
    pub second : (site : Site) (s : Tree) (v : Typed) → second_tree (group_of t) ≡ Some s → (roles_of setting t).second site ≡ Ok v → IsRead setting site s v
    pub seconds : (site : Site) (ps : List Tree) (names : List (List ℕ)) (trees : List Tree) (vs : List Typed) → group_of t ≡ Some ps → Pairs ps names trees
        → (roles_of setting t).seconds site ≡ Ok vs → AllStand site trees vs

  pub as_long : (site : Site) (ts : List Tree) (vs : List Typed) → AllStand site ts vs → length ts ≡ length vs
  as_long site ts vs (stands.no_tree site') = refl
  as_long site ts vs (stands.tree_before site' t trees v values is each) = ap suc (as_long site trees values each)

  pub none_stand : (site : Site) (vs : List Typed) → AllStand site [] vs → vs ≡ []
  none_stand site vs (stands.no_tree site') = refl

  pub arguments_told : (place : ℕ) (site : Site) (ts : List Tree) (vs : List Typed) (before : ℕ) → before ≤ most_nodes → AllByRecursion Told ts
      → arguments place site before (beside setting ts) ≡ Ok vs → AllStand site ts vs × (before + size_all (terms_of vs) ≤ most_nodes)
  arguments_told place site [] vs before few told e =
      subst (λ vs. AllStand site [] vs × (before + size_all (terms_of vs) ≤ most_nodes)) (ok_same [] vs e) (stands.no_tree site, none)
    where
      none : before + 0 ≤ most_nodes
      none = omega arith
  arguments_told place site (t ∷ ts) vs before few told e =
      let (v, first, after) = bind_ok (read_at setting t site) (then_rest place site before ts) vs e in
      let (small, rest) = cond_else_ok (ltb most_nodes (before + size v.term)) (arguments place site (before + size v.term) (beside setting ts) >>> (λ rest. Ok (v ∷ rest))) (too_large place) vs after in
      let (values, read, same) = bind_ok (arguments place site (before + size v.term) (beside setting ts)) (λ rest. Ok (v ∷ rest)) vs rest in
      let below : before + size v.term ≤ most_nodes = ltb-false most_nodes (before + size v.term) small in
      let others = arguments_told place site ts values (before + size v.term) below told.1 read in
      let total : size_all (terms_of (v ∷ values)) ≡ size v.term + size_all (terms_of values) = size_all-cons v.term (terms_of values) in
      let within : before + size v.term + size_all (terms_of values) ≤ most_nodes = others.1 in
      let all : before + size_all (terms_of (v ∷ values)) ≤ most_nodes = omega arith in
      subst (λ vs. AllStand site (t ∷ ts) vs × (before + size_all (terms_of vs) ≤ most_nodes)) (ok_same (v ∷ values) vs same)
      (stands.tree_before site t ts v values (told.0.whole site v first) others.0, all)
    where
      too_large : ℕ → TextFault
      too_large place = record { place = place; fault = TooLarge; name = [] }

      then_rest : ℕ → Site → ℕ → List Tree → Typed → Reading (List Typed)
      then_rest place site before ts first =
          cond (ltb most_nodes (before + size first.term)) (faulty place TooLarge []) (arguments place site (before + size first.term) (beside setting ts) >>> (λ rest. Ok (first ∷ rest)))

  pub seconds_told : (site : Site) (ps : List Tree) (names : List (List ℕ)) (trees : List Tree) (vs : List Typed) → Pairs ps names trees → AllByRecursion Told ps
      → seconds_read (beside setting ps) site ≡ Ok vs → AllStand site trees vs
  seconds_told site ps names trees vs stands.no_pair told e = subst (AllStand site []) (ok_same [] vs e) (stands.no_tree site)
  seconds_told site ps names trees vs (stands.pair_before place at name t pairs names' trees' rest) told e =
      let pair = tree.Group place (tree.Symbol at name ∷ t ∷ []) in
      let (v, first, after) = bind_ok ((roles_of setting pair).second site) (λ first. seconds_read (beside setting pairs) site >>> (λ rest. Ok (first ∷ rest))) vs e in
      let (values, read, same) = bind_ok (seconds_read (beside setting pairs) site) (λ rest. Ok (v ∷ rest)) vs after in
      let behind = ap second_tree (group_of-Group place (tree.Symbol at name ∷ t ∷ [])) in
      subst (AllStand site (t ∷ trees')) (ok_same (v ∷ values) vs same)
      (stands.tree_before site t trees' v values (told.0.second site t v behind first) (seconds_told site pairs names' trees' values rest told.1 read))
