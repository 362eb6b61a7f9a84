-- Functions by recursion over trees at each variant, and induction over trees.
use Rattle.std.proofs.Common.{◌≡◌, ℕ, ℤ, List, [], ◌∷◌, map, ap, sym, subst, ◌∙◌}
use Rattle.std.specs.List.{AllByRecursion}
use Rattle.chc_sexpr.specs.declared.tree.Tree.{Tree}
use Rattle.chc_sexpr.specs.declared.tree.Tree.TheOpen.{Tree-F}
use Rattle.chc_sexpr.specs.declared.tree.Tree.TheVariants.{Symbol, Word, Keyword, Numeral, Text, Other, Group, rolls-Symbol, rolls-Word, rolls-Keyword, rolls-Numeral, rolls-Text, rolls-Other, rolls-Group}
use Rattle.chc_sexpr.specs.declared.tree.Tree.TheViews.{roll-Tree}
use Rattle.chc_sexpr.specs.declared.tree.Tree.TheFolds.{map-Tree, fold-Tree, fold-roll-Tree, para-Tree, para-roll-Tree, ind-Tree}

-- a fold at each variant
module _ (A : Type 0) (step : Tree-F A → A) where
  pub fold-Symbol : (place : ℕ) (bytes : List ℕ) → fold-Tree A step (Symbol place bytes) ≡ step (Tree-F.Symbol place bytes)
  fold-Symbol place bytes = ap (fold-Tree A step) (sym (rolls-Symbol place bytes)) ∙ fold-roll-Tree A step (Tree-F.Symbol place bytes)

  pub fold-Word : (place : ℕ) (bytes : List ℕ) → fold-Tree A step (Word place bytes) ≡ step (Tree-F.Word place bytes)
  fold-Word place bytes = ap (fold-Tree A step) (sym (rolls-Word place bytes)) ∙ fold-roll-Tree A step (Tree-F.Word place bytes)

  pub fold-Keyword : (place : ℕ) (bytes : List ℕ) → fold-Tree A step (Keyword place bytes) ≡ step (Tree-F.Keyword place bytes)
  fold-Keyword place bytes = ap (fold-Tree A step) (sym (rolls-Keyword place bytes)) ∙ fold-roll-Tree A step (Tree-F.Keyword place bytes)

  pub fold-Numeral : (place : ℕ) (number : ℤ) → fold-Tree A step (Numeral place number) ≡ step (Tree-F.Numeral place number)
  fold-Numeral place number = ap (fold-Tree A step) (sym (rolls-Numeral place number)) ∙ fold-roll-Tree A step (Tree-F.Numeral place number)

  pub fold-Text : (place : ℕ) (bytes : List ℕ) → fold-Tree A step (Text place bytes) ≡ step (Tree-F.Text place bytes)
  fold-Text place bytes = ap (fold-Tree A step) (sym (rolls-Text place bytes)) ∙ fold-roll-Tree A step (Tree-F.Text place bytes)

  pub fold-Other : (place : ℕ) (bytes : List ℕ) → fold-Tree A step (Other place bytes) ≡ step (Tree-F.Other place bytes)
  fold-Other place bytes = ap (fold-Tree A step) (sym (rolls-Other place bytes)) ∙ fold-roll-Tree A step (Tree-F.Other place bytes)

  pub fold-Group : (place : ℕ) (inner : List Tree) → fold-Tree A step (Group place inner) ≡ step (Tree-F.Group place (map (fold-Tree A step) inner))
  fold-Group place inner = ap (fold-Tree A step) (sym (rolls-Group place inner)) ∙ fold-roll-Tree A step (Tree-F.Group place inner)

-- the same for a step that sees each tree beside its result
module _ (A : Type 0) (step : Tree-F (Tree × A) → A) where
  pub para-Symbol : (place : ℕ) (bytes : List ℕ) → para-Tree A step (Symbol place bytes) ≡ step (Tree-F.Symbol place bytes)
  para-Symbol place bytes = ap (para-Tree A step) (sym (rolls-Symbol place bytes)) ∙ para-roll-Tree A step (Tree-F.Symbol place bytes)

  pub para-Word : (place : ℕ) (bytes : List ℕ) → para-Tree A step (Word place bytes) ≡ step (Tree-F.Word place bytes)
  para-Word place bytes = ap (para-Tree A step) (sym (rolls-Word place bytes)) ∙ para-roll-Tree A step (Tree-F.Word place bytes)

  pub para-Keyword : (place : ℕ) (bytes : List ℕ) → para-Tree A step (Keyword place bytes) ≡ step (Tree-F.Keyword place bytes)
  para-Keyword place bytes = ap (para-Tree A step) (sym (rolls-Keyword place bytes)) ∙ para-roll-Tree A step (Tree-F.Keyword place bytes)

  pub para-Numeral : (place : ℕ) (number : ℤ) → para-Tree A step (Numeral place number) ≡ step (Tree-F.Numeral place number)
  para-Numeral place number = ap (para-Tree A step) (sym (rolls-Numeral place number)) ∙ para-roll-Tree A step (Tree-F.Numeral place number)

  pub para-Text : (place : ℕ) (bytes : List ℕ) → para-Tree A step (Text place bytes) ≡ step (Tree-F.Text place bytes)
  para-Text place bytes = ap (para-Tree A step) (sym (rolls-Text place bytes)) ∙ para-roll-Tree A step (Tree-F.Text place bytes)

  pub para-Other : (place : ℕ) (bytes : List ℕ) → para-Tree A step (Other place bytes) ≡ step (Tree-F.Other place bytes)
  para-Other place bytes = ap (para-Tree A step) (sym (rolls-Other place bytes)) ∙ para-roll-Tree A step (Tree-F.Other place bytes)

  pub para-Group : (place : ℕ) (inner : List Tree) → para-Tree A step (Group place inner) ≡ step (Tree-F.Group place (map (λ t. (t, para-Tree A step t)) inner))
  para-Group place inner = ap (para-Tree A step) (sym (rolls-Group place inner)) ∙ para-roll-Tree A step (Tree-F.Group place inner)

-- what shows a fact of every tree: that it holds of each variant, and of a group where it holds of each of its trees
pub record TreeCases (P : Tree → Type 0) : Type 0 where
  pub symbol : (place : ℕ) (bytes : List ℕ) → P (Symbol place bytes)
  pub word : (place : ℕ) (bytes : List ℕ) → P (Word place bytes)
  pub keyword : (place : ℕ) (bytes : List ℕ) → P (Keyword place bytes)
  pub numeral : (place : ℕ) (number : ℤ) → P (Numeral place number)
  pub text : (place : ℕ) (bytes : List ℕ) → P (Text place bytes)
  pub other : (place : ℕ) (bytes : List ℕ) → P (Other place bytes)
  pub group : (place : ℕ) (inner : List Tree) → AllByRecursion P inner → P (Group place inner)

module _ (P : Tree → Type 0) where
  all_held : (ts : List ((t : Tree) × P t)) → AllByRecursion P (map (λ e. e.0) ts)
  all_held [] = tt
  all_held (t ∷ ts) = (t.1, all_held ts)

  at_layer : TreeCases P → (y : Tree-F ((t : Tree) × P t)) → P (roll-Tree (map-Tree ((t : Tree) × P t) Tree (λ e. e.0) y))
  at_layer c (Tree-F.Symbol place bytes) = subst P (sym (rolls-Symbol place bytes)) (c.symbol place bytes)
  at_layer c (Tree-F.Word place bytes) = subst P (sym (rolls-Word place bytes)) (c.word place bytes)
  at_layer c (Tree-F.Keyword place bytes) = subst P (sym (rolls-Keyword place bytes)) (c.keyword place bytes)
  at_layer c (Tree-F.Numeral place number) = subst P (sym (rolls-Numeral place number)) (c.numeral place number)
  at_layer c (Tree-F.Text place bytes) = subst P (sym (rolls-Text place bytes)) (c.text place bytes)
  at_layer c (Tree-F.Other place bytes) = subst P (sym (rolls-Other place bytes)) (c.other place bytes)
  at_layer c (Tree-F.Group place ts) =
      let inner : List Tree = map (λ e. e.0) ts in
      subst P (sym (rolls-Group place inner)) (c.group place inner (all_held ts))

  -- induction over trees
  pub tree_ind : TreeCases P → (t : Tree) → P t
  tree_ind c = ind-Tree P (λ x y is. subst (λ (z : Tree-F Tree). P (roll-Tree z)) is (at_layer c y))

  -- induction over trees, for each of a list
  pub trees_ind : TreeCases P → (ts : List Tree) → AllByRecursion P ts
  trees_ind c [] = tt
  trees_ind c (t ∷ ts) = (tree_ind c t, trees_ind c ts)
