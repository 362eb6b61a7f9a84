-- What the spelling of a tree is, at each variant.
use Rattle.std.proofs.Common.{◌≡◌, ℕ, ◌+◌, ℤ, Bool, false, List, [], ◌∷◌, ◌++◌, length, map, ap, sym, subst, refl, ◌∙◌}
use Rattle.std.specs.Prelude.{IsTrue}
use Rattle.chc_sexpr.specs.Spelling.{is_gap, EachSpelled, LevelSpelled, TreeSpelled}
use Rattle.chc_sexpr.specs.declared.tree.Tree.{Tree}
use Rattle.chc_sexpr.specs.declared.tree.Tree.TheOpen.{Tree-F}
use Rattle.chc_sexpr.specs.declared.tree.Tree.TheVariants.{Symbol, Word, Keyword, Numeral, Text, Other, Group, rolls-Symbol, rolls-Word, rolls-Keyword, rolls-Numeral, rolls-Text, rolls-Other, rolls-Group}
use Rattle.chc_sexpr.specs.declared.tree.Tree.TheViews.{roll-Tree}
use Rattle.chc_sexpr.specs.declared.tree.Tree.TheFolds.{map-Tree, rec-roll-Tree}

abbrev pub Spelling : Type 1
Spelling = ℕ → List ℕ → List ℕ → Type 0

each_natural : (X : Type 0) (v : X → Tree) (k : Tree → Spelling) (ends : Bool) (xs : List X) (place : ℕ) (bs : List ℕ) →
    EachSpelled (λ p. k (v p)) ends xs place bs ≡ EachSpelled k ends (map v xs) place bs
each_natural X v k ends [] place bs = refl
each_natural X v k ends (x ∷ xs) place bs = λ i.
    (gap text after : List ℕ) × (bs ≡ gap ++ text ++ after) × IsTrue (is_gap gap)
    × k (v x) (place + length gap) text after × each_natural X v k ends xs (place + length gap + length text) after i

natural : (X : Type 0) (v : X → Tree) (k : Tree → Spelling) (x : Tree-F X) → LevelSpelled (λ p. k (v p)) x ≡ LevelSpelled k (map-Tree X Tree v x)
natural X v k (Tree-F.Symbol at name) = refl
natural X v k (Tree-F.Word at name) = refl
natural X v k (Tree-F.Keyword at name) = refl
natural X v k (Tree-F.Numeral at number) = refl
natural X v k (Tree-F.Text at bytes) = refl
natural X v k (Tree-F.Other at bytes) = refl
natural X v k (Tree-F.Group at xs) = λ i place text after.
    (at ≡ place) × (inner : List ℕ) × (text ≡ 40 ∷ inner ++ 41 ∷ []) × each_natural X v k false xs (place + 1) inner i

spelled_roll : (d : Tree-F Tree) → TreeSpelled (roll-Tree d) ≡ LevelSpelled TreeSpelled d
spelled_roll d = rec-roll-Tree Spelling (λ X whole spelled level. LevelSpelled spelled level) natural d

-- the spelling of a tree is that of its level
pub spelled-Symbol : (at : ℕ) (name : List ℕ) → TreeSpelled (Symbol at name) ≡ LevelSpelled TreeSpelled (Tree-F.Symbol at name)
spelled-Symbol at name = ap TreeSpelled (sym (rolls-Symbol at name)) ∙ spelled_roll (Tree-F.Symbol at name)

pub spelled-Word : (at : ℕ) (name : List ℕ) → TreeSpelled (Word at name) ≡ LevelSpelled TreeSpelled (Tree-F.Word at name)
spelled-Word at name = ap TreeSpelled (sym (rolls-Word at name)) ∙ spelled_roll (Tree-F.Word at name)

pub spelled-Keyword : (at : ℕ) (name : List ℕ) → TreeSpelled (Keyword at name) ≡ LevelSpelled TreeSpelled (Tree-F.Keyword at name)
spelled-Keyword at name = ap TreeSpelled (sym (rolls-Keyword at name)) ∙ spelled_roll (Tree-F.Keyword at name)

pub spelled-Numeral : (at : ℕ) (number : ℤ) → TreeSpelled (Numeral at number) ≡ LevelSpelled TreeSpelled (Tree-F.Numeral at number)
spelled-Numeral at number = ap TreeSpelled (sym (rolls-Numeral at number)) ∙ spelled_roll (Tree-F.Numeral at number)

pub spelled-Text : (at : ℕ) (bytes : List ℕ) → TreeSpelled (Text at bytes) ≡ LevelSpelled TreeSpelled (Tree-F.Text at bytes)
spelled-Text at bytes = ap TreeSpelled (sym (rolls-Text at bytes)) ∙ spelled_roll (Tree-F.Text at bytes)

pub spelled-Other : (at : ℕ) (bytes : List ℕ) → TreeSpelled (Other at bytes) ≡ LevelSpelled TreeSpelled (Tree-F.Other at bytes)
spelled-Other at bytes = ap TreeSpelled (sym (rolls-Other at bytes)) ∙ spelled_roll (Tree-F.Other at bytes)

pub spelled-Group : (at : ℕ) (inner : List Tree) → TreeSpelled (Group at inner) ≡ LevelSpelled TreeSpelled (Tree-F.Group at inner)
spelled-Group at inner = ap TreeSpelled (sym (rolls-Group at inner)) ∙ spelled_roll (Tree-F.Group at inner)

-- from the one to the other
pub opened : {R S : Spelling} → R ≡ S → (place : ℕ) (text after : List ℕ) → R place text after → S place text after
opened e place text after h = subst (λ (T : Spelling). T place text after) e h

pub shut : {R S : Spelling} → R ≡ S → (place : ℕ) (text after : List ℕ) → S place text after → R place text after
shut e place text after h = subst (λ (T : Spelling). T place text after) (sym e) h
