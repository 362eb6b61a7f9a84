-- How deep trees and drafts are.
use Rattle.std.proofs.Common.{◌≡◌, ℕ, ◌+◌, ◌≤◌, ◌<◌, max, List, [], ◌∷◌, ◌++◌, length, ap, arith}
use Rattle.chc_sexpr.specs.Trees.{depth, depth_step, depth_all, most_open}
use Rattle.chc_sexpr.specs.Drafts.{Completes, AreShallow}
use Rattle.chc_sexpr.specs.declared.draft.OpenGroup.{OpenGroup}
use Rattle.chc_sexpr.specs.declared.tree.Tree.{Tree}
use Rattle.chc_sexpr.specs.declared.tree.Tree.TheVariants.{Group}
use Rattle.chc_sexpr.proofs.Folds.{fold-Group}

-- trees side by side are as deep as the deeper of two parts
pub depth_all-append : (xs ys : List Tree) → depth_all (xs ++ ys) ≡ max (depth_all xs) (depth_all ys)
depth_all-append [] ys = omega arith
depth_all-append (x ∷ xs) ys = omega (arith, depth_all-append xs ys)

-- what stands in a group that is open
grows : (before : List Tree) (place : ℕ) (trees more : List Tree) → depth_all trees + 1 ≤ depth_all (before ++ Group place (trees ++ more) ∷ [])
grows before place trees more =
    omega (arith, depth_all-append before (Group place (trees ++ more) ∷ []), fold-Group ℕ depth_step place (trees ++ more), depth_all-append trees more)

-- trees that are completed are as deep as the groups that were open and the trees in the innermost
pub depth_open : (gs : List OpenGroup) (trees : List Tree) (place : ℕ) (rest : List ℕ) (all : List Tree) → Completes gs trees place rest all → depth_all trees + length gs ≤ depth_all all
depth_open [] trees place rest all (more, e, each) = omega (arith, depth_all-append trees more, ap depth_all e)
depth_open (g ∷ gs) trees place rest all (more, inner, after, e, each, then) =
    omega (arith, grows g.before g.place trees more, depth_open gs (g.before ++ Group g.place (trees ++ more) ∷ []) (place + length inner + 1) after all then)

-- how many groups are open in a shallow draft
shallow_open : (gs : List OpenGroup) (trees : List Tree) → AreShallow gs trees → depth_all trees + length gs ≤ most_open
shallow_open [] trees s = omega (arith, s)
shallow_open (g ∷ gs) trees s = s.0

shallow_from : (gs : List OpenGroup) (old new : List Tree) → AreShallow gs old → depth_all new + length gs ≤ most_open → AreShallow gs new
shallow_from [] old new s h = omega arith
shallow_from (g ∷ gs) old new s h = (h, s.1)

-- a token makes a draft no deeper
pub shallow_add : (gs : List OpenGroup) (trees : List Tree) (tree : Tree) → depth tree ≡ 0 → AreShallow gs trees → AreShallow gs (trees ++ tree ∷ [])
shallow_add gs trees tree d s = shallow_from gs trees (trees ++ tree ∷ []) s (omega (arith, depth_all-append trees (tree ∷ []), shallow_open gs trees s, d))

pub shallow_open_group : (gs : List OpenGroup) (trees : List Tree) (place : ℕ) → length gs < most_open → AreShallow gs trees → AreShallow (record { place = place; before = trees } ∷ gs) []
shallow_open_group gs trees place few s = (omega arith, s)

pub shallow_close : (gs : List OpenGroup) (g : OpenGroup) (trees : List Tree) → AreShallow (g ∷ gs) trees → AreShallow gs (g.before ++ Group g.place trees ∷ [])
shallow_close gs g trees s =
    shallow_from gs g.before (g.before ++ Group g.place trees ∷ []) s.1
    (omega (arith, depth_all-append g.before (Group g.place trees ∷ []), fold-Group ℕ depth_step g.place trees, s.0, shallow_open gs g.before s.1))
