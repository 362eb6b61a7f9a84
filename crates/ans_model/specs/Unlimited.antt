-- What a text says where neither the sizes of definitions nor their number are limited.
use Rattle.std.specs.Prelude.{◌≡◌, ℕ, ◌+◌, ◌≤◌, IsTrue, List, [], ◌∷◌, Some, None, Ok, codes, slice_get}
use Rattle.chc_sexpr.specs.declared.tree.Tree.{Tree, out-Tree}
use Rattle.chc_sexpr.specs.declared.tree.Tree.TheVariants.{Symbol, Group}
use Rattle.chc_sexpr.specs.Spelling.{Spells}
use Rattle.chc_terms.specs.Counts.{depth}
use Rattle.chc_terms.specs.Numbers.{numbers_fit}
use Rattle.chc_elab.specs.Binders.{apart_after, outer_site, pair_names, second_trees, sorts_of_trees}
use Rattle.chc_elab.specs.Heads.{sort_tree}
use Rattle.chc_elab.specs.SortTrees.{place_at}
use Rattle.chc_elab.specs.Stands.{IsSaid}
use Rattle.chc_print.specs.Helpers.{NamesPredicates}
use Rattle.chc_state.specs.declared.defs.Def.{Def}
use Rattle.chc_state.specs.declared.defs.Defs.{Defs}
use Rattle.chc_state.specs.States.{StateView}
use Rattle.ans_model.specs.declared.draft.Draft.{Draft}
use Rattle.ans_model.specs.Defining.{new_name}
use Rattle.ans_model.specs.Drafts.{TargetView, fresh, missing_from, owner, placed, setting}
use Rattle.ans_model.specs.Forms.{FormView, definition_form, without_model}

module _ (target : TargetView) where
  -- the form is that of the definition over those so far: its body stands for the definition's, whatever its size
  pub record IsFormOf (d : Draft) (f : FormView) (def : Def) : Type 0 where
    pub names : List (List ℕ)
    pub named : apart_after [] (pair_names f.params) ≡ Ok names
    pub params : sorts_of_trees (setting target d) (second_trees f.params) ≡ Ok def.params
    pub values : sort_tree (setting target d) f.values ≡ Ok def.result
    pub body : IsSaid (setting target d) (outer_site names def.params) f.body (record { term = def.body; sort = def.result })

  -- the tree has the form of a definition of a new name, with which the one draft becomes the other
  pub record SaysNext (d e : Draft) (t : Tree) : Type 0 where
    pub form : FormView
    pub def : Def
    pub is : definition_form t ≡ Some form
    pub new : new_name (setting target d) (place_at (out-Tree t)) form.name ≡ Ok tt
    pub of_form : IsFormOf d form def
    pub placed_there : placed target d (place_at (out-Tree t)) form.name def (owner target form.name) ≡ Ok e

  -- the trees have such forms, with which the one draft becomes the other
  abbrev pub SayAll : Draft → Draft → List Tree → Type 0
  SayAll d e [] = d ≡ e
  SayAll d e (t ∷ ts) = (next : Draft) × SaysNext d next t × SayAll next e ts

-- the bytes spell `sat` and a group of definitions; these are the definitions that it says for a state with these names of
-- its script's predicates, and no live predicate is missing among them
pub record SaysUnlimited (s : StateView) (names : List (List ℕ)) (bytes : List ℕ) (d : Defs) : Type 0 where
  pub all : List (List ℕ)
  pub sat : ℕ
  pub group : ℕ
  pub inner : List Tree
  pub last : Draft
  pub spelled : Spells bytes (Symbol sat (codes "sat") ∷ Group group inner ∷ [])
  pub named : NamesPredicates s names all
  pub said : SayAll (record { state = s; names = all }) (fresh (record { state = s; names = all })) last (without_model inner)
  pub these : last.defs ≡ d
  pub whole : missing_from d.of 0 s.preds ≡ None

-- the text of each body has no more than 1,000 groups within one another, among those around it, and its numbers are in range
pub record CanBeSpelled (d : Defs) : Type 0 where
  pub levels : (k : ℕ) (def : Def) → slice_get d.list k ≡ Some def → depth def.body + 19 ≤ 1000
  pub numbers : (k : ℕ) (def : Def) → slice_get d.list k ≡ Some def → IsTrue (numbers_fit def.body)
