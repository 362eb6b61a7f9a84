-- When the text of a term is read as the term again.
use Rattle.std.specs.Prelude.{◌≡◌, ℕ, ◌+◌, ◌≤◌, ◌^◌, true, List, [], ◌∷◌, length, Some}
use Rattle.std.specs.List.{list_all}
use Rattle.chc_sorts.specs.declared.sort.Sort.{Sort}
use Rattle.chc_sexpr.specs.Spelling.{Spells}
use Rattle.chc_sexpr.specs.declared.tree.Tree.{Tree}
use Rattle.chc_terms.specs.declared.term.Term.{Term}
use Rattle.chc_terms.specs.Counts.{size, depth}
use Rattle.chc_terms.specs.Numbers.{numbers_fit}
use Rattle.chc_terms.specs.Sorted.{Context, sort_of, sorts_of, sorts_fit}
use Rattle.chc_state.specs.States.{StateView}
use Rattle.chc_print.specs.Reach.{term_reach}
use Rattle.chc_print.specs.Script.{names_over}
use Rattle.chc_print.specs.Texts.{term_text}
use Rattle.chc_elab.specs.Limits.{most_nodes, most_levels}
use Rattle.chc_elab.specs.Sites.{Setting}
use Rattle.chc_elab.specs.Stands.{IsRead, IsSaid}
use Rattle.term_again.specs.Bound.{most_bound}
use Rattle.term_again.specs.Naming.{AreNamedFor, IsNamedContext, numbered_site}

-- a term of the sort under variables of these sorts, with sorts and numbers that can be written
pub record CanBeWritten (cx : Context) (vars : List Sort) (t : Term) (s : Sort) : Type 0 where
  pub sorted : sort_of cx t vars ≡ Some s
  pub fitting : sorts_fit cx.sig t ≡ true
  pub numbers : numbers_fit t ≡ true

-- terms of these sorts, with sorts and numbers that can be written
pub record CanAllBeWritten (cx : Context) (vars : List Sort) (ts : List Term) (ss : List Sort) : Type 0 where
  pub sorted : sorts_of cx ts vars ≡ Some ss
  pub fitting : list_all (sorts_fit cx.sig) ts ≡ true
  pub numbers : list_all numbers_fit ts ≡ true

-- a term that can be written names datatypes of its context alone
abbrev pub WrittenIsNear : Type 0
WrittenIsNear = (cx : Context) (vars : List Sort) (t : Term) (of : Sort) → CanBeWritten cx vars t of → term_reach t ≤ length cx.sig.datatypes

-- a term over the context under variables of these sorts, which names the first datatypes alone
pub record IsTermOver (cx : Context) (setting : Setting) (vars : List Sort) (t : Term) (of : Sort) : Type 0 where
  pub can : CanBeWritten cx vars t of
  pub near : term_reach t ≤ length setting.sig.datatypes
  pub few : length vars + most_bound t ≤ 2 ^ 64

-- a text that spells one tree of that kind
abbrev pub SpellsOne : List ℕ → (Tree → Type 0) → Type 0
SpellsOne text kind = (tree : Tree) × Spells text (tree ∷ []) × kind tree

-- the text of a term spells one tree, which is read as the term where that is within the limits
abbrev pub TermsAreReadAgain : Type 0
TermsAreReadAgain =
    (s : StateView) (preds all calls : List (List ℕ)) (prefix : List ℕ) (setting : Setting) → AreNamedFor s preds prefix setting
    → (cx : Context) → IsNamedContext s all calls prefix setting cx
    → (vars : List Sort) (t : Term) (of : Sort) → IsTermOver cx setting vars t of → (size t ≤ most_nodes) × (depth t ≤ most_levels)
    → SpellsOne (term_text (names_over s all calls prefix) t (length vars)) (λ tree. IsRead setting (numbered_site prefix vars) tree (record { term = t; sort = of }))

-- the text of a term that isn't too deep to be spelled is one tree, which stands for the term whatever its size
abbrev pub TermsAreSaidAgain : Type 0
TermsAreSaidAgain =
    (s : StateView) (preds all calls : List (List ℕ)) (prefix : List ℕ) (setting : Setting) → AreNamedFor s preds prefix setting
    → (cx : Context) → IsNamedContext s all calls prefix setting cx
    → (vars : List Sort) (t : Term) (of : Sort) → IsTermOver cx setting vars t of → depth t ≤ 983
    → SpellsOne (term_text (names_over s all calls prefix) t (length vars)) (λ tree. IsSaid setting (numbered_site prefix vars) tree (record { term = t; sort = of }))
