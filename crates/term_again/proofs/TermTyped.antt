-- What trees stand for at the site of numbered variables.
use Rattle.std.proofs.Common.{◌≡◌, sym, ap, subst, ◌∙◌, ℕ, suc, List, [], ◌∷◌, ◌++◌, length, map, Some}
use Rattle.std.proofs.lemmas.List.{append-nil}
use Rattle.chc_sorts.specs.declared.sort.Sort.{Sort}
use Rattle.chc_sexpr.specs.declared.tree.Tree.{Tree}
use Rattle.chc_terms.specs.declared.term.Term.{Term}
use Rattle.chc_print.specs.Texts.{applied}
use Rattle.chc_elab.specs.declared.typed.Typed.{Typed}
use Rattle.chc_elab.specs.Sites.{Setting, lone_symbol}
use Rattle.chc_elab.specs.Stands.{Stands, StandAll}
use Rattle.term_again.specs.Naming.{numbered_site}
use Rattle.term_again.proofs.TermTrees.{IsSymbolOf}

-- a term and its sort
abbrev pub typed : Term → Sort → Typed
typed t s = record { term = t; sort = s }

-- a head alone
pub applied_alone : (name : List ℕ) → applied name [] ≡ name
applied_alone name = append-nil (name ++ []) ∙ append-nil name

module _ (setting : Setting) (prefix : List ℕ) (Fits : Typed → Type 0) (Few : List Typed → Type 0) where
  -- the tree stands for the term of that sort under variables of these sorts
  abbrev pub Reads : List Sort → Term → Sort → Tree → Type 0
  Reads vars t s tree = Stands setting Fits Few (numbered_site prefix vars) tree (typed t s)

  -- under variables of these sorts, the trees stand for the terms of those sorts
  abbrev pub ReadAll : List Sort → List Term → List Sort → List Tree → Type 0
  ReadAll vars ts ss trees =
      (length trees ≡ length ts) × (values : List Typed) × StandAll setting Fits Few (numbered_site prefix vars) trees values
      × (map (λ (a : Typed). a.term) values ≡ ts) × (map (λ (a : Typed). a.sort) values ≡ ss)

  -- a symbol that stands for the term
  pub lone_read : (vars : List Sort) (name : List ℕ) (t : Term) (s : Sort) → lone_symbol setting (numbered_site prefix vars) name ≡ Some (typed t s)
      → (tree : Tree) → IsSymbolOf name tree → Reads vars t s tree
  lone_read vars name t s h tree is = subst (λ u. Reads vars t s u) (sym is.1) (Stands.lone (numbered_site prefix vars) is.0 name (typed t s) h)

  -- one more tree stands for one more term
  pub one_more_read : (vars : List Sort) (t : Term) (s : Sort) (ts : List Term) (rest ss : List Sort) → s ∷ rest ≡ ss
      → (tree : Tree) (trees : List Tree) → Reads vars t s tree → ReadAll vars ts rest trees → ReadAll vars (t ∷ ts) ss (tree ∷ trees)
  one_more_read vars t s ts rest ss e tree trees one more = (
    ap suc more.0,
    typed t s ∷ more.1,
    StandAll.tree_before (numbered_site prefix vars) tree trees (typed t s) more.1 one more.2,
    ap (λ (us : List Term). t ∷ us) more.3,
    ap (λ (us : List Sort). s ∷ us) more.4 ∙ e,
  )
