-- What holds of every term that is read: it is well sorted, within the limits, and made of what the tree and the names give.
use Rattle.std.specs.Prelude.{◌≡◌, ℕ, ℤ, ◌≤◌, Bool, true, false, IsTrue, List, Some, Ok, slice_get}
use Rattle.std.specs.List.{list_all}
use Rattle.chc_sorts.specs.declared.sort.Sort.{Sort}
use Rattle.chc_sorts.specs.Names.{look_up}
use Rattle.chc_sexpr.specs.declared.tree.Tree.{Tree}
use Rattle.chc_sexpr.specs.declared.tree.Tree.TheOpen.{Tree-F}
use Rattle.chc_sexpr.specs.declared.tree.Tree.TheFolds.{fold-Tree}
use Rattle.chc_values.specs.Ranges.{is_int_in_range}
use Rattle.chc_terms.specs.declared.fun_sort.FunSort.{FunSort}
use Rattle.chc_terms.specs.declared.term.Term.{Term, Term-F, fold-Term}
use Rattle.chc_terms.specs.Counts.{size, depth}
use Rattle.chc_terms.specs.Numbers.{numbers_fit}
use Rattle.chc_terms.specs.Sorted.{Context, sort_of, sorts_fit}
use Rattle.chc_elab.specs.declared.symbols.Symbol.TheVariants as symbol
use Rattle.chc_elab.specs.declared.sorted_term.SortedTerm.{SortedTerm}
use Rattle.chc_elab.specs.Limits.{most_nodes, most_levels}
use Rattle.chc_elab.specs.Sites.{Setting}
use Rattle.chc_elab.specs.Reads.{elaborated_with_sort}

-- the context has the setting's datatypes, and each predicate and definition for which a name stands there, with its sorts
pub record Declares (cx : Context) (setting : Setting) : Type 0 where
  pub sig : cx.sig ≡ setting.sig
  pub preds : (name : List ℕ) (p : ℕ) (sorts : List Sort) → look_up setting.symbols name ≡ Some (symbol.Pred p sorts) → slice_get cx.preds p ≡ Some sorts
  pub defs : (name : List ℕ) (k : ℕ) (f : FunSort) → look_up setting.symbols name ≡ Some (symbol.Def k f) → slice_get cx.defs k ≡ Some f

-- no name stands for a definition
abbrev pub NamesNoDefinition : Setting → Type 0
NamesNoDefinition setting = (name : List ℕ) (k : ℕ) (f : FunSort) → look_up setting.symbols name ≡ Some (symbol.Def k f) → ⊥

abbrev pub has_no_call_step : Term-F Bool → Bool
has_no_call_step (Term-F.Var i) = true
has_no_call_step (Term-F.Num n) = true
has_no_call_step (Term-F.Lit b) = true
has_no_call_step (Term-F.App o parts) = list_all (λ b. b) parts
has_no_call_step (Term-F.Pred p parts) = list_all (λ b. b) parts
has_no_call_step (Term-F.Quant k sorts part) = part
has_no_call_step (Term-F.Call k parts) = false

-- whether there is no call of a definition in the term
abbrev pub has_no_call : Term → Bool
has_no_call = fold-Term Bool has_no_call_step

abbrev pub numerals_step : Tree-F Bool → Bool
numerals_step (Tree-F.Symbol place name) = true
numerals_step (Tree-F.Word place word) = true
numerals_step (Tree-F.Keyword place word) = true
numerals_step (Tree-F.Numeral place n) = is_int_in_range n
numerals_step (Tree-F.Text place bytes) = true
numerals_step (Tree-F.Other place token) = true
numerals_step (Tree-F.Group place parts) = list_all (λ b. b) parts

-- whether each numeral in the tree is from -(2^127 - 1) to 2^127 - 1
abbrev pub are_numerals_in_range : Tree → Bool
are_numerals_in_range = fold-Tree Bool numerals_step

-- what holds of a term with its sort that a tree is read as, under variables of these sorts
pub record IsWellRead (setting : Setting) (sorts : List Sort) (tree : Tree) (t : SortedTerm) : Type 0 where
  -- it has its sort wherever the names' predicates and definitions are there
  pub well_sorted : (cx : Context) → Declares cx setting → sort_of cx t.term sorts ≡ Some t.sort
  pub few_nodes : size t.term ≤ most_nodes
  pub few_levels : depth t.term ≤ most_levels
  -- every sort that it writes out fits
  pub fitting_sorts : IsTrue (sorts_fit setting.sig t.term)
  pub no_call : NamesNoDefinition setting → IsTrue (has_no_call t.term)
  pub numbers : IsTrue (are_numerals_in_range tree) → IsTrue (numbers_fit t.term)

-- all of it holds of whatever is read
abbrev pub ReadsWell : Type 0
ReadsWell = (setting : Setting) (names : List (List ℕ)) (sorts : List Sort) (tree : Tree) (t : SortedTerm)
    → elaborated_with_sort setting names sorts tree ≡ Ok t → IsWellRead setting sorts tree t
