-- A draft's predicates are those of the terms that are read in it, so what is read is well sorted over them.
use Rattle.std.proofs.Common.{◌≡◌, ◌+◌, ℕ, suc, Bool, true, false, ◌&&◌, cond, List, [], ◌∷◌, ◌⊎◌, inl, inr, Option, Some, None, Ok, slice_get, refl, ap, sym, subst, ◌∙◌, arith}
use Rattle.std.specs.Prelude.{IsTrue}
use Rattle.std.specs.Str.{bytes_eq}
use Rattle.chc_sorts.specs.declared.sort.Sort.{Sort}
use Rattle.chc_sorts.specs.declared.sort.Sort.TheVariants as sort
use Rattle.chc_sorts.specs.Names.{look_up}
use Rattle.chc_sorts.specs.Sorts.{same_sort}
use Rattle.chc_sorts.proofs.SameSort.{same_from_test}
use Rattle.chc_sexpr.specs.declared.tree.Tree.{Tree}
use Rattle.chc_terms.specs.declared.fun_sort.FunSort.{FunSort}
use Rattle.chc_terms.specs.Numbers.{numbers_fit}
use Rattle.chc_terms.specs.Sorted.{sort_of, sorts_fit}
use Rattle.chc_elab.specs.declared.symbols.Symbol.{Symbol}
use Rattle.chc_elab.specs.declared.symbols.Symbol.TheVariants as symbol
use Rattle.chc_elab.specs.declared.sorted_term.SortedTerm.{SortedTerm}
use Rattle.chc_elab.specs.Reads.{elaborated_with_sort}
use Rattle.chc_elab.specs.WellRead.{Declares, ReadsWell}
use Rattle.chc_elab.proofs.Readings.{none_some, some_same}
use Rattle.chc_state.specs.declared.clause.PredDecl.{PredDecl}
use Rattle.chc_state.specs.Sorts.{positions}
use Rattle.chc_state.specs.WellFormed.{term_fits}
use Rattle.chc_script.specs.Drafted.{IsCondition}
use Rattle.chc_script.specs.Drafts.{DraftView, setting, symbols_from, symbols_of}
use Rattle.chc_script.specs.HornLaws.{script_context}
use Rattle.chc_script.specs.Spellable.{is_spellable}
use Rattle.chc_script.proofs.SpellableTrees.{numerals_in_range}

-- the number and the sorts of a predicate
same_pred : (p q : ℕ) (ss ts : List Sort) → symbol.Pred p ss ≡ symbol.Pred q ts → (p ≡ q) × (ss ≡ ts)
same_pred p q ss ts e = (cc, cc)

no_def : (p k : ℕ) (ss : List Sort) (f : FunSort) → symbol.Pred p ss ≡ symbol.Def k f → ⊥
no_def p k ss f e = cc

-- what is found is the first row of the name or behind it
behind : (b : Bool) (s : Symbol) (rest : Option Symbol) (found : Symbol) → cond b (Some s) rest ≡ Some found → (s ≡ found) ⊎ (rest ≡ Some found)
behind true s rest found h = inl (some_same s found h)
behind false s rest found h = inr h

-- a predicate that is found has its sorts at its number
abbrev IsAmong : ℕ → List PredDecl → ℕ → List Sort → Type 0
IsAmong n decls p sorts = (k : ℕ) × (p ≡ n + k) × (slice_get (positions decls) k ≡ Some sorts)

later_one : (n : ℕ) (d : PredDecl) (decls : List PredDecl) (p : ℕ) (sorts : List Sort) → IsAmong (n + 1) decls p sorts → IsAmong n (d ∷ decls) p sorts
later_one n d decls p sorts (k, is, at) = (suc k, omega (arith, is), at)

pred_found : (n : ℕ) (names : List (List ℕ)) (decls : List PredDecl) (name : List ℕ) (p : ℕ) (sorts : List Sort)
    → look_up (symbols_from n names decls) name ≡ Some (symbol.Pred p sorts) → IsAmong n decls p sorts
pred_found n [] decls name p sorts h = absurd (none_some (symbol.Pred p sorts) h)
pred_found n (other ∷ names) [] name p sorts h = absurd (none_some (symbol.Pred p sorts) h)
pred_found n (other ∷ names) (d ∷ decls) name p sorts h =
    by (λ e. later_one n d decls p sorts (pred_found (n + 1) names decls name p sorts e))
    (behind (bytes_eq other name) (symbol.Pred n d.sorts) (look_up (symbols_from (n + 1) names decls) name) (symbol.Pred p sorts) h)
  where
    by : (look_up (symbols_from (n + 1) names decls) name ≡ Some (symbol.Pred p sorts) → IsAmong n (d ∷ decls) p sorts)
        → (symbol.Pred n d.sorts ≡ symbol.Pred p sorts) ⊎ (look_up (symbols_from (n + 1) names decls) name ≡ Some (symbol.Pred p sorts)) → IsAmong n (d ∷ decls) p sorts
    by later (inl e) = let (number, same) = same_pred n p d.sorts sorts e in (0, omega (arith, number), ap (λ l. Some l) same)
    by later (inr e) = later e

def_found : (n : ℕ) (names : List (List ℕ)) (decls : List PredDecl) (name : List ℕ) (k : ℕ) (f : FunSort) → look_up (symbols_from n names decls) name ≡ Some (symbol.Def k f) → ⊥
def_found n [] decls name k f h = none_some (symbol.Def k f) h
def_found n (other ∷ names) [] name k f h = none_some (symbol.Def k f) h
def_found n (other ∷ names) (d ∷ decls) name k f h =
    by (λ e. def_found (n + 1) names decls name k f e)
    (behind (bytes_eq other name) (symbol.Pred n d.sorts) (look_up (symbols_from (n + 1) names decls) name) (symbol.Def k f) h)
  where
    by : (look_up (symbols_from (n + 1) names decls) name ≡ Some (symbol.Def k f) → ⊥)
        → (symbol.Pred n d.sorts ≡ symbol.Def k f) ⊎ (look_up (symbols_from (n + 1) names decls) name ≡ Some (symbol.Def k f)) → ⊥
    by later (inl e) = no_def n k d.sorts f e
    by later (inr e) = later e

-- terms of the draft's setting are over its datatypes and predicates
pub draft_declares : (d : DraftView) → Declares (script_context d.sig d.preds.decls) (setting d)
draft_declares d = record {
  sig = refl;
  preds = λ name p sorts h. let (k, is, at) = pred_found 0 d.preds.names d.preds.decls name p sorts h in let same : p ≡ k = omega (arith, is) in ap (slice_get (positions d.preds.decls)) same ∙ at;
  defs = λ name k f h. absurd (def_found 0 d.preds.names d.preds.decls name k f h);
}

module _ (law : ReadsWell) (d : DraftView) (tree : Tree) (t : SortedTerm) (read : elaborated_with_sort (setting d) [] [] tree ≡ Ok t) where
  -- a term of sort Bool that is read is a condition
  pub condition_read : same_sort t.sort sort.Bool ≡ true → IsCondition d.sig d.preds.decls t.term
  condition_read h = (law (setting d) [] [] tree t read).well_sorted (script_context d.sig d.preds.decls) (draft_declares d) ∙ ap (λ s. Some s) (same_from_test t.sort sort.Bool h)

  -- and the sorts that it writes out and its numbers fit
  pub term_read_fits : is_spellable tree ≡ true → term_fits d.sig t.term ≡ true
  term_read_fits h =
      let well = law (setting d) [] [] tree t read in
      ap (λ b. b && numbers_fit t.term) well.fitting_sorts ∙ well.numbers (numerals_in_range tree h)
