-- What is kept of the definitions of an answer so far.
use Rattle.std.specs.Prelude.{◌≡◌, ℕ, ◌+◌, true, List, [], ◌∷◌, length, map, Option, Some, None, slice_get, ⊤}
use Rattle.chc_elab.specs.declared.symbols.Symbol.{Symbol}
use Rattle.chc_elab.specs.declared.symbols.Symbol.TheVariants as symbol
use Rattle.chc_state.specs.declared.clause.PredDecl.{PredDecl}
use Rattle.chc_state.specs.declared.defs.Def.{Def}
use Rattle.chc_state.specs.Definitions.{IsDefinition, IsPredicateOf, fun_sort}
use Rattle.chc_state.specs.States.{StateView}
use Rattle.ans_model.specs.declared.draft.Draft.{Draft}

-- what the definitions are declared as, the first of which has number n
abbrev pub symbols_from : ℕ → List Def → List Symbol
symbols_from n [] = []
symbols_from n (d ∷ ds) = symbol.Def n (fun_sort d) ∷ symbols_from (n + 1) ds

-- what the entry of a predicate says, where it says something: the predicate is live, and the definition is one of its sorts
abbrev pub IsEntry : List Def → PredDecl → Option ℕ → Type 0
IsEntry defs decl None = ⊤
IsEntry defs decl (Some k) = (decl.live ≡ true) × (d : Def) × (slice_get defs k ≡ Some d) × IsPredicateOf decl.sorts d

-- each definition is declared by its number and sorts, is well sorted and calls earlier ones alone; each predicate has an
-- entry, and no two have the same definition
pub record IsDrafted (s : StateView) (d : Draft) : Type 0 where
  pub tabled : map (λ (row : List ℕ × Symbol). row.1) d.symbols ≡ symbols_from 0 d.defs.list
  pub entries : length d.defs.of ≡ length s.preds
  pub each : (p : ℕ) (decl : PredDecl) (o : Option ℕ) → slice_get s.preds p ≡ Some decl → slice_get d.defs.of p ≡ Some o → IsEntry d.defs.list decl o
  pub apart : (p q k : ℕ) → slice_get d.defs.of p ≡ Some (Some k) → slice_get d.defs.of q ≡ Some (Some k) → p ≡ q
  pub definitions : (k : ℕ) (def : Def) → slice_get d.defs.list k ≡ Some def → IsDefinition s.sig d.defs.list k def
