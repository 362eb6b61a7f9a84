-- The definitions of an answer so far, and the predicates that they are for.
use Rattle.std.specs.Prelude.{◌≡◌, ℕ, ◌+◌, Bool, true, false, not, ◌&&◌, cond, nat_lt, List, [], ◌∷◌, ◌++◌, length, map, Option, Some, None, Ok, codes, is_some, slice_get, slice_set}
use Rattle.std.specs.Str.{bytes_eq}
use Rattle.chc_sorts.specs.declared.sort.Sort.TheVariants as sort
use Rattle.chc_sorts.specs.Names.{look_up}
use Rattle.chc_sorts.specs.Sorts.{same_sort, same_sorts}
use Rattle.chc_sexpr.specs.declared.fault.Fault.TheVariants.{WrongParams, Missing, TooMany}
use Rattle.chc_elab.specs.declared.symbols.Symbol.{Symbol}
use Rattle.chc_elab.specs.declared.symbols.Symbol.TheVariants as symbol
use Rattle.chc_elab.specs.Sites.{Setting, Reading, faulty}
use Rattle.chc_print.specs.Texts.{name_at}
use Rattle.chc_state.specs.declared.clause.PredDecl.{PredDecl}
use Rattle.chc_state.specs.declared.defs.Def.{Def}
use Rattle.chc_state.specs.declared.defs.Defs.{Defs}
use Rattle.chc_state.specs.Definitions.{fun_sort}
use Rattle.chc_state.specs.States.{StateView}
use Rattle.ans_model.specs.declared.draft.Draft.{Draft}

-- what definitions are read for: a state, and the names of its predicates by number
pub record TargetView : Type 0 where
  pub state : StateView
  pub names : List (List ℕ)

-- what is declared where the next body is read: the definitions so far
abbrev pub setting : TargetView → Draft → Setting
setting target d = record { sig = target.state.sig; symbols = d.symbols }

-- no predicate has a definition
abbrev pub no_entries : List PredDecl → List (Option ℕ)
no_entries preds = map (λ p. None) preds

-- before the first definition
abbrev pub fresh : TargetView → Draft
fresh target = record { symbols = []; defs = record { list = []; of = no_entries target.state.preds } }

-- the first live predicate of that name, of those that are numbered from p on
abbrev pub owner_from : ℕ → List (List ℕ) → List PredDecl → List ℕ → Option ℕ
owner_from p [] decls name = None
owner_from p (first ∷ names) [] name = None
owner_from p (first ∷ names) (decl ∷ decls) name = cond (decl.live && bytes_eq first name) (Some p) (owner_from (p + 1) names decls name)

-- the live predicate of that name
abbrev pub owner : TargetView → List ℕ → Option ℕ
owner target name = owner_from 0 target.names target.state.preds name

-- the number of the predicate that a name is declared as
abbrev pub pred_number : Option Symbol → Option ℕ
pred_number None = None
pred_number (Some (symbol.Pred p sorts)) = Some p
pred_number (Some (symbol.Def k f)) = None

-- every name that is declared is declared as a predicate
abbrev pub ArePreds : List (List ℕ × Symbol) → Type 0
ArePreds rows = (name : List ℕ) → is_some (pred_number (look_up rows name)) ≡ is_some (look_up rows name)

-- with one more definition, of that name
abbrev pub with_definition : Draft → List ℕ → Def → Draft
with_definition d name def =
    record {
      symbols = d.symbols ++ (name, symbol.Def (length d.defs.list) (fun_sort def)) ∷ [];
      defs = record { list = d.defs.list ++ def ∷ []; of = d.defs.of };
    }

-- where the next definition is that of the predicate
abbrev pub with_entry : Draft → ℕ → Draft
with_entry d p = record { symbols = d.symbols; defs = record { list = d.defs.list; of = slice_set d.defs.of p (Some (length d.defs.list)) } }

-- whether the definition has the predicate's positions as parameters, and truth values
abbrev pub suits : Option PredDecl → Def → Bool
suits None def = false
suits (Some decl) def = same_sorts def.params decl.sorts && same_sort def.result sort.Bool

-- with one more definition at the place, which is that of the live predicate of its name, or a helper
abbrev pub placed : TargetView → Draft → ℕ → List ℕ → Def → Option ℕ → Reading Draft
placed target d place name def None = Ok (with_definition d name def)
placed target d place name def (Some p) =
    cond (suits (slice_get target.state.preds p) def) (Ok (with_definition (with_entry d p) name def)) (faulty place WrongParams name)

-- whether there is an entry, and it has a definition
abbrev pub is_defined : Option (Option ℕ) → Bool
is_defined None = false
is_defined (Some entry) = is_some entry

-- the first live predicate without a definition, of those that are numbered from p on
abbrev pub missing_from : List (Option ℕ) → ℕ → List PredDecl → Option ℕ
missing_from of p [] = None
missing_from of p (decl ∷ decls) = cond (decl.live && not (is_defined (slice_get of p))) (Some p) (missing_from of (p + 1) decls)

-- how many definitions an answer may have
abbrev pub most_definitions : ℕ
most_definitions = 65536

-- the definitions, where they are not too many
abbrev pub held : ℕ → Defs → Reading Defs
held place d = cond (nat_lt most_definitions (length d.list)) (faulty place TooMany (codes "L7")) (Ok d)

-- the definitions, where this predicate isn't missing
abbrev pub complete : TargetView → ℕ → Defs → Option ℕ → Reading Defs
complete target place d None = held place d
complete target place d (Some p) = faulty place Missing (name_at target.names p)

-- the definitions of an answer that ends at the place
abbrev pub finished : TargetView → ℕ → Draft → Reading Defs
finished target place d = complete target place d.defs (missing_from d.defs.of 0 target.state.preds)
