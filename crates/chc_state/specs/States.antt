-- States as contracts see them.
use Rattle.std.specs.Prelude.{ℕ, Bool, true, false, ◌&&◌, List, Option, Some, None, slice_get}
use Rattle.std.specs.List.{list_all}
use Rattle.chc_sorts.specs.Signature.{Signature}
use Rattle.chc_state.specs.declared.clause.Atom.{Atom}
use Rattle.chc_state.specs.declared.clause.Clause.{Clause}
use Rattle.chc_state.specs.declared.clause.PredDecl.{PredDecl}

-- a signature, the predicates by number, and the clauses
pub record StateView : Type 0 where
  pub sig : Signature
  pub preds : List PredDecl
  pub clauses : List Clause

abbrev pub live_decl : Option PredDecl → Bool
live_decl None = false
live_decl (Some d) = d.live

-- whether the predicate of that number is declared and live
abbrev pub is_live : List PredDecl → ℕ → Bool
is_live preds p = live_decl (slice_get preds p)

-- whether the predicate of the atom is live
abbrev pub on_live : List PredDecl → Atom → Bool
on_live preds a = is_live preds a.pred

-- whether the head, where there is one, passes the test
abbrev pub head_all : (Atom → Bool) → Option Atom → Bool
head_all test None = true
head_all test (Some a) = test a

-- whether there is a head that passes the test
abbrev pub head_any : (Atom → Bool) → Option Atom → Bool
head_any test None = false
head_any test (Some a) = test a

-- whether every atom of the clause is on a live predicate
abbrev pub clause_uses_live : List PredDecl → Clause → Bool
clause_uses_live preds c = list_all (on_live preds) c.body && head_all (on_live preds) c.head

-- whether every atom of the clauses is on a live predicate
abbrev pub uses_live : List PredDecl → List Clause → Bool
uses_live preds = list_all (clause_uses_live preds)
