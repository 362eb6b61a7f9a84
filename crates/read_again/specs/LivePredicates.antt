-- The live predicates of a state alone, in order, and its clauses over these.
use Rattle.std.specs.Prelude.{ℕ, ◌+◌, List, [], ◌∷◌, map, filter, take, if◌then◌else◌}
use Rattle.std.specs.Option.{option_map}
use Rattle.chc_state.specs.declared.clause.Atom.{Atom}
use Rattle.chc_state.specs.declared.clause.Clause.{Clause}
use Rattle.chc_state.specs.declared.clause.PredDecl.{PredDecl}
use Rattle.chc_state.specs.Limits.{live_count}
use Rattle.chc_print.specs.Texts.{name_at}
use Rattle.read_again.specs.ClauseTerms.{clause_again}

abbrev pub live_preds : List PredDecl → List PredDecl
live_preds = filter (λ (d : PredDecl). d.live)

-- their names, where the first predicate has the given number
abbrev pub live_names : List (List ℕ) → ℕ → List PredDecl → List (List ℕ)
live_names names p [] = []
live_names names p (d ∷ ds) = if d.live then name_at names p ∷ live_names names (p + 1) ds else live_names names (p + 1) ds

-- the number of a live predicate among the live ones: how many stand before it
abbrev pub number_again : List PredDecl → ℕ → ℕ
number_again preds p = live_count (take p preds)

abbrev pub renumbered_atom : List PredDecl → Atom → Atom
renumbered_atom preds a = record { pred = number_again preds a.pred; args = a.args }

-- the clause with the numbers of its predicates among the live ones
abbrev pub renumbered : List PredDecl → Clause → Clause
renumbered preds c =
    record {
      vars = c.vars;
      conj = c.conj;
      body = map (renumbered_atom preds) c.body;
      head = option_map (renumbered_atom preds) c.head;
      weight = c.weight;
    }

-- the clauses as a script has them
abbrev pub clauses_again : List PredDecl → List Clause → List Clause
clauses_again preds cs = map (λ c. renumbered preds (clause_again c)) cs
