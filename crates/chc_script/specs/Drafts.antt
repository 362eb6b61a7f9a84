-- What the commands of a script have made so far, and the limits that it is held to.
use Rattle.std.specs.Prelude.{◌≡◌, ◌≤◌, ℕ, ◌+◌, Bool, true, false, nat_lt, List, [], ◌∷◌, ◌++◌, length, sum_by, count_by, Option, Some, None, Ok, ⊤}
use Rattle.std.specs.List.{list_all, list_any}
use Rattle.chc_sorts.specs.declared.sort.Sort.{Sort}
use Rattle.chc_sorts.specs.declared.limit.Limit.{Limit}
use Rattle.chc_sorts.specs.declared.limit.Limit.TheVariants as limit
use Rattle.chc_sorts.specs.Names.{has_name}
use Rattle.chc_sorts.specs.Signature.{Signature, no_datatypes}
use Rattle.chc_sorts.specs.Groups.{taken_names}
use Rattle.chc_sexpr.specs.declared.fault.Fault.TheVariants.{TooMany}
use Rattle.chc_terms.specs.declared.term.Term.{Term}
use Rattle.chc_elab.specs.declared.symbols.Symbol.{Symbol}
use Rattle.chc_elab.specs.declared.symbols.Symbol.TheVariants as symbol
use Rattle.chc_elab.specs.Sites.{Setting, Reading, faulty}
use Rattle.chc_state.specs.declared.clause.Clause.{Clause}
use Rattle.chc_state.specs.declared.clause.PredDecl.{PredDecl}
use Rattle.chc_state.specs.Limits.{charge, width, is_too_deep, is_query, state_charge, live_count, reserve, first_true}
use Rattle.chc_script.specs.LimitNames.{limit_name}

-- predicates: their names and their declarations, by number
pub record PredicatesView : Type 0 where
  pub names : List (List ℕ)
  pub decls : List PredDecl

-- the assertions, and the clause of each
pub record AssertedView : Type 0 where
  pub assertions : List Term
  pub clauses : List Clause

-- whether the logic is set, and what the commands have made
pub record DraftView : Type 0 where
  pub logic : Bool
  pub sig : Signature
  pub preds : PredicatesView
  pub asserted : AssertedView

abbrev pub no_predicates : PredicatesView
no_predicates = record { names = []; decls = [] }

abbrev pub none_asserted : AssertedView
none_asserted = record { assertions = []; clauses = [] }

-- before the first command
abbrev pub fresh : DraftView
fresh = record { logic = false; sig = no_datatypes; preds = no_predicates; asserted = none_asserted }

-- the draft once the logic is set
abbrev pub with_logic : DraftView → DraftView
with_logic d = record { logic = true; sig = d.sig; preds = d.preds; asserted = d.asserted }

abbrev pub with_sig : Signature → DraftView → DraftView
with_sig sig d = record { logic = d.logic; sig = sig; preds = d.preds; asserted = d.asserted }

abbrev pub with_preds : PredicatesView → DraftView → DraftView
with_preds preds d = record { logic = d.logic; sig = d.sig; preds = preds; asserted = d.asserted }

abbrev pub with_asserted : AssertedView → DraftView → DraftView
with_asserted asserted d = record { logic = d.logic; sig = d.sig; preds = d.preds; asserted = asserted }

-- a live predicate with positions of these sorts
abbrev pub declaration : List Sort → PredDecl
declaration sorts = record { sorts = sorts; live = true }

-- the predicates with one more
abbrev pub with_predicate : PredicatesView → List ℕ → List Sort → PredicatesView
with_predicate p name sorts = record { names = p.names ++ name ∷ []; decls = p.decls ++ declaration sorts ∷ [] }

-- the assertions with one more
abbrev pub with_assertion : AssertedView → Term → Clause → AssertedView
with_assertion a term clause = record { assertions = a.assertions ++ term ∷ []; clauses = a.clauses ++ clause ∷ [] }

-- the predicates from number n on, by name
abbrev pub symbols_from : ℕ → List (List ℕ) → List PredDecl → List (List ℕ × Symbol)
symbols_from n [] decls = []
symbols_from n (name ∷ names) [] = []
symbols_from n (name ∷ names) (d ∷ decls) = (name, symbol.Pred n d.sorts) ∷ symbols_from (n + 1) names decls

-- the predicates by name
abbrev pub symbols_of : PredicatesView → List (List ℕ × Symbol)
symbols_of p = symbols_from 0 p.names p.decls

-- what is declared where a term is read
abbrev pub setting : DraftView → Setting
setting d = record { sig = d.sig; symbols = symbols_of d.preds }

-- whether a function has the name: an operator, `true`, `false`, a constructor, a selector or a predicate
abbrev pub is_taken : DraftView → List ℕ → Bool
is_taken d name = has_name (taken_names d.sig d.preds.names).functions name

-- nothing, or the fault at the place that a limit is passed
abbrev pub held_to : ℕ → Option Limit → Reading ⊤
held_to place None = Ok tt
held_to place (Some l) = faulty place TooMany (limit_name l)

-- the first limit that a new predicate passes, where these are declared before it
abbrev pub passed_by_predicate : List PredDecl → List Sort → Option Limit
passed_by_predicate decls sorts = first_true (
    (nat_lt 1024 (length sorts), limit.L8)
    ∷ (nat_lt 65536 (live_count (decls ++ declaration sorts ∷ [])), limit.L7)
    ∷ [])

-- the first limit that a new clause passes, where these stand before it: its own, and the sums with it
abbrev pub passed_by_clause : List Clause → Clause → Option Limit
passed_by_clause clauses c = first_true (
    (is_too_deep c, limit.L4)
    ∷ (nat_lt 262144 (charge c), limit.L5)
    ∷ (nat_lt 4194304 (sum_by charge (clauses ++ c ∷ [])), limit.L6)
    ∷ (nat_lt 65536 (length (clauses ++ c ∷ [])), limit.L9)
    ∷ (nat_lt 4096 (width c), limit.L10)
    ∷ (nat_lt 256 (length c.body), limit.L11)
    ∷ [])

-- the first limit that the whole passes, with what a query to be made will need
abbrev pub passed_by_all : List PredDecl → List Clause → Option Limit
passed_by_all decls clauses = first_true (
    (nat_lt 4194304 (state_charge clauses), limit.L6)
    ∷ (nat_lt 65536 (live_count decls + reserve 1 clauses), limit.L7)
    ∷ (nat_lt 65536 (length clauses + reserve 1 clauses), limit.L9)
    ∷ [])

-- what is kept of predicates: each has a name, all are live, there are few, none has too many positions, and they are found
-- by name
pub record ArePredicates (p : PredicatesView) (symbols : List (List ℕ × Symbol)) : Type 0 where
  pub same : length p.names ≡ length p.decls
  pub few : length p.decls ≤ 65536
  pub live : list_all (λ (d : PredDecl). d.live) p.decls ≡ true
  pub short : list_any (λ (d : PredDecl). nat_lt 1024 (length d.sorts)) p.decls ≡ false
  pub tabled : symbols ≡ symbols_of p

-- what is kept of assertions: each has a clause, none passes a limit of clauses, there are few, and the sums are known
pub record AreAsserted (a : AssertedView) (sum queries : ℕ) : Type 0 where
  pub same : length a.assertions ≡ length a.clauses
  pub few : length a.clauses ≤ 65536
  pub deep : list_any is_too_deep a.clauses ≡ false
  pub charges : list_any (λ c. nat_lt 262144 (charge c)) a.clauses ≡ false
  pub widths : list_any (λ c. nat_lt 4096 (width c)) a.clauses ≡ false
  pub bodies : list_any (λ (c : Clause). nat_lt 256 (length c.body)) a.clauses ≡ false
  pub weights : list_any (λ (c : Clause). nat_lt 4096 c.weight) a.clauses ≡ false
  pub charged : sum ≡ sum_by charge a.clauses
  pub bounded : sum ≤ 4194304
  pub counted : queries ≡ count_by is_query a.clauses
