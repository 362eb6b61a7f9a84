-- What definitions mean, which lists define the live predicates of a state, and what is true under them.
use Rattle.std.specs.Prelude.{◌≡◌, ◌⊎◌, ℕ, zero, suc, true, false, IsTrue, List, [], length, map, Option, Some, None, slice_get, take}
use Rattle.std.specs.List.{list_all}
use Rattle.chc_sorts.specs.declared.sort.Sort.{Sort}
use Rattle.chc_sorts.specs.declared.sort.Sort.TheVariants as sort
use Rattle.chc_sorts.specs.Signature.{Signature}
use Rattle.chc_values.specs.declared.value.Value.{Value}
use Rattle.chc_values.specs.declared.value.Value.TheVariants as value
use Rattle.chc_values.specs.declared.world.WorldEntry.{WorldEntry}
use Rattle.chc_values.specs.Values.{AreOf}
use Rattle.chc_terms.specs.declared.fun_sort.FunSort.{FunSort}
use Rattle.chc_terms.specs.declared.term.Term.{Term}
use Rattle.chc_terms.specs.Has.{Meaning, Has, silent}
use Rattle.chc_sorts.specs.Sorts.{sort_fits}
use Rattle.chc_terms.specs.Sorted.{Context, sort_of, sorts_fit}
use Rattle.chc_state.specs.declared.clause.Atom.{Atom}
use Rattle.chc_state.specs.declared.clause.Clause.{Clause}
use Rattle.chc_state.specs.declared.clause.PredDecl.{PredDecl}
use Rattle.chc_state.specs.declared.defs.Def.{Def}
use Rattle.chc_state.specs.declared.defs.Defs.{Defs}
use Rattle.chc_state.specs.States.{StateView}
use Rattle.chc_state.specs.Meaning.{Interp, In, Fires, AtomHolds}

module _ (sig : Signature) (w : List WorldEntry) where
  -- what the first n definitions mean: each its body's value, in which calls mean the definitions before it
  abbrev pub CallMeans : List Def → ℕ → Meaning
  CallMeans defs zero = silent
  CallMeans defs (suc n) = λ k vs v.
      CallMeans defs n k vs v
      ⊎ ((k ≡ n) × (d : Def) × (slice_get defs n ≡ Some d) × Has sig w silent (CallMeans defs n) d.body vs v)

  -- what the definition of that number gives
  abbrev pub DefMeans : Defs → Meaning
  DefMeans d = CallMeans d.list (length d.list)

  -- what the predicate's definition gives
  abbrev pub PredMeans : Defs → Meaning
  PredMeans d p vs v = (k : ℕ) × (slice_get d.of p ≡ Some (Some k)) × DefMeans d k vs v

  -- the term has the value v where predicates and calls mean the definitions
  abbrev pub HasUnder : Defs → Term → List Value → Value → Type 0
  HasUnder d = Has sig w (PredMeans d) (DefMeans d)

  -- the predicate's definition is true of the values
  abbrev pub Says : Defs → Interp
  Says d p us = PredMeans d p us (value.Bool true)

  -- there is a head, and it holds
  abbrev pub HeadHolds : Interp → List Value → Option Atom → Type 0
  HeadHolds I env None = ⊥
  HeadHolds I env (Some head) = AtomHolds sig w I env head

  -- the clause is true where predicates are read by the interpretation: on each assignment that makes its
  -- conjuncts and body atoms true, it has a head that holds
  abbrev pub ClauseTrue : Interp → Clause → Type 0
  ClauseTrue I c = (env : List Value) → Fires sig w I c env → HeadHolds I env c.head

  -- all the clauses are true
  abbrev pub AllTrue : Interp → List Clause → Type 0
  AllTrue I cs = (c : Clause) → In c cs → ClauseTrue I c

  -- the clause is true under the definitions
  pub record IsTrueUnder (d : Defs) (c : Clause) : Type 0 where
    pub clause_true : ClauseTrue (Says d) c

  -- the assertion is true under the definitions
  pub record AssertTrue (d : Defs) (assertion : Term) : Type 0 where
    pub has_true : HasUnder d assertion [] (value.Bool true)

  -- the body of every definition has a value for all values of its parameters
  pub record Decided (d : Defs) : Type 0 where
    pub decides : (k : ℕ) (def : Def) → slice_get d.list k ≡ Some def → (vs : List Value) → AreOf sig vs def.params → (v : Value) × DefMeans d k vs v

-- in the world w, the definitions make every clause of the state true
pub record Holds (w : List WorldEntry) (d : Defs) (s : StateView) : Type 0 where
  pub holds : AllTrue s.sig w (Says s.sig w d) s.clauses

-- the sorts of definitions
abbrev pub fun_sort : Def → FunSort
fun_sort d = record { params = d.params; result = d.result }

-- what the body of the definition of number k is over: the definitions before it, and no predicate
abbrev pub context_before : Signature → List Def → ℕ → Context
context_before sig defs k = record { sig = sig; preds = []; defs = map fun_sort (take k defs) }

-- the definition of number k is well sorted, calls earlier ones alone, and its sorts fit the signature
pub record IsDefinition (sig : Signature) (defs : List Def) (k : ℕ) (d : Def) : Type 0 where
  pub params_fit : IsTrue (list_all (sort_fits sig) d.params)
  pub result_fits : IsTrue (sort_fits sig d.result)
  pub body_fits : IsTrue (sorts_fit sig d.body)
  pub sorted : sort_of (context_before sig defs k) d.body d.params ≡ Some d.result

-- the definition is a predicate's on positions of these sorts
pub record IsPredicateOf (sorts : List Sort) (d : Def) : Type 0 where
  pub params : d.params ≡ sorts
  pub result : d.result ≡ sort.Bool

-- what `of` says of a declared predicate: for a live one the number of a definition of its sorts, for another none
abbrev pub DefinedAs : List Def → PredDecl → Option ℕ → Type 0
DefinedAs defs p None = p.live ≡ false
DefinedAs defs p (Some k) = (p.live ≡ true) × (d : Def) × (slice_get defs k ≡ Some d) × IsPredicateOf p.sorts d

-- the list defines the live predicates of the state, each by a definition of its own
pub record Defines (d : Defs) (s : StateView) : Type 0 where
  pub entries : length d.of ≡ length s.preds
  pub each : (p : ℕ) (decl : PredDecl) (o : Option ℕ) → slice_get s.preds p ≡ Some decl → slice_get d.of p ≡ Some o → DefinedAs d.list decl o
  pub apart : (p q k : ℕ) → slice_get d.of p ≡ Some (Some k) → slice_get d.of q ≡ Some (Some k) → p ≡ q
  pub definitions : (k : ℕ) (def : Def) → slice_get d.list k ≡ Some def → IsDefinition s.sig d.list k def
