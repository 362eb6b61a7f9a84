-- The way back of definitions over a step.
use Rattle.std.specs.Prelude.{◌≡◌, ℕ, Bool, true, false, IsTrue, List, [], ◌∷◌, ◌++◌, length, Option, Some, None, slice_get, set}
use Rattle.chc_sorts.specs.declared.sort.Sort.{Sort}
use Rattle.chc_sorts.specs.declared.sort.Sort.TheVariants as sort
use Rattle.chc_values.specs.declared.world.WorldEntry.{WorldEntry}
use Rattle.chc_values.specs.Worlds.{IsWorld}
use Rattle.chc_terms.specs.declared.term.Term.TheVariants as term
use Rattle.chc_state.specs.declared.defs.Def.{Def}
use Rattle.chc_state.specs.declared.defs.Defs.{Defs}
use Rattle.chc_state.specs.States.{StateView}
use Rattle.chc_state.specs.Definitions.{Defines, Holds}

-- the sorts where there are any, and none otherwise
abbrev pub or_none : Option (List Sort) → List Sort
or_none None = []
or_none (Some sorts) = sorts

-- the definition that is that truth value for all arguments of these sorts
abbrev pub constant : List Sort → Bool → Def
constant sorts b = record { params = sorts; result = sort.Bool; body = term.Lit b }

-- the definitions with one more at the end, which is the predicate's
abbrev pub with_constant : List (List Sort) → Bool → ℕ → Defs → Defs
with_constant sorts b p d = record { list = d.list ++ constant (or_none (slice_get sorts p)) b ∷ []; of = set d.of p (Some (length d.list)) }

-- the definitions with one more for each of the predicates, in order
abbrev pub with_constants : List (List Sort) → Bool → List ℕ → Defs → Defs
with_constants sorts b [] d = d
with_constants sorts b (p ∷ ps) d = with_constants sorts b ps (with_constant sorts b p d)

-- definitions that make the clauses true in every world in which others make other clauses true
abbrev pub KeepsHolding : StateView → Defs → StateView → Defs → Type 0
KeepsHolding z d s e = (w : List WorldEntry) → IsWorld s.sig w → Holds w d z → Holds w e s

-- what the way back gives: definitions of the live predicates before, which make the clauses before true
-- wherever the others make the clauses after true
pub record LeadsBack (s : StateView) (d e : Defs) (z : StateView) : Type 0 where
  pub defines : Defines e s
  pub keeps : KeepsHolding z d s e
