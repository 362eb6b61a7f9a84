-- The clause of an assertion.
use Rattle.std.specs.Prelude.{◌≡◌, ℕ, Bool, true, false, cond, List, [], ◌∷◌, ◌++◌, map, Option, Some, None, Result, Ok, Err, ⊤}
use Rattle.std.specs.List.{list_any}
use Rattle.chc_sorts.specs.declared.sort.Sort.{Sort}
use Rattle.chc_sorts.specs.declared.op.Op.{Op}
use Rattle.chc_sorts.specs.declared.op.Op.TheVariants as op
use Rattle.chc_terms.specs.declared.term.Kind.{Kind}
use Rattle.chc_terms.specs.declared.term.Kind.TheVariants as kind
use Rattle.chc_terms.specs.declared.term.Term.{Term, Term-F, para-Term}
use Rattle.chc_terms.specs.declared.term.Term.TheVariants as term
use Rattle.chc_terms.specs.Sorted.{is_unquantified}
use Rattle.chc_state.specs.declared.clause.Atom.{Atom}
use Rattle.chc_state.specs.declared.clause.Clause.{Clause}
use Rattle.chc_script.specs.Marks.{mentions}
use Rattle.chc_script.specs.declared.horn.parts.Parts.{Parts}
use Rattle.chc_script.specs.declared.horn.prefix.Prefix as Code
use Rattle.chc_script.specs.declared.horn.refusal.HornErr.{HornErr}
use Rattle.chc_script.specs.declared.horn.refusal.HornErr.TheVariants as refusal
use Rattle.chc_script.specs.declared.horn.side.Side.{Side}
use Rattle.chc_script.specs.declared.horn.side.Side.TheVariants as side
use Rattle.chc_script.specs.declared.horn.side.Way.{Way}
use Rattle.chc_script.specs.declared.horn.side.Way.TheVariants as way

-- what is made or refused; it may always be refused memory
abbrev pub Answers : {X : Type 0} → Result X HornErr → Result X HornErr → Type 0
Answers (Ok x) made = Ok x ≡ made
Answers (Err refusal.QuantInside) made = Err refusal.QuantInside ≡ made
Answers (Err refusal.NotHorn) made = Err refusal.NotHorn ≡ made
Answers (Err refusal.NoMemory) made = ⊤

-- the variables of the quantifiers in front of an assertion, and what is left: the assertion says the rest, or its negation
-- where that is assumed
pub record Prefix : Type 0 where
  pub vars : List Sort
  pub side : Side
  pub rest : Term

-- what the code holds of them
abbrev pub seen : Code.Prefix → Prefix
seen p = record { vars = p.vars; side = p.side; rest = p.rest.now }

-- whether a quantifier is one over all values, as it stands or negated
abbrev pub binds : Kind → Side → Bool
binds kind.Forall side.Concluded = true
binds kind.Forall side.Assumed = false
binds kind.Exists side.Concluded = false
binds kind.Exists side.Assumed = true

-- what is left of a term on a side, under the variables that stand before it
abbrev pub Stripping : Type 0
Stripping = Term → Side → List Sort → Prefix

-- it is left as it is
abbrev pub left : Stripping
left t s vars = record { vars = vars; side = s; rest = t }

abbrev pub negation_stripped : List (Term × Stripping) → Stripping
negation_stripped [] = left
negation_stripped ((u, strip) ∷ []) = λ t s vars. strip u side.Assumed vars
negation_stripped (a ∷ b ∷ more) = left

abbrev pub operator_stripped : Op → Side → List (Term × Stripping) → Stripping
operator_stripped op.Not side.Concluded parts = negation_stripped parts
operator_stripped o s parts = left

abbrev pub prefix_step : Term-F (Term × Stripping) → Stripping
prefix_step (Term-F.App o parts) = λ t s vars. operator_stripped o s parts t s vars
prefix_step (Term-F.Quant k sorts (u, strip)) = λ t s vars. cond (binds k s) (strip u s (vars ++ sorts)) (left t s vars)
prefix_step level = left

unfoldable pub stripping : Term → Stripping
stripping = para-Term Stripping prefix_step

-- the quantifiers in front of a term on a side, `forall` or behind a `not` `exists`, and what is left
abbrev pub prefix_of : Term → Side → List Sort → Prefix
prefix_of t = stripping t t

-- how an operator's term on a side is read, by whether a predicate stands in it
abbrev pub way_of : Op → Side → Bool → Way
way_of op.Or side.Concluded mentioned = way.Through side.Concluded
way_of op.Not side.Concluded mentioned = way.Through side.Assumed
way_of op.And side.Assumed mentioned = way.Through side.Assumed
way_of op.Not side.Assumed true = way.Through side.Concluded
way_of o s true = way.Refused
way_of o s false = way.Whole

-- nothing found
abbrev pub no_parts : Parts
no_parts = record { conj = []; body = []; head = None }

-- a term without predicates is a condition where it is assumed, and else its negation is
abbrev pub with_condition : Side → Term → Parts → Parts
with_condition side.Concluded t found = record { conj = found.conj ++ term.App op.Not (t ∷ []) ∷ []; body = found.body; head = found.head }
with_condition side.Assumed t found = record { conj = found.conj ++ t ∷ []; body = found.body; head = found.head }

-- an atom that is concluded, of which there is one at most
abbrev pub with_head : Atom → List Term → List Atom → Option Atom → Result Parts HornErr
with_head a conj body None = Ok (record { conj = conj; body = body; head = Some a })
with_head a conj body (Some head) = Err refusal.NotHorn

-- an atom stands in the body where it is assumed, and else it is the head
abbrev pub with_atom : Side → Atom → Parts → Result Parts HornErr
with_atom side.Concluded a found = with_head a found.conj found.body found.head
with_atom side.Assumed a found = Ok (record { conj = found.conj; body = found.body ++ a ∷ []; head = found.head })

-- a term that is no atom and isn't read by its arguments
abbrev pub whole_read : Bool → Term → Side → Parts → Result Parts HornErr
whole_read true t s found = Err refusal.NotHorn
whole_read false t s found = Ok (with_condition s t found)

-- a truth value: to conclude `false` or to assume `true` says nothing
abbrev pub literal_read : Bool → Side → Parts → Result Parts HornErr
literal_read false side.Concluded found = Ok found
literal_read true side.Assumed found = Ok found
literal_read b s found = Ok (with_condition s (term.Lit b) found)

-- an atom, by whether a predicate stands in an argument
abbrev pub atom_read : Bool → ℕ → List Term → Side → Parts → Result Parts HornErr
atom_read true p args s found = Err refusal.NotHorn
atom_read false p args s found = with_atom s (record { pred = p; args = args }) found

-- what a term on a side adds to what was found before
abbrev pub Reading : Type 0
Reading = Term → Side → Parts → Result Parts HornErr

-- and then more, unless it is refused
abbrev pub and_more : Result Parts HornErr → (Parts → Result Parts HornErr) → Result Parts HornErr
and_more (Err refused) more = Err refused
and_more (Ok found) more = more found

-- terms one after another
abbrev pub each : List (Term × Reading) → Side → Parts → Result Parts HornErr
each [] s found = Ok found
each ((u, read) ∷ more) s found = and_more (read u s found) (each more s)

-- an operator's term
abbrev pub way_read : Way → List (Term × Reading) → Reading
way_read (way.Through next) parts t s found = each parts next found
way_read way.Whole parts t s found = whole_read false t s found
way_read way.Refused parts t s found = Err refusal.NotHorn

abbrev pub collect_step : Term-F (Term × Reading) → Reading
collect_step (Term-F.Lit b) t s found = literal_read b s found
collect_step (Term-F.App o parts) t s found = way_read (way_of o s (mentions t)) parts t s found
collect_step (Term-F.Pred p parts) t s found = atom_read (list_any mentions (map (λ part. part.0) parts)) p (map (λ part. part.0) parts) s found
collect_step level t s found = whole_read (mentions t) t s found

unfoldable pub reading : Term → Reading
reading = para-Term Reading collect_step

-- terms, each beside its reading
abbrev pub readings : List Term → List (Term × Reading)
readings ts = map (λ t. (t, reading t)) ts

-- the conditions, the atoms and the head that a term on a side says, in order, after those that were found before
abbrev pub collected : Term → Side → Parts → Result Parts HornErr
collected t = reading t t

-- the clause of weight 1 over these variables
abbrev pub closed_over : List Sort → Parts → Clause
closed_over vars parts = record { vars = vars; conj = parts.conj; body = parts.body; head = parts.head; weight = 1 }

abbrev pub closed : List Sort → Result Parts HornErr → Result Clause HornErr
closed vars (Err refused) = Err refused
closed vars (Ok parts) = Ok (closed_over vars parts)

-- the clause behind the quantifiers in front
abbrev pub clause_behind : Prefix → Result Clause HornErr
clause_behind p = cond (is_unquantified p.rest) (closed p.vars (collected p.rest p.side no_parts)) (Err refusal.QuantInside)

-- the clause that an assertion says, or why there is none
abbrev pub clause_of : Term → Result Clause HornErr
clause_of assertion = clause_behind (prefix_of assertion side.Concluded [])
