-- How large and how deep the assertion of a clause is.
use Rattle.std.specs.Prelude.{◌≡◌, ◌≤◌, ℕ, ◌+◌, ◌*◌, max, false, List, [], ◌∷◌, length, sum_by}
use Rattle.chc_sorts.specs.declared.sort.Sort.{Sort}
use Rattle.chc_terms.specs.declared.term.Term.{Term}
use Rattle.chc_terms.specs.Counts.{size, depth, depth_all}
use Rattle.chc_elab.specs.Limits.{most_nodes, most_levels}
use Rattle.chc_state.specs.declared.clause.Atom.{Atom}
use Rattle.chc_state.specs.declared.clause.Clause.{Clause}
use Rattle.chc_state.specs.Limits.{charge, filled_of_body, filled_of_head, is_too_deep}
use Rattle.read_again.specs.ClauseTerms.{head_term, part_terms, assertion_of}

-- an implication is a disjunction with a negation; several parts are a conjunction too
abbrev pub connectives : List Term → ℕ
connectives [] = 0
connectives (t ∷ []) = 2
connectives (t ∷ u ∷ ts) = 3

abbrev pub quantifiers : List Sort → ℕ
quantifiers [] = 0
quantifiers (s ∷ sorts) = 1

-- what the assertion has beside its atoms and conjuncts: as many nodes, and no more levels
abbrev pub added : Clause → ℕ
added c = connectives (part_terms c) + quantifiers c.vars

-- how many arguments aren't bare
abbrev pub filled : Clause → ℕ
filled c = sum_by (λ (a : Atom). length (filled_of_body a.args)) c.body + length (filled_of_head c.head)

-- the depth of the deepest conjunct or atom
abbrev pub deepest : Clause → ℕ
deepest c = max (depth_all (part_terms c)) (depth (head_term c.head))

-- the assertion has as many nodes as the clause has charge, and the added ones, but for 3 for each argument that isn't
-- bare; it has at most the added levels above a conjunct or an atom, which a clause within the limits has no deeper than
-- a term may be
pub record CountsNearly (c : Clause) : Type 0 where
  pub nodes : size (assertion_of c) + 3 * filled c ≡ charge c + added c
  pub levels : depth (assertion_of c) ≤ deepest c + added c
  pub few_added : added c ≤ 4
  pub few_levels : is_too_deep c ≡ false → deepest c ≤ most_levels

abbrev pub CountsAreNear : Type 0
CountsAreNear = (c : Clause) → CountsNearly c

-- the assertion is no larger and no deeper than a term may be
pub record IsReadable (c : Clause) : Type 0 where
  pub nodes : size (assertion_of c) ≤ most_nodes
  pub levels : depth (assertion_of c) ≤ most_levels

-- which it is where charge and depth leave room for what is added
abbrev pub RoomIsEnough : Type 0
RoomIsEnough = (c : Clause) → charge c + added c ≤ most_nodes + 3 * filled c → deepest c + added c ≤ most_levels → IsReadable c
