-- How charge and width grow with each argument.
use Rattle.std.proofs.Common.{◌≡◌, ℕ, ◌+◌, Bool, true, false, cond, is_some, List, [], ◌∷◌, ◌++◌, length, sum_by, Option, Some, None, arith}
use Rattle.std.specs.Option.{is_none}
use Rattle.std.proofs.lemmas.List.Sums.{sum_by-cons}
use Rattle.chc_terms.specs.declared.term.Term.{Term}
use Rattle.chc_terms.specs.Counts.{size}
use Rattle.chc_state.specs.declared.clause.Atom.{Atom}
use Rattle.chc_state.specs.declared.clause.Clause.{Clause}
use Rattle.chc_state.specs.Limits.{variable_of, is_fresh, filled_of_body, filled_after, charge_of_args, charge}

abbrev pub filling : Term → ℕ
filling t = 2 + size t

-- the charge of arguments of a body atom, and of those of a head that follow the earlier ones
abbrev pub body_args : List Term → ℕ
body_args ts = length ts + sum_by filling (filled_of_body ts)

abbrev pub head_args : List Term → List Term → ℕ
head_args earlier ts = length ts + sum_by filling (filled_after earlier ts)

body_args-at : (v : Option ℕ) (t : Term) (ts filled : List Term) → length (t ∷ ts) + sum_by filling (cond (is_none v) (t ∷ filled) filled) ≡ cond (is_some v) 1 (3 + size t) + (length ts + sum_by filling filled)
body_args-at None t ts filled = omega (arith, sum_by-cons filling t filled)
body_args-at (Some i) t ts filled = omega arith

pub body_args-cons : (t : Term) (ts : List Term) → body_args (t ∷ ts) ≡ cond (is_some (variable_of t)) 1 (3 + size t) + body_args ts
body_args-cons t ts = body_args-at (variable_of t) t ts (filled_of_body ts)

head_args-at : (bare : Bool) (t : Term) (ts filled : List Term) → length (t ∷ ts) + sum_by filling (cond bare filled (t ∷ filled)) ≡ cond bare 1 (3 + size t) + (length ts + sum_by filling filled)
head_args-at false t ts filled = omega (arith, sum_by-cons filling t filled)
head_args-at true t ts filled = omega arith

pub head_args-cons : (earlier : List Term) (t : Term) (ts : List Term) → head_args earlier (t ∷ ts) ≡ cond (is_fresh earlier (variable_of t)) 1 (3 + size t) + head_args (earlier ++ t ∷ []) ts
head_args-cons earlier t ts = head_args-at (is_fresh earlier (variable_of t)) t ts (filled_after (earlier ++ t ∷ []) ts)

filled-at : (bare : Bool) (t : Term) (filled : List Term) → length (cond bare filled (t ∷ filled)) ≡ cond bare 0 1 + length filled
filled-at false t filled = omega arith
filled-at true t filled = omega arith

pub filled-cons : (earlier : List Term) (t : Term) (ts : List Term) → length (filled_after earlier (t ∷ ts)) ≡ cond (is_fresh earlier (variable_of t)) 0 1 + length (filled_after (earlier ++ t ∷ []) ts)
filled-cons earlier t ts = filled-at (is_fresh earlier (variable_of t)) t (filled_after (earlier ++ t ∷ []) ts)

pub ruleset arguments = (body_args-cons, head_args-cons, filled-cons)

-- the charges of body atoms, and how many of their arguments aren't bare
abbrev pub body_charge : List Atom → ℕ
body_charge = sum_by (λ (a : Atom). charge_of_args a.args (filled_of_body a.args))

abbrev pub body_filled : List Atom → ℕ
body_filled = sum_by (λ (a : Atom). length (filled_of_body a.args))

pub body_charge-cons : (a : Atom) (more : List Atom) → body_charge (a ∷ more) ≡ charge_of_args a.args (filled_of_body a.args) + body_charge more
body_charge-cons a more = sum_by-cons (λ (b : Atom). charge_of_args b.args (filled_of_body b.args)) a more

pub body_filled-cons : (a : Atom) (more : List Atom) → body_filled (a ∷ more) ≡ length (filled_of_body a.args) + body_filled more
body_filled-cons a more = sum_by-cons (λ (b : Atom). length (filled_of_body b.args)) a more

pub ruleset atoms = (body_charge-cons, body_filled-cons)

-- the charges of clauses
pub charges-cons : (c : Clause) (cs : List Clause) → sum_by charge (c ∷ cs) ≡ charge c + sum_by charge cs
charges-cons c cs = sum_by-cons charge c cs

pub ruleset clauses = (charges-cons)
