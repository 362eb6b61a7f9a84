-- The size and the depth of a clause's assertion.
use Rattle.std.proofs.Common.{◌≡◌, ℕ, ◌+◌, ◌*◌, ◌≤◌, max, Bool, true, false, cond, ◌||◌, is_none, List, [], ◌∷◌, ◌++◌, length, map, sum_by, Option, Some, None, refl, ap, sym, ◌∙◌, arith}
use Rattle.std.specs.Prelude.{nat_lt}
use Rattle.std.specs.List.{list_any}
use Rattle.std.proofs.lemmas.Bool.{false≢true, ltb-false, or_parts}
use Rattle.std.proofs.lemmas.Option.{none-some}
use Rattle.std.proofs.lemmas.List.Sums.{sum_by-cons}
use Rattle.chc_sorts.specs.declared.sort.Sort.{Sort}
use Rattle.chc_sorts.specs.declared.op.Op.TheVariants as op
use Rattle.chc_terms.specs.declared.term.Kind.TheVariants as kind
use Rattle.chc_terms.specs.declared.term.Term.{Term}
use Rattle.chc_terms.specs.declared.term.Term.TheVariants as term
use Rattle.chc_terms.specs.Counts.{size, size_all, depth, depth_all}
use Rattle.chc_terms.proofs.CountLaws.{size-Var, size-Lit, size-App, size-Pred, size-Quant, size_all-cons, depth-Lit, depth-App, depth-Pred, depth-Quant}
use Rattle.chc_terms.proofs.Induction.{term_ind}
use Rattle.chc_state.specs.declared.clause.Atom.{Atom}
use Rattle.chc_state.specs.declared.clause.Clause.{Clause}
use Rattle.chc_state.specs.Limits.{variable_of, variable_of_level, is_fresh, filled_of_body, filled_after, filled_of_head, args_of_head, charge_of_args, is_too_deep}
use Rattle.chc_state.proofs.Charges.{filling, body_charge, body_filled, body_charge-cons, body_filled-cons}
use Rattle.read_again.specs.ClauseTerms.{atom_term, head_term, part_terms, implied_term, matrix_term, closed_term}
use Rattle.read_again.specs.ClauseCounts.{connectives, quantifiers, deepest, CountsAreNear, RoomIsEnough}

-- a variable has one node
variable_size : (t : Term) (i : ℕ) → variable_of t ≡ Some i → size t ≡ 1
variable_size = term_ind (λ t. (i : ℕ) → variable_of t ≡ Some i → size t ≡ 1) (record {
  of_var = λ j i h. size-Var j;
  of_num = λ n i h. absurd (none-some i (ap variable_of_level (sym (term.outs-Num n)) ∙ h));
  of_lit = λ b i h. absurd (none-some i (ap variable_of_level (sym (term.outs-Lit b)) ∙ h));
  of_app = λ o ts f i h. absurd (none-some i (ap variable_of_level (sym (term.outs-App o ts)) ∙ h));
  of_pred = λ p ts f i h. absurd (none-some i (ap variable_of_level (sym (term.outs-Pred p ts)) ∙ h));
  of_quant = λ k sorts t f i h. absurd (none-some i (ap variable_of_level (sym (term.outs-Quant k sorts t)) ∙ h));
  of_call = λ k ts f i h. absurd (none-some i (ap variable_of_level (sym (term.outs-Call k ts)) ∙ h));
})

-- what arguments are charged: their nodes, and 3 for each one that isn't bare
abbrev Charged : List Term → List Term → Type 0
Charged ts fills = length ts + sum_by filling fills ≡ size_all ts + 3 * length fills

charged_filled : (t : Term) (ts fills : List Term) → Charged ts fills → Charged (t ∷ ts) (t ∷ fills)
charged_filled t ts fills h = omega (arith, h, sum_by-cons filling t fills, size_all-cons t ts)

charged_bare : (t : Term) (ts fills : List Term) → size t ≡ 1 → Charged ts fills → Charged (t ∷ ts) fills
charged_bare t ts fills one h = omega (arith, h, one, size_all-cons t ts)

body_charged : (ts : List Term) → Charged ts (filled_of_body ts)
body_charged [] = refl
body_charged (t ∷ ts) = by_variable (variable_of t) refl (body_charged ts)
  where
    by_variable : (v : Option ℕ) → variable_of t ≡ v → Charged ts (filled_of_body ts) → Charged (t ∷ ts) (cond (is_none v) (t ∷ filled_of_body ts) (filled_of_body ts))
    by_variable None e h = charged_filled t ts (filled_of_body ts) h
    by_variable (Some i) e h = charged_bare t ts (filled_of_body ts) (variable_size t i e) h

fresh_size : (earlier : List Term) (t : Term) (v : Option ℕ) → variable_of t ≡ v → is_fresh earlier v ≡ true → size t ≡ 1
fresh_size earlier t None e h = absurd (false≢true h)
fresh_size earlier t (Some i) e h = variable_size t i e

head_charged : (ts earlier : List Term) → Charged ts (filled_after earlier ts)
head_charged [] earlier = refl
head_charged (t ∷ ts) earlier = by_test (is_fresh earlier (variable_of t)) refl (head_charged ts (earlier ++ t ∷ []))
  where
    after : List Term
    after = filled_after (earlier ++ t ∷ []) ts

    by_test : (b : Bool) → is_fresh earlier (variable_of t) ≡ b → Charged ts after → Charged (t ∷ ts) (cond b after (t ∷ after))
    by_test true e h = charged_bare t ts after (fresh_size earlier t (variable_of t) refl e) h
    by_test false e h = charged_filled t ts after h

-- the nodes of atoms
head_nodes : (head : Option Atom) → size (head_term head) + 3 * length (filled_of_head head) ≡ charge_of_args (args_of_head head) (filled_of_head head)
head_nodes None = omega (arith, size-Lit false)
head_nodes (Some a) = omega (arith, size-Pred a.pred a.args, head_charged a.args [])

atom_nodes : (a : Atom) → size (atom_term a) + 3 * length (filled_of_body a.args) ≡ charge_of_args a.args (filled_of_body a.args)
atom_nodes a = omega (arith, size-Pred a.pred a.args, body_charged a.args)

parts_nodes : (body : List Atom) (ts : List Term) → size_all (map atom_term body ++ ts) + 3 * body_filled body ≡ size_all ts + body_charge body
parts_nodes [] ts = omega arith
parts_nodes (a ∷ body) ts =
    omega (arith, parts_nodes body ts, atom_nodes a, size_all-cons (atom_term a) (map atom_term body ++ ts), body_filled-cons a body, body_charge-cons a body)

-- the nodes of the connectives
size_of_one : (t : Term) → size_all (t ∷ []) ≡ size t
size_of_one t = omega (arith, size_all-cons t [])

size_of_two : (t u : Term) → size_all (t ∷ u ∷ []) ≡ size t + size u
size_of_two t u = omega (arith, size_all-cons t (u ∷ []), size_of_one u)

implication_nodes : (tail head : Term) → size (term.App op.Or (term.App op.Not (tail ∷ []) ∷ head ∷ [])) ≡ size tail + size head + 2
implication_nodes tail head =
    omega (arith, size-App op.Or (term.App op.Not (tail ∷ []) ∷ head ∷ []), size_of_two (term.App op.Not (tail ∷ [])) head, size-App op.Not (tail ∷ []), size_of_one tail)

implied_nodes : (ts : List Term) (head : Term) → size (implied_term ts head) ≡ size_all ts + size head + connectives ts
implied_nodes [] head = omega arith
implied_nodes (t ∷ []) head = omega (arith, implication_nodes t head, size_of_one t)
implied_nodes (t ∷ u ∷ ts) head = omega (arith, implication_nodes (term.App op.And (t ∷ u ∷ ts)) head, size-App op.And (t ∷ u ∷ ts))

closed_nodes : (vars : List Sort) (matrix : Term) → size (closed_term vars matrix) ≡ size matrix + quantifiers vars
closed_nodes [] matrix = omega arith
closed_nodes (s ∷ sorts) matrix = size-Quant kind.Forall (s ∷ sorts) matrix

-- the levels
depth_of_two : (t u : Term) → depth_all (t ∷ u ∷ []) ≡ max (depth t) (depth u)
depth_of_two t u = omega arith

implication_levels : (tail head : Term) (most : ℕ) → depth tail ≤ most → depth head ≤ most → depth (term.App op.Or (term.App op.Not (tail ∷ []) ∷ head ∷ [])) ≤ most + 2
implication_levels tail head most t h =
    let negation = term.App op.Not (tail ∷ []) in
    omega (arith, t, h, depth-App op.Or (negation ∷ head ∷ []), depth-App op.Not (tail ∷ []), depth_of_two negation head)

implied_levels : (ts : List Term) (head : Term) (most : ℕ) → depth_all ts ≤ most → depth head ≤ most → depth (implied_term ts head) ≤ most + connectives ts
implied_levels [] head most t h = omega (arith, h)
implied_levels (t ∷ []) head most d h = implication_levels t head most (omega (arith, d)) h
implied_levels (t ∷ u ∷ ts) head most d h =
    let tail = term.App op.And (t ∷ u ∷ ts) in
    omega (arith, implication_levels tail head (most + 1) (omega (arith, d, depth-App op.And (t ∷ u ∷ ts))) (omega (arith, h)))

closed_levels : (vars : List Sort) (matrix : Term) (most : ℕ) → depth matrix ≤ most → depth (closed_term vars matrix) ≤ most + quantifiers vars
closed_levels [] matrix most h = omega (arith, h)
closed_levels (s ∷ sorts) matrix most h = omega (arith, h, depth-Quant kind.Forall (s ∷ sorts) matrix)

few_connectives : (ts : List Term) → connectives ts ≤ 3
few_connectives [] = omega arith
few_connectives (t ∷ []) = omega arith
few_connectives (t ∷ u ∷ ts) = omega arith

few_quantifiers : (vars : List Sort) → quantifiers vars ≤ 1
few_quantifiers [] = omega arith
few_quantifiers (s ∷ sorts) = omega arith

-- atoms and conjuncts within a bound
parts_levels : (body : List Atom) (ts : List Term) (most : ℕ) → list_any (λ (a : Atom). nat_lt most (depth_all a.args)) body ≡ false → depth_all ts ≤ most + 1
    → depth_all (map atom_term body ++ ts) ≤ most + 1
parts_levels [] ts most a h = h
parts_levels (b ∷ body) ts most a h =
    let both = or_parts (nat_lt most (depth_all b.args)) (list_any (λ (c : Atom). nat_lt most (depth_all c.args)) body) a in
    omega (arith, parts_levels body ts most both.1 h, ltb-false most (depth_all b.args) both.0, depth-Pred b.pred b.args)

head_levels : (head : Option Atom) (most : ℕ) → nat_lt most (depth_all (args_of_head head)) ≡ false → depth (head_term head) ≤ most + 1
head_levels None most h = omega (arith, depth-Lit false)
head_levels (Some a) most h = omega (arith, ltb-false most (depth_all a.args) h, depth-Pred a.pred a.args)

deepest_within : (c : Clause) → is_too_deep c ≡ false → deepest c ≤ 900
deepest_within c h =
    let body = list_any (λ (a : Atom). nat_lt 899 (depth_all a.args)) c.body in
    let head = nat_lt 899 (depth_all (args_of_head c.head)) in
    let outer = or_parts (nat_lt 900 (depth_all c.conj) || body) head h in
    let inner = or_parts (nat_lt 900 (depth_all c.conj)) body outer.0 in
    omega (arith, parts_levels c.body c.conj 899 inner.1 (ltb-false 900 (depth_all c.conj) inner.0), head_levels c.head 899 outer.1)

pub counts_are_near : CountsAreNear
counts_are_near c = record {
  nodes = omega (arith, closed_nodes c.vars (matrix_term c), implied_nodes (part_terms c) (head_term c.head), parts_nodes c.body c.conj, head_nodes c.head);
  levels = omega (
    arith,
    closed_levels c.vars (matrix_term c) (deepest c + connectives (part_terms c))
        (implied_levels (part_terms c) (head_term c.head) (deepest c) (omega arith) (omega arith)),
  );
  few_added = omega (arith, few_connectives (part_terms c), few_quantifiers c.vars);
  few_levels = deepest_within c;
}

pub room_is_enough : RoomIsEnough
room_is_enough c nodes levels =
    let near = counts_are_near c in
    record { nodes = omega (arith, near.nodes, nodes); levels = omega (arith, near.levels, levels) }
