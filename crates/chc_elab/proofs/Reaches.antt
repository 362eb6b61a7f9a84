-- How far the variables of built terms reach: no farther than those of the terms that they are built of.
use Rattle.std.proofs.Common.{◌≡◌, ◌<◌, ◌≤◌, ◌+◌, ◌^◌, ◌&&◌, max, cond, nat_lt, ℕ, ℤ, pos, Bool, true, false, IsTrue, List, [], ◌∷◌, ◌++◌, map, Option, Some, None, ap, sym, refl, ◌∙◌, arith}
use Rattle.std.proofs.lemmas.Bool.{lt-ltb}
use Rattle.std.specs.List.{AllByRecursion}
use Rattle.chc_sorts.specs.declared.sort.Sort.{Sort}
use Rattle.chc_sorts.specs.declared.op.Op.{Op}
use Rattle.chc_sorts.specs.declared.op.Op.TheVariants as op
use Rattle.chc_sorts.specs.declared.op_table.ReadOp.{ReadOp}
use Rattle.chc_sorts.specs.declared.op_table.ReadOp.TheVariants as read
use Rattle.chc_terms.specs.declared.term.Kind.{Kind}
use Rattle.chc_terms.specs.declared.term.Term.{Term, Term-F, fold-roll-Term}
use Rattle.chc_terms.specs.declared.term.Term.TheVariants.{Var, Num, Lit, App, Pred, Quant, Call, rolls-Var, rolls-Num, rolls-Lit, rolls-App, rolls-Pred, rolls-Quant, rolls-Call}
use Rattle.chc_terms.specs.Counts.{greatest}
use Rattle.chc_terms.specs.Shifted.{moved, shifted, shifted_all, can_shift, can_shift_all}
use Rattle.chc_terms.specs.Sorted.{element_of}
use Rattle.chc_terms.proofs.Induction.{term_ind}
use Rattle.chc_terms.proofs.ShiftedLaws.{shifted-Var, shifted-Num, shifted-Lit, shifted-App, shifted-Pred, shifted-Quant, shifted-Call, can_shift-Var, can_shift-Num, can_shift-Lit, can_shift-App, can_shift-Pred, can_shift-Quant, can_shift-Call}
use Rattle.chc_elab.specs.declared.head.Head.{Head}
use Rattle.chc_elab.specs.declared.head.Head.TheVariants as head
use Rattle.chc_elab.specs.declared.symbols.Symbol.{Symbol}
use Rattle.chc_elab.specs.declared.symbols.Symbol.TheVariants as symbol
use Rattle.chc_elab.specs.Building.{pair, negated, differ, joined_from, joined_left, sole, neighbours, all_pairs, negated_before_last, opposite, difference, absolute, of_one, turned, operation, divisible, constant, declared_term, head_term}
use Rattle.chc_elab.specs.Rooms.{reach, reach_step}

-- how far the variables of terms reach
abbrev pub reach_all : List Term → ℕ
reach_all ts = greatest (map reach ts)

pub reach-Var : (i : ℕ) → reach (Var i) ≡ i + 1
unfolding reach
reach-Var i = ap reach (sym (rolls-Var i)) ∙ fold-roll-Term ℕ reach_step (Term-F.Var i)

pub reach-Num : (n : ℤ) → reach (Num n) ≡ 0
unfolding reach
reach-Num n = ap reach (sym (rolls-Num n)) ∙ fold-roll-Term ℕ reach_step (Term-F.Num n)

pub reach-Lit : (b : Bool) → reach (Lit b) ≡ 0
unfolding reach
reach-Lit b = ap reach (sym (rolls-Lit b)) ∙ fold-roll-Term ℕ reach_step (Term-F.Lit b)

pub reach-App : (o : Op) (ts : List Term) → reach (App o ts) ≡ reach_all ts
unfolding reach
reach-App o ts = ap reach (sym (rolls-App o ts)) ∙ fold-roll-Term ℕ reach_step (Term-F.App o ts)

pub reach-Pred : (p : ℕ) (ts : List Term) → reach (Pred p ts) ≡ reach_all ts
unfolding reach
reach-Pred p ts = ap reach (sym (rolls-Pred p ts)) ∙ fold-roll-Term ℕ reach_step (Term-F.Pred p ts)

pub reach-Quant : (k : Kind) (sorts : List Sort) (t : Term) → reach (Quant k sorts t) ≡ reach t
unfolding reach
reach-Quant k sorts t = ap reach (sym (rolls-Quant k sorts t)) ∙ fold-roll-Term ℕ reach_step (Term-F.Quant k sorts t)

pub reach-Call : (k : ℕ) (ts : List Term) → reach (Call k ts) ≡ reach_all ts
unfolding reach
reach-Call k ts = ap reach (sym (rolls-Call k ts)) ∙ fold-roll-Term ℕ reach_step (Term-F.Call k ts)

-- terms that are joined reach no farther than the two
abbrev pub IsBounded : (Term → Term → Term) → Type 0
IsBounded join = (a b : Term) → reach (join a b) ≤ max (reach a) (reach b)

pub pair_bounded : (o : Op) → IsBounded (pair o)
pair_bounded o a b = let e = reach-App o (a ∷ b ∷ []) in omega arith

negated_reach : (t : Term) → reach (negated t) ≤ reach t
negated_reach t = let e = reach-App op.Not (t ∷ []) in omega arith

differ_bounded : IsBounded differ
differ_bounded a b = let e = negated_reach (pair op.Eq a b) in let f = pair_bounded op.Eq a b in omega arith

turned_bounded : (join : Term → Term → Term) → IsBounded join → IsBounded (turned join)
turned_bounded join bounded a b = let e = bounded b a in omega arith

joined_from_reach : (join : Term → Term → Term) → IsBounded join → (t : Term) (ts : List Term) → reach (joined_from join t ts) ≤ max (reach t) (reach_all ts)
joined_from_reach join bounded t [] = omega arith
joined_from_reach join bounded t (u ∷ us) =
    let rest = joined_from_reach join bounded (join t u) us in
    let first = bounded t u in
    omega arith

joined_left_reach : (join : Term → Term → Term) → IsBounded join → (ts : List Term) → reach (joined_left join ts) ≤ reach_all ts
joined_left_reach join bounded [] = let e = reach-Lit true in omega arith
joined_left_reach join bounded (t ∷ ts) = joined_from_reach join bounded t ts

sole_reach : (o : Op) (ts : List Term) → reach (sole o ts) ≤ reach_all ts
sole_reach o [] = let e = reach-App o [] in omega arith
sole_reach o (t ∷ []) = omega arith
sole_reach o (t ∷ u ∷ more) = let e = reach-App o (t ∷ u ∷ more) in omega arith

neighbours_reach : (join : Term → Term → Term) → IsBounded join → (ts : List Term) → reach_all (neighbours join ts) ≤ reach_all ts
neighbours_reach join bounded [] = omega arith
neighbours_reach join bounded (t ∷ []) = omega arith
neighbours_reach join bounded (t ∷ u ∷ more) =
    let first = bounded t u in
    let rest = neighbours_reach join bounded (u ∷ more) in
    omega arith

reach_all-append : (ts us : List Term) → reach_all (ts ++ us) ≡ max (reach_all ts) (reach_all us)
reach_all-append [] us = omega arith
reach_all-append (t ∷ ts) us = let rest = reach_all-append ts us in omega arith

with_each_reach : (join : Term → Term → Term) → IsBounded join → (t : Term) (ts : List Term) → reach_all (map (join t) ts) ≤ max (reach t) (reach_all ts)
with_each_reach join bounded t [] = omega arith
with_each_reach join bounded t (u ∷ us) =
    let first = bounded t u in
    let rest = with_each_reach join bounded t us in
    omega arith

all_pairs_reach : (join : Term → Term → Term) → IsBounded join → (ts : List Term) → reach_all (all_pairs join ts) ≤ reach_all ts
all_pairs_reach join bounded [] = omega arith
all_pairs_reach join bounded (t ∷ ts) =
    let first = with_each_reach join bounded t ts in
    let rest = all_pairs_reach join bounded ts in
    let both = reach_all-append (map (join t) ts) (all_pairs join ts) in
    omega arith

negated_before_last_reach : (ts : List Term) → reach_all (negated_before_last ts) ≤ reach_all ts
negated_before_last_reach [] = omega arith
negated_before_last_reach (t ∷ []) = omega arith
negated_before_last_reach (t ∷ u ∷ more) =
    let first = negated_reach t in
    let rest = negated_before_last_reach (u ∷ more) in
    omega arith

opposite_reach : (t : Term) → reach (opposite t) ≤ reach t
opposite_reach t = let e = pair_bounded op.Sub (Num (pos 0)) t in let zero = reach-Num (pos 0) in omega arith

difference_reach : (ts : List Term) → reach (difference ts) ≤ reach_all ts
difference_reach [] = let e = reach-Lit true in omega arith
difference_reach (t ∷ []) = let e = opposite_reach t in omega arith
difference_reach (t ∷ u ∷ more) = joined_left_reach (pair op.Sub) (pair_bounded op.Sub) (t ∷ u ∷ more)

of_one_reach : (f : Term → Term) → ((t : Term) → reach (f t) ≤ reach t) → (ts : List Term) → reach (of_one f ts) ≤ reach_all ts
of_one_reach f bounded [] = let e = reach-Lit true in omega arith
of_one_reach f bounded (t ∷ []) = let e = bounded t in omega arith
of_one_reach f bounded (t ∷ u ∷ more) = let e = reach-Lit true in omega arith

absolute_reach : (t : Term) → reach (absolute t) ≤ reach t
absolute_reach t =
    let below = pair_bounded op.Lt t (Num (pos 0)) in
    let zero = reach-Num (pos 0) in
    let other = opposite_reach t in
    let all = reach-App op.Ite (pair op.Lt t (Num (pos 0)) ∷ opposite t ∷ t ∷ []) in
    omega arith

divisible_reach : (n : ℤ) (t : Term) → reach (divisible n t) ≤ reach t
divisible_reach n t =
    let rest = pair_bounded op.Mod t (Num n) in
    let number = reach-Num n in
    let zero = reach-Num (pos 0) in
    let all = pair_bounded op.Eq (pair op.Mod t (Num n)) (Num (pos 0)) in
    omega arith

applied_reach : (o : Op) (ts : List Term) → reach (App o ts) ≤ reach_all ts
applied_reach o ts = let e = reach-App o ts in omega arith

joined_with : (o : Op) (ts us : List Term) → reach_all us ≤ reach_all ts → reach (sole o us) ≤ reach_all ts
joined_with o ts us few = let e = sole_reach o us in omega arith

applied_to : (o : Op) (ts us : List Term) → reach_all us ≤ reach_all ts → reach (App o us) ≤ reach_all ts
applied_to o ts us few = let e = applied_reach o us in omega arith

operation_reach : (o : ReadOp) (ts : List Term) → reach (operation o ts) ≤ reach_all ts
operation_reach read.Not ts = applied_reach op.Not ts
operation_reach read.Implies ts = applied_to op.Or ts (negated_before_last ts) (negated_before_last_reach ts)
operation_reach read.And ts = sole_reach op.And ts
operation_reach read.Or ts = sole_reach op.Or ts
operation_reach read.Xor ts = joined_left_reach differ differ_bounded ts
operation_reach read.Eq ts = joined_with op.And ts (neighbours (pair op.Eq) ts) (neighbours_reach (pair op.Eq) (pair_bounded op.Eq) ts)
operation_reach read.Distinct ts = joined_with op.And ts (all_pairs differ ts) (all_pairs_reach differ differ_bounded ts)
operation_reach read.Ite ts = applied_reach op.Ite ts
operation_reach read.Sub ts = difference_reach ts
operation_reach read.Add ts = joined_left_reach (pair op.Add) (pair_bounded op.Add) ts
operation_reach read.Mul ts = joined_left_reach (pair op.Mul) (pair_bounded op.Mul) ts
operation_reach read.Div ts = joined_left_reach (pair op.Div) (pair_bounded op.Div) ts
operation_reach read.Mod ts = applied_reach op.Mod ts
operation_reach read.Abs ts = of_one_reach absolute absolute_reach ts
operation_reach read.Le ts = joined_with op.And ts (neighbours (pair op.Le) ts) (neighbours_reach (pair op.Le) (pair_bounded op.Le) ts)
operation_reach read.Lt ts = joined_with op.And ts (neighbours (pair op.Lt) ts) (neighbours_reach (pair op.Lt) (pair_bounded op.Lt) ts)
operation_reach read.Ge ts =
    joined_with op.And ts (neighbours (turned (pair op.Le)) ts) (neighbours_reach (turned (pair op.Le)) (turned_bounded (pair op.Le) (pair_bounded op.Le)) ts)
operation_reach read.Gt ts =
    joined_with op.And ts (neighbours (turned (pair op.Lt)) ts) (neighbours_reach (turned (pair op.Lt)) (turned_bounded (pair op.Lt) (pair_bounded op.Lt)) ts)
operation_reach read.Select ts = applied_reach op.Select ts
operation_reach read.Store ts = applied_reach op.Store ts

constant_reach : (s : Option Sort) (ts : List Term) → reach (constant s ts) ≤ reach_all ts
constant_reach None ts = let e = reach-Lit true in omega arith
constant_reach (Some s) ts = applied_reach (op.Const s) ts

declared_reach : (s : Symbol) (ts : List Term) → reach (declared_term s ts) ≤ reach_all ts
declared_reach (symbol.Pred p params) ts = let e = reach-Pred p ts in omega arith
declared_reach (symbol.Def k f) ts = let e = reach-Call k ts in omega arith

-- what a head stands for reaches no farther than its arguments
pub head_reach : (h : Head) (ts : List Term) → reach (head_term h ts) ≤ reach_all ts
head_reach (head.Operator o) ts = operation_reach o ts
head_reach (head.Make d c) ts = applied_reach (op.Make d c) ts
head_reach (head.OfSort d c s) ts = applied_reach (op.Make d c) ts
head_reach (head.Get d c i) ts = applied_reach (op.Get d c i) ts
head_reach (head.Is d c) ts = applied_reach (op.Is d c) ts
head_reach (head.Divisible n) ts = of_one_reach (divisible n) (divisible_reach n) ts
head_reach (head.Constant s) ts = constant_reach (element_of s) ts
head_reach (head.Declared s) ts = declared_reach s ts

-- a moved variable
moved_within : (from up i : ℕ) → moved from up i ≤ i + up
moved_within from up i = by (nat_lt i from)
  where
    by : (b : Bool) → cond b i (i + up) ≤ i + up
    by true = omega arith
    by false = omega arith

module _ (from up : ℕ) where
  -- all variables of the term may move, and then it reaches by no more than that farther
  pub record Moves (t : Term) : Type 0 where
    pub can : reach t + up < 2 ^ 32 → can_shift t from up ≡ true
    pub goes : reach (shifted t from up) ≤ reach t + up

  all_can : (ts : List Term) → AllByRecursion Moves ts → reach_all ts + up < 2 ^ 32 → can_shift_all ts from up ≡ true
  all_can [] f room = refl
  all_can (t ∷ ts) f room =
      let first = f.0.can (omega arith) in
      let rest = all_can ts f.1 (omega arith) in
      ap (λ b. b && can_shift_all ts from up) first ∙ rest

  all_go : (ts : List Term) → AllByRecursion Moves ts → reach_all (shifted_all ts from up) ≤ reach_all ts + up
  all_go [] f = omega arith
  all_go (t ∷ ts) f = let first = f.0.goes in let rest = all_go ts f.1 in omega arith

  var_moves : (i : ℕ) → Moves (Var i)
  var_moves i =
      let here = reach-Var i in
      let there = reach-Var (moved from up i) in
      let within = moved_within from up i in
      let same = ap reach (shifted-Var from up i) in
      record {
        can = λ room. can_shift-Var from up i ∙ lt-ltb (moved from up i) (2 ^ 32) (omega arith);
        goes = omega arith;
      }

  moves : (t : Term) → Moves t
  moves = term_ind Moves (record {
    of_var = var_moves;
    of_num = λ n. let same = ap reach (shifted-Num from up n) in record { can = λ room. can_shift-Num from up n; goes = omega arith };
    of_lit = λ b. let same = ap reach (shifted-Lit from up b) in record { can = λ room. can_shift-Lit from up b; goes = omega arith };
    of_app = λ o ts f.
        let here = reach-App o ts in
        let there = ap reach (shifted-App from up o ts) ∙ reach-App o (shifted_all ts from up) in
        let all = all_go ts f in
        record { can = λ room. can_shift-App from up o ts ∙ all_can ts f (omega arith); goes = omega arith };
    of_pred = λ p ts f.
        let here = reach-Pred p ts in
        let there = ap reach (shifted-Pred from up p ts) ∙ reach-Pred p (shifted_all ts from up) in
        let all = all_go ts f in
        record { can = λ room. can_shift-Pred from up p ts ∙ all_can ts f (omega arith); goes = omega arith };
    of_quant = λ k sorts t f.
        let here = reach-Quant k sorts t in
        let there = ap reach (shifted-Quant from up k sorts t) ∙ reach-Quant k sorts (shifted t from up) in
        let one = f.goes in
        record { can = λ room. can_shift-Quant from up k sorts t ∙ f.can (omega arith); goes = omega arith };
    of_call = λ k ts f.
        let here = reach-Call k ts in
        let there = ap reach (shifted-Call from up k ts) ∙ reach-Call k (shifted_all ts from up) in
        let all = all_go ts f in
        record { can = λ room. can_shift-Call from up k ts ∙ all_can ts f (omega arith); goes = omega arith };
  })

pub shifts : (t : Term) (from up : ℕ) → reach t + up < 2 ^ 32 → IsTrue (can_shift t from up)
shifts t from up room = (moves from up t).can room

pub shifted_reach : (t : Term) (from up : ℕ) → reach (shifted t from up) ≤ reach t + up
shifted_reach t from up = (moves from up t).goes
