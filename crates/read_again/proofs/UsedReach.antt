-- How far a state reaches is one more than the greatest datatype that it names.
use Rattle.std.proofs.Common.{◌≡◌, ◌∙◌, ◌⊎◌, inl, inr, sym, ap, refl, ℕ, ◌+◌, ◌≤◌, ◌<◌, max, Bool, true, false, List, [], ◌∷◌, ◌++◌, map, Option, Some, None, arith}
use Rattle.std.specs.Prelude.{if◌then◌else◌}
use Rattle.std.specs.List.{AllByRecursion, flat_map, concat}
use Rattle.std.proofs.lemmas.Bool.{cases_lt}
use Rattle.chc_sorts.specs.declared.sort.Sort.{Sort, Sort-F, fold-roll-Sort}
use Rattle.chc_sorts.specs.declared.sort.Sort.TheVariants as sort
use Rattle.chc_sorts.specs.declared.op.Op.{Op}
use Rattle.chc_sorts.specs.declared.op.Op.TheVariants as op
use Rattle.chc_sorts.proofs.SameSort.{sort_ind}
use Rattle.chc_terms.specs.Counts.{greatest}
use Rattle.chc_terms.specs.declared.term.Term.{Term, Term-F, roll-Term, fold-roll-Term}
use Rattle.chc_terms.specs.declared.term.Term.TheVariants.{Var, Num, Lit, App, Pred, Quant, Call, rolls-Var, rolls-Num, rolls-Lit, rolls-App, rolls-Pred, rolls-Quant, rolls-Call}
use Rattle.chc_terms.proofs.Induction.{term_ind}
use Rattle.chc_state.specs.declared.clause.Atom.{Atom}
use Rattle.chc_state.specs.declared.clause.Clause.{Clause}
use Rattle.chc_state.specs.declared.clause.PredDecl.{PredDecl}
use Rattle.chc_state.specs.Meaning.{In}
use Rattle.chc_state.specs.States.{StateView}
use Rattle.chc_print.specs.Reach.{sort_reach_step, sort_reach, sorts_reach, op_reach, term_reach_step, term_reach, terms_reach, atom_reach, head_reach, clause_reach, decl_reach, state_reach}
use Rattle.term_again.proofs.TermReach.{reach-Data, reach-Array}
use Rattle.read_again.specs.UsedDatatypes.{sort_datatypes_step, sort_datatypes, sorts_datatypes, op_datatypes, term_datatypes_step, term_datatypes, head_args, clause_terms, IsUsed}

-- ---- the greatest of what is counted

module _ {X : Type 0} (count : X → ℕ) where
  abbrev most : List X → ℕ
  most xs = greatest (map count xs)

  most_both : (xs ys : List X) → most (xs ++ ys) ≡ max (most xs) (most ys)
  most_both [] ys = omega arith
  most_both (x ∷ xs) ys = omega (arith, most_both xs ys)

  pub at_most : (xs : List X) (x : X) → In x xs → count x ≤ most xs
  at_most [] x h = absurd h
  at_most (y ∷ xs) x (inl e) = omega (arith, ap count e)
  at_most (y ∷ xs) x (inr h) = omega (arith, at_most xs x h)

  pub most_within : (n : ℕ) (xs : List X) → ((x : X) → In x xs → count x ≤ n) → most xs ≤ n
  most_within n [] h = omega arith
  most_within n (x ∷ xs) h = omega (arith, h x (inl refl), most_within n xs (λ y i. h y (inr i)))

  -- where it isn't 0, it is that of a member
  most_at : (xs : List X) → 0 < most xs → (x : X) × In x xs × (count x ≡ most xs)
  most_at [] h = absurd (omega (arith, h))
  most_at (x ∷ xs) h = by (cases_lt (count x) (most xs)) (most_at xs)
    where
      by : (count x < most xs) ⊎ (most xs ≤ count x) → (0 < most xs → (y : X) × In y xs × (count y ≡ most xs)) → (y : X) × In y (x ∷ xs) × (count y ≡ most (x ∷ xs))
      by (inl l) rest = let r = rest (omega (arith, l)) in let same = r.2 in (r.0, inr r.1, omega (arith, same, l))
      by (inr l) rest = (x, inl refl, omega (arith, l))

-- one more than the greatest of the numbers, or 0
abbrev pub reach_of : List ℕ → ℕ
reach_of ds = greatest (map (λ d. d + 1) ds)

reach_both : (xs ys : List ℕ) → reach_of (xs ++ ys) ≡ max (reach_of xs) (reach_of ys)
reach_both = most_both (λ d. d + 1)

reach_flat : {X : Type 0} (reach : X → ℕ) (names : X → List ℕ) → ((x : X) → reach x ≡ reach_of (names x)) → (xs : List X) → greatest (map reach xs) ≡ reach_of (flat_map names xs)
reach_flat reach names each [] = refl
reach_flat reach names each (x ∷ xs) = omega (arith, each x, reach_flat reach names each xs, reach_both (names x) (flat_map names xs))

-- ---- sorts and operators

pub sort_reaches : (s : Sort) → sort_reach s ≡ reach_of (sort_datatypes s)
sort_reaches = sort_ind (λ s. sort_reach s ≡ reach_of (sort_datatypes s)) (record {
  of_bool = ap sort_reach (sym sort.rolls-Bool) ∙ fold-roll-Sort ℕ sort_reach_step Sort-F.Bool
      ∙ sym (ap reach_of (ap sort_datatypes (sym sort.rolls-Bool) ∙ fold-roll-Sort (List ℕ) sort_datatypes_step Sort-F.Bool));
  of_int = ap sort_reach (sym sort.rolls-Int) ∙ fold-roll-Sort ℕ sort_reach_step Sort-F.Int
      ∙ sym (ap reach_of (ap sort_datatypes (sym sort.rolls-Int) ∙ fold-roll-Sort (List ℕ) sort_datatypes_step Sort-F.Int));
  of_data = λ d. reach-Data d ∙ alone d ∙ sym (ap reach_of (ap sort_datatypes (sym (sort.rolls-Data d)) ∙ fold-roll-Sort (List ℕ) sort_datatypes_step (Sort-F.Data d)));
  of_array = λ s ih. reach-Array s ∙ ih ∙ sym (ap reach_of (ap sort_datatypes (sym (sort.rolls-Array s)) ∙ fold-roll-Sort (List ℕ) sort_datatypes_step (Sort-F.Array s)));
})
  where
    alone : (d : ℕ) → d + 1 ≡ reach_of (d ∷ [])
    alone d = omega arith

sorts_reaches : (ss : List Sort) → sorts_reach ss ≡ reach_of (sorts_datatypes ss)
sorts_reaches = reach_flat sort_reach sort_datatypes sort_reaches

op_reaches : (o : Op) → op_reach o ≡ reach_of (op_datatypes o)
op_reaches (op.Const element) = sort_reaches element
op_reaches (op.Make d c) = omega arith
op_reaches (op.Get d c i) = omega arith
op_reaches (op.Is d c) = omega arith
op_reaches op.Not = refl
op_reaches op.And = refl
op_reaches op.Or = refl
op_reaches op.Eq = refl
op_reaches op.Ite = refl
op_reaches op.Add = refl
op_reaches op.Sub = refl
op_reaches op.Mul = refl
op_reaches op.Div = refl
op_reaches op.Mod = refl
op_reaches op.Le = refl
op_reaches op.Lt = refl
op_reaches op.Select = refl
op_reaches op.Store = refl

-- ---- terms

abbrev Reaches : Term → Type 0
Reaches t = term_reach t ≡ reach_of (term_datatypes t)

parts_reach : (ts : List Term) → AllByRecursion Reaches ts → terms_reach ts ≡ reach_of (concat (map term_datatypes ts))
parts_reach [] ih = refl
parts_reach (t ∷ ts) ih = omega (arith, ih.0, parts_reach ts ih.1, reach_both (term_datatypes t) (concat (map term_datatypes ts)))

by_level : (t : Term) (level : Term-F Term) (n : ℕ) (ds : List ℕ) → roll-Term level ≡ t → term_reach (roll-Term level) ≡ n → term_datatypes (roll-Term level) ≡ ds → n ≡ reach_of ds → Reaches t
by_level t level n ds e reach names same = ap term_reach (sym e) ∙ reach ∙ same ∙ sym (ap reach_of (ap term_datatypes (sym e) ∙ names))

pub term_reaches : (t : Term) → Reaches t
term_reaches = term_ind Reaches (record {
  of_var = λ i. by_level (Var i) (Term-F.Var i) 0 [] (rolls-Var i) (fold-roll-Term ℕ term_reach_step (Term-F.Var i)) (fold-roll-Term (List ℕ) term_datatypes_step (Term-F.Var i)) refl;
  of_num = λ n. by_level (Num n) (Term-F.Num n) 0 [] (rolls-Num n) (fold-roll-Term ℕ term_reach_step (Term-F.Num n)) (fold-roll-Term (List ℕ) term_datatypes_step (Term-F.Num n)) refl;
  of_lit = λ b. by_level (Lit b) (Term-F.Lit b) 0 [] (rolls-Lit b) (fold-roll-Term ℕ term_reach_step (Term-F.Lit b)) (fold-roll-Term (List ℕ) term_datatypes_step (Term-F.Lit b)) refl;
  of_app = λ o ts ih.
      by_level (App o ts) (Term-F.App o ts) (max (op_reach o) (terms_reach ts)) (op_datatypes o ++ concat (map term_datatypes ts)) (rolls-App o ts)
      (fold-roll-Term ℕ term_reach_step (Term-F.App o ts)) (fold-roll-Term (List ℕ) term_datatypes_step (Term-F.App o ts))
      (omega (arith, op_reaches o, parts_reach ts ih, reach_both (op_datatypes o) (concat (map term_datatypes ts))));
  of_pred = λ p ts ih.
      by_level (Pred p ts) (Term-F.Pred p ts) (terms_reach ts) (concat (map term_datatypes ts)) (rolls-Pred p ts)
      (fold-roll-Term ℕ term_reach_step (Term-F.Pred p ts)) (fold-roll-Term (List ℕ) term_datatypes_step (Term-F.Pred p ts)) (parts_reach ts ih);
  of_quant = λ k sorts t ih.
      by_level (Quant k sorts t) (Term-F.Quant k sorts t) (max (sorts_reach sorts) (term_reach t)) (sorts_datatypes sorts ++ term_datatypes t) (rolls-Quant k sorts t)
      (fold-roll-Term ℕ term_reach_step (Term-F.Quant k sorts t)) (fold-roll-Term (List ℕ) term_datatypes_step (Term-F.Quant k sorts t))
      (omega (arith, sorts_reaches sorts, ih, reach_both (sorts_datatypes sorts) (term_datatypes t)));
  of_call = λ k ts ih.
      by_level (Call k ts) (Term-F.Call k ts) (terms_reach ts) (concat (map term_datatypes ts)) (rolls-Call k ts)
      (fold-roll-Term ℕ term_reach_step (Term-F.Call k ts)) (fold-roll-Term (List ℕ) term_datatypes_step (Term-F.Call k ts)) (parts_reach ts ih);
})

-- ---- clauses

atoms_reach : (body : List Atom) → greatest (map atom_reach body) ≡ terms_reach (flat_map (λ (a : Atom). a.args) body)
atoms_reach [] = refl
atoms_reach (a ∷ body) = omega (arith, atoms_reach body, most_both term_reach a.args (flat_map (λ (a : Atom). a.args) body))

head_reaches : (head : Option Atom) → head_reach head ≡ terms_reach (head_args head)
head_reaches None = refl
head_reaches (Some a) = refl

-- a clause reaches as far as its variables and its terms
pub clause_reaches : (c : Clause) → clause_reach c ≡ max (sorts_reach c.vars) (terms_reach (clause_terms c))
clause_reaches c =
    let args : List Term = flat_map (λ (a : Atom). a.args) c.body in
    omega (arith, atoms_reach c.body, head_reaches c.head, most_both term_reach (c.conj ++ args) (head_args c.head), most_both term_reach c.conj args)

-- ---- states

live_reach : (p : PredDecl) → p.live ≡ true → decl_reach p ≡ sorts_reach p.sorts
live_reach p live = ap (λ b. if b then sorts_reach p.sorts else 0) live

module _ (s : StateView) where
  -- what it names is within its reach
  pub position_within : (p : PredDecl) (d : ℕ) → In p s.preds → p.live ≡ true → In d (sorts_datatypes p.sorts) → d + 1 ≤ state_reach s
  position_within p d there live names =
      omega (arith, at_most (λ d. d + 1) (sorts_datatypes p.sorts) d names, sorts_reaches p.sorts, live_reach p live, at_most decl_reach s.preds p there)

  pub variable_within : (c : Clause) (d : ℕ) → In c s.clauses → In d (sorts_datatypes c.vars) → d + 1 ≤ state_reach s
  variable_within c d there names =
      omega (arith, at_most (λ d. d + 1) (sorts_datatypes c.vars) d names, sorts_reaches c.vars, clause_reaches c, at_most clause_reach s.clauses c there)

  pub term_within : (c : Clause) (t : Term) (d : ℕ) → In c s.clauses → In t (clause_terms c) → In d (term_datatypes t) → d + 1 ≤ state_reach s
  term_within c t d there among names =
      omega (arith, at_most (λ d. d + 1) (term_datatypes t) d names, term_reaches t, at_most term_reach (clause_terms c) t among, clause_reaches c, at_most clause_reach s.clauses c there)

  -- a used datatype that reaches as far
  abbrev pub UsedTo : ℕ → Type 0
  UsedTo reach = (d : ℕ) × IsUsed s d × (d + 1 ≡ reach)

  positions_top : (p : PredDecl) → In p s.preds → (b : Bool) → p.live ≡ b → 0 < decl_reach p → UsedTo (decl_reach p)
  positions_top p there true live some =
      let reach = live_reach p live ∙ sorts_reaches p.sorts in
      let top = most_at (λ d. d + 1) (sorts_datatypes p.sorts) (omega (arith, reach, some)) in
      (top.0, IsUsed.of_position p top.0 there live top.1, top.2 ∙ sym reach)
  positions_top p there false dead some = absurd (omega (arith, some, ap (λ b. if b then sorts_reach p.sorts else 0) dead))

  variables_top : (c : Clause) → In c s.clauses → 0 < sorts_reach c.vars → UsedTo (sorts_reach c.vars)
  variables_top c there some =
      let top = most_at (λ d. d + 1) (sorts_datatypes c.vars) (omega (arith, sorts_reaches c.vars, some)) in
      (top.0, IsUsed.of_variable c top.0 there top.1, top.2 ∙ sym (sorts_reaches c.vars))

  terms_top : (c : Clause) → In c s.clauses → 0 < terms_reach (clause_terms c) → UsedTo (terms_reach (clause_terms c))
  terms_top c there some =
      let t = most_at term_reach (clause_terms c) some in
      let far = t.2 in
      let top = most_at (λ d. d + 1) (term_datatypes t.0) (omega (arith, term_reaches t.0, far, some)) in
      (top.0, IsUsed.of_term c t.0 top.0 there t.1 top.1, top.2 ∙ sym (term_reaches t.0) ∙ far)

  farther : (a b : ℕ) → (0 < a → UsedTo a) → (0 < b → UsedTo b) → 0 < max a b → UsedTo (max a b)
  farther a b of_a of_b some = by (cases_lt a b)
    where
      by : (a < b) ⊎ (b ≤ a) → UsedTo (max a b)
      by (inl l) = let u = of_b (omega (arith, l)) in let same = u.2 in (u.0, u.1, omega (arith, same, l))
      by (inr l) = let u = of_a (omega (arith, l, some)) in let same = u.2 in (u.0, u.1, omega (arith, same, l))

  clause_top : (c : Clause) → In c s.clauses → 0 < clause_reach c → UsedTo (clause_reach c)
  clause_top c there some =
      let is = clause_reaches c in
      let u = farther (sorts_reach c.vars) (terms_reach (clause_terms c)) (variables_top c there) (terms_top c there) (omega (arith, is, some)) in
      (u.0, u.1, u.2 ∙ sym is)

  -- the last datatype within its reach is used
  pub state_top : 0 < state_reach s → UsedTo (state_reach s)
  state_top some = farther (greatest (map decl_reach s.preds)) (greatest (map clause_reach s.clauses)) of_positions of_clauses some
    where
      of_positions : 0 < greatest (map decl_reach s.preds) → UsedTo (greatest (map decl_reach s.preds))
      of_positions some =
          let p = most_at decl_reach s.preds some in
          let far = p.2 in
          let u = positions_top p.0 p.1 p.0.live refl (omega (arith, far, some)) in
          (u.0, u.1, u.2 ∙ far)

      of_clauses : 0 < greatest (map clause_reach s.clauses) → UsedTo (greatest (map clause_reach s.clauses))
      of_clauses some =
          let c = most_at clause_reach s.clauses some in
          let far = c.2 in
          let u = clause_top c.0 c.1 (omega (arith, far, some)) in
          (u.0, u.1, u.2 ∙ far)
