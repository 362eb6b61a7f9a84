-- Sizes, depths, charges and limits over the live predicates alone.
use Rattle.std.proofs.Common.{◌≡◌, ℕ, ◌+◌, max, Bool, true, false, cond, ◌||◌, is_none, List, [], ◌∷◌, ◌++◌, length, map, sum_by, count_by, Option, Some, None, option_map, refl, ap, sym, ◌∙◌, arith}
use Rattle.std.specs.Prelude.{nat_lt, nat_eq, ⊤}
use Rattle.std.specs.List.{list_any}
use Rattle.std.proofs.lemmas.Bool.{le-ltb, or_from}
use Rattle.std.proofs.lemmas.List.Sums.{sum_by-cons}
use Rattle.chc_sorts.specs.declared.sort.Sort.{Sort}
use Rattle.chc_sorts.specs.declared.op.Op.{Op}
use Rattle.chc_sorts.specs.declared.op.Op.TheVariants as op
use Rattle.chc_terms.specs.declared.term.Kind.TheVariants as kind
use Rattle.chc_terms.specs.declared.term.Term.{Term}
use Rattle.chc_terms.specs.declared.term.Term.TheVariants as term
use Rattle.chc_terms.specs.Counts.{size, size_all, depth, depth_all}
use Rattle.chc_terms.proofs.CountLaws.{size-App, size-Pred, size-Quant, size_all-cons, depth-App, depth-Pred, depth-Quant}
use Rattle.chc_elab.specs.Building.{sole}
use Rattle.chc_state.specs.declared.clause.Atom.{Atom}
use Rattle.chc_state.specs.declared.clause.Clause.{Clause}
use Rattle.chc_state.specs.declared.clause.PredDecl.{PredDecl}
use Rattle.chc_state.specs.Limits.{first_passed, filled_of_body, filled_of_head, args_of_head, charge_of_args, charge, width, is_too_deep, is_query, reserve, state_charge, live_count}
use Rattle.chc_state.proofs.Limiting.{WithinLimits-from_none, none_from-WithinLimits, none-filter}
use Rattle.read_again.specs.ClauseTerms.{atom_term, head_term, part_terms, implied_term, matrix_term, closed_term, assertion_of, clause_again}
use Rattle.read_again.specs.ClauseCounts.{IsReadable}
use Rattle.read_again.specs.LivePredicates.{live_preds, renumbered_atom, renumbered, clauses_again}
use Rattle.read_again.proofs.LiveNumbers.{count_more}

-- two terms with as many nodes and levels
record Like (t u : Term) : Type 0 where
  nodes : size t ≡ size u
  levels : depth t ≡ depth u

abbrev AllLike : List Term → List Term → Type 0
AllLike [] [] = ⊤
AllLike [] (u ∷ us) = ⊥
AllLike (t ∷ ts) [] = ⊥
AllLike (t ∷ ts) (u ∷ us) = Like t u × AllLike ts us

like_itself : (ts : List Term) → AllLike ts ts
like_itself [] = tt
like_itself (t ∷ ts) = (record { nodes = refl; levels = refl }, like_itself ts)

all_nodes : (ts us : List Term) → AllLike ts us → size_all ts ≡ size_all us
all_nodes [] [] h = refl
all_nodes [] (u ∷ us) h = absurd h
all_nodes (t ∷ ts) [] h = absurd h
all_nodes (t ∷ ts) (u ∷ us) h = omega (arith, size_all-cons t ts, size_all-cons u us, h.0.nodes, all_nodes ts us h.1)

all_levels : (ts us : List Term) → AllLike ts us → depth_all ts ≡ depth_all us
all_levels [] [] h = refl
all_levels [] (u ∷ us) h = absurd h
all_levels (t ∷ ts) [] h = absurd h
all_levels (t ∷ ts) (u ∷ us) h = ap (λ n. max n (depth_all ts)) h.0.levels ∙ ap (max (depth u)) (all_levels ts us h.1)

app_like : (o : Op) (ts us : List Term) → AllLike ts us → Like (term.App o ts) (term.App o us)
app_like o ts us h = record {
  nodes = size-App o ts ∙ ap (λ n. n + 1) (all_nodes ts us h) ∙ sym (size-App o us);
  levels = depth-App o ts ∙ ap (λ n. n + 1) (all_levels ts us h) ∙ sym (depth-App o us);
}

tail_like : (t u : Term) (ts us : List Term) → AllLike (t ∷ ts) (u ∷ us) → Like (sole op.And (t ∷ ts)) (sole op.And (u ∷ us))
tail_like t u [] [] h = h.0
tail_like t u [] (x ∷ us) h = absurd h.1
tail_like t u (x ∷ ts) [] h = absurd h.1
tail_like t u (x ∷ ts) (y ∷ us) h = app_like op.And (t ∷ x ∷ ts) (u ∷ y ∷ us) h

implied_like : (ts us : List Term) (head other : Term) → AllLike ts us → Like head other → Like (implied_term ts head) (implied_term us other)
implied_like [] [] head other h k = k
implied_like [] (u ∷ us) head other h k = absurd h
implied_like (t ∷ ts) [] head other h k = absurd h
implied_like (t ∷ ts) (u ∷ us) head other h k =
    let left = sole op.And (t ∷ ts) in
    let right = sole op.And (u ∷ us) in
    app_like op.Or (term.App op.Not (left ∷ []) ∷ head ∷ []) (term.App op.Not (right ∷ []) ∷ other ∷ [])
    (app_like op.Not (left ∷ []) (right ∷ []) (tail_like t u ts us h, tt), (k, tt))

closed_like : (vars : List Sort) (t u : Term) → Like t u → Like (closed_term vars t) (closed_term vars u)
closed_like [] t u h = h
closed_like (s ∷ sorts) t u h = record {
  nodes = size-Quant kind.Forall (s ∷ sorts) t ∙ ap (λ n. n + 1) h.nodes ∙ sym (size-Quant kind.Forall (s ∷ sorts) u);
  levels = depth-Quant kind.Forall (s ∷ sorts) t ∙ ap (λ n. n + 1) h.levels ∙ sym (depth-Quant kind.Forall (s ∷ sorts) u);
}

module _ (preds : List PredDecl) where
  atom_like : (a : Atom) → Like (atom_term (renumbered_atom preds a)) (atom_term a)
  atom_like a = record {
    nodes = size-Pred (renumbered_atom preds a).pred a.args ∙ sym (size-Pred a.pred a.args);
    levels = depth-Pred (renumbered_atom preds a).pred a.args ∙ sym (depth-Pred a.pred a.args);
  }

  head_like : (head : Option Atom) → Like (head_term (option_map (renumbered_atom preds) head)) (head_term head)
  head_like None = record { nodes = refl; levels = refl }
  head_like (Some a) = atom_like a

  parts_like : (body : List Atom) (ts : List Term) → AllLike (map atom_term (map (renumbered_atom preds) body) ++ ts) (map atom_term body ++ ts)
  parts_like [] ts = like_itself ts
  parts_like (a ∷ body) ts = (atom_like a, parts_like body ts)

  renumbered_like : (c : Clause) → Like (assertion_of (renumbered preds c)) (assertion_of c)
  renumbered_like c =
      closed_like c.vars (matrix_term (renumbered preds c)) (matrix_term c)
      (implied_like (part_terms (renumbered preds c)) (part_terms c) (head_term (renumbered preds c).head) (head_term c.head) (parts_like c.body c.conj) (head_like c.head))

  -- what depends on arguments alone
  sum_kept : (f : List Term → ℕ) (body : List Atom) → sum_by (λ (a : Atom). f a.args) (map (renumbered_atom preds) body) ≡ sum_by (λ (a : Atom). f a.args) body
  sum_kept f [] = refl
  sum_kept f (a ∷ body) =
      sum_by-cons (λ (b : Atom). f b.args) (renumbered_atom preds a) (map (renumbered_atom preds) body)
      ∙ ap (λ n. f a.args + n) (sum_kept f body)
      ∙ sym (sum_by-cons (λ (b : Atom). f b.args) a body)

  any_kept : (test : List Term → Bool) (body : List Atom) → list_any (λ (a : Atom). test a.args) (map (renumbered_atom preds) body) ≡ list_any (λ (a : Atom). test a.args) body
  any_kept test [] = refl
  any_kept test (a ∷ body) = ap (λ b. test a.args || b) (any_kept test body)

  as_many : (body : List Atom) → length (map (renumbered_atom preds) body) ≡ length body
  as_many [] = refl
  as_many (a ∷ body) = omega (arith, as_many body)

  args_kept : (head : Option Atom) → args_of_head (option_map (renumbered_atom preds) head) ≡ args_of_head head
  args_kept None = refl
  args_kept (Some a) = refl

  filled_kept : (head : Option Atom) → filled_of_head (option_map (renumbered_atom preds) head) ≡ filled_of_head head
  filled_kept None = refl
  filled_kept (Some a) = refl

  query_kept : (head : Option Atom) → is_none (option_map (renumbered_atom preds) head) ≡ is_none head
  query_kept None = refl
  query_kept (Some a) = refl

  abbrev again : Clause → Clause
  again c = renumbered preds (clause_again c)

  charge_kept : (c : Clause) → charge (again c) ≡ charge c
  charge_kept c =
      ap (λ n. size_all c.conj + n + charge_of_args (args_of_head (again c).head) (filled_of_head (again c).head)) (sum_kept (λ ts. charge_of_args ts (filled_of_body ts)) c.body)
      ∙ ap (λ n. size_all c.conj + sum_by (λ (a : Atom). charge_of_args a.args (filled_of_body a.args)) c.body + n)
      (ap (λ ts. charge_of_args ts (filled_of_head (again c).head)) (args_kept c.head) ∙ ap (charge_of_args (args_of_head c.head)) (filled_kept c.head))

  width_kept : (c : Clause) → width (again c) ≡ width c
  width_kept c =
      ap (λ n. length c.vars + n + length (filled_of_head (again c).head)) (sum_kept (λ ts. length (filled_of_body ts)) c.body)
      ∙ ap (λ ts. length c.vars + sum_by (λ (a : Atom). length (filled_of_body a.args)) c.body + length ts) (filled_kept c.head)

  deep_kept : (c : Clause) → is_too_deep (again c) ≡ is_too_deep c
  deep_kept c =
      ap (λ b. nat_lt 900 (depth_all c.conj) || b || nat_lt 899 (depth_all (args_of_head (again c).head))) (any_kept (λ ts. nat_lt 899 (depth_all ts)) c.body)
      ∙ ap (λ ts. nat_lt 900 (depth_all c.conj) || list_any (λ (a : Atom). nat_lt 899 (depth_all a.args)) c.body || nat_lt 899 (depth_all ts)) (args_kept c.head)

  -- tests and sums that say the same of clauses again
  tests_kept : (test : Clause → Bool) → ((c : Clause) → test (again c) ≡ test c) → (cs : List Clause) → list_any test (clauses_again preds cs) ≡ list_any test cs
  tests_kept test same [] = refl
  tests_kept test same (c ∷ cs) = ap (λ b. b || list_any test (clauses_again preds cs)) (same c) ∙ ap (λ b. test c || b) (tests_kept test same cs)

  sums_kept : (f : Clause → ℕ) → ((c : Clause) → f (again c) ≡ f c) → (cs : List Clause) → sum_by f (clauses_again preds cs) ≡ sum_by f cs
  sums_kept f same [] = refl
  sums_kept f same (c ∷ cs) =
      sum_by-cons f (again c) (clauses_again preds cs)
      ∙ ap (λ n. n + sum_by f (clauses_again preds cs)) (same c) ∙ ap (λ n. f c + n) (sums_kept f same cs)
      ∙ sym (sum_by-cons f c cs)

  clauses_kept : (cs : List Clause) → length (clauses_again preds cs) ≡ length cs
  clauses_kept [] = refl
  clauses_kept (c ∷ cs) = omega (arith, clauses_kept cs)

  queries_kept : (cs : List Clause) → count_by is_query (clauses_again preds cs) ≡ count_by is_query cs
  queries_kept = sums_kept (λ c. cond (is_query c) 1 0) (λ c. ap (λ b. cond b 1 0) (query_kept c.head))

  reserve_kept : (n : ℕ) (cs : List Clause) → reserve n (clauses_again preds cs) ≡ reserve n cs
  reserve_kept n cs = ap (λ m. cond (nat_eq m 1) 0 n) (queries_kept cs)

  state_charge_kept : (cs : List Clause) → state_charge (clauses_again preds cs) ≡ state_charge cs
  state_charge_kept cs = ap (λ n. n + reserve 2 (clauses_again preds cs)) (sums_kept charge charge_kept cs) ∙ ap (λ n. sum_by charge cs + n) (reserve_kept 2 cs)

  light : (cs : List Clause) → list_any (λ (c : Clause). nat_lt 4096 c.weight) (clauses_again preds cs) ≡ false
  light [] = refl
  light (c ∷ cs) = or_from (nat_lt 4096 1) (list_any (λ (d : Clause). nat_lt 4096 d.weight) (clauses_again preds cs)) (le-ltb 4096 1 (omega arith)) (light cs)

-- as many predicates are live
live_count_kept : (preds : List PredDecl) → live_count (live_preds preds) ≡ live_count preds
live_count_kept [] = refl
live_count_kept (d ∷ ds) = by_test d.live refl (live_count_kept ds) ∙ sym (count_more d ds)
  where
    by_test : (b : Bool) → d.live ≡ b → live_count (live_preds ds) ≡ live_count ds → live_count (cond b (d ∷ live_preds ds) (live_preds ds)) ≡ cond d.live 1 0 + live_count ds
    by_test true e h = count_more d (live_preds ds) ∙ ap (λ n. cond d.live 1 0 + n) h
    by_test false e h = h ∙ nothing_more (live_count ds) ∙ ap (λ b. cond b 1 0 + live_count ds) (sym e)
      where
        nothing_more : (n : ℕ) → n ≡ 0 + n
        nothing_more n = omega arith

-- the assertion of a clause whose predicates are renumbered is as large and as deep as that of the clause
pub renumbered_are_readable : (preds : List PredDecl) (c : Clause) → IsReadable c → IsReadable (renumbered preds c)
renumbered_are_readable preds c h =
    let same = renumbered_like preds c in
    record { nodes = omega (arith, same.nodes, h.nodes); levels = omega (arith, same.levels, h.levels) }

-- the live predicates alone and the clauses as a script has them pass no limit that all predicates and clauses don't
pub stays_within : (preds : List PredDecl) (cs : List Clause) → first_passed preds cs ≡ None → first_passed (live_preds preds) (clauses_again preds cs) ≡ None
stays_within preds cs h =
    let w = WithinLimits-from_none preds cs h in
    none_from-WithinLimits (live_preds preds) (clauses_again preds cs) (record {
      deep = tests_kept preds is_too_deep (deep_kept preds) cs ∙ w.deep;
      charges = tests_kept preds (λ c. nat_lt 262144 (charge c)) (λ c. ap (nat_lt 262144) (charge_kept preds c)) cs ∙ w.charges;
      all_charges = ap (nat_lt 4194304) (state_charge_kept preds cs) ∙ w.all_charges;
      predicates = ap (λ n. nat_lt 65536 (n + reserve 1 (clauses_again preds cs))) (live_count_kept preds)
          ∙ ap (λ n. nat_lt 65536 (live_count preds + n)) (reserve_kept preds 1 cs) ∙ w.predicates;
      positions = none-filter (λ (d : PredDecl). nat_lt 1024 (length d.sorts)) (λ (d : PredDecl). d.live) preds w.positions;
      clauses = ap (λ n. nat_lt 65536 (n + reserve 1 (clauses_again preds cs))) (clauses_kept preds cs)
          ∙ ap (λ n. nat_lt 65536 (length cs + n)) (reserve_kept preds 1 cs) ∙ w.clauses;
      widths = tests_kept preds (λ c. nat_lt 4096 (width c)) (λ c. ap (nat_lt 4096) (width_kept preds c)) cs ∙ w.widths;
      bodies = tests_kept preds (λ (c : Clause). nat_lt 256 (length c.body)) (λ c. ap (nat_lt 256) (as_many preds c.body)) cs ∙ w.bodies;
      weights = light preds cs;
    })
