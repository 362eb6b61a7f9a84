-- The lines of clauses assert them, where each is written as a tree of its own assertion.
use Rattle.std.proofs.Common.{◌≡◌, ◌∙◌, sym, ap, refl, subst, ℕ, ◌+◌, ◌≤◌, Bool, true, false, cond, nat_lt, List, [], ◌∷◌, ◌++◌, length, map, sum_by, Some, None, Ok, codes, append_assoc, arith}
use Rattle.std.specs.List.{list_any, concat}
use Rattle.std.proofs.lemmas.Bool.{or_parts}
use Rattle.std.proofs.lemmas.Bool.Decides.{nat_tests}
use Rattle.std.proofs.lemmas.List.{append-nil, length-append}
use Rattle.std.proofs.lemmas.List.Sums.{sum_by-append, sum_by-cons}
use Rattle.std.proofs.lemmas.List.Folds.{list_any-append}
use Rattle.chc_sorts.specs.declared.sort.Sort.TheVariants as sort
use Rattle.chc_sorts.specs.declared.limit.Limit.{Limit}
use Rattle.chc_sorts.specs.declared.limit.Limit.TheVariants as limit
use Rattle.chc_sorts.specs.Signature.{Signature}
use Rattle.chc_sexpr.specs.declared.tree.Tree.{Tree, out-Tree}
use Rattle.chc_sexpr.specs.declared.tree.Tree.TheVariants.{Group}
use Rattle.chc_sexpr.specs.Shapes.{form_of}
use Rattle.chc_sexpr.proofs.Written.{Writes}
use Rattle.chc_terms.specs.declared.term.Term.{Term}
use Rattle.chc_sorts.proofs.SameSort.{same_itself}
use Rattle.chc_sexpr.specs.declared.fault.Fault.TheVariants.{WrongSort}
use Rattle.chc_elab.specs.Sites.{Reading, Setting, faulty, ◌>>>◌}
use Rattle.chc_elab.specs.SortTrees.{place_at}
use Rattle.chc_elab.specs.Reads.{elaborated_with_sort}
use Rattle.chc_state.specs.declared.clause.Clause.{Clause}
use Rattle.chc_state.specs.declared.clause.PredDecl.{PredDecl}
use Rattle.chc_state.specs.Limits.{charge, width, is_too_deep, reserve, state_charge, first_true}
use Rattle.chc_state.proofs.Limiting.{WithinLimits}
use Rattle.chc_script.specs.declared.whole.progress.Progress.{Progress}
use Rattle.chc_script.specs.declared.whole.progress.Progress.TheVariants as progress
use Rattle.chc_script.specs.Horn.{clause_of}
use Rattle.chc_script.specs.Drafts.{DraftView, PredicatesView, AssertedView, with_asserted, with_assertion, setting, held_to, passed_by_clause, passed_by_all}
use Rattle.chc_script.specs.Asserts.{condition, clause_at, clause_added, assertion_added}
use Rattle.chc_script.specs.WholeScripts.{command_at}
use Rattle.chc_print.specs.Texts.{Names}
use Rattle.chc_print.specs.Script.{matrix_text, closed as closed_text, clause_text}
use Rattle.term_again.proofs.TermTrees.{Begins, IsNone, writes_wider, last_at, group_writes}
use Rattle.read_again.proofs.TreesInOrder.{first_at}
use Rattle.read_again.proofs.WrittenSorts.{IsNamed, writes_word}
use Rattle.read_again.proofs.WrittenGroups.{form_of-Group}
use Rattle.read_again.proofs.Lines.{Turns, Runs, runs_same, runs_line}

-- ---- limits

below_bound : (bound a b : ℕ) → b ≤ a → nat_lt bound a ≡ false → nat_lt bound b ≡ false
below_bound bound a b less h = grind (arith, nat_tests)

-- what no clause of the list passes, one in the midst of it doesn't
one_of : (test : Clause → Bool) (before : List Clause) (c : Clause) (after : List Clause) → list_any test (before ++ c ∷ after) ≡ false → test c ≡ false
one_of test before c after h =
    let parts = or_parts (list_any test before) (list_any test (c ∷ after)) (sym (list_any-append test before (c ∷ after)) ∙ h) in
    (or_parts (test c) (list_any test after) parts.1).0

-- the tests of a new clause
record Passes (before : List Clause) (c : Clause) : Type 0 where
  deep : is_too_deep c ≡ false
  heavy : nat_lt 262144 (charge c) ≡ false
  sum : nat_lt 4194304 (sum_by charge (before ++ c ∷ [])) ≡ false
  many : nat_lt 65536 (length (before ++ c ∷ [])) ≡ false
  wide : nat_lt 4096 (width c) ≡ false
  long : nat_lt 256 (length c.body) ≡ false

abbrev row_list : Bool → Bool → Bool → Bool → Bool → Bool → List (Bool × Limit)
row_list a b c d e f = (a, limit.L4) ∷ (b, limit.L5) ∷ (c, limit.L6) ∷ (d, limit.L9) ∷ (e, limit.L10) ∷ (f, limit.L11) ∷ []

none_passed : (before : List Clause) (c : Clause) → Passes before c → passed_by_clause before c ≡ None
none_passed before c h = λ i. first_true (row_list (h.deep i) (h.heavy i) (h.sum i) (h.many i) (h.wide i) (h.long i))

clause_passes : (preds : List PredDecl) (before : List Clause) (c : Clause) (after : List Clause) → WithinLimits preds (before ++ c ∷ after) → passed_by_clause before c ≡ None
clause_passes preds before c after h =
    let all : List Clause = before ++ c ∷ after in
    let split = sum_by-append charge before (c ∷ after) in
    let first = sum_by-append charge before (c ∷ []) in
    let head = sum_by-cons charge c after in
    let one = sum_by-cons charge c [] in
    let lengths = length-append before (c ∷ after) in
    let counted = length-append before (c ∷ []) in
    none_passed before c (record {
      deep = one_of is_too_deep before c after h.deep;
      heavy = one_of (λ e. nat_lt 262144 (charge e)) before c after h.charges;
      sum = below_bound 4194304 (state_charge all) (sum_by charge (before ++ c ∷ [])) (omega (arith, split, first, head, one)) h.all_charges;
      many = below_bound 65536 (length all + reserve 1 all) (length (before ++ c ∷ [])) (omega (arith, lengths, counted)) h.clauses;
      wide = one_of (λ e. nat_lt 4096 (width e)) before c after h.widths;
      long = one_of (λ (e : Clause). nat_lt 256 (length e.body)) before c after h.bodies;
    })

abbrev end_rows : Bool → Bool → Bool → List (Bool × Limit)
end_rows a b c = (a, limit.L6) ∷ (b, limit.L7) ∷ (c, limit.L9) ∷ []

pub whole_passes : (preds : List PredDecl) (cs : List Clause) → WithinLimits preds cs → passed_by_all preds cs ≡ None
whole_passes preds cs h = λ i. first_true (end_rows (h.all_charges i) (h.predicates i) (h.clauses i))

-- ---- one assertion

-- the tree is the assertion
abbrev pub IsCondition : Setting → Term → Tree → Type 0
IsCondition over t tree = elaborated_with_sort over [] [] tree ≡ Ok (record { term = t; sort = sort.Bool })

-- the formula of the clause is written as a tree of the assertion, which says the other clause
pub record Asserts (names : Names) (over : Setting) (c : Clause) (t : Term) (again : Clause) : Type 0 where
  pub written : Writes (IsCondition over t) 999 (closed_text names c.vars (matrix_text names c))
  pub says : clause_of t ≡ Ok again

-- each clause says its own assertion, and each assertion its own clause
abbrev pub AllAssert : Names → Setting → List Clause → List Term → List Clause → Type 0
AllAssert names over [] [] [] = Unit {0}
AllAssert names over (c ∷ cs) (t ∷ ts) (again ∷ agains) = Asserts names over c t again × AllAssert names over cs ts agains
AllAssert names over cs ts agains = ⊥

module _ (sig : Signature) (preds : PredicatesView) where
  -- a draft with these assertions
  abbrev pub asserting : AssertedView → DraftView
  asserting a = record { logic = true; sig = sig; preds = preds; asserted = a }

  abbrev over_draft : Setting
  over_draft = setting (asserting (record { assertions = []; clauses = [] }))

  -- the tree is `(assert F)`
  record LineIs (t : Term) (tree : Tree) : Type 0 where
    formula : Tree
    form : form_of tree ≡ Some (codes "assert", formula ∷ [])
    meant : IsCondition over_draft t formula

  line_is : (t : Term) (place : ℕ) (trees : List Tree) → Begins (IsNamed (codes "assert")) (Begins (IsCondition over_draft t) IsNone) trees → LineIs t (Group place trees)
  line_is t place [] h = absurd h
  line_is t place (a ∷ []) h = absurd h.1
  line_is t place (a ∷ b ∷ []) h = record { formula = b; form = form_of-Group place (codes "assert") a (b ∷ []) h.0; meant = h.1.0 }
  line_is t place (a ∷ b ∷ c ∷ more) h = absurd h.1.1

  line_turns : (a : AssertedView) (t : Term) (again : Clause) → clause_of t ≡ Ok again → passed_by_clause a.clauses again ≡ None → (tree : Tree) → LineIs t tree
      → Turns (progress.Going (asserting a)) (progress.Going (asserting (with_assertion a t again))) tree
  line_turns a t again says within tree h =
      let place : ℕ = place_at (out-Tree tree) in
      let going : DraftView → Reading Progress = λ e. Ok (progress.Going e) in
      ap (command_at (asserting a) place) h.form
      ∙ ap (λ r. r >>> (λ s. condition place s >>> (λ _. assertion_added (asserting a) place s.term)) >>> going) h.meant
      ∙ ap (λ b. cond b (Ok tt) (faulty place WrongSort []) >>> (λ _. assertion_added (asserting a) place t) >>> going) (same_itself sort.Bool)
      ∙ ap (λ r. clause_at place r >>> (λ c. clause_added (asserting a) place t c) >>> going) says
      ∙ ap (λ o. held_to place o >>> (λ _. Ok (with_asserted (with_assertion a t again) (asserting a))) >>> going) within

  -- a clause's line, without its end
  abbrev line_of : List ℕ → List ℕ
  line_of formula = 40 ∷ (codes "assert" ++ 32 ∷ formula) ++ 41 ∷ []

  text_of_line : (formula : List ℕ) → codes "(assert " ++ formula ++ codes ")\n" ≡ line_of formula ++ 10 ∷ []
  text_of_line formula = simp append_assoc refl

  line_writes : (t : Term) (formula : List ℕ) → Writes (IsCondition over_draft t) 999 formula → Writes (LineIs t) 1000 (line_of formula)
  line_writes t formula writes =
      group_writes (Begins (IsNamed (codes "assert")) (Begins (IsCondition over_draft t) IsNone)) (LineIs t) 999 (codes "assert" ++ 32 ∷ formula)
      (λ place. first_at 999 false (IsNamed (codes "assert")) (Begins (IsCondition over_draft t) IsNone) place [] (codes "assert") (32 ∷ formula) refl refl (writes_word 999 (codes "assert") refl refl)
      (λ next. last_at 999 false (IsCondition over_draft t) next (32 ∷ []) formula refl writes))
      (line_is t)

  -- ---- all of them

  module _ (names : Names) where
    abbrev RunsAsserting : AssertedView → Progress → List ℕ → Type 0
    RunsAsserting a end bytes = Runs (progress.Going (asserting a)) end bytes

    abbrev with_all : AssertedView → List Term → List Clause → AssertedView
    with_all a ts agains = record { assertions = a.assertions ++ ts; clauses = a.clauses ++ agains }

    pub clauses_run : (cs : List Clause) (ts : List Term) (agains : List Clause) (a : AssertedView) (end : Progress) (rest : List ℕ) → AllAssert names over_draft cs ts agains
        → WithinLimits preds.decls (a.clauses ++ agains) → RunsAsserting (with_all a ts agains) end rest
        → RunsAsserting a end (concat (map (clause_text names) cs) ++ rest)
    clauses_run [] [] [] a end rest h within runs =
        let same_terms = append-nil a.assertions in
        let same_clauses = append-nil a.clauses in
        let view : List Term → List Clause → AssertedView = λ us es. record { assertions = us; clauses = es } in
        subst (λ b. RunsAsserting b end rest) (λ i. view (same_terms i) (same_clauses i)) runs
    clauses_run [] [] (again ∷ agains) a end rest h within runs = absurd h
    clauses_run [] (t ∷ ts) agains a end rest h within runs = absurd h
    clauses_run (c ∷ cs) [] agains a end rest h within runs = absurd h
    clauses_run (c ∷ cs) (t ∷ ts) [] a end rest h within runs = absurd h
    clauses_run (c ∷ cs) (t ∷ ts) (again ∷ agains) a end rest h within runs =
        let next : AssertedView = with_assertion a t again in
        let lines : List ℕ = concat (map (clause_text names) cs) in
        let formula : List ℕ = closed_text names c.vars (matrix_text names c) in
        let same_terms = append_assoc a.assertions (t ∷ []) ts in
        let same_clauses = append_assoc a.clauses (again ∷ []) agains in
        let view : List Term → List Clause → AssertedView = λ us es. record { assertions = us; clauses = es } in
        let text : (line_of formula ++ 10 ∷ []) ++ (lines ++ rest) ≡ (clause_text names c ++ lines) ++ rest =
        ap (λ (l : List ℕ). l ++ (lines ++ rest)) (sym (text_of_line formula)) ∙ sym (append_assoc (clause_text names c) lines rest) in
        runs_same (progress.Going (asserting a)) end ((line_of formula ++ 10 ∷ []) ++ (lines ++ rest)) ((clause_text names c ++ lines) ++ rest) text
        (runs_line (progress.Going (asserting a)) (progress.Going (asserting next)) end (line_of formula) (lines ++ rest)
        (writes_wider (LineIs t) (Turns (progress.Going (asserting a)) (progress.Going (asserting next))) 1000 1000 (omega arith)
        (line_turns a t again h.0.says (clause_passes preds.decls a.clauses again agains within)) (line_of formula) (line_writes t formula h.0.written))
        (clauses_run cs ts agains next end rest h.1 (subst (λ es. WithinLimits preds.decls es) (sym same_clauses) within)
        (subst (λ b. RunsAsserting b end rest) (λ i. view (sym same_terms i) (sym same_clauses i)) runs)))
