-- What the head of an operator gives on its arguments: the operator on them.
use Rattle.std.proofs.Common.{◌≡◌, ◌∙◌, sym, ap, refl, subst, ℕ, ◌<◌, true, ◌&&◌, nat_eq, nat_lt, List, [], ◌∷◌, length, Some, slice_get, option_and_then, arith}
use Rattle.std.specs.Prelude.{is_some}
use Rattle.std.specs.List.{list_all}
use Rattle.std.proofs.lemmas.Bool.{and_parts, lt-ltb}
use Rattle.std.proofs.lemmas.Bool.Decides.{nat_tests}
use Rattle.chc_sorts.specs.declared.sort.Sort.{Sort}
use Rattle.chc_sorts.specs.declared.sort.Sort.TheVariants as sort
use Rattle.chc_sorts.specs.declared.op.Op.{Op}
use Rattle.chc_sorts.specs.declared.op.Op.TheVariants as op
use Rattle.chc_sorts.specs.declared.op_table.ReadOp.TheVariants as read_op
use Rattle.chc_sorts.specs.Signature.{Signature}
use Rattle.chc_sorts.specs.Sorts.{same_sort, same_sorts}
use Rattle.chc_sorts.proofs.SameSort.{same_itself, same_sorts_from_test}
use Rattle.chc_sexpr.specs.declared.tree.Tree.{Tree}
use Rattle.chc_terms.specs.declared.term.Term.{Term}
use Rattle.chc_terms.specs.declared.term.Term.TheVariants as term
use Rattle.chc_terms.specs.Sorted.{op_sort, fields_of, are_truths, equation_sort, choice_sort, read_sort, write_sort, when, is_declared}
use Rattle.chc_terms.proofs.OperatorShapes.{when_some}
use Rattle.chc_terms.proofs.SortTests.{element_of-Array}
use Rattle.chc_elab.specs.declared.head.Head.{Head}
use Rattle.chc_elab.specs.declared.head.Head.TheVariants as head
use Rattle.chc_elab.specs.Building.{head_takes, head_sort, head_term, is_as_many, constant_sort, constant}
use Rattle.chc_elab.specs.Stands.{IsNegative}
use Rattle.term_again.proofs.TermHeads.{head_for, led_on}

-- the head takes the terms, which have these sorts, and gives the operator on them, of the sort; it is no minus on one numeral
pub record GivesBack (sig : Signature) (o : Op) (ts : List Term) (ss : List Sort) (s : Sort) : Type 0 where
  pub takes : head_takes sig (head_for o) (length ts) ≡ true
  pub sorted : head_sort sig (head_for o) ss ≡ Some s
  pub term : term.App o ts ≡ head_term (head_for o) ts
  pub not_negative : (args : List Tree) → length args ≡ length ts → IsNegative (head_for o) args → ⊥

-- ---- lists of terms of a known length

one_term : (ts : List Term) → length ts ≡ 1 → (a : Term) × (ts ≡ a ∷ [])
one_term [] h = absurd (omega arith)
one_term (a ∷ []) h = (a, refl)
one_term (a ∷ b ∷ more) h = absurd (omega arith)

two_terms : (ts : List Term) → length ts ≡ 2 → (a b : Term) × (ts ≡ a ∷ b ∷ [])
two_terms [] h = absurd (omega arith)
two_terms (a ∷ []) h = absurd (omega arith)
two_terms (a ∷ b ∷ []) h = (a, b, refl)
two_terms (a ∷ b ∷ c ∷ more) h = absurd (omega arith)

-- a head that isn't the minus
not_minus : (h : Head) → (h ≡ head.Operator read_op.Sub → ⊥) → (args : List Tree) → IsNegative h args → ⊥
not_minus h differs args is = differs is.3

-- a minus on more than one tree
not_sole : (h : Head) (n : ℕ) → 1 < n → (args : List Tree) → length args ≡ n → IsNegative h args → ⊥
not_sole h n many args long is = let one = ap length is.4 in absurd (omega arith)

module _ (sig : Signature) where
  -- ---- two integers

  abbrev TakesTwo : Op → Type 0
  TakesTwo o = (a b : Term) → (head_takes sig (head_for o) 2 ≡ true) × (term.App o (a ∷ b ∷ []) ≡ head_term (head_for o) (a ∷ b ∷ []))

  two_back : (o : Op) → TakesTwo o → (ts : List Term) (ss : List Sort) (s : Sort) → length ts ≡ 2 → head_sort sig (head_for o) ss ≡ Some s → GivesBack sig o ts ss s
  two_back o takes ts ss s two sorted =
      let (a, b, is) = two_terms ts two in
      let back : GivesBack sig o (a ∷ b ∷ []) ss s =
      record { takes = (takes a b).0; sorted = sorted; term = (takes a b).1; not_negative = λ args long. not_sole (head_for o) 2 (omega arith) args long } in
      subst (λ (us : List Term). GivesBack sig o us ss s) (sym is) back

  integers_back : (o : Op) (r : Sort) → TakesTwo o → head_sort sig (head_for o) (sort.Int ∷ sort.Int ∷ []) ≡ Some r → (ts : List Term) (ss : List Sort) (s : Sort) → length ts ≡ length ss
      → when (same_sorts ss (sort.Int ∷ sort.Int ∷ [])) r ≡ Some s → GivesBack sig o ts ss s
  integers_back o r takes gives ts ss s same h =
      let test = when_some (same_sorts ss (sort.Int ∷ sort.Int ∷ [])) r s h in
      let is = same_sorts_from_test ss (sort.Int ∷ sort.Int ∷ []) test.0 in
      two_back o takes ts ss s (same ∙ ap length is) (ap (head_sort sig (head_for o)) is ∙ gives ∙ ap (λ t. Some t) test.1)

  both_int : list_all (same_sort sort.Int) (sort.Int ∷ sort.Int ∷ []) ≡ true
  both_int = rw (same_itself sort.Int) refl

  -- ---- truth values

  truths_back : (o : Op) → ((ss : List Sort) → head_sort sig (head_for o) ss ≡ when (list_all (same_sort sort.Bool) ss) sort.Bool)
      → ((a b : Term) (more : List Term) → (head_takes sig (head_for o) (length (a ∷ b ∷ more)) ≡ true) × (term.App o (a ∷ b ∷ more) ≡ head_term (head_for o) (a ∷ b ∷ more)))
      → (ts : List Term) (ss : List Sort) (s : Sort) → length ts ≡ length ss → when (are_truths ss) sort.Bool ≡ Some s → GivesBack sig o ts ss s
  truths_back o sorts takes ts [] s same h = cc
  truths_back o sorts takes ts (x ∷ []) s same h = cc
  truths_back o sorts takes [] (x ∷ y ∷ ss) s same h = absurd (omega arith)
  truths_back o sorts takes (a ∷ []) (x ∷ y ∷ ss) s same h = absurd (omega arith)
  truths_back o sorts takes (a ∷ b ∷ more) (x ∷ y ∷ ss) s same h =
      record {
        takes = (takes a b more).0;
        sorted = sorts (x ∷ y ∷ ss) ∙ h;
        term = (takes a b more).1;
        not_negative = λ args long. not_sole (head_for o) (length (a ∷ b ∷ more)) (omega arith) args long;
      }

  not_back : (ts : List Term) (ss : List Sort) (s : Sort) → length ts ≡ length ss → when (same_sorts ss (sort.Bool ∷ [])) sort.Bool ≡ Some s → GivesBack sig op.Not ts ss s
  not_back ts ss s same h =
      let test = when_some (same_sorts ss (sort.Bool ∷ [])) sort.Bool s h in
      let is = same_sorts_from_test ss (sort.Bool ∷ []) test.0 in
      let one : length ts ≡ 1 = same ∙ ap length is in
      record {
        takes = ap (λ n. nat_eq n 1) one;
        sorted = ap (head_sort sig (head.Operator read_op.Not)) is ∙ ap (λ b. when (b && true) sort.Bool) (same_itself sort.Bool) ∙ ap (λ t. Some t) test.1;
        term = refl;
        not_negative = λ args long. not_minus (head.Operator read_op.Not) (λ e. cc) args;
      }

  -- ---- equations and choices

  equation_back : (ts : List Term) (ss : List Sort) (s : Sort) → length ts ≡ length ss → equation_sort ss ≡ Some s → GivesBack sig op.Eq ts ss s
  equation_back ts [] s same h = cc
  equation_back ts (x ∷ []) s same h = cc
  equation_back ts (x ∷ y ∷ []) s same h =
      let test = when_some (same_sort x y) sort.Bool s h in
      two_back op.Eq (λ a b. (refl, refl)) ts (x ∷ y ∷ []) s same
      (ap (λ c. when (c && true) sort.Bool) test.0 ∙ ap (λ t. Some t) test.1)
  equation_back ts (x ∷ y ∷ z ∷ more) s same h = cc

  choice_back : (ts : List Term) (ss : List Sort) (s : Sort) → length ts ≡ length ss → choice_sort ss ≡ Some s → GivesBack sig op.Ite ts ss s
  choice_back ts [] s same h = cc
  choice_back ts (x ∷ []) s same h = cc
  choice_back ts (x ∷ y ∷ []) s same h = cc
  choice_back ts (x ∷ y ∷ z ∷ []) s same h =
      record { takes = ap (λ n. nat_eq n 3) same; sorted = h; term = refl; not_negative = λ args long. not_minus (head.Operator read_op.Ite) (λ e. cc) args }
  choice_back ts (x ∷ y ∷ z ∷ w ∷ more) s same h = cc

  -- ---- arrays

  select_back : (ts : List Term) (ss : List Sort) (s : Sort) → length ts ≡ length ss → read_sort ss ≡ Some s → GivesBack sig op.Select ts ss s
  select_back ts [] s same h = cc
  select_back ts (x ∷ []) s same h = cc
  select_back ts (x ∷ y ∷ []) s same h =
      record { takes = ap (λ n. nat_eq n 2) same; sorted = h; term = refl; not_negative = λ args long. not_minus (head.Operator read_op.Select) (λ e. cc) args }
  select_back ts (x ∷ y ∷ z ∷ more) s same h = cc

  store_back : (ts : List Term) (ss : List Sort) (s : Sort) → length ts ≡ length ss → write_sort ss ≡ Some s → GivesBack sig op.Store ts ss s
  store_back ts [] s same h = cc
  store_back ts (x ∷ []) s same h = cc
  store_back ts (x ∷ y ∷ []) s same h = cc
  store_back ts (x ∷ y ∷ z ∷ []) s same h =
      record { takes = ap (λ n. nat_eq n 3) same; sorted = h; term = refl; not_negative = λ args long. not_minus (head.Operator read_op.Store) (λ e. cc) args }
  store_back ts (x ∷ y ∷ z ∷ w ∷ more) s same h = cc

  const_back : (element : Sort) (ts : List Term) (ss : List Sort) (s : Sort) → length ts ≡ length ss → op_sort sig (op.Const element) ss ≡ Some s → GivesBack sig (op.Const element) ts ss s
  const_back element ts ss s same h =
      let test = when_some (is_declared sig element && same_sorts ss (element ∷ [])) (sort.Array element) s h in
      let sorts = (and_parts (is_declared sig element) (same_sorts ss (element ∷ [])) test.0).1 in
      let one : length ts ≡ 1 = same ∙ ap length (same_sorts_from_test ss (element ∷ []) sorts) in
      record {
        takes = ap (λ n. nat_eq n 1) one;
        sorted = ap (λ e. constant_sort e ss) (element_of-Array element) ∙ ap (λ b. when b (sort.Array element)) sorts ∙ ap (λ t. Some t) test.1;
        term = ap (λ e. constant e ts) (sym (element_of-Array element));
        not_negative = λ args long. not_minus (head.Constant (sort.Array element)) (λ e. cc) args;
      }

  -- ---- datatypes

  eq_itself : (n : ℕ) → nat_eq n n ≡ true
  eq_itself n = grind (arith, nat_tests)

  make_back : (d c : ℕ) (ts : List Term) (ss : List Sort) (s : Sort) → length ts ≡ length ss → op_sort sig (op.Make d c) ss ≡ Some s → GivesBack sig (op.Make d c) ts ss s
  make_back d c ts ss s same h =
      let fields = led_on (λ (fields : List Sort). when (same_sorts ss fields) (sort.Data d)) (fields_of sig d c) s h in
      let test = when_some (same_sorts ss fields.0) (sort.Data d) s fields.2 in
      let long : length ts ≡ length fields.0 = same ∙ ap length (same_sorts_from_test ss fields.0 test.0) in
      record {
        takes = ap (is_as_many (length ts)) fields.1 ∙ ap (λ n. nat_eq n (length fields.0)) long ∙ eq_itself (length fields.0);
        sorted = h;
        term = refl;
        not_negative = λ args long. not_minus (head.Make d c) (λ e. cc) args;
      }

  get_back : (d c i : ℕ) (ts : List Term) (ss : List Sort) (s : Sort) → length ts ≡ length ss → op_sort sig (op.Get d c i) ss ≡ Some s → GivesBack sig (op.Get d c i) ts ss s
  get_back d c i ts ss s same h =
      let fields = led_on (λ (fields : List Sort). option_and_then (λ (s : Sort). when (same_sorts ss (sort.Data d ∷ [])) s) (slice_get fields i)) (fields_of sig d c) s h in
      let field = led_on (λ (s : Sort). when (same_sorts ss (sort.Data d ∷ [])) s) (slice_get fields.0 i) s fields.2 in
      let test = when_some (same_sorts ss (sort.Data d ∷ [])) field.0 s field.2 in
      let one : length ts ≡ 1 = same ∙ ap length (same_sorts_from_test ss (sort.Data d ∷ []) test.0) in
      record { takes = ap (λ n. nat_eq n 1) one; sorted = h; term = refl; not_negative = λ args long. not_minus (head.Get d c i) (λ e. cc) args }

  is_back : (d c : ℕ) (ts : List Term) (ss : List Sort) (s : Sort) → length ts ≡ length ss → op_sort sig (op.Is d c) ss ≡ Some s → GivesBack sig (op.Is d c) ts ss s
  is_back d c ts ss s same h =
      let test = when_some (is_some (fields_of sig d c) && same_sorts ss (sort.Data d ∷ [])) sort.Bool s h in
      let sorts = (and_parts (is_some (fields_of sig d c)) (same_sorts ss (sort.Data d ∷ [])) test.0).1 in
      let one : length ts ≡ 1 = same ∙ ap length (same_sorts_from_test ss (sort.Data d ∷ []) sorts) in
      record { takes = ap (λ n. nat_eq n 1) one; sorted = h; term = refl; not_negative = λ args long. not_minus (head.Is d c) (λ e. cc) args }

  -- ---- every operator

  two_ints : (r : Sort) → when (list_all (same_sort sort.Int) (sort.Int ∷ sort.Int ∷ [])) r ≡ Some r
  two_ints r = ap (λ b. when b r) both_int

  some_more : (a b : Term) (more : List Term) → nat_lt 0 (length (a ∷ b ∷ more)) ≡ true
  some_more a b more = lt-ltb 0 (length (a ∷ b ∷ more)) (omega arith)

  -- an operator that takes the sorts is given back on terms of them
  pub gives_back : (o : Op) (ts : List Term) (ss : List Sort) (s : Sort) → length ts ≡ length ss → op_sort sig o ss ≡ Some s → GivesBack sig o ts ss s
  gives_back op.Not ts ss s same h = not_back ts ss s same h
  gives_back op.And ts ss s same h = truths_back op.And (λ sorts. refl) (λ a b more. (some_more a b more, refl)) ts ss s same h
  gives_back op.Or ts ss s same h = truths_back op.Or (λ sorts. refl) (λ a b more. (some_more a b more, refl)) ts ss s same h
  gives_back op.Eq ts ss s same h = equation_back ts ss s same h
  gives_back op.Ite ts ss s same h = choice_back ts ss s same h
  gives_back op.Add ts ss s same h = integers_back op.Add sort.Int (λ a b. (refl, refl)) (two_ints sort.Int) ts ss s same h
  gives_back op.Sub ts ss s same h = integers_back op.Sub sort.Int (λ a b. (refl, refl)) (two_ints sort.Int) ts ss s same h
  gives_back op.Mul ts ss s same h = integers_back op.Mul sort.Int (λ a b. (refl, refl)) (two_ints sort.Int) ts ss s same h
  gives_back op.Div ts ss s same h = integers_back op.Div sort.Int (λ a b. (refl, refl)) (two_ints sort.Int) ts ss s same h
  gives_back op.Mod ts ss s same h = integers_back op.Mod sort.Int (λ a b. (refl, refl)) (two_ints sort.Int) ts ss s same h
  gives_back op.Le ts ss s same h = integers_back op.Le sort.Bool (λ a b. (refl, refl)) (two_ints sort.Bool) ts ss s same h
  gives_back op.Lt ts ss s same h = integers_back op.Lt sort.Bool (λ a b. (refl, refl)) (two_ints sort.Bool) ts ss s same h
  gives_back op.Select ts ss s same h = select_back ts ss s same h
  gives_back op.Store ts ss s same h = store_back ts ss s same h
  gives_back (op.Const element) ts ss s same h = const_back element ts ss s same h
  gives_back (op.Make d c) ts ss s same h = make_back d c ts ss s same h
  gives_back (op.Get d c i) ts ss s same h = get_back d c i ts ss s same h
  gives_back (op.Is d c) ts ss s same h = is_back d c ts ss s same h
