-- The sorts of the terms that operators and other heads stand for, on well-sorted terms.
use Rattle.std.proofs.Common.{◌≡◌, ◌∙◌, ◌<◌, sym, ap, subst, refl, arith, ℕ, ℤ, pos, Bool, true, false, ◌&&◌, cond, nat_lt, List, [], ◌∷◌, ◌++◌, length, map, Option, Some, None, option_map, option_and_then, slice_get}
use Rattle.std.specs.Prelude.{IsTrue, nat_eq}
use Rattle.std.specs.List.{AllByRecursion, list_all}
use Rattle.std.proofs.lemmas.Bool.{eqb-true, ltb-true}
use Rattle.std.proofs.lemmas.List.{length-map}
use Rattle.chc_sorts.specs.declared.sort.Sort.{Sort}
use Rattle.chc_sorts.specs.declared.sort.Sort.TheVariants as sort
use Rattle.chc_sorts.specs.declared.op.Op.{Op}
use Rattle.chc_sorts.specs.declared.op.Op.TheVariants as op
use Rattle.chc_sorts.specs.declared.op_table.ReadOp.{ReadOp}
use Rattle.chc_sorts.specs.declared.op_table.ReadOp.TheVariants as read
use Rattle.chc_sorts.specs.Signature.{Signature}
use Rattle.chc_sorts.specs.Sorts.{same_sort, same_sorts}
use Rattle.chc_sorts.proofs.SameSort.{same_from_test, same_itself, same_sorts_itself, both_true}
use Rattle.chc_terms.specs.declared.term.Term.{Term}
use Rattle.chc_terms.specs.declared.term.Term.TheVariants as term
use Rattle.chc_terms.specs.Sorted.{Context, sort_of, sorts_of, op_sort, when, are_truths, is_declared, element_of, truth_at, result_at, fields_of}
use Rattle.chc_terms.proofs.SortLaws.{sort_of-Num, sort_of-App, sort_of-Pred, sort_of-Call}
use Rattle.chc_elab.specs.declared.symbols.Symbol.{Symbol}
use Rattle.chc_elab.specs.declared.symbols.Symbol.TheVariants as symbol
use Rattle.chc_elab.specs.declared.typed.Typed.{Typed}
use Rattle.chc_elab.specs.declared.head.Head.{Head}
use Rattle.chc_elab.specs.declared.head.Head.TheVariants as head
use Rattle.chc_elab.specs.Building.{takes, head_takes, on_all, on_equal, sort_read_as, qualified_sort, constant_sort, declared_sort, head_sort, pair, negated, differ, joined_from, joined_left, sole, neighbours, all_pairs, negated_before_last, opposite, difference, absolute, of_one, turned, operation, divisible, constant, declared_term, head_term}
use Rattle.chc_elab.proofs.ArgumentLaws.{terms_of}
use Rattle.chc_elab.proofs.Readings.{cond_some, none_some}

when_true : (b : Bool) (s : Sort) → b ≡ true → when b s ≡ Some s
when_true b s e = ap (λ b. when b s) e

-- a sort that is there only where a test holds
only_where : (b : Bool) (o : Option Sort) (s : Sort) → cond b o None ≡ Some s → o ≡ Some s
only_where true o s h = h
only_where false o s h = absurd (none_some s h)

abbrev pub sorts_in : List Typed → List Sort
sorts_in vs = map (λ (v : Typed). v.sort) vs

module _ (cx : Context) (vars : List Sort) where
  -- the term has that sort
  abbrev pub Sorted : Term → Sort → Type 0
  Sorted t s = sort_of cx t vars ≡ Some s

  -- all of the terms have that sort
  abbrev pub AllSorted : Sort → List Term → Type 0
  AllSorted s ts = AllByRecursion (λ t. Sorted t s) ts

  -- each of the terms has its sort
  abbrev pub EachSorted : List Typed → Type 0
  EachSorted vs = AllByRecursion (λ (v : Typed). Sorted v.term v.sort) vs

  cons_sorted : (t : Term) (ts : List Term) (s : Sort) (ss : List Sort) → Sorted t s → sorts_of cx ts vars ≡ Some ss → sorts_of cx (t ∷ ts) vars ≡ Some (s ∷ ss)
  cons_sorted t ts s ss h k = λ i. option_and_then (λ s. option_map (λ ss. s ∷ ss) (k i)) (h i)

  each_sorted : (vs : List Typed) → EachSorted vs → sorts_of cx (terms_of vs) vars ≡ Some (sorts_in vs)
  each_sorted [] h = refl
  each_sorted (v ∷ vs) h = cons_sorted v.term (terms_of vs) v.sort (sorts_in vs) h.0 (each_sorted vs h.1)

  all_sorted : (s : Sort) (ts : List Term) → AllSorted s ts → sorts_of cx ts vars ≡ Some (map (λ t. s) ts)
  all_sorted s [] h = refl
  all_sorted s (t ∷ ts) h = cons_sorted t ts s (map (λ t. s) ts) h.0 (all_sorted s ts h.1)

  applied : (o : Op) (ts : List Term) (ss : List Sort) (s : Sort) → sorts_of cx ts vars ≡ Some ss → op_sort cx.sig o ss ≡ Some s → Sorted (term.App o ts) s
  applied o ts ss s h k = sort_of-App cx o ts vars ∙ ap (option_and_then (op_sort cx.sig o)) h ∙ k

  -- an operator that gives a term of sort r on two of sort s
  abbrev Gives : (Term → Term → Term) → Sort → Sort → Type 0
  Gives join s r = (a b : Term) → Sorted a s → Sorted b s → Sorted (join a b) r

  pair_gives : (o : Op) (s r : Sort) → op_sort cx.sig o (s ∷ s ∷ []) ≡ Some r → Gives (pair o) s r
  pair_gives o s r e a b h k = applied o (a ∷ b ∷ []) (s ∷ s ∷ []) r (cons_sorted a (b ∷ []) s (s ∷ []) h (cons_sorted b [] s [] k refl)) e

  turned_gives : (join : Term → Term → Term) (s r : Sort) → Gives join s r → Gives (turned join) s r
  turned_gives join s r g a b h k = g b a k h

  -- two integers
  abbrev integers : List Sort
  integers = sort.Int ∷ sort.Int ∷ []

  add_gives : Gives (pair op.Add) sort.Int sort.Int
  add_gives = pair_gives op.Add sort.Int sort.Int (when_true (same_sorts integers integers) sort.Int (same_sorts_itself integers))

  sub_gives : Gives (pair op.Sub) sort.Int sort.Int
  sub_gives = pair_gives op.Sub sort.Int sort.Int (when_true (same_sorts integers integers) sort.Int (same_sorts_itself integers))

  mul_gives : Gives (pair op.Mul) sort.Int sort.Int
  mul_gives = pair_gives op.Mul sort.Int sort.Int (when_true (same_sorts integers integers) sort.Int (same_sorts_itself integers))

  div_gives : Gives (pair op.Div) sort.Int sort.Int
  div_gives = pair_gives op.Div sort.Int sort.Int (when_true (same_sorts integers integers) sort.Int (same_sorts_itself integers))

  mod_gives : Gives (pair op.Mod) sort.Int sort.Int
  mod_gives = pair_gives op.Mod sort.Int sort.Int (when_true (same_sorts integers integers) sort.Int (same_sorts_itself integers))

  le_gives : Gives (pair op.Le) sort.Int sort.Bool
  le_gives = pair_gives op.Le sort.Int sort.Bool (when_true (same_sorts integers integers) sort.Bool (same_sorts_itself integers))

  lt_gives : Gives (pair op.Lt) sort.Int sort.Bool
  lt_gives = pair_gives op.Lt sort.Int sort.Bool (when_true (same_sorts integers integers) sort.Bool (same_sorts_itself integers))

  eq_gives : (s : Sort) → Gives (pair op.Eq) s sort.Bool
  eq_gives s = pair_gives op.Eq s sort.Bool (when_true (same_sort s s) sort.Bool (same_itself s))

  negated_sorted : (t : Term) → Sorted t sort.Bool → Sorted (negated t) sort.Bool
  negated_sorted t h =
      applied op.Not (t ∷ []) (sort.Bool ∷ []) sort.Bool (cons_sorted t [] sort.Bool [] h refl)
      (when_true (same_sorts (sort.Bool ∷ []) (sort.Bool ∷ [])) sort.Bool (same_sorts_itself (sort.Bool ∷ [])))

  differ_gives : (s : Sort) → Gives differ s sort.Bool
  differ_gives s a b h k = negated_sorted (pair op.Eq a b) (eq_gives s a b h k)

  joined_from_sorted : (join : Term → Term → Term) (s : Sort) → Gives join s s → (t : Term) (ts : List Term) → Sorted t s → AllSorted s ts → Sorted (joined_from join t ts) s
  joined_from_sorted join s g t [] h k = h
  joined_from_sorted join s g t (u ∷ us) h k = joined_from_sorted join s g (join t u) us (g t u h k.0) k.1

  joined_left_sorted : (join : Term → Term → Term) (s : Sort) → Gives join s s → (ts : List Term) → 0 < length ts → AllSorted s ts → Sorted (joined_left join ts) s
  joined_left_sorted join s g [] some h = absurd (omega arith)
  joined_left_sorted join s g (t ∷ ts) some h = joined_from_sorted join s g t ts h.0 h.1

  same_all : (s : Sort) (ts : List Term) → list_all (same_sort s) (map (λ t. s) ts) ≡ true
  same_all s [] = refl
  same_all s (t ∷ ts) = ap (λ b. b && list_all (same_sort s) (map (λ t. s) ts)) (same_itself s) ∙ same_all s ts

  -- an operator on two truth values or more
  abbrev JoinsTruths : Op → Type 0
  JoinsTruths o = (ss : List Sort) → op_sort cx.sig o ss ≡ when (are_truths ss) sort.Bool

  many_sorted : (o : Op) → JoinsTruths o → (ts : List Term) → 1 < length ts → AllSorted sort.Bool ts → Sorted (term.App o ts) sort.Bool
  many_sorted o joins [] many h = absurd (omega arith)
  many_sorted o joins (t ∷ []) many h = absurd (omega arith)
  many_sorted o joins (t ∷ u ∷ more) many h =
      let ss = map (λ (x : Term). sort.Bool) (t ∷ u ∷ more) in
      applied o (t ∷ u ∷ more) ss sort.Bool (all_sorted sort.Bool (t ∷ u ∷ more) h)
      (joins ss ∙ when_true (are_truths ss) sort.Bool (same_all sort.Bool (t ∷ u ∷ more)))

  sole_sorted : (o : Op) → JoinsTruths o → (ts : List Term) → 0 < length ts → AllSorted sort.Bool ts → Sorted (sole o ts) sort.Bool
  sole_sorted o joins [] some h = absurd (omega arith)
  sole_sorted o joins (t ∷ []) some h = h.0
  sole_sorted o joins (t ∷ u ∷ more) some h = many_sorted o joins (t ∷ u ∷ more) (omega arith) h

  and_joins : JoinsTruths op.And
  and_joins ss = refl

  or_joins : JoinsTruths op.Or
  or_joins ss = refl

  neighbours_sorted : (join : Term → Term → Term) (s r : Sort) → Gives join s r → (ts : List Term) → AllSorted s ts → AllSorted r (neighbours join ts)
  neighbours_sorted join s r g [] h = tt
  neighbours_sorted join s r g (t ∷ []) h = tt
  neighbours_sorted join s r g (t ∷ u ∷ more) h = (g t u h.0 h.1.0, neighbours_sorted join s r g (u ∷ more) h.1)

  with_each_sorted : (join : Term → Term → Term) (s r : Sort) → Gives join s r → (t : Term) (ts : List Term) → Sorted t s → AllSorted s ts → AllSorted r (map (join t) ts)
  with_each_sorted join s r g t [] h k = tt
  with_each_sorted join s r g t (u ∷ us) h k = (g t u h k.0, with_each_sorted join s r g t us h k.1)

  both_sorted : (s : Sort) (ts us : List Term) → AllSorted s ts → AllSorted s us → AllSorted s (ts ++ us)
  both_sorted s [] us h k = k
  both_sorted s (t ∷ ts) us h k = (h.0, both_sorted s ts us h.1 k)

  all_pairs_sorted : (join : Term → Term → Term) (s r : Sort) → Gives join s r → (ts : List Term) → AllSorted s ts → AllSorted r (all_pairs join ts)
  all_pairs_sorted join s r g [] h = tt
  all_pairs_sorted join s r g (t ∷ ts) h =
      both_sorted r (map (join t) ts) (all_pairs join ts) (with_each_sorted join s r g t ts h.0 h.1) (all_pairs_sorted join s r g ts h.1)

  -- each with the next one, and each with all later ones
  chained_sorted : (join : Term → Term → Term) (s : Sort) → Gives join s sort.Bool → (ts : List Term) → 1 < length ts → AllSorted s ts → Sorted (sole op.And (neighbours join ts)) sort.Bool
  chained_sorted join s g [] many h = absurd (omega arith)
  chained_sorted join s g (t ∷ []) many h = absurd (omega arith)
  chained_sorted join s g (t ∷ u ∷ more) many h =
      sole_sorted op.And and_joins (neighbours join (t ∷ u ∷ more)) (omega arith) (neighbours_sorted join s sort.Bool g (t ∷ u ∷ more) h)

  distinct_sorted : (s : Sort) (ts : List Term) → 1 < length ts → AllSorted s ts → Sorted (sole op.And (all_pairs differ ts)) sort.Bool
  distinct_sorted s [] many h = absurd (omega arith)
  distinct_sorted s (t ∷ []) many h = absurd (omega arith)
  distinct_sorted s (t ∷ u ∷ more) many h =
      sole_sorted op.And and_joins (all_pairs differ (t ∷ u ∷ more)) (omega arith) (all_pairs_sorted differ s sort.Bool (differ_gives s) (t ∷ u ∷ more) h)

  implying_sorted : (ts : List Term) → AllSorted sort.Bool ts → AllSorted sort.Bool (negated_before_last ts)
  implying_sorted [] h = tt
  implying_sorted (t ∷ []) h = h
  implying_sorted (t ∷ u ∷ more) h = (negated_sorted t h.0, implying_sorted (u ∷ more) h.1)

  implying_many : (ts : List Term) → length (negated_before_last ts) ≡ length ts
  implying_many [] = refl
  implying_many (t ∷ []) = refl
  implying_many (t ∷ u ∷ more) = let rest = implying_many (u ∷ more) in omega arith

  not_sorted : (ts : List Term) → length ts ≡ 1 → AllSorted sort.Bool ts → Sorted (term.App op.Not ts) sort.Bool
  not_sorted [] one h = absurd (omega arith)
  not_sorted (t ∷ []) one h = negated_sorted t h.0
  not_sorted (t ∷ u ∷ more) one h = absurd (omega arith)

  mod_sorted : (ts : List Term) → length ts ≡ 2 → AllSorted sort.Int ts → Sorted (term.App op.Mod ts) sort.Int
  mod_sorted [] two h = absurd (omega arith)
  mod_sorted (a ∷ []) two h = absurd (omega arith)
  mod_sorted (a ∷ b ∷ []) two h = mod_gives a b h.0 h.1.0
  mod_sorted (a ∷ b ∷ c ∷ more) two h = absurd (omega arith)

  zero_sorted : Sorted (term.Num (pos 0)) sort.Int
  zero_sorted = sort_of-Num cx (pos 0) vars

  opposite_sorted : (t : Term) → Sorted t sort.Int → Sorted (opposite t) sort.Int
  opposite_sorted t h = sub_gives (term.Num (pos 0)) t zero_sorted h

  difference_sorted : (ts : List Term) → 0 < length ts → AllSorted sort.Int ts → Sorted (difference ts) sort.Int
  difference_sorted [] some h = absurd (omega arith)
  difference_sorted (t ∷ []) some h = opposite_sorted t h.0
  difference_sorted (t ∷ u ∷ more) some h = joined_left_sorted (pair op.Sub) sort.Int sub_gives (t ∷ u ∷ more) (omega arith) h

  absolute_sorted : (t : Term) → Sorted t sort.Int → Sorted (absolute t) sort.Int
  absolute_sorted t h =
      let below = pair op.Lt t (term.Num (pos 0)) in
      let less = lt_gives t (term.Num (pos 0)) h zero_sorted in
      let test = ap (λ b. b && same_sort sort.Int sort.Int) (same_itself sort.Bool) ∙ same_itself sort.Int in
      applied op.Ite (below ∷ opposite t ∷ t ∷ []) (sort.Bool ∷ sort.Int ∷ sort.Int ∷ []) sort.Int
      (cons_sorted below (opposite t ∷ t ∷ []) sort.Bool integers less
      (cons_sorted (opposite t) (t ∷ []) sort.Int (sort.Int ∷ []) (opposite_sorted t h) (cons_sorted t [] sort.Int [] h refl)))
      (when_true (same_sort sort.Bool sort.Bool && same_sort sort.Int sort.Int) sort.Int test)

  divisible_sorted : (n : ℤ) (t : Term) → Sorted t sort.Int → Sorted (divisible n t) sort.Bool
  divisible_sorted n t h =
      eq_gives sort.Int (pair op.Mod t (term.Num n)) (term.Num (pos 0)) (mod_gives t (term.Num n) h (sort_of-Num cx n vars)) zero_sorted

  of_one_sorted : (f : Term → Term) (s r : Sort) → ((t : Term) → Sorted t s → Sorted (f t) r) → (ts : List Term) → length ts ≡ 1 → AllSorted s ts → Sorted (of_one f ts) r
  of_one_sorted f s r g [] one h = absurd (omega arith)
  of_one_sorted f s r g (t ∷ []) one h = g t h.0
  of_one_sorted f s r g (t ∷ u ∷ more) one h = absurd (omega arith)

  -- terms whose sorts are that one
  alike : (s : Sort) (vs : List Typed) → list_all (same_sort s) (sorts_in vs) ≡ true → EachSorted vs → AllSorted s (terms_of vs)
  alike s [] e h = tt
  alike s (v ∷ vs) e h =
      let (first, rest) = both_true (same_sort s v.sort) (list_all (same_sort s) (sorts_in vs)) e in
      (h.0 ∙ ap (λ s. Some s) (sym (same_from_test s v.sort first)), alike s vs rest h.1)

  -- a term of sort `to` on arguments of sort `of`
  on_all_sorted : (of to s : Sort) (vs : List Typed) (t : Term) → EachSorted vs → on_all of to (sorts_in vs) ≡ Some s → (AllSorted of (terms_of vs) → Sorted t to) → Sorted t s
  on_all_sorted of to s vs t h e f =
      let (same, is) = cond_some (list_all (same_sort of) (sorts_in vs)) to s e in
      subst (Sorted t) is (f (alike of vs same h))

  -- a term of sort Bool on arguments of one sort
  on_equal_sorted : (s : Sort) (vs : List Typed) (t : Term) → EachSorted vs → on_equal (sorts_in vs) ≡ Some s → ((r : Sort) → AllSorted r (terms_of vs) → Sorted t sort.Bool) → Sorted t s
  on_equal_sorted s [] t h e f = absurd (none_some s e)
  on_equal_sorted s (v ∷ vs) t h e f =
      let (same, is) = cond_some (list_all (same_sort v.sort) (sorts_in vs)) sort.Bool s e in
      subst (Sorted t) is (f v.sort (h.0, alike v.sort vs same h.1))

  exactly : (vs : List Typed) (n : ℕ) → IsTrue (nat_eq (length vs) n) → length (terms_of vs) ≡ n
  exactly vs n e = length-map vs (λ (v : Typed). v.term) ∙ eqb-true (length vs) n e

  more_than : (vs : List Typed) (n : ℕ) → IsTrue (nat_lt n (length vs)) → n < length (terms_of vs)
  more_than vs n e = let same = length-map vs (λ (v : Typed). v.term) in let many = ltb-true n (length vs) e in omega arith

  operation_sorted : (o : ReadOp) (vs : List Typed) (s : Sort) → EachSorted vs → IsTrue (takes o (length vs)) → sort_read_as o (sorts_in vs) ≡ Some s → Sorted (operation o (terms_of vs)) s
  operation_sorted read.Not vs s h n e = on_all_sorted sort.Bool sort.Bool s vs (operation read.Not (terms_of vs)) h e (not_sorted (terms_of vs) (exactly vs 1 n))
  operation_sorted read.Implies vs s h n e = on_all_sorted sort.Bool sort.Bool s vs (operation read.Implies (terms_of vs)) h e (λ all.
      let many = more_than vs 1 n in
      let long = implying_many (terms_of vs) in
      many_sorted op.Or or_joins (negated_before_last (terms_of vs)) (omega arith) (implying_sorted (terms_of vs) all))
  operation_sorted read.And vs s h n e = on_all_sorted sort.Bool sort.Bool s vs (operation read.And (terms_of vs)) h e (sole_sorted op.And and_joins (terms_of vs) (more_than vs 0 n))
  operation_sorted read.Or vs s h n e = on_all_sorted sort.Bool sort.Bool s vs (operation read.Or (terms_of vs)) h e (sole_sorted op.Or or_joins (terms_of vs) (more_than vs 0 n))
  operation_sorted read.Xor vs s h n e = on_all_sorted sort.Bool sort.Bool s vs (operation read.Xor (terms_of vs)) h e (λ all.
      let many = more_than vs 1 n in joined_left_sorted differ sort.Bool (differ_gives sort.Bool) (terms_of vs) (omega arith) all)
  operation_sorted read.Eq vs s h n e = on_equal_sorted s vs (operation read.Eq (terms_of vs)) h e (λ r. chained_sorted (pair op.Eq) r (eq_gives r) (terms_of vs) (more_than vs 1 n))
  operation_sorted read.Distinct vs s h n e = on_equal_sorted s vs (operation read.Distinct (terms_of vs)) h e (λ r. distinct_sorted r (terms_of vs) (more_than vs 1 n))
  operation_sorted read.Ite vs s h n e = applied op.Ite (terms_of vs) (sorts_in vs) s (each_sorted vs h) e
  operation_sorted read.Sub vs s h n e = on_all_sorted sort.Int sort.Int s vs (operation read.Sub (terms_of vs)) h e (difference_sorted (terms_of vs) (more_than vs 0 n))
  operation_sorted read.Add vs s h n e = on_all_sorted sort.Int sort.Int s vs (operation read.Add (terms_of vs)) h e (joined_left_sorted (pair op.Add) sort.Int add_gives (terms_of vs) (more_than vs 0 n))
  operation_sorted read.Mul vs s h n e = on_all_sorted sort.Int sort.Int s vs (operation read.Mul (terms_of vs)) h e (joined_left_sorted (pair op.Mul) sort.Int mul_gives (terms_of vs) (more_than vs 0 n))
  operation_sorted read.Div vs s h n e = on_all_sorted sort.Int sort.Int s vs (operation read.Div (terms_of vs)) h e (λ all.
      let many = more_than vs 1 n in joined_left_sorted (pair op.Div) sort.Int div_gives (terms_of vs) (omega arith) all)
  operation_sorted read.Mod vs s h n e = on_all_sorted sort.Int sort.Int s vs (operation read.Mod (terms_of vs)) h e (mod_sorted (terms_of vs) (exactly vs 2 n))
  operation_sorted read.Abs vs s h n e = on_all_sorted sort.Int sort.Int s vs (operation read.Abs (terms_of vs)) h e (of_one_sorted absolute sort.Int sort.Int absolute_sorted (terms_of vs) (exactly vs 1 n))
  operation_sorted read.Le vs s h n e = on_all_sorted sort.Int sort.Bool s vs (operation read.Le (terms_of vs)) h e (chained_sorted (pair op.Le) sort.Int le_gives (terms_of vs) (more_than vs 1 n))
  operation_sorted read.Lt vs s h n e = on_all_sorted sort.Int sort.Bool s vs (operation read.Lt (terms_of vs)) h e (chained_sorted (pair op.Lt) sort.Int lt_gives (terms_of vs) (more_than vs 1 n))
  operation_sorted read.Ge vs s h n e = on_all_sorted sort.Int sort.Bool s vs (operation read.Ge (terms_of vs)) h e
      (chained_sorted (turned (pair op.Le)) sort.Int (turned_gives (pair op.Le) sort.Int sort.Bool le_gives) (terms_of vs) (more_than vs 1 n))
  operation_sorted read.Gt vs s h n e = on_all_sorted sort.Int sort.Bool s vs (operation read.Gt (terms_of vs)) h e
      (chained_sorted (turned (pair op.Lt)) sort.Int (turned_gives (pair op.Lt) sort.Int sort.Bool lt_gives) (terms_of vs) (more_than vs 1 n))
  operation_sorted read.Select vs s h n e = applied op.Select (terms_of vs) (sorts_in vs) s (each_sorted vs h) e
  operation_sorted read.Store vs s h n e = applied op.Store (terms_of vs) (sorts_in vs) s (each_sorted vs h) e

  constant_sorted : (element : Option Sort) (vs : List Typed) (s : Sort) → ((a : Sort) → element ≡ Some a → is_declared cx.sig a ≡ true) → EachSorted vs
      → constant_sort element (sorts_in vs) ≡ Some s → Sorted (constant element (terms_of vs)) s
  constant_sorted None vs s declared h e = absurd (none_some s e)
  constant_sorted (Some a) vs s declared h e =
      applied (op.Const a) (terms_of vs) (sorts_in vs) s (each_sorted vs h)
      (ap (λ b. when (b && same_sorts (sorts_in vs) (a ∷ [])) (sort.Array a)) (declared a refl) ∙ e)

  -- the context has what a symbol stands for
  abbrev pub IsThere : Symbol → Type 0
  IsThere (symbol.Pred p sorts) = slice_get cx.preds p ≡ Some sorts
  IsThere (symbol.Def k f) = slice_get cx.defs k ≡ Some f

  symbol_sorted : (y : Symbol) (vs : List Typed) (s : Sort) → IsThere y → EachSorted vs → declared_sort y (sorts_in vs) ≡ Some s → Sorted (declared_term y (terms_of vs)) s
  symbol_sorted (symbol.Pred p sorts) vs s there h e =
      sort_of-Pred cx p (terms_of vs) vars
      ∙ (λ i. option_and_then (λ ss. truth_at ss (there i)) (each_sorted vs h i))
      ∙ e
  symbol_sorted (symbol.Def k f) vs s there h e =
      sort_of-Call cx k (terms_of vs) vars
      ∙ (λ i. option_and_then (λ ss. result_at ss (there i)) (each_sorted vs h i))
      ∙ e

  -- what a head has to have in the context
  abbrev pub HeadIsThere : Head → Type 0
  HeadIsThere (head.Constant s) = (a : Sort) → element_of s ≡ Some a → is_declared cx.sig a ≡ true
  HeadIsThere (head.Declared y) = IsThere y
  HeadIsThere h = Unit {0}

  -- what a head stands for on well-sorted terms has the head's sort
  pub head_sorted : (g : Head) (vs : List Typed) (s : Sort) → HeadIsThere g → EachSorted vs → IsTrue (head_takes cx.sig g (length vs)) → head_sort cx.sig g (sorts_in vs) ≡ Some s
      → Sorted (head_term g (terms_of vs)) s
  head_sorted (head.Operator o) vs s there h n e = operation_sorted o vs s h n e
  head_sorted (head.Make d c) vs s there h n e = applied (op.Make d c) (terms_of vs) (sorts_in vs) s (each_sorted vs h) e
  head_sorted (head.OfSort d c r) vs s there h n e =
      applied (op.Make d c) (terms_of vs) (sorts_in vs) s (each_sorted vs h) (only_where (same_sort r (sort.Data d)) (op_sort cx.sig (op.Make d c) (sorts_in vs)) s e)
  head_sorted (head.Get d c i) vs s there h n e = applied (op.Get d c i) (terms_of vs) (sorts_in vs) s (each_sorted vs h) e
  head_sorted (head.Is d c) vs s there h n e = applied (op.Is d c) (terms_of vs) (sorts_in vs) s (each_sorted vs h) e
  head_sorted (head.Divisible m) vs s there h n e =
      on_all_sorted sort.Int sort.Bool s vs (head_term (head.Divisible m) (terms_of vs)) h e
      (of_one_sorted (divisible m) sort.Int sort.Bool (divisible_sorted m) (terms_of vs) (exactly vs 1 n))
  head_sorted (head.Constant r) vs s there h n e = constant_sorted (element_of r) vs s there h e
  head_sorted (head.Declared y) vs s there h n e = symbol_sorted y vs s there h e
