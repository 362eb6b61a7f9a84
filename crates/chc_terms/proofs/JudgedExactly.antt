-- A term is judged to have a sort exactly where it is well sorted.
use Rattle.std.proofs.Common.{◌≡◌, ◌&&◌, ℕ, suc, Bool, true, false, cond, List, [], ◌∷◌, ◌++◌, length, Option, Some, None, Result, Ok, Err, is_some, slice_get, option_map, option_and_then, refl, sym, ap, ◌∙◌, arith}
use Rattle.std.specs.List.{AllByRecursion}
use Rattle.std.specs.Prelude.{nat_eq, nat_lt}
use Rattle.std.proofs.lemmas.Bool.{false≢true}
use Rattle.std.proofs.lemmas.Bool.Decides.{nat_tests}
use Rattle.std.proofs.lemmas.Option.{none-some, same_Some}
use Rattle.chc_sorts.specs.declared.sort.Sort.{Sort}
use Rattle.chc_sorts.specs.declared.sort.Sort.TheVariants as sort
use Rattle.chc_sorts.specs.declared.op.Op.{Op}
use Rattle.chc_sorts.specs.declared.op.Op.TheVariants as op
use Rattle.chc_sorts.specs.Signature.{Signature}
use Rattle.chc_sorts.specs.Sorts.{same_sort, same_sorts}
use Rattle.chc_terms.specs.declared.context.SortErr.{SortErr}
use Rattle.chc_terms.specs.declared.fun_sort.FunSort.{FunSort}
use Rattle.chc_terms.specs.declared.term.Kind.{Kind}
use Rattle.chc_terms.specs.declared.term.Term.{Term}
use Rattle.chc_terms.specs.declared.term.Term.TheVariants.{App, Pred, Quant, Call}
use Rattle.chc_terms.specs.Sorted.{Context, sort_of, sorts_of, op_sort, truth_at, result_at, quantifier_sort, declared_quantifier_sort, when, fields_of, is_declared, are_declared, are_truths, equation_sort, choice_sort, read_sort, write_sort}
use Rattle.chc_terms.specs.Judged.{JudgesExactly, is_op_bound, is_count_of, takes_count, or_refused, judged_node, judged_quantifier, and_then_all, binds_some, judged, judged_all}
use Rattle.chc_terms.proofs.Induction.{term_ind}
use Rattle.chc_terms.proofs.SortLaws.{sort_of-Var, sort_of-Num, sort_of-Lit, sort_of-App, sort_of-Pred, sort_of-Quant, sort_of-Call}
use Rattle.chc_terms.proofs.SortSteps.{sorts_of_more}
use Rattle.chc_terms.proofs.SortTests.{other_lengths}
use Rattle.chc_terms.proofs.JudgedLaws.{judged-Var, judged-Num, judged-Lit, judged-App, judged-Pred, judged-Quant, judged-Call}

-- what is answered, where it isn't a refusal
abbrev ok_of : {X : Type 0} → Result X SortErr → Option X
ok_of (Ok x) = Some x
ok_of (Err e) = None

ok_is : (r : Result Sort SortErr) (s : Sort) → ok_of r ≡ Some s → r ≡ Ok s
ok_is (Ok t) s h = ap Ok (same_Some t s h)
ok_is (Err e) s h = absurd (none-some s h)

ok_or_refused : (e : SortErr) (o : Option Sort) → ok_of (or_refused e o) ≡ o
ok_or_refused e None = refl
ok_or_refused e (Some s) = refl

-- a node has the sort that it gives on its arguments, where it gives none if a number isn't there or the count is wrong
ok_node : {X : Type 0} (bound counted : Bool) (arguments : Result X SortErr) (result : X → Option Sort)
    → (bound ≡ false → (x : X) → ok_of arguments ≡ Some x → result x ≡ None) → (counted ≡ false → (x : X) → ok_of arguments ≡ Some x → result x ≡ None)
    → ok_of (judged_node bound counted arguments result) ≡ option_and_then result (ok_of arguments)
ok_node false counted (Ok x) result f g = sym (f refl x refl)
ok_node false counted (Err e) result f g = refl
ok_node true false (Ok x) result f g = sym (g refl x refl)
ok_node true false (Err e) result f g = refl
ok_node true true (Ok x) result f g = ok_or_refused _ (result x)
ok_node true true (Err e) result f g = refl

ok_more : (r : Result Sort SortErr) (others : Result (List Sort) SortErr) → ok_of (and_then_all r others) ≡ option_and_then (λ s. option_map (λ ss. s ∷ ss) (ok_of others)) (ok_of r)
ok_more (Ok s) (Ok ss) = refl
ok_more (Ok s) (Err e) = refl
ok_more (Err e) others = refl

-- ---- numbers that aren't there

unbound_const : (b c : Bool) (s : Sort) → b ≡ false → when (b && c) s ≡ None
unbound_const true c s h = absurd (false≢true (sym h))
unbound_const false c s h = refl

unbound_make : (o : Option (List Sort)) (sorts : List Sort) (s : Sort) → is_some o ≡ false → option_and_then (λ fields. when (same_sorts sorts fields) s) o ≡ None
unbound_make None sorts s h = refl
unbound_make (Some fields) sorts s h = absurd (false≢true (sym h))

unbound_field : (o : Option Sort) (b : Bool) → is_some o ≡ false → option_and_then (λ s. when b s) o ≡ None
unbound_field None b h = refl
unbound_field (Some s) b h = absurd (false≢true (sym h))

unbound_get : (o : Option (List Sort)) (i : ℕ) (b : Bool) → is_some (option_and_then (λ (fields : List Sort). slice_get fields i) o) ≡ false
    → option_and_then (λ (fields : List Sort). option_and_then (λ s. when b s) (slice_get fields i)) o ≡ None
unbound_get None i b h = refl
unbound_get (Some fields) i b h = unbound_field (slice_get fields i) b h

unbound : (sig : Signature) (o : Op) (sorts : List Sort) → is_op_bound sig o ≡ false → op_sort sig o sorts ≡ None
unbound sig (op.Const element) sorts h = unbound_const (is_declared sig element) (same_sorts sorts (element ∷ [])) (sort.Array element) h
unbound sig (op.Make d c) sorts h = unbound_make (fields_of sig d c) sorts (sort.Data d) h
unbound sig (op.Get d c i) sorts h = unbound_get (fields_of sig d c) i (same_sorts sorts (sort.Data d ∷ [])) h
unbound sig (op.Is d c) sorts h = unbound_const (is_some (fields_of sig d c)) (same_sorts sorts (sort.Data d ∷ [])) sort.Bool h
unbound sig o sorts h = absurd (false≢true (sym h))

-- ---- wrong counts

when_not : (b : Bool) (s : Sort) → false ≡ b → when b s ≡ None
when_not true s h = absurd (false≢true h)
when_not false s h = refl

differ : (m n : ℕ) → nat_eq m n ≡ false → m ≡ n → ⊥
differ m n h e = grind (arith, nat_tests)

other_count : (sorts params : List Sort) (s : Sort) → nat_eq (length sorts) (length params) ≡ false → when (same_sorts sorts params) s ≡ None
other_count sorts params s h = when_not (same_sorts sorts params) s (other_lengths sorts params (differ (length sorts) (length params) h))

other_count_and : (b : Bool) (sorts params : List Sort) (s : Sort) → nat_eq (length sorts) (length params) ≡ false → when (b && same_sorts sorts params) s ≡ None
other_count_and true sorts params s h = other_count sorts params s h
other_count_and false sorts params s h = refl

few_truths : (sorts : List Sort) → nat_lt 1 (length sorts) ≡ false → when (are_truths sorts) sort.Bool ≡ None
few_truths [] h = refl
few_truths (a ∷ []) h = refl
few_truths (a ∷ b ∷ more) h = absurd (few (length more) h)
  where
    few : (n : ℕ) → nat_lt 1 (suc (suc n)) ≡ false → ⊥
    few n h = grind (arith, nat_tests)

not_two_equal : (sorts : List Sort) → nat_eq (length sorts) 2 ≡ false → equation_sort sorts ≡ None
not_two_equal [] h = refl
not_two_equal (a ∷ []) h = refl
not_two_equal (a ∷ b ∷ []) h = absurd (false≢true (sym h))
not_two_equal (a ∷ b ∷ c ∷ more) h = refl

not_two_read : (sorts : List Sort) → nat_eq (length sorts) 2 ≡ false → read_sort sorts ≡ None
not_two_read [] h = refl
not_two_read (a ∷ []) h = refl
not_two_read (a ∷ b ∷ []) h = absurd (false≢true (sym h))
not_two_read (a ∷ b ∷ c ∷ more) h = refl

not_three_chosen : (sorts : List Sort) → nat_eq (length sorts) 3 ≡ false → choice_sort sorts ≡ None
not_three_chosen [] h = refl
not_three_chosen (a ∷ []) h = refl
not_three_chosen (a ∷ b ∷ []) h = refl
not_three_chosen (a ∷ b ∷ c ∷ []) h = absurd (false≢true (sym h))
not_three_chosen (a ∷ b ∷ c ∷ d ∷ more) h = refl

not_three_written : (sorts : List Sort) → nat_eq (length sorts) 3 ≡ false → write_sort sorts ≡ None
not_three_written [] h = refl
not_three_written (a ∷ []) h = refl
not_three_written (a ∷ b ∷ []) h = refl
not_three_written (a ∷ b ∷ c ∷ []) h = absurd (false≢true (sym h))
not_three_written (a ∷ b ∷ c ∷ d ∷ more) h = refl

other_fields : (o : Option (List Sort)) (sorts : List Sort) (s : Sort) → is_count_of o (length sorts) ≡ false → option_and_then (λ fields. when (same_sorts sorts fields) s) o ≡ None
other_fields None sorts s h = refl
other_fields (Some fields) sorts s h = other_count sorts fields s h

not_one_got : (o : Option (List Sort)) (i : ℕ) (sorts : List Sort) (param : Sort) → nat_eq (length sorts) 1 ≡ false
    → option_and_then (λ (fields : List Sort). option_and_then (λ s. when (same_sorts sorts (param ∷ [])) s) (slice_get fields i)) o ≡ None
not_one_got None i sorts param h = refl
not_one_got (Some fields) i sorts param h = at (slice_get fields i)
  where
    at : (f : Option Sort) → option_and_then (λ s. when (same_sorts sorts (param ∷ [])) s) f ≡ None
    at None = refl
    at (Some s) = other_count sorts (param ∷ []) s h

miscounted : (sig : Signature) (o : Op) (sorts : List Sort) → takes_count sig o (length sorts) ≡ false → op_sort sig o sorts ≡ None
miscounted sig op.Not sorts h = other_count sorts (sort.Bool ∷ []) sort.Bool h
miscounted sig op.And sorts h = few_truths sorts h
miscounted sig op.Or sorts h = few_truths sorts h
miscounted sig op.Eq sorts h = not_two_equal sorts h
miscounted sig op.Ite sorts h = not_three_chosen sorts h
miscounted sig op.Add sorts h = other_count sorts (sort.Int ∷ sort.Int ∷ []) sort.Int h
miscounted sig op.Sub sorts h = other_count sorts (sort.Int ∷ sort.Int ∷ []) sort.Int h
miscounted sig op.Mul sorts h = other_count sorts (sort.Int ∷ sort.Int ∷ []) sort.Int h
miscounted sig op.Div sorts h = other_count sorts (sort.Int ∷ sort.Int ∷ []) sort.Int h
miscounted sig op.Mod sorts h = other_count sorts (sort.Int ∷ sort.Int ∷ []) sort.Int h
miscounted sig op.Le sorts h = other_count sorts (sort.Int ∷ sort.Int ∷ []) sort.Bool h
miscounted sig op.Lt sorts h = other_count sorts (sort.Int ∷ sort.Int ∷ []) sort.Bool h
miscounted sig op.Select sorts h = not_two_read sorts h
miscounted sig op.Store sorts h = not_three_written sorts h
miscounted sig (op.Const element) sorts h = other_count_and (is_declared sig element) sorts (element ∷ []) (sort.Array element) h
miscounted sig (op.Make d c) sorts h = other_fields (fields_of sig d c) sorts (sort.Data d) h
miscounted sig (op.Get d c i) sorts h = not_one_got (fields_of sig d c) i sorts (sort.Data d) h
miscounted sig (op.Is d c) sorts h = other_count_and (is_some (fields_of sig d c)) sorts (sort.Data d ∷ []) sort.Bool h

-- ---- predicates, definitions and quantifiers

unbound_atom : (o : Option (List Sort)) (sorts : List Sort) → is_some o ≡ false → truth_at sorts o ≡ None
unbound_atom None sorts h = refl
unbound_atom (Some params) sorts h = absurd (false≢true (sym h))

miscounted_atom : (o : Option (List Sort)) (sorts : List Sort) → is_count_of o (length sorts) ≡ false → truth_at sorts o ≡ None
miscounted_atom None sorts h = refl
miscounted_atom (Some params) sorts h = other_count sorts params sort.Bool h

unbound_call : (o : Option FunSort) (sorts : List Sort) → is_some o ≡ false → result_at sorts o ≡ None
unbound_call None sorts h = refl
unbound_call (Some f) sorts h = absurd (false≢true (sym h))

miscounted_call : (o : Option FunSort) (sorts : List Sort) → is_count_of (option_map (λ (f : FunSort). f.params) o) (length sorts) ≡ false → result_at sorts o ≡ None
miscounted_call None sorts h = refl
miscounted_call (Some f) sorts h = other_count sorts f.params f.result h

ok_quantifier : (sig : Signature) (sorts : List Sort) (body : Result Sort SortErr) → ok_of (judged_quantifier sig sorts body) ≡ declared_quantifier_sort sig sorts (ok_of body)
ok_quantifier sig sorts body = at (are_declared sig sorts) sorts body
  where
    at : (b : Bool) (sorts : List Sort) (body : Result Sort SortErr)
        → ok_of (judged_node b (binds_some sorts) body (λ s. when (same_sort s sort.Bool) sort.Bool)) ≡ cond b (quantifier_sort sorts (ok_of body)) None
    at false sorts body = refl
    at true [] body = refl
    at true (s ∷ sorts) (Ok t) = ok_or_refused _ (when (same_sort t sort.Bool) sort.Bool)
    at true (s ∷ sorts) (Err e) = refl

-- ---- terms

module _ (cx : Context) where
  sorts_length : (ts : List Term) (vars sorts : List Sort) → sorts_of cx ts vars ≡ Some sorts → length sorts ≡ length ts
  sorts_length [] vars sorts h = ap length (sym (same_Some [] sorts h))
  sorts_length (t ∷ ts) vars sorts h =
      let m = sorts_of_more cx vars t ts sorts h in ap length m.sorts_are ∙ ap suc (sorts_length ts vars m.others m.others_of)

  abbrev Agrees : Term → Type 0
  Agrees t = (vars : List Sort) → ok_of (judged cx t vars) ≡ sort_of cx t vars

  all_agree : (ts : List Term) → AllByRecursion Agrees ts → (vars : List Sort) → ok_of (judged_all cx ts vars) ≡ sorts_of cx ts vars
  all_agree [] f vars = refl
  all_agree (t ∷ ts) f vars =
      ok_more (judged cx t vars) (judged_all cx ts vars)
      ∙ (λ j. option_and_then (λ s. option_map (λ ss. s ∷ ss) (all_agree ts f.1 vars j)) (f.0 vars j))

  -- as many sorts as terms
  as_many : (ts : List Term) → AllByRecursion Agrees ts → (vars sorts : List Sort) → ok_of (judged_all cx ts vars) ≡ Some sorts → length ts ≡ length sorts
  as_many ts f vars sorts h = sym (sorts_length ts vars sorts (sym (all_agree ts f vars) ∙ h))

  app_agrees : (o : Op) (ts : List Term) → AllByRecursion Agrees ts → Agrees (App o ts)
  app_agrees o ts f vars =
      ap ok_of (judged-App cx o ts vars)
      ∙ ok_node (is_op_bound cx.sig o) (takes_count cx.sig o (length ts)) (judged_all cx ts vars) (op_sort cx.sig o)
      (λ h sorts e. unbound cx.sig o sorts h) (λ h sorts e. miscounted cx.sig o sorts (ap (takes_count cx.sig o) (sym (as_many ts f vars sorts e)) ∙ h))
      ∙ ap (option_and_then (op_sort cx.sig o)) (all_agree ts f vars) ∙ sym (sort_of-App cx o ts vars)

  pred_agrees : (p : ℕ) (ts : List Term) → AllByRecursion Agrees ts → Agrees (Pred p ts)
  pred_agrees p ts f vars =
      ap ok_of (judged-Pred cx p ts vars)
      ∙ ok_node (is_some (slice_get cx.preds p)) (is_count_of (slice_get cx.preds p) (length ts)) (judged_all cx ts vars) (λ sorts. truth_at sorts (slice_get cx.preds p))
      (λ h sorts e. unbound_atom (slice_get cx.preds p) sorts h)
      (λ h sorts e. miscounted_atom (slice_get cx.preds p) sorts (ap (is_count_of (slice_get cx.preds p)) (sym (as_many ts f vars sorts e)) ∙ h))
      ∙ ap (option_and_then (λ sorts. truth_at sorts (slice_get cx.preds p))) (all_agree ts f vars) ∙ sym (sort_of-Pred cx p ts vars)

  call_agrees : (k : ℕ) (ts : List Term) → AllByRecursion Agrees ts → Agrees (Call k ts)
  call_agrees k ts f vars =
      let params : Option (List Sort) = option_map (λ (g : FunSort). g.params) (slice_get cx.defs k) in
      ap ok_of (judged-Call cx k ts vars)
      ∙ ok_node (is_some (slice_get cx.defs k)) (is_count_of params (length ts)) (judged_all cx ts vars) (λ sorts. result_at sorts (slice_get cx.defs k))
      (λ h sorts e. unbound_call (slice_get cx.defs k) sorts h)
      (λ h sorts e. miscounted_call (slice_get cx.defs k) sorts (ap (is_count_of params) (sym (as_many ts f vars sorts e)) ∙ h))
      ∙ ap (option_and_then (λ sorts. result_at sorts (slice_get cx.defs k))) (all_agree ts f vars) ∙ sym (sort_of-Call cx k ts vars)

  quant_agrees : (k : Kind) (sorts : List Sort) (t : Term) → Agrees t → Agrees (Quant k sorts t)
  quant_agrees k sorts t f vars =
      ap ok_of (judged-Quant cx k sorts t vars) ∙ ok_quantifier cx.sig sorts (judged cx t (vars ++ sorts))
      ∙ ap (declared_quantifier_sort cx.sig sorts) (f (vars ++ sorts)) ∙ sym (sort_of-Quant cx k sorts t vars)

  agrees : (t : Term) → Agrees t
  agrees = term_ind Agrees (record {
    of_var = λ i vars. ap ok_of (judged-Var cx i vars) ∙ ok_or_refused _ (slice_get vars i) ∙ sym (sort_of-Var cx i vars);
    of_num = λ n vars. ap ok_of (judged-Num cx n vars) ∙ sym (sort_of-Num cx n vars);
    of_lit = λ b vars. ap ok_of (judged-Lit cx b vars) ∙ sym (sort_of-Lit cx b vars);
    of_app = app_agrees;
    of_pred = pred_agrees;
    of_quant = quant_agrees;
    of_call = call_agrees;
  })

pub judges_exactly : JudgesExactly
judges_exactly cx t vars s = (λ h. sym (agrees cx t vars) ∙ ap ok_of h, λ h. ok_is (judged cx t vars) s (agrees cx t vars ∙ h))

-- ---- what an answer says of the sort

all_terms : (P : Term → Type 0) → ((t : Term) → P t) → (ts : List Term) → AllByRecursion P ts
all_terms P f [] = tt
all_terms P f (t ∷ ts) = (f t, all_terms P f ts)

pub sort_answered : (cx : Context) (t : Term) (vars : List Sort) (s : Sort) → Ok s ≡ judged cx t vars → Some s ≡ sort_of cx t vars
sort_answered cx t vars s h = ap ok_of h ∙ agrees cx t vars

pub sort_refused : (cx : Context) (t : Term) (vars : List Sort) (e : SortErr) → Err e ≡ judged cx t vars → None ≡ sort_of cx t vars
sort_refused cx t vars e h = ap ok_of h ∙ agrees cx t vars

pub sorts_answered : (cx : Context) (ts : List Term) (vars sorts : List Sort) → Ok sorts ≡ judged_all cx ts vars → Some sorts ≡ sorts_of cx ts vars
sorts_answered cx ts vars sorts h = ap ok_of h ∙ all_agree cx ts (all_terms (Agrees cx) (agrees cx) ts) vars

pub sorts_refused : (cx : Context) (ts : List Term) (vars : List Sort) (e : SortErr) → Err e ≡ judged_all cx ts vars → None ≡ sorts_of cx ts vars
sorts_refused cx ts vars e h = ap ok_of h ∙ all_agree cx ts (all_terms (Agrees cx) (agrees cx) ts) vars

-- a sort that is answered is the term's, and one that is refused isn't there
pub ruleset answered = (sort_answered, sort_refused, sorts_answered, sorts_refused)
