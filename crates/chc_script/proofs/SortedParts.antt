-- The clause of a well-sorted assertion is well sorted.
use Rattle.std.proofs.Common.{◌≡◌, ℕ, Bool, true, false, List, [], ◌∷◌, ◌++◌, map, Option, Some, None, Ok, slice_get, option_map, option_and_then, refl, ap, sym, subst, ◌∙◌}
use Rattle.std.specs.List.{AllByRecursion, list_all, list_any}
use Rattle.std.proofs.lemmas.Bool.{and_parts, and_from, or_parts, true≢false, false≢true}
use Rattle.std.proofs.lemmas.Option.{none-some}
use Rattle.chc_sorts.specs.declared.sort.Sort.{Sort}
use Rattle.chc_sorts.specs.declared.sort.Sort.TheVariants as sort
use Rattle.chc_sorts.specs.declared.op.Op.{Op}
use Rattle.chc_sorts.specs.declared.op.Op.TheVariants as op
use Rattle.chc_sorts.specs.Signature.{Signature}
use Rattle.chc_sorts.specs.Sorts.{same_sort, same_sorts}
use Rattle.chc_terms.specs.declared.term.Term.{Term, Term-F}
use Rattle.chc_terms.specs.declared.term.Term.TheVariants as term
use Rattle.chc_terms.specs.Sorted.{Context, sort_of, sorts_of, op_sort, are_truths, when, is_plain, is_unquantified}
use Rattle.chc_terms.proofs.Induction.{term_ind}
use Rattle.chc_terms.proofs.OperatorShapes.{when_some}
use Rattle.chc_terms.proofs.SameSort.{same_itself, same_from_test, same_sorts_itself, same_sorts_from_test}
use Rattle.chc_terms.proofs.SortLaws.{sort_of-Var, sort_of-Num, sort_of-Lit, sort_of-App, is_plain-Var, is_plain-Num, is_plain-Lit, is_plain-App, is_unquantified-App, is_unquantified-Pred, is_unquantified-Quant}
use Rattle.chc_terms.proofs.SortSteps.{sorts_of_more, app_sorts, pred_sorts, call_sorts}
use Rattle.chc_state.specs.declared.clause.Atom.{Atom}
use Rattle.chc_state.specs.declared.clause.PredDecl.{PredDecl}
use Rattle.chc_state.specs.States.{head_all}
use Rattle.chc_state.specs.Sorts.{clause_context, is_sort, are_sorts, is_condition, is_sorted_atom, positions}
use Rattle.chc_state.specs.WellFormed.{is_part, is_part_level}
use Rattle.chc_script.specs.Marks.{mentions}
use Rattle.chc_script.specs.Horn.{collected, readings, each, way_of, way_read, whole_read, literal_read, atom_read, with_condition, with_head}
use Rattle.chc_script.specs.HornLaws.{script_context}
use Rattle.chc_script.specs.declared.horn.parts.Parts.{Parts}
use Rattle.chc_script.specs.declared.horn.side.Side.{Side}
use Rattle.chc_script.specs.declared.horn.side.Side.TheVariants as side
use Rattle.chc_script.proofs.Collected.{collected-Var, collected-Num, collected-Lit, collected-App, collected-Pred, collected-Quant, collected-Call}
use Rattle.chc_script.proofs.MarkLaws.{mentions-App, mentions-Pred}
use Rattle.chc_script.proofs.HornSteps.{same_made, refused_made, made_before}

pub all_appended : {X : Type 0} (test : X → Bool) (xs : List X) (x : X) → list_all test xs ≡ true → test x ≡ true → list_all test (xs ++ x ∷ []) ≡ true
all_appended test [] x h k = and_from (test x) true k refl
all_appended test (y ∷ xs) x h k =
    let b = and_parts (test y) (list_all test xs) h in
    and_from (test y) (list_all test (xs ++ x ∷ [])) b.0 (all_appended test xs x b.1 k)

module _ (sig : Signature) (preds : List PredDecl) where
  abbrev pub Over : Context
  Over = script_context sig preds

  abbrev pub Alone : Context
  Alone = clause_context sig

  -- a term without predicates and quantifiers is plain, and has its sort where nothing is declared
  pub record Plain (t : Term) (vars : List Sort) (s : Sort) : Type 0 where
    pub plain : is_plain t ≡ true
    pub sorted : sort_of Alone t vars ≡ Some s

  abbrev Plains : Term → Type 0
  Plains t = (vars : List Sort) (s : Sort) → sort_of Over t vars ≡ Some s → mentions t ≡ false → is_unquantified t ≡ true → Plain t vars s

  record AllPlain (ts : List Term) (vars sorts : List Sort) : Type 0 where
    plain : list_all (λ b. b) (map is_plain ts) ≡ true
    sorted : sorts_of Alone ts vars ≡ Some sorts

  all_plain : (ts : List Term) → AllByRecursion Plains ts → (vars sorts : List Sort) → sorts_of Over ts vars ≡ Some sorts
      → list_any (λ b. b) (map mentions ts) ≡ false → list_all (λ b. b) (map is_unquantified ts) ≡ true → AllPlain ts vars sorts
  all_plain [] f vars sorts h m u = record { plain = refl; sorted = h }
  all_plain (t ∷ ts) f vars sorts h m u =
      let more = sorts_of_more Over vars t ts sorts h in
      let n = or_parts (mentions t) (list_any (λ b. b) (map mentions ts)) m in
      let q = and_parts (is_unquantified t) (list_all (λ b. b) (map is_unquantified ts)) u in
      let first = f.0 vars more.first more.first_of n.0 q.0 in
      let rest = all_plain ts f.1 vars more.others more.others_of n.1 q.1 in
      record {
        plain = and_from (is_plain t) (list_all (λ b. b) (map is_plain ts)) first.plain rest.plain;
        sorted = ap (option_and_then (λ s. option_map (λ ss. s ∷ ss) (sorts_of Alone ts vars))) first.sorted
            ∙ ap (option_map (λ ss. more.first ∷ ss)) rest.sorted ∙ ap Some (sym more.sorts_are);
      }

  pub plains : (t : Term) → Plains t
  plains = term_ind Plains (record {
    of_var = λ i vars s h m u. record { plain = is_plain-Var i; sorted = sort_of-Var Alone i vars ∙ sym (sort_of-Var Over i vars) ∙ h };
    of_num = λ n vars s h m u. record { plain = is_plain-Num n; sorted = sort_of-Num Alone n vars ∙ sym (sort_of-Num Over n vars) ∙ h };
    of_lit = λ b vars s h m u. record { plain = is_plain-Lit b; sorted = sort_of-Lit Alone b vars ∙ sym (sort_of-Lit Over b vars) ∙ h };
    of_app = λ o ts f vars s h m u.
        let g = app_sorts Over vars o ts s h in
        let all = all_plain ts f vars g.sorts g.each (sym (mentions-App o ts) ∙ m) (sym (is_unquantified-App o ts) ∙ u) in
        record {
          plain = is_plain-App o ts ∙ all.plain;
          sorted = sort_of-App Alone o ts vars ∙ ap (option_and_then (op_sort sig o)) all.sorted ∙ g.result;
        };
    of_pred = λ p ts f vars s h m u. absurd (true≢false (sym (mentions-Pred p ts) ∙ m));
    of_quant = λ k sorts t f vars s h m u. absurd (false≢true (sym (is_unquantified-Quant k sorts t) ∙ u));
    of_call = λ k ts f vars s h m u. let g = call_sorts Over vars k ts s h in absurd (none-some g.definition g.declared);
  })

  -- arguments without predicates
  args_plain : (ts : List Term) (vars sorts : List Sort) → sorts_of Over ts vars ≡ Some sorts → list_any mentions ts ≡ false
      → list_all (λ b. b) (map is_unquantified ts) ≡ true → (list_all is_plain ts ≡ true) × (sorts_of Alone ts vars ≡ Some sorts)
  args_plain [] vars sorts h m u = (refl, h)
  args_plain (t ∷ ts) vars sorts h m u =
      let more = sorts_of_more Over vars t ts sorts h in
      let n = or_parts (mentions t) (list_any mentions ts) m in
      let q = and_parts (is_unquantified t) (list_all (λ b. b) (map is_unquantified ts)) u in
      let first = plains t vars more.first more.first_of n.0 q.0 in
      let rest = args_plain ts vars more.others more.others_of n.1 q.1 in (
        and_from (is_plain t) (list_all is_plain ts) first.plain rest.0,
        ap (option_and_then (λ s. option_map (λ ss. s ∷ ss) (sorts_of Alone ts vars))) first.sorted
            ∙ ap (option_map (λ ss. more.first ∷ ss)) rest.1 ∙ ap Some (sym more.sorts_are),
      )

  module _ (vars : List Sort) where
    -- all parts are well sorted, and each condition is a part by itself
    pub record AreSorted (found : Parts) : Type 0 where
      pub conditions : list_all (is_condition sig vars) found.conj ≡ true
      pub singles : list_all is_part found.conj ≡ true
      pub atoms : list_all (is_sorted_atom sig (positions preds) vars) found.body ≡ true
      pub head : head_all (is_sorted_atom sig (positions preds) vars) found.head ≡ true

    abbrev IsTruth : Term → Type 0
    IsTruth t = sort_of Over t vars ≡ Some sort.Bool

    abbrev Sorts : Term → Type 0
    Sorts t = (s : Side) (found made : Parts) → collected t s found ≡ Ok made → IsTruth t → is_unquantified t ≡ true → AreSorted found → AreSorted made

    -- one more condition
    with_conjunct : (t : Term) (found : Parts) → Plain t vars sort.Bool → is_part t ≡ true → AreSorted found
        → AreSorted (record { conj = found.conj ++ t ∷ []; body = found.body; head = found.head })
    with_conjunct t found p single sorted = record {
      conditions = all_appended (is_condition sig vars) found.conj t sorted.conditions
          (and_from (is_plain t) (is_sort sort.Bool (sort_of Alone t vars)) p.plain (ap (is_sort sort.Bool) p.sorted ∙ same_itself sort.Bool));
      singles = all_appended is_part found.conj t sorted.singles single;
      atoms = sorted.atoms;
      head = sorted.head;
    }

    negation_plain : (t : Term) → Plain t vars sort.Bool → Plain (term.App op.Not (t ∷ [])) vars sort.Bool
    negation_plain t p = record {
      plain = is_plain-App op.Not (t ∷ []) ∙ and_from (is_plain t) true p.plain refl;
      sorted = sort_of-App Alone op.Not (t ∷ []) vars
          ∙ ap (λ o. option_and_then (op_sort sig op.Not) (option_and_then (λ s. Some (s ∷ [])) o)) p.sorted
          ∙ ap (λ b. when b sort.Bool) (same_sorts_itself (sort.Bool ∷ []));
    }

    negation_single : (t : Term) → is_part (term.App op.Not (t ∷ [])) ≡ true
    negation_single t = ap is_part_level (term.outs-App op.Not (t ∷ []))

    condition_sorted : (t : Term) (s : Side) (found : Parts) → Plain t vars sort.Bool → (s ≡ side.Assumed → is_part t ≡ true) → AreSorted found → AreSorted (with_condition s t found)
    condition_sorted t side.Concluded found p single sorted = with_conjunct (term.App op.Not (t ∷ [])) found (negation_plain t p) (negation_single t) sorted
    condition_sorted t side.Assumed found p single sorted = with_conjunct t found p (single refl) sorted

    whole_sorted : (m : Bool) (t : Term) (s : Side) (found made : Parts) → mentions t ≡ m → (s ≡ side.Assumed → is_part t ≡ true) → whole_read m t s found ≡ Ok made
        → IsTruth t → is_unquantified t ≡ true → AreSorted found → AreSorted made
    whole_sorted true t s found made m single e truth u sorted = absurd (refused_made _ made e)
    whole_sorted false t s found made m single e truth u sorted =
        subst AreSorted (same_made (with_condition s t found) made e) (condition_sorted t s found (plains t vars sort.Bool truth m u) single sorted)

    literal_sorted : (b : Bool) (s : Side) (found made : Parts) → literal_read b s found ≡ Ok made → AreSorted found → AreSorted made
    literal_sorted false side.Concluded found made e sorted = subst AreSorted (same_made found made e) sorted
    literal_sorted true side.Assumed found made e sorted = subst AreSorted (same_made found made e) sorted
    literal_sorted true side.Concluded found made e sorted =
        subst AreSorted (same_made (with_condition side.Concluded (term.Lit true) found) made e)
        (condition_sorted (term.Lit true) side.Concluded found (record { plain = is_plain-Lit true; sorted = sort_of-Lit Alone true vars }) (λ f. absurd (other f)) sorted)
      where
        other : side.Concluded ≡ side.Assumed → ⊥
        other f = cc
    literal_sorted false side.Assumed found made e sorted =
        subst AreSorted (same_made (with_condition side.Assumed (term.Lit false) found) made e)
        (condition_sorted (term.Lit false) side.Assumed found (record { plain = is_plain-Lit false; sorted = sort_of-Lit Alone false vars })
        (λ f. ap is_part_level (term.outs-Lit false)) sorted)

    -- atoms
    atom_is_sorted : (p : ℕ) (ts : List Term) → IsTruth (term.Pred p ts) → list_any mentions ts ≡ false → is_unquantified (term.Pred p ts) ≡ true
        → is_sorted_atom sig (positions preds) vars (record { pred = p; args = ts }) ≡ true
    atom_is_sorted p ts truth m u =
        let g = pred_sorts Over vars p ts sort.Bool truth in
        let args = args_plain ts vars g.params g.each m (sym (is_unquantified-Pred p ts) ∙ u) in
        and_from (list_all is_plain ts) (are_sorts (sorts_of Alone ts vars) (slice_get (positions preds) p)) args.0
        (ap (λ o. are_sorts o (slice_get (positions preds) p)) args.1 ∙ ap (are_sorts (Some g.params)) g.declared ∙ same_sorts_itself g.params)

    head_sorted : (a : Atom) (conj : List Term) (body : List Atom) (head : Option Atom) (made : Parts) → with_head a conj body head ≡ Ok made
        → is_sorted_atom sig (positions preds) vars a ≡ true → AreSorted (record { conj = conj; body = body; head = head }) → AreSorted made
    head_sorted a conj body (Some head) made e ok sorted = absurd (refused_made _ made e)
    head_sorted a conj body None made e ok sorted =
        subst AreSorted (same_made (record { conj = conj; body = body; head = Some a }) made e)
        (record { conditions = sorted.conditions; singles = sorted.singles; atoms = sorted.atoms; head = ok })

    atom_sorted : (m : Bool) (p : ℕ) (ts : List Term) (s : Side) (found made : Parts) → list_any mentions ts ≡ m → atom_read m p ts s found ≡ Ok made
        → IsTruth (term.Pred p ts) → is_unquantified (term.Pred p ts) ≡ true → AreSorted found → AreSorted made
    atom_sorted true p ts s found made m e truth u sorted = absurd (refused_made _ made e)
    atom_sorted false p ts side.Concluded found made m e truth u sorted =
        head_sorted (record { pred = p; args = ts }) found.conj found.body found.head made e (atom_is_sorted p ts truth m u) sorted
    atom_sorted false p ts side.Assumed found made m e truth u sorted =
        subst AreSorted (same_made (record { conj = found.conj; body = found.body ++ a ∷ []; head = found.head }) made e)
        (record {
          conditions = sorted.conditions;
          singles = sorted.singles;
          atoms = all_appended (is_sorted_atom sig (positions preds) vars) found.body a sorted.atoms (atom_is_sorted p ts truth m u);
          head = sorted.head;
        })
      where
        a : Atom
        a = record { pred = p; args = ts }

    -- terms one after another
    each_sorted : (ts : List Term) → AllByRecursion Sorts ts → (s : Side) (found made : Parts) → each (readings ts) s found ≡ Ok made
        → AllByRecursion IsTruth ts → list_all (λ b. b) (map is_unquantified ts) ≡ true → AreSorted found → AreSorted made
    each_sorted [] f s found made e truths u sorted = subst AreSorted (same_made found made e) sorted
    each_sorted (t ∷ ts) f s found made e truths u sorted =
        let m = made_before (collected t s found) (each (readings ts) s) made e in
        let q = and_parts (is_unquantified t) (list_all (λ b. b) (map is_unquantified ts)) u in
        each_sorted ts f.1 s m.0 made m.2 truths.1 q.1 (f.0 s found m.0 m.1 truths.0 q.0 sorted)

    -- the arguments of connectives are truth values
    all_truths : (ts : List Term) (sorts : List Sort) → sorts_of Over ts vars ≡ Some sorts → list_all (same_sort sort.Bool) sorts ≡ true → AllByRecursion IsTruth ts
    all_truths [] sorts h k = tt
    all_truths (t ∷ ts) sorts h k =
        let more = sorts_of_more Over vars t ts sorts h in
        let b = and_parts (same_sort sort.Bool more.first) (list_all (same_sort sort.Bool) more.others) (ap (list_all (same_sort sort.Bool)) (sym more.sorts_are) ∙ k) in
        (more.first_of ∙ ap Some (sym (same_from_test sort.Bool more.first b.0)), all_truths ts more.others more.others_of b.1)

    from_truths : (sorts : List Sort) → are_truths sorts ≡ true → list_all (same_sort sort.Bool) sorts ≡ true
    from_truths [] h = absurd (false≢true h)
    from_truths (a ∷ []) h = absurd (false≢true h)
    from_truths (a ∷ b ∷ more) h = h

    from_one : (sorts : List Sort) → same_sorts sorts (sort.Bool ∷ []) ≡ true → list_all (same_sort sort.Bool) sorts ≡ true
    from_one sorts h = subst (λ ss. list_all (same_sort sort.Bool) ss ≡ true) (sym (same_sorts_from_test sorts (sort.Bool ∷ []) h)) (and_from (same_sort sort.Bool sort.Bool) true (same_itself sort.Bool) refl)

    and_truths : (ts : List Term) → IsTruth (term.App op.And ts) → AllByRecursion IsTruth ts
    and_truths ts h = let g = app_sorts Over vars op.And ts sort.Bool h in all_truths ts g.sorts g.each (from_truths g.sorts (when_some (are_truths g.sorts) sort.Bool sort.Bool g.result).0)

    or_truths : (ts : List Term) → IsTruth (term.App op.Or ts) → AllByRecursion IsTruth ts
    or_truths ts h = let g = app_sorts Over vars op.Or ts sort.Bool h in all_truths ts g.sorts g.each (from_truths g.sorts (when_some (are_truths g.sorts) sort.Bool sort.Bool g.result).0)

    not_truths : (ts : List Term) → IsTruth (term.App op.Not ts) → AllByRecursion IsTruth ts
    not_truths ts h =
        let g = app_sorts Over vars op.Not ts sort.Bool h in
        all_truths ts g.sorts g.each (from_one g.sorts (when_some (same_sorts g.sorts (sort.Bool ∷ [])) sort.Bool sort.Bool g.result).0)

    single_app : (o : Op) (ts : List Term) → is_part_level (Term-F.App o ts) ≡ true → is_part (term.App o ts) ≡ true
    single_app o ts h = ap is_part_level (term.outs-App o ts) ∙ h

    -- an operator's term
    app_sorted : (o : Op) (s : Side) (m : Bool) (ts : List Term) → AllByRecursion Sorts ts → (found made : Parts) → mentions (term.App o ts) ≡ m
        → way_read (way_of o s m) (readings ts) (term.App o ts) s found ≡ Ok made
        → IsTruth (term.App o ts) → list_all (λ b. b) (map is_unquantified ts) ≡ true → is_unquantified (term.App o ts) ≡ true → AreSorted found → AreSorted made
    app_sorted op.Or side.Concluded m ts f found made n e truth us u sorted = each_sorted ts f side.Concluded found made e (or_truths ts truth) us sorted
    app_sorted op.Not side.Concluded m ts f found made n e truth us u sorted = each_sorted ts f side.Assumed found made e (not_truths ts truth) us sorted
    app_sorted op.And side.Assumed m ts f found made n e truth us u sorted = each_sorted ts f side.Assumed found made e (and_truths ts truth) us sorted
    app_sorted op.Not side.Assumed true ts f found made n e truth us u sorted = each_sorted ts f side.Concluded found made e (not_truths ts truth) us sorted
    app_sorted o s true ts f found made n e truth us u sorted = absurd (refused_made _ made e)
    app_sorted op.And side.Concluded false ts f found made n e truth us u sorted =
        whole_sorted false (term.App op.And ts) side.Concluded found made n (λ g. absurd (other g)) e truth u sorted
      where
        other : side.Concluded ≡ side.Assumed → ⊥
        other g = cc
    app_sorted o s false ts f found made n e truth us u sorted = whole_sorted false (term.App o ts) s found made n (λ g. single_app o ts refl) e truth u sorted

    -- any other term
    other_sorted : (t : Term) (s : Side) (found made : Parts) → is_part t ≡ true → collected t s found ≡ whole_read (mentions t) t s found → collected t s found ≡ Ok made
        → IsTruth t → is_unquantified t ≡ true → AreSorted found → AreSorted made
    other_sorted t s found made single same e truth u sorted = whole_sorted (mentions t) t s found made refl (λ g. single) (sym same ∙ e) truth u sorted

    pub collected_sorted : (t : Term) → Sorts t
    collected_sorted = term_ind Sorts (record {
      of_var = λ i s found made. other_sorted (term.Var i) s found made (ap is_part_level (term.outs-Var i)) (collected-Var s found i);
      of_num = λ n s found made. other_sorted (term.Num n) s found made (ap is_part_level (term.outs-Num n)) (collected-Num s found n);
      of_lit = λ b s found made e truth u sorted. literal_sorted b s found made (sym (collected-Lit s found b) ∙ e) sorted;
      of_app = λ o ts f s found made e truth u sorted.
          app_sorted o s (mentions (term.App o ts)) ts f found made refl (sym (collected-App s found o ts) ∙ e) truth (sym (is_unquantified-App o ts) ∙ u) u sorted;
      of_pred = λ p ts f s found made e truth u sorted. atom_sorted (list_any mentions ts) p ts s found made refl (sym (collected-Pred s found p ts) ∙ e) truth u sorted;
      of_quant = λ k sorts t f s found made. other_sorted (term.Quant k sorts t) s found made (ap is_part_level (term.outs-Quant k sorts t)) (collected-Quant s found k sorts t);
      of_call = λ k ts f s found made. other_sorted (term.Call k ts) s found made (ap is_part_level (term.outs-Call k ts)) (collected-Call s found k ts);
    })
