-- What a term with room for other variables keeps: its values, its sort, its size and its depth.
use Rattle.std.proofs.Common.{◌≡◌, ℕ, ◌+◌, List, [], ◌∷◌, ◌++◌, length, option_map, option_and_then, slice_get, refl, sym, ap, ◌∙◌, subst, append_assoc, max}
use Rattle.std.specs.Prelude.{Result, IfOk, Ok, Err}
use Rattle.std.specs.List.{AllByRecursion}
use Rattle.chc_sorts.specs.declared.sort.Sort.{Sort}
use Rattle.chc_sorts.specs.Signature.{Signature}
use Rattle.chc_values.specs.declared.value.Value.{Value}
use Rattle.chc_values.specs.declared.world.WorldEntry.{WorldEntry}
use Rattle.chc_terms.specs.declared.term.Kind.{Kind}
use Rattle.chc_terms.specs.declared.term.Term.{Term}
use Rattle.chc_terms.specs.declared.term.Term.TheVariants.{Var, Num, Lit, App, Pred, Quant, Call}
use Rattle.chc_terms.specs.Counts.{size, size_all, depth, depth_all}
use Rattle.chc_terms.specs.Has.{Meaning, Has}
use Rattle.chc_terms.specs.Shifted.{moved, shifted, shifted_all}
use Rattle.chc_terms.specs.Sorted.{Context, sort_of, sorts_of, op_sort, truth_at, result_at, declared_quantifier_sort}
use Rattle.chc_terms.specs.ShiftLaws.{ShiftKeepsValues, ShiftKeepsSort, ShiftKeepsCounts, KeepsMeaning, as_tested}
use Rattle.chc_terms.proofs.Along.{Gives, EachGives, app_along, pred_along, call_along, quant_along}
use Rattle.chc_terms.proofs.CountLaws.{size-Var, size-App, size-Pred, size-Quant, size-Call, size_all-cons, depth-Var, depth-App, depth-Pred, depth-Quant, depth-Call}
use Rattle.chc_terms.proofs.HasLaws.{Has-Var, Has-Num, Has-Lit}
use Rattle.chc_terms.proofs.Induction.{term_ind}
use Rattle.chc_terms.proofs.Places.{slice_get-moved}
use Rattle.chc_terms.proofs.ShiftedLaws.{shifted-Var, shifted-Num, shifted-Lit, shifted-App, shifted-Pred, shifted-Quant, shifted-Call}
use Rattle.chc_terms.proofs.SortLaws.{sort_of-Var, sort_of-Num, sort_of-Lit, sort_of-App, sort_of-Pred, sort_of-Quant, sort_of-Call}

module _ (sig : Signature) (w : List WorldEntry) (preds defs : Meaning) (before new : List Value) where
  abbrev has : Term → List Value → Value → Type 0
  has = Has sig w preds defs

  abbrev there : Term → Term
  there t = shifted t (length before) (length new)

  abbrev there_all : List Term → List Term
  there_all ts = shifted_all ts (length before) (length new)

  -- the assignments before and after, with these values at their ends
  abbrev old : List Value → List Value
  old after = before ++ after

  abbrev now : List Value → List Value
  now after = before ++ new ++ after

  -- whatever values stand after the new ones, as those of the variables that quantifiers bind
  abbrev Kept : Term → Type 0
  Kept t = (after : List Value) → Gives has (old after) (now after) t (there t) × Gives has (now after) (old after) (there t) t

  all_there : (ts : List Term) → AllByRecursion Kept ts → (after : List Value) → EachGives has (old after) (now after) ts (there_all ts)
  all_there [] f after = tt
  all_there (t ∷ ts) f after = ((f.0 after).0, all_there ts f.1 after)

  all_back : (ts : List Term) → AllByRecursion Kept ts → (after : List Value) → EachGives has (now after) (old after) (there_all ts) ts
  all_back [] f after = tt
  all_back (t ∷ ts) f after = ((f.0 after).1, all_back ts f.1 after)

  -- of a term that is shifted to u
  shown : (t u : Term) (after : List Value) → there t ≡ u → Gives has (old after) (now after) t u → Gives has (now after) (old after) u t
      → Gives has (old after) (now after) t (there t) × Gives has (now after) (old after) (there t) t
  shown t u after e g b = (λ v h. subst (λ x. has x (now after) v) (sym e) (g v h), λ v h. b v (subst (λ x. has x (now after) v) e h))

  kept_var : (i : ℕ) → Kept (Var i)
  kept_var i after =
      let j = moved (length before) (length new) i in
      let e = slice_get-moved before new after i in
      shown (Var i) (Var j) after (shifted-Var (length before) (length new) i)
      (λ v h. rw (Has-Var sig w preds defs j (now after) v) (e ∙ (rw (Has-Var sig w preds defs i (old after) v) at h)))
      (λ v h. rw (Has-Var sig w preds defs i (old after) v) (sym e ∙ (rw (Has-Var sig w preds defs j (now after) v) at h)))

  kept_quant : (k : Kind) (sorts : List Sort) (t : Term) → Kept t → Kept (Quant k sorts t)
  kept_quant k sorts t f after =
      shown (Quant k sorts t) (Quant k sorts (there t)) after (shifted-Quant (length before) (length new) k sorts t)
      (quant_along sig w preds defs (old after) (now after) k sorts t (there t) (λ us v h. to us v ((f (after ++ us)).0 v (from us v h))))
      (quant_along sig w preds defs (now after) (old after) k sorts (there t) t (λ us v h. back us v ((f (after ++ us)).1 v (again us v h))))
    where
      from : (us : List Value) (v : Value) → has t (old after ++ us) v → has t (old (after ++ us)) v
      from us v h = subst (λ env. has t env v) (append_assoc before after us) h

      back : (us : List Value) (v : Value) → has t (old (after ++ us)) v → has t (old after ++ us) v
      back us v h = subst (λ env. has t env v) (sym (append_assoc before after us)) h

      to : (us : List Value) (v : Value) → has (there t) (now (after ++ us)) v → has (there t) (now after ++ us) v
      to us v h = subst (λ env. has (there t) env v) (sym (append_assoc (before ++ new) after us)) h

      again : (us : List Value) (v : Value) → has (there t) (now after ++ us) v → has (there t) (now (after ++ us)) v
      again us v h = subst (λ env. has (there t) env v) (append_assoc (before ++ new) after us) h

  kept : (t : Term) → Kept t
  kept = term_ind Kept (record {
    of_var = kept_var;
    of_num = λ n after. shown (Num n) (Num n) after (shifted-Num (length before) (length new) n)
        (λ v h. rw (Has-Num sig w preds defs n (now after) v) (rw (Has-Num sig w preds defs n (old after) v) at h))
        (λ v h. rw (Has-Num sig w preds defs n (old after) v) (rw (Has-Num sig w preds defs n (now after) v) at h));
    of_lit = λ b after. shown (Lit b) (Lit b) after (shifted-Lit (length before) (length new) b)
        (λ v h. rw (Has-Lit sig w preds defs b (now after) v) (rw (Has-Lit sig w preds defs b (old after) v) at h))
        (λ v h. rw (Has-Lit sig w preds defs b (old after) v) (rw (Has-Lit sig w preds defs b (now after) v) at h));
    of_app = λ o ts f after. shown (App o ts) (App o (there_all ts)) after (shifted-App (length before) (length new) o ts)
        (app_along sig w preds defs (old after) (now after) o ts (there_all ts) (all_there ts f after))
        (app_along sig w preds defs (now after) (old after) o (there_all ts) ts (all_back ts f after));
    of_pred = λ p ts f after. shown (Pred p ts) (Pred p (there_all ts)) after (shifted-Pred (length before) (length new) p ts)
        (pred_along sig w preds defs (old after) (now after) p ts (there_all ts) (all_there ts f after))
        (pred_along sig w preds defs (now after) (old after) p (there_all ts) ts (all_back ts f after));
    of_quant = kept_quant;
    of_call = λ k ts f after. shown (Call k ts) (Call k (there_all ts)) after (shifted-Call (length before) (length new) k ts)
        (call_along sig w preds defs (old after) (now after) k ts (there_all ts) (all_there ts f after))
        (call_along sig w preds defs (now after) (old after) k (there_all ts) ts (all_back ts f after));
  })

pub shift_keeps_values : ShiftKeepsValues
shift_keeps_values sig w preds defs t from up before new after e g v =
    let k = kept sig w preds defs before new t after in
    let same : shifted t (length before) (length new) ≡ shifted t from up = λ i. shifted t (e i) (g i) in (
      λ h. subst (λ x. Has sig w preds defs x (before ++ new ++ after) v) same (k.0 v h),
      λ h. k.1 v (subst (λ x. Has sig w preds defs x (before ++ new ++ after) v) (sym same) h),
    )

module _ (cx : Context) (before new : List Sort) where
  abbrev Sorted : Term → Type 0
  Sorted t = (after : List Sort) → sort_of cx (shifted t (length before) (length new)) (before ++ new ++ after) ≡ sort_of cx t (before ++ after)

  all_sorted : (ts : List Term) → AllByRecursion Sorted ts → (after : List Sort)
      → sorts_of cx (shifted_all ts (length before) (length new)) (before ++ new ++ after) ≡ sorts_of cx ts (before ++ after)
  all_sorted [] f after = refl
  all_sorted (t ∷ ts) f after = λ i. option_and_then (λ s. option_map (λ ss. s ∷ ss) (all_sorted ts f.1 after i)) (f.0 after i)

  -- the sort of a term by what it is shifted to
  through : (t u : Term) (vars : List Sort) → shifted t (length before) (length new) ≡ u → sort_of cx (shifted t (length before) (length new)) vars ≡ sort_of cx u vars
  through t u vars e = ap (λ x. sort_of cx x vars) e

  sorted : (t : Term) → Sorted t
  sorted = term_ind Sorted (record {
    of_var = λ i after.
        let j = moved (length before) (length new) i in
        through (Var i) (Var j) (before ++ new ++ after) (shifted-Var (length before) (length new) i)
        ∙ sort_of-Var cx j (before ++ new ++ after) ∙ slice_get-moved before new after i ∙ sym (sort_of-Var cx i (before ++ after));
    of_num = λ n after.
        through (Num n) (Num n) (before ++ new ++ after) (shifted-Num (length before) (length new) n)
        ∙ sort_of-Num cx n (before ++ new ++ after) ∙ sym (sort_of-Num cx n (before ++ after));
    of_lit = λ b after.
        through (Lit b) (Lit b) (before ++ new ++ after) (shifted-Lit (length before) (length new) b)
        ∙ sort_of-Lit cx b (before ++ new ++ after) ∙ sym (sort_of-Lit cx b (before ++ after));
    of_app = λ o ts f after.
        let us = shifted_all ts (length before) (length new) in
        through (App o ts) (App o us) (before ++ new ++ after) (shifted-App (length before) (length new) o ts)
        ∙ sort_of-App cx o us (before ++ new ++ after) ∙ ap (option_and_then (op_sort cx.sig o)) (all_sorted ts f after) ∙ sym (sort_of-App cx o ts (before ++ after));
    of_pred = λ p ts f after.
        let us = shifted_all ts (length before) (length new) in
        through (Pred p ts) (Pred p us) (before ++ new ++ after) (shifted-Pred (length before) (length new) p ts)
        ∙ sort_of-Pred cx p us (before ++ new ++ after) ∙ ap (option_and_then (λ sorts. truth_at sorts (slice_get cx.preds p))) (all_sorted ts f after)
        ∙ sym (sort_of-Pred cx p ts (before ++ after));
    of_quant = λ k sorts t f after.
        let u = shifted t (length before) (length new) in
        through (Quant k sorts t) (Quant k sorts u) (before ++ new ++ after) (shifted-Quant (length before) (length new) k sorts t)
        ∙ sort_of-Quant cx k sorts u (before ++ new ++ after)
        ∙ ap (declared_quantifier_sort cx.sig sorts) (ap (sort_of cx u) (append_assoc (before ++ new) after sorts) ∙ f (after ++ sorts) ∙ ap (sort_of cx t) (sym (append_assoc before after sorts)))
        ∙ sym (sort_of-Quant cx k sorts t (before ++ after));
    of_call = λ k ts f after.
        let us = shifted_all ts (length before) (length new) in
        through (Call k ts) (Call k us) (before ++ new ++ after) (shifted-Call (length before) (length new) k ts)
        ∙ sort_of-Call cx k us (before ++ new ++ after) ∙ ap (option_and_then (λ sorts. result_at sorts (slice_get cx.defs k))) (all_sorted ts f after)
        ∙ sym (sort_of-Call cx k ts (before ++ after));
  })

pub shift_keeps_sort : ShiftKeepsSort
shift_keeps_sort cx t from up before new after e g =
    let same : shifted t (length before) (length new) ≡ shifted t from up = λ i. shifted t (e i) (g i) in
    ap (λ x. sort_of cx x (before ++ new ++ after)) (sym same) ∙ sorted cx before new t after

module _ (from up : ℕ) where
  abbrev Counted : Term → Type 0
  Counted t = (size (shifted t from up) ≡ size t) × (depth (shifted t from up) ≡ depth t)

  sizes_kept : (ts : List Term) → AllByRecursion Counted ts → size_all (shifted_all ts from up) ≡ size_all ts
  sizes_kept [] f = refl
  sizes_kept (t ∷ ts) f =
      size_all-cons (shifted t from up) (shifted_all ts from up) ∙ (λ i. f.0.0 i + sizes_kept ts f.1 i) ∙ sym (size_all-cons t ts)

  depths_kept : (ts : List Term) → AllByRecursion Counted ts → depth_all (shifted_all ts from up) ≡ depth_all ts
  depths_kept [] f = refl
  depths_kept (t ∷ ts) f = λ i. max (f.0.1 i) (depths_kept ts f.1 i)

  counted : (t : Term) → Counted t
  counted = term_ind Counted (record {
    of_var = λ i. (
      ap size (shifted-Var from up i) ∙ size-Var (moved from up i) ∙ sym (size-Var i),
      ap depth (shifted-Var from up i) ∙ depth-Var (moved from up i) ∙ sym (depth-Var i),
    );
    of_num = λ n. (ap size (shifted-Num from up n), ap depth (shifted-Num from up n));
    of_lit = λ b. (ap size (shifted-Lit from up b), ap depth (shifted-Lit from up b));
    of_app = λ o ts f.
        let us = shifted_all ts from up in (
          ap size (shifted-App from up o ts) ∙ size-App o us ∙ ap (λ n. n + 1) (sizes_kept ts f) ∙ sym (size-App o ts),
          ap depth (shifted-App from up o ts) ∙ depth-App o us ∙ ap (λ n. n + 1) (depths_kept ts f) ∙ sym (depth-App o ts),
        );
    of_pred = λ p ts f.
        let us = shifted_all ts from up in (
          ap size (shifted-Pred from up p ts) ∙ size-Pred p us ∙ ap (λ n. n + 1) (sizes_kept ts f) ∙ sym (size-Pred p ts),
          ap depth (shifted-Pred from up p ts) ∙ depth-Pred p us ∙ ap (λ n. n + 1) (depths_kept ts f) ∙ sym (depth-Pred p ts),
        );
    of_quant = λ k sorts t f.
        let u = shifted t from up in (
          ap size (shifted-Quant from up k sorts t) ∙ size-Quant k sorts u ∙ ap (λ n. n + 1) f.0 ∙ sym (size-Quant k sorts t),
          ap depth (shifted-Quant from up k sorts t) ∙ depth-Quant k sorts u ∙ ap (λ n. n + 1) f.1 ∙ sym (depth-Quant k sorts t),
        );
    of_call = λ k ts f.
        let us = shifted_all ts from up in (
          ap size (shifted-Call from up k ts) ∙ size-Call k us ∙ ap (λ n. n + 1) (sizes_kept ts f) ∙ sym (size-Call k ts),
          ap depth (shifted-Call from up k ts) ∙ depth-Call k us ∙ ap (λ n. n + 1) (depths_kept ts f) ∙ sym (depth-Call k ts),
        );
  })

pub shift_keeps_counts : ShiftKeepsCounts
shift_keeps_counts t from up = counted from up t

pub keeps_meaning : (t : Term) (from up : ℕ) → KeepsMeaning t (shifted t from up) from up
keeps_meaning t from up = record {
  same_values = λ sig w preds defs before new after e g v. shift_keeps_values sig w (as_tested preds) (as_tested defs) t from up before new after e g v;
  same_sort = λ cx before new after e g. shift_keeps_sort cx t from up before new after e g;
  same_size = (shift_keeps_counts t from up).0;
  same_depth = (shift_keeps_counts t from up).1;
}

pub keeps_meaning_where : (t : Term) (from up : ℕ) (s : Term) → s ≡ shifted t from up → KeepsMeaning t s from up
keeps_meaning_where t from up s e = subst (λ (x : Term). KeepsMeaning t x from up) (sym e) (keeps_meaning t from up)
