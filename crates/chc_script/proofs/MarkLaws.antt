-- The mark of a term says where predicates stand in it.
use Rattle.std.proofs.Common.{◌≡◌, ℕ, zero, suc, ℤ, List, [], ◌∷◌, map, Bool, true, false, cond, ◌||◌, Some, slice_get, option_map, refl, ap, sym, ◌∙◌}
use Rattle.std.specs.List.{list_any, AllByRecursion}
use Rattle.std.proofs.lemmas.Bool.{or_parts, true≢false}
use Rattle.std.proofs.lemmas.Option.{none-some, same_Some, slice_get-map}
use Rattle.chc_sorts.specs.declared.sort.Sort.{Sort}
use Rattle.chc_sorts.specs.declared.op.Op.{Op}
use Rattle.chc_terms.specs.declared.term.Kind.{Kind}
use Rattle.chc_terms.specs.declared.term.Term.{Term, Term-F, fold-roll-Term}
use Rattle.chc_terms.specs.declared.term.Term.TheVariants.{Var, Num, Lit, App, Pred, Quant, Call, rolls-Var, rolls-Num, rolls-Lit, rolls-App, rolls-Pred, rolls-Quant, rolls-Call}
use Rattle.chc_terms.proofs.Induction.{term_ind}
use Rattle.chc_script.specs.Marks.{mentions, mentions_step, marked, marked_step, node_of, is_within, within_level, is_below, below_level, mark_or, mark_at, part_level}
use Rattle.chc_script.specs.declared.horn.mark.Mark.{Mark}
use Rattle.chc_script.specs.declared.horn.mark.Mark.TheVariants as mark

pub mentions-Var : (i : ℕ) → mentions (Var i) ≡ false
unfolding mentions
mentions-Var i = ap mentions (sym (rolls-Var i)) ∙ fold-roll-Term Bool mentions_step (Term-F.Var i)

pub mentions-Num : (n : ℤ) → mentions (Num n) ≡ false
unfolding mentions
mentions-Num n = ap mentions (sym (rolls-Num n)) ∙ fold-roll-Term Bool mentions_step (Term-F.Num n)

pub mentions-Lit : (b : Bool) → mentions (Lit b) ≡ false
unfolding mentions
mentions-Lit b = ap mentions (sym (rolls-Lit b)) ∙ fold-roll-Term Bool mentions_step (Term-F.Lit b)

pub mentions-App : (o : Op) (ts : List Term) → mentions (App o ts) ≡ list_any (λ b. b) (map mentions ts)
unfolding mentions
mentions-App o ts = ap mentions (sym (rolls-App o ts)) ∙ fold-roll-Term Bool mentions_step (Term-F.App o ts)

pub mentions-Pred : (p : ℕ) (ts : List Term) → mentions (Pred p ts) ≡ true
unfolding mentions
mentions-Pred p ts = ap mentions (sym (rolls-Pred p ts)) ∙ fold-roll-Term Bool mentions_step (Term-F.Pred p ts)

pub mentions-Quant : (k : Kind) (sorts : List Sort) (t : Term) → mentions (Quant k sorts t) ≡ mentions t
unfolding mentions
mentions-Quant k sorts t = ap mentions (sym (rolls-Quant k sorts t)) ∙ fold-roll-Term Bool mentions_step (Term-F.Quant k sorts t)

pub mentions-Call : (k : ℕ) (ts : List Term) → mentions (Call k ts) ≡ list_any (λ b. b) (map mentions ts)
unfolding mentions
mentions-Call k ts = ap mentions (sym (rolls-Call k ts)) ∙ fold-roll-Term Bool mentions_step (Term-F.Call k ts)

pub marked-Var : (i : ℕ) → marked (Var i) ≡ mark.Without
unfolding marked
marked-Var i = ap marked (sym (rolls-Var i)) ∙ fold-roll-Term Mark marked_step (Term-F.Var i)

pub marked-Num : (n : ℤ) → marked (Num n) ≡ mark.Without
unfolding marked
marked-Num n = ap marked (sym (rolls-Num n)) ∙ fold-roll-Term Mark marked_step (Term-F.Num n)

pub marked-Lit : (b : Bool) → marked (Lit b) ≡ mark.Without
unfolding marked
marked-Lit b = ap marked (sym (rolls-Lit b)) ∙ fold-roll-Term Mark marked_step (Term-F.Lit b)

pub marked-App : (o : Op) (ts : List Term) → marked (App o ts) ≡ node_of (map marked ts)
unfolding marked
marked-App o ts = ap marked (sym (rolls-App o ts)) ∙ fold-roll-Term Mark marked_step (Term-F.App o ts)

pub marked-Pred : (p : ℕ) (ts : List Term) → marked (Pred p ts) ≡ mark.Within (map marked ts)
unfolding marked
marked-Pred p ts = ap marked (sym (rolls-Pred p ts)) ∙ fold-roll-Term Mark marked_step (Term-F.Pred p ts)

pub marked-Quant : (k : Kind) (sorts : List Sort) (t : Term) → marked (Quant k sorts t) ≡ marked t
unfolding marked
marked-Quant k sorts t = ap marked (sym (rolls-Quant k sorts t)) ∙ fold-roll-Term Mark marked_step (Term-F.Quant k sorts t)

pub marked-Call : (k : ℕ) (ts : List Term) → marked (Call k ts) ≡ node_of (map marked ts)
unfolding marked
marked-Call k ts = ap marked (sym (rolls-Call k ts)) ∙ fold-roll-Term Mark marked_step (Term-F.Call k ts)

-- the equations of `marked`
pub ruleset mark_equations = (marked-Var, marked-Num, marked-Lit, marked-App, marked-Pred, marked-Quant, marked-Call)

pub within-Without : is_within mark.Without ≡ false
within-Without = ap within_level mark.outs-Without

pub within-Within : (ms : List Mark) → is_within (mark.Within ms) ≡ true
within-Within ms = ap within_level (mark.outs-Within ms)

-- a predicate stands in a term that isn't an atom where one stands in a part
pub within-node : (ms : List Mark) → is_within (node_of ms) ≡ list_any is_within ms
within-node ms = by_test (list_any is_within ms)
  where
    by_test : (b : Bool) → is_within (cond b (mark.Within ms) mark.Without) ≡ b
    by_test true = within-Within ms
    by_test false = within-Without

pub any_within : (ts : List Term) → AllByRecursion (λ t. is_within (marked t) ≡ mentions t) ts → list_any is_within (map marked ts) ≡ list_any (λ b. b) (map mentions ts)
any_within [] same = refl
any_within (t ∷ ts) same = ap (λ b. b || list_any is_within (map marked ts)) same.0 ∙ ap (λ b. mentions t || b) (any_within ts same.1)

-- a mark says whether a predicate stands in the term
pub within-marked : (t : Term) → is_within (marked t) ≡ mentions t
within-marked = term_ind (λ t. is_within (marked t) ≡ mentions t) (record {
  of_var = λ i. ap is_within (marked-Var i) ∙ within-Without ∙ sym (mentions-Var i);
  of_num = λ n. ap is_within (marked-Num n) ∙ within-Without ∙ sym (mentions-Num n);
  of_lit = λ b. ap is_within (marked-Lit b) ∙ within-Without ∙ sym (mentions-Lit b);
  of_app = λ o ts k. ap is_within (marked-App o ts) ∙ within-node (map marked ts) ∙ any_within ts k ∙ sym (mentions-App o ts);
  of_pred = λ p ts k. ap is_within (marked-Pred p ts) ∙ within-Within (map marked ts) ∙ sym (mentions-Pred p ts);
  of_quant = λ q sorts t k. ap is_within (marked-Quant q sorts t) ∙ k ∙ sym (mentions-Quant q sorts t);
  of_call = λ n ts k. ap is_within (marked-Call n ts) ∙ within-node (map marked ts) ∙ any_within ts k ∙ sym (mentions-Call n ts);
})

any_mentioned : (ts : List Term) → list_any is_within (map marked ts) ≡ list_any mentions ts
any_mentioned [] = refl
any_mentioned (t ∷ ts) = ap (λ b. b || list_any is_within (map marked ts)) (within-marked t) ∙ ap (λ b. mentions t || b) (any_mentioned ts)

-- and the mark of an atom whether one stands in an argument
pub below-marked : (p : ℕ) (ts : List Term) → is_below (marked (Pred p ts)) ≡ list_any mentions ts
below-marked p ts = ap is_below (marked-Pred p ts) ∙ ap below_level (mark.outs-Within (map marked ts)) ∙ any_mentioned ts

-- a term in which no predicate stands has the mark that says just this
node_without : (ms : List Mark) → is_within (node_of ms) ≡ false → node_of ms ≡ mark.Without
node_without ms h = ap (λ b. cond b (mark.Within ms) mark.Without) (sym (within-node ms) ∙ h)

without : (t : Term) → is_within (marked t) ≡ false → marked t ≡ mark.Without
without = term_ind (λ t. is_within (marked t) ≡ false → marked t ≡ mark.Without) (record {
  of_var = λ i h. marked-Var i;
  of_num = λ n h. marked-Num n;
  of_lit = λ b h. marked-Lit b;
  of_app = λ o ts k h. marked-App o ts ∙ node_without (map marked ts) (ap is_within (sym (marked-App o ts)) ∙ h);
  of_pred = λ p ts k h. absurd (true≢false (sym (ap is_within (marked-Pred p ts) ∙ within-Within (map marked ts)) ∙ h));
  of_quant = λ q sorts t k h. marked-Quant q sorts t ∙ k (ap is_within (sym (marked-Quant q sorts t)) ∙ h);
  of_call = λ n ts k h. marked-Call n ts ∙ node_without (map marked ts) (ap is_within (sym (marked-Call n ts)) ∙ h);
})

none_at : (ts : List Term) (i : ℕ) (t : Term) → slice_get ts i ≡ Some t → list_any is_within (map marked ts) ≡ false → is_within (marked t) ≡ false
none_at [] i t at h = absurd (none-some t at)
none_at (u ∷ ts) zero t at h = ap (λ x. is_within (marked x)) (sym (same_Some u t at)) ∙ (or_parts (is_within (marked u)) (list_any is_within (map marked ts)) h).0
none_at (u ∷ ts) (suc i) t at h = none_at ts i t at (or_parts (is_within (marked u)) (list_any is_within (map marked ts)) h).1

-- the mark of a term that isn't an atom has the marks of its parts
pub part-marked : (ts : List Term) (i : ℕ) (t : Term) → slice_get ts i ≡ Some t → mark_at (node_of (map marked ts)) i ≡ marked t
part-marked ts i t at = by_test (list_any is_within (map marked ts)) refl
  where
    by_test : (b : Bool) → list_any is_within (map marked ts) ≡ b → mark_at (cond b (mark.Within (map marked ts)) mark.Without) i ≡ marked t
    by_test true h =
        ap (part_level (mark.Within (map marked ts)) i) (mark.outs-Within (map marked ts))
        ∙ ap (mark_or (mark.Within (map marked ts))) (slice_get-map marked ts i ∙ ap (option_map marked) at)
    by_test false h = ap (part_level mark.Without i) mark.outs-Without ∙ sym (without t (none_at ts i t at h))
