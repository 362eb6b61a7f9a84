-- Where an index stands among exceptions, or where it would go, and what an edit at that place makes.
use Rattle.std.proofs.Common.{◌≡◌, ℕ, zero, suc, ℤ, ◌<◌, ◌≤◌, ◌<ℤ◌, ◌≤ℤ◌, [], ◌∷◌, length, get_or, insert, slice_set, Some, Contains, Result, Ok, Err, IfOk, IfErr, inl, inr, arith, refl, sym, ap, ◌∙◌, subst}
use Rattle.std.specs.List.{slice_get, remove}
use Rattle.std.specs.List.Sorted.{IsSearchInRange, IsBinarySearchResult, IsNonDecreasingBy}
use Rattle.std.specs.Ordering.{int_cmp, ordering_index, MatchOrdering}
use Rattle.std.specs.declared.cmp.Ordering.{Ordering}
use Rattle.std.specs.declared.cmp.Ordering.TheVariants.{Less, Equal, Greater}
use Rattle.std.specs.Cmp.{int_ranks}
use Rattle.std.proofs.Math.IntN.{ℤ_discrete}
use Rattle.std.proofs.Math.Decide.{dec_lt}
use Rattle.std.proofs.lemmas.Cmp.{int_ranked}
use Rattle.std.proofs.lemmas.Int.{ints}
use Rattle.std.proofs.lemmas.Option.{same_Some, none-some, slice_get-get_or}
use Rattle.chc_values.specs.declared.value.Value.{Value}
use Rattle.chc_values.specs.declared.value.Value.TheVariants as value
use Rattle.chc_values.specs.Arrays.{IsOrdered, IsAt, IsGap}
use Rattle.chc_values.proofs.Membership.{In, contains_from_In}
use Rattle.chc_values.proofs.Exceptions.{Exceptions, pick-yes, pick-no, AreAbove, Ascends, Ascends-from, In-above, not_below_itself}
use Rattle.chc_values.proofs.Storing.{put, put-none, put-less, put-same, put-more, without}

abbrev index_at : Exceptions → ℕ → ℤ × Value → ℤ
index_at es k d = (get_or es k d).0

above_at : (i : ℤ) (es : Exceptions) (k : ℕ) (d : ℤ × Value) → AreAbove i es → k < length es → i <ℤ index_at es k d
above_at i [] k d a h = absurd (omega arith)
above_at i (e ∷ es) zero d a h = a.0
above_at i (e ∷ es) (suc k) d a h = above_at i es k d a.1 (omega arith)

-- the indices rise
rises : (es : Exceptions) → Ascends es → (k l : ℕ) (d : ℤ × Value) → k ≤ l → l < length es → index_at es k d ≤ℤ index_at es l d
rises [] a k l d h g = absurd (omega arith)
rises (e ∷ es) a zero zero d h g = omega (arith, ints)
rises (e ∷ es) a zero (suc l) d h g = let b = above_at e.0 es l d a.0 (omega arith) in omega (arith, ints)
rises (e ∷ es) a (suc k) zero d h g = absurd (omega arith)
rises (e ∷ es) a (suc k) (suc l) d h g = rises es a.1 k l d (omega arith) (omega arith)

ranks_rise_by : (a b k : ℤ) (p q : Ordering) → MatchOrdering p (a <ℤ k) (a ≡ k) (k <ℤ a) → MatchOrdering q (b <ℤ k) (b ≡ k) (k <ℤ b) → a ≤ℤ b → ordering_index p ≤ ordering_index q
ranks_rise_by a b k Less q h g l = omega arith
ranks_rise_by a b k Equal Less h g l = absurd (omega (arith, ints))
ranks_rise_by a b k Equal Equal h g l = omega arith
ranks_rise_by a b k Equal Greater h g l = omega arith
ranks_rise_by a b k Greater Less h g l = absurd (omega (arith, ints))
ranks_rise_by a b k Greater Equal h g l = absurd (omega (arith, ints))
ranks_rise_by a b k Greater Greater h g l = omega arith

ranks_rise : (a b k : ℤ) → a ≤ℤ b → ordering_index (int_cmp a k) ≤ ordering_index (int_cmp b k)
ranks_rise a b k l = ranks_rise_by a b k (int_cmp a k) (int_cmp b k) (int_ranks a k) (int_ranks b k) l

module _ (es : Exceptions) (i : ℤ) (ordered_es : IsOrdered es) where
  comparisons_rise : IsNonDecreasingBy (λ (e : ℤ × Value). ordering_index (int_cmp e.0 i)) es
  comparisons_rise k l d h g = ranks_rise (index_at es k d) (index_at es l d) i (rises es (Ascends-from es ordered_es) k l d h g)

  equal_at : (k : ℕ) → k < length es → ((d : ℤ × Value) → int_cmp (index_at es k d) i ≡ Equal) → IsAt i es k
  equal_at k h e =
      let d : ℤ × Value = (i, value.Int i) in
      let p : index_at es k d ≡ i = int_ranked (index_at es k d) i Equal (sym (e d)) in
      ((get_or es k d).1, slice_get-get_or es k d h ∙ ap (λ j. Some (j, (get_or es k d).1)) p)

  abbrev Searched : Result ℕ ℕ → Type 0
  Searched r = record { found : IfOk r (IsAt i es); absent : IfErr r (IsGap i es) }

  -- a binary search by index ends at the index, or at the gap for it
  searched_here : (r : Result ℕ ℕ) → IsSearchInRange r (length es) → IsBinarySearchResult (λ (e : ℤ × Value). int_cmp e.0 i) es r → Searched r
  searched_here (Ok k) h e = record { found = equal_at k h e; absent = tt }
  searched_here (Err k) h e =
      let parts = e comparisons_rise in record {
        found = tt;
        absent = (
          h,
          λ l d p q. int_ranked (index_at es l d) i Less (sym (parts.0 l d p q)),
          λ l d p q. int_ranked (index_at es l d) i Greater (sym (parts.1 l d p q)),
        );
      }

  pub searched : (r : Result ℕ ℕ) (k : ℤ) → IsSearchInRange r (length es) → IsBinarySearchResult (λ (e : ℤ × Value). int_cmp e.0 k) es r → k ≡ i → Searched r
  searched r k h e p = searched_here r h (subst (λ j. IsBinarySearchResult (λ (x : ℤ × Value). int_cmp x.0 j) es r) p e)

-- an index that has a gap stands nowhere
pub gap_absent : (es : Exceptions) (i : ℤ) (k : ℕ) → IsGap i es k → (u : Value) → In es (i, u) → ⊥
gap_absent es i k g u m = at (contains_from_In es (i, u) m)
  where
    at : Contains es (i, u) → ⊥
    at c = by_lt (dec_lt c.0 k) (λ l. no_gap (g.1 c.0 (i, u) (omega arith) l) c.2) (λ n. no_rest (g.2 c.0 (i, u) (omega arith) c.1) c.2)
      where
        by_lt : Dec (c.0 < k) → (c.0 < k → ⊥) → ((c.0 < k → ⊥) → ⊥) → ⊥
        by_lt (yes l) f g = f l
        by_lt (no n) f g = g n

        no_gap : index_at es c.0 (i, u) <ℤ i → get_or es c.0 (i, u) ≡ (i, u) → ⊥
        no_gap l e = not_below_itself _ _ l (ap (λ (x : ℤ × Value). x.0) e)

        no_rest : i <ℤ index_at es c.0 (i, u) → get_or es c.0 (i, u) ≡ (i, u) → ⊥
        no_rest l e = not_below_itself _ _ l (sym (ap (λ (x : ℤ × Value). x.0) e))

In-from_get : (es : Exceptions) (k : ℕ) (e : ℤ × Value) → slice_get es k ≡ Some e → In es e
In-from_get [] k e h = absurd (none-some e h)
In-from_get (x ∷ es) zero e h = inl (same_Some x e h)
In-from_get (x ∷ es) (suc k) e h = inr (In-from_get es k e h)

-- the exception at the index is changed
pub put_at : (es : Exceptions) (i : ℤ) (v : Value) (k : ℕ) → Ascends es → IsAt i es k → slice_set es k (i, v) ≡ put i v es
put_at [] i v k a h = absurd (none-some (i, h.0) h.1)
put_at (e ∷ es) i v zero a h = sym (put-same i v e es (sym (ap (λ (x : ℤ × Value). x.0) (same_Some e (i, h.0) h.1))))
put_at (e ∷ es) i v (suc k) a h =
    ap (λ l. e ∷ l) (put_at es i v k a.1 h) ∙ sym (put-more i v e es (In-above e.0 es (i, h.0) a.0 (In-from_get es k (i, h.0) h.1)))

-- the exception at the index is removed
pub without_at : (es : Exceptions) (i : ℤ) (k : ℕ) → Ascends es → IsAt i es k → remove es k ≡ without i es
without_at [] i k a h = absurd (none-some (i, h.0) h.1)
without_at (e ∷ es) i zero a h = sym (pick-yes (ℤ_discrete e.0 i) es (e ∷ without i es) (ap (λ (x : ℤ × Value). x.0) (same_Some e (i, h.0) h.1)))
without_at (e ∷ es) i (suc k) a h =
    ap (λ l. e ∷ l) (without_at es i k a.1 h)
    ∙ sym (pick-no (ℤ_discrete e.0 i) es (e ∷ without i es) (λ p. not_below_itself e.0 i (In-above e.0 es (i, h.0) a.0 (In-from_get es k (i, h.0) h.1)) p))

-- an index that stands nowhere needs no removal
pub without_absent : (es : Exceptions) (i : ℤ) → ((u : Value) → In es (i, u) → ⊥) → es ≡ without i es
without_absent [] i n = refl
without_absent (e ∷ es) i n =
    ap (λ l. e ∷ l) (without_absent es i (λ u m. n u (inr m)))
    ∙ sym (pick-no (ℤ_discrete e.0 i) es (e ∷ without i es) (λ p. n e.1 (inl (λ j. (p j, e.1)))))

-- lower ones stand before the place, and greater ones from there on, by recursion
abbrev Gap : ℤ → Exceptions → ℕ → Type 0
Gap i es zero = AreAbove i es
Gap i [] (suc k) = ⊥
Gap i (e ∷ es) (suc k) = (e.0 <ℤ i) × Gap i es k

all_above : (i : ℤ) (es : Exceptions) → ((k : ℕ) (d : ℤ × Value) → k < length es → i <ℤ index_at es k d) → AreAbove i es
all_above i [] f = tt
all_above i (e ∷ es) f = (f 0 e (omega arith), all_above i es (λ k d l. f (suc k) d (omega arith)))

Gap-from : (i : ℤ) (es : Exceptions) (k : ℕ) → IsGap i es k → Gap i es k
Gap-from i es zero g = all_above i es (λ k d l. g.2 k d (omega arith) l)
Gap-from i [] (suc k) g = absurd (omega (arith, g.0))
Gap-from i (e ∷ es) (suc k) g =
    (g.1 0 e (omega arith) (omega arith), Gap-from i es k (omega (arith, g.0), λ l d p q. g.1 (suc l) d (omega arith) (omega arith), λ l d p q. g.2 (suc l) d (omega arith) (omega arith)))

put_above : (es : Exceptions) (i : ℤ) (v : Value) → AreAbove i es → (i, v) ∷ es ≡ put i v es
put_above [] i v a = sym (put-none i v)
put_above (e ∷ es) i v a = sym (put-less i v e es a.0)

put_inserted : (es : Exceptions) (i : ℤ) (v : Value) (k : ℕ) → Gap i es k → insert es k (i, v) ≡ put i v es
put_inserted [] i v zero g = put_above [] i v g
put_inserted (e ∷ es) i v zero g = put_above (e ∷ es) i v g
put_inserted [] i v (suc k) g = absurd g
put_inserted (e ∷ es) i v (suc k) g = ap (λ l. e ∷ l) (put_inserted es i v k g.1) ∙ sym (put-more i v e es g.0)

-- an exception is inserted at the gap
pub put_gap : (es : Exceptions) (i : ℤ) (v : Value) (k : ℕ) → IsGap i es k → insert es k (i, v) ≡ put i v es
put_gap es i v k g = put_inserted es i v k (Gap-from i es k g)
