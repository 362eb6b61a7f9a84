-- The exceptions after a store: they are there, and stand canonically.
use Rattle.std.proofs.Common.{◌≡◌, ◌≢◌, ℤ, ◌<ℤ◌, [], ◌∷◌, arith, refl, sym, ◌∙◌, subst}
use Rattle.std.proofs.Math.IntN.{ℤ_discrete}
use Rattle.std.proofs.lemmas.Int.{ints}
use Rattle.chc_values.specs.declared.value.Value.{Value}
use Rattle.chc_values.proofs.Equality.{value_decided}
use Rattle.chc_values.proofs.Exceptions.{Exceptions, pick, pick-yes, value_at, value_at-below, AreAbove, Ascends, NoDefaults, Canonical, Order, less, same, more, ordered, below_all, not_below_itself, here, elsewhere}

put_by : {i j : ℤ} → Order i j → ℤ → Value → ℤ × Value → Exceptions → Exceptions → Exceptions
put_by (less h) i v e es rest = (i, v) ∷ e ∷ es
put_by (same h) i v e es rest = (i, v) ∷ es
put_by (more h) i v e es rest = e ∷ rest

-- the exceptions with v at the index i
pub put : ℤ → Value → Exceptions → Exceptions
put i v [] = (i, v) ∷ []
put i v (e ∷ es) = put_by (ordered i e.0) i v e es (put i v es)

put_by-less : {i j : ℤ} (o : Order i j) (v : Value) (e : ℤ × Value) (es rest : Exceptions) → i <ℤ j → put_by o i v e es rest ≡ (i, v) ∷ e ∷ es
unfolding put_by
put_by-less (less h) v e es rest l = refl
put_by-less {i} {j} (same h) v e es rest l = absurd (not_below_itself i j l h)
put_by-less (more h) v e es rest l = absurd (omega (arith, ints))

put_by-same : {i j : ℤ} (o : Order i j) (v : Value) (e : ℤ × Value) (es rest : Exceptions) → i ≡ j → put_by o i v e es rest ≡ (i, v) ∷ es
unfolding put_by
put_by-same {i} {j} (less h) v e es rest p = absurd (not_below_itself i j h p)
put_by-same (same h) v e es rest p = refl
put_by-same {i} {j} (more h) v e es rest p = absurd (not_below_itself j i h (sym p))

put_by-more : {i j : ℤ} (o : Order i j) (v : Value) (e : ℤ × Value) (es rest : Exceptions) → j <ℤ i → put_by o i v e es rest ≡ e ∷ rest
unfolding put_by
put_by-more (less h) v e es rest l = absurd (omega (arith, ints))
put_by-more {i} {j} (same h) v e es rest l = absurd (not_below_itself j i l (sym h))
put_by-more (more h) v e es rest l = refl

pub put-none : (i : ℤ) (v : Value) → put i v [] ≡ (i, v) ∷ []
unfolding put
put-none i v = refl

pub put-less : (i : ℤ) (v : Value) (e : ℤ × Value) (es : Exceptions) → i <ℤ e.0 → put i v (e ∷ es) ≡ (i, v) ∷ e ∷ es
unfolding put put_by
put-less i v e es l = put_by-less (ordered i e.0) v e es (put i v es) l

pub put-same : (i : ℤ) (v : Value) (e : ℤ × Value) (es : Exceptions) → i ≡ e.0 → put i v (e ∷ es) ≡ (i, v) ∷ es
unfolding put put_by
put-same i v e es p = put_by-same (ordered i e.0) v e es (put i v es) p

pub put-more : (i : ℤ) (v : Value) (e : ℤ × Value) (es : Exceptions) → e.0 <ℤ i → put i v (e ∷ es) ≡ e ∷ put i v es
unfolding put put_by
put-more i v e es l = put_by-more (ordered i e.0) v e es (put i v es) l

-- the exceptions without the index i
abbrev pub without : ℤ → Exceptions → Exceptions
without i [] = []
without i (e ∷ es) = pick (ℤ_discrete e.0 i) es (e ∷ without i es)

-- what stands at each index after a change at one
record Changes (default : Value) (i : ℤ) (v : Value) (old new : Exceptions) : Type 0 where
  at_index : value_at default new i ≡ v
  at_others : (j : ℤ) → (i ≡ j → ⊥) → value_at default new j ≡ value_at default old j
  ascends : Ascends new
  above : (k : ℤ) → k <ℤ i → AreAbove k old → AreAbove k new
  no_defaults : NoDefaults default new

put_changes_by : (default : Value) (i : ℤ) (v : Value) (e : ℤ × Value) (es rest : Exceptions) (o : Order i e.0) → v ≢ default → Ascends (e ∷ es) → NoDefaults default (e ∷ es)
    → Changes default i v es rest → Changes default i v (e ∷ es) (put_by o i v e es rest)
unfolding put_by
put_changes_by default i v e es rest (less h) n a d c = record {
  at_index = here default (i, v) (e ∷ es);
  at_others = λ j m. elsewhere default (i, v) (e ∷ es) j m;
  ascends = ((h, below_all i e.0 es h a.0), a);
  above = λ k l b. (l, b);
  no_defaults = (n, d);
}
put_changes_by default i v e es rest (same h) n a d c = record {
  at_index = here default (i, v) es;
  at_others = λ j m. elsewhere default (i, v) es j m ∙ sym (elsewhere default e es j (λ p. m (h ∙ p)));
  ascends = (subst (λ k. AreAbove k es) (sym h) a.0, a.1);
  above = λ k l b. (l, b.1);
  no_defaults = (n, d.1);
}
put_changes_by default i v e es rest (more h) n a d c = record {
  at_index = elsewhere default e rest i (not_below_itself e.0 i h) ∙ c.at_index;
  at_others = at_others;
  ascends = (c.above e.0 h a.0, c.ascends);
  above = λ k l b. (b.0, c.above k l b.1);
  no_defaults = (d.0, c.no_defaults);
}
  where
    by : (j : ℤ) → (i ≡ j → ⊥) → Dec (e.0 ≡ j) → value_at default (e ∷ rest) j ≡ value_at default (e ∷ es) j
    by j m (yes p) = pick-yes (ℤ_discrete e.0 j) e.1 (value_at default rest j) p ∙ sym (pick-yes (ℤ_discrete e.0 j) e.1 (value_at default es j) p)
    by j m (no q) = elsewhere default e rest j q ∙ c.at_others j m ∙ sym (elsewhere default e es j q)

    at_others : (j : ℤ) → (i ≡ j → ⊥) → value_at default (e ∷ rest) j ≡ value_at default (e ∷ es) j
    at_others j m = by j m (ℤ_discrete e.0 j)

put_changes : (default : Value) (i : ℤ) (v : Value) (es : Exceptions) → v ≢ default → Ascends es → NoDefaults default es → Changes default i v es (put i v es)
unfolding put put_by
put_changes default i v [] n a d = record {
  at_index = here default (i, v) [];
  at_others = λ j m. elsewhere default (i, v) [] j m;
  ascends = (tt, tt);
  above = λ k l b. (l, tt);
  no_defaults = (n, tt);
}
put_changes default i v (e ∷ es) n a d = put_changes_by default i v e es (put i v es) (ordered i e.0) n a d (put_changes default i v es n a.1 d.1)

without_changes_by : (default : Value) (i : ℤ) (e : ℤ × Value) (es rest : Exceptions) (d : Dec (e.0 ≡ i)) → Ascends (e ∷ es) → NoDefaults default (e ∷ es)
    → Changes default i default es rest → ((k : ℤ) → AreAbove k es → AreAbove k rest) → Changes default i default (e ∷ es) (pick d es (e ∷ rest))
without_changes_by default i e es rest (yes p) a d c b = record {
  at_index = subst (λ j. value_at default es j ≡ default) p (value_at-below default e.0 es a.0);
  at_others = λ j m. sym (elsewhere default e es j (λ q. m (sym p ∙ q)));
  ascends = a.1;
  above = λ k l h. h.1;
  no_defaults = d.1;
}
without_changes_by default i e es rest (no q) a d c b = record {
  at_index = elsewhere default e rest i q ∙ c.at_index;
  at_others = λ j m. by j m (ℤ_discrete e.0 j);
  ascends = (b e.0 a.0, c.ascends);
  above = λ k l h. (h.0, b k h.1);
  no_defaults = (d.0, c.no_defaults);
}
  where
    by : (j : ℤ) → (i ≡ j → ⊥) → Dec (e.0 ≡ j) → value_at default (e ∷ rest) j ≡ value_at default (e ∷ es) j
    by j m (yes p) = pick-yes (ℤ_discrete e.0 j) e.1 (value_at default rest j) p ∙ sym (pick-yes (ℤ_discrete e.0 j) e.1 (value_at default es j) p)
    by j m (no n) = elsewhere default e rest j n ∙ c.at_others j m ∙ sym (elsewhere default e es j n)

above_pick : (k : ℤ) (i : ℤ) (e : ℤ × Value) (es rest : Exceptions) (d : Dec (e.0 ≡ i)) → AreAbove k (e ∷ es) → AreAbove k rest → AreAbove k (pick d es (e ∷ rest))
above_pick k i e es rest (yes p) a b = a.1
above_pick k i e es rest (no n) a b = (a.0, b)

above_without : (i : ℤ) (es : Exceptions) (k : ℤ) → AreAbove k es → AreAbove k (without i es)
above_without i [] k a = tt
above_without i (e ∷ es) k a = above_pick k i e es (without i es) (ℤ_discrete e.0 i) a (above_without i es k a.1)

without_changes : (default : Value) (i : ℤ) (es : Exceptions) → Ascends es → NoDefaults default es → Changes default i default es (without i es)
without_changes default i [] a d = record { at_index = refl; at_others = λ j m. refl; ascends = tt; above = λ k l b. tt; no_defaults = tt }
without_changes default i (e ∷ es) a d =
    without_changes_by default i e es (without i es) (ℤ_discrete e.0 i) a d (without_changes default i es a.1 d.1) (above_without i es)

-- canonical exceptions with v at the index i and the old value at every other
pub record Stored (default : Value) (old : Exceptions) (i : ℤ) (v : Value) (new : Exceptions) : Type 0 where
  pub canonical : Canonical default new
  pub at_index : value_at default new i ≡ v
  pub at_others : (j : ℤ) → (i ≡ j → ⊥) → value_at default new j ≡ value_at default old j

stored_from : (default : Value) (old : Exceptions) (i : ℤ) (v : Value) (new : Exceptions) → Changes default i v old new → Stored default old i v new
stored_from default old i v new c = record { canonical = record { ascends = c.ascends; no_defaults = c.no_defaults }; at_index = c.at_index; at_others = c.at_others }

-- `put` stores a value that isn't the default, and `without` the default
pub put_stored : (default : Value) (es : Exceptions) (i : ℤ) (v : Value) → Canonical default es → v ≢ default → Stored default es i v (put i v es)
put_stored default es i v h n = stored_from default es i v (put i v es) (put_changes default i v es n h.ascends h.no_defaults)

pub without_stored : (default : Value) (es : Exceptions) (i : ℤ) → Canonical default es → Stored default es i default (without i es)
without_stored default es i h = stored_from default es i default (without i es) (without_changes default i es h.ascends h.no_defaults)

-- a store can be made
pub stored : (default : Value) (old : Exceptions) (i : ℤ) (v : Value) → Canonical default old → (new : Exceptions) × Stored default old i v new
stored default old i v h = at (value_decided v default)
  where
    at : Dec (v ≡ default) → (new : Exceptions) × Stored default old i v new
    at (yes p) = (without i old, subst (λ u. Stored default old i u (without i old)) (sym p) (without_stored default old i h))
    at (no n) = (put i v old, put_stored default old i v h n)
