-- Which calls fail.
use Rattle.std.specs.Prelude.{◌≡◌, ◌≢◌, ℕ, Bool, true}
use Rattle.std.specs.BTreeSet.{contains}
use Rattle.std.specs.Ordering.{nat_cmp}
use Rattle.chc_source.specs.declared.schedule.Schedule.{Schedule}

-- whether the call of this number fails
abbrev pub fails_at : Schedule → ℕ → Bool
fails_at s k = contains nat_cmp s.failing k

-- one more call fails
pub record FailsAlso (call : ℕ) (old new : Schedule) : Type 0 where
  pub fails : fails_at new call ≡ true
  pub others : (k : ℕ) → k ≢ call → fails_at new k ≡ fails_at old k
  pub number : new.next ≡ old.next

-- the same calls fail, and the next one has the same number
pub record SameSchedule (old new : Schedule) : Type 0 where
  pub failing : (k : ℕ) → fails_at new k ≡ fails_at old k
  pub number : new.next ≡ old.next
