-- What an edit of canonical exceptions at the place of an index stores.
use Rattle.std.proofs.Common.{◌≡◌, ◌≢◌, ℕ, ℤ, insert, slice_set, subst, sym, ◌∙◌}
use Rattle.std.specs.List.{remove}
use Rattle.chc_values.specs.declared.value.Value.{Value}
use Rattle.chc_values.specs.Values.{IsCanonical}
use Rattle.chc_values.specs.Arrays.{Stores, IsAt, IsGap}
use Rattle.chc_values.proofs.Exceptions.{Exceptions, Canonical, Canonical-from}
use Rattle.chc_values.proofs.Storing.{Stored, put, without, put_stored, without_stored}
use Rattle.chc_values.proofs.ArrayLaws.{Stores-from}
use Rattle.chc_values.proofs.Places.{put_at, put_gap, without_at, without_absent, gap_absent}

module _ (default : Value) (old : Exceptions) (i : ℤ) (canonical : IsCanonical default old) where
  abbrev stands : Canonical default old
  stands = Canonical-from default old canonical

  stores_put : (v : Value) (new : Exceptions) → v ≢ default → new ≡ put i v old → Stores default old i v new
  stores_put v new n e = Stores-from default old i v new stands.ascends (subst (λ l. Stored default old i v l) (sym e) (put_stored default old i v stands n))

  stores_without : (new : Exceptions) → new ≡ without i old → Stores default old i default new
  stores_without new e = Stores-from default old i default new stands.ascends (subst (λ l. Stored default old i default l) (sym e) (without_stored default old i stands))

  pub stores_set : (v : Value) (new : Exceptions) (k : ℕ) → IsAt i old k → v ≢ default → new ≡ slice_set old k (i, v) → Stores default old i v new
  stores_set v new k h n e = stores_put v new n (e ∙ put_at old i v k stands.ascends h)

  pub stores_insert : (v : Value) (new : Exceptions) (k : ℕ) → IsGap i old k → v ≢ default → new ≡ insert old k (i, v) → Stores default old i v new
  stores_insert v new k h n e = stores_put v new n (e ∙ put_gap old i v k h)

  pub stores_removed : (new : Exceptions) (k : ℕ) → IsAt i old k → new ≡ remove old k → Stores default old i default new
  stores_removed new k h e = stores_without new (e ∙ without_at old i k stands.ascends h)

  pub stores_nothing : (k : ℕ) → IsGap i old k → Stores default old i default old
  stores_nothing k h = stores_without old (without_absent old i (gap_absent old i k h))
