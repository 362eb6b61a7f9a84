-- What a sink tells.
use Rattle.std.specs.Prelude.{◌≡◌, ℕ, Bool, List}
use Rattle.chc_source.specs.Outside.{Grows}

-- whether a sink tells what it took, what it took, and how often it failed
pub record Output : Type 0 where
  pub tells : Bool
  pub taken : List ℕ
  pub faults : ℕ

-- whether a sink tells stays, and its count of faults grows
pub record GoesOn (old new : Output) : Type 0 where
  pub telling : new.tells ≡ old.tells
  pub count : Grows old.faults new.faults
