-- What follows from readings, one after another.
use Rattle.std.proofs.Common.{◌≡◌, refl, Ok, Err}
use Rattle.chc_elab.specs.Sites.{Reading, ◌>>>◌}

-- what was read first where all was read
pub read_first : {A B : Type 0} (r : Reading A) (f : A → Reading B) (b : B) → (r >>> f) ≡ Ok b → (a : A) × (r ≡ Ok a) × (f a ≡ Ok b)
read_first (Ok a) f b e = (a, refl, e)
read_first (Err fault) f b e = cc
