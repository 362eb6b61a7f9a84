-- What is read of a list, in part and in whole.
use Rattle.std.proofs.Common.{◌++◌, ℕ, List, Ok}
use Rattle.chc_sexpr.specs.declared.tree.Tree.{Tree}
use Rattle.chc_elab.specs.declared.typed.Typed.{Typed}
use Rattle.chc_elab.specs.Reads.{arguments, beside, seconds_read}
use Rattle.chc_elab.specs.Sites.{Site, Setting, Reading, ◌>>>◌}

module _ (setting : Setting) where
  -- arguments so far, and those of the other trees
  abbrev pub args_and_more : ℕ → Site → ℕ → List Typed → List Tree → Reading (List Typed)
  args_and_more place site before args ts = arguments place site before (beside setting ts) >>> (λ rest. Ok (args ++ rest))

  -- the terms of pairs so far, and those of the other pairs
  abbrev pub values_and_more : Site → List Typed → List Tree → Reading (List Typed)
  values_and_more site values ts = seconds_read (beside setting ts) site >>> (λ rest. Ok (values ++ rest))
