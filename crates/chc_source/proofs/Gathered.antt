-- What the loop of `read_whole` keeps.
use Rattle.std.proofs.Common.{ℕ, ◌≤◌, IsTrue, List, length}
use Rattle.chc_source.specs.Outside.{Outside, OnlyReads, IsFront, bytes_at}

-- the text is the front of the file and within the limit, and nothing changed
pub record Gathered (name text : List ℕ) (limit : ℕ) (old new : Outside) : Type 0 where
  pub within : length text ≤ limit
  pub front : IsTrue old.tells → IsFront text (bytes_at old name)
  pub only : OnlyReads name old new
