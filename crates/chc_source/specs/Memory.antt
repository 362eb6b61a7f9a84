-- What files in memory tell.
use Rattle.std.specs.Prelude.{◌≡◌, ◌≢◌, ℕ, ◌+◌, ◌-◌, ◌^◌, min, Bool, true, Result, Ok, Err}
use Rattle.chc_source.specs.declared.files.FileErr.{FileErr}
use Rattle.chc_source.specs.declared.files.FileErr.TheVariants.{Failed, NoMemory}
use Rattle.chc_source.specs.declared.mem_files.MemFiles.{MemFiles}
use Rattle.chc_source.specs.declared.quiet_files.QuietFiles.{QuietFiles}
use Rattle.chc_source.specs.Outside.{Outside}
use Rattle.chc_source.specs.Faults.{reads_of, writes_of}
use Rattle.chc_source.specs.Schedule.{fails_at}
use Rattle.chc_source.specs.Store.{held_in}

-- they tell what they hold, and count what fails
abbrev pub memory_outside : MemFiles → Outside
memory_outside f = record { tells = true; held = held_in f.store; read_faults = reads_of f.faults; write_faults = writes_of f.faults }

-- files that never fail tell what they hold, and count nothing
abbrev pub quiet_outside : QuietFiles → Outside
quiet_outside f = record { tells = true; held = held_in f.store; read_faults = λ _. 0; write_faults = λ _. 0 }

-- how many bytes an append takes at most
abbrev pub piece_of : MemFiles → ℕ
piece_of f = f.piece

-- the same of files that never fail
abbrev pub quiet_piece_of : QuietFiles → ℕ
quiet_piece_of f = f.piece

-- how many calls of the trait were counted
abbrev pub calls_made : MemFiles → ℕ
calls_made f = f.schedule.next

-- whether the call of this number fails
abbrev pub fails_call : MemFiles → ℕ → Bool
fails_call f k = fails_at f.schedule k

-- the same calls fail, and an append takes as many bytes
pub record SameManner (old new : MemFiles) : Type 0 where
  pub failing : (k : ℕ) → fails_call new k ≡ fails_call old k
  pub piece : piece_of new ≡ piece_of old

-- one more call fails, and an append takes as many bytes
pub record FailsToo (call : ℕ) (old new : MemFiles) : Type 0 where
  pub fails : fails_call new call ≡ true
  pub others : (k : ℕ) → k ≢ call → fails_call new k ≡ fails_call old k
  pub piece : piece_of new ≡ piece_of old

-- the call was counted, unless it found no memory
abbrev pub IsCounted : {T : Type 0} → Result T FileErr → MemFiles → MemFiles → Type 0
IsCounted (Ok x) old new = calls_made new ≡ min (calls_made old + 1) (2 ^ 64 - 1)
IsCounted (Err Failed) old new = calls_made new ≡ min (calls_made old + 1) (2 ^ 64 - 1)
IsCounted (Err NoMemory) old new = Unit {0}
