-- What a sink in memory tells.
use Rattle.std.specs.Prelude.{◌≡◌, ◌≢◌, ℕ, Bool, true, take, vec_len}
use Rattle.chc_source.specs.declared.mem_sink.MemSink.{MemSink}
use Rattle.chc_source.specs.Output.{Output}
use Rattle.chc_source.specs.Schedule.{fails_at}

-- it tells what it took, and counts what fails
abbrev pub sink_output : MemSink → Output
sink_output s = record { tells = true; taken = take s.len s.room.items; faults = s.faults }

-- how many bytes it can take in all
abbrev pub room_of : MemSink → ℕ
room_of s = vec_len s.room

-- how many puts were made
abbrev pub puts_made : MemSink → ℕ
puts_made s = s.schedule.next

-- whether the put of this number fails
abbrev pub fails_put : MemSink → ℕ → Bool
fails_put s k = fails_at s.schedule k

-- the same puts fail, and the room is as large
pub record SamePuts (old new : MemSink) : Type 0 where
  pub failing : (k : ℕ) → fails_put new k ≡ fails_put old k
  pub room : room_of new ≡ room_of old

-- one more put fails
pub record FailsPutToo (call : ℕ) (old new : MemSink) : Type 0 where
  pub fails : fails_put new call ≡ true
  pub others : (k : ℕ) → k ≢ call → fails_put new k ≡ fails_put old k
