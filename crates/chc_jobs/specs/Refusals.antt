-- What the parts of a run come to where they give a status.
use Rattle.std.specs.Prelude.{◌≡◌, ◌<◌, ◌≤◌, ℕ, List, length, map}
use Rattle.chc_source.specs.Outside.{Outside, bytes_at, Rose, Grows}
use Rattle.chc_state.specs.Meaning.{In}
use Rattle.chc_jobs.specs.Runs.{FileWord, IsApart, Given, Job, most_bytes, Told, AreShort, ReadFails, IsTooLong, WriteFails, StopsAt}
use Rattle.chc_jobs.specs.declared.top.status.Status.{Status}
use Rattle.chc_jobs.specs.declared.top.status.Status.TheVariants as status

-- a read of the word failed, its file is too long, or memory was refused
abbrev pub WordReadRefusal : List ℕ → ℕ → Outside → Outside → Status → Type 0
WordReadRefusal name word old new (status.ReadFault k) = (k ≡ word) × Rose (old.read_faults name) (new.read_faults name)
WordReadRefusal name word old new (status.TooLong k) = (k ≡ word) × Told old (most_bytes < length (bytes_at old name))
WordReadRefusal name word old new status.NoMemory = Unit {0}
WordReadRefusal name word old new other = ⊥

-- a write of the word failed, or memory was refused
abbrev pub WordWriteRefusal : List ℕ → ℕ → Outside → Outside → Status → Type 0
WordWriteRefusal name word old new (status.WriteFault k) = (k ≡ word) × Rose (old.write_faults name) (new.write_faults name)
WordWriteRefusal name word old new status.NoMemory = Unit {0}
WordWriteRefusal name word old new other = ⊥

-- only the counts of reads of these words may have changed
pub record OnlyReadsAll (words : List FileWord) (old new : Outside) : Type 0 where
  pub telling : new.tells ≡ old.tells
  pub files : (n : List ℕ) → new.held n ≡ old.held n
  pub counts : (n : List ℕ) → Grows (old.read_faults n) (new.read_faults n)
  pub other_reads : (n : List ℕ) → IsApart n words → new.read_faults n ≡ old.read_faults n
  pub writes : (n : List ℕ) → new.write_faults n ≡ old.write_faults n

-- a read of one of the words failed, a file is too long, or memory was refused
abbrev pub ReadRefusal : List FileWord → Outside → Outside → Status → Type 0
ReadRefusal words old new (status.ReadFault k) = ReadFails words k old new
ReadRefusal words old new (status.TooLong k) = Told old (IsTooLong words k old)
ReadRefusal words old new status.NoMemory = Unit {0}
ReadRefusal words old new other = ⊥

-- the bytes were refused, or memory was
abbrev pub BytesRefusal : (Status → Type 0) → Status → Type 0
BytesRefusal refuses (status.ScriptRefused f) = refuses (status.ScriptRefused f)
BytesRefusal refuses (status.TraceRefused f) = refuses (status.TraceRefused f)
BytesRefusal refuses (status.Foreign f) = refuses (status.Foreign f)
BytesRefusal refuses (status.AnswerRefused f) = refuses (status.AnswerRefused f)
BytesRefusal refuses status.NoMemory = Unit {0}
BytesRefusal refuses other = ⊥

-- an input couldn't be read, is too long or was refused, or memory was refused
abbrev pub InputRefusal : Given → Job → Outside → Outside → Status → Type 0
InputRefusal g job old new (status.ScriptRefused f) = Told old (AreShort g.inputs old × job.refuses (status.ScriptRefused f))
InputRefusal g job old new (status.TraceRefused f) = Told old (AreShort g.inputs old × job.refuses (status.TraceRefused f))
InputRefusal g job old new (status.Foreign f) = Told old (AreShort g.inputs old × job.refuses (status.Foreign f))
InputRefusal g job old new (status.AnswerRefused f) = Told old (AreShort g.inputs old × job.refuses (status.AnswerRefused f))
InputRefusal g job old new (status.ReadFault k) = ReadFails g.inputs k old new
InputRefusal g job old new (status.TooLong k) = Told old (IsTooLong g.inputs k old)
InputRefusal g job old new status.NoMemory = Unit {0}
InputRefusal g job old new other = ⊥

-- one of the outputs couldn't be written, or memory was refused
abbrev pub OutputRefusal : List FileWord → List (List ℕ) → Outside → Outside → Status → Type 0
OutputRefusal words texts old new (status.WriteFault k) = WriteFails words k old new × Told old (StopsAt words texts k old new)
OutputRefusal words texts old new status.NoMemory = Told old ((k : ℕ) × StopsAt words texts k old new)
OutputRefusal words texts old new other = ⊥

-- the texts are the bytes of the words' files, and short enough
pub record AreRead (words : List FileWord) (texts : List (List ℕ)) (old : Outside) : Type 0 where
  pub bytes : Told old (texts ≡ map (λ (v : FileWord). bytes_at old v.name) words)
  pub short : (text : List ℕ) → In text texts → length text ≤ most_bytes
