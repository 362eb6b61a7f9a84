-- What a run of the program comes to, by the files before and after it and its status.
use Rattle.std.specs.Prelude.{◌≡◌, ◌≢◌, ◌⊎◌, ◌≤◌, ◌<◌, ℕ, List, [], ◌∷◌, Some, Ok, IsTrue, length}
use Rattle.chc_source.specs.Outside.{Outside, bytes_at, Rose, Grows, IsCutShort}
use Rattle.chc_state.specs.Meaning.{In}
use Rattle.chc_script.specs.Scripts.{ScriptView}
use Rattle.chc_script.specs.WholeScripts.{Says}
use Rattle.chc_state.specs.States.{StateView}
use Rattle.chc_state.specs.declared.defs.Defs.{Defs}
use Rattle.chc_trace.specs.declared.trace.Trace.{Trace}
use Rattle.chc_trace.specs.Traces.{SaysTrace}
use Rattle.ans_model.specs.Answers.{Says as SaysModel}
use Rattle.chc_jobs.specs.Jobs.{Normalises, Belongs, IsNoScript}
use Rattle.chc_jobs.specs.Lifting.{LiftsModel}
use Rattle.chc_jobs.specs.LiftFaults.{IsUnreadTrace, IsForeignTrace, IsUnreadAnswer}
use Rattle.chc_jobs.specs.declared.top.status.Outcome.{Outcome}
use Rattle.chc_jobs.specs.declared.top.status.Outcome.TheVariants as outcome
use Rattle.chc_jobs.specs.declared.top.status.Status.{Status}
use Rattle.chc_jobs.specs.declared.top.status.Status.TheVariants as status

-- how many bytes a file that is read may have
abbrev pub most_bytes : ℕ
most_bytes = 16777216

-- a word that names a file: its number, where the command's is 0, and the name
pub record FileWord : Type 0 where
  pub number : ℕ
  pub name : List ℕ

abbrev pub word_at : ℕ → List ℕ → FileWord
word_at number name = record { number = number; name = name }

-- the words that name the files that a command reads, and those that it writes, in order
pub record Given : Type 0 where
  pub inputs : List FileWord
  pub outputs : List FileWord

-- the files of `normalise SCRIPT OUT TRACE`
abbrev pub normalise_files : List ℕ → List ℕ → List ℕ → Given
normalise_files script out trace = record { inputs = word_at 1 script ∷ []; outputs = word_at 2 out ∷ word_at 3 trace ∷ [] }

-- the files of `lift SCRIPT TRACE ANSWER OUT`
abbrev pub lift_files : List ℕ → List ℕ → List ℕ → List ℕ → Given
lift_files script trace answer out =
    record { inputs = word_at 1 script ∷ word_at 2 trace ∷ word_at 3 answer ∷ []; outputs = word_at 4 out ∷ [] }

-- no word of the list has that name
abbrev pub IsApart : List ℕ → List FileWord → Type 0
IsApart n words = (v : FileWord) → In v words → n ≢ v.name

-- whatever a run comes to: the files but the outputs are as before, and so are the counts but those of
-- the inputs' reads and the outputs' writes, which may have grown
pub record Touches (g : Given) (old new : Outside) : Type 0 where
  pub telling : new.tells ≡ old.tells
  pub other_files : (n : List ℕ) → IsApart n g.outputs → new.held n ≡ old.held n
  pub reads : (n : List ℕ) → Grows (old.read_faults n) (new.read_faults n)
  pub writes : (n : List ℕ) → Grows (old.write_faults n) (new.write_faults n)
  pub other_reads : (n : List ℕ) → IsApart n g.inputs → new.read_faults n ≡ old.read_faults n
  pub other_writes : (n : List ℕ) → IsApart n g.outputs → new.write_faults n ≡ old.write_faults n

-- every file is as before
abbrev pub SameFiles : Outside → Outside → Type 0
SameFiles old new = (n : List ℕ) → new.held n ≡ old.held n

-- a fact about what files hold, of files that tell it
abbrev pub Told : Outside → Type 0 → Type 0
Told old P = IsTrue old.tells → P

-- the count of failed reads of a word of that number rose
pub record ReadFails (words : List FileWord) (k : ℕ) (old new : Outside) : Type 0 where
  pub word : FileWord
  pub stands : In word words
  pub number_is : k ≡ word.number
  pub rose : Rose (old.read_faults word.name) (new.read_faults word.name)

-- the count of failed writes of a word of that number rose
pub record WriteFails (words : List FileWord) (k : ℕ) (old new : Outside) : Type 0 where
  pub word : FileWord
  pub stands : In word words
  pub number_is : k ≡ word.number
  pub rose : Rose (old.write_faults word.name) (new.write_faults word.name)

-- the files of the words are short enough to be read
pub record AreShort (words : List FileWord) (old : Outside) : Type 0 where
  pub short : (v : FileWord) → In v words → length (bytes_at old v.name) ≤ most_bytes

-- the file of the word of number k is too long to be read, and those of the words before it aren't
pub record IsTooLong (words : List FileWord) (k : ℕ) (old : Outside) : Type 0 where
  pub word : FileWord
  pub stands : In word words
  pub number_is : k ≡ word.number
  pub long : most_bytes < length (bytes_at old word.name)
  pub earlier : (v : FileWord) → In v words → v.number < k → length (bytes_at old v.name) ≤ most_bytes

-- the files of the words are as before
abbrev pub AreAsBefore : List FileWord → Outside → Outside → Type 0
AreAsBefore [] old new = Unit {0}
AreAsBefore (v ∷ words) old new = (new.held v.name ≡ old.held v.name) × AreAsBefore words old new

-- the files of the words hold these texts
abbrev pub HoldTexts : List FileWord → List (List ℕ) → Outside → Type 0
HoldTexts [] [] new = Unit {0}
HoldTexts [] (t ∷ texts) new = ⊥
HoldTexts (v ∷ words) [] new = ⊥
HoldTexts (v ∷ words) (t ∷ texts) new = (new.held v.name ≡ Some t) × HoldTexts words texts new

-- writing these texts stopped at the word of number k: the files before it hold theirs, its file is as before or cut short, and
-- those after it are as before
abbrev pub StopsAt : List FileWord → List (List ℕ) → ℕ → Outside → Outside → Type 0
StopsAt [] texts k old new = ⊥
StopsAt (v ∷ words) [] k old new = ⊥
StopsAt (v ∷ words) (t ∷ texts) k old new =
    ((k ≡ v.number) × IsCutShort v.name t old new × AreAsBefore words old new)
    ⊎ ((new.held v.name ≡ Some t) × StopsAt words texts k old new)

-- what a command makes of its inputs: which texts with which outcome, and which refusals
pub record Job : Type 1 where
  pub makes : List (List ℕ) → Outcome → Type 0
  pub refuses : Status → Type 0

-- the inputs are short enough and come to some texts, at which writing stopped
pub record Stopped (g : Given) (job : Job) (k : ℕ) (old new : Outside) : Type 0 where
  pub texts : List (List ℕ)
  pub outcome : Outcome
  pub short : AreShort g.inputs old
  pub made : job.makes texts outcome
  pub stops : StopsAt g.outputs texts k old new

-- the inputs are short enough and come to some texts, which the outputs hold
pub record Written (g : Given) (job : Job) (o : Outcome) (old new : Outside) : Type 0 where
  pub texts : List (List ℕ)
  pub short : AreShort g.inputs old
  pub made : job.makes texts o
  pub held : HoldTexts g.outputs texts new

-- what a run on these files comes to with each status
abbrev pub Comes : Given → Job → Outside → Outside → Status → Type 0
Comes g job old new (status.Done o) = Told old (Written g job o old new)
Comes g job old new status.Usage = ⊥
Comes g job old new (status.ScriptRefused f) = SameFiles old new × Told old (AreShort g.inputs old × job.refuses (status.ScriptRefused f))
Comes g job old new (status.TraceRefused f) = SameFiles old new × Told old (AreShort g.inputs old × job.refuses (status.TraceRefused f))
Comes g job old new (status.Foreign f) = SameFiles old new × Told old (AreShort g.inputs old × job.refuses (status.Foreign f))
Comes g job old new (status.AnswerRefused f) = SameFiles old new × Told old (AreShort g.inputs old × job.refuses (status.AnswerRefused f))
Comes g job old new (status.ReadFault k) = SameFiles old new × ReadFails g.inputs k old new
Comes g job old new (status.WriteFault k) = WriteFails g.outputs k old new × Told old (Stopped g job k old new)
Comes g job old new (status.TooLong k) = SameFiles old new × Told old (IsTooLong g.inputs k old)
Comes g job old new status.NoMemory = Told old (SameFiles old new ⊎ ((k : ℕ) × Stopped g job k old new))

-- no fault of the outside was counted for the given names
pub record NoFaults (g : Given) (old new : Outside) : Type 0 where
  pub reads : (v : FileWord) → In v g.inputs → Rose (old.read_faults v.name) (new.read_faults v.name) → ⊥
  pub writes : (v : FileWord) → In v g.outputs → Rose (old.write_faults v.name) (new.write_faults v.name) → ⊥

-- all is done, or memory was refused
abbrev pub IsDoneOrFree : Status → Type 0
IsDoneOrFree (status.Done o) = Unit {0}
IsDoneOrFree status.NoMemory = Unit {0}
IsDoneOrFree other = ⊥

-- on files that tell, without a fault of the outside, with inputs that are short enough, of which this holds, all is done, or memory was refused
abbrev pub IsComplete : Given → Outside → Outside → Type 0 → Status → Type 0
IsComplete g old new valid s = IsTrue old.tells → NoFaults g old new → AreShort g.inputs old → valid → IsDoneOrFree s

-- the texts and the numbers that a script's bytes come to
pub record NormaliseMakes (script : List ℕ) (texts : List (List ℕ)) (o : Outcome) : Type 0 where
  pub out : List ℕ
  pub trace : List ℕ
  pub before : ℕ
  pub after : ℕ
  pub steps : ℕ
  pub texts_are : texts ≡ out ∷ trace ∷ []
  pub outcome_is : o ≡ outcome.Normalised before after steps
  pub normalises : Normalises script out trace before after steps

-- which refusals normalising a script's bytes gives: that they are no script
abbrev pub NormaliseRefuses : List ℕ → Status → Type 0
NormaliseRefuses script (status.ScriptRefused f) = IsNoScript script f
NormaliseRefuses script other = ⊥

abbrev pub normalise_job : List ℕ → Job
normalise_job script = record { makes = NormaliseMakes script; refuses = NormaliseRefuses script }

-- the text and the number that the bytes of a script, a trace and an answer come to
pub record LiftMakes (script trace answer : List ℕ) (texts : List (List ℕ)) (o : Outcome) : Type 0 where
  pub out : List ℕ
  pub definitions : ℕ
  pub texts_are : texts ≡ out ∷ []
  pub outcome_is : o ≡ outcome.Lifted definitions
  pub lifts : LiftsModel script trace answer out definitions

-- which refusals lifting gives: of the script, of the trace, of a trace that isn't the script's, and of the answer
abbrev pub LiftRefuses : List ℕ → List ℕ → List ℕ → Status → Type 0
LiftRefuses script trace answer (status.ScriptRefused f) = IsNoScript script f
LiftRefuses script trace answer (status.TraceRefused f) = IsUnreadTrace script trace f
LiftRefuses script trace answer (status.Foreign f) = IsForeignTrace script trace f
LiftRefuses script trace answer (status.AnswerRefused f) = IsUnreadAnswer script trace answer f
LiftRefuses script trace answer other = ⊥

abbrev pub lift_job : List ℕ → List ℕ → List ℕ → Job
lift_job script trace answer = record { makes = LiftMakes script trace answer; refuses = LiftRefuses script trace answer }

-- what `normalise` comes to on the files of these names
abbrev pub NormaliseComes : List ℕ → List ℕ → List ℕ → Outside → Outside → Status → Type 0
NormaliseComes script out trace old new s = Comes (normalise_files script out trace) (normalise_job (bytes_at old script)) old new s

-- a script that is read is normalised
abbrev pub NormaliseCompletes : List ℕ → List ℕ → List ℕ → Outside → Outside → Status → Type 0
NormaliseCompletes script out trace old new s =
    IsComplete (normalise_files script out trace) old new ((X : ScriptView) × Says (bytes_at old script) (Ok X)) s

-- what `lift` comes to on the files of these names
abbrev pub LiftComes : List ℕ → List ℕ → List ℕ → List ℕ → Outside → Outside → Status → Type 0
LiftComes script trace answer out old new s =
    Comes (lift_files script trace answer out) (lift_job (bytes_at old script) (bytes_at old trace) (bytes_at old answer)) old new s

-- the bytes are a script, a trace that belongs to it, and an answer for the state that the trace leads to
pub record AreLiftable (script trace answer : List ℕ) : Type 0 where
  pub X : ScriptView
  pub t : Trace
  pub Z : StateView
  pub d : Defs
  pub reads : Says script (Ok X)
  pub says : SaysTrace trace t
  pub belongs : Belongs script X.names X.state t Z
  pub answers : SaysModel Z X.names answer (Ok d)

-- such bytes aren't refused, for whatever reason
abbrev pub LiftableIsLifted : Type 0
LiftableIsLifted = (script trace answer : List ℕ) → AreLiftable script trace answer → (s : Status) → LiftRefuses script trace answer s → ⊥

-- a script, a trace that belongs to it and an answer for the state that it leads to are lifted
abbrev pub LiftCompletes : List ℕ → List ℕ → List ℕ → List ℕ → Outside → Outside → Status → Type 0
LiftCompletes script trace answer out old new s =
    IsComplete (lift_files script trace answer out) old new (AreLiftable (bytes_at old script) (bytes_at old trace) (bytes_at old answer)) s
