-- The line of a status, and what it means to put it.
use Rattle.std.specs.Prelude.{◌≡◌, ℕ, Bool, true, false, cond, List, [], ◌∷◌, ◌++◌, take, codes, decimal, IsTrue, Result, Ok, Err}
use Rattle.chc_source.specs.Outside.{Rose}
use Rattle.chc_source.specs.Output.{Output, GoesOn}
use Rattle.chc_source.specs.declared.sink.Failed.{Failed}
use Rattle.chc_sexpr.specs.Faults.{fault_name}
use Rattle.chc_sexpr.specs.Symbols.{symbol_text}
use Rattle.chc_sexpr.specs.declared.fault.Fault.{Fault}
use Rattle.chc_sexpr.specs.declared.fault.Fault.TheVariants as fault
use Rattle.chc_sexpr.specs.declared.fault.TextFault.{TextFault}
use Rattle.chc_jobs.specs.declared.lift.foreign.Foreign.{Foreign}
use Rattle.chc_jobs.specs.declared.lift.foreign.Foreign.TheVariants as foreign
use Rattle.chc_jobs.specs.declared.top.status.Outcome.{Outcome}
use Rattle.chc_jobs.specs.declared.top.status.Outcome.TheVariants as outcome
use Rattle.chc_jobs.specs.declared.top.status.Status.{Status}
use Rattle.chc_jobs.specs.declared.top.status.Status.TheVariants as status

-- the exit status
abbrev pub code_of : Status → ℕ
code_of (status.Done o) = 0
code_of status.Usage = 1
code_of (status.ScriptRefused f) = 2
code_of (status.TraceRefused f) = 3
code_of (status.Foreign f) = 4
code_of (status.AnswerRefused f) = 5
code_of (status.ReadFault k) = 8
code_of (status.WriteFault k) = 9
code_of (status.TooLong k) = 10
code_of status.NoMemory = 11

-- a text with a number after it
abbrev pub counted : List ℕ → ℕ → List ℕ
counted text n = text ++ decimal n

-- what was done, with its numbers
abbrev pub outcome_line : Outcome → List ℕ
outcome_line (outcome.Normalised before after steps) =
    (counted (codes "normalised: clauses ") before ++ counted (codes " to ") after) ++ counted (codes ", steps ") steps
outcome_line (outcome.Lifted definitions) = counted (codes "lifted: sat, definitions ") definitions

-- why a trace isn't the script's
abbrev pub foreign_line : Foreign → List ℕ
foreign_line (foreign.Source kept found) = codes "foreign trace: source"
foreign_line (foreign.Step k) = counted (codes "foreign trace: step ") k
foreign_line (foreign.Target kept found) = codes "foreign trace: target"

-- whether a fault is about a name
abbrev pub is_about_name : Fault → Bool
is_about_name fault.UnknownName = true
is_about_name fault.UnknownSort = true
is_about_name fault.NameTaken = true
is_about_name fault.NotSupported = true
is_about_name fault.OtherLogic = true
is_about_name fault.UnknownCommand = true
is_about_name fault.NotPredicate = true
is_about_name fault.NotWellFounded = true
is_about_name fault.TooMany = true
is_about_name fault.Twice = true
is_about_name fault.WrongParams = true
is_about_name fault.Missing = true
is_about_name other = false

-- what is wrong, with the name that it is about where there is one, as a symbol
abbrev pub reason : TextFault → List ℕ
reason f = cond (is_about_name f.fault) ((fault_name f.fault ++ codes " ") ++ symbol_text f.name) (fault_name f.fault)

-- a text, and then a fault with its place
abbrev pub fault_line : List ℕ → TextFault → List ℕ
fault_line text f = (counted text f.place ++ codes ": ") ++ reason f

-- the line of a status, without its line feed
abbrev pub words_of : Status → List ℕ
words_of (status.Done o) = outcome_line o
words_of status.Usage = codes "usage: chc normalise SCRIPT OUT TRACE | chc lift SCRIPT TRACE ANSWER OUT"
words_of (status.ScriptRefused f) = fault_line (codes "script refused at ") f
words_of (status.TraceRefused f) = fault_line (codes "trace refused at ") f
words_of (status.Foreign f) = foreign_line f
words_of (status.AnswerRefused f) = fault_line (codes "answer refused at ") f
words_of (status.ReadFault k) = counted (codes "cannot read word ") k
words_of (status.WriteFault k) = counted (codes "cannot write word ") k
words_of (status.TooLong k) = counted (codes "too long: word ") k
words_of status.NoMemory = codes "no memory"

-- the line of a status
abbrev pub line : Status → List ℕ
line s = words_of s ++ 10 ∷ []

-- the sink took this text besides, where it tells
pub record HasPut (text : List ℕ) (old new : Output) : Type 0 where
  pub goes_on : GoesOn old new
  pub taken : IsTrue old.tells → new.taken ≡ old.taken ++ text

-- the sink took the first bytes of the text besides, where it tells, and a fault was counted
pub record HasFailed (text : List ℕ) (old new : Output) : Type 0 where
  pub goes_on : GoesOn old new
  pub cause : Rose old.faults new.faults
  pub taken : IsTrue old.tells → (n : ℕ) × (new.taken ≡ old.taken ++ take n text)

-- what putting a text comes to
abbrev pub Puts : List ℕ → Output → Result (Unit {0}) Failed → Output → Type 0
Puts text old (Ok u) new = HasPut text old new
Puts text old (Err f) new = HasFailed text old new
