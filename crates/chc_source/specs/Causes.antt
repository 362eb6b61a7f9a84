-- What each refusal says.
use Rattle.chc_source.specs.declared.files.FileErr.{FileErr}
use Rattle.chc_source.specs.declared.files.FileErr.TheVariants.{Failed, NoMemory}
use Rattle.chc_source.specs.declared.whole.ReadErr.{ReadErr}
use Rattle.chc_source.specs.declared.whole.ReadErr.TheVariants as read
use Rattle.chc_source.specs.declared.whole.WriteErr.{WriteErr}
use Rattle.chc_source.specs.declared.whole.WriteErr.TheVariants as write

-- a fact that holds where a call on a file failed
abbrev pub IfFailed : FileErr → Type 0 → Type 0
IfFailed Failed P = P
IfFailed NoMemory P = Unit {0}

-- what holds where a read failed, and what where the file is too long
abbrev pub ReadCause : ReadErr → Type 0 → Type 0 → Type 0
ReadCause read.Fault P Q = P
ReadCause read.TooLong P Q = Q
ReadCause read.NoMemory P Q = Unit {0}

-- a fact that holds where a write failed
abbrev pub WriteCause : WriteErr → Type 0 → Type 0
WriteCause write.Fault P = P
WriteCause write.NoMemory P = Unit {0}

-- what a failed call on a file makes of a read and of a write
abbrev pub read_err : FileErr → ReadErr
read_err Failed = read.Fault
read_err NoMemory = read.NoMemory

abbrev pub write_err : FileErr → WriteErr
write_err Failed = write.Fault
write_err NoMemory = write.NoMemory
