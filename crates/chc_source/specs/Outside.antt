-- What a set of files tells, and what its calls may change.
use Rattle.std.specs.Prelude.{◌≡◌, ◌≢◌, ◌⊎◌, ℕ, ◌+◌, ◌-◌, ◌^◌, ◌≤◌, min, max, Bool, true, IsTrue, List, [], ◌++◌, length, take, drop, Option, Some, None, unwrap_or}

-- whether the files tell what they hold, what they hold under each name, and how often a read and a write of each name failed
pub record Outside : Type 0 where
  pub tells : Bool
  pub held : List ℕ → Option (List ℕ)
  pub read_faults : List ℕ → ℕ
  pub write_faults : List ℕ → ℕ

-- the bytes of a file; a name that isn't held has none
abbrev pub bytes_at : Outside → List ℕ → List ℕ
bytes_at o name = unwrap_or (o.held name) []

-- a count rose: it is greater than before, or it stands at the end of its type
abbrev pub Rose : ℕ → ℕ → Type 0
Rose before now = min (before + 1) (2 ^ 64 - 1) ≤ now

-- a count never falls, and stands still at the end of its type
pub record Grows (before now : ℕ) : Type 0 where
  pub never_falls : before ≤ now
  pub stands_still : now ≤ max before (2 ^ 64 - 1)

-- only the count of reads of this name may have changed
pub record OnlyReads (name : List ℕ) (old new : Outside) : Type 0 where
  pub telling : new.tells ≡ old.tells
  pub files : (n : List ℕ) → new.held n ≡ old.held n
  pub counts : (n : List ℕ) → Grows (old.read_faults n) (new.read_faults n)
  pub other_reads : (n : List ℕ) → n ≢ name → new.read_faults n ≡ old.read_faults n
  pub writes : (n : List ℕ) → new.write_faults n ≡ old.write_faults n

-- only this name's file and its count of writes may have changed
pub record OnlyWrites (name : List ℕ) (old new : Outside) : Type 0 where
  pub telling : new.tells ≡ old.tells
  pub other_files : (n : List ℕ) → n ≢ name → new.held n ≡ old.held n
  pub reads : (n : List ℕ) → new.read_faults n ≡ old.read_faults n
  pub counts : (n : List ℕ) → Grows (old.write_faults n) (new.write_faults n)
  pub other_writes : (n : List ℕ) → n ≢ name → new.write_faults n ≡ old.write_faults n

-- the first n bytes that were given are the file's from a place on, and none are given only at its end
pub record Gave (file : List ℕ) (from n : ℕ) (given : List ℕ) : Type 0 where
  pub part : take n given ≡ take n (drop from file)
  pub ending : n ≡ 0 → length file ≤ from

-- the name is held and empty, and no fault was counted
pub record Started (name : List ℕ) (old new : Outside) : Type 0 where
  pub empty : IsTrue old.tells → new.held name ≡ Some []
  pub faultless : new.write_faults name ≡ old.write_faults name

-- the name's file is as before or empty
abbrev pub IsAsBeforeOrEmpty : List ℕ → Outside → Outside → Type 0
IsAsBeforeOrEmpty name old new = (new.held name ≡ old.held name) ⊎ (new.held name ≡ Some [])

-- the bytes stand at the end of the name's file
abbrev pub Took : List ℕ → List ℕ → Outside → Outside → Type 0
Took name bytes old new = IsTrue old.tells → new.held name ≡ Some (bytes_at old name ++ bytes)

-- the name's file is as before, or holds the first bytes of a text
abbrev pub IsCutShort : List ℕ → List ℕ → Outside → Outside → Type 0
IsCutShort name text old new = (new.held name ≡ old.held name) ⊎ ((n : ℕ) × (new.held name ≡ Some (take n text)))

-- a text is the first bytes of a file
pub record IsFront (text file : List ℕ) : Type 0 where
  pub same : text ≡ take (length text) file

-- the name holds these bytes, and all else is as before
pub record NowHolds (name bytes : List ℕ) (old new : Outside) : Type 0 where
  pub telling : new.tells ≡ old.tells
  pub file : new.held name ≡ Some bytes
  pub other_files : (n : List ℕ) → n ≢ name → new.held n ≡ old.held n
  pub reads : (n : List ℕ) → new.read_faults n ≡ old.read_faults n
  pub writes : (n : List ℕ) → new.write_faults n ≡ old.write_faults n

-- all is as before
pub record IsAsBefore (old new : Outside) : Type 0 where
  pub telling : new.tells ≡ old.tells
  pub files : (n : List ℕ) → new.held n ≡ old.held n
  pub reads : (n : List ℕ) → new.read_faults n ≡ old.read_faults n
  pub writes : (n : List ℕ) → new.write_faults n ≡ old.write_faults n

-- no name is held, and no fault was counted; the files tell that they hold none
pub record IsFresh (o : Outside) : Type 0 where
  pub telling : o.tells ≡ true
  pub files : (n : List ℕ) → o.held n ≡ None
  pub reads : (n : List ℕ) → o.read_faults n ≡ 0
  pub writes : (n : List ℕ) → o.write_faults n ≡ 0
