-- What the counts of failed reads and writes tell.
use Rattle.std.specs.Prelude.{◌≡◌, ◌≢◌, ℕ, Bool, List, is_some}
use Rattle.std.specs.Option.{option_map_or}
use Rattle.std.specs.BTreeMap.{get_by_text}
use Rattle.chc_source.specs.declared.faults.Faults.{Faults}
use Rattle.chc_source.specs.Outside.{Rose, Grows}

-- how often reading a name failed
abbrev pub reads_of : Faults → List ℕ → ℕ
reads_of f n = option_map_or (λ c. c.reads) (get_by_text f.counts n) 0

-- how often writing a name failed
abbrev pub writes_of : Faults → List ℕ → ℕ
writes_of f n = option_map_or (λ c. c.writes) (get_by_text f.counts n) 0

-- whether a name has an entry
abbrev pub has_entry : Faults → List ℕ → Bool
has_entry f n = is_some (get_by_text f.counts n)

-- every count is as before
pub record SameCounts (old new : Faults) : Type 0 where
  pub reads : (n : List ℕ) → reads_of new n ≡ reads_of old n
  pub writes : (n : List ℕ) → writes_of new n ≡ writes_of old n

-- one more failed read of this name was counted, and nothing else
pub record OneMoreRead (name : List ℕ) (old new : Faults) : Type 0 where
  pub rose : Rose (reads_of old name) (reads_of new name)
  pub counts : (n : List ℕ) → Grows (reads_of old n) (reads_of new n)
  pub other_reads : (n : List ℕ) → n ≢ name → reads_of new n ≡ reads_of old n
  pub writes : (n : List ℕ) → writes_of new n ≡ writes_of old n

-- one more failed write of this name was counted, and nothing else
pub record OneMoreWrite (name : List ℕ) (old new : Faults) : Type 0 where
  pub rose : Rose (writes_of old name) (writes_of new name)
  pub counts : (n : List ℕ) → Grows (writes_of old n) (writes_of new n)
  pub other_writes : (n : List ℕ) → n ≢ name → writes_of new n ≡ writes_of old n
  pub reads : (n : List ℕ) → reads_of new n ≡ reads_of old n
