-- Two calls in a row on the outside.
use Rattle.std.proofs.Common.{◌≡◌, ◌∙◌, ℕ, List, arith, rules}
use Rattle.chc_source.specs.Outside.{Outside, Rose, Grows, OnlyReads, OnlyWrites}

-- a count that never changes
pub grows_not : (n m : ℕ) → m ≡ n → Grows n m
grows_not n m e = record { never_falls = omega arith; stands_still = omega arith }

pub grows_then : (a b c : ℕ) → Grows a b → Grows b c → Grows a c
grows_then a b c x y = record { never_falls = omega arith; stands_still = omega arith }

-- a count that rose after it grew rose, and so did one that grew after it rose
pub grew_then_rose : (a b c : ℕ) → Grows a b → Rose b c → Rose a c
grew_then_rose a b c x y = omega arith

pub rose_then_grew : (a b c : ℕ) → Rose a b → Grows b c → Rose a c
rose_then_grew a b c x y = omega arith

pub reads_none : (name : List ℕ) (o : Outside) → OnlyReads name o o
reads_none name o = search rules

pub writes_none : (name : List ℕ) (o : Outside) → OnlyWrites name o o
writes_none name o = search rules

pub reads_then : (name : List ℕ) (a b c : Outside) → OnlyReads name a b → OnlyReads name b c → OnlyReads name a c
reads_then name a b c x y = record {
  telling = y.telling ∙ x.telling;
  files = λ n. y.files n ∙ x.files n;
  counts = λ n. grows_then _ _ _ (x.counts n) (y.counts n);
  other_reads = λ n h. y.other_reads n h ∙ x.other_reads n h;
  writes = λ n. y.writes n ∙ x.writes n;
}

pub writes_then : (name : List ℕ) (a b c : Outside) → OnlyWrites name a b → OnlyWrites name b c → OnlyWrites name a c
writes_then name a b c x y = record {
  telling = y.telling ∙ x.telling;
  other_files = λ n h. y.other_files n h ∙ x.other_files n h;
  reads = λ n. y.reads n ∙ x.reads n;
  counts = λ n. grows_then _ _ _ (x.counts n) (y.counts n);
  other_writes = λ n h. y.other_writes n h ∙ x.other_writes n h;
}
