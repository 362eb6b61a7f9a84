-- What the parts of a run come to together.
use Rattle.std.proofs.Common.{◌≡◌, ◌≢◌, ℕ, ◌<◌, ◌≤◌, List, [], ◌∷◌, length, map, refl, sym, ◌∙◌, ap, subst, inl, inr, arith}
use Rattle.std.specs.Prelude.{Option, Some, unwrap_or}
use Rattle.chc_source.specs.Outside.{Outside, bytes_at, Rose, Grows, OnlyReads, OnlyWrites, IsCutShort}
use Rattle.chc_state.specs.Meaning.{In}
use Rattle.chc_jobs.specs.Runs.{FileWord, Given, Job, most_bytes, Touches, SameFiles, Told, AreShort, AreAsBefore, HoldTexts, StopsAt, Comes, NoFaults, IsDoneOrFree}
use Rattle.chc_jobs.specs.Refusals.{WordReadRefusal, WordWriteRefusal, OnlyReadsAll, ReadRefusal, BytesRefusal, InputRefusal, OutputRefusal, AreRead}
use Rattle.chc_jobs.specs.declared.top.status.Outcome.{Outcome}
use Rattle.chc_jobs.specs.declared.top.status.Status.{Status}
use Rattle.chc_jobs.specs.declared.top.status.Status.TheVariants as status
use Rattle.chc_jobs.proofs.Lines.{Grows-then}

grows-same : (a b : ℕ) → b ≡ a → Grows a b
grows-same a b e = record { never_falls = omega arith; stands_still = omega arith }

rose-back : (b a c : ℕ) → b ≡ a → Rose b c → Rose a c
rose-back b a c e rose = let P : ℕ → Type 0 = λ n. Rose n c in subst P e rose

rose-earlier : (a b c : ℕ) → a ≤ b → Rose b c → Rose a c
rose-earlier a b c e rose = omega (arith, rose)

-- what is said where the files tell may be said of files that tell alike
told-back : (a b : Outside) (P : Type 0) → b.tells ≡ a.tells → Told b P → Told a P
told-back a b P e told t = told (rw e t)

-- one read after another
pub reads-one : (words : List FileWord) (v : FileWord) (a b : Outside) → In v words → OnlyReads v.name a b → OnlyReadsAll words a b
reads-one words v a b i r = record { telling = r.telling; files = r.files; counts = r.counts; other_reads = λ n apart. r.other_reads n (apart v i); writes = r.writes }

pub reads-then : (words : List FileWord) (a b c : Outside) → OnlyReadsAll words a b → OnlyReadsAll words b c → OnlyReadsAll words a c
reads-then words a b c p q = record {
  telling = q.telling ∙ p.telling;
  files = λ n. q.files n ∙ p.files n;
  counts = λ n. Grows-then _ _ _ (p.counts n) (q.counts n);
  other_reads = λ n x. q.other_reads n x ∙ p.other_reads n x;
  writes = λ n. q.writes n ∙ p.writes n;
}

pub reads-none : (words : List FileWord) (a : Outside) → OnlyReadsAll words a a
reads-none words a = record { telling = refl; files = λ n. refl; counts = λ n. grows-same _ _ refl; other_reads = λ n x. refl; writes = λ n. refl }

-- reads leave the bytes
pub bytes-same : (words : List FileWord) (a b : Outside) (n : List ℕ) → OnlyReadsAll words a b → bytes_at b n ≡ bytes_at a n
bytes-same words a b n r = ap (λ (o : Option (List ℕ)). unwrap_or o []) (r.files n)

pub bytes-later : (words : List FileWord) (a b : Outside) (n text : List ℕ) → OnlyReadsAll words a b → Told b (text ≡ bytes_at b n) → Told a (text ≡ bytes_at a n)
bytes-later words a b n text r told t = told (rw r.telling t) ∙ bytes-same words a b n r

-- what is touched
pub Touches-reads : (g : Given) (a b : Outside) → OnlyReadsAll g.inputs a b → Touches g a b
Touches-reads g a b r = record {
  telling = r.telling;
  other_files = λ n _. r.files n;
  reads = r.counts;
  writes = λ n. grows-same _ _ (r.writes n);
  other_reads = r.other_reads;
  other_writes = λ n _. r.writes n;
}

pub Touches-writes : (g : Given) (v : FileWord) (a b : Outside) → In v g.outputs → OnlyWrites v.name a b → Touches g a b
Touches-writes g v a b i w = record {
  telling = w.telling;
  other_files = λ n apart. w.other_files n (apart v i);
  reads = λ n. grows-same _ _ (w.reads n);
  writes = w.counts;
  other_reads = λ n _. w.reads n;
  other_writes = λ n apart. w.other_writes n (apart v i);
}

pub Touches-then : (g : Given) (a b c : Outside) → Touches g a b → Touches g b c → Touches g a c
Touches-then g a b c p q = record {
  telling = q.telling ∙ p.telling;
  other_files = λ n x. q.other_files n x ∙ p.other_files n x;
  reads = λ n. Grows-then _ _ _ (p.reads n) (q.reads n);
  writes = λ n. Grows-then _ _ _ (p.writes n) (q.writes n);
  other_reads = λ n x. q.other_reads n x ∙ p.other_reads n x;
  other_writes = λ n x. q.other_writes n x ∙ p.other_writes n x;
}

-- a read that was refused after others
pub read_refused : (words : List FileWord) (v : FileWord) (a b c : Outside) (s : Status) → In v words → OnlyReadsAll words a b
    → Told a ((u : FileWord) → In u words → u.number < v.number → length (bytes_at a u.name) ≤ most_bytes)
    → WordReadRefusal v.name v.number b c s → ReadRefusal words a c s
read_refused words v a b c (status.Done o) i r short h = h
read_refused words v a b c status.Usage i r short h = h
read_refused words v a b c (status.ScriptRefused f) i r short h = h
read_refused words v a b c (status.TraceRefused f) i r short h = h
read_refused words v a b c (status.Foreign f) i r short h = h
read_refused words v a b c (status.AnswerRefused f) i r short h = h
read_refused words v a b c (status.ReadFault k) i r short h = record {
  word = v;
  stands = i;
  number_is = h.0;
  rose = rose-earlier (a.read_faults v.name) (b.read_faults v.name) (c.read_faults v.name) (r.counts v.name).never_falls h.1;
}
read_refused words v a b c (status.WriteFault k) i r short h = h
read_refused words v a b c (status.TooLong k) i r short h = λ t. record {
  word = v;
  stands = i;
  number_is = h.0;
  long = let P : List ℕ → Type 0 = λ text. most_bytes < length text in subst P (bytes-same words a b v.name r) (h.1 (rw r.telling t));
  earlier = λ u j less. short t u j (let below : u.number < v.number = omega (arith, less, h.0) in below);
}
read_refused words v a b c status.NoMemory i r short h = h

-- a refused read of an input
pub input_unread : (g : Given) (job : Job) (a b : Outside) (s : Status) → ReadRefusal g.inputs a b s → InputRefusal g job a b s
input_unread g job a b (status.Done o) h = h
input_unread g job a b status.Usage h = h
input_unread g job a b (status.ScriptRefused f) h = absurd h
input_unread g job a b (status.TraceRefused f) h = absurd h
input_unread g job a b (status.Foreign f) h = absurd h
input_unread g job a b (status.AnswerRefused f) h = absurd h
input_unread g job a b (status.ReadFault k) h = h
input_unread g job a b (status.WriteFault k) h = h
input_unread g job a b (status.TooLong k) h = h
input_unread g job a b status.NoMemory h = h

-- the refusals of bytes that were read are those of the files' bytes
pub input_refused : (g : Given) (job : Job) (refuses : Status → Type 0) (a b : Outside) (s : Status)
    → Told a (AreShort g.inputs a) → Told a ((u : Status) → refuses u → job.refuses u) → BytesRefusal refuses s → InputRefusal g job a b s
input_refused g job refuses a b (status.Done o) short same h = h
input_refused g job refuses a b status.Usage short same h = h
input_refused g job refuses a b (status.ScriptRefused f) short same h = λ t. (short t, same t (status.ScriptRefused f) h)
input_refused g job refuses a b (status.TraceRefused f) short same h = λ t. (short t, same t (status.TraceRefused f) h)
input_refused g job refuses a b (status.Foreign f) short same h = λ t. (short t, same t (status.Foreign f) h)
input_refused g job refuses a b (status.AnswerRefused f) short same h = λ t. (short t, same t (status.AnswerRefused f) h)
input_refused g job refuses a b (status.ReadFault k) short same h = absurd h
input_refused g job refuses a b (status.WriteFault k) short same h = h
input_refused g job refuses a b (status.TooLong k) short same h = absurd h
input_refused g job refuses a b status.NoMemory short same h = h

-- a run that ended at its inputs
pub ended_early : (g : Given) (job : Job) (a b : Outside) (s : Status) → SameFiles a b → InputRefusal g job a b s → Comes g job a b s
ended_early g job a b (status.Done o) same h = absurd h
ended_early g job a b status.Usage same h = h
ended_early g job a b (status.ScriptRefused f) same h = (same, h)
ended_early g job a b (status.TraceRefused f) same h = (same, h)
ended_early g job a b (status.Foreign f) same h = (same, h)
ended_early g job a b (status.AnswerRefused f) same h = (same, h)
ended_early g job a b (status.ReadFault k) same h = (same, h)
ended_early g job a b (status.WriteFault k) same h = absurd h
ended_early g job a b (status.TooLong k) same h = (same, h)
ended_early g job a b status.NoMemory same h = λ t. inl same

-- texts that were read are short
In-map : (f : FileWord → List ℕ) (v : FileWord) (words : List FileWord) → In v words → In (f v) (map f words)
In-map f v [] i = i
In-map f v (u ∷ words) (inl e) = inl (ap f e)
In-map f v (u ∷ words) (inr i) = inr (In-map f v words i)

pub read_short : (words : List FileWord) (texts : List (List ℕ)) (a : Outside) → AreRead words texts a → Told a (AreShort words a)
read_short words texts a r t = record {
  short = λ v i.
      let P : List (List ℕ) → Type 0 = λ l. In (bytes_at a v.name) l in
      r.short (bytes_at a v.name) (subst P (sym (r.bytes t)) (In-map (λ (u : FileWord). bytes_at a u.name) v words i));
}

-- writes of other names leave the files
untouched : (v : FileWord) (words : List FileWord) (a b : Outside) → OnlyWrites v.name a b → ((u : FileWord) → In u words → u.name ≢ v.name) → AreAsBefore words a b
untouched v [] a b w apart = tt
untouched v (u ∷ words) a b w apart = (w.other_files u.name (apart u (inl refl)), untouched v words a b w (λ x i. apart x (inr i)))

cut-back : (name text : List ℕ) (a b c : Outside) → b.held name ≡ a.held name → IsCutShort name text b c → IsCutShort name text a c
cut-back name text a b c e (inl same) = inl (same ∙ e)
cut-back name text a b c e (inr part) = inr part

before-back : (words : List FileWord) (a b c : Outside) → ((u : FileWord) → In u words → b.held u.name ≡ a.held u.name) → AreAsBefore words b c → AreAsBefore words a c
before-back [] a b c same h = h
before-back (u ∷ words) a b c same h = (h.0 ∙ same u (inl refl), before-back words a b c (λ x i. same x (inr i)) h.1)

stops-back : (words : List FileWord) (texts : List (List ℕ)) (k : ℕ) (a b c : Outside)
    → ((u : FileWord) → In u words → b.held u.name ≡ a.held u.name) → StopsAt words texts k b c → StopsAt words texts k a c
stops-back [] texts k a b c same h = h
stops-back (u ∷ words) [] k a b c same h = h
stops-back (u ∷ words) (t ∷ texts) k a b c same (inl h) =
    inl (h.0, cut-back u.name t a b c (same u (inl refl)) h.1, before-back words a b c (λ x i. same x (inr i)) h.2)
stops-back (u ∷ words) (t ∷ texts) k a b c same (inr h) = inr (h.0, stops-back words texts k a b c (λ x i. same x (inr i)) h.1)

-- the first of the writes was refused
pub first_refused : (v : FileWord) (words : List FileWord) (t : List ℕ) (texts : List (List ℕ)) (a b : Outside) (s : Status)
    → OnlyWrites v.name a b → ((u : FileWord) → In u words → u.name ≢ v.name) → Told a (IsCutShort v.name t a b)
    → WordWriteRefusal v.name v.number a b s → OutputRefusal (v ∷ words) (t ∷ texts) a b s
first_refused v words t texts a b (status.Done o) w apart cut h = h
first_refused v words t texts a b status.Usage w apart cut h = h
first_refused v words t texts a b (status.ScriptRefused f) w apart cut h = h
first_refused v words t texts a b (status.TraceRefused f) w apart cut h = h
first_refused v words t texts a b (status.Foreign f) w apart cut h = h
first_refused v words t texts a b (status.AnswerRefused f) w apart cut h = h
first_refused v words t texts a b (status.ReadFault k) w apart cut h = h
first_refused v words t texts a b (status.WriteFault k) w apart cut h =
    (record { word = v; stands = inl refl; number_is = h.0; rose = h.1 }, λ told. inl (h.0, cut told, untouched v words a b w apart))
first_refused v words t texts a b (status.TooLong k) w apart cut h = h
first_refused v words t texts a b status.NoMemory w apart cut h = λ told. (v.number, inl (refl, cut told, untouched v words a b w apart))

-- a later write was refused after the first
pub later_refused : (v : FileWord) (words : List FileWord) (t : List ℕ) (texts : List (List ℕ)) (a b c : Outside) (s : Status)
    → OnlyWrites v.name a b → ((u : FileWord) → In u words → u.name ≢ v.name) → Told a (b.held v.name ≡ Some t) → c.held v.name ≡ b.held v.name
    → OutputRefusal words texts b c s → OutputRefusal (v ∷ words) (t ∷ texts) a c s
later_refused v words t texts a b c (status.Done o) w apart held stays h = h
later_refused v words t texts a b c status.Usage w apart held stays h = h
later_refused v words t texts a b c (status.ScriptRefused f) w apart held stays h = h
later_refused v words t texts a b c (status.TraceRefused f) w apart held stays h = h
later_refused v words t texts a b c (status.Foreign f) w apart held stays h = h
later_refused v words t texts a b c (status.AnswerRefused f) w apart held stays h = h
later_refused v words t texts a b c (status.ReadFault k) w apart held stays h = h
later_refused v words t texts a b c (status.WriteFault k) w apart held stays h = (
  record {
    word = h.0.word;
    stands = inr h.0.stands;
    number_is = h.0.number_is;
    rose = rose-back _ _ (c.write_faults h.0.word.name) (w.other_writes h.0.word.name (apart h.0.word h.0.stands)) h.0.rose;
  },
  λ told. inr (stays ∙ held told, stops-back words texts k a b c (λ u i. w.other_files u.name (apart u i)) (h.1 (rw w.telling told))),
)
later_refused v words t texts a b c (status.TooLong k) w apart held stays h = h
later_refused v words t texts a b c status.NoMemory w apart held stays h =
    λ told. let at = h (rw w.telling told) in (at.0, inr (stays ∙ held told, stops-back words texts at.0 a b c (λ u i. w.other_files u.name (apart u i)) at.1))

-- the outputs were refused after the inputs were read and came to some texts
pub output_refused : (g : Given) (job : Job) (texts : List (List ℕ)) (o : Outcome) (a b c : Outside) (s : Status) → OnlyReadsAll g.inputs a b
    → Told a (AreShort g.inputs a) → Told a (job.makes texts o) → OutputRefusal g.outputs texts b c s → Comes g job a c s
output_refused g job texts o a b c (status.Done d) r short made h = absurd h
output_refused g job texts o a b c status.Usage r short made h = h
output_refused g job texts o a b c (status.ScriptRefused f) r short made h = absurd h
output_refused g job texts o a b c (status.TraceRefused f) r short made h = absurd h
output_refused g job texts o a b c (status.Foreign f) r short made h = absurd h
output_refused g job texts o a b c (status.AnswerRefused f) r short made h = absurd h
output_refused g job texts o a b c (status.ReadFault k) r short made h = absurd h
output_refused g job texts o a b c (status.WriteFault k) r short made h = (
  record { word = h.0.word; stands = h.0.stands; number_is = h.0.number_is; rose = rose-back _ _ (c.write_faults h.0.word.name) (r.writes h.0.word.name) h.0.rose },
  λ t. record {
    texts = texts;
    outcome = o;
    short = short t;
    made = made t;
    stops = stops-back g.outputs texts k a b c (λ u i. r.files u.name) (h.1 (rw r.telling t));
  },
)
output_refused g job texts o a b c (status.TooLong k) r short made h = absurd h
output_refused g job texts o a b c status.NoMemory r short made h = λ t.
    let at = h (rw r.telling t) in
    inr (
      at.0,
      record {
        texts = texts;
        outcome = o;
        short = short t;
        made = made t;
        stops = stops-back g.outputs texts at.0 a b c (λ u i. r.files u.name) at.1;
      },
    )

-- all was read, computed and written
pub all_done : (g : Given) (job : Job) (texts : List (List ℕ)) (o : Outcome) (a b c : Outside) → OnlyReadsAll g.inputs a b
    → Told a (AreShort g.inputs a) → Told a (job.makes texts o) → Told b (HoldTexts g.outputs texts c) → Comes g job a c (status.Done o)
all_done g job texts o a b c r short made held t = record { texts = texts; short = short t; made = made t; held = held (rw r.telling t) }

-- inputs that aren't refused, read without a fault, are done
pub is_complete : (g : Given) (job : Job) (a b : Outside) (s : Status) → ((u : Status) → job.refuses u → ⊥) → Comes g job a b s
    → Told a (NoFaults g a b → AreShort g.inputs a → IsDoneOrFree s)
is_complete g job a b (status.Done o) valid h t f short = tt
is_complete g job a b status.Usage valid h t f short = h
is_complete g job a b (status.ScriptRefused fault) valid h t f short = valid (status.ScriptRefused fault) (h.1 t).1
is_complete g job a b (status.TraceRefused fault) valid h t f short = valid (status.TraceRefused fault) (h.1 t).1
is_complete g job a b (status.Foreign fault) valid h t f short = valid (status.Foreign fault) (h.1 t).1
is_complete g job a b (status.AnswerRefused fault) valid h t f short = valid (status.AnswerRefused fault) (h.1 t).1
is_complete g job a b (status.ReadFault k) valid h t f short = f.reads h.1.word h.1.stands h.1.rose
is_complete g job a b (status.WriteFault k) valid h t f short = f.writes h.0.word h.0.stands h.0.rose
is_complete g job a b (status.TooLong k) valid h t f short =
    let long = h.1 t in absurd (let few : length (bytes_at a long.word.name) ≤ most_bytes = short.short long.word long.stands in omega (arith, long.long))
is_complete g job a b status.NoMemory valid h t f short = tt
