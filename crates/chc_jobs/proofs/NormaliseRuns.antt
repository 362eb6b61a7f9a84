-- What the parts of `normalise` come to on its files.
use Rattle.std.proofs.Common.{◌≡◌, ◌≢◌, ℕ, ◌<◌, ◌≤◌, List, [], ◌∷◌, length, refl, sym, ◌∙◌, ap, subst, inl, inr, arith}
use Rattle.std.specs.Prelude.{Some, Ok}
use Rattle.chc_source.specs.Outside.{Outside, bytes_at, OnlyReads, OnlyWrites, IsCutShort}
use Rattle.chc_state.specs.Meaning.{In}
use Rattle.chc_script.specs.Scripts.{ScriptView}
use Rattle.chc_script.specs.WholeScripts.{Says}
use Rattle.chc_jobs.specs.Jobs.{Normalises}
use Rattle.chc_jobs.specs.Runs.{FileWord, word_at, most_bytes, Touches, Told, AreShort, HoldTexts, normalise_files, normalise_job, NormaliseMakes, NormaliseRefuses, NormaliseComes, NormaliseCompletes}
use Rattle.chc_jobs.specs.Refusals.{WordReadRefusal, WordWriteRefusal, BytesRefusal, InputRefusal, OutputRefusal, OnlyReadsAll}
use Rattle.chc_jobs.specs.declared.top.status.Outcome.TheVariants as outcome
use Rattle.chc_jobs.specs.declared.top.status.Status.{Status}
use Rattle.chc_jobs.specs.declared.top.status.Status.TheVariants as status
use Rattle.chc_jobs.proofs.RunLaws.{reads-one, reads-none, read_refused, input_unread, input_refused, ended_early, output_refused, all_done, first_refused, later_refused, Touches-reads, Touches-writes, Touches-then, is_complete}

-- the one word of a list has the word's name
pub one_name : (v : FileWord) (n : List ℕ) → v.name ≢ n → (u : FileWord) → In u (v ∷ []) → u.name ≢ n
one_name v n apart u (inl e) f = apart (ap (λ (x : FileWord). x.name) (sym e) ∙ f)
one_name v n apart u (inr i) f = i

module _ (script out trace : List ℕ) where
  none_earlier : (u : FileWord) → In u (word_at 1 script ∷ []) → u.number < 1 → ⊥
  none_earlier u (inl e) less = omega (arith, less, ap (λ (x : FileWord). x.number) e)
  none_earlier u (inr i) less = i

  -- the script couldn't be read
  pub script_unread : (a b : Outside) (s : Status) → WordReadRefusal script 1 a b s
      → InputRefusal (normalise_files script out trace) (normalise_job (bytes_at a script)) a b s
  script_unread a b s h =
      input_unread (normalise_files script out trace) (normalise_job (bytes_at a script)) a b s
      (read_refused (word_at 1 script ∷ []) (word_at 1 script) a a b s (inl refl) (reads-none (word_at 1 script ∷ []) a) (λ t u i less. absurd (none_earlier u i less)) h)

  short_by : (a : Outside) (text : List ℕ) → text ≡ bytes_at a script → length text ≤ most_bytes → (u : FileWord) → In u (word_at 1 script ∷ []) → length (bytes_at a u.name) ≤ most_bytes
  short_by a text read few u (inl e) =
      let same : length (bytes_at a u.name) ≡ length text = ap (λ (x : FileWord). length (bytes_at a x.name)) e ∙ ap (λ (x : List ℕ). length x) (sym read) in
      omega (arith, same, few)
  short_by a text read few u (inr i) = absurd i

  pub script_short : (a : Outside) (text : List ℕ) → Told a (text ≡ bytes_at a script) → length text ≤ most_bytes → Told a (AreShort (word_at 1 script ∷ []) a)
  script_short a text read few t = record { short = short_by a text (read t) few }

  -- the script's bytes were refused
  pub script_refused : (a b : Outside) (text : List ℕ) (s : Status) → Told a (text ≡ bytes_at a script) → length text ≤ most_bytes → BytesRefusal (NormaliseRefuses text) s
      → InputRefusal (normalise_files script out trace) (normalise_job (bytes_at a script)) a b s
  script_refused a b text s read few h =
      input_refused (normalise_files script out trace) (normalise_job (bytes_at a script)) (NormaliseRefuses text) a b s (script_short a text read few)
      (λ t u refused. let P : List ℕ → Type 0 = λ x. NormaliseRefuses x u in subst P (read t) refused) h

  pub script_made : (a : Outside) (text x y : List ℕ) (before after steps : ℕ) → Told a (text ≡ bytes_at a script) → Normalises text x y before after steps
      → Told a (Normalises (bytes_at a script) x y before after steps)
  script_made a text x y before after steps read made t = let P : List ℕ → Type 0 = λ z. Normalises z x y before after steps in subst P (read t) made

  -- OUT was refused
  pub out_refused : (x y : List ℕ) (a b : Outside) (s : Status) → trace ≢ out → OnlyWrites out a b → Told a (IsCutShort out x a b)
      → WordWriteRefusal out 2 a b s → OutputRefusal (word_at 2 out ∷ word_at 3 trace ∷ []) (x ∷ y ∷ []) a b s
  out_refused x y a b s apart w cut h = first_refused (word_at 2 out) (word_at 3 trace ∷ []) x (y ∷ []) a b s w (one_name (word_at 3 trace) out apart) cut h

  -- TRACE was refused after OUT was written
  pub trace_refused : (x y : List ℕ) (a b c : Outside) (s : Status) → trace ≢ out → OnlyWrites out a b → Told a (b.held out ≡ Some x) → OnlyWrites trace b c
      → Told b (IsCutShort trace y b c) → WordWriteRefusal trace 3 b c s → OutputRefusal (word_at 2 out ∷ word_at 3 trace ∷ []) (x ∷ y ∷ []) a c s
  trace_refused x y a b c s apart w held v cut h =
      later_refused (word_at 2 out) (word_at 3 trace ∷ []) x (y ∷ []) a b c s w (one_name (word_at 3 trace) out apart) held (v.other_files out (λ e. apart (sym e)))
      (first_refused (word_at 3 trace) [] y [] b c s v (λ u i. absurd i) cut h)

  pub touches-out : (a b : Outside) → OnlyWrites out a b → Touches (normalise_files script out trace) a b
  touches-out a b w = Touches-writes (normalise_files script out trace) (word_at 2 out) a b (inl refl) w

  pub touches-both : (a b c : Outside) → OnlyWrites out a b → OnlyWrites trace b c → Touches (normalise_files script out trace) a c
  touches-both a b c w v =
      Touches-then (normalise_files script out trace) a b c (touches-out a b w) (Touches-writes (normalise_files script out trace) (word_at 3 trace) b c (inr (inl refl)) v)

  pub only_script : (a b : Outside) → OnlyReads script a b → OnlyReadsAll (word_at 1 script ∷ []) a b
  only_script a b r = reads-one (word_at 1 script ∷ []) (word_at 1 script) a b (inl refl) r

  pub touches-script : (a b : Outside) → OnlyReads script a b → Touches (normalise_files script out trace) a b
  touches-script a b r = Touches-reads (normalise_files script out trace) a b (only_script a b r)

  pub touches-all : (a b c : Outside) → OnlyReads script a b → Touches (normalise_files script out trace) b c → Touches (normalise_files script out trace) a c
  touches-all a b c r w = Touches-then (normalise_files script out trace) a b c (touches-script a b r) w

  -- the run ended with the script
  pub normalise_early : (a b : Outside) (s : Status) → OnlyReads script a b
      → InputRefusal (normalise_files script out trace) (normalise_job (bytes_at a script)) a b s → NormaliseComes script out trace a b s
  normalise_early a b s r h = ended_early (normalise_files script out trace) (normalise_job (bytes_at a script)) a b s r.files h

  makes : (a : Outside) (x y : List ℕ) (before after steps : ℕ) → Told a (Normalises (bytes_at a script) x y before after steps)
      → Told a (NormaliseMakes (bytes_at a script) (x ∷ y ∷ []) (outcome.Normalised before after steps))
  makes a x y before after steps made t =
      record { out = x; trace = y; before = before; after = after; steps = steps; texts_are = refl; outcome_is = refl; normalises = made t }

  -- the run ended with the outputs
  pub normalise_unwritten : (a b c : Outside) (x y : List ℕ) (before after steps : ℕ) (s : Status) → OnlyReads script a b
      → Told a (AreShort (word_at 1 script ∷ []) a) → Told a (Normalises (bytes_at a script) x y before after steps)
      → OutputRefusal (word_at 2 out ∷ word_at 3 trace ∷ []) (x ∷ y ∷ []) b c s → NormaliseComes script out trace a c s
  normalise_unwritten a b c x y before after steps s r short made h =
      output_refused (normalise_files script out trace) (normalise_job (bytes_at a script)) (x ∷ y ∷ []) (outcome.Normalised before after steps) a b c s
      (only_script a b r) short (makes a x y before after steps made) h

  -- the run was done
  pub normalise_done : (a b c : Outside) (x y : List ℕ) (before after steps : ℕ) → OnlyReads script a b
      → Told a (AreShort (word_at 1 script ∷ []) a) → Told a (Normalises (bytes_at a script) x y before after steps)
      → Told b (HoldTexts (word_at 2 out ∷ word_at 3 trace ∷ []) (x ∷ y ∷ []) c) → NormaliseComes script out trace a c (status.Done (outcome.Normalised before after steps))
  normalise_done a b c x y before after steps r short made h =
      all_done (normalise_files script out trace) (normalise_job (bytes_at a script)) (x ∷ y ∷ []) (outcome.Normalised before after steps) a b c
      (only_script a b r) short (makes a x y before after steps made) h

-- a script isn't refused
readable : (bytes : List ℕ) (X : ScriptView) → Says bytes (Ok X) → (s : Status) → NormaliseRefuses bytes s → ⊥
readable bytes X x (status.Done o) h = h
readable bytes X x status.Usage h = h
readable bytes X x (status.ScriptRefused f) h = h.0 X x
readable bytes X x (status.TraceRefused f) h = h
readable bytes X x (status.Foreign f) h = h
readable bytes X x (status.AnswerRefused f) h = h
readable bytes X x (status.ReadFault k) h = h
readable bytes X x (status.WriteFault k) h = h
readable bytes X x (status.TooLong k) h = h
readable bytes X x status.NoMemory h = h

pub normalise_completes : (script out trace : List ℕ) (a b : Outside) (s : Status) → NormaliseComes script out trace a b s → NormaliseCompletes script out trace a b s
normalise_completes script out trace a b s h t f short valid =
    is_complete (normalise_files script out trace) (normalise_job (bytes_at a script)) a b s (readable (bytes_at a script) valid.0 valid.1) h t f short
