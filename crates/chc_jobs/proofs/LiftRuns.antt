-- What the parts of `lift` come to on its files.
use Rattle.std.proofs.Common.{◌≡◌, ℕ, ◌<◌, ◌≤◌, List, [], ◌∷◌, length, refl, sym, ◌∙◌, ap, subst, inl, inr, arith}
use Rattle.std.specs.Prelude.{Some}
use Rattle.chc_source.specs.Outside.{Outside, bytes_at, OnlyReads, OnlyWrites, IsCutShort}
use Rattle.chc_state.specs.Meaning.{In}
use Rattle.chc_jobs.specs.Lifting.{LiftsModel}
use Rattle.chc_jobs.specs.Runs.{FileWord, word_at, Job, most_bytes, Touches, Told, AreShort, lift_files, lift_job, LiftMakes, LiftRefuses, LiftComes, LiftableIsLifted, LiftCompletes}
use Rattle.chc_jobs.specs.Refusals.{WordReadRefusal, WordWriteRefusal, ReadRefusal, BytesRefusal, InputRefusal, OnlyReadsAll, AreRead}
use Rattle.chc_jobs.specs.declared.top.status.Outcome.TheVariants as outcome
use Rattle.chc_jobs.specs.declared.top.status.Status.{Status}
use Rattle.chc_jobs.specs.declared.top.status.Status.TheVariants as status
use Rattle.chc_jobs.proofs.RunLaws.{reads-one, reads-none, reads-then, bytes-later, read_refused, input_unread, input_refused, ended_early, output_refused, all_done, first_refused, read_short, Touches-reads, Touches-writes, Touches-then, is_complete}

short_as : (a : Outside) (name : List ℕ) (u : FileWord) (text : List ℕ) → u.name ≡ name → text ≡ bytes_at a name → length text ≤ most_bytes → length (bytes_at a u.name) ≤ most_bytes
short_as a name u text e read few =
    let same : length (bytes_at a u.name) ≡ length text = ap (λ (n : List ℕ). length (bytes_at a n)) e ∙ ap (λ (x : List ℕ). length x) (sym read) in
    omega (arith, same, few)

module _ (script trace answer out : List ℕ) where
  abbrev pub inputs : List FileWord
  inputs = word_at 1 script ∷ word_at 2 trace ∷ word_at 3 answer ∷ []

  -- a word before the first, before the second and before the third
  before_first : (u : FileWord) → In u inputs → u.number < 1 → ⊥
  before_first u (inl e) less = omega (arith, less, ap (λ (v : FileWord). v.number) e)
  before_first u (inr (inl e)) less = omega (arith, less, ap (λ (v : FileWord). v.number) e)
  before_first u (inr (inr (inl e))) less = omega (arith, less, ap (λ (v : FileWord). v.number) e)
  before_first u (inr (inr (inr i))) less = i

  before_second : (u : FileWord) → In u inputs → u.number < 2 → u.name ≡ script
  before_second u (inl e) less = ap (λ (v : FileWord). v.name) e
  before_second u (inr (inl e)) less = absurd (omega (arith, less, ap (λ (v : FileWord). v.number) e))
  before_second u (inr (inr (inl e))) less = absurd (omega (arith, less, ap (λ (v : FileWord). v.number) e))
  before_second u (inr (inr (inr i))) less = absurd i

  before_third : (a : Outside) (x y : List ℕ) → x ≡ bytes_at a script → length x ≤ most_bytes → y ≡ bytes_at a trace → length y ≤ most_bytes
      → (u : FileWord) → In u inputs → u.number < 3 → length (bytes_at a u.name) ≤ most_bytes
  before_third a x y is_x few_x is_y few_y u (inl e) less = short_as a script u x (ap (λ (v : FileWord). v.name) e) is_x few_x
  before_third a x y is_x few_x is_y few_y u (inr (inl e)) less = short_as a trace u y (ap (λ (v : FileWord). v.name) e) is_y few_y
  before_third a x y is_x few_x is_y few_y u (inr (inr (inl e))) less = absurd (omega (arith, less, ap (λ (v : FileWord). v.number) e))
  before_third a x y is_x few_x is_y few_y u (inr (inr (inr i))) less = absurd i

  pub reads_script : (a b : Outside) → OnlyReads script a b → OnlyReadsAll inputs a b
  reads_script a b r = reads-one inputs (word_at 1 script) a b (inl refl) r

  pub reads_trace : (a b c : Outside) → OnlyReads script a b → OnlyReads trace b c → OnlyReadsAll inputs a c
  reads_trace a b c r s = reads-then inputs a b c (reads_script a b r) (reads-one inputs (word_at 2 trace) b c (inr (inl refl)) s)

  pub reads_answer : (a b c d : Outside) → OnlyReads script a b → OnlyReads trace b c → OnlyReads answer c d → OnlyReadsAll inputs a d
  reads_answer a b c d r s u = reads-then inputs a c d (reads_trace a b c r s) (reads-one inputs (word_at 3 answer) c d (inr (inr (inl refl))) u)

  -- SCRIPT, TRACE or ANSWER couldn't be read
  pub script_unread : (a b : Outside) (s : Status) → WordReadRefusal script 1 a b s → ReadRefusal inputs a b s
  script_unread a b s h = read_refused inputs (word_at 1 script) a a b s (inl refl) (reads-none inputs a) (λ t u i less. absurd (before_first u i less)) h

  pub trace_unread : (a b c : Outside) (x : List ℕ) (s : Status) → OnlyReads script a b → Told a (x ≡ bytes_at a script) → length x ≤ most_bytes
      → WordReadRefusal trace 2 b c s → ReadRefusal inputs a c s
  trace_unread a b c x s r read few h =
      read_refused inputs (word_at 2 trace) a b c s (inr (inl refl)) (reads_script a b r) (λ t u i less. short_as a script u x (before_second u i less) (read t) few) h

  pub answer_unread : (a b c d : Outside) (x y : List ℕ) (s : Status) → OnlyReads script a b → OnlyReads trace b c
      → Told a (x ≡ bytes_at a script) → length x ≤ most_bytes → Told b (y ≡ bytes_at b trace) → length y ≤ most_bytes
      → WordReadRefusal answer 3 c d s → ReadRefusal inputs a d s
  answer_unread a b c d x y s r v is_x few_x is_y few_y h =
      read_refused inputs (word_at 3 answer) a c d s (inr (inr (inl refl))) (reads_trace a b c r v)
      (λ t. before_third a x y (is_x t) few_x (bytes-later inputs a b trace y (reads_script a b r) is_y t) few_y) h

  one_of : (x y z : List ℕ) → length x ≤ most_bytes → length y ≤ most_bytes → length z ≤ most_bytes → (text : List ℕ) → In text (x ∷ y ∷ z ∷ []) → length text ≤ most_bytes
  one_of x y z few_x few_y few_z text (inl e) = omega (arith, few_x, ap (λ (l : List ℕ). length l) e)
  one_of x y z few_x few_y few_z text (inr (inl e)) = omega (arith, few_y, ap (λ (l : List ℕ). length l) e)
  one_of x y z few_x few_y few_z text (inr (inr (inl e))) = omega (arith, few_z, ap (λ (l : List ℕ). length l) e)
  one_of x y z few_x few_y few_z text (inr (inr (inr i))) = absurd i

  three : (p q r x y z : List ℕ) → x ≡ p → y ≡ q → z ≡ r → x ∷ y ∷ z ∷ [] ≡ p ∷ q ∷ r ∷ []
  three p q r x y z e f h = cc

  -- all three were read
  pub all_read : (a b c : Outside) (x y z : List ℕ) → OnlyReads script a b → OnlyReads trace b c
      → Told a (x ≡ bytes_at a script) → length x ≤ most_bytes → Told b (y ≡ bytes_at b trace) → length y ≤ most_bytes
      → Told c (z ≡ bytes_at c answer) → length z ≤ most_bytes → AreRead inputs (x ∷ y ∷ z ∷ []) a
  all_read a b c x y z r v is_x few_x is_y few_y is_z few_z = record {
    bytes = λ t. three (bytes_at a script) (bytes_at a trace) (bytes_at a answer) x y z (is_x t)
        (bytes-later inputs a b trace y (reads_script a b r) is_y t) (bytes-later inputs a c answer z (reads_trace a b c r v) is_z t);
    short = one_of x y z few_x few_y few_z;
  }

  first_of : (p q r x y z : List ℕ) → x ∷ y ∷ z ∷ [] ≡ p ∷ q ∷ r ∷ [] → x ≡ p
  first_of p q r x y z e = cc

  second_of : (p q r x y z : List ℕ) → x ∷ y ∷ z ∷ [] ≡ p ∷ q ∷ r ∷ [] → y ≡ q
  second_of p q r x y z e = cc

  third_of : (p q r x y z : List ℕ) → x ∷ y ∷ z ∷ [] ≡ p ∷ q ∷ r ∷ [] → z ≡ r
  third_of p q r x y z e = cc

  -- a fact about the three texts that were read is one about the files
  of_files : (P : List ℕ → List ℕ → List ℕ → Type 0) (a : Outside) (x y z : List ℕ) → AreRead inputs (x ∷ y ∷ z ∷ []) a → P x y z → Told a (P (bytes_at a script) (bytes_at a trace) (bytes_at a answer))
  of_files P a x y z read h t =
      let e = read.bytes t in
      let p = bytes_at a script in
      let q = bytes_at a trace in
      let r = bytes_at a answer in
      let P1 : List ℕ → Type 0 = λ v. P v q r in
      let P2 : List ℕ → Type 0 = λ v. P x v r in
      let P3 : List ℕ → Type 0 = λ v. P x y v in
      subst P1 (first_of p q r x y z e) (subst P2 (second_of p q r x y z e) (subst P3 (third_of p q r x y z e) h))

  abbrev pub job_at : Outside → Job
  job_at a = lift_job (bytes_at a script) (bytes_at a trace) (bytes_at a answer)

  -- an input couldn't be read
  pub lift_unread : (a b : Outside) (s : Status) → ReadRefusal inputs a b s → InputRefusal (lift_files script trace answer out) (job_at a) a b s
  lift_unread a b s h = input_unread (lift_files script trace answer out) (job_at a) a b s h

  -- the inputs' bytes were refused
  pub lift_refused : (a b : Outside) (x y z : List ℕ) (s : Status) → AreRead inputs (x ∷ y ∷ z ∷ []) a → BytesRefusal (LiftRefuses x y z) s
      → InputRefusal (lift_files script trace answer out) (job_at a) a b s
  lift_refused a b x y z s read h =
      input_refused (lift_files script trace answer out) (job_at a) (LiftRefuses x y z) a b s (read_short inputs (x ∷ y ∷ z ∷ []) a read)
      (λ t u refused. of_files (λ p q r. LiftRefuses p q r u) a x y z read refused t) h

  pub lift_made : (a : Outside) (x y z text : List ℕ) (count : ℕ) → AreRead inputs (x ∷ y ∷ z ∷ []) a → LiftsModel x y z text count
      → Told a (LiftsModel (bytes_at a script) (bytes_at a trace) (bytes_at a answer) text count)
  lift_made a x y z text count read made = of_files (λ p q r. LiftsModel p q r text count) a x y z read made

  pub inputs_short : (a : Outside) (texts : List (List ℕ)) → AreRead inputs texts a → Told a (AreShort inputs a)
  inputs_short a texts read = read_short inputs texts a read

  -- the run ended with the inputs
  pub lift_early : (a b : Outside) (s : Status) → OnlyReadsAll inputs a b → InputRefusal (lift_files script trace answer out) (job_at a) a b s → LiftComes script trace answer out a b s
  lift_early a b s r h = ended_early (lift_files script trace answer out) (job_at a) a b s r.files h

  makes : (a : Outside) (text : List ℕ) (count : ℕ) → Told a (LiftsModel (bytes_at a script) (bytes_at a trace) (bytes_at a answer) text count)
      → Told a (LiftMakes (bytes_at a script) (bytes_at a trace) (bytes_at a answer) (text ∷ []) (outcome.Lifted count))
  makes a text count made t = record { out = text; definitions = count; texts_are = refl; outcome_is = refl; lifts = made t }

  -- the run ended with the output
  pub lift_unwritten : (a b c : Outside) (text : List ℕ) (count : ℕ) (s : Status) → OnlyReadsAll inputs a b → Told a (AreShort inputs a)
      → Told a (LiftsModel (bytes_at a script) (bytes_at a trace) (bytes_at a answer) text count)
      → OnlyWrites out b c → Told b (IsCutShort out text b c) → WordWriteRefusal out 4 b c s → LiftComes script trace answer out a c s
  lift_unwritten a b c text count s r short made w cut h =
      output_refused (lift_files script trace answer out) (job_at a) (text ∷ []) (outcome.Lifted count) a b c s r short (makes a text count made)
      (first_refused (word_at 4 out) [] text [] b c s w (λ u i. absurd i) cut h)

  -- the run was done
  pub lift_done : (a b c : Outside) (text : List ℕ) (count : ℕ) → OnlyReadsAll inputs a b → Told a (AreShort inputs a)
      → Told a (LiftsModel (bytes_at a script) (bytes_at a trace) (bytes_at a answer) text count)
      → Told b (c.held out ≡ Some text) → LiftComes script trace answer out a c (status.Done (outcome.Lifted count))
  lift_done a b c text count r short made held =
      all_done (lift_files script trace answer out) (job_at a) (text ∷ []) (outcome.Lifted count) a b c r short (makes a text count made) (λ t. (held t, tt))

  pub touches-inputs : (a b : Outside) → OnlyReadsAll inputs a b → Touches (lift_files script trace answer out) a b
  touches-inputs a b r = Touches-reads (lift_files script trace answer out) a b r

  pub touches-lift : (a b c : Outside) → OnlyReadsAll inputs a b → OnlyWrites out b c → Touches (lift_files script trace answer out) a c
  touches-lift a b c r w =
      Touches-then (lift_files script trace answer out) a b c (touches-inputs a b r) (Touches-writes (lift_files script trace answer out) (word_at 4 out) b c (inl refl) w)

pub lift_completes : LiftableIsLifted → (script trace answer out : List ℕ) (a b : Outside) (s : Status) → LiftComes script trace answer out a b s → LiftCompletes script trace answer out a b s
lift_completes liftable script trace answer out a b s h t f short valid =
    is_complete (lift_files script trace answer out) (lift_job (bytes_at a script) (bytes_at a trace) (bytes_at a answer)) a b s
    (liftable (bytes_at a script) (bytes_at a trace) (bytes_at a answer) valid) h t f short
