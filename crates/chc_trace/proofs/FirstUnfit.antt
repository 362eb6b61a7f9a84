-- What a reading of a trace answers: the trace that the bytes say, or their first fault, which are the only ones.
use Rattle.std.proofs.Common.{◌≡◌, ◌∙◌, ◌⊎◌, inl, inr, ℕ, zero, suc, arith, pos, List, [], ◌∷◌, ◌++◌, map, length, codes, Option, Some, None, Result, Ok, Err, ap, sym, refl, subst, append_assoc, append-nil}
use Rattle.std.proofs.lemmas.List.{map-append}
use Rattle.hex.specs.Hex.{encode_lower, IsBytes}
use Rattle.chc_sexpr.specs.declared.fault.TextFault.{TextFault}
use Rattle.chc_sexpr.specs.declared.fault.TextErr.{TextErr}
use Rattle.chc_sexpr.specs.declared.fault.TextErr.TheVariants as text_err
use Rattle.chc_sexpr.specs.declared.tree.Tree.{Tree}
use Rattle.chc_sexpr.specs.declared.tree.Tree.TheVariants.{Symbol, Text, Group}
use Rattle.chc_sexpr.specs.Spelling.{Spells}
use Rattle.chc_sexpr.specs.Writing.{unplaced_step, unplaced}
use Rattle.chc_sexpr.proofs.Folds.{fold-Symbol, fold-Numeral, fold-Text, fold-Group}
use Rattle.chc_state.specs.declared.step.Step.{Step}
use Rattle.chc_trace.specs.declared.progress.Progress.{Progress}
use Rattle.chc_trace.specs.declared.progress.Progress.TheVariants as progress
use Rattle.chc_trace.specs.declared.trace.Trace.{Trace}
use Rattle.chc_trace.specs.Numbers.{number}
use Rattle.chc_trace.specs.Places.{Reading, bad_form, place_of, wanted_at, Tells, ◌>>>◌}
use Rattle.chc_trace.specs.Readings.{taken, at_end, read_on, with_target}
use Rattle.chc_trace.specs.Traces.{form, mark_tree, source_tree, target_tree, IsDigest, AreTraceOf, SaysTrace, Fit, IsUnfit, IsWanting, IsTraceFault, IsTraceReading, IsReadAs}
use Rattle.chc_trace.proofs.Stages.{so_far, IsSound, taken_from, mark_taken, source_taken, target_taken, reads_next, trace_read}

-- ---- how far trees were taken

-- these trees were taken so far: they are those that there should be, and what follows is read from there on
record HasTaken (front : List Tree) (p : Progress) : Type 0 where
  alike : map unplaced front ≡ so_far p
  sound : IsSound p
  reaches : (length : ℕ) (more : List Tree) → read_on length progress.Start (front ++ more) ≡ read_on length p more

starts : HasTaken [] progress.Start
starts = record { alike = refl; sound = tt; reaches = λ length more. refl }

goes_on : (front : List Tree) (p : Progress) (t : Tree) (q : Progress) → HasTaken front p → taken p t ≡ Some q → HasTaken (front ++ t ∷ []) q
goes_on front p t q h e =
    let next = taken_from p t q h.sound e in
    record {
      alike = map-append unplaced front (t ∷ []) ∙ ap (λ ts. ts ++ unplaced t ∷ []) h.alike ∙ sym next.0;
      sound = next.1;
      reaches = λ length more. ap (read_on length progress.Start) (append_assoc front (t ∷ []) more) ∙ h.reaches length (t ∷ more) ∙ reads_next length p t more q e;
    }

-- a whole trace
is_trace : (front : List Tree) (t : Trace) → HasTaken front (progress.Ended t) → AreTraceOf front t
is_trace front t h = record { alike = h.alike; digest = h.sound.0; small = h.sound.1 }

-- ---- trees that fit

-- a front of trees that fit
fit_front : (front more : List Tree) → Fit (front ++ more) → Fit front
fit_front front more f = record { more = more ++ f.more; t = f.t; stands = subst (λ ts. AreTraceOf ts f.t) (append_assoc front more f.more) f.stands }

trace_fits : (ts : List Tree) (t : Trace) → AreTraceOf ts t → Fit ts
trace_fits ts t h = record { more = []; t = t; stands = subst (λ us. AreTraceOf us t) (sym (append-nil ts)) h }

string_stays : (name bytes : List ℕ) → unplaced (form name (Text 0 bytes ∷ [])) ≡ form name (Text 0 bytes ∷ [])
string_stays name bytes =
    fold-Group Tree unplaced_step 0 (Symbol 0 name ∷ Text 0 bytes ∷ [])
    ∙ (λ i. Group 0 (fold-Symbol Tree unplaced_step 0 name i ∷ fold-Text Tree unplaced_step 0 bytes i ∷ []))

mark_stays : unplaced mark_tree ≡ mark_tree
mark_stays =
    fold-Group Tree unplaced_step 0 (Symbol 0 (codes "chc-trace") ∷ number 1 ∷ [])
    ∙ (λ i. Group 0 (fold-Symbol Tree unplaced_step 0 (codes "chc-trace") i ∷ fold-Numeral Tree unplaced_step 0 (pos 1) i ∷ []))

-- so many zeros, of which 32 are a digest
zeros : ℕ → List ℕ
zeros zero = []
zeros (suc n) = 0 ∷ zeros n

length-zeros : (n : ℕ) → length (zeros n) ≡ n
unfolding zeros
length-zeros zero = refl
length-zeros (suc n) = ap suc (length-zeros n)

zeros_are_bytes : (n : ℕ) → IsBytes (zeros n)
unfolding zeros
zeros_are_bytes zero i = omega arith
zeros_are_bytes (suc n) zero = omega arith
zeros_are_bytes (suc n) (suc i) = zeros_are_bytes n i

zeros_digest : IsDigest (zeros 32)
zeros_digest = (length-zeros 32, zeros_are_bytes 32)

-- trees that were taken fit
steps_fit : (front : List Tree) (d : List ℕ) (xs : List Step) → HasTaken front (progress.Stepping d xs) → Fit front
steps_fit front d xs h =
    let t : Tree = target_tree [] in
    let last = goes_on front (progress.Stepping d xs) t (with_target d xs []) h (target_taken d xs t [] (string_stays (codes "target") [])) in
    fit_front front (t ∷ []) (trace_fits (front ++ t ∷ []) (record { source = d; steps = xs; target = [] }) (is_trace (front ++ t ∷ []) _ last))

marked_fit : (front : List Tree) → HasTaken front progress.Marked → Fit front
marked_fit front h =
    let t : Tree = source_tree (zeros 32) in
    let next = goes_on front progress.Marked t (progress.Stepping (zeros 32) []) h (source_taken t (zeros 32) (string_stays (codes "source") (encode_lower (zeros 32))) zeros_digest) in
    fit_front front (t ∷ []) (steps_fit (front ++ t ∷ []) (zeros 32) [] next)

fits : (front : List Tree) (p : Progress) → HasTaken front p → Fit front
fits front progress.Start h =
    let next = goes_on front progress.Start mark_tree progress.Marked h (mark_taken mark_tree mark_stays) in
    fit_front front (mark_tree ∷ []) (marked_fit (front ++ mark_tree ∷ []) next)
fits front progress.Marked h = marked_fit front h
fits front (progress.Stepping d xs) h = steps_fit front d xs h
fits front (progress.Ended t) h = trace_fits front t (is_trace front t h)

-- ---- what the reading gives

-- what the reading from so far on gives: the trace, or the first fault
abbrev Comes : ℕ → List Tree → Reading Trace → Type 0
Comes length trees (Ok t) = AreTraceOf trees t
Comes length trees (Err fault) = (place : ℕ) × (IsUnfit trees place ⊎ IsWanting trees length place) × (fault ≡ bad_form place)

-- where a tree isn't taken
unfit : (length : ℕ) (front : List Tree) (p : Progress) (t : Tree) (ts : List Tree) → HasTaken front p → taken p t ≡ None → IsUnfit (front ++ t ∷ ts) (place_of t)
unfit length front p t ts h none = record {
  front = front;
  tree = t;
  behind = ts;
  whole = refl;
  fits = fits front p h;
  unfit = λ f. (
      let said = trace_read length (front ++ t ∷ [] ++ f.more) f.t f.stands in
      let goes = ap (read_on length progress.Start) (append_assoc front (t ∷ []) f.more) ∙ h.reaches length (t ∷ f.more) in
      let stops = ap (λ o. wanted_at (place_of t) o >>> (λ r. read_on length r f.more)) none in
      cc
      );
  at = refl;
}

-- where trees are wanting
wanting : (length : ℕ) (front : List Tree) (p : Progress) (fault : TextFault) → HasTaken front p → at_end length p ≡ Err fault → IsWanting front length length
wanting length front p fault h e = record {
  fits = fits front p h;
  short = λ t is. (
      let said = trace_read length front t is in
      let goes = ap (read_on length progress.Start) (sym (append-nil front)) ∙ h.reaches length [] in
      cc
      );
  at = refl;
}

ended : (length : ℕ) (front : List Tree) (p : Progress) → HasTaken front p → Comes length front (at_end length p)
ended length front progress.Start h = (length, inr (wanting length front progress.Start (bad_form length) h refl), refl)
ended length front progress.Marked h = (length, inr (wanting length front progress.Marked (bad_form length) h refl), refl)
ended length front (progress.Stepping d xs) h = (length, inr (wanting length front (progress.Stepping d xs) (bad_form length) h refl), refl)
ended length front (progress.Ended t) h = is_trace front t h

-- a tree that is taken or not, and the trees behind it
next_comes : (length : ℕ) (front : List Tree) (p : Progress) (t : Tree) (ts : List Tree) → HasTaken front p
    → ((q : Progress) → taken p t ≡ Some q → Comes length (front ++ t ∷ [] ++ ts) (read_on length q ts))
    → (o : Option Progress) → taken p t ≡ o → Comes length (front ++ t ∷ ts) (wanted_at (place_of t) o >>> (λ r. read_on length r ts))
next_comes length front p t ts h more None e = (place_of t, inl (unfit length front p t ts h e), refl)
next_comes length front p t ts h more (Some q) e = subst (λ us. Comes length us (read_on length q ts)) (append_assoc front (t ∷ []) ts) (more q e)

comes : (length : ℕ) (front ts : List Tree) (p : Progress) → HasTaken front p → Comes length (front ++ ts) (read_on length p ts)
comes length front [] p h = subst (λ us. Comes length us (at_end length p)) (sym (append-nil front)) (ended length front p h)
comes length front (t ∷ ts) p h =
    next_comes length front p t ts h (λ q e. comes length (front ++ t ∷ []) ts q (goes_on front p t q h e)) (taken p t) refl

-- ---- there is one first fault

-- two parts of a list at one of its elements: they are the same, or one is longer
abbrev Parts : List Tree → Tree → List Tree → Tree → Type 0
Parts a x b y = ((a ≡ b) × (x ≡ y)) ⊎ ((more : List Tree) × (b ≡ a ++ x ∷ more)) ⊎ ((more : List Tree) × (a ≡ b ++ y ∷ more))

parts_more : (z : Tree) (a : List Tree) (x : Tree) (b : List Tree) (y : Tree) → Parts a x b y → Parts (z ∷ a) x (z ∷ b) y
parts_more z a x b y (inl same) = inl ((ap (λ ts. z ∷ ts) same.0, same.1))
parts_more z a x b y (inr (inl longer)) = inr (inl (longer.0, ap (λ ts. z ∷ ts) longer.1))
parts_more z a x b y (inr (inr longer)) = inr (inr (longer.0, ap (λ ts. z ∷ ts) longer.1))

parts : (a : List Tree) (x : Tree) (r b : List Tree) (y : Tree) (s : List Tree) → a ++ x ∷ r ≡ b ++ y ∷ s → Parts a x b y
parts [] x r [] y s e = inl (refl, cc)
parts [] x r (c ∷ b) y s e = inr (inl (b, (let same : x ≡ c = cc in ap (λ t. t ∷ b) (sym same))))
parts (d ∷ a) x r [] y s e = inr (inr (a, (let same : d ≡ y = cc in ap (λ t. t ∷ a) same)))
parts (d ∷ a) x r (c ∷ b) y s e =
    let same : d ≡ c = cc in
    let rest : a ++ x ∷ r ≡ b ++ y ∷ s = cc in
    subst (λ t. Parts (d ∷ a) x (t ∷ b) y) same (parts_more d a x b y (parts a x r b y s rest))

-- trees that fit have no front that doesn't
no_unfit_front : (front : List Tree) (t : Tree) (more : List Tree) → Fit (front ++ t ∷ more) → (Fit (front ++ t ∷ []) → ⊥) → ⊥
no_unfit_front front t more f unfit = unfit (fit_front (front ++ t ∷ []) more (subst Fit (sym (append_assoc front (t ∷ []) more)) f))

one_unfit : (trees : List Tree) (p q : ℕ) → IsUnfit trees p → IsUnfit trees q → p ≡ q
one_unfit trees p q a b = by_parts (parts a.front a.tree a.behind b.front b.tree b.behind (sym a.whole ∙ b.whole))
  where
    by_parts : Parts a.front a.tree b.front b.tree → p ≡ q
    by_parts (inl same) = a.at ∙ ap place_of same.1 ∙ sym b.at
    by_parts (inr (inl longer)) = absurd (no_unfit_front a.front a.tree longer.0 (subst Fit longer.1 b.fits) a.unfit)
    by_parts (inr (inr longer)) = absurd (no_unfit_front b.front b.tree longer.0 (subst Fit longer.1 a.fits) b.unfit)

unfit_or_wanting : (trees : List Tree) (length p q : ℕ) → IsUnfit trees p → IsWanting trees length q → ⊥
unfit_or_wanting trees length p q a b = no_unfit_front a.front a.tree a.behind (subst Fit a.whole b.fits) a.unfit

one_place : (trees : List Tree) (length p q : ℕ) → IsUnfit trees p ⊎ IsWanting trees length p → IsUnfit trees q ⊎ IsWanting trees length q → p ≡ q
one_place trees length p q (inl a) (inl b) = one_unfit trees p q a b
one_place trees length p q (inl a) (inr b) = absurd (unfit_or_wanting trees length p q a b)
one_place trees length p q (inr a) (inl b) = absurd (unfit_or_wanting trees length q p b a)
one_place trees length p q (inr a) (inr b) = a.at ∙ sym b.at

-- ---- whole texts

module _ (bytes : List ℕ) (trees : List Tree) (spelled : Spells bytes trees) (only : (others : List Tree) → Spells bytes others → trees ≡ others) where
  -- every trace that the bytes say is read
  said_is_read : (t : Trace) → SaysTrace bytes t → read_on (length bytes) progress.Start trees ≡ Ok t
  said_is_read t s = ap (read_on (length bytes) progress.Start) (only s.trees s.spelled) ∙ trace_read (length bytes) s.trees t s.stands

  one_bad_form : (place : ℕ) → IsUnfit trees place ⊎ IsWanting trees (length bytes) place → (other : TextFault) → IsTraceFault bytes other → bad_form place ≡ other
  one_bad_form place stands other (inl (none, first)) = absurd (none trees spelled)
  one_bad_form place stands other (inr b) =
      let same = only b.trees b.spelled in
      let there = subst (λ ts. IsUnfit ts b.place ⊎ IsWanting ts (length bytes) b.place) (sym same) b.stands in
      ap bad_form (one_place trees (length bytes) place b.place stands there) ∙ sym b.is

  answer_is : (reading : Reading Trace) → read_on (length bytes) progress.Start trees ≡ reading → Comes (length bytes) trees reading → (answer : Result Trace TextErr)
      → Tells answer reading → IsTraceReading bytes answer
  answer_is (Ok t) read comes (Ok u) e =
      let same : u ≡ t = cc in (
        record { trees = trees; spelled = spelled; stands = subst (AreTraceOf trees) (sym same) comes },
        λ v s. (let said = said_is_read v s in cc),
      )
  answer_is (Ok t) read comes (Err (text_err.At fault)) e = cc
  answer_is (Err fault) read comes (Ok u) e = cc
  answer_is (Err fault) read comes (Err (text_err.At other)) e =
      let same : other ≡ fault = cc in
      let is : other ≡ bad_form comes.0 = same ∙ comes.2 in (
        (λ t s. (let said = said_is_read t s in cc)),
        inr (record { trees = trees; spelled = spelled; place = comes.0; stands = comes.1; is = is }),
        (λ third wrong. is ∙ one_bad_form comes.0 comes.1 third wrong),
      )
  answer_is reading read comes (Err text_err.NoMemory) e = tt

  -- so the answer of a reading of the trees is one of the bytes
  pub answer_of_trees : (answer : Result Trace TextErr) → Tells answer (read_on (length bytes) progress.Start trees) → IsTraceReading bytes answer
  answer_of_trees answer e = answer_is (read_on (length bytes) progress.Start trees) refl (comes (length bytes) [] trees progress.Start starts) answer e

-- bytes that say a trace are read as it
pub said_read_as : (bytes : List ℕ) (t : Trace) → SaysTrace bytes t → IsReadAs bytes t
said_read_as bytes t s (Ok u) h = inl (ap Ok (h.1 t s))
said_read_as bytes t s (Err (text_err.At fault)) h = absurd (h.0 t s)
said_read_as bytes t s (Err text_err.NoMemory) h = inr refl
