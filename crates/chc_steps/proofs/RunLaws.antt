-- Runs of steps of any kind: one more step at the end, and the way back over one step more at the beginning.
use Rattle.std.proofs.Common.{◌≡◌, ℕ, zero, suc, ◌<◌, List, [], ◌∷◌, ◌++◌, length, take, drop, get_or, drop-cons, refl, sym, ◌∙◌, ap, subst, arith, ◌+◌}
use Rattle.std.specs.Prelude.{Some, None, slice_get, Result, Ok, Err}
use Rattle.std.proofs.lemmas.List.{take_more}
use Rattle.std.proofs.lemmas.Option.{slice_get_read}
use Rattle.chc_values.specs.declared.world.WorldEntry.{WorldEntry}
use Rattle.chc_values.specs.Worlds.{IsWorld}
use Rattle.chc_state.specs.declared.defs.Defs.{Defs}
use Rattle.chc_state.specs.declared.refutation.RefStep.{RefStep}
use Rattle.chc_state.specs.declared.refutation.BackErr.{BackErr}
use Rattle.chc_state.specs.declared.refutation.BackErr.TheVariants as step_err
use Rattle.chc_state.specs.States.{StateView}
use Rattle.chc_state.specs.Meaning.{SameAnswer}
use Rattle.chc_state.specs.Definitions.{Defines}
use Rattle.chc_state.specs.Refuting.{Refutes}
use Rattle.chc_state.specs.Back.{LeadsBack}
use Rattle.chc_state.specs.Passes.{RefutesBack, TurnsBack}
use Rattle.chc_state.proofs.Places.{same_element}
use Rattle.chc_steps.specs.declared.refusal.ReplayErr.{ReplayErr}
use Rattle.chc_steps.specs.declared.refusal.ReplayErr.TheVariants as replay_err
use Rattle.chc_steps.specs.declared.refusal.RunBackErr.{RunBackErr}
use Rattle.chc_steps.specs.Refusals.{refused_at}
use Rattle.chc_steps.specs.Runs.{last, Goes, Stand, HasOneMore, IsTaken, IsStepRefusal, IsFirstRefused, IsReplayRefusal, IsRun, IsDefsBack, TurnedOver, ExceedsOver, TurnsOver}

-- the first elements of a list, one more
pub take-step : {X : Type 0} (xs : List X) (i : ℕ) (x : X) → i < length xs → x ≡ get_or xs i x → take (i + 1) xs ≡ take i xs ++ x ∷ []
take-step xs i x inside at = take_more xs i x inside ∙ ap (λ y. take i xs ++ y ∷ []) (sym at)

-- the last elements of a list, one more
pub drop-step : {X : Type 0} (xs : List X) (n m : ℕ) (x : X) → n ≡ m + 1 → m < length xs → x ≡ get_or xs m x → drop m xs ≡ x ∷ drop n xs
drop-step xs n m x next inside at = let e : suc m ≡ n = omega arith in drop-cons xs m x inside ∙ ap (λ y. y ∷ drop (suc m) xs) (sym at) ∙ ap (λ k. x ∷ drop k xs) e

SameAnswer-then : (s y z : StateView) → y.sig ≡ s.sig → SameAnswer s y → SameAnswer y z → SameAnswer s z
SameAnswer-then s y z sig f g w world =
    let there = f w world in
    let on = g w (rw sig world) in
    (λ d. on.0 (there.0 d), λ d. there.1 (on.1 d))

LeadsBack-then : (s y z : StateView) (d e f : Defs) → y.sig ≡ s.sig → LeadsBack s e f y → LeadsBack y d e z → LeadsBack s d f z
LeadsBack-then s y z d e f sig outer inner = record {
  defines = outer.defines;
  keeps = λ w world holds. outer.keeps w world (inner.keeps w (rw sig world) holds);
}

RefutesBack-then : (s y z : StateView) (w : List WorldEntry) (r m e : List RefStep) → RefutesBack s y w m e → RefutesBack y z w r m → RefutesBack s z w r e
RefutesBack-then s y z w r m e outer inner = record { refutes = outer.refutes; weight = omega arith }

module _ {Choice : Type 0} (after : StateView → Choice → StateView) where
  pub Goes-more : (may : StateView → Choice → Type 0) (s : StateView) (cs : List Choice) (y : StateView) (c : Choice) (z : StateView)
      → Goes after may s cs y → may y c → z ≡ after y c → Goes after may s (cs ++ c ∷ []) z
  Goes-more may s [] y c z e allowed taken =
      let P : StateView → Type 0 = λ v. may v c in
      (subst P (sym e) allowed, ap (λ (v : StateView). after v c) e ∙ sym taken)
  Goes-more may s (b ∷ cs) y c z g allowed taken = (g.0, Goes-more may (after s b) cs y c z g.1 allowed taken)

  pub Goes-last : (may : StateView → Choice → Type 0) (s : StateView) (cs : List Choice) (z : StateView) → Goes after may s cs z → last after s cs ≡ z
  Goes-last may s [] z e = e
  Goes-last may s (c ∷ cs) z g = Goes-last may (after s c) cs z g.1

  refused_first : (may : StateView → Choice → Type 0) (s : StateView) (cs : List Choice) (z : StateView) (k : ℕ) (y : StateView) (c : Choice)
      → Goes after may s cs z → Goes after may s (take k cs) y → slice_get cs k ≡ Some c → (may y c → ⊥) → ⊥
  refused_first may s [] z k y c g before at refused = none_some c at
    where
      none_some : (c : Choice) → None ≡ Some c → ⊥
      none_some c e = cc
  refused_first may s (b ∷ cs) z zero y c g before at refused =
      let P : Choice → Type 0 = λ x. may y x in
      let Q : StateView → Type 0 = λ v. may v b in
      refused (subst P (same_element b c at) (subst Q before g.0))
  refused_first may s (b ∷ cs) z (suc k) y c g before at refused = refused_first may (after s b) cs z k y c g.1 before.1 at refused

  -- where all choices may be taken, none is refused
  pub none_refused : (may : StateView → Choice → Type 0) (s : StateView) (cs : List Choice) (z : StateView) (k : ℕ) → Goes after may s cs z → IsFirstRefused after may s cs k → ⊥
  none_refused may s cs z k g h = refused_first may s cs z k h.before h.choice g h.goes h.named h.refused

  pub IsReplayRefusal-at : (may : StateView → Choice → Type 0) (s : StateView) (cs : List Choice) (i : ℕ) (y : StateView) (c : Choice) (e : ReplayErr)
      → i < length cs → c ≡ get_or cs i c → Goes after may s (take i cs) y → IsStepRefusal may y c i e → IsReplayRefusal after may s cs e
  IsReplayRefusal-at may s cs i y c replay_err.NoMemory inside at goes refused = tt
  IsReplayRefusal-at may s cs i y c (replay_err.NotLegal j) inside at goes refused =
      let P : ℕ → Type 0 = λ k. IsFirstRefused after may s cs k in
      subst P (sym refused.0) (record { before = y; choice = c; goes = goes; named = slice_get_read cs (length cs) i c refl inside at; refused = refused.1 })

  -- where a step turns steps into one list alone, a run does
  module _
      (turned : StateView → Choice → List WorldEntry → List RefStep → List RefStep → Type 0)
      (exceeds : StateView → Choice → List WorldEntry → List RefStep → ℕ → Type 0)
      (one_turned : (s : StateView) (c : Choice) (w : List WorldEntry) (r d e : List RefStep) → turned s c w r d → turned s c w r e → d ≡ e)
      (w : List WorldEntry) (r : List RefStep) where
    pub one_turned_over : (s : StateView) (cs : List Choice) (d e : List RefStep) → TurnedOver after turned exceeds w r s cs d → TurnedOver after turned exceeds w r s cs e → d ≡ e
    one_turned_over s [] d e p q = sym p ∙ q
    one_turned_over s (c ∷ cs) d e p q =
        let P : List RefStep → Type 0 = λ m. turned s c w m e in
        one_turned s c w p.0 d e p.2 (subst P (one_turned_over (after s c) cs q.0 p.0 q.1 p.1) q.2)

    -- and where it turns steps, every computed value is in range
    pub turned_in_range : (s : StateView) (cs : List Choice) (e : List RefStep) (k n : ℕ) → TurnedOver after turned exceeds w r s cs e → ExceedsOver after turned exceeds w r s cs k n → ⊥
    turned_in_range s [] e k n p q = q
    turned_in_range s (c ∷ cs) e zero n p q =
        let P : List RefStep → Type 0 = λ m. exceeds s c w m n in
        p.3 n (subst P (one_turned_over (after s c) cs q.0 p.0 q.1 p.1) q.2.here)
    turned_in_range s (c ∷ cs) e (suc k) n p q = turned_in_range (after s c) cs p.0 k n p.1 q

  module _ {Undo : Type 0} (stands : Undo → StateView → Choice → Type 0) where
    Stand-more : (may : StateView → Choice → Type 0) (us : List Undo) (s : StateView) (cs : List Choice) (y : StateView) (u : Undo) (c : Choice)
        → Goes after may s cs y → Stand after stands us s cs → stands u y c → Stand after stands (us ++ u ∷ []) s (cs ++ c ∷ [])
    Stand-more may [] s [] y u c e st h =
        let P : StateView → Type 0 = λ v. stands u v c in
        (subst P (sym e) h, tt)
    Stand-more may [] s (b ∷ cs) y u c g st h = absurd st
    Stand-more may (v ∷ us) s [] y u c g st h = absurd st
    Stand-more may (v ∷ us) s (b ∷ cs) y u c g st h = (st.0, Stand-more may us (after s b) cs y u c g.1 st.1 h)

    pub IsRun-none : (may : StateView → Choice → Type 0) (s : StateView) → IsRun after stands may s [] [] s
    IsRun-none may s = record { goes = refl; stand = tt; answer = λ w world. (λ d. d, λ d. d); same_sig = refl }

    -- a run with one step more behind it
    pub IsRun-more : (may : StateView → Choice → Type 0) (s : StateView) (cs : List Choice) (us : List Undo) (y : StateView) (c : Choice) (u : Undo) (z : StateView)
        → IsRun after stands may s cs us y → IsTaken after may stands y c u z → IsRun after stands may s (cs ++ c ∷ []) (us ++ u ∷ []) z
    IsRun-more may s cs us y c u z run one = record {
      goes = Goes-more may s cs y c z run.goes one.may_be_taken one.taken;
      stand = Stand-more may us s cs y u c run.goes run.stand one.stands_for;
      answer = SameAnswer-then s y z run.same_sig run.answer one.answer;
      same_sig = one.same_sig ∙ run.same_sig;
    }

    -- the same where the lists are longer by it
    pub IsRun-longer : (may : StateView → Choice → Type 0) (s : StateView) (cs ds : List Choice) (us vs : List Undo) (y : StateView) (c : Choice) (z : StateView)
        → IsRun after stands may s cs us y → may y c → z ≡ after y c → SameAnswer y z → z.sig ≡ y.sig
        → ds ≡ cs ++ c ∷ [] → HasOneMore (λ u. stands u y c) us vs → IsRun after stands may s ds vs z
    IsRun-longer may s cs ds us vs y c z run allowed taken answer sig as_ds more =
        let P : List Choice → Type 0 = λ l. IsRun after stands may s l vs z in
        let Q : List Undo → Type 0 = λ l. IsRun after stands may s (cs ++ c ∷ []) l z in
        let one : IsTaken after may stands y c more.0 z = record { may_be_taken = allowed; stands_for = more.2; taken = taken; answer = answer; same_sig = sig } in
        subst P (sym as_ds) (subst Q (sym more.1) (IsRun-more may s cs us y c more.0 z run one))

    -- the same at the next element of a list
    pub IsRun-next : (may : StateView → Choice → Type 0) (s : StateView) (cs : List Choice) (i : ℕ) (us vs : List Undo) (y : StateView) (c : Choice) (u : Undo) (z : StateView)
        → i < length cs → c ≡ get_or cs i c → vs ≡ us ++ u ∷ [] → IsRun after stands may s (take i cs) us y → IsTaken after may stands y c u z → IsRun after stands may s (take (i + 1) cs) vs z
    IsRun-next may s cs i us vs y c u z inside at longer run one =
        let P : List Choice → Type 0 = λ l. IsRun after stands may s l vs z in
        let Q : List Undo → Type 0 = λ l. IsRun after stands may s (take i cs ++ c ∷ []) l z in
        subst P (sym (take-step cs i c inside at)) (subst Q (sym longer) (IsRun-more may s (take i cs) us y c u z run one))

    -- there are a state and choices for which the undos stand, and the definitions define the live predicates of the last state
    pub record HasDefined (us : List Undo) (d : Defs) : Type 0 where
      pub before : StateView
      pub choices : List Choice
      pub stand : Stand after stands us before choices
      pub defines : Defines d (last after before choices)

    defined-tail : (u : Undo) (us : List Undo) (d : Defs) (s : StateView) (cs : List Choice) → Stand after stands (u ∷ us) s cs → Defines d (last after s cs) → HasDefined us d
    defined-tail u us d s [] st def = absurd st
    defined-tail u us d s (c ∷ cs) st def = record { before = after s c; choices = cs; stand = st.1; defines = def }

    pub HasDefined-drop : (us : List Undo) (k : ℕ) (d : Defs) → HasDefined us d → HasDefined (drop k us) d
    HasDefined-drop us zero d h = h
    HasDefined-drop [] (suc k) d h = h
    HasDefined-drop (u ∷ us) (suc k) d h = HasDefined-drop us k d (defined-tail u us d h.before h.choices h.stand h.defines)

    module _ (back : StateView → Choice → Defs → Defs) where
      -- for all states and choices for which the undos stand, the definitions e are those before
      pub record AllDefsBack (us : List Undo) (d e : Defs) : Type 0 where
        pub each : (s : StateView) (cs : List Choice) → Stand after stands us s cs → Defines d (last after s cs) → IsDefsBack after back s cs d e

      defs-none : (d : Defs) (s : StateView) (cs : List Choice) → Stand after stands [] s cs → Defines d (last after s cs) → IsDefsBack after back s cs d d
      defs-none d s [] st def = record { value = refl; leads = record { defines = def; keeps = λ w world holds. holds } }
      defs-none d s (c ∷ cs) st def = absurd st

      pub AllDefsBack-none : (d : Defs) → AllDefsBack [] d d
      AllDefsBack-none d = record { each = defs-none d }

      -- where the undo of the first step stands, so that the definitions m define the live predicates after it
      pub first_defined : (u : Undo) (us : List Undo) (d m : Defs) → HasDefined (u ∷ us) d → AllDefsBack us d m → (s : StateView) × (c : Choice) × stands u s c × Defines m (after s c)
      first_defined u us d m h all = go h.before h.choices h.stand h.defines
        where
          go : (s : StateView) (cs : List Choice) → Stand after stands (u ∷ us) s cs → Defines d (last after s cs) → (s : StateView) × (c : Choice) × stands u s c × Defines m (after s c)
          go s [] st def = absurd st
          go s (c ∷ cs) st def = (s, c, st.0, (all.each (after s c) cs st.1 def).leads.defines)

      module _ (keeps_sig : (s : StateView) (c : Choice) → (after s c).sig ≡ s.sig) where
        pub AllDefsBack-more : (u : Undo) (us : List Undo) (d m e : Defs) → AllDefsBack us d m
            → ((s : StateView) (c : Choice) → stands u s c → Defines m (after s c) → e ≡ back s c m)
            → ((s : StateView) (c : Choice) → stands u s c → Defines m (after s c) → LeadsBack s m e (after s c))
            → AllDefsBack (u ∷ us) d e
        AllDefsBack-more u us d m e all value leads = record { each = go }
          where
            go : (s : StateView) (cs : List Choice) → Stand after stands (u ∷ us) s cs → Defines d (last after s cs) → IsDefsBack after back s cs d e
            go s [] st def = absurd st
            go s (c ∷ cs) st def =
                let inner = all.each (after s c) cs st.1 def in
                record {
                  value = value s c st.0 inner.leads.defines ∙ ap (λ (f : Defs). back s c f) inner.value;
                  leads = LeadsBack-then s (after s c) (last after (after s c) cs) d m e (keeps_sig s c) (leads s c st.0 inner.leads.defines) inner.leads;
                }

    module _ (w : List WorldEntry) (r : List RefStep) where
      -- there are a state and choices for which the undos stand, and the steps refute the last state
      pub record HasRefuted (us : List Undo) : Type 0 where
        pub before : StateView
        pub choices : List Choice
        pub stand : Stand after stands us before choices
        pub world : IsWorld before.sig w
        pub refutes : Refutes (last after before choices) w r

      module _ (keeps_sig : (s : StateView) (c : Choice) → (after s c).sig ≡ s.sig) where
        refuted-tail : (u : Undo) (us : List Undo) (s : StateView) (cs : List Choice) → Stand after stands (u ∷ us) s cs → IsWorld s.sig w → Refutes (last after s cs) w r → HasRefuted us
        refuted-tail u us s [] st world ref = absurd st
        refuted-tail u us s (c ∷ cs) st world ref = record { before = after s c; choices = cs; stand = st.1; world = rw (keeps_sig s c) world; refutes = ref }

        pub HasRefuted-drop : (us : List Undo) (k : ℕ) → HasRefuted us → HasRefuted (drop k us)
        HasRefuted-drop us zero h = h
        HasRefuted-drop [] (suc k) h = h
        HasRefuted-drop (u ∷ us) (suc k) h = HasRefuted-drop us k (refuted-tail u us h.before h.choices h.stand h.world h.refutes)

      module _
          (turned : StateView → Choice → List WorldEntry → List RefStep → List RefStep → Type 0)
          (exceeds : StateView → Choice → List WorldEntry → List RefStep → ℕ → Type 0) where
        -- for all states and choices for which the undos stand, that is what the way back of the steps answers
        pub record AllTurnOver (us : List Undo) (answer : Result (List RefStep) RunBackErr) : Type 0 where
          pub each : (s : StateView) (cs : List Choice) → Stand after stands us s cs → IsWorld s.sig w → Refutes (last after s cs) w r → TurnsOver after turned exceeds w r s cs answer

        steps-none : (s : StateView) (cs : List Choice) → Stand after stands [] s cs → IsWorld s.sig w → Refutes (last after s cs) w r → TurnsOver after turned exceeds w r s cs (Ok r)
        steps-none s [] st world ref = (refl, record { refutes = ref; weight = omega arith })
        steps-none s (c ∷ cs) st world ref = absurd st

        pub AllTurnOver-none : AllTurnOver [] (Ok r)
        AllTurnOver-none = record { each = steps-none }

        module _ (keeps_sig : (s : StateView) (c : Choice) → (after s c).sig ≡ s.sig) where
          -- one step further from the refused one
          refused-more : (v : Undo) (us : List Undo) (k : ℕ) (b : BackErr) → AllTurnOver us (Err (refused_at k b)) → AllTurnOver (v ∷ us) (Err (refused_at (suc k) b))
          refused-more v us k step_err.NoMemory all = record { each = λ s cs st world ref. tt }
          refused-more v us k (step_err.OutOfRange n) all = record { each = go }
            where
              go : (s : StateView) (cs : List Choice) → Stand after stands (v ∷ us) s cs → IsWorld s.sig w → Refutes (last after s cs) w r → ExceedsOver after turned exceeds w r s cs (suc k) n
              go s [] st world ref = absurd st
              go s (c ∷ cs) st world ref = all.each (after s c) cs st.1 (rw (keeps_sig s c) world) ref

          none-refused : (k : ℕ) (b : BackErr) → AllTurnOver [] (Err (refused_at zero b)) → AllTurnOver [] (Err (refused_at (suc k) b))
          none-refused k step_err.NoMemory all = record { each = λ s cs st world ref. tt }
          none-refused k (step_err.OutOfRange n) all = record { each = go }
            where
              go : (s : StateView) (cs : List Choice) → Stand after stands [] s cs → IsWorld s.sig w → Refutes (last after s cs) w r → ExceedsOver after turned exceeds w r s cs (suc k) n
              go s [] st world ref = all.each s [] st world ref
              go s (c ∷ cs) st world ref = absurd st

          refused-from : (us : List Undo) (k : ℕ) (b : BackErr) → AllTurnOver (drop k us) (Err (refused_at zero b)) → AllTurnOver us (Err (refused_at k b))
          refused-from us zero b all = all
          refused-from [] (suc k) b all = none-refused k b all
          refused-from (v ∷ us) (suc k) b all = refused-more v us k b (refused-from us k b all)

          module _ (u : Undo) (us : List Undo) (m : List RefStep) (all : AllTurnOver us (Ok m)) where
            -- where the undo of the first step stands, so that the steps m refute the state after it
            pub first_refuted : HasRefuted (u ∷ us) → (s : StateView) × (c : Choice) × stands u s c × IsWorld s.sig w × Refutes (after s c) w m
            first_refuted h = go h.before h.choices h.stand h.world h.refutes
              where
                go : (s : StateView) (cs : List Choice) → Stand after stands (u ∷ us) s cs → IsWorld s.sig w → Refutes (last after s cs) w r
                    → (s : StateView) × (c : Choice) × stands u s c × IsWorld s.sig w × Refutes (after s c) w m
                go s [] st world ref = absurd st
                go s (c ∷ cs) st world ref = (s, c, st.0, world, (all.each (after s c) cs st.1 (rw (keeps_sig s c) world) ref).1.refutes)

            -- what the way back over the first step answers
            abbrev pub Answers : Result (List RefStep) BackErr → Type 0
            Answers answer = (s : StateView) (c : Choice) → stands u s c → IsWorld s.sig w → Refutes (after s c) w m → TurnsBack (turned s c w m) (exceeds s c w m) s (after s c) w m answer

            pub AllTurnOver-more : (e : List RefStep) → Answers (Ok e) → AllTurnOver (u ∷ us) (Ok e)
            AllTurnOver-more e one = record { each = go }
              where
                go : (s : StateView) (cs : List Choice) → Stand after stands (u ∷ us) s cs → IsWorld s.sig w → Refutes (last after s cs) w r → TurnsOver after turned exceeds w r s cs (Ok e)
                go s [] st world ref = absurd st
                go s (c ∷ cs) st world ref =
                    let inner = all.each (after s c) cs st.1 (rw (keeps_sig s c) world) ref in
                    let outer = one s c st.0 world inner.1.refutes in
                    ((m, inner.0, outer.0, outer.1), RefutesBack-then s (after s c) (last after (after s c) cs) w r m e outer.2 inner.1)

            refused-here : (b : BackErr) → Answers (Err b) → AllTurnOver (u ∷ us) (Err (refused_at zero b))
            refused-here step_err.NoMemory one = record { each = λ s cs st world ref. tt }
            refused-here (step_err.OutOfRange n) one = record { each = go }
              where
                go : (s : StateView) (cs : List Choice) → Stand after stands (u ∷ us) s cs → IsWorld s.sig w → Refutes (last after s cs) w r → ExceedsOver after turned exceeds w r s cs zero n
                go s [] st world ref = absurd st
                go s (c ∷ cs) st world ref =
                    let inner = all.each (after s c) cs st.1 (rw (keeps_sig s c) world) ref in
                    (m, inner.0, one s c st.0 world inner.1.refutes)

            -- where the way back over the step of number k is refused, the whole way back is
            pub AllTurnOver-refused : (vs : List Undo) (k : ℕ) (b : BackErr) → drop k vs ≡ u ∷ us → Answers (Err b) → AllTurnOver vs (Err (refused_at k b))
            AllTurnOver-refused vs k b at one =
                let P : List Undo → Type 0 = λ l. AllTurnOver l (Err (refused_at zero b)) in
                refused-from vs k b (subst P (sym at) (refused-here b one))
