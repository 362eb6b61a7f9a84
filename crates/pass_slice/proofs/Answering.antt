-- Both kinds of steps keep the answer.
use Rattle.std.proofs.Common.{◌≡◌, ◌↔◌, Bool, true, false, not, ◌||◌, List, Some, None, Option, inl, inr, sym, ap, ◌∙◌}
use Rattle.std.specs.List.{filter}
use Rattle.std.proofs.lemmas.Bool.{not_from_false, not-true, or_cases, false≢true}
use Rattle.chc_sorts.specs.Signature.{Signature}
use Rattle.chc_values.specs.declared.value.Value.{Value}
use Rattle.chc_values.specs.declared.world.WorldEntry.{WorldEntry}
use Rattle.chc_state.specs.declared.clause.Atom.{Atom}
use Rattle.chc_state.specs.declared.clause.Clause.{Clause}
use Rattle.chc_state.specs.States.{StateView, head_any}
use Rattle.chc_state.specs.Meaning.{Interp, Fires, DerivesFalse, In}
use Rattle.chc_state.specs.PredSets.{PredSet}
use Rattle.pass_slice.specs.Slices.{body_meets, head_meets, is_unreached, is_unneeded, without}
use Rattle.chc_state.proofs.Members.{In-filter, In-filtered, all-at, none-from, none-at}
use Rattle.chc_state.proofs.Transfers.{Transfer, transferred, fewer}

-- the head's test is the set's test of its predicate, and false at a query
pub head_meets-some : (set : PredSet) (c : Clause) (h : Atom) → c.head ≡ Some h → head_meets set c ≡ set h.pred
head_meets-some set c h e = ap (λ (o : Option Atom). head_any (λ (a : Atom). set a.pred) o) e

pub head_meets-none : (set : PredSet) (c : Clause) → c.head ≡ None → head_meets set c ≡ false
head_meets-none set c e = ap (λ (o : Option Atom). head_any (λ (a : Atom). set a.pred) o) e

module _ (sig : Signature) (w : List WorldEntry) (cs : List Clause) where
  -- fewer clauses derive no more
  kept : (test : Clause → Bool) → Transfer sig w (filter test cs) cs (λ J. J)
  kept test = fewer sig w cs (filter test cs) (λ c. In-filtered test c cs)

  module _ (set : PredSet) where
    -- nothing of the set holds
    unfoldable pub avoiding : Interp → Interp
    avoiding J = λ p us. J p us × (set p ≡ false)

    outside : (J : Interp) (c : Clause) (env : List Value) → Fires sig w (avoiding J) c env → body_meets set c ≡ false
    unfolding avoiding
    outside J c env f = none-from (λ (a : Atom). set a.pred) c.body (λ a i. (f.atoms a i).2.1)

    fires_avoiding : (J : Interp) (c : Clause) (env : List Value) → Fires sig w (avoiding J) c env → Fires sig w J c env
    unfolding avoiding
    fires_avoiding J c env f =
        record { sorted = f.sorted; truths = f.truths; atoms = λ a i. let h = f.atoms a i in (h.0, h.1, h.2.0) }

    pub unreached : is_unreached cs set ≡ true → Transfer sig w cs (filter (λ c. not (body_meets set c)) cs) avoiding
    unfolding avoiding
    unreached meets J closed = (
      λ p us n.
          let out = outside J n.clause n.env n.fires in
          let stays = In-filter (λ c. not (body_meets set c)) n.clause cs (not_from_false (body_meets set n.clause) out) n.stands in
          let says = closed p us (record {
            clause = n.clause;
            head = n.head;
            env = n.env;
            stands = stays;
            concludes = n.concludes;
            on = n.on;
            gives = n.gives;
            fires = fires_avoiding J n.clause n.env n.fires;
          }) in
          (says, sym (ap set n.on) ∙ sym (head_meets-some set n.clause n.head n.concludes) ∙ no_head n.clause n.stands out),
      λ f.
          let out = outside J f.clause f.env f.fires in
          record {
            clause = f.clause;
            env = f.env;
            stands = In-filter (λ c. not (body_meets set c)) f.clause cs (not_from_false (body_meets set f.clause) out) f.stands;
            query = f.query;
            fires = fires_avoiding J f.clause f.env f.fires;
          },
    )
      where
        no_head : (c : Clause) → In c cs → body_meets set c ≡ false → head_meets set c ≡ false
        no_head c i out = elim (or_cases (not (head_meets set c)) (body_meets set c) (all-at (λ c. not (head_meets set c) || body_meets set c) c cs meets i)) [
          | inl e ↦ not-true (head_meets set c) e
          | inr e ↦ absurd (false≢true (sym out ∙ e))
        ]

    -- anything of the set holds
    unfoldable pub granting : Interp → Interp
    granting J = λ p us. set p ≡ false → J p us

    fires_granting : (J : Interp) (c : Clause) (env : List Value) → body_meets set c ≡ false → Fires sig w (granting J) c env → Fires sig w J c env
    unfolding granting
    fires_granting J c env out f =
        record { sorted = f.sorted; truths = f.truths; atoms = λ a i. let h = f.atoms a i in (h.0, h.1, h.2 (none-at (λ (a : Atom). set a.pred) a c.body out i)) }

    pub unneeded : is_unneeded cs set ≡ true → Transfer sig w cs (filter (λ c. not (head_meets set c)) cs) granting
    unfolding granting
    unneeded meets J closed = (
      λ p us n out_p.
          let out = head_meets-some set n.clause n.head n.concludes ∙ ap set n.on ∙ out_p in
          closed p us (record {
            clause = n.clause;
            head = n.head;
            env = n.env;
            stands = In-filter (λ c. not (head_meets set c)) n.clause cs (not_from_false (head_meets set n.clause) out) n.stands;
            concludes = n.concludes;
            on = n.on;
            gives = n.gives;
            fires = fires_granting J n.clause n.env (no_body n.clause n.stands out) n.fires;
          }),
      λ f.
          let out = head_meets-none set f.clause f.query in
          record {
            clause = f.clause;
            env = f.env;
            stands = In-filter (λ c. not (head_meets set c)) f.clause cs (not_from_false (head_meets set f.clause) out) f.stands;
            query = f.query;
            fires = fires_granting J f.clause f.env (no_body f.clause f.stands out) f.fires;
          },
    )
      where
        no_body : (c : Clause) → In c cs → head_meets set c ≡ false → body_meets set c ≡ false
        no_body c i out = elim (or_cases (head_meets set c) (not (body_meets set c)) (all-at (λ c. head_meets set c || not (body_meets set c)) c cs meets i)) [
          | inl e ↦ absurd (false≢true (sym out ∙ e))
          | inr e ↦ not-true (body_meets set c) e
        ]

-- without the clauses that need an unreached predicate, the answer is the same
pub unreached_same : (s : StateView) (set : PredSet) → is_unreached s.clauses set ≡ true → (w : List WorldEntry) → DerivesFalse s w ↔ DerivesFalse (without set (body_meets set) s) w
unreached_same s set meets w = (
  transferred s.sig w s.clauses (filter (λ c. not (body_meets set c)) s.clauses) (avoiding s.sig w s.clauses set) (unreached s.sig w s.clauses set meets),
  transferred s.sig w (filter (λ c. not (body_meets set c)) s.clauses) s.clauses (λ J. J) (kept s.sig w s.clauses (λ c. not (body_meets set c))),
)

-- without the clauses that conclude an unneeded predicate, the answer is the same
pub unneeded_same : (s : StateView) (set : PredSet) → is_unneeded s.clauses set ≡ true → (w : List WorldEntry) → DerivesFalse s w ↔ DerivesFalse (without set (head_meets set) s) w
unneeded_same s set meets w = (
  transferred s.sig w s.clauses (filter (λ c. not (head_meets set c)) s.clauses) (granting s.sig w s.clauses set) (unneeded s.sig w s.clauses set meets),
  transferred s.sig w (filter (λ c. not (head_meets set c)) s.clauses) s.clauses (λ J. J) (kept s.sig w s.clauses (λ c. not (head_meets set c))),
)
