-- What is read of a term and the term are true together: under one assignment, step by step.
use Rattle.std.proofs.Common.{◌≡◌, ◌⊎◌, inl, inr, ℕ, Bool, true, false, not, List, [], ◌∷◌, ◌++◌, Option, Some, None, Result, Ok, Err, refl, ap, sym, subst, ◌∙◌}
use Rattle.std.specs.List.{AllByRecursion, list_any}
use Rattle.chc_sorts.specs.declared.op.Op.{Op}
use Rattle.chc_sorts.specs.declared.op.Op.TheVariants as op
use Rattle.chc_sorts.specs.Signature.{Signature}
use Rattle.chc_values.specs.declared.value.Value.{Value, Value-F, out-Value}
use Rattle.chc_values.specs.declared.value.Value.TheVariants as value
use Rattle.chc_values.specs.declared.world.WorldEntry.{WorldEntry}
use Rattle.chc_terms.specs.declared.term.Term.{Term}
use Rattle.chc_terms.specs.declared.term.Term.TheVariants as term
use Rattle.chc_terms.specs.Has.{Meaning, Has, EachHas, AllHave, SomeHas}
use Rattle.chc_terms.proofs.HasLaws.{Has-Lit, Has-App}
use Rattle.chc_terms.proofs.Induction.{term_ind}
use Rattle.chc_state.specs.declared.clause.Atom.{Atom}
use Rattle.chc_script.specs.Marks.{mentions}
use Rattle.chc_script.specs.Horn.{collected, readings, each, and_more, way_of, way_read, whole_read, literal_read, atom_read, with_condition, with_head}
use Rattle.chc_script.specs.declared.horn.parts.Parts.{Parts}
use Rattle.chc_script.specs.declared.horn.refusal.HornErr.{HornErr}
use Rattle.chc_script.specs.declared.horn.side.Side.{Side}
use Rattle.chc_script.specs.declared.horn.side.Side.TheVariants as side
use Rattle.chc_script.proofs.Collected.{collected-Var, collected-Num, collected-Lit, collected-App, collected-Pred, collected-Quant, collected-Call}

pub same_made : {X : Type 0} (a b : X) → ◌≡◌ {A = Result X HornErr} (Ok a) (Ok b) → a ≡ b
same_made a b e = cc

pub refused_made : {X : Type 0} (e : HornErr) (b : X) → ◌≡◌ {A = Result X HornErr} (Err e) (Ok b) → ⊥
refused_made e b h = cc

-- what leads on to something made was itself made
pub made_before : (r : Result Parts HornErr) (more : Parts → Result Parts HornErr) (made : Parts) → and_more r more ≡ Ok made → (found : Parts) × (r ≡ Ok found) × (more found ≡ Ok made)
made_before (Err e) more made h = absurd (refused_made e made h)
made_before (Ok found) more made h = (found, refl, h)

pub truth_of : Value → Value-F Value
truth_of = out-Value

pub same_truth : (a b : Bool) → value.Bool a ≡ value.Bool b → a ≡ b
same_truth a b e = let f : Value-F.Bool a ≡ Value-F.Bool b = sym (value.outs-Bool a) ∙ ap out-Value e ∙ value.outs-Bool b in cc

pub true_not_false : value.Bool true ≡ value.Bool false → ⊥
true_not_false e = let f : true ≡ false = same_truth true false e in cc

-- the truth value of a term on a side that makes the clause true, and the other one
abbrev pub holding : Side → Value
holding side.Concluded = value.Bool true
holding side.Assumed = value.Bool false

abbrev pub failing : Side → Value
failing side.Concluded = value.Bool false
failing side.Assumed = value.Bool true

-- an atom as a term
abbrev pub atom_term : Atom → Term
atom_term a = term.Pred a.pred a.args

module _ {X : Type 0} (has : X → List Value → Value → Type 0) (env : List Value) (v : Value) where
  some_longer : (xs : List X) (x : X) → SomeHas has xs env v → SomeHas has (xs ++ x ∷ []) env v
  some_longer [] x h = absurd h
  some_longer (y ∷ xs) x (inl h) = inl h
  some_longer (y ∷ xs) x (inr h) = inr (some_longer xs x h)

  some_last : (xs : List X) (x : X) → has x env v → SomeHas has (xs ++ x ∷ []) env v
  some_last [] x h = inl h
  some_last (y ∷ xs) x h = inr (some_last xs x h)

  all_longer : (xs : List X) (x : X) → AllHave has xs env v → has x env v → AllHave has (xs ++ x ∷ []) env v
  all_longer [] x h k = (k, tt)
  all_longer (y ∷ xs) x h k = (h.0, all_longer xs x h.1 k)

module _ (sig : Signature) (w : List WorldEntry) (preds defs : Meaning) (env : List Value) where
  abbrev pub Under : Term → Value → Type 0
  Under t v = Has sig w preds defs t env v

  abbrev pub AtomUnder : Atom → List Value → Value → Type 0
  AtomUnder a vars v = Has sig w preds defs (atom_term a) vars v

  -- no head is as good as a false one
  abbrev pub HeadIs : Bool → Option Atom → Type 0
  HeadIs b None = b ≡ false
  HeadIs b (Some a) = Under (atom_term a) (value.Bool b)

  -- some part makes the clause true
  abbrev pub Met : Parts → Type 0
  Met found = SomeHas (Has sig w preds defs) found.conj env (value.Bool false) ⊎ (SomeHas AtomUnder found.body env (value.Bool false) ⊎ HeadIs true found.head)

  -- all conditions and atoms have true, and the head has false
  pub record Broken (found : Parts) : Type 0 where
    pub conditions : AllHave (Has sig w preds defs) found.conj env (value.Bool true)
    pub atoms : AllHave AtomUnder found.body env (value.Bool true)
    pub head_false : HeadIs false found.head

  -- what is made says what was found, and more where T; it is broken where that is and F
  pub record Step (T F : Type 0) (found made : Parts) : Type 0 where
    pub kept : Met found → Met made
    pub says : T → Met made
    pub breaks : F → Broken found → Broken made

  abbrev pub TermStep : Term → Side → Parts → Parts → Type 0
  TermStep t s = Step (Under t (holding s)) (Under t (failing s))

  abbrev Reads : Term → Type 0
  Reads t = (s : Side) (found made : Parts) → collected t s found ≡ Ok made → TermStep t s found made

  step_from : {T F T' F' : Type 0} (found made : Parts) → (T' → T) → (F' → F) → Step T F found made → Step T' F' found made
  step_from found made f g step = record { kept = step.kept; says = λ h. step.says (f h); breaks = λ h b. step.breaks (g h) b }

  -- truth values of negations
  negated : (t : Term) (b : Bool) → Under t (value.Bool b) → Under (term.App op.Not (t ∷ [])) (value.Bool (not b))
  negated t b h = rw (Has-App sig w preds defs op.Not (t ∷ []) env (value.Bool (not b))) (value.Bool b ∷ [], (h, tt), (b, refl, refl))

  not_both_ways : (b c : Bool) → b ≡ not c → c ≡ not b
  not_both_ways true true e = cc
  not_both_ways true false e = refl
  not_both_ways false true e = refl
  not_both_ways false false e = cc

  operand : (ts : List Term) (b : Bool) → Under (term.App op.Not ts) (value.Bool b) → EachHas (Has sig w preds defs) ts env (value.Bool (not b) ∷ [])
  operand ts b h =
      let k = rw (Has-App sig w preds defs op.Not ts env (value.Bool b)) at h in
      let same : k.2.0 ≡ not b = not_both_ways b k.2.0 (same_truth b (not k.2.0) k.2.2) in
      subst (λ (vs : List Value). EachHas (Has sig w preds defs) ts env vs) (k.2.1 ∙ ap (λ c. value.Bool c ∷ []) same) k.1

  some_operand : (ts : List Term) (v : Value) → EachHas (Has sig w preds defs) ts env (v ∷ []) → SomeHas (Has sig w preds defs) ts env v
  some_operand [] v h = absurd h
  some_operand (t ∷ ts) v h = inl h.0

  all_operands : (ts : List Term) (v : Value) → EachHas (Has sig w preds defs) ts env (v ∷ []) → AllHave (Has sig w preds defs) ts env v
  all_operands [] v h = absurd h
  all_operands (t ∷ []) v h = (h.0, tt)
  all_operands (t ∷ u ∷ ts) v h = absurd h.1

  -- truth values of conjunctions and disjunctions
  or_true : (ts : List Term) → Under (term.App op.Or ts) (value.Bool true) → SomeHas (Has sig w preds defs) ts env (value.Bool true)
  or_true ts h = elim (rw (Has-App sig w preds defs op.Or ts env (value.Bool true)) at h) [ inl k ↦ absurd (true_not_false k.0) | inr k ↦ k.1 ]

  or_false : (ts : List Term) → Under (term.App op.Or ts) (value.Bool false) → AllHave (Has sig w preds defs) ts env (value.Bool false)
  or_false ts h = elim (rw (Has-App sig w preds defs op.Or ts env (value.Bool false)) at h) [ inl k ↦ k.1 | inr k ↦ absurd (true_not_false (sym k.0)) ]

  and_false : (ts : List Term) → Under (term.App op.And ts) (value.Bool false) → SomeHas (Has sig w preds defs) ts env (value.Bool false)
  and_false ts h = elim (rw (Has-App sig w preds defs op.And ts env (value.Bool false)) at h) [ inl k ↦ absurd (true_not_false (sym k.0)) | inr k ↦ k.1 ]

  and_true : (ts : List Term) → Under (term.App op.And ts) (value.Bool true) → AllHave (Has sig w preds defs) ts env (value.Bool true)
  and_true ts h = elim (rw (Has-App sig w preds defs op.And ts env (value.Bool true)) at h) [ inl k ↦ k.1 | inr k ↦ absurd (true_not_false k.0) ]

  -- one more condition
  with_conjunct : (T F : Type 0) (t : Term) (found : Parts) → (T → Under t (value.Bool false)) → (F → Under t (value.Bool true))
      → Step T F found (record { conj = found.conj ++ t ∷ []; body = found.body; head = found.head })
  with_conjunct T F t found f g = record {
    kept = λ h. elim h [ inl k ↦ inl (some_longer (Has sig w preds defs) env (value.Bool false) found.conj t k) | inr k ↦ inr k ];
    says = λ h. inl (some_last (Has sig w preds defs) env (value.Bool false) found.conj t (f h));
    breaks = λ h b. record { conditions = all_longer (Has sig w preds defs) env (value.Bool true) found.conj t b.conditions (g h); atoms = b.atoms; head_false = b.head_false };
  }

  condition_step : (t : Term) (s : Side) (found : Parts) → TermStep t s found (with_condition s t found)
  condition_step t side.Concluded found =
      with_conjunct (Under t (value.Bool true)) (Under t (value.Bool false)) (term.App op.Not (t ∷ [])) found (λ h. negated t true h) (λ h. negated t false h)
  condition_step t side.Assumed found = with_conjunct (Under t (value.Bool false)) (Under t (value.Bool true)) t found (λ h. h) (λ h. h)

  whole_step : (m : Bool) (t : Term) (s : Side) (found made : Parts) → whole_read m t s found ≡ Ok made → TermStep t s found made
  whole_step true t s found made e = absurd (refused_made _ made e)
  whole_step false t s found made e = subst (TermStep t s found) (same_made (with_condition s t found) made e) (condition_step t s found)

  -- nothing more, where T can't be
  nothing_step : (T F : Type 0) (found made : Parts) → (T → ⊥) → ◌≡◌ {A = Result Parts HornErr} (Ok found) (Ok made) → Step T F found made
  nothing_step T F found made f e = subst (Step T F found) (same_made found made e) (record { kept = λ h. h; says = λ h. absurd (f h); breaks = λ h b. b })

  literal_step : (b : Bool) (s : Side) (found made : Parts) → literal_read b s found ≡ Ok made → TermStep (term.Lit b) s found made
  literal_step false side.Concluded found made e =
      nothing_step (Under (term.Lit false) (value.Bool true)) (Under (term.Lit false) (value.Bool false)) found made
      (λ h. true_not_false (rw (Has-Lit sig w preds defs false env (value.Bool true)) at h)) e
  literal_step true side.Assumed found made e =
      nothing_step (Under (term.Lit true) (value.Bool false)) (Under (term.Lit true) (value.Bool true)) found made
      (λ h. true_not_false (sym (rw (Has-Lit sig w preds defs true env (value.Bool false)) at h))) e
  literal_step false side.Assumed found made e = whole_step false (term.Lit false) side.Assumed found made e
  literal_step true side.Concluded found made e = whole_step false (term.Lit true) side.Concluded found made e

  -- one more atom
  head_step : (a : Atom) (conj : List Term) (body : List Atom) (head : Option Atom) (made : Parts) → with_head a conj body head ≡ Ok made
      → TermStep (atom_term a) side.Concluded (record { conj = conj; body = body; head = head }) made
  head_step a conj body (Some head) made e = absurd (refused_made _ made e)
  head_step a conj body None made e =
      subst (TermStep (atom_term a) side.Concluded (record { conj = conj; body = body; head = None })) (same_made (record { conj = conj; body = body; head = Some a }) made e)
      (record {
        kept = λ h. elim h [ inl k ↦ inl k | inr k ↦ elim k [ inl j ↦ inr (inl j) | inr j ↦ absurd (no_head j) ] ];
        says = λ h. inr (inr h);
        breaks = λ h b. record { conditions = b.conditions; atoms = b.atoms; head_false = h };
      })
    where
      no_head : true ≡ false → ⊥
      no_head f = cc

  atom_step : (m : Bool) (p : ℕ) (ts : List Term) (s : Side) (found made : Parts) → atom_read m p ts s found ≡ Ok made → TermStep (term.Pred p ts) s found made
  atom_step true p ts s found made e = absurd (refused_made _ made e)
  atom_step false p ts side.Concluded found made e = head_step (record { pred = p; args = ts }) found.conj found.body found.head made e
  atom_step false p ts side.Assumed found made e =
      subst (TermStep (term.Pred p ts) side.Assumed found) (same_made (record { conj = found.conj; body = found.body ++ a ∷ []; head = found.head }) made e)
      (record {
        kept = λ h. elim h [ inl k ↦ inl k | inr k ↦ elim k [ inl j ↦ inr (inl (some_longer AtomUnder env (value.Bool false) found.body a j)) | inr j ↦ inr (inr j) ] ];
        says = λ h. inr (inl (some_last AtomUnder env (value.Bool false) found.body a h));
        breaks = λ h b. record { conditions = b.conditions; atoms = all_longer AtomUnder env (value.Bool true) found.body a b.atoms h; head_false = b.head_false };
      })
    where
      a : Atom
      a = record { pred = p; args = ts }

  -- terms one after another: some of them holds, or all of them fail
  each_step : (ts : List Term) → AllByRecursion Reads ts → (s : Side) (found made : Parts) → each (readings ts) s found ≡ Ok made
      → Step (SomeHas (Has sig w preds defs) ts env (holding s)) (AllHave (Has sig w preds defs) ts env (failing s)) found made
  each_step [] f s found made e = nothing_step ⊥ (Unit {0}) found made (λ h. h) e
  each_step (t ∷ ts) f s found made e =
      let m = made_before (collected t s found) (each (readings ts) s) made e in
      let first = f.0 s found m.0 m.1 in
      let rest = each_step ts f.1 s m.0 made m.2 in
      record {
        kept = λ h. rest.kept (first.kept h);
        says = λ h. elim h [ inl k ↦ rest.kept (first.says k) | inr k ↦ rest.says k ];
        breaks = λ h b. rest.breaks h.1 (first.breaks h.0 b);
      }

  -- an operator's term, by how it is read
  app_step : (o : Op) (s : Side) (m : Bool) (ts : List Term) → AllByRecursion Reads ts → (found made : Parts)
      → way_read (way_of o s m) (readings ts) (term.App o ts) s found ≡ Ok made → TermStep (term.App o ts) s found made
  app_step op.Or side.Concluded m ts f found made e = step_from found made (or_true ts) (or_false ts) (each_step ts f side.Concluded found made e)
  app_step op.Not side.Concluded m ts f found made e =
      step_from found made (λ h. some_operand ts (value.Bool false) (operand ts true h)) (λ h. all_operands ts (value.Bool true) (operand ts false h))
      (each_step ts f side.Assumed found made e)
  app_step op.And side.Assumed m ts f found made e = step_from found made (and_false ts) (and_true ts) (each_step ts f side.Assumed found made e)
  app_step op.Not side.Assumed true ts f found made e =
      step_from found made (λ h. some_operand ts (value.Bool true) (operand ts false h)) (λ h. all_operands ts (value.Bool false) (operand ts true h))
      (each_step ts f side.Concluded found made e)
  app_step o s true ts f found made e = absurd (refused_made _ made e)
  app_step o s false ts f found made e = whole_step false (term.App o ts) s found made e

  -- what is made says the term
  pub collected_step : (t : Term) (s : Side) (found made : Parts) → collected t s found ≡ Ok made → TermStep t s found made
  collected_step = term_ind Reads (record {
    of_var = λ i s found made e. whole_step (mentions (term.Var i)) (term.Var i) s found made (sym (collected-Var s found i) ∙ e);
    of_num = λ n s found made e. whole_step (mentions (term.Num n)) (term.Num n) s found made (sym (collected-Num s found n) ∙ e);
    of_lit = λ b s found made e. literal_step b s found made (sym (collected-Lit s found b) ∙ e);
    of_app = λ o ts f s found made e. app_step o s (mentions (term.App o ts)) ts f found made (sym (collected-App s found o ts) ∙ e);
    of_pred = λ p ts f s found made e. atom_step (list_any mentions ts) p ts s found made (sym (collected-Pred s found p ts) ∙ e);
    of_quant = λ k sorts t f s found made e. whole_step (mentions (term.Quant k sorts t)) (term.Quant k sorts t) s found made (sym (collected-Quant s found k sorts t) ∙ e);
    of_call = λ k ts f s found made e. whole_step (mentions (term.Call k ts)) (term.Call k ts) s found made (sym (collected-Call s found k ts) ∙ e);
  })
