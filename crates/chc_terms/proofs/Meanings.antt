-- The value of a plain term doesn't depend on what predicates and definitions mean.
use Rattle.std.proofs.Common.{◌≡◌, List, [], ◌∷◌, map, true, false, sym, inl, inr, ◌∙◌}
use Rattle.std.proofs.lemmas.Bool.{false≢true}
use Rattle.std.specs.List.{AllByRecursion, list_all}
use Rattle.chc_sorts.specs.declared.op.Op.{Op}
use Rattle.chc_sorts.specs.declared.op.Op.TheVariants as op
use Rattle.chc_sorts.specs.Signature.{Signature}
use Rattle.chc_values.specs.declared.value.Value.{Value}
use Rattle.chc_values.specs.declared.value.Value.TheVariants as value
use Rattle.chc_values.specs.declared.world.WorldEntry.{WorldEntry}
use Rattle.chc_terms.specs.declared.term.Term.{Term}
use Rattle.chc_terms.specs.declared.term.Term.TheVariants.{App}
use Rattle.chc_terms.specs.Has.{Meaning, Has, EachHas, AllHave, SomeHas, ChoiceHas, AppHas}
use Rattle.chc_terms.specs.Sorted.{is_plain}
use Rattle.chc_terms.specs.Laws.{SameMeaning}
use Rattle.chc_terms.proofs.Induction.{TermCases, term_ind}
use Rattle.chc_terms.proofs.HasLaws.{Has-Var, Has-Num, Has-Lit, Has-App}
use Rattle.chc_terms.proofs.SameSort.{both_true}
use Rattle.chc_terms.proofs.SortLaws.{is_plain-App, is_plain-Pred, is_plain-Quant, is_plain-Call}

-- what has a value by `has` has it by `holds` too
abbrev pub Follows : {X : Type 0} → (X → List Value → Value → Type 0) → (X → List Value → Value → Type 0) → X → Type 0
Follows has holds x = (env : List Value) (v : Value) → has x env v → holds x env v

module _ {X : Type 0} (has holds : X → List Value → Value → Type 0) where
  pub EachHas-follows : (xs : List X) → AllByRecursion (Follows has holds) xs → (env vs : List Value) → EachHas has xs env vs → EachHas holds xs env vs
  EachHas-follows [] f env [] h = tt
  EachHas-follows [] f env (v ∷ vs) h = h
  EachHas-follows (x ∷ xs) f env [] h = h
  EachHas-follows (x ∷ xs) f env (v ∷ vs) h = (f.0 env v h.0, EachHas-follows xs f.1 env vs h.1)

  pub AllHave-follows : (xs : List X) → AllByRecursion (Follows has holds) xs → (env : List Value) (v : Value) → AllHave has xs env v → AllHave holds xs env v
  AllHave-follows [] f env v h = tt
  AllHave-follows (x ∷ xs) f env v h = (f.0 env v h.0, AllHave-follows xs f.1 env v h.1)

  pub SomeHas-follows : (xs : List X) → AllByRecursion (Follows has holds) xs → (env : List Value) (v : Value) → SomeHas has xs env v → SomeHas holds xs env v
  SomeHas-follows [] f env v h = h
  SomeHas-follows (x ∷ xs) f env v (inl h) = inl (f.0 env v h)
  SomeHas-follows (x ∷ xs) f env v (inr h) = inr (SomeHas-follows xs f.1 env v h)

  pub ChoiceHas-follows : (xs : List X) → AllByRecursion (Follows has holds) xs → (env : List Value) (v : Value) → ChoiceHas has xs env v → ChoiceHas holds xs env v
  ChoiceHas-follows [] f env v h = h
  ChoiceHas-follows (c ∷ []) f env v h = h
  ChoiceHas-follows (c ∷ a ∷ []) f env v h = h
  ChoiceHas-follows (c ∷ a ∷ b ∷ []) f env v (inl h) = inl (f.0 env (value.Bool true) h.0, f.1.0 env v h.1)
  ChoiceHas-follows (c ∷ a ∷ b ∷ []) f env v (inr h) = inr (f.0 env (value.Bool false) h.0, f.1.1.0 env v h.1)
  ChoiceHas-follows (c ∷ a ∷ b ∷ d ∷ more) f env v h = h

  pub AppHas-follows : (sig : Signature) (w : List WorldEntry) (o : Op) (xs : List X) → AllByRecursion (Follows has holds) xs
      → (env : List Value) (v : Value) → AppHas has sig w o xs env v → AppHas holds sig w o xs env v
  AppHas-follows sig w op.And xs f env v (inl h) = inl (h.0, AllHave-follows xs f env (value.Bool true) h.1)
  AppHas-follows sig w op.And xs f env v (inr h) = inr (h.0, SomeHas-follows xs f env (value.Bool false) h.1)
  AppHas-follows sig w op.Or xs f env v (inl h) = inl (h.0, AllHave-follows xs f env (value.Bool false) h.1)
  AppHas-follows sig w op.Or xs f env v (inr h) = inr (h.0, SomeHas-follows xs f env (value.Bool true) h.1)
  AppHas-follows sig w op.Ite xs f env v h = ChoiceHas-follows xs f env v h
  AppHas-follows sig w o xs f env v h = (h.0, EachHas-follows xs f env h.0 h.1, h.2)

module _ (sig : Signature) (w : List WorldEntry) (preds defs others more : Meaning) where
  abbrev Kept : Term → Type 0
  Kept t = is_plain t ≡ true → Follows (Has sig w preds defs) (Has sig w others more) t

  all_kept : (ts : List Term) → AllByRecursion Kept ts → list_all (λ b. b) (map is_plain ts) ≡ true
      → AllByRecursion (Follows (Has sig w preds defs) (Has sig w others more)) ts
  all_kept [] k h = tt
  all_kept (t ∷ ts) k h = let b = both_true (is_plain t) (list_all (λ b. b) (map is_plain ts)) h in (k.0 b.0, all_kept ts k.1 b.1)

  kept_app : (o : Op) (ts : List Term) → AllByRecursion Kept ts → Kept (App o ts)
  kept_app o ts k h env v p =
      rw (Has-App sig w others more o ts env v)
      (AppHas-follows (Has sig w preds defs) (Has sig w others more) sig w o ts (all_kept ts k (sym (is_plain-App o ts) ∙ h)) env v
      (rw (Has-App sig w preds defs o ts env v) at p))

  kept : TermCases Kept
  kept = record {
    of_var = λ i h env v p. rw (Has-Var sig w others more i env v) (rw (Has-Var sig w preds defs i env v) at p);
    of_num = λ n h env v p. rw (Has-Num sig w others more n env v) (rw (Has-Num sig w preds defs n env v) at p);
    of_lit = λ b h env v p. rw (Has-Lit sig w others more b env v) (rw (Has-Lit sig w preds defs b env v) at p);
    of_app = kept_app;
    of_pred = λ p ts k h. absurd (false≢true (sym (is_plain-Pred p ts) ∙ h));
    of_quant = λ q sorts t k h. absurd (false≢true (sym (is_plain-Quant q sorts t) ∙ h));
    of_call = λ n ts k h. absurd (false≢true (sym (is_plain-Call n ts) ∙ h));
  }

pub same_meaning : SameMeaning
same_meaning sig w preds defs others more t h env v p = term_ind (Kept sig w preds defs others more) (kept sig w preds defs others more) t h env v p
