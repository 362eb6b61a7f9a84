-- The equations of `Has`, one for each variant.
use Rattle.std.proofs.Common.{◌≡◌, ℕ, ℤ, List, [], ◌∷◌, map, Bool, true, false, Some, slice_get, refl, sym, ap, ◌∙◌, ◌⊎◌}
use Rattle.chc_sorts.specs.declared.sort.Sort.{Sort}
use Rattle.chc_sorts.specs.declared.op.Op.{Op}
use Rattle.chc_sorts.specs.declared.op.Op.TheVariants as op
use Rattle.chc_sorts.specs.Signature.{Signature}
use Rattle.chc_values.specs.declared.value.Value.{Value}
use Rattle.chc_values.specs.declared.value.Value.TheVariants as value
use Rattle.chc_values.specs.declared.world.WorldEntry.{WorldEntry}
use Rattle.chc_terms.specs.declared.term.Kind.{Kind}
use Rattle.chc_terms.specs.declared.term.Kind.TheVariants as kind
use Rattle.chc_terms.specs.declared.term.Term.{Term, Term-F, roll-Term, map-Term, rec-roll-Term}
use Rattle.chc_terms.specs.declared.term.Term.TheVariants.{Var, Num, Lit, App, Pred, Quant, Call, rolls-Var, rolls-Num, rolls-Lit, rolls-App, rolls-Pred, rolls-Quant, rolls-Call}
use Rattle.chc_terms.specs.Has.{Meaning, Has, EachHas, AllHave, SomeHas, ChoiceHas, AppHas, QuantHas, LevelHas, Applies}

-- what terms of X have, and what those have that they stand for, are the same
module _ (X Y : Type 0) (f : X → Y) (has : Y → List Value → Value → Type 0) where
  EachHas-map : (xs : List X) (env vs : List Value) → EachHas (λ x. has (f x)) xs env vs ≡ EachHas has (map f xs) env vs
  EachHas-map [] env [] = refl
  EachHas-map [] env (v ∷ vs) = refl
  EachHas-map (x ∷ xs) env [] = refl
  EachHas-map (x ∷ xs) env (v ∷ vs) = λ i. has (f x) env v × EachHas-map xs env vs i

  AllHave-map : (xs : List X) (env : List Value) (v : Value) → AllHave (λ x. has (f x)) xs env v ≡ AllHave has (map f xs) env v
  AllHave-map [] env v = refl
  AllHave-map (x ∷ xs) env v = λ i. has (f x) env v × AllHave-map xs env v i

  SomeHas-map : (xs : List X) (env : List Value) (v : Value) → SomeHas (λ x. has (f x)) xs env v ≡ SomeHas has (map f xs) env v
  SomeHas-map [] env v = refl
  SomeHas-map (x ∷ xs) env v = λ i. has (f x) env v ⊎ SomeHas-map xs env v i

  ChoiceHas-map : (xs : List X) (env : List Value) (v : Value) → ChoiceHas (λ x. has (f x)) xs env v ≡ ChoiceHas has (map f xs) env v
  ChoiceHas-map [] env v = refl
  ChoiceHas-map (c ∷ []) env v = refl
  ChoiceHas-map (c ∷ a ∷ []) env v = refl
  ChoiceHas-map (c ∷ a ∷ b ∷ []) env v = refl
  ChoiceHas-map (c ∷ a ∷ b ∷ d ∷ more) env v = refl

  AppHas-map : (sig : Signature) (w : List WorldEntry) (o : Op) (xs : List X) (env : List Value) (v : Value)
      → AppHas (λ x. has (f x)) sig w o xs env v ≡ AppHas has sig w o (map f xs) env v
  AppHas-map sig w op.And xs env v = λ i. ((v ≡ value.Bool true) × AllHave-map xs env (value.Bool true) i) ⊎ ((v ≡ value.Bool false) × SomeHas-map xs env (value.Bool false) i)
  AppHas-map sig w op.Or xs env v = λ i. ((v ≡ value.Bool false) × AllHave-map xs env (value.Bool false) i) ⊎ ((v ≡ value.Bool true) × SomeHas-map xs env (value.Bool true) i)
  AppHas-map sig w op.Ite xs env v = ChoiceHas-map xs env v
  AppHas-map sig w o xs env v = λ i. (vs : List Value) × EachHas-map xs env vs i × Applies sig w o vs v

  QuantHas-map : (sig : Signature) (k : Kind) (sorts : List Sort) (x : X) (env : List Value) (v : Value)
      → QuantHas (λ x. has (f x)) sig k sorts x env v ≡ QuantHas has sig k sorts (f x) env v
  QuantHas-map sig kind.Forall sorts x env v = refl
  QuantHas-map sig kind.Exists sorts x env v = refl

  LevelHas-map : (sig : Signature) (w : List WorldEntry) (preds defs : Meaning) (level : Term-F X) (env : List Value) (v : Value)
      → LevelHas (λ x. has (f x)) sig w preds defs level env v ≡ LevelHas has sig w preds defs (map-Term X Y f level) env v
  LevelHas-map sig w preds defs (Term-F.Var n) env v = refl
  LevelHas-map sig w preds defs (Term-F.Num n) env v = refl
  LevelHas-map sig w preds defs (Term-F.Lit b) env v = refl
  LevelHas-map sig w preds defs (Term-F.App o xs) env v = AppHas-map sig w o xs env v
  LevelHas-map sig w preds defs (Term-F.Pred p xs) env v = λ i. (vs : List Value) × EachHas-map xs env vs i × preds p vs v
  LevelHas-map sig w preds defs (Term-F.Quant k sorts x) env v = QuantHas-map sig k sorts x env v
  LevelHas-map sig w preds defs (Term-F.Call k xs) env v = λ i. (vs : List Value) × EachHas-map xs env vs i × defs k vs v

module _ (sig : Signature) (w : List WorldEntry) (preds defs : Meaning) where
  Has-roll : (level : Term-F Term) → Has sig w preds defs (roll-Term level) ≡ LevelHas (Has sig w preds defs) sig w preds defs level
  Has-roll level =
      rec-roll-Term (List Value → Value → Type 0) (λ X whole has level. LevelHas has sig w preds defs level)
      (λ X v k x. λ i env u. LevelHas-map X Term v k sig w preds defs x env u i) level

  pub Has-Var : (n : ℕ) (env : List Value) (v : Value) → Has sig w preds defs (Var n) env v ≡ (slice_get env n ≡ Some v)
  Has-Var n env v = λ i. (ap (Has sig w preds defs) (sym (rolls-Var n)) ∙ Has-roll (Term-F.Var n)) i env v

  pub Has-Num : (n : ℤ) (env : List Value) (v : Value) → Has sig w preds defs (Num n) env v ≡ (v ≡ value.Int n)
  Has-Num n env v = λ i. (ap (Has sig w preds defs) (sym (rolls-Num n)) ∙ Has-roll (Term-F.Num n)) i env v

  pub Has-Lit : (b : Bool) (env : List Value) (v : Value) → Has sig w preds defs (Lit b) env v ≡ (v ≡ value.Bool b)
  Has-Lit b env v = λ i. (ap (Has sig w preds defs) (sym (rolls-Lit b)) ∙ Has-roll (Term-F.Lit b)) i env v

  pub Has-App : (o : Op) (ts : List Term) (env : List Value) (v : Value) → Has sig w preds defs (App o ts) env v ≡ AppHas (Has sig w preds defs) sig w o ts env v
  Has-App o ts env v = λ i. (ap (Has sig w preds defs) (sym (rolls-App o ts)) ∙ Has-roll (Term-F.App o ts)) i env v

  pub Has-Pred : (p : ℕ) (ts : List Term) (env : List Value) (v : Value)
      → Has sig w preds defs (Pred p ts) env v ≡ ((vs : List Value) × EachHas (Has sig w preds defs) ts env vs × preds p vs v)
  Has-Pred p ts env v = λ i. (ap (Has sig w preds defs) (sym (rolls-Pred p ts)) ∙ Has-roll (Term-F.Pred p ts)) i env v

  pub Has-Quant : (k : Kind) (sorts : List Sort) (t : Term) (env : List Value) (v : Value)
      → Has sig w preds defs (Quant k sorts t) env v ≡ QuantHas (Has sig w preds defs) sig k sorts t env v
  Has-Quant k sorts t env v = λ i. (ap (Has sig w preds defs) (sym (rolls-Quant k sorts t)) ∙ Has-roll (Term-F.Quant k sorts t)) i env v

  pub Has-Call : (k : ℕ) (ts : List Term) (env : List Value) (v : Value)
      → Has sig w preds defs (Call k ts) env v ≡ ((vs : List Value) × EachHas (Has sig w preds defs) ts env vs × defs k vs v)
  Has-Call k ts env v = λ i. (ap (Has sig w preds defs) (sym (rolls-Call k ts)) ∙ Has-roll (Term-F.Call k ts)) i env v
