-- Terms that have, in one assignment, the values of other terms in another.
use Rattle.std.proofs.Common.{ℕ, true, false, List, [], ◌∷◌, ◌++◌, inl, inr}
use Rattle.chc_sorts.specs.declared.sort.Sort.{Sort}
use Rattle.chc_sorts.specs.declared.op.Op.{Op}
use Rattle.chc_sorts.specs.declared.op.Op.TheVariants as op
use Rattle.chc_sorts.specs.Signature.{Signature}
use Rattle.chc_values.specs.declared.value.Value.{Value}
use Rattle.chc_values.specs.declared.value.Value.TheVariants as value
use Rattle.chc_values.specs.declared.world.WorldEntry.{WorldEntry}
use Rattle.chc_terms.specs.declared.term.Kind.{Kind}
use Rattle.chc_terms.specs.declared.term.Kind.TheVariants as kind
use Rattle.chc_terms.specs.declared.term.Term.{Term}
use Rattle.chc_terms.specs.declared.term.Term.TheVariants.{App, Pred, Quant, Call}
use Rattle.chc_terms.specs.Has.{Meaning, Has, EachHas, AllHave, SomeHas, ChoiceHas, AppHas, QuantHas}
use Rattle.chc_terms.proofs.HasLaws.{Has-App, Has-Pred, Has-Quant, Has-Call}

module _ {X : Type 0} (has : X → List Value → Value → Type 0) (env other : List Value) where
  -- what x has in the first assignment, y has in the other
  abbrev pub Gives : X → X → Type 0
  Gives x y = (v : Value) → has x env v → has y other v

  -- the same of each x and the y at its place
  abbrev pub EachGives : List X → List X → Type 0
  EachGives [] [] = Unit {0}
  EachGives [] (y ∷ ys) = ⊥
  EachGives (x ∷ xs) [] = ⊥
  EachGives (x ∷ xs) (y ∷ ys) = Gives x y × EachGives xs ys

  pub EachHas-along : (xs ys : List X) → EachGives xs ys → (vs : List Value) → EachHas has xs env vs → EachHas has ys other vs
  EachHas-along [] [] g [] h = tt
  EachHas-along [] [] g (v ∷ vs) h = h
  EachHas-along [] (y ∷ ys) g vs h = absurd g
  EachHas-along (x ∷ xs) [] g vs h = absurd g
  EachHas-along (x ∷ xs) (y ∷ ys) g [] h = h
  EachHas-along (x ∷ xs) (y ∷ ys) g (v ∷ vs) h = (g.0 v h.0, EachHas-along xs ys g.1 vs h.1)

  AllHave-along : (xs ys : List X) → EachGives xs ys → (v : Value) → AllHave has xs env v → AllHave has ys other v
  AllHave-along [] [] g v h = tt
  AllHave-along [] (y ∷ ys) g v h = absurd g
  AllHave-along (x ∷ xs) [] g v h = absurd g
  AllHave-along (x ∷ xs) (y ∷ ys) g v h = (g.0 v h.0, AllHave-along xs ys g.1 v h.1)

  SomeHas-along : (xs ys : List X) → EachGives xs ys → (v : Value) → SomeHas has xs env v → SomeHas has ys other v
  SomeHas-along [] ys g v h = absurd h
  SomeHas-along (x ∷ xs) [] g v h = absurd g
  SomeHas-along (x ∷ xs) (y ∷ ys) g v (inl h) = inl (g.0 v h)
  SomeHas-along (x ∷ xs) (y ∷ ys) g v (inr h) = inr (SomeHas-along xs ys g.1 v h)

  ChoiceHas-along : (xs ys : List X) → EachGives xs ys → (v : Value) → ChoiceHas has xs env v → ChoiceHas has ys other v
  ChoiceHas-along [] ys g v h = absurd h
  ChoiceHas-along (c ∷ []) ys g v h = absurd h
  ChoiceHas-along (c ∷ a ∷ []) ys g v h = absurd h
  ChoiceHas-along (c ∷ a ∷ b ∷ []) [] g v h = absurd g
  ChoiceHas-along (c ∷ a ∷ b ∷ []) (d ∷ []) g v h = absurd g.1
  ChoiceHas-along (c ∷ a ∷ b ∷ []) (d ∷ e ∷ []) g v h = absurd g.1.1
  ChoiceHas-along (c ∷ a ∷ b ∷ []) (d ∷ e ∷ f ∷ []) g v (inl h) = inl (g.0 (value.Bool true) h.0, g.1.0 v h.1)
  ChoiceHas-along (c ∷ a ∷ b ∷ []) (d ∷ e ∷ f ∷ []) g v (inr h) = inr (g.0 (value.Bool false) h.0, g.1.1.0 v h.1)
  ChoiceHas-along (c ∷ a ∷ b ∷ []) (d ∷ e ∷ f ∷ y ∷ ys) g v h = absurd g.1.1.1
  ChoiceHas-along (c ∷ a ∷ b ∷ x ∷ xs) ys g v h = absurd h

  AppHas-along : (sig : Signature) (w : List WorldEntry) (o : Op) (xs ys : List X) → EachGives xs ys → (v : Value) → AppHas has sig w o xs env v → AppHas has sig w o ys other v
  AppHas-along sig w op.And xs ys g v (inl h) = inl (h.0, AllHave-along xs ys g (value.Bool true) h.1)
  AppHas-along sig w op.And xs ys g v (inr h) = inr (h.0, SomeHas-along xs ys g (value.Bool false) h.1)
  AppHas-along sig w op.Or xs ys g v (inl h) = inl (h.0, AllHave-along xs ys g (value.Bool false) h.1)
  AppHas-along sig w op.Or xs ys g v (inr h) = inr (h.0, SomeHas-along xs ys g (value.Bool true) h.1)
  AppHas-along sig w op.Ite xs ys g v h = ChoiceHas-along xs ys g v h
  AppHas-along sig w o xs ys g v h = (h.0, EachHas-along xs ys g h.0 h.1, h.2)

  -- the same of bodies, whatever the bound variables' values are
  QuantHas-along : (sig : Signature) (k : Kind) (sorts : List Sort) (x y : X) → ((us : List Value) (v : Value) → has x (env ++ us) v → has y (other ++ us) v)
      → (v : Value) → QuantHas has sig k sorts x env v → QuantHas has sig k sorts y other v
  QuantHas-along sig kind.Forall sorts x y g v (inl h) = inl (h.0, λ us a. g us (value.Bool true) (h.1 us a))
  QuantHas-along sig kind.Forall sorts x y g v (inr h) = inr (h.0, h.1, h.2, g h.1 (value.Bool false) h.3)
  QuantHas-along sig kind.Exists sorts x y g v (inl h) = inl (h.0, h.1, h.2, g h.1 (value.Bool true) h.3)
  QuantHas-along sig kind.Exists sorts x y g v (inr h) = inr (h.0, λ us a. g us (value.Bool false) (h.1 us a))

-- terms of the same form, over parts that go so, go so
module _ (sig : Signature) (w : List WorldEntry) (preds defs : Meaning) (env other : List Value) where
  abbrev has : Term → List Value → Value → Type 0
  has = Has sig w preds defs

  pub app_along : (o : Op) (ts us : List Term) → EachGives has env other ts us → Gives has env other (App o ts) (App o us)
  app_along o ts us g v h =
      rw (Has-App sig w preds defs o us other v) (AppHas-along has env other sig w o ts us g v (rw (Has-App sig w preds defs o ts env v) at h))

  pub pred_along : (p : ℕ) (ts us : List Term) → EachGives has env other ts us → Gives has env other (Pred p ts) (Pred p us)
  pred_along p ts us g v h =
      let l = rw (Has-Pred sig w preds defs p ts env v) at h in
      rw (Has-Pred sig w preds defs p us other v) (l.0, EachHas-along has env other ts us g l.0 l.1, l.2)

  pub call_along : (k : ℕ) (ts us : List Term) → EachGives has env other ts us → Gives has env other (Call k ts) (Call k us)
  call_along k ts us g v h =
      let l = rw (Has-Call sig w preds defs k ts env v) at h in
      rw (Has-Call sig w preds defs k us other v) (l.0, EachHas-along has env other ts us g l.0 l.1, l.2)

  pub quant_along : (k : Kind) (sorts : List Sort) (t u : Term) → ((us : List Value) → Gives has (env ++ us) (other ++ us) t u) → Gives has env other (Quant k sorts t) (Quant k sorts u)
  quant_along k sorts t u g v h =
      rw (Has-Quant sig w preds defs k sorts u other v) (QuantHas-along has env other sig k sorts t u g v (rw (Has-Quant sig w preds defs k sorts t env v) at h))
