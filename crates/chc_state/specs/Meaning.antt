-- What clauses derive. An interpretation says of a predicate and values whether they hold; derivations,
-- truth under definitions and the premises of a refutation are all interpretations.
use Rattle.std.specs.Prelude.{◌≡◌, ◌⊎◌, ◌↔◌, true, ℕ, zero, suc, List, [], ◌∷◌, Some, None}
use Rattle.chc_sorts.specs.Signature.{Signature}
use Rattle.chc_values.specs.declared.value.Value.{Value}
use Rattle.chc_values.specs.declared.value.Value.TheVariants as value
use Rattle.chc_values.specs.declared.world.WorldEntry.{WorldEntry}
use Rattle.chc_values.specs.Values.{AreOf}
use Rattle.chc_values.specs.Worlds.{IsWorld}
use Rattle.chc_terms.specs.Has.{TermHas, EachHas, AllHave}
use Rattle.chc_state.specs.declared.clause.Atom.{Atom}
use Rattle.chc_state.specs.declared.clause.Clause.{Clause}
use Rattle.chc_state.specs.States.{StateView}

abbrev pub Interp : Type 1
Interp = ℕ → List Value → Type 0

-- x stands in the list
abbrev pub In : {X : Type 0} → X → List X → Type 0
In x [] = ⊥
In x (y ∷ ys) = (x ≡ y) ⊎ In x ys

module _ (sig : Signature) (w : List WorldEntry) where
  -- the arguments have these values
  abbrev pub ArgsHave : Atom → List Value → List Value → Type 0
  ArgsHave a env us = EachHas (TermHas sig w) a.args env us

  -- the atom holds: its arguments have values of which the interpretation says the predicate
  abbrev pub AtomHolds : Interp → List Value → Atom → Type 0
  AtomHolds I env a = (us : List Value) × ArgsHave a env us × I a.pred us

  -- the assignment is of the variables' sorts and makes all conjuncts and all body atoms true
  pub record Fires (I : Interp) (c : Clause) (env : List Value) : Type 0 where
    pub sorted : AreOf sig env c.vars
    pub truths : AllHave (TermHas sig w) c.conj env (value.Bool true)
    pub atoms : (a : Atom) → In a c.body → AtomHolds I env a

  -- some clause concludes the predicate p on the values us where its body is read by the interpretation
  pub record Next (cs : List Clause) (I : Interp) (p : ℕ) (us : List Value) : Type 0 where
    pub clause : Clause
    pub head : Atom
    pub env : List Value
    pub stands : In clause cs
    pub concludes : clause.head ≡ Some head
    pub on : head.pred ≡ p
    pub gives : ArgsHave head env us
    pub fires : Fires I clause env

  -- some query fires
  pub record Fails (cs : List Clause) (I : Interp) : Type 0 where
    pub clause : Clause
    pub env : List Value
    pub stands : In clause cs
    pub query : clause.head ≡ None
    pub fires : Fires I clause env

  -- p on us has a derivation tree of a height of at most n
  abbrev pub Derives : List Clause → ℕ → Interp
  Derives cs zero = λ p us. ⊥
  Derives cs (suc n) = Next cs (Derives cs n)

  -- false has a derivation tree: the body of some query is derived
  abbrev pub FalseDerived : List Clause → Type 0
  FalseDerived cs = (n : ℕ) × Fails cs (Derives cs n)

-- in the world w, false has a derivation tree from the state's clauses
abbrev pub DerivesFalse : StateView → List WorldEntry → Type 0
DerivesFalse s w = FalseDerived s.sig w s.clauses

-- in every world, false is derived from the one state's clauses exactly where it is from the other's
abbrev pub SameAnswer : StateView → StateView → Type 0
SameAnswer s z = (w : List WorldEntry) → IsWorld s.sig w → DerivesFalse s w ↔ DerivesFalse z w
