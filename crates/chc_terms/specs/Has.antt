-- The value of a term: `Has`. Numbers are unbounded, and what the standard leaves open is read from a world.
use Rattle.std.specs.Prelude.{◌≡◌, ◌≢◌, ◌⊎◌, ◌↔◌, ℕ, ℤ, pos, ◌+ℤ◌, ◌-ℤ◌, ◌*ℤ◌, ◌≤ℤ◌, ◌<ℤ◌, Bool, true, false, not, IsTrue, nat_abs, nat_eq, List, [], ◌∷◌, ◌++◌, Some, slice_get}
use Rattle.chc_sorts.specs.declared.sort.Sort.{Sort}
use Rattle.chc_sorts.specs.declared.op.Op.{Op}
use Rattle.chc_sorts.specs.declared.op.Op.TheVariants as op
use Rattle.chc_sorts.specs.Signature.{Signature}
use Rattle.chc_values.specs.declared.value.Value.{Value}
use Rattle.chc_values.specs.declared.value.Value.TheVariants as value
use Rattle.chc_values.specs.declared.world.WorldEntry.{WorldEntry}
use Rattle.chc_values.specs.Values.{AreOf}
use Rattle.chc_values.specs.Arrays.{HasAt, Stores}
use Rattle.chc_values.specs.Worlds.{DividesByZero, LeavesByZero, SelectsOpen}
use Rattle.chc_terms.specs.declared.term.Kind.{Kind}
use Rattle.chc_terms.specs.declared.term.Kind.TheVariants as kind
use Rattle.chc_terms.specs.declared.term.Term.{Term, Term-F, rec-Term}

-- what a predicate or a definition of that number gives on these values
abbrev pub Meaning : Type 1
Meaning = ℕ → List Value → Value → Type 0

-- q and r are the quotient and the rest of m by n: m = n * q + r, and r is at least 0 and below |n|
abbrev pub Divides : ℤ → ℤ → ℤ → ℤ → Type 0
Divides m n q r = (m ≡ (n *ℤ q) +ℤ r) × (pos 0 ≤ℤ r) × (r <ℤ pos (nat_abs n))

-- the operators whose value follows from all their arguments' values
abbrev pub Applies : Signature → List WorldEntry → Op → List Value → Value → Type 0
Applies sig w op.Not vs v = (b : Bool) × (vs ≡ value.Bool b ∷ []) × (v ≡ value.Bool (not b))
Applies sig w op.And vs v = ⊥
Applies sig w op.Or vs v = ⊥
Applies sig w op.Ite vs v = ⊥
Applies sig w op.Eq vs v = (a b : Value) × (r : Bool) × (vs ≡ a ∷ b ∷ []) × (v ≡ value.Bool r) × (IsTrue r ↔ (a ≡ b))
Applies sig w op.Add vs v = (a b : ℤ) × (vs ≡ value.Int a ∷ value.Int b ∷ []) × (v ≡ value.Int (a +ℤ b))
Applies sig w op.Sub vs v = (a b : ℤ) × (vs ≡ value.Int a ∷ value.Int b ∷ []) × (v ≡ value.Int (a -ℤ b))
Applies sig w op.Mul vs v = (a b : ℤ) × (vs ≡ value.Int a ∷ value.Int b ∷ []) × (v ≡ value.Int (a *ℤ b))
Applies sig w op.Div vs v =
    (a b q : ℤ) × (vs ≡ value.Int a ∷ value.Int b ∷ []) × (v ≡ value.Int q)
    × (((b ≢ pos 0) × (r : ℤ) × Divides a b q r) ⊎ ((b ≡ pos 0) × DividesByZero w a q))
Applies sig w op.Mod vs v =
    (a b r : ℤ) × (vs ≡ value.Int a ∷ value.Int b ∷ []) × (v ≡ value.Int r)
    × (((b ≢ pos 0) × (q : ℤ) × Divides a b q r) ⊎ ((b ≡ pos 0) × LeavesByZero w a r))
Applies sig w op.Le vs v = (a b : ℤ) × (r : Bool) × (vs ≡ value.Int a ∷ value.Int b ∷ []) × (v ≡ value.Bool r) × (IsTrue r ↔ (a ≤ℤ b))
Applies sig w op.Lt vs v = (a b : ℤ) × (r : Bool) × (vs ≡ value.Int a ∷ value.Int b ∷ []) × (v ≡ value.Bool r) × (IsTrue r ↔ (a <ℤ b))
Applies sig w op.Select vs v =
    (default : Value) × (exceptions : List (ℤ × Value)) × (i : ℤ)
    × (vs ≡ value.Array default exceptions ∷ value.Int i ∷ []) × HasAt default exceptions i v
Applies sig w op.Store vs v =
    (default : Value) × (old new : List (ℤ × Value)) × (i : ℤ) × (u : Value)
    × (vs ≡ value.Array default old ∷ value.Int i ∷ u ∷ []) × (v ≡ value.Array default new) × Stores default old i u new
Applies sig w (op.Const element) vs v = (default : Value) × (vs ≡ default ∷ []) × (v ≡ value.Array default [])
Applies sig w (op.Make d c) vs v = v ≡ value.Data d c vs
Applies sig w (op.Get d c i) vs v =
    (k : ℕ) × (fields : List Value) × (vs ≡ value.Data d k fields ∷ [])
    × (((k ≡ c) × (slice_get fields i ≡ Some v)) ⊎ ((k ≢ c) × SelectsOpen sig w d c i (value.Data d k fields) v))
Applies sig w (op.Is d c) vs v = (k : ℕ) × (fields : List Value) × (vs ≡ value.Data d k fields ∷ []) × (v ≡ value.Bool (nat_eq k c))

module _ {X : Type 0} (has : X → List Value → Value → Type 0) where
  -- the terms have these values, in order
  abbrev pub EachHas : List X → List Value → List Value → Type 0
  EachHas [] env [] = Unit {0}
  EachHas [] env (v ∷ vs) = ⊥
  EachHas (x ∷ xs) env [] = ⊥
  EachHas (x ∷ xs) env (v ∷ vs) = has x env v × EachHas xs env vs

  -- all the terms have the value v
  abbrev pub AllHave : List X → List Value → Value → Type 0
  AllHave [] env v = Unit {0}
  AllHave (x ∷ xs) env v = has x env v × AllHave xs env v

  -- some of the terms has the value v
  abbrev pub SomeHas : List X → List Value → Value → Type 0
  SomeHas [] env v = ⊥
  SomeHas (x ∷ xs) env v = has x env v ⊎ SomeHas xs env v

  -- the first of three terms chooses between the other two, and that one has the value v
  abbrev pub ChoiceHas : List X → List Value → Value → Type 0
  ChoiceHas [] env v = ⊥
  ChoiceHas (c ∷ []) env v = ⊥
  ChoiceHas (c ∷ a ∷ []) env v = ⊥
  ChoiceHas (c ∷ a ∷ b ∷ []) env v = (has c env (value.Bool true) × has a env v) ⊎ (has c env (value.Bool false) × has b env v)
  ChoiceHas (c ∷ a ∷ b ∷ d ∷ more) env v = ⊥

  -- `And` has true where every argument has true, and false where some argument has false; `Or` the
  -- other way round; `Ite` has the value of the branch that the condition chooses
  abbrev pub AppHas : Signature → List WorldEntry → Op → List X → List Value → Value → Type 0
  AppHas sig w op.And xs env v = ((v ≡ value.Bool true) × AllHave xs env (value.Bool true)) ⊎ ((v ≡ value.Bool false) × SomeHas xs env (value.Bool false))
  AppHas sig w op.Or xs env v = ((v ≡ value.Bool false) × AllHave xs env (value.Bool false)) ⊎ ((v ≡ value.Bool true) × SomeHas xs env (value.Bool true))
  AppHas sig w op.Ite xs env v = ChoiceHas xs env v
  AppHas sig w o xs env v = (vs : List Value) × EachHas xs env vs × Applies sig w o vs v

  -- a quantifier over values of the sorts, added at the end of the assignment
  abbrev pub QuantHas : Signature → Kind → List Sort → X → List Value → Value → Type 0
  QuantHas sig kind.Forall sorts x env v =
      ((v ≡ value.Bool true) × ((us : List Value) → AreOf sig us sorts → has x (env ++ us) (value.Bool true)))
      ⊎ ((v ≡ value.Bool false) × (us : List Value) × AreOf sig us sorts × has x (env ++ us) (value.Bool false))
  QuantHas sig kind.Exists sorts x env v =
      ((v ≡ value.Bool true) × (us : List Value) × AreOf sig us sorts × has x (env ++ us) (value.Bool true))
      ⊎ ((v ≡ value.Bool false) × ((us : List Value) → AreOf sig us sorts → has x (env ++ us) (value.Bool false)))

  abbrev pub LevelHas : Signature → List WorldEntry → Meaning → Meaning → Term-F X → List Value → Value → Type 0
  LevelHas sig w preds defs (Term-F.Var i) env v = slice_get env i ≡ Some v
  LevelHas sig w preds defs (Term-F.Num n) env v = v ≡ value.Int n
  LevelHas sig w preds defs (Term-F.Lit b) env v = v ≡ value.Bool b
  LevelHas sig w preds defs (Term-F.App o xs) env v = AppHas sig w o xs env v
  LevelHas sig w preds defs (Term-F.Pred p xs) env v = (vs : List Value) × EachHas xs env vs × preds p vs v
  LevelHas sig w preds defs (Term-F.Quant k sorts x) env v = QuantHas sig k sorts x env v
  LevelHas sig w preds defs (Term-F.Call k xs) env v = (vs : List Value) × EachHas xs env vs × defs k vs v

-- the term has the value v in the world w where `env` lists the variables' values, predicates mean
-- `preds` and definitions `defs`
abbrev pub Has : Signature → List WorldEntry → Meaning → Meaning → Term → List Value → Value → Type 0
Has sig w preds defs = rec-Term (List Value → Value → Type 0) (λ X whole has level. LevelHas has sig w preds defs level)

-- nothing is said of any predicate or definition
abbrev pub silent : Meaning
silent k vs v = ⊥

-- the value of a term of a clause, which has no predicate and no call in it
abbrev pub TermHas : Signature → List WorldEntry → Term → List Value → Value → Type 0
TermHas sig w = Has sig w silent silent
