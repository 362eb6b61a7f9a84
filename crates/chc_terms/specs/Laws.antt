-- What holds of the value of every term.
use Rattle.std.specs.Prelude.{◌≡◌, ℕ, List, [], Some, IsTrue, slice_get}
use Rattle.chc_sorts.specs.declared.sort.Sort.{Sort}
use Rattle.chc_sorts.specs.declared.sort.Sort.TheVariants as sort
use Rattle.chc_sorts.specs.Signature.{Signature}
use Rattle.chc_sorts.specs.WellFounded.{IsWellFounded}
use Rattle.chc_values.specs.declared.value.Value.{Value}
use Rattle.chc_values.specs.declared.world.WorldEntry.{WorldEntry}
use Rattle.chc_values.specs.Values.{IsOf, AreOf}
use Rattle.chc_values.specs.Worlds.{IsWorld}
use Rattle.chc_terms.specs.declared.fun_sort.FunSort.{FunSort}
use Rattle.chc_terms.specs.declared.term.Term.{Term}
use Rattle.chc_terms.specs.Has.{Meaning, Has}
use Rattle.chc_terms.specs.Sorted.{Context, sort_of, is_plain, is_unquantified}

-- of the number k, the meaning gives on values of these sorts at most one value, and one of the result's sort
pub record IsFunctional (sig : Signature) (m : Meaning) (k : ℕ) (params : List Sort) (result : Sort) : Type 0 where
  pub one : (vs : List Value) → AreOf sig vs params → (u v : Value) → m k vs u → m k vs v → u ≡ v
  pub of : (vs : List Value) → AreOf sig vs params → (v : Value) → m k vs v → IsOf sig v result

-- of the number k, the meaning gives a value on all values of these sorts
abbrev pub IsTotal : Signature → Meaning → ℕ → List Sort → Type 0
IsTotal sig m k params = (vs : List Value) → AreOf sig vs params → (v : Value) × m k vs v

-- predicates and definitions mean what their sorts say
pub record Means (cx : Context) (preds defs : Meaning) : Type 0 where
  pub preds_fit : (p : ℕ) (params : List Sort) → slice_get cx.preds p ≡ Some params → IsFunctional cx.sig preds p params sort.Bool
  pub defs_fit : (k : ℕ) (f : FunSort) → slice_get cx.defs k ≡ Some f → IsFunctional cx.sig defs k f.params f.result

-- predicates and definitions have a value everywhere
pub record AreTotal (cx : Context) (preds defs : Meaning) : Type 0 where
  pub preds_total : (p : ℕ) (params : List Sort) → slice_get cx.preds p ≡ Some params → IsTotal cx.sig preds p params
  pub defs_total : (k : ℕ) (f : FunSort) → slice_get cx.defs k ≡ Some f → IsTotal cx.sig defs k f.params

-- a well-sorted term has at most one value, and it is of the term's sort
abbrev pub OneValue : Type 1
OneValue =
    (cx : Context) (w : List WorldEntry) (preds defs : Meaning) → IsWorld cx.sig w → cx.sig.datatypes ≡ [] → Means cx preds defs
    → (t : Term) (vars : List Sort) (s : Sort) → sort_of cx t vars ≡ Some s
    → (env : List Value) → AreOf cx.sig env vars
    → IsFunctional cx.sig (λ k vs v. Has cx.sig w preds defs t vs v) 0 vars s

-- the same under any signature, whether it has datatypes or not
abbrev pub OneValueUnderAny : Type 1
OneValueUnderAny =
    (cx : Context) (w : List WorldEntry) (preds defs : Meaning) → IsWorld cx.sig w → Means cx preds defs
    → (t : Term) (vars : List Sort) (s : Sort) → sort_of cx t vars ≡ Some s
    → IsFunctional cx.sig (λ k vs v. Has cx.sig w preds defs t vs v) 0 vars s

-- a well-sorted term without quantifiers has a value, where its predicates and definitions have
abbrev pub SomeValue : Type 1
SomeValue =
    (cx : Context) (w : List WorldEntry) (preds defs : Meaning) → IsWorld cx.sig w → cx.sig.datatypes ≡ []
    → Means cx preds defs → AreTotal cx preds defs
    → (t : Term) (vars : List Sort) (s : Sort) → sort_of cx t vars ≡ Some s → IsTrue (is_unquantified t)
    → (env : List Value) → AreOf cx.sig env vars → (v : Value) × Has cx.sig w preds defs t env v

-- the same under any signature that is well founded, whether it has datatypes or not
abbrev pub SomeValueUnderAny : Type 1
SomeValueUnderAny =
    (cx : Context) (w : List WorldEntry) (preds defs : Meaning) → IsWorld cx.sig w → IsWellFounded cx.sig
    → Means cx preds defs → AreTotal cx preds defs
    → (t : Term) (vars : List Sort) (s : Sort) → sort_of cx t vars ≡ Some s → IsTrue (is_unquantified t)
    → (env : List Value) → AreOf cx.sig env vars → (v : Value) × Has cx.sig w preds defs t env v

-- the value of a term without quantifiers, predicates and calls doesn't depend on what those mean
abbrev pub SameMeaning : Type 1
SameMeaning =
    (sig : Signature) (w : List WorldEntry) (preds defs others more : Meaning) (t : Term) → IsTrue (is_plain t)
    → (env : List Value) (v : Value) → Has sig w preds defs t env v → Has sig w others more t env v
