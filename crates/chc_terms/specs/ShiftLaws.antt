-- What holds of every term whose variables make room for others.
use Rattle.std.specs.Prelude.{◌≡◌, ◌↔◌, ℕ, Bool, IsTrue, List, ◌++◌, length}
use Rattle.chc_sorts.specs.declared.sort.Sort.{Sort}
use Rattle.chc_sorts.specs.Signature.{Signature}
use Rattle.chc_values.specs.declared.value.Value.{Value}
use Rattle.chc_values.specs.declared.world.WorldEntry.{WorldEntry}
use Rattle.chc_terms.specs.declared.term.Term.{Term}
use Rattle.chc_terms.specs.Counts.{size, depth}
use Rattle.chc_terms.specs.Has.{Meaning, Has}
use Rattle.chc_terms.specs.Shifted.{shifted}
use Rattle.chc_terms.specs.Sorted.{Context, sort_of}

-- it has the values that it had, where the values of the new variables stand before the number `from`
abbrev pub ShiftKeepsValues : Type 1
ShiftKeepsValues =
    (sig : Signature) (w : List WorldEntry) (preds defs : Meaning) (t : Term) (from up : ℕ)
    (before new after : List Value) → length before ≡ from → length new ≡ up
    → (v : Value) → Has sig w preds defs t (before ++ after) v ↔ Has sig w preds defs (shifted t from up) (before ++ new ++ after) v

-- it has the sort that it had, where the sorts of the new variables stand there
abbrev pub ShiftKeepsSort : Type 0
ShiftKeepsSort =
    (cx : Context) (t : Term) (from up : ℕ) (before new after : List Sort) → length before ≡ from → length new ≡ up
    → sort_of cx (shifted t from up) (before ++ new ++ after) ≡ sort_of cx t (before ++ after)

-- it has the size and the depth that it had
abbrev pub ShiftKeepsCounts : Type 0
ShiftKeepsCounts = (t : Term) (from up : ℕ) → (size (shifted t from up) ≡ size t) × (depth (shifted t from up) ≡ depth t)

-- what predicates or definitions give, as a test of their number, their arguments' values and a value
abbrev pub Giving : Type 0
Giving = ℕ → List Value → Value → Bool

abbrev pub as_tested : Giving → Meaning
as_tested gives k vs v = IsTrue (gives k vs v)

-- the term s is t with room for `up` new variables before the number `from`: in every world, whatever predicates and
-- definitions give, it has the values that t has without the new variables' values; and it has the sort, the size and the depth of t
pub record KeepsMeaning (t s : Term) (from up : ℕ) : Type 0 where
  pub same_values : (sig : Signature) (w : List WorldEntry) (preds defs : Giving) (before new after : List Value) → length before ≡ from → length new ≡ up
      → (v : Value) → Has sig w (as_tested preds) (as_tested defs) t (before ++ after) v ↔ Has sig w (as_tested preds) (as_tested defs) s (before ++ new ++ after) v
  pub same_sort : (cx : Context) (before new after : List Sort) → length before ≡ from → length new ≡ up
      → sort_of cx s (before ++ new ++ after) ≡ sort_of cx t (before ++ after)
  pub same_size : size s ≡ size t
  pub same_depth : depth s ≡ depth t
