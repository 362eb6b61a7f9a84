-- The texts of values.
use Rattle.std.specs.Prelude.{ℕ, zero, suc, ℤ, List, [], ◌∷◌, ◌++◌, map, codes}
use Rattle.chc_sorts.specs.declared.sort.Sort.{Sort}
use Rattle.chc_sorts.specs.declared.sort.Sort.TheVariants as sort
use Rattle.chc_sorts.specs.Signature.{Signature}
use Rattle.chc_sorts.specs.declared.op.Op.TheVariants as op
use Rattle.chc_values.specs.declared.value.Value.{Value, Value-F, fold-Value}
use Rattle.chc_print.specs.Texts.{applied, number_text, truth_text, op_text}

-- a value as it is written: its sort, which it tells itself, and its text
pub record Written : Type 0 where
  pub sort : Sort
  pub text : List ℕ

-- what stands behind the array in a store: the index and what is stored there
abbrev pub store_ending : ℤ × List ℕ → List ℕ
store_ending e = codes " " ++ number_text e.0 ++ codes " " ++ e.1 ++ codes ")"

-- an array with one more element stored at an index
abbrev pub store_text : List ℕ → ℤ × List ℕ → List ℕ
store_text array e = codes "(store " ++ array ++ store_ending e

-- an array with these stored in order, the first innermost
abbrev pub stores_text : List ℕ → List (ℤ × List ℕ) → List ℕ
stores_text array [] = array
stores_text array (e ∷ es) = stores_text (store_text array e) es

-- what stands before the array in so many stores, and behind it
abbrev pub store_openings : ℕ → List ℕ
store_openings zero = []
store_openings (suc n) = store_openings n ++ codes "(store "

abbrev pub store_endings : List (ℤ × List ℕ) → List ℕ
store_endings [] = []
store_endings (e ∷ es) = store_ending e ++ store_endings es

-- the constant array of a value
abbrev pub constant_text : Signature → Written → List ℕ
constant_text sig default = codes "(" ++ op_text sig (op.Const default.sort) ++ codes " " ++ default.text ++ codes ")"

abbrev pub texts_of : List Written → List (List ℕ)
texts_of vs = map (λ (v : Written). v.text) vs

abbrev pub entry_texts_of : List (ℤ × Written) → List (ℤ × List ℕ)
entry_texts_of es = map (λ (e : ℤ × Written). (e.0, e.1.text)) es

abbrev pub written_step : Signature → Value-F Written → Written
written_step sig (Value-F.Bool b) = record { sort = sort.Bool; text = truth_text b }
written_step sig (Value-F.Int n) = record { sort = sort.Int; text = number_text n }
written_step sig (Value-F.Data d c fields) = record { sort = sort.Data d; text = applied (op_text sig (op.Make d c)) (texts_of fields) }
written_step sig (Value-F.Array default exceptions) =
    record { sort = sort.Array default.sort; text = stores_text (constant_text sig default) (entry_texts_of exceptions) }

-- a value as it is written: literals and constructors as in terms, and an array as stores over its constant array, in the
-- order of its exceptions, of which the lowest index comes first
abbrev pub written : Signature → Value → Written
written sig = fold-Value Written (written_step sig)

abbrev pub value_sort : Signature → Value → Sort
value_sort sig v = (written sig v).sort

abbrev pub value_text : Signature → Value → List ℕ
value_text sig v = (written sig v).text

-- values in order
abbrev pub value_texts : Signature → List Value → List (List ℕ)
value_texts sig vs = texts_of (map (written sig) vs)

-- exceptions in order, each with its index
abbrev pub entry_texts : Signature → List (ℤ × Value) → List (ℤ × List ℕ)
entry_texts sig es = entry_texts_of (map (λ (e : ℤ × Value). (e.0, written sig e.1)) es)
