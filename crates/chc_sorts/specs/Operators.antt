-- The operators as they are written.
use Rattle.std.specs.Prelude.{◌≡◌, ℕ, List, [], ◌∷◌, Option, Some, None, codes, slice_get}
use Rattle.std.specs.Option.{option_and_then}
use Rattle.chc_sorts.specs.declared.op.Op.{Op}
use Rattle.chc_sorts.specs.declared.op.Op.TheVariants as op
use Rattle.chc_sorts.specs.declared.op_table.ReadOp.{ReadOp}
use Rattle.chc_sorts.specs.declared.op_table.ReadOp.TheVariants as read
use Rattle.chc_sorts.specs.Names.{look_up}

-- the names that are read as operators, and what each is read as
abbrev pub operator_rows : List (List ℕ × ReadOp)
operator_rows =
    (codes "not", read.Not) ∷ (codes "=>", read.Implies) ∷ (codes "and", read.And) ∷ (codes "or", read.Or) ∷ (codes "xor", read.Xor)
    ∷ (codes "=", read.Eq) ∷ (codes "distinct", read.Distinct) ∷ (codes "ite", read.Ite) ∷ (codes "-", read.Sub) ∷ (codes "+", read.Add)
    ∷ (codes "*", read.Mul) ∷ (codes "div", read.Div) ∷ (codes "mod", read.Mod) ∷ (codes "abs", read.Abs) ∷ (codes "<=", read.Le)
    ∷ (codes "<", read.Lt) ∷ (codes ">=", read.Ge) ∷ (codes ">", read.Gt) ∷ (codes "select", read.Select) ∷ (codes "store", read.Store) ∷ []

-- the operator that the name is read as
abbrev pub op_named : List ℕ → Option ReadOp
op_named name = look_up operator_rows name

-- the name that an operator is written with; constant arrays, constructors, selectors and testers have other forms
abbrev pub written_name : Op → Option (List ℕ)
written_name op.Not = Some (codes "not")
written_name op.And = Some (codes "and")
written_name op.Or = Some (codes "or")
written_name op.Eq = Some (codes "=")
written_name op.Ite = Some (codes "ite")
written_name op.Add = Some (codes "+")
written_name op.Sub = Some (codes "-")
written_name op.Mul = Some (codes "*")
written_name op.Div = Some (codes "div")
written_name op.Mod = Some (codes "mod")
written_name op.Le = Some (codes "<=")
written_name op.Lt = Some (codes "<")
written_name op.Select = Some (codes "select")
written_name op.Store = Some (codes "store")
written_name (op.Const element) = None
written_name (op.Make d c) = None
written_name (op.Get d c i) = None
written_name (op.Is d c) = None

-- rows at two places have two names
abbrev pub NamesDiffer : List (List ℕ × ReadOp) → Type 0
NamesDiffer rows = (i j : ℕ) (a b : List ℕ × ReadOp) → slice_get rows i ≡ Some a → slice_get rows j ≡ Some b → a.0 ≡ b.0 → i ≡ j

-- what is read where an operator of terms is written by its name
abbrev pub read_for : Op → Option ReadOp
read_for op.Not = Some read.Not
read_for op.And = Some read.And
read_for op.Or = Some read.Or
read_for op.Eq = Some read.Eq
read_for op.Ite = Some read.Ite
read_for op.Add = Some read.Add
read_for op.Sub = Some read.Sub
read_for op.Mul = Some read.Mul
read_for op.Div = Some read.Div
read_for op.Mod = Some read.Mod
read_for op.Le = Some read.Le
read_for op.Lt = Some read.Lt
read_for op.Select = Some read.Select
read_for op.Store = Some read.Store
read_for (op.Const element) = None
read_for (op.Make d c) = None
read_for (op.Get d c i) = None
read_for (op.Is d c) = None

-- each written name is read as its own operator
abbrev pub ReadAgain : Type 0
ReadAgain = (o : Op) → option_and_then op_named (written_name o) ≡ read_for o
