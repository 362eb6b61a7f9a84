-- The texts of numbers, sorts, terms and atoms.
use Rattle.std.specs.Prelude.{ℕ, suc, ◌+◌, ℤ, pos, negsuc, Bool, true, false, List, [], ◌∷◌, ◌++◌, length, map, Option, Some, None, slice_get, codes, decimal}
use Rattle.chc_sorts.specs.declared.sort.Sort.{Sort, Sort-F, fold-Sort}
use Rattle.chc_sorts.specs.declared.op.Op.{Op}
use Rattle.chc_sorts.specs.declared.op.Op.TheVariants as op
use Rattle.chc_sorts.specs.declared.data.Data.{Data}
use Rattle.chc_sorts.specs.declared.data.Ctor.{Ctor}
use Rattle.chc_sorts.specs.declared.data.Field.{Field}
use Rattle.chc_sorts.specs.Signature.{Signature}
use Rattle.chc_terms.specs.declared.term.Kind.{Kind}
use Rattle.chc_terms.specs.declared.term.Kind.TheVariants as kind
use Rattle.chc_terms.specs.declared.term.Term.{Term, Term-F, fold-Term}
use Rattle.chc_sexpr.specs.Symbols.{symbol_text}
use Rattle.chc_sexpr.specs.Writing.{spaced, joined}

-- what a text takes its names from: datatypes, predicates and definitions by number, and the variables' prefix
pub record Names : Type 0 where
  pub sig : Signature
  pub preds : List (List ℕ)
  pub calls : List (List ℕ)
  pub prefix : List ℕ

-- the name where there is one, and the empty name where there is none
abbrev pub or_empty : Option (List ℕ) → List ℕ
or_empty None = []
or_empty (Some name) = name

-- the name of that number
abbrev pub name_at : List (List ℕ) → ℕ → List ℕ
name_at names i = or_empty (slice_get names i)

abbrev pub data_ctors : Option Data → List Ctor
data_ctors None = []
data_ctors (Some t) = t.ctors

abbrev pub ctor_fields : Option Ctor → List Field
ctor_fields None = []
ctor_fields (Some k) = k.fields

abbrev pub name_of_data : Option Data → List ℕ
name_of_data None = []
name_of_data (Some t) = t.name

abbrev pub name_of_ctor : Option Ctor → List ℕ
name_of_ctor None = []
name_of_ctor (Some k) = k.name

abbrev pub name_of_field : Option Field → List ℕ
name_of_field None = []
name_of_field (Some f) = f.name

-- the names of a datatype, of a constructor and of a selector, by number
abbrev pub data_name : Signature → ℕ → List ℕ
data_name sig d = name_of_data (slice_get sig.datatypes d)

abbrev pub ctor_name : Signature → ℕ → ℕ → List ℕ
ctor_name sig d c = name_of_ctor (slice_get (data_ctors (slice_get sig.datatypes d)) c)

abbrev pub field_name : Signature → ℕ → ℕ → ℕ → List ℕ
field_name sig d c i = name_of_field (slice_get (ctor_fields (slice_get (data_ctors (slice_get sig.datatypes d)) c)) i)

-- the parenthesis before and the one after a head with arguments; a head alone has none
abbrev pub opening : {X : Type 0} → List X → List ℕ
opening [] = []
opening (x ∷ xs) = codes "("

abbrev pub closing : {X : Type 0} → List X → List ℕ
closing [] = []
closing (x ∷ xs) = codes ")"

-- a head on arguments, or alone
abbrev pub applied : List ℕ → List (List ℕ) → List ℕ
applied head ts = opening ts ++ head ++ spaced ts ++ closing ts

-- a number in decimal, a negative one as the minus of its magnitude
abbrev pub number_text : ℤ → List ℕ
number_text (pos n) = decimal n
number_text (negsuc n) = codes "(- " ++ decimal (suc n) ++ codes ")"

abbrev pub truth_text : Bool → List ℕ
truth_text true = codes "true"
truth_text false = codes "false"

abbrev pub sort_step : Signature → Sort-F (List ℕ) → List ℕ
sort_step sig Sort-F.Bool = codes "Bool"
sort_step sig Sort-F.Int = codes "Int"
sort_step sig (Sort-F.Data d) = symbol_text (data_name sig d)
sort_step sig (Sort-F.Array element) = codes "(Array Int " ++ element ++ codes ")"

-- a sort
abbrev pub sort_text : Signature → Sort → List ℕ
sort_text sig = fold-Sort (List ℕ) (sort_step sig)

-- an operator
abbrev pub op_text : Signature → Op → List ℕ
op_text sig op.Not = codes "not"
op_text sig op.And = codes "and"
op_text sig op.Or = codes "or"
op_text sig op.Eq = codes "="
op_text sig op.Ite = codes "ite"
op_text sig op.Add = codes "+"
op_text sig op.Sub = codes "-"
op_text sig op.Mul = codes "*"
op_text sig op.Div = codes "div"
op_text sig op.Mod = codes "mod"
op_text sig op.Le = codes "<="
op_text sig op.Lt = codes "<"
op_text sig op.Select = codes "select"
op_text sig op.Store = codes "store"
op_text sig (op.Const element) = codes "(as const (Array Int " ++ sort_text sig element ++ codes "))"
op_text sig (op.Make d c) = symbol_text (ctor_name sig d c)
op_text sig (op.Get d c i) = symbol_text (field_name sig d c i)
op_text sig (op.Is d c) = codes "(_ is " ++ symbol_text (ctor_name sig d c) ++ codes ")"

abbrev pub kind_text : Kind → List ℕ
kind_text kind.Forall = codes "forall"
kind_text kind.Exists = codes "exists"

-- a variable
abbrev pub variable_text : Names → ℕ → List ℕ
variable_text names i = names.prefix ++ decimal i

-- the binder of a variable
abbrev pub binder_text : Names → ℕ → Sort → List ℕ
binder_text names i s = codes "(" ++ variable_text names i ++ codes " " ++ sort_text names.sig s ++ codes ")"

-- the binders of variables from a number on
abbrev pub binder_texts : Names → ℕ → List Sort → List (List ℕ)
binder_texts names i [] = []
binder_texts names i (s ∷ sorts) = binder_text names i s ∷ binder_texts names (i + 1) sorts

-- the beginning of a quantifier that binds the variables from a number on
abbrev pub quantifier_text : Names → Kind → ℕ → List Sort → List ℕ
quantifier_text names k i sorts = codes "(" ++ kind_text k ++ codes " (" ++ joined (binder_texts names i sorts) ++ codes ") "

-- a body under such a quantifier
abbrev pub quantified : Names → Kind → ℕ → List Sort → List ℕ → List ℕ
quantified names k i sorts body = quantifier_text names k i sorts ++ body ++ codes ")"

-- the texts of terms that stand under so many variables
abbrev pub each_under : ℕ → List (ℕ → List ℕ) → List (List ℕ)
each_under under texts = map (λ text. text under) texts

abbrev pub term_step : Names → Term-F (ℕ → List ℕ) → ℕ → List ℕ
term_step names (Term-F.Var i) under = variable_text names i
term_step names (Term-F.Num n) under = number_text n
term_step names (Term-F.Lit b) under = truth_text b
term_step names (Term-F.App o texts) under = applied (op_text names.sig o) (each_under under texts)
term_step names (Term-F.Pred p texts) under = applied (symbol_text (name_at names.preds p)) (each_under under texts)
term_step names (Term-F.Quant k sorts text) under = quantified names k under sorts (text (under + length sorts))
term_step names (Term-F.Call k texts) under = applied (symbol_text (name_at names.calls k)) (each_under under texts)

-- a term that stands under so many variables; a quantifier in it binds the next numbers
abbrev pub term_text : Names → Term → ℕ → List ℕ
term_text names = fold-Term (ℕ → List ℕ) (term_step names)

-- terms in order
abbrev pub term_texts : Names → ℕ → List Term → List (List ℕ)
term_texts names under ts = each_under under (map (term_text names) ts)
