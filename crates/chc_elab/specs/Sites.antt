-- What names stand for where a tree is read, and what a reading answers.
use Rattle.std.specs.Prelude.{◌≡◌, ℕ, ◌-◌, Bool, true, false, nat_lt, cond, List, [], ◌∷◌, Option, Some, None, Result, Ok, Err, codes, ⊤}
use Rattle.std.specs.Option.{option_map, option_or, option_and_then}
use Rattle.std.specs.Str.{bytes_eq}
use Rattle.chc_sorts.specs.declared.sort.Sort.{Sort}
use Rattle.chc_sorts.specs.declared.sort.Sort.TheVariants as sort
use Rattle.chc_sorts.specs.declared.op.Op.TheVariants as op
use Rattle.chc_sorts.specs.declared.meaning.Meaning.{Meaning}
use Rattle.chc_sorts.specs.declared.meaning.Meaning.TheVariants as meaning
use Rattle.chc_sorts.specs.Signature.{Signature}
use Rattle.chc_sorts.specs.Names.{look_up}
use Rattle.chc_sorts.specs.Functions.{meaning_of}
use Rattle.chc_sexpr.specs.declared.fault.Fault.{Fault}
use Rattle.chc_sexpr.specs.declared.fault.TextFault.{TextFault}
use Rattle.chc_sexpr.specs.declared.fault.TextErr.{TextErr}
use Rattle.chc_sexpr.specs.declared.fault.TextErr.TheVariants as text_err
use Rattle.chc_terms.specs.declared.fun_sort.FunSort.{FunSort}
use Rattle.chc_terms.specs.declared.term.Term.{Term}
use Rattle.chc_terms.specs.declared.term.Term.TheVariants as term
use Rattle.chc_terms.specs.Counts.{size, depth}
use Rattle.chc_terms.specs.Shifted.{shifted}
use Rattle.chc_terms.specs.Sorted.{fields_of}
use Rattle.chc_elab.specs.declared.typed.Typed.{Typed}
use Rattle.chc_elab.specs.declared.symbols.Symbol.{Symbol}
use Rattle.chc_elab.specs.declared.symbols.Symbol.TheVariants as symbol

-- a name that stands for a term, which is under the first `under` variables
pub record Local : Type 0 where
  pub name : List ℕ
  pub value : Typed
  pub under : ℕ

-- where a tree stands: the names that binders and lets gave, the outermost first, and how many variables are bound
pub record Site : Type 0 where
  pub locals : List Local
  pub variables : ℕ

-- what is declared: datatypes, and predicates and definitions by name
pub record Setting : Type 0 where
  pub sig : Signature
  pub symbols : List (List ℕ × Symbol)

-- what is read, or the first fault
abbrev pub Reading : Type 0 → Type 0
Reading A = Result A TextFault

-- a fault at a place, about a name
abbrev pub faulty : {A : Type 0} → ℕ → Fault → List ℕ → Reading A
faulty place fault name = Err (record { place = place; fault = fault; name = name })

-- what is read from what was read first, where that has no fault
infixl 10 ◌>>>◌
abbrev pub ◌>>>◌ : {A B : Type 0} → Reading A → (A → Reading B) → Reading B
(Ok a) >>> next = next a
(Err fault) >>> next = Err fault

-- what is there, or that fault
abbrev pub or_fault : {A : Type 0} → Reading A → Option A → Reading A
or_fault fault None = fault
or_fault fault (Some a) = Ok a

-- the answer is the reading, or memory was refused
abbrev pub Tells : {A : Type 0} → Result A TextErr → Reading A → Type 0
Tells (Ok a) reading = Ok a ≡ reading
Tells (Err (text_err.At fault)) reading = Err fault ≡ reading
Tells (Err text_err.NoMemory) reading = ⊤

-- the innermost of the locals that has the name
abbrev pub local_named : List Local → List ℕ → Option Local
local_named [] name = None
local_named (l ∷ ls) name = option_or (local_named ls name) (cond (bytes_eq l.name name) (Some l) None)

-- the term of a local, moved under so many variables
abbrev pub moved_under : ℕ → Local → Typed
moved_under variables l = record { term = shifted l.value.term l.under (variables - l.under); sort = l.value.sort }

-- `true` or `false`
abbrev pub literal_named : List ℕ → Option Typed
literal_named name =
    cond (bytes_eq name (codes "true")) (Some (record { term = term.Lit true; sort = sort.Bool }))
    (cond (bytes_eq name (codes "false")) (Some (record { term = term.Lit false; sort = sort.Bool })) None)

-- the constructor, where it has no fields
abbrev pub bare_constructor : ℕ → ℕ → Option (List Sort) → Option Typed
bare_constructor d c None = None
bare_constructor d c (Some []) = Some (record { term = term.App (op.Make d c) []; sort = sort.Data d })
bare_constructor d c (Some (s ∷ ss)) = None

-- what a name of the signature stands for alone: a constructor without fields
abbrev pub constant_meant : Signature → Meaning → Option Typed
constant_meant sig (meaning.Make d c) = bare_constructor d c (fields_of sig d c)
constant_meant sig (meaning.Get d c i) = None

-- the term, where there are no parameters
abbrev pub without_parameters : List Sort → Typed → Option Typed
without_parameters [] t = Some t
without_parameters (s ∷ ss) t = None

-- what a declared name stands for alone: a predicate without positions, or a definition without parameters
abbrev pub constant_declared : Symbol → Option Typed
constant_declared (symbol.Pred p sorts) = without_parameters sorts (record { term = term.Pred p []; sort = sort.Bool })
constant_declared (symbol.Def k f) = without_parameters f.params (record { term = term.Call k []; sort = f.result })

-- what a name stands for alone, but for locals and truth values: a constructor, predicate or definition without arguments
abbrev pub constant_named : Setting → List ℕ → Option Typed
constant_named setting name =
    option_or (option_and_then (constant_meant setting.sig) (meaning_of setting.sig name))
    (option_and_then constant_declared (look_up setting.symbols name))

-- what a lone symbol stands for: the innermost local of the name, else `true` or `false`, else a constructor, predicate
-- or definition without arguments
abbrev pub lone_symbol : Setting → Site → List ℕ → Option Typed
lone_symbol setting site name =
    option_or (option_map (moved_under site.variables) (local_named site.locals name))
    (option_or (literal_named name) (constant_named setting name))
