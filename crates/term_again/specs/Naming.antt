-- How the names of a text stand for what they name, and how variables are named.
use Rattle.std.specs.Prelude.{◌≡◌, ℕ, ◌+◌, true, false, not, IsTrue, List, [], ◌∷◌, ◌++◌, Some, None, slice_get, decimal}
use Rattle.std.specs.List.{list_all}
use Rattle.chc_sorts.specs.declared.sort.Sort.{Sort}
use Rattle.chc_sorts.specs.declared.sort.Sort.TheVariants as sort
use Rattle.chc_sorts.specs.declared.data.Data.{Data}
use Rattle.chc_sorts.specs.declared.data.Ctor.{Ctor}
use Rattle.chc_sorts.specs.declared.data.Field.{Field}
use Rattle.chc_sorts.specs.declared.meaning.Meaning.{Meaning}
use Rattle.chc_sorts.specs.declared.meaning.Meaning.TheVariants as meaning
use Rattle.chc_sorts.specs.Signature.{Signature}
use Rattle.chc_sorts.specs.Made.{CanBeMade}
use Rattle.chc_sorts.specs.Names.{has_name, look_up}
use Rattle.chc_sorts.specs.Groups.{fixed_sorts, fixed_functions}
use Rattle.chc_sorts.specs.Functions.{meaning_of, function_names}
use Rattle.chc_sorts.specs.Named.{datatype_names, sort_named}
use Rattle.chc_sorts.specs.Operators.{op_named}
use Rattle.chc_sexpr.specs.Spelling.{is_quotable}
use Rattle.chc_terms.specs.declared.fun_sort.FunSort.{FunSort}
use Rattle.chc_terms.specs.Sorted.{Context}
use Rattle.chc_state.specs.Names.{is_writable_name, signature_names}
use Rattle.chc_state.specs.States.{StateView}
use Rattle.chc_print.specs.Prefix.{begins_numbered, used_names, IsVariablePrefix}
use Rattle.chc_print.specs.Texts.{name_at}
use Rattle.chc_elab.specs.declared.symbols.Symbol.{Symbol}
use Rattle.chc_elab.specs.declared.symbols.Symbol.TheVariants as symbol
use Rattle.chc_elab.specs.Apart.{are_apart}
use Rattle.chc_elab.specs.Sites.{Setting, Site, literal_named}
use Rattle.chc_elab.specs.Binders.{outer_site}

-- a name that can stand between bars and means this sort among the datatypes
pub record NamesSort (sig : Signature) (d : ℕ) (name : List ℕ) : Type 0 where
  pub quotable : IsTrue (list_all is_quotable name)
  pub found : sort_named (datatype_names sig) name ≡ Some (sort.Data d)

-- a name that can stand between bars, that is no operator's, and that means this constructor or selector
pub record NamesFunction (sig : Signature) (what : Meaning) (name : List ℕ) : Type 0 where
  pub quotable : IsTrue (list_all is_quotable name)
  pub plain : op_named name ≡ None
  pub found : meaning_of sig name ≡ Some what

-- each datatype of the signature that is read stands in the one that names are taken from, at its number, and each name
-- of it means what it names; no name of a constructor is a truth value or begins like a variable
pub record NamesAreRead (written read : Signature) (prefix : List ℕ) : Type 0 where
  pub same : (d : ℕ) (t : Data) → slice_get read.datatypes d ≡ Some t → slice_get written.datatypes d ≡ Some t
  pub datatype : (d : ℕ) (t : Data) → slice_get read.datatypes d ≡ Some t → NamesSort read d t.name
  pub constructor : (d c : ℕ) (t : Data) (k : Ctor) → slice_get read.datatypes d ≡ Some t → slice_get t.ctors c ≡ Some k → NamesFunction read (meaning.Make d c) k.name
  pub untrue : (d c : ℕ) (t : Data) (k : Ctor) → slice_get read.datatypes d ≡ Some t → slice_get t.ctors c ≡ Some k → literal_named k.name ≡ None
  pub unnumbered : (d c : ℕ) (t : Data) (k : Ctor) → slice_get read.datatypes d ≡ Some t → slice_get t.ctors c ≡ Some k → begins_numbered prefix k.name ≡ false
  pub selector : (d c i : ℕ) (t : Data) (k : Ctor) (f : Field) → slice_get read.datatypes d ≡ Some t → slice_get t.ctors c ≡ Some k → slice_get k.fields i ≡ Some f
      → NamesFunction read (meaning.Get d c i) f.name

-- a name that can stand between bars, that is no operator's, truth value's, constructor's or selector's, that doesn't begin
-- like a variable, and under which this predicate or definition is declared
pub record NamesSymbol (setting : Setting) (prefix : List ℕ) (what : Symbol) (name : List ℕ) : Type 0 where
  pub quotable : IsTrue (list_all is_quotable name)
  pub plain : op_named name ≡ None
  pub untrue : literal_named name ≡ None
  pub meaningless : meaning_of setting.sig name ≡ None
  pub unnumbered : begins_numbered prefix name ≡ false
  pub found : look_up setting.symbols name ≡ Some what

-- such a name of a predicate on these sorts
abbrev pub NamesPredicate : Setting → List ℕ → ℕ → List Sort → List ℕ → Type 0
NamesPredicate setting prefix p sorts name = NamesSymbol setting prefix (symbol.Pred p sorts) name

-- such a name of a definition of these sorts
abbrev pub NamesCall : Setting → List ℕ → ℕ → FunSort → List ℕ → Type 0
NamesCall setting prefix k f name = NamesSymbol setting prefix (symbol.Def k f) name

-- the names of variables of these sorts: the prefix and their numbers, from a number on
abbrev pub variable_names : List ℕ → ℕ → List Sort → List (List ℕ)
variable_names prefix n [] = []
variable_names prefix n (s ∷ sorts) = (prefix ++ decimal n) ∷ variable_names prefix (n + 1) sorts

-- the site of variables of these sorts, which bear those names
abbrev pub numbered_site : List ℕ → List Sort → Site
numbered_site prefix sorts = outer_site (variable_names prefix 0 sorts) sorts

-- the names of datatypes differ, and none is that of another sort; the names of constructors and selectors differ, and none
-- is a truth value or an operator
pub record AreFresh (sig : Signature) : Type 0 where
  pub sorts_apart : are_apart (datatype_names sig) ≡ true
  pub sorts_free : list_all (λ name. not (has_name fixed_sorts name)) (datatype_names sig) ≡ true
  pub functions_apart : are_apart (function_names sig) ≡ true
  pub functions_free : list_all (λ name. not (has_name fixed_functions name)) (function_names sig) ≡ true

-- the names of every signature that groups make differ, and none is fixed
abbrev pub MadeIsFresh : Type 0
MadeIsFresh = (sig : Signature) → CanBeMade sig → AreFresh sig

-- what a text of the state's terms is read under: datatypes that are the state's first, whose names differ and can be
-- written, and a prefix for variables that no name in use begins with
pub record AreNamedFor (s : StateView) (preds : List (List ℕ)) (prefix : List ℕ) (setting : Setting) : Type 0 where
  pub fresh : AreFresh s.sig
  pub writable : list_all is_writable_name (signature_names s.sig) ≡ true
  pub variables : IsVariablePrefix (used_names s.sig preds) prefix
  pub more : List Data
  pub front : s.sig.datatypes ≡ setting.sig.datatypes ++ more

-- a context over the state's datatypes, each of whose predicates and definitions stands under the name of its number
pub record IsNamedContext (s : StateView) (all calls : List (List ℕ)) (prefix : List ℕ) (setting : Setting) (cx : Context) : Type 0 where
  pub sig : cx.sig ≡ s.sig
  pub predicate : (p : ℕ) (sorts : List Sort) → slice_get cx.preds p ≡ Some sorts → NamesPredicate setting prefix p sorts (name_at all p)
  pub definition : (k : ℕ) (f : FunSort) → slice_get cx.defs k ≡ Some f → NamesCall setting prefix k f (name_at calls k)
