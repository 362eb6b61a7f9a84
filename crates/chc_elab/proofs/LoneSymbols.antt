-- What holds of locals and of declared names holds of what a lone symbol stands for.
use Rattle.std.proofs.Common.{◌≡◌, ◌∙◌, sym, ap, subst, refl, ℕ, Bool, true, false, cond, List, [], ◌∷◌, Option, Some, None, codes}
use Rattle.std.specs.List.{All}
use Rattle.std.specs.Option.{option_map, option_or, option_and_then}
use Rattle.std.specs.Str.{bytes_eq}
use Rattle.chc_sorts.specs.declared.meaning.Meaning.{Meaning}
use Rattle.chc_sorts.specs.declared.meaning.Meaning.TheVariants as meaning
use Rattle.chc_sorts.specs.declared.op.Op.TheVariants as op
use Rattle.chc_sorts.specs.declared.sort.Sort.{Sort}
use Rattle.chc_sorts.specs.declared.sort.Sort.TheVariants as sort
use Rattle.chc_sorts.specs.Functions.{meaning_of}
use Rattle.chc_sorts.specs.Names.{look_up}
use Rattle.chc_terms.specs.declared.fun_sort.FunSort.{FunSort}
use Rattle.chc_terms.specs.declared.term.Term.TheVariants as term
use Rattle.chc_terms.specs.Sorted.{fields_of}
use Rattle.chc_elab.specs.declared.symbols.Symbol.{Symbol}
use Rattle.chc_elab.specs.declared.symbols.Symbol.TheVariants as symbol
use Rattle.chc_elab.specs.declared.typed.Typed.{Typed}
use Rattle.chc_elab.specs.Sites.{Local, Site, Setting, local_named, moved_under, literal_named, constant_named, constant_meant, bare_constructor, constant_declared, without_parameters, lone_symbol}
use Rattle.chc_elab.proofs.Readings.{some_same, none_some}
use Rattle.chc_elab.proofs.Room.{named_holds}

-- a truth value, and what constructors, predicates and definitions without arguments give
abbrev pub literal_value : Bool → Typed
literal_value b = record { term = term.Lit b; sort = sort.Bool }

abbrev pub constructor_value : ℕ → ℕ → Typed
constructor_value d c = record { term = term.App (op.Make d c) []; sort = sort.Data d }

abbrev pub predicate_value : ℕ → Typed
predicate_value p = record { term = term.Pred p []; sort = sort.Bool }

abbrev pub definition_value : ℕ → Sort → Typed
definition_value k s = record { term = term.Call k []; sort = s }

-- what holds of all of these
pub record HoldsAlone (setting : Setting) (P : Typed → Type 0) : Type 0 where
  pub literal : (b : Bool) → P (literal_value b)
  pub constructor : (d c : ℕ) → fields_of setting.sig d c ≡ Some [] → P (constructor_value d c)
  pub predicate : (name : List ℕ) (p : ℕ) (sorts : List Sort) → look_up setting.symbols name ≡ Some (symbol.Pred p sorts) → sorts ≡ [] → P (predicate_value p)
  pub definition : (name : List ℕ) (k : ℕ) (f : FunSort) → look_up setting.symbols name ≡ Some (symbol.Def k f) → f.params ≡ [] → P (definition_value k f.result)

module _ (setting : Setting) (P : Typed → Type 0) (holds : HoldsAlone setting P) where
  -- where there is something, it holds of it
  abbrev WhereThere : Option Typed → Type 0
  WhereThere o = (t : Typed) → o ≡ Some t → P t

  no_value : WhereThere None
  no_value t e = absurd (none_some t e)

  one_value : (v : Typed) → P v → WhereThere (Some v)
  one_value v p t e = subst P (some_same v t e) p

  either_value : (o q : Option Typed) → WhereThere o → WhereThere q → WhereThere (option_or o q)
  either_value None q f g = g
  either_value (Some v) q f g = f

  of_literal : (name : List ℕ) → WhereThere (literal_named name)
  of_literal name = by (bytes_eq name (codes "true")) (bytes_eq name (codes "false"))
    where
      by : (b c : Bool) → WhereThere (cond b (Some (literal_value true)) (cond c (Some (literal_value false)) None))
      by true c = one_value (literal_value true) (holds.literal true)
      by false true = one_value (literal_value false) (holds.literal false)
      by false false = no_value

  of_constructor : (d c : ℕ) (o : Option (List Sort)) → fields_of setting.sig d c ≡ o → WhereThere (bare_constructor d c o)
  of_constructor d c None is = no_value
  of_constructor d c (Some []) is = one_value (constructor_value d c) (holds.constructor d c is)
  of_constructor d c (Some (s ∷ ss)) is = no_value

  of_meaning : (o : Option Meaning) → WhereThere (option_and_then (constant_meant setting.sig) o)
  of_meaning None = no_value
  of_meaning (Some (meaning.Make d c)) = of_constructor d c (fields_of setting.sig d c) refl
  of_meaning (Some (meaning.Get d c i)) = no_value

  of_parameters : (sorts : List Sort) (v : Typed) → (sorts ≡ [] → P v) → WhereThere (without_parameters sorts v)
  of_parameters [] v f = one_value v (f refl)
  of_parameters (s ∷ ss) v f = no_value

  of_symbol : (name : List ℕ) (o : Option Symbol) → look_up setting.symbols name ≡ o → WhereThere (option_and_then constant_declared o)
  of_symbol name None is = no_value
  of_symbol name (Some (symbol.Pred p sorts)) is = of_parameters sorts (predicate_value p) (holds.predicate name p sorts is)
  of_symbol name (Some (symbol.Def k f)) is = of_parameters f.params (definition_value k f.result) (holds.definition name k f is)

  of_local : (site : Site) → All (λ (l : Local). P (moved_under site.variables l)) site.locals → (name : List ℕ) (o : Option Local) → local_named site.locals name ≡ o
      → WhereThere (option_map (moved_under site.variables) o)
  of_local site all name None is = no_value
  of_local site all name (Some l) is =
      one_value (moved_under site.variables l) (named_holds (λ (l : Local). P (moved_under site.variables l)) site.locals name l all is)

  pub lone_holds : (site : Site) → All (λ (l : Local). P (moved_under site.variables l)) site.locals → (name : List ℕ) (t : Typed) → lone_symbol setting site name ≡ Some t → P t
  lone_holds site all name =
      let meant = option_and_then (constant_meant setting.sig) (meaning_of setting.sig name) in
      let declared = option_and_then constant_declared (look_up setting.symbols name) in
      either_value (option_map (moved_under site.variables) (local_named site.locals name)) (option_or (literal_named name) (constant_named setting name))
      (of_local site all name (local_named site.locals name) refl)
      (either_value (literal_named name) (constant_named setting name) (of_literal name)
      (either_value meant declared (of_meaning (meaning_of setting.sig name)) (of_symbol name (look_up setting.symbols name) refl)))
