-- What is kept of a draft: its assertions are well sorted and fit, and say its clauses; its names can be those of a state.
use Rattle.std.specs.Prelude.{◌≡◌, ℕ, Bool, true, not, ◌&&◌, List, [], length, sum_by, count_by, map, Some, Ok}
use Rattle.std.specs.List.{AllByRecursion, list_all}
use Rattle.chc_sorts.specs.declared.sort.Sort.TheVariants as sort
use Rattle.chc_sorts.specs.declared.spec.FieldSpec.{FieldSpec}
use Rattle.chc_sorts.specs.declared.spec.CtorSpec.{CtorSpec}
use Rattle.chc_sorts.specs.declared.spec.DataSpec.{DataSpec}
use Rattle.chc_sorts.specs.Signature.{Signature}
use Rattle.chc_sorts.specs.Names.{has_name}
use Rattle.chc_sorts.specs.Functions.{function_names}
use Rattle.chc_terms.specs.declared.term.Term.{Term}
use Rattle.chc_terms.specs.Sorted.{sort_of}
use Rattle.chc_elab.specs.Apart.{are_apart}
use Rattle.chc_state.specs.declared.clause.Clause.{Clause}
use Rattle.chc_state.specs.declared.clause.PredDecl.{PredDecl}
use Rattle.chc_state.specs.Limits.{charge, is_query}
use Rattle.chc_state.specs.Names.{is_fixed_name, is_writable_name, signature_names}
use Rattle.chc_state.specs.Sorts.{positions_fit}
use Rattle.chc_state.specs.WellFormed.{term_fits}
use Rattle.chc_script.specs.Assertions.{IsAt}
use Rattle.chc_script.specs.Drafts.{PredicatesView, AssertedView, ArePredicates, AreAsserted, symbols_of}
use Rattle.chc_script.specs.Horn.{clause_of}
use Rattle.chc_script.specs.HornLaws.{script_context, SaysClause}
use Rattle.chc_script.specs.Scripts.{ScriptView}

-- the term is of sort Bool over the datatypes and the predicates
abbrev pub IsCondition : Signature → List PredDecl → Term → Type 0
IsCondition sig decls t = sort_of (script_context sig decls) t [] ≡ Some sort.Bool

-- whether the name is neither a fixed one nor a constructor's or selector's
abbrev pub is_free : Signature → List ℕ → Bool
is_free sig name = not (is_fixed_name name) && not (has_name (function_names sig) name)

-- whether the names of the constructor and its selectors can be written
abbrev pub is_writable_ctor : CtorSpec → Bool
is_writable_ctor c = is_writable_name c.name && list_all (λ (f : FieldSpec). is_writable_name f.name) c.fields

-- whether the names of the datatype, its constructors and its selectors can be written
abbrev pub is_writable_spec : DataSpec → Bool
is_writable_spec d = is_writable_name d.name && list_all is_writable_ctor d.ctors

abbrev pub are_writable_specs : List DataSpec → Bool
are_writable_specs group = list_all is_writable_spec group

-- the names can be those of predicates over the signature: none stands twice, none is another function's, and all can be
-- written, as can those of the signature
pub record AreNamed (sig : Signature) (names : List (List ℕ)) : Type 0 where
  pub apart : are_apart names ≡ true
  pub free : list_all (is_free sig) names ≡ true
  pub writable : list_all is_writable_name names ≡ true
  pub signature_writable : list_all is_writable_name (signature_names sig) ≡ true

-- what is kept of predicates and of assertions is kept here; the sorts of positions fit, the assertions are well sorted and
-- fit, their clauses are those that they say, and the names can be those of a state
pub record IsDrafted (sig : Signature) (p : PredicatesView) (a : AssertedView) : Type 0 where
  pub declared : ArePredicates p (symbols_of p)
  pub held : AreAsserted a (sum_by charge a.clauses) (count_by is_query a.clauses)
  pub fits : positions_fit sig p.decls ≡ true
  pub sorted : AllByRecursion (IsCondition sig p.decls) a.assertions
  pub fitting : list_all (term_fits sig) a.assertions ≡ true
  pub said : map clause_of a.assertions ≡ map (λ (c : Clause). Ok c) a.clauses
  pub named : AreNamed sig p.names

-- each assertion of a script is well sorted, and its clause is the one that it says
pub record SaysScript (X : ScriptView) : Type 0 where
  pub counts : length X.assertions ≡ length X.state.clauses
  pub says : (k : ℕ) (assertion : Term) (clause : Clause) → IsAt X k assertion clause → SaysClause X.state assertion clause
