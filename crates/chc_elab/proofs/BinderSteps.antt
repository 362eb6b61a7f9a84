-- Steps of binding names.
use Rattle.std.proofs.Common.{◌≡◌, ◌<◌, ◌+◌, ◌++◌, ◌∷◌, [], List, ℕ, length, map, refl, ap, sym, ◌∙◌, cond, Bool, false, true, Some}
use Rattle.chc_sorts.specs.declared.sort.Sort.{Sort}
use Rattle.chc_sorts.specs.Names.{has_name}
use Rattle.chc_terms.specs.declared.term.Term.TheVariants as term
use Rattle.chc_sexpr.specs.declared.fault.Fault.TheVariants.{NameTaken}
use Rattle.chc_elab.specs.declared.bound.Bound.{Bound}
use Rattle.chc_elab.specs.declared.typed.Typed.{Typed}
use Rattle.chc_elab.specs.Binders.{apart_after, locals_of, variables_from}
use Rattle.chc_elab.specs.Settings.{bound_under, locals_with}
use Rattle.chc_elab.specs.Sites.{Local, Site, faulty}

-- what variables from number n on stand for
abbrev pub variables_of : ℕ → List Sort → List Bound
variables_of n [] = []
variables_of n (s ∷ sorts) = record { value = record { term = term.Var n; sort = s }; under = n + 1 } ∷ variables_of (n + 1) sorts

pub terms_with : (site : Site) (names : List (List ℕ)) (values : List Typed) → locals_with names (map (bound_under site.variables) values) ≡ locals_of site names values
terms_with site [] values = refl
terms_with site (x ∷ names) [] = refl
terms_with site (x ∷ names) (v ∷ values) = ap (λ l. record { name = x; value = v; under = site.variables } ∷ l) (terms_with site names values)

pub variables_with : (n : ℕ) (names : List (List ℕ)) (sorts : List Sort) → locals_with names (variables_of n sorts) ≡ variables_from n names sorts
variables_with n [] sorts = refl
variables_with n (x ∷ names) [] = refl
variables_with n (x ∷ names) (s ∷ sorts) =
    ap (λ l. record { name = x; value = record { term = term.Var n; sort = s }; under = n + 1 } ∷ l) (variables_with (n + 1) names sorts)

-- a name that isn't there yet
pub name_next : (names : List (List ℕ)) (place : ℕ) (name : List ℕ) (more : List (ℕ × List ℕ)) → has_name names name ≡ false → apart_after names ((place, name) ∷ more) ≡ apart_after (names ++ name ∷ []) more
name_next names place name more h = ap (λ b. cond b (faulty place NameTaken name) (apart_after (names ++ name ∷ []) more)) h
