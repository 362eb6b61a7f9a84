-- The names that binders give, and where they stand.
use Rattle.std.specs.Prelude.{ℕ, ◌+◌, Bool, true, false, ◌&&◌, cond, List, [], ◌∷◌, ◌++◌, length, Option, Some, None, Ok, is_some}
use Rattle.std.specs.Option.{option_map}
use Rattle.chc_sorts.specs.declared.sort.Sort.{Sort}
use Rattle.chc_sorts.specs.Names.{has_name}
use Rattle.chc_sexpr.specs.declared.tree.Tree.{Tree, out-Tree}
use Rattle.chc_sexpr.specs.declared.fault.Fault.TheVariants.{BadCommand, NameTaken}
use Rattle.chc_sexpr.specs.Shapes.{symbol_of, group_of}
use Rattle.chc_terms.specs.declared.term.Term.TheVariants as term
use Rattle.chc_elab.specs.declared.typed.Typed.{Typed}
use Rattle.chc_elab.specs.Sites.{Local, Site, Setting, Reading, faulty, ◌>>>◌}
use Rattle.chc_elab.specs.SortTrees.{place_at}
use Rattle.chc_elab.specs.Heads.{sort_tree}

-- a symbol with its place
abbrev pub placed_symbol : Tree → Option (ℕ × List ℕ)
placed_symbol t = option_map (λ name. (place_at (out-Tree t), name)) (symbol_of t)

-- the name of a pair `(x ..)`
abbrev pub pair_name : Option (List Tree) → Option (ℕ × List ℕ)
pair_name None = None
pair_name (Some []) = None
pair_name (Some (x ∷ [])) = None
pair_name (Some (x ∷ t ∷ [])) = placed_symbol x
pair_name (Some (x ∷ t ∷ u ∷ more)) = None

-- whether all trees are pairs `(x ..)`
abbrev pub are_pairs : List Tree → Bool
are_pairs [] = true
are_pairs (t ∷ ts) = is_some (pair_name (group_of t)) && are_pairs ts

-- what is there, before the others
abbrev pub before_others : {A : Type 0} → Option A → List A → List A
before_others None others = others
before_others (Some a) others = a ∷ others

-- the names of pairs with their places
abbrev pub pair_names : List Tree → List (ℕ × List ℕ)
pair_names [] = []
pair_names (t ∷ ts) = before_others (pair_name (group_of t)) (pair_names ts)

-- the names so far and others behind them; one that is there already is a fault
abbrev pub apart_after : List (List ℕ) → List (ℕ × List ℕ) → Reading (List (List ℕ))
apart_after before [] = Ok before
apart_after before ((place, name) ∷ more) = cond (has_name before name) (faulty place NameTaken name) (apart_after (before ++ name ∷ []) more)

-- the names that a list of pairs binds, in the group at the place
abbrev pub binder_names : ℕ → Option (List Tree) → Reading (List (List ℕ))
binder_names place None = faulty place BadCommand []
binder_names place (Some pairs) = cond (are_pairs pairs) (apart_after [] (pair_names pairs)) (faulty place BadCommand [])

-- the second tree of a pair
abbrev pub second_tree : Option (List Tree) → Option Tree
second_tree None = None
second_tree (Some []) = None
second_tree (Some (x ∷ [])) = None
second_tree (Some (x ∷ t ∷ more)) = Some t

abbrev pub second_trees : List Tree → List Tree
second_trees [] = []
second_trees (t ∷ ts) = before_others (second_tree (group_of t)) (second_trees ts)

-- the sorts that trees spell, in order
abbrev pub sorts_of_trees : Setting → List Tree → Reading (List Sort)
sorts_of_trees setting [] = Ok []
sorts_of_trees setting (t ∷ ts) = sort_tree setting t >>> (λ s. sorts_of_trees setting ts >>> (λ rest. Ok (s ∷ rest)))

-- the sorts of pairs `(x S)`, in order
abbrev pub binder_sorts : Setting → Option (List Tree) → Reading (List Sort)
binder_sorts setting None = Ok []
binder_sorts setting (Some pairs) = sorts_of_trees setting (second_trees pairs)

-- the names, each for its term, as they are bound at the site
abbrev pub locals_of : Site → List (List ℕ) → List Typed → List Local
locals_of site [] values = []
locals_of site (name ∷ names) [] = []
locals_of site (name ∷ names) (value ∷ values) = record { name = name; value = value; under = site.variables } ∷ locals_of site names values

-- the site with names for these terms
abbrev pub with_terms : Site → List (List ℕ) → List Typed → Site
with_terms site names values = record { locals = site.locals ++ locals_of site names values; variables = site.variables }

-- variables from number n on, under all that are bound before each of them ends
abbrev pub variables_from : ℕ → List (List ℕ) → List Sort → List Local
variables_from n [] sorts = []
variables_from n (name ∷ names) [] = []
variables_from n (name ∷ names) (s ∷ sorts) =
    record { name = name; value = record { term = term.Var n; sort = s }; under = n + 1 } ∷ variables_from (n + 1) names sorts

-- the site with variables of these names and sorts
abbrev pub with_variables : Site → List (List ℕ) → List Sort → Site
with_variables site names sorts =
    record { locals = site.locals ++ variables_from site.variables names sorts; variables = site.variables + length sorts }

-- the site of some variables, around which nothing is bound
abbrev pub outer_site : List (List ℕ) → List Sort → Site
outer_site names sorts = with_variables (record { locals = []; variables = 0 }) names sorts
