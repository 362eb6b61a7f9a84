-- The forms of an answer's trees, and the first tree that has another form.
use Rattle.std.specs.Prelude.{ℕ, cond, List, [], ◌∷◌, Option, Some, None, Ok, ⊤, codes, is_some}
use Rattle.chc_sexpr.specs.declared.tree.Tree.{Tree, out-Tree}
use Rattle.chc_sexpr.specs.declared.fault.Fault.TheVariants.{BadForm, NotAnswer}
use Rattle.chc_sexpr.specs.Shapes.{symbol_of, group_of, is_symbol}
use Rattle.chc_elab.specs.Binders.{are_pairs}
use Rattle.chc_elab.specs.Sites.{Reading, faulty}
use Rattle.chc_elab.specs.SortTrees.{place_at}
use Rattle.ans_model.specs.declared.form.Form.{Form}

-- a definition by its trees: its name, the pairs of its parameters, the sort of its values, and its body
pub record FormView : Type 0 where
  pub name : List ℕ
  pub params : List Tree
  pub values : Tree
  pub body : Tree

-- what the code's own type stands for
abbrev pub form_seen : Form → FormView
form_seen f = record { name = f.name.now; params = f.params.now; values = f.values.now; body = f.body.now }

-- the form with these parameters, where they are pairs `(x S)`
abbrev pub form_with_params : List ℕ → Tree → Tree → Option (List Tree) → Option FormView
form_with_params name values body None = None
form_with_params name values body (Some params) = cond (are_pairs params) (Some (record { name = name; params = params; values = values; body = body })) None

abbrev pub form_with_name : Tree → Tree → Tree → Option (List ℕ) → Option FormView
form_with_name params values body None = None
form_with_name params values body (Some name) = form_with_params name values body (group_of params)

abbrev pub form_of_group : Option (List Tree) → Option FormView
form_of_group None = None
form_of_group (Some []) = None
form_of_group (Some (a ∷ [])) = None
form_of_group (Some (a ∷ b ∷ [])) = None
form_of_group (Some (a ∷ b ∷ c ∷ [])) = None
form_of_group (Some (a ∷ b ∷ c ∷ d ∷ [])) = None
form_of_group (Some (head ∷ name ∷ params ∷ values ∷ body ∷ [])) =
    cond (is_symbol (codes "define-fun") head) (form_with_name params values body (symbol_of name)) None
form_of_group (Some (a ∷ b ∷ c ∷ d ∷ e ∷ f ∷ more)) = None

-- the form of a definition, `(define-fun f ((x S) ..) R body)`
abbrev pub definition_form : Tree → Option FormView
definition_form tree = form_of_group (group_of tree)

-- the fault of a tree of another form
abbrev pub misfit : {A : Type 0} → Tree → Reading A
misfit tree = faulty (place_at (out-Tree tree)) BadForm []

-- nothing, or the fault of the first tree that isn't of the form of a definition
abbrev pub all_fit : List Tree → Reading ⊤
all_fit [] = Ok tt
all_fit (t ∷ ts) = cond (is_some (definition_form t)) (all_fit ts) (misfit t)

-- nothing, or the fault of the first tree behind the group of definitions
abbrev pub nothing_more : List Tree → Reading ⊤
nothing_more [] = Ok tt
nothing_more (t ∷ ts) = misfit t

-- the trees without the symbol `model` in front, where it is there
abbrev pub without_model : List Tree → List Tree
without_model [] = []
without_model (t ∷ ts) = cond (is_symbol (codes "model") t) ts (t ∷ ts)

-- the fault of a first tree other than `sat`
abbrev pub not_sat : {A : Type 0} → Tree → Reading A
not_sat tree = cond (is_symbol (codes "unsat") tree) (misfit tree) (faulty (place_at (out-Tree tree)) NotAnswer [])
