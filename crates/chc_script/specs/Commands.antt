-- What each command makes of a draft, or its first fault.
use Rattle.std.specs.Prelude.{ℕ, cond, List, [], ◌∷◌, ◌++◌, Option, Some, None, Ok, ⊤, codes}
use Rattle.std.specs.Str.{bytes_eq}
use Rattle.chc_sorts.specs.declared.sort.Sort.{Sort}
use Rattle.chc_sorts.specs.declared.spec.DataSpec.{DataSpec}
use Rattle.chc_sorts.specs.Signature.{Signature}
use Rattle.chc_sexpr.specs.declared.tree.Tree.{Tree, out-Tree}
use Rattle.chc_sexpr.specs.declared.fault.Fault.TheVariants.{BadCommand, NoLogic, OtherLogic, UnknownCommand, NotPredicate, NameTaken}
use Rattle.chc_sexpr.specs.Shapes.{symbol_of, group_of, is_symbol, form_of}
use Rattle.chc_elab.specs.Sites.{Reading, faulty, ◌>>>◌}
use Rattle.chc_elab.specs.SortTrees.{place_at, sort_of_tree}
use Rattle.chc_script.specs.Scripts.{ScriptView}
use Rattle.chc_script.specs.Datatypes.{are_shaped, is_body, group_read, single_read, group_verdict, added_at}
use Rattle.chc_script.specs.Drafts.{DraftView, with_logic, with_sig, with_preds, with_predicate, is_taken, held_to, passed_by_predicate, passed_by_all}

-- the fault of a command of another shape
abbrev pub bad : {A : Type 0} → ℕ → Reading A
bad place = faulty place BadCommand []

-- nothing, or the fault that no logic is set
abbrev pub under_logic : DraftView → ℕ → Reading ⊤
under_logic d place = cond d.logic (Ok tt) (faulty place NoLogic [])

-- the logic `HORN` at the place, which is set once
abbrev pub horn_set : DraftView → ℕ → Reading DraftView
horn_set d place = cond d.logic (faulty place UnknownCommand (codes "set-logic")) (Ok (with_logic d))

abbrev pub logic_set : DraftView → ℕ → Option (List ℕ) → Reading DraftView
logic_set d place None = bad place
logic_set d place (Some name) = cond (bytes_eq name (codes "HORN")) (horn_set d place) (faulty place OtherLogic name)

-- `(set-logic HORN)`
abbrev pub set_logic : DraftView → ℕ → List Tree → Reading DraftView
set_logic d place [] = bad place
set_logic d place (logic ∷ []) = logic_set d place (symbol_of logic)
set_logic d place (a ∷ b ∷ more) = bad place

-- nothing, or the fault that a function has the name
abbrev pub free_name : DraftView → ℕ → List ℕ → Reading ⊤
free_name d place name = cond (is_taken d name) (faulty place NameTaken name) (Ok tt)

-- nothing, or the fault that the function of that name has other values than those of Bool
abbrev pub truth_values : ℕ → List ℕ → Tree → Reading ⊤
truth_values place name values = cond (is_symbol (codes "Bool") values) (Ok tt) (faulty place NotPredicate name)

-- these sorts, and after them those that the trees spell
abbrev pub sorts_after : Signature → List Sort → List Tree → Reading (List Sort)
sorts_after sig made [] = Ok made
sorts_after sig made (t ∷ ts) = sort_of_tree sig (place_at (out-Tree t)) t >>> (λ s. sorts_after sig (made ++ s ∷ []) ts)

-- the draft with a predicate of that name and these sorts, within the limits
abbrev pub predicate_added : DraftView → ℕ → List ℕ → List Sort → Reading DraftView
predicate_added d place name sorts =
    held_to place (passed_by_predicate d.preds.decls sorts) >>> (λ _. Ok (with_preds (with_predicate d.preds name sorts) d))

-- the predicate of that name whose positions and values are of the sorts of these trees
abbrev pub declared : DraftView → ℕ → List ℕ → List Tree → Tree → Reading DraftView
declared d place name positions values =
    under_logic d place
    >>> (λ _. free_name d place name
    >>> (λ _. truth_values place name values
    >>> (λ _. sorts_after d.sig [] positions
    >>> (λ sorts. predicate_added d place name sorts))))

abbrev pub fun_parts : DraftView → ℕ → Tree → Option (List ℕ) → Option (List Tree) → Reading DraftView
fun_parts d place values None positions = bad place
fun_parts d place values (Some name) None = bad place
fun_parts d place values (Some name) (Some positions) = declared d place name positions values

-- `(declare-fun p (S ..) R)`
abbrev pub declare_fun : DraftView → ℕ → List Tree → Reading DraftView
declare_fun d place [] = bad place
declare_fun d place (a ∷ []) = bad place
declare_fun d place (a ∷ b ∷ []) = bad place
declare_fun d place (name ∷ positions ∷ values ∷ []) = fun_parts d place values (symbol_of name) (group_of positions)
declare_fun d place (a ∷ b ∷ c ∷ e ∷ more) = bad place

abbrev pub const_parts : DraftView → ℕ → Tree → Option (List ℕ) → Reading DraftView
const_parts d place values None = bad place
const_parts d place values (Some name) = declared d place name [] values

-- `(declare-const p R)`
abbrev pub declare_const : DraftView → ℕ → List Tree → Reading DraftView
declare_const d place [] = bad place
declare_const d place (a ∷ []) = bad place
declare_const d place (name ∷ values ∷ []) = const_parts d place values (symbol_of name)
declare_const d place (a ∷ b ∷ c ∷ more) = bad place

-- the draft with a group of datatypes
abbrev pub group_added : DraftView → ℕ → List DataSpec → Reading DraftView
group_added d place group = added_at place (group_verdict d.sig group d.preds.names) >>> (λ sig. Ok (with_sig sig d))

-- the group of these heads and bodies
abbrev pub group_declared : DraftView → ℕ → List Tree → List Tree → Reading DraftView
group_declared d place heads bodies = under_logic d place >>> (λ _. group_read place heads bodies >>> (λ group. group_added d place group))

abbrev pub datatypes_parts : DraftView → ℕ → Option (List Tree) → Option (List Tree) → Reading DraftView
datatypes_parts d place None bodies = bad place
datatypes_parts d place (Some heads) None = bad place
datatypes_parts d place (Some heads) (Some bodies) = cond (are_shaped heads bodies) (group_declared d place heads bodies) (bad place)

-- `(declare-datatypes ((T 0) ..) (((c (s S) ..) ..) ..))`
abbrev pub declare_datatypes : DraftView → ℕ → List Tree → Reading DraftView
declare_datatypes d place [] = bad place
declare_datatypes d place (a ∷ []) = bad place
declare_datatypes d place (heads ∷ bodies ∷ []) = datatypes_parts d place (group_of heads) (group_of bodies)
declare_datatypes d place (a ∷ b ∷ c ∷ more) = bad place

-- the datatype of that name and body, alone in its group
abbrev pub single_declared : DraftView → ℕ → List ℕ → Tree → Reading DraftView
single_declared d place name body = under_logic d place >>> (λ _. single_read place name body >>> (λ group. group_added d place group))

abbrev pub datatype_parts : DraftView → ℕ → Tree → Option (List ℕ) → Reading DraftView
datatype_parts d place body None = bad place
datatype_parts d place body (Some name) = cond (is_body body) (single_declared d place name body) (bad place)

-- `(declare-datatype T ((c (s S) ..) ..))`
abbrev pub declare_datatype : DraftView → ℕ → List Tree → Reading DraftView
declare_datatype d place [] = bad place
declare_datatype d place (a ∷ []) = bad place
declare_datatype d place (name ∷ body ∷ []) = datatype_parts d place body (symbol_of name)
declare_datatype d place (a ∷ b ∷ c ∷ more) = bad place

-- the script of a draft
abbrev pub script : DraftView → ScriptView
script d =
    record {
      names = d.preds.names;
      state = record { sig = d.sig; preds = d.preds.decls; clauses = d.asserted.clauses };
      assertions = d.asserted.assertions;
    }

-- the script, where the whole is within the limits
abbrev pub closed : DraftView → ℕ → Reading ScriptView
closed d place =
    under_logic d place
    >>> (λ _. held_to place (passed_by_all d.preds.decls d.asserted.clauses)
    >>> (λ _. Ok (script d)))

-- `(check-sat)`
abbrev pub check_sat : DraftView → ℕ → List Tree → Reading ScriptView
check_sat d place [] = closed d place
check_sat d place (a ∷ more) = bad place

-- a command of another name
abbrev pub unknown : DraftView → ℕ → List ℕ → Reading DraftView
unknown d place name = under_logic d place >>> (λ _. faulty place UnknownCommand name)
