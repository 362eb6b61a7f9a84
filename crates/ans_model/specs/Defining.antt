-- The definition that trees stand for, or its first fault.
use Rattle.std.specs.Prelude.{ℕ, Bool, ◌||◌, cond, List, [], Option, Some, None, Ok, ⊤, codes, is_some}
use Rattle.std.specs.Str.{bytes_eq}
use Rattle.chc_sorts.specs.declared.sort.Sort.{Sort}
use Rattle.chc_sorts.specs.Functions.{meaning_of}
use Rattle.chc_sorts.specs.Names.{look_up}
use Rattle.chc_sorts.specs.Operators.{op_named}
use Rattle.chc_sorts.specs.Signature.{Signature}
use Rattle.chc_sorts.specs.Sorts.{same_sort}
use Rattle.chc_sexpr.specs.declared.fault.Fault.TheVariants.{NameTaken, Twice, WrongSort}
use Rattle.chc_elab.specs.declared.symbols.Symbol.{Symbol}
use Rattle.chc_elab.specs.declared.sorted_term.SortedTerm.{SortedTerm}
use Rattle.chc_elab.specs.Binders.{apart_after, pair_names, second_trees, sorts_of_trees}
use Rattle.chc_elab.specs.Heads.{sort_tree}
use Rattle.chc_elab.specs.Reads.{elaborated_with_sort}
use Rattle.chc_elab.specs.Sites.{Setting, Reading, faulty, ◌>>>◌}
use Rattle.chc_state.specs.declared.defs.Def.{Def}
use Rattle.ans_model.specs.declared.params.Declared.{Declared}
use Rattle.ans_model.specs.Forms.{FormView}

-- the declarations as a setting
abbrev pub setting_of : Declared → Setting
setting_of d = record { sig = d.sig.now; symbols = d.symbols.now }

-- whether no definition may have the name: it is `true`, `false`, an operator's, a constructor's or a selector's
abbrev pub is_taken : Signature → List ℕ → Bool
is_taken sig name = bytes_eq name (codes "true") || bytes_eq name (codes "false") || is_some (op_named name) || is_some (meaning_of sig name)

-- nothing, or the fault of a definition at the place whose name is taken, or is an earlier definition's
abbrev pub new_name : Setting → ℕ → List ℕ → Reading ⊤
new_name setting place name =
    cond (is_taken setting.sig name) (faulty place NameTaken name)
    (cond (is_some (look_up setting.symbols name)) (faulty place Twice name) (Ok tt))

-- the definition over these parameters of a body that is read, where that has the sort of its values
abbrev pub closed : ℕ → List Sort → Sort → SortedTerm → Reading Def
closed place params values body =
    cond (same_sort body.sort values) (Ok (record { params = params; result = values; body = body.term })) (faulty place WrongSort [])

-- the definition of a form at the place: the names of the parameters, their sorts and that of the values, then the body
abbrev pub definition : Setting → ℕ → FormView → Reading Def
definition setting place f =
    apart_after [] (pair_names f.params) >>> (λ names.
    sorts_of_trees setting (second_trees f.params) >>> (λ params.
    sort_tree setting f.values >>> (λ values.
    elaborated_with_sort setting names params f.body >>> (λ body.
    closed place params values body))))
