-- Definitions that are said by a text are readable.
use Rattle.std.proofs.Common.{◌≡◌, ◌∙◌, sym, ap, refl, subst, ℕ, ◌≤◌, Bool, true, false, cond, nat_lt, List, [], ◌∷◌, ◌++◌, length, Option, Some, None, Result, Ok, Err, slice_get, codes, inl, inr, arith}
use Rattle.std.specs.List.{list_all}
use Rattle.std.specs.Prelude.{IfOk}
use Rattle.std.proofs.lemmas.Bool.{and_parts}
use Rattle.std.proofs.lemmas.Bool.Decides.{nat_tests}
use Rattle.chc_sorts.specs.Sorts.{same_sort}
use Rattle.chc_sorts.specs.declared.sort.Sort.{Sort}
use Rattle.chc_sexpr.specs.Shapes.{group_of, is_symbol, symbol_of}
use Rattle.chc_sexpr.specs.declared.fault.Fault.TheVariants.{BadForm, NotAnswer, TooMany, WrongParams, WrongSort}
use Rattle.chc_sexpr.specs.declared.fault.TextErr.{TextErr}
use Rattle.chc_sexpr.specs.declared.tree.Tree.{Tree, out-Tree}
use Rattle.chc_sexpr.proofs.Folds.{fold-Group}
use Rattle.chc_elab.specs.Binders.{apart_after, are_pairs, pair_names, second_trees, sorts_of_trees}
use Rattle.chc_elab.specs.Heads.{sort_tree}
use Rattle.chc_elab.specs.Reads.{elaborated_with_sort}
use Rattle.chc_elab.specs.Sites.{Setting, faulty}
use Rattle.chc_elab.specs.SortTrees.{place_at}
use Rattle.chc_elab.specs.WellRead.{are_numerals_in_range, numerals_step}
use Rattle.chc_elab.specs.declared.sorted_term.SortedTerm.{SortedTerm}
use Rattle.chc_elab.proofs.Readings.{bind_ok, chosen, cond_else_ok, cond_ok, cond_some, err_ok, none_some, ok_same}
use Rattle.chc_elab.proofs.ReadsWell.{reads_well}
use Rattle.chc_elab.proofs.ShapeLaws.{is_Group}
use Rattle.chc_state.specs.declared.defs.Def.{Def}
use Rattle.chc_state.specs.declared.defs.Defs.{Defs}
use Rattle.chc_state.specs.States.{StateView}
use Rattle.chc_state.proofs.Places.{end-at}
use Rattle.ans_model.specs.declared.draft.Draft.{Draft}
use Rattle.ans_model.specs.Answers.{IsModelReading, Says, all_defined, answer_of, behind_sat, defined, defined_by, definitions, grouped}
use Rattle.ans_model.specs.Defining.{closed, definition, new_name}
use Rattle.ans_model.specs.Drafts.{TargetView, complete, fresh, held, missing_from, most_definitions, owner, placed, setting, suits, with_definition, with_entry}
use Rattle.ans_model.specs.Forms.{FormView, all_fit, definition_form, form_of_group, form_with_name, form_with_params, misfit, not_sat, nothing_more, without_model}
use Rattle.ans_model.specs.Readable.{AreReadable, IsReadable}
use Rattle.ans_model.proofs.NumbersRead.{mapped_ranges, spelled_in_range}

-- trees whose numerals are in range
abbrev InRange : Tree → Type 0
InRange t = are_numerals_in_range t ≡ true

abbrev AllInRange : List Tree → Type 0
AllInRange ts = list_all are_numerals_in_range ts ≡ true

inner_in_range : (t : Tree) (ts : List Tree) → group_of t ≡ Some ts → InRange t → AllInRange ts
inner_in_range t ts is h =
    let group = is_Group t ts is in
    sym (mapped_ranges ts) ∙ sym (fold-Group Bool numerals_step group.0 ts) ∙ sym (ap are_numerals_in_range group.1) ∙ h

-- ---- the body of a form

body_of_params : (name : List ℕ) (values body : Tree) (o : Option (List Tree)) (f : FormView) → InRange body → form_with_params name values body o ≡ Some f → InRange f.body
body_of_params name values body None f range h = absurd (none_some f h)
body_of_params name values body (Some ps) f range h =
    let made = cond_some (are_pairs ps) (record { name = name; params = ps; values = values; body = body }) f h in
    sym (ap (λ (x : FormView). are_numerals_in_range x.body) made.1) ∙ range

body_of_name : (params values body : Tree) (o : Option (List ℕ)) (f : FormView) → InRange body → form_with_name params values body o ≡ Some f → InRange f.body
body_of_name params values body None f range h = absurd (none_some f h)
body_of_name params values body (Some name) f range h = body_of_params name values body (group_of params) f range h

chosen_some : {A : Type 0} (b : Bool) (o : Option A) (x : A) → cond b o None ≡ Some x → o ≡ Some x
chosen_some true o x h = h
chosen_some false o x h = absurd (none_some x h)

body_of_group : (o : Option (List Tree)) (f : FormView) → ((ts : List Tree) → o ≡ Some ts → AllInRange ts) → form_of_group o ≡ Some f → InRange f.body
body_of_group None f range h = absurd (none_some f h)
body_of_group (Some []) f range h = absurd (none_some f h)
body_of_group (Some (a ∷ [])) f range h = absurd (none_some f h)
body_of_group (Some (a ∷ b ∷ [])) f range h = absurd (none_some f h)
body_of_group (Some (a ∷ b ∷ c ∷ [])) f range h = absurd (none_some f h)
body_of_group (Some (a ∷ b ∷ c ∷ d ∷ [])) f range h = absurd (none_some f h)
body_of_group (Some (head ∷ name ∷ params ∷ values ∷ body ∷ [])) f range h =
    body_of_name params values body (symbol_of name) f (last (range (head ∷ name ∷ params ∷ values ∷ body ∷ []) refl))
    (chosen_some (is_symbol (codes "define-fun") head) (form_with_name params values body (symbol_of name)) f h)
  where
    after : (t : Tree) (ts : List Tree) → AllInRange (t ∷ ts) → AllInRange ts
    after t ts all = (and_parts (are_numerals_in_range t) (list_all are_numerals_in_range ts) all).1

    last : AllInRange (head ∷ name ∷ params ∷ values ∷ body ∷ []) → InRange body
    last all =
        (and_parts (are_numerals_in_range body) true
        (after values (body ∷ []) (after params (values ∷ body ∷ []) (after name (params ∷ values ∷ body ∷ []) (after head (name ∷ params ∷ values ∷ body ∷ []) all))))).0
body_of_group (Some (a ∷ b ∷ c ∷ d ∷ e ∷ g ∷ more)) f range h = absurd (none_some f h)

body_in_range : (t : Tree) (f : FormView) → InRange t → definition_form t ≡ Some f → InRange f.body
body_in_range t f range h = body_of_group (group_of t) f (λ ts is. inner_in_range t ts is range) h

-- ---- definitions

closed_readable : (over : Setting) (place : ℕ) (names : List (List ℕ)) (params : List Sort) (values : Sort) (tree : Tree) (body : SortedTerm) (def : Def) → InRange tree
    → elaborated_with_sort over names params tree ≡ Ok body → closed place params values body ≡ Ok def → IsReadable def
closed_readable over place names params values tree body def range read h =
    let made = cond_ok (same_sort body.sort values) (Ok (record { params = params; result = values; body = body.term })) (record { place = place; fault = WrongSort; name = [] }) def h in
    let well = reads_well over names params tree body read in
    subst IsReadable (ok_same (record { params = params; result = values; body = body.term }) def made.1) (record {
      few_nodes = well.few_nodes;
      few_levels = well.few_levels;
      numbers = well.numbers range;
    })

definition_readable : (over : Setting) (place : ℕ) (f : FormView) (def : Def) → InRange f.body → definition over place f ≡ Ok def → IsReadable def
definition_readable over place f def range h =
    let (names, _, named) = bind_ok (apart_after [] (pair_names f.params)) _ def h in
    let (params, _, more) = bind_ok (sorts_of_trees over (second_trees f.params)) _ def named in
    let (values, _, rest) = bind_ok (sort_tree over f.values) _ def more in
    let (body, read, last) = bind_ok (elaborated_with_sort over names params f.body) _ def rest in
    closed_readable over place names params values f.body body def range read last

-- all definitions of the list are readable
pub record EachReadable (defs : List Def) : Type 0 where
  pub each : (k : ℕ) (def : Def) → slice_get defs k ≡ Some def → IsReadable def

one_more : (defs : List Def) (def : Def) → EachReadable defs → IsReadable def → EachReadable (defs ++ def ∷ [])
one_more defs def all one = record {
  each = λ k e at. elim (end-at defs def k e at) [
    | inl h ↦ all.each k e h.1
    | inr h ↦ subst IsReadable h.1 one
  ];
}

module _ (target : TargetView) where
  placed_readable : (d : Draft) (place : ℕ) (name : List ℕ) (def : Def) (o : Option ℕ) (e : Draft) → EachReadable d.defs.list → IsReadable def → placed target d place name def o ≡ Ok e → EachReadable e.defs.list
  placed_readable d place name def None e all one h = subst (λ (x : Draft). EachReadable x.defs.list) (ok_same (with_definition d name def) e h) (one_more d.defs.list def all one)
  placed_readable d place name def (Some p) e all one h =
      let made = cond_ok (suits (slice_get target.state.preds p) def) (Ok (with_definition (with_entry d p) name def)) (record { place = place; fault = WrongParams; name = name }) e h in
      subst (λ (x : Draft). EachReadable x.defs.list) (ok_same (with_definition (with_entry d p) name def) e made.1) (one_more d.defs.list def all one)

  defined_readable : (d : Draft) (place : ℕ) (f : FormView) (e : Draft) → InRange f.body → EachReadable d.defs.list → defined target d place f ≡ Ok e → EachReadable e.defs.list
  defined_readable d place f e range all h =
      let (_, _, more) = bind_ok (new_name (setting target d) place f.name) _ e h in
      let (def, read, rest) = bind_ok (definition (setting target d) place f) _ e more in
      placed_readable d place f.name def (owner target f.name) e all (definition_readable (setting target d) place f def range read) rest

  tree_readable : (d : Draft) (t : Tree) (o : Option FormView) (e : Draft) → ((f : FormView) → o ≡ Some f → InRange f.body) → EachReadable d.defs.list → defined_by target d t o ≡ Ok e → EachReadable e.defs.list
  tree_readable d t None e range all h = absurd (err_ok (record { place = place_at (out-Tree t); fault = BadForm; name = [] }) e h)
  tree_readable d t (Some f) e range all h = defined_readable d (place_at (out-Tree t)) f e (range f refl) all h

  trees_readable : (ts : List Tree) (d e : Draft) → AllInRange ts → EachReadable d.defs.list → all_defined target d ts ≡ Ok e → EachReadable e.defs.list
  trees_readable [] d e range all h = subst (λ (x : Draft). EachReadable x.defs.list) (ok_same d e h) all
  trees_readable (t ∷ ts) d e range all h =
      let parts = and_parts (are_numerals_in_range t) (list_all are_numerals_in_range ts) range in
      let (next, one, more) = bind_ok (defined_by target d t (definition_form t)) _ e h in
      trees_readable ts next e parts.1 (tree_readable d t (definition_form t) next (λ f is. body_in_range t f parts.0 is) all one) more

  held_readable : (place : ℕ) (d e : Defs) → EachReadable d.list → held place d ≡ Ok e → AreReadable e
  held_readable place d e all h =
      let made = cond_else_ok (nat_lt most_definitions (length d.list)) (Ok d) (record { place = place; fault = TooMany; name = codes "L7" }) e h in
      subst AreReadable (ok_same d e made.1) (record { few = few (length d.list) made.0; each = all.each })
    where
      few : (n : ℕ) → nat_lt 65536 n ≡ false → n ≤ 65536
      few n h = grind (arith, nat_tests)

  complete_readable : (place : ℕ) (d e : Defs) (o : Option ℕ) → EachReadable d.list → complete target place d o ≡ Ok e → AreReadable e
  complete_readable place d e None all h = held_readable place d e all h
  complete_readable place d e (Some p) all h = absurd (err_ok _ e h)

  definitions_readable : (place : ℕ) (ts : List Tree) (e : Defs) → AllInRange ts → definitions target place ts ≡ Ok e → AreReadable e
  definitions_readable place ts e range h =
      let (d, read, rest) = bind_ok (all_defined target (fresh target) ts) _ e h in
      complete_readable place d.defs e (missing_from d.defs.of 0 target.state.preds) (trees_readable ts (fresh target) d range (record { each = λ k def at. absurd (none_some def at) }) read) rest

  without_in_range : (ts : List Tree) → AllInRange ts → AllInRange (without_model ts)
  without_in_range [] range = range
  without_in_range (t ∷ ts) range = by (is_symbol (codes "model") t)
    where
      by : (b : Bool) → AllInRange (cond b ts (t ∷ ts))
      by true = (and_parts (are_numerals_in_range t) (list_all are_numerals_in_range ts) range).1
      by false = range

  grouped_readable : (place : ℕ) (t : Tree) (o : Option (List Tree)) (more : List Tree) (e : Defs) → ((ts : List Tree) → o ≡ Some ts → AllInRange ts) → grouped target place t o more ≡ Ok e → AreReadable e
  grouped_readable place t None more e range h = absurd (err_ok _ e h)
  grouped_readable place t (Some inner) more e range h =
      let (_, _, rest) = bind_ok (all_fit (without_model inner)) _ e h in
      let (_, _, last) = bind_ok (nothing_more more) _ e rest in
      definitions_readable place (without_model inner) e (without_in_range inner (range inner refl)) last

  behind_readable : (place : ℕ) (ts : List Tree) (e : Defs) → AllInRange ts → behind_sat target place ts ≡ Ok e → AreReadable e
  behind_readable place [] e range h = absurd (err_ok _ e h)
  behind_readable place (t ∷ ts) e range h =
      grouped_readable place t (group_of t) ts e (λ inner is. inner_in_range t inner is (and_parts (are_numerals_in_range t) (list_all are_numerals_in_range ts) range).0) h

  no_sat : (t : Tree) (e : Defs) → not_sat t ≡ Ok e → ⊥
  no_sat t e h = elim (chosen (is_symbol (codes "unsat") t) (misfit t) (faulty (place_at (out-Tree t)) NotAnswer []) (Ok e) h) [
    | inl unsat ↦ err_ok _ e unsat.1
    | inr other ↦ err_ok _ e other.1
  ]

  answer_readable : (place : ℕ) (ts : List Tree) (e : Defs) → AllInRange ts → answer_of target place ts ≡ Ok e → AreReadable e
  answer_readable place [] e range h = absurd (err_ok _ e h)
  answer_readable place (t ∷ ts) e range h = elim (chosen (is_symbol (codes "sat") t) (behind_sat target place ts) (not_sat t) (Ok e) h) [
    | inl sat ↦ behind_readable place ts e (and_parts (are_numerals_in_range t) (list_all are_numerals_in_range ts) range).1 sat.1
    | inr other ↦ absurd (no_sat t e other.1)
  ]

-- the definitions that a text says are readable
pub said_readable : (s : StateView) (names : List (List ℕ)) (bytes : List ℕ) (d : Defs) → Says s names bytes (Ok d) → AreReadable d
said_readable s names bytes d says =
    answer_readable (record { state = s; names = says.all }) (length bytes) says.trees d (spelled_in_range bytes says.trees says.spelled) says.stands

pub reading_readable : (s : StateView) (names : List (List ℕ)) (bytes : List ℕ) (r : Result Defs TextErr) → IsModelReading s names bytes r → IfOk r AreReadable
reading_readable s names bytes (Ok d) reading = said_readable s names bytes d reading.0
reading_readable s names bytes (Err why) reading = tt
