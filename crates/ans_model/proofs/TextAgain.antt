-- The text of readable definitions says them again.
use Rattle.std.proofs.Common.{◌≡◌, ◌∙◌, sym, ap, refl, subst, ℕ, ◌+◌, ◌≤◌, ◌<◌, ◌^◌, Bool, true, false, not, ◌&&◌, cond, nat_lt, List, [], ◌∷◌, ◌++◌, length, Option, Some, None, Ok, slice_get, codes, arith}
use Rattle.std.specs.Prelude.{is_some}
use Rattle.std.proofs.lemmas.Bool.{false≢true}
use Rattle.std.proofs.lemmas.Bool.Decides.{nat_tests}
use Rattle.chc_sexpr.specs.Shapes.{group_at, is_name, symbol_at}
use Rattle.chc_sexpr.specs.declared.fault.Fault.TheVariants.{BadForm, TooMany}
use Rattle.chc_sexpr.specs.declared.tree.Tree.{Tree, out-Tree}
use Rattle.chc_sexpr.specs.declared.tree.Tree.TheOpen.{Tree-F}
use Rattle.chc_sexpr.specs.declared.tree.Tree.TheVariants.{Symbol, Group}
use Rattle.chc_elab.specs.Sites.{faulty, ◌>>>◌}
use Rattle.chc_elab.specs.SortTrees.{place_at}
use Rattle.chc_elab.proofs.Readings.{cond_ok}
use Rattle.chc_elab.proofs.ShapeLaws.{group_of-Group, symbol_of-Symbol}
use Rattle.chc_state.specs.declared.clause.PredDecl.{PredDecl}
use Rattle.chc_state.specs.declared.defs.Def.{Def}
use Rattle.chc_state.specs.declared.defs.Defs.{Defs}
use Rattle.chc_state.specs.Definitions.{DefinedAs, Defines}
use Rattle.chc_state.specs.Names.{AreNamesOf}
use Rattle.chc_state.specs.States.{StateView}
use Rattle.chc_state.proofs.Places.{beside-at}
use Rattle.chc_print.specs.Texts.{name_at}
use Rattle.term_again.specs.Bound.{BindersHoldTheirs, TextHoldsBound, most_bound}
use Rattle.term_again.specs.Naming.{AreFresh}
use Rattle.term_again.specs.Terms.{WrittenIsNear}
use Rattle.term_again.proofs.TermTrees.{writes_wider}
use Rattle.ans_model.specs.Answers.{Says, all_defined, answer_of, behind_sat, definitions, grouped, in_group}
use Rattle.ans_model.specs.Drafts.{complete, finished, is_defined, missing_from}
use Rattle.ans_model.specs.Forms.{all_fit, definition_form, form_of_group, not_sat, nothing_more, without_model}
use Rattle.ans_model.specs.Readable.{AreReadable}
use Rattle.ans_model.specs.Texts.{IsDefsText, lines_of_defs}
use Rattle.ans_model.proofs.BodiesAgain.{body_read, line_written, over}
use Rattle.ans_model.proofs.DefinitionsRun.{Adds, Leads, all_adding, all_fitting, tree_adds}
use Rattle.ans_model.proofs.DraftsAgain.{draft, first_draft, here, its_call, last_defs, new_name, next_draft, owner_by, owner_suits, owner_there, target}
use Rattle.ans_model.proofs.EntriesAgain.{none_missing}
use Rattle.ans_model.proofs.FormsWritten.{IsBody, IsDefinitionTree, definition_line}
use Rattle.ans_model.proofs.LinesRun.{LinesAdd, in_text, text_spells}
use Rattle.ans_model.proofs.Printing.{Printing}
use Rattle.ans_model.proofs.TextRoom.{text_room}

-- ---- the trees around the definitions

-- a level of the form of a definition is no symbol
level_no_symbol : (word : List ℕ) (y : Tree-F Tree) → is_some (form_of_group (group_at y)) ≡ true → is_name word (symbol_at y) ≡ false
level_no_symbol word (Tree-F.Symbol place name) h = absurd (false≢true h)
level_no_symbol word (Tree-F.Word place other) h = refl
level_no_symbol word (Tree-F.Keyword place other) h = refl
level_no_symbol word (Tree-F.Numeral place n) h = refl
level_no_symbol word (Tree-F.Text place bytes) h = refl
level_no_symbol word (Tree-F.Other place token) h = refl
level_no_symbol word (Tree-F.Group place trees) h = refl

-- trees that all have that form don't begin with `model`
pub no_model : (trees : List Tree) → all_fit trees ≡ Ok tt → without_model trees ≡ trees
no_model [] fit = refl
no_model (t ∷ ts) fit =
    let first = cond_ok (is_some (definition_form t)) (all_fit ts) (record { place = place_at (out-Tree t); fault = BadForm; name = [] }) tt fit in
    ap (λ b. cond b ts (t ∷ ts)) (level_no_symbol (codes "model") (out-Tree t) first.0)

few_enough : (n : ℕ) → n ≤ 65536 → nat_lt 65536 n ≡ false
few_enough n few = grind (arith, nat_tests)

neither : (b : Bool) → (b && false) ≡ false
neither true = refl
neither false = refl

module _ (printing : Printing) where
  -- ---- the end

  missing_not : (decl : PredDecl) (o : Option ℕ) → DefinedAs printing.defs.list decl o → (decl.live && not (is_defined (Some o))) ≡ false
  missing_not decl None dead = ap (λ b. b && true) dead
  missing_not decl (Some k) found = neither decl.live

  pub none_is_missing : missing_from printing.defs.of 0 printing.state.preds ≡ None
  none_is_missing = none_missing printing.defs.of 0 printing.state.preds (λ k decl at.
      let found = beside-at printing.state.preds printing.defs.of k decl printing.defines.entries at in
      let zero_more : 0 + k ≡ k = omega arith in
      ap (λ o. decl.live && not (is_defined o)) (ap (slice_get printing.defs.of) zero_more ∙ found.1) ∙ missing_not decl found.0 (printing.defines.each k decl found.0 at found.1))

  finished_is : (place : ℕ) → AreReadable printing.defs → finished (target printing) place (draft printing printing.defs.list) ≡ Ok printing.defs
  finished_is place readable =
      ap (λ (e : Defs). complete (target printing) place e (missing_from e.of 0 printing.state.preds)) (last_defs printing)
      ∙ ap (complete (target printing) place printing.defs) none_is_missing
      ∙ ap (λ b. cond b (faulty place TooMany (codes "L7")) (Ok printing.defs)) (few_enough (length printing.defs.list) readable.few)

  -- ---- the whole answer

  answer_is : AreReadable printing.defs → (length_of : ℕ) (sat group : ℕ) (inner : List Tree) → Leads (Adds (target printing)) (draft printing []) (draft printing printing.defs.list) inner
      → answer_of (target printing) length_of (Symbol sat (codes "sat") ∷ Group group inner ∷ []) ≡ Ok printing.defs
  answer_is readable length_of sat group inner leads =
      let fit = all_fitting (target printing) (draft printing []) (draft printing printing.defs.list) inner leads in
      ap (λ o. cond (is_name (codes "sat") o) (behind_sat (target printing) length_of (Group group inner ∷ [])) (not_sat (Symbol sat (codes "sat")))) (symbol_of-Symbol sat (codes "sat"))
      ∙ ap (λ g. grouped (target printing) length_of (Group group inner) g []) (group_of-Group group inner)
      ∙ ap (λ ts. in_group (target printing) length_of ts []) (no_model inner fit)
      ∙ ap (λ r. r >>> (λ _. nothing_more [] >>> (λ _. definitions (target printing) length_of inner))) fit
      ∙ ap (λ e. all_defined (target printing) e inner >>> finished (target printing) length_of) (first_draft printing)
      ∙ ap (λ r. r >>> finished (target printing) length_of) (all_adding (target printing) (draft printing []) (draft printing printing.defs.list) inner leads)
      ∙ finished_is length_of readable

  -- ---- the lines

  module _ (fresh : AreFresh printing.state.sig) (near : WrittenIsNear) (readable : AreReadable printing.defs)
      (room : (k : ℕ) (def : Def) → slice_get printing.defs.list k ≡ Some def → length def.params + most_bound def.body ≤ 2 ^ 64) where
    lines_add : LinesAdd printing (Adds (target printing))
    lines_add before rest def whole =
        let called : List ℕ = name_at printing.calls (length before) in
        let setting = over printing fresh before rest def whole in
        let at = here printing before rest def whole in
        let few = room (length before) def at in
        let body : Tree → Type 0 = IsBody setting printing.prefix def in
        let owner = owner_by printing before rest def whole (its_call printing before rest def whole) in
        writes_wider (IsDefinitionTree setting printing.prefix called def body) (Adds (target printing) (draft printing before) (draft printing (before ++ def ∷ []))) 999 999 (omega arith)
        (λ tree t. subst (λ e. Adds (target printing) (draft printing before) e tree) (next_draft printing before rest def whole)
        (tree_adds (target printing) (draft printing before) printing.prefix called def owner (new_name printing before rest def whole)
        (owner_there printing before rest def whole) (owner_suits printing before rest def whole) tree t))
        (definition_line (in_text printing) called def)
        (line_written printing fresh before rest def whole body few
        (body_read printing fresh before rest def whole near (readable.each (length before) def at) few))

    pub lines_say : Says printing.state printing.names (lines_of_defs (in_text printing) printing.defs.list) (Ok printing.defs)
    lines_say =
        let spelt = text_spells printing (Adds (target printing)) lines_add in
        record {
          trees = Symbol spelt.sat (codes "sat") ∷ Group spelt.group spelt.inner ∷ [];
          all = printing.all;
          spelled = spelt.spelled;
          named = printing.naming;
          stands = answer_is readable (length (lines_of_defs (in_text printing) printing.defs.list)) spelt.sat spelt.group spelt.inner spelt.leads;
        }

-- the text of readable definitions says them, where its names can be those of the state's predicates
pub text_again : (d : Defs) (s : StateView) (names : List (List ℕ)) (text : List ℕ) → Defines d s → AreFresh s.sig → WrittenIsNear → TextHoldsBound → BindersHoldTheirs
    → IsDefsText d s names text → AreNamesOf s names → AreReadable d → length text < 2 ^ 32 → Says s names text (Ok d)
text_again d s names text defines fresh near hold binders_hold (prefix, all, calls, variables, naming, is, same) are readable short =
    let printing : Printing = record {
      state = s;
      names = names;
      all = all;
      calls = calls;
      prefix = prefix;
      defs = d;
      given = are;
      naming = naming;
      variables = variables;
      defines = defines;
      calling = is;
    } in
    let long : length text ≡ length (lines_of_defs (in_text printing) d.list) = ap length same in
    subst (λ (t : List ℕ). Says s names t (Ok d)) (sym same)
    (lines_say printing fresh near readable
    (λ k def at. let room = text_room (in_text printing) hold binders_hold d.list k def at in omega (arith, room, long, short)))
