-- The text of definitions says them whatever their sizes and number, where its trees can be spelled.
use Rattle.std.proofs.Common.{◌≡◌, ◌∙◌, sym, ap, refl, subst, ℕ, ◌+◌, ◌≤◌, ◌<◌, ◌^◌, cond, List, [], ◌∷◌, ◌++◌, length, Some, Ok, slice_get, arith}
use Rattle.std.specs.Prelude.{is_some}
use Rattle.chc_sexpr.specs.declared.tree.Tree.{Tree, out-Tree}
use Rattle.chc_elab.specs.SortTrees.{place_at}
use Rattle.chc_state.specs.declared.defs.Def.{Def}
use Rattle.chc_state.specs.declared.defs.Defs.{Defs}
use Rattle.chc_state.specs.Definitions.{Defines}
use Rattle.chc_state.specs.Names.{AreNamesOf}
use Rattle.chc_state.specs.States.{StateView}
use Rattle.chc_print.specs.Texts.{name_at}
use Rattle.term_again.specs.Bound.{BindersHoldTheirs, TextHoldsBound, most_bound}
use Rattle.term_again.specs.Naming.{AreFresh, variable_names}
use Rattle.term_again.specs.Terms.{WrittenIsNear}
use Rattle.term_again.proofs.TermTrees.{writes_wider}
use Rattle.ans_model.specs.declared.draft.Draft.{Draft}
use Rattle.ans_model.specs.Defining.{new_name}
use Rattle.ans_model.specs.Drafts.{TargetView, fresh, owner, placed, setting}
use Rattle.ans_model.specs.Forms.{all_fit, misfit, without_model}
use Rattle.ans_model.specs.Texts.{IsDefsText, lines_of_defs}
use Rattle.ans_model.specs.Unlimited.{CanBeSpelled, SayAll, SaysNext, SaysUnlimited}
use Rattle.ans_model.proofs.BodiesAgain.{IsSaidBody, body_said, line_written, over}
use Rattle.ans_model.proofs.DefinitionsRun.{Leads, new_is, placed_is}
use Rattle.ans_model.proofs.DraftsAgain.{draft, first_draft, here, its_call, last_defs, next_draft, owner_by, owner_suits, owner_there, target}
use Rattle.ans_model.proofs.DraftsAgain as drafts
use Rattle.ans_model.proofs.FormsWritten.{IsDefinitionTree, definition_line}
use Rattle.ans_model.proofs.LinesRun.{LinesAdd, in_text, text_spells}
use Rattle.ans_model.proofs.Printing.{Printing}
use Rattle.ans_model.proofs.TextAgain.{no_model, none_is_missing}
use Rattle.ans_model.proofs.TextRoom.{text_room}

-- ---- trees in order

module _ (target : TargetView) where
  all_say : (d e : Draft) (trees : List Tree) → Leads (SaysNext target) d e trees → SayAll target d e trees
  all_say d e [] h = h
  all_say d e (t ∷ ts) (next, one, more) = (next, one, all_say next e ts more)

  all_fitting : (d e : Draft) (trees : List Tree) → Leads (SaysNext target) d e trees → all_fit trees ≡ Ok tt
  all_fitting d e [] h = refl
  all_fitting d e (t ∷ ts) (next, one, more) = ap (λ b. cond b (all_fit ts) (misfit t)) (ap is_some one.is) ∙ all_fitting next e ts more

module _ (printing : Printing) (named : AreFresh printing.state.sig) (near : WrittenIsNear) (can : CanBeSpelled printing.defs)
    (room : (k : ℕ) (def : Def) → slice_get printing.defs.list k ≡ Some def → length def.params + most_bound def.body ≤ 2 ^ 64) where
  -- ---- one definition

  module _ (before rest : List Def) (def : Def) (whole : before ++ def ∷ rest ≡ printing.defs.list) where
    abbrev called : List ℕ
    called = name_at printing.calls (length before)

    abbrev body : Tree → Type 0
    body = IsSaidBody printing named before rest def whole

    tree_says : (tree : Tree) → IsDefinitionTree (over printing named before rest def whole) printing.prefix called def body tree
        → SaysNext (target printing) (draft printing before) (draft printing (before ++ def ∷ [])) tree
    tree_says tree t =
        let place : ℕ = place_at (out-Tree tree) in
        let d : Draft = draft printing before in
        let whose = owner_by printing before rest def whole (its_call printing before rest def whole) in
        record {
          form = t.form;
          def = def;
          is = t.is;
          new = ap (λ n. new_name (setting (target printing) d) place n) t.named ∙ new_is (target printing) d place called (drafts.new_name printing before rest def whole);
          of_form = record { names = variable_names printing.prefix 0 def.params; named = t.params_named; params = t.params; values = t.values; body = t.body };
          placed_there =
              ap (λ n. placed (target printing) d place n def (owner (target printing) n)) t.named
              ∙ ap (placed (target printing) d place called def) (owner_there printing before rest def whole)
              ∙ placed_is (target printing) d place called def whose (owner_suits printing before rest def whole)
              ∙ ap Ok (next_draft printing before rest def whole);
        }

  lines_add : LinesAdd printing (SaysNext (target printing))
  lines_add before rest def whole =
      let number : ℕ = length before in
      let at = here printing before rest def whole in
      let few = room number def at in
      let kind : Tree → Type 0 = body before rest def whole in
      writes_wider (IsDefinitionTree (over printing named before rest def whole) printing.prefix (name_at printing.calls number) def kind)
      (SaysNext (target printing) (draft printing before) (draft printing (before ++ def ∷ []))) 999 999 (omega arith)
      (tree_says before rest def whole)
      (definition_line (in_text printing) (name_at printing.calls number) def)
      (line_written printing named before rest def whole kind few
      (body_said printing named before rest def whole near (can.levels number def at) (can.numbers number def at) few))

  -- ---- the whole text

  pub lines_say : SaysUnlimited printing.state printing.names (lines_of_defs (in_text printing) printing.defs.list) printing.defs
  lines_say =
      let spelt = text_spells printing (SaysNext (target printing)) lines_add in
      let first : Draft = draft printing [] in
      let last : Draft = draft printing printing.defs.list in
      let same : without_model spelt.inner ≡ spelt.inner = no_model spelt.inner (all_fitting (target printing) first last spelt.inner spelt.leads) in
      record {
        all = printing.all;
        sat = spelt.sat;
        group = spelt.group;
        inner = spelt.inner;
        last = last;
        spelled = spelt.spelled;
        named = printing.naming;
        said = subst (λ d. SayAll (target printing) d last (without_model spelt.inner)) (sym (first_draft printing))
            (subst (SayAll (target printing) first last) (sym same) (all_say (target printing) first last spelt.inner spelt.leads));
        these = last_defs printing;
        whole = none_is_missing printing;
      }

-- the text of definitions says them, where its names can be those of the state's predicates and its trees can be spelled
pub text_unlimited : (d : Defs) (s : StateView) (names : List (List ℕ)) (text : List ℕ) → Defines d s → AreFresh s.sig → WrittenIsNear → TextHoldsBound → BindersHoldTheirs
    → IsDefsText d s names text → AreNamesOf s names → CanBeSpelled d → length text < 2 ^ 64 → SaysUnlimited s names text d
text_unlimited d s names text defines fresh near hold binders_hold (prefix, all, calls, variables, naming, is, same) are can short =
    let printing : Printing = record {
      state = s;
      names = names;
      all = all;
      calls = calls;
      prefix = prefix;
      defs = d;
      given = are;
      naming = naming;
      variables = variables;
      defines = defines;
      calling = is;
    } in
    let long : length text ≡ length (lines_of_defs (in_text printing) d.list) = ap length same in
    subst (λ (t : List ℕ). SaysUnlimited s names t d) (sym same)
    (lines_say printing fresh near can
    (λ k def at. let room = text_room (in_text printing) hold binders_hold d.list k def at in omega (arith, room, long, short)))
