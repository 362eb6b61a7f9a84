-- The lines of definitions lead from one draft to the next, where each adds its own definition; so the whole text spells `sat`
-- and a group of them.
use Rattle.std.proofs.Common.{◌≡◌, ◌∙◌, sym, ap, refl, subst, ℕ, ◌+◌, true, List, [], ◌∷◌, ◌++◌, length, codes, append_assoc}
use Rattle.std.proofs.lemmas.List.{append-nil, length-append}
use Rattle.chc_sexpr.specs.Spelling.{Spells}
use Rattle.chc_sexpr.specs.declared.tree.Tree.{Tree}
use Rattle.chc_sexpr.specs.declared.tree.Tree.TheVariants.{Symbol, Group}
use Rattle.chc_sexpr.proofs.Written.{TreesAt, Writes, no_more_at, spells_from}
use Rattle.chc_state.specs.declared.defs.Def.{Def}
use Rattle.chc_print.specs.Script.{names_over}
use Rattle.chc_print.specs.Texts.{Names, name_at}
use Rattle.term_again.proofs.TermTrees.{Begins, IsNone, IsSymbolOf, bare_writes, begin_at, group_writes}
use Rattle.ans_model.specs.declared.draft.Draft.{Draft}
use Rattle.ans_model.specs.Texts.{definitions_text, lines_of_defs}
use Rattle.ans_model.proofs.DefinitionsRun.{Leads, Runs, runs_line, runs_out}
use Rattle.ans_model.proofs.DraftsAgain.{draft}
use Rattle.ans_model.proofs.FormsWritten.{definition_line, line_is}
use Rattle.ans_model.proofs.Printing.{Printing}

module _ (printing : Printing) where
  -- the names that the text has
  abbrev pub in_text : Names
  in_text = names_over printing.state printing.all printing.calls printing.prefix

  module _ (Step : Draft → Draft → Tree → Type 0) where
    -- the line of each definition is written as a tree that adds it
    abbrev pub LinesAdd : Type 0
    LinesAdd = (before rest : List Def) (def : Def) → before ++ def ∷ rest ≡ printing.defs.list
        → Writes (Step (draft printing before) (draft printing (before ++ def ∷ []))) 999 (definition_line in_text (name_at printing.calls (length before)) def)

    -- what the text spells
    pub record IsSpelled : Type 0 where
      pub sat : ℕ
      pub group : ℕ
      pub inner : List Tree
      pub spelled : Spells (lines_of_defs in_text printing.defs.list) (Symbol sat (codes "sat") ∷ Group group inner ∷ [])
      pub leads : Leads Step (draft printing []) (draft printing printing.defs.list) inner

    module _ (add : LinesAdd) where
      lines_run : (before rest : List Def) → before ++ rest ≡ printing.defs.list → Runs Step (draft printing before) (draft printing printing.defs.list) (definitions_text in_text (length before) rest)
      lines_run before [] whole = subst (λ (l : List Def). Runs Step (draft printing before) (draft printing l) []) (sym (append-nil before) ∙ whole) (runs_out Step (draft printing before))
      lines_run before (def ∷ rest) whole =
          let called : List ℕ = name_at printing.calls (length before) in
          let next : (before ++ def ∷ []) ++ rest ≡ printing.defs.list = append_assoc before (def ∷ []) rest ∙ whole in
          let grown : length (before ++ def ∷ []) ≡ length before + 1 = length-append before (def ∷ []) in
          let more : List ℕ = definitions_text in_text (length before + 1) rest in
          subst (Runs Step (draft printing before) (draft printing printing.defs.list)) (ap (λ (l : List ℕ). l ++ more) (sym (line_is in_text called def)))
          (runs_line Step (draft printing before) (draft printing (before ++ def ∷ [])) (draft printing printing.defs.list) (definition_line in_text called def) more
          (add before rest def whole)
          (subst (λ n. Runs Step (draft printing (before ++ def ∷ [])) (draft printing printing.defs.list) (definitions_text in_text n rest)) grown (lines_run (before ++ def ∷ []) rest next)))

      abbrev lines : List ℕ
      lines = definitions_text in_text 0 printing.defs.list

      -- the tree is a group of the definitions
      abbrev IsGroup : Tree → Type 0
      IsGroup tree = (place : ℕ) × (inner : List Tree) × (tree ≡ Group place inner) × Leads Step (draft printing []) (draft printing printing.defs.list) inner

      abbrev group_text : List ℕ
      group_text = 40 ∷ (10 ∷ lines) ++ 41 ∷ []

      group_written : Writes IsGroup 1000 group_text
      group_written =
          group_writes (Leads Step (draft printing []) (draft printing printing.defs.list)) IsGroup 999 (10 ∷ lines) (lines_run [] printing.defs.list refl) (λ place trees h. (place, trees, refl, h))

      whole_text : codes "sat" ++ ((10 ∷ []) ++ group_text ++ 10 ∷ []) ≡ lines_of_defs in_text printing.defs.list
      whole_text = ap (λ (l : List ℕ). codes "sat\n(\n" ++ l) (append_assoc lines (41 ∷ []) (10 ∷ [])) ∙ sym (append_assoc (codes "sat\n(\n") lines (codes ")\n"))

      whole_trees : TreesAt (Begins (IsSymbolOf (codes "sat")) (Begins IsGroup IsNone)) 1000 true 0 (lines_of_defs in_text printing.defs.list)
      whole_trees =
          subst (TreesAt (Begins (IsSymbolOf (codes "sat")) (Begins IsGroup IsNone)) 1000 true 0) whole_text
          (begin_at 1000 true (IsSymbolOf (codes "sat")) (Begins IsGroup IsNone) 0 [] (codes "sat") ((10 ∷ []) ++ group_text ++ 10 ∷ []) refl
          (bare_writes 1000 (codes "sat") refl refl 0 ((10 ∷ []) ++ group_text ++ 10 ∷ []) refl)
          (begin_at 1000 true IsGroup IsNone 3 (10 ∷ []) group_text (10 ∷ []) refl (group_written 4 (10 ∷ []) refl) (no_more_at IsNone 1000 true (4 + length group_text) (10 ∷ []) refl tt)))

      these : (trees : List Tree) → Spells (lines_of_defs in_text printing.defs.list) trees → Begins (IsSymbolOf (codes "sat")) (Begins IsGroup IsNone) trees → IsSpelled
      these [] spells h = absurd h
      these (a ∷ []) spells h = absurd h.1
      these (a ∷ b ∷ []) spells h =
          let group = h.1.0 in
          record {
            sat = h.0.0;
            group = group.0;
            inner = group.1;
            spelled = subst (Spells (lines_of_defs in_text printing.defs.list)) (λ i. h.0.1 i ∷ group.2 i ∷ []) spells;
            leads = group.3;
          }
      these (a ∷ b ∷ c ∷ more) spells h = absurd h.1.1

      -- the text spells `sat` and a group of definitions, each of which adds its own
      pub text_spells : IsSpelled
      text_spells =
          let found = spells_from (Begins (IsSymbolOf (codes "sat")) (Begins IsGroup IsNone)) (lines_of_defs in_text printing.defs.list) whole_trees in
          these found.0 found.1 found.2
