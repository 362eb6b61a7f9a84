-- The body of each definition is written as a tree that is read as it, or stands for it, over the definitions before.
use Rattle.std.proofs.Common.{◌≡◌, ◌∙◌, sym, ap, refl, subst, ℕ, ◌+◌, ◌≤◌, ◌<◌, ◌^◌, true, List, [], ◌∷◌, ◌++◌, length, take, Some, Ok, slice_get, arith}
use Rattle.std.specs.List.{list_all}
use Rattle.std.proofs.lemmas.Bool.{and_parts}
use Rattle.std.proofs.lemmas.List.{append-nil}
use Rattle.std.proofs.lemmas.List.Folds.{list_all-append}
use Rattle.std.proofs.lemmas.Option.{slice_get_within}
use Rattle.chc_sorts.specs.Names.{look_up}
use Rattle.chc_sorts.specs.Functions.{functions}
use Rattle.chc_sexpr.specs.declared.tree.Tree.{Tree}
use Rattle.chc_sexpr.proofs.Written.{Writes}
use Rattle.chc_terms.specs.Counts.{depth}
use Rattle.chc_terms.specs.Numbers.{numbers_fit}
use Rattle.chc_terms.specs.Sorted.{Context}
use Rattle.chc_terms.specs.declared.fun_sort.FunSort.{FunSort}
use Rattle.chc_elab.specs.declared.symbols.Symbol.TheVariants as symbol
use Rattle.chc_elab.specs.Sites.{Setting, ◌>>>◌}
use Rattle.chc_elab.specs.Stands.{IsRead, IsSaid}
use Rattle.chc_elab.proofs.Readings.{none_some}
use Rattle.chc_elab.proofs.StandsRead.{stands_read}
use Rattle.chc_state.specs.declared.defs.Def.{Def}
use Rattle.chc_state.specs.Definitions.{context_before, fun_sort}
use Rattle.chc_state.specs.Names.{is_writable_name, signature_names}
use Rattle.chc_state.proofs.Places.{longer-at, mapped-at, taken-at}
use Rattle.chc_print.specs.Script.{names_over}
use Rattle.chc_print.specs.Texts.{Names, name_at, term_text}
use Rattle.term_again.specs.Bound.{most_bound}
use Rattle.term_again.specs.Naming.{AreFresh, AreNamedFor, IsNamedContext, NamesAreRead, NamesCall, numbered_site}
use Rattle.term_again.specs.Terms.{CanBeWritten, IsTermOver, WrittenIsNear}
use Rattle.term_again.proofs.TermNames.{unfixed_literal, unfixed_operator, unfound}
use Rattle.term_again.proofs.TermTexts.{names_read, read_term_written, said_term_written}
use Rattle.term_again.proofs.TermTrees.{writes_wider}
use Rattle.ans_model.specs.Drafts.{setting}
use Rattle.ans_model.specs.Readable.{IsReadable}
use Rattle.ans_model.proofs.DraftsAgain.{draft, here, its_call, target}
use Rattle.ans_model.proofs.FormsWritten.{IsBody, IsDefinitionTree, definition_line, line_writes}
use Rattle.ans_model.proofs.NamedRows.{rows_from, rows_have}
use Rattle.ans_model.proofs.OwnNames.{IsCall, call_can, call_is, calls_differ}
use Rattle.ans_model.proofs.Printing.{Printing}

module _ (printing : Printing) (fresh : AreFresh printing.state.sig) (before rest : List Def) (def : Def) (whole : before ++ def ∷ rest ≡ printing.defs.list) where
  abbrev in_text : Names
  in_text = names_over printing.state printing.all printing.calls printing.prefix

  -- what the definition is read over: the definitions before it
  abbrev pub over : Setting
  over = setting (target printing) (draft printing before)

  named : AreNamedFor printing.state printing.names printing.prefix over
  named = record {
    fresh = fresh;
    writable = (and_parts (list_all is_writable_name printing.names) (list_all is_writable_name (signature_names printing.state.sig)) (sym (list_all-append is_writable_name printing.names (signature_names printing.state.sig)) ∙ printing.given.writable)).1;
    variables = printing.variables;
    more = [];
    front = sym (append-nil printing.state.sig.datatypes);
  }

  -- the names of datatypes mean what they name
  pub datatypes_read : NamesAreRead printing.state.sig over.sig printing.prefix
  datatypes_read = names_read printing.state printing.names printing.all printing.calls printing.prefix over named

  abbrev cx : Context
  cx = context_before printing.state.sig printing.defs.list (length before)

  at_number : slice_get printing.defs.list (length before) ≡ Some def
  at_number = here printing before rest def whole

  -- each definition before it stands under its name
  call_named : (k : ℕ) (e : Def) → k < length before → slice_get printing.defs.list k ≡ Some e → NamesCall over printing.prefix k (fun_sort e) (name_at printing.calls k)
  call_named k e low at =
      let inside : k < length printing.defs.list = slice_get_within printing.defs.list k e at in
      let call = (call_is printing k inside).1 in
      let can = call_can printing k (name_at printing.calls k) call in
      let none_more : 0 + k ≡ k = omega arith in
      let there : slice_get before k ≡ Some e = longer-at before (def ∷ rest) k e low (ap (λ (l : List Def). slice_get l k) whole ∙ at) in
      record {
        quotable = can.quotable;
        plain = unfixed_operator (name_at printing.calls k) can.unfixed;
        untrue = unfixed_literal (name_at printing.calls k) can.unfixed;
        meaningless = unfound (functions printing.state.sig) (name_at printing.calls k) can.free;
        unnumbered = can.unnumbered;
        found = subst (λ n. look_up (rows_from printing.calls 0 before) (name_at printing.calls n) ≡ Some (symbol.Def n (fun_sort e))) none_more
            (rows_have printing.calls 0 before k e there (λ j low_j high same. earlier j (omega (arith, high)) (same ∙ ap (name_at printing.calls) none_more)));
      }
    where
      earlier : (j : ℕ) → j < k → name_at printing.calls j ≡ name_at printing.calls k → ⊥
      earlier j less same =
          let inside : k < length printing.defs.list = slice_get_within printing.defs.list k e at in
          let call = (call_is printing k inside).1 in
          let other = (call_is printing j (omega (arith, less, inside))).1 in
          let together = calls_differ printing j k (name_at printing.calls k) (subst (IsCall printing j) same other) call in
          omega (arith, less, together)

  context_named : IsNamedContext printing.state printing.all printing.calls printing.prefix over cx
  context_named = record {
    sig = refl;
    predicate = λ p sorts at. absurd (none_some sorts at);
    definition = λ k f at.
        let found = mapped-at fun_sort (take (length before) printing.defs.list) k f at in
        let inside = taken-at (length before) printing.defs.list k found.0 found.1 in
        subst (λ (g : FunSort). NamesCall over printing.prefix k g (name_at printing.calls k)) found.2 (call_named k found.0 inside.0 inside.1);
  }

  abbrev text : List ℕ
  text = term_text in_text def.body (length def.params)

  -- there are fewer variables than a text can have bytes
  abbrev pub HasRoom : Type 0
  HasRoom = length def.params + most_bound def.body ≤ 2 ^ 64

  over_context : WrittenIsNear → numbers_fit def.body ≡ true → HasRoom → IsTermOver cx over def.params def.body def.result
  over_context near numbers few =
      let sound = printing.defines.definitions (length before) def at_number in
      let can : CanBeWritten cx def.params def.body def.result = record { sorted = sound.sorted; fitting = sound.body_fits; numbers = numbers } in
      record { can = can; near = near cx def.params def.body def.result can; few = few }

  -- a readable body's text is a tree that is read as the body
  pub body_read : WrittenIsNear → IsReadable def → HasRoom → Writes (IsBody over printing.prefix def) 998 text
  body_read near readable few =
      let levels = readable.few_levels in
      writes_wider (λ tree. IsRead over (numbered_site printing.prefix def.params) tree (record { term = def.body; sort = def.result })) (IsBody over printing.prefix def) (depth def.body + 17) 998 (omega (arith, levels))
      (λ tree stands. ap (λ r. r >>> (λ t. Ok (record { term = t.term; sort = t.sort }))) (stands_read over (numbered_site printing.prefix def.params) tree (record { term = def.body; sort = def.result }) stands))
      text
      (read_term_written printing.state printing.names printing.all printing.calls printing.prefix over named cx context_named def.params def.body def.result
      (over_context near readable.numbers few) (readable.few_nodes, readable.few_levels))

  -- the tree stands for the body, whatever its size
  abbrev pub IsSaidBody : Tree → Type 0
  IsSaidBody tree = IsSaid over (numbered_site printing.prefix def.params) tree (record { term = def.body; sort = def.result })

  -- a body's text that isn't too deep is a tree that stands for the body
  pub body_said : WrittenIsNear → depth def.body + 19 ≤ 1000 → numbers_fit def.body ≡ true → HasRoom → Writes IsSaidBody 998 text
  body_said near levels numbers few =
      writes_wider IsSaidBody IsSaidBody (depth def.body + 17) 998 (omega (arith, levels)) (λ tree stands. stands) text
      (said_term_written printing.state printing.names printing.all printing.calls printing.prefix over named cx context_named def.params def.body def.result (over_context near numbers few))

  -- where the body's text is a tree of a kind, the line is a tree of the definition's form with such a body
  pub line_written : (Body : Tree → Type 0) → HasRoom → Writes Body 998 text
      → Writes (IsDefinitionTree over printing.prefix (name_at printing.calls (length before)) def Body) 999 (definition_line in_text (name_at printing.calls (length before)) def)
  line_written Body few writes =
      let number : ℕ = length before in
      let called : List ℕ = name_at printing.calls number in
      let can = call_can printing number called (its_call printing before rest def whole) in
      let sound = printing.defines.definitions number def at_number in
      let small : length def.params ≤ 2 ^ 64 = omega (arith, few) in
      line_writes in_text over printing.variables.marks printing.variables.form datatypes_read called def Body 998 (omega arith) can.quotable small sound.params_fit sound.result_fits writes
