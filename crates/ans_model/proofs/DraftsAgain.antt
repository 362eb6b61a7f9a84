-- The drafts that the printed definitions lead through: each next definition has a new name, and the owner that it had.
use Rattle.std.proofs.Common.{◌≡◌, ◌∙◌, inl, inr, sym, ap, refl, subst, ℕ, ◌+◌, ◌<◌, true, false, ◌&&◌, ◌||◌, List, [], ◌∷◌, ◌++◌, length, Option, Some, None, slice_get, codes, arith}
use Rattle.std.specs.Prelude.{is_some}
use Rattle.std.specs.Str.{bytes_eq}
use Rattle.std.proofs.lemmas.List.{length-append}
use Rattle.std.proofs.lemmas.Option.{slice_get_within}
use Rattle.chc_sorts.specs.Functions.{functions}
use Rattle.chc_sorts.specs.Groups.{fixed_functions}
use Rattle.chc_sorts.specs.Names.{has_name}
use Rattle.chc_sorts.specs.Operators.{operator_rows}
use Rattle.chc_sorts.specs.Signature.{Signature}
use Rattle.chc_sorts.specs.Sorts.{same_sort, same_sorts}
use Rattle.chc_sorts.specs.declared.sort.Sort.{Sort}
use Rattle.chc_sorts.specs.declared.sort.Sort.TheVariants as sort
use Rattle.chc_sorts.proofs.SameSort.{same_itself, same_sorts_itself}
use Rattle.chc_elab.specs.declared.symbols.Symbol.{Symbol}
use Rattle.chc_elab.specs.declared.symbols.Symbol.TheVariants as symbol
use Rattle.chc_elab.proofs.Locals.{either_false}
use Rattle.chc_state.specs.declared.clause.PredDecl.{PredDecl}
use Rattle.chc_state.specs.declared.defs.Def.{Def}
use Rattle.chc_state.specs.Definitions.{IsPredicateOf, fun_sort}
use Rattle.chc_state.proofs.Places.{beside-at, one_element}
use Rattle.chc_print.specs.Texts.{name_at}
use Rattle.term_again.proofs.TermNames.{row_names, unfixed_operator, unfound}
use Rattle.ans_model.specs.declared.draft.Draft.{Draft}
use Rattle.ans_model.specs.Defining.{is_taken}
use Rattle.ans_model.specs.Drafts.{TargetView, fresh, owner, suits}
use Rattle.ans_model.proofs.CanBeCalled.{CanBeCalled}
use Rattle.ans_model.proofs.DefinitionsRun.{IsNew, SuitsOwner, with_owner}
use Rattle.ans_model.proofs.EntriesAgain.{entries_below, entries_first, entries_kept, entries_set, entries_whole, owner_found, owner_none}
use Rattle.ans_model.proofs.NamedRows.{rows_from, rows_lack, rows_more}
use Rattle.ans_model.proofs.OwnNames.{IsCall, call_can, call_is, call_unowned, calls_differ, predicates_apart}
use Rattle.ans_model.proofs.Printing.{Printing}

-- a name that can be a definition's is not taken
untaken : (sig : Signature) (prefix name : List ℕ) → CanBeCalled sig prefix name → is_taken sig name ≡ false
unfolding fixed_functions
untaken sig prefix name can =
    let first = either_false (bytes_eq name (codes "true")) (has_name (codes "false" ∷ row_names operator_rows) name) can.unfixed in
    let second = either_false (bytes_eq name (codes "false")) (has_name (row_names operator_rows) name) first.1 in
    let no_operator = unfixed_operator name can.unfixed in
    let meaningless = unfound (functions sig) name can.free in
    λ i. first.0 i || second.0 i || is_some (no_operator i) || is_some (meaningless i)

suits_sorts : (sorts : List Sort) (def : Def) → IsPredicateOf sorts def → (same_sorts def.params sorts && same_sort def.result sort.Bool) ≡ true
suits_sorts sorts def is =
    (λ i. same_sorts (is.params i) sorts && same_sort (is.result i) sort.Bool)
    ∙ (λ i. same_sorts_itself sorts i && same_itself sort.Bool i)

module _ (printing : Printing) where
  -- what the definitions are read for
  abbrev pub target : TargetView
  target = record { state = printing.state; names = printing.all }

  abbrev draft_of : List (List ℕ × Symbol) → List Def → List (Option ℕ) → Draft
  draft_of symbols list of = record { symbols = symbols; defs = record { list = list; of = of } }

  -- the draft with the first definitions
  abbrev pub draft : List Def → Draft
  draft before = draft_of (rows_from printing.calls 0 before) before (entries_below (length before) printing.defs.of)

  -- ---- the first and the last draft

  pub first_draft : fresh target ≡ draft []
  first_draft = λ i. draft_of [] [] (entries_first printing.defs.of printing.state.preds printing.defines.entries i)

  numbered_low : (p k : ℕ) → slice_get printing.defs.of p ≡ Some (Some k) → k < length printing.defs.list
  numbered_low p k owned =
      let found = beside-at printing.defs.of printing.state.preds p (Some k) (sym printing.defines.entries) owned in
      let defined = printing.defines.each p found.0 (Some k) found.1 owned in
      slice_get_within printing.defs.list k defined.1 defined.2

  pub last_defs : (draft printing.defs.list).defs ≡ printing.defs
  last_defs = λ i. record { list = printing.defs.list; of = entries_whole (length printing.defs.list) printing.defs.of numbered_low i }

  -- ---- the next draft

  module _ (before rest : List Def) (def : Def) (whole : before ++ def ∷ rest ≡ printing.defs.list) where
    abbrev pub number : ℕ
    number = length before

    abbrev pub name : List ℕ
    name = name_at printing.calls number

    pub here : slice_get printing.defs.list number ≡ Some def
    here = ap (λ (l : List Def). slice_get l (length before)) (sym whole) ∙ in_midst before rest def
      where
        in_midst : (xs ys : List Def) (x : Def) → slice_get (xs ++ x ∷ ys) (length xs) ≡ Some x
        in_midst [] ys x = refl
        in_midst (y ∷ xs) ys x = in_midst xs ys x

    pub low : number < length printing.defs.list
    low = slice_get_within printing.defs.list number def here

    pub its_call : IsCall printing number name
    its_call = (call_is printing number low).1

    -- whose the definition is
    abbrev pub owner_by : IsCall printing number name → Option ℕ
    owner_by (inl (p, owned, at)) = Some p
    owner_by (inr (at, there, none)) = None

    live_at : (p : ℕ) → slice_get printing.defs.of p ≡ Some (Some number) → (decl : PredDecl) × (slice_get printing.state.preds p ≡ Some decl) × (decl.live ≡ true) × IsPredicateOf decl.sorts def
    live_at p owned =
        let found = beside-at printing.defs.of printing.state.preds p (Some number) (sym printing.defines.entries) owned in
        let defined = printing.defines.each p found.0 (Some number) found.1 owned in
        let same : defined.1 ≡ def = one_element defined.1 def defined.2 here in
        (found.0, found.1, defined.0, subst (IsPredicateOf found.0.sorts) same defined.3)

    owner_is : (call : IsCall printing number name) → owner target name ≡ owner_by call
    owner_is (inl (p, owned, at)) =
        let live = live_at p owned in
        let zero_more : 0 + p ≡ p = omega arith in
        owner_found 0 printing.all printing.state.preds p name live.0 at live.1 live.2 (λ q there. predicates_apart printing q p name there at) ∙ ap Some zero_more
    owner_is (inr (at, there, none)) = owner_none 0 printing.all printing.state.preds name (call_unowned printing number name there)

    suits_it : (call : IsCall printing number name) → SuitsOwner target def (owner_by call)
    suits_it (inl (p, owned, at)) =
        let live = live_at p owned in
        ap (λ (o : Option PredDecl). suits o def) live.1 ∙ suits_sorts live.0.sorts def live.3
    suits_it (inr (at, there, none)) = tt

    grown : length (before ++ def ∷ []) ≡ number + 1
    grown = length-append before (def ∷ [])

    more_rows : rows_from printing.calls 0 before ++ (name, symbol.Def number (fun_sort def)) ∷ [] ≡ rows_from printing.calls 0 (before ++ def ∷ [])
    more_rows =
        let zero_more : number ≡ 0 + number = omega arith in
        ap (λ k. rows_from printing.calls 0 before ++ (name_at printing.calls k, symbol.Def k (fun_sort def)) ∷ []) zero_more ∙ sym (rows_more printing.calls 0 before def)

    next_is : (call : IsCall printing number name) → with_owner target (draft before) name def (owner_by call) ≡ draft (before ++ def ∷ [])
    next_is (inl (p, owned, at)) =
        let entries = entries_set number printing.defs.of p owned (λ q other. printing.defines.apart q p number other owned) ∙ ap (λ k. entries_below k printing.defs.of) (sym grown) in
        λ i. draft_of (more_rows i) (before ++ def ∷ []) (entries i)
    next_is (inr (at, there, none)) =
        let entries = entries_kept number printing.defs.of none ∙ ap (λ k. entries_below k printing.defs.of) (sym grown) in
        λ i. draft_of (more_rows i) (before ++ def ∷ []) (entries i)

    -- the name is new
    pub new_name : IsNew target (draft before) name
    new_name = record {
      untaken = untaken printing.state.sig printing.prefix name (call_can printing number name its_call);
      undefined = rows_lack printing.calls 0 before name (λ k low_k high same.
          let under : k < length printing.defs.list = omega (arith, high, low) in
          let other = subst (IsCall printing k) same (call_is printing k under).1 in
          let e : k ≡ number = calls_differ printing k number name other its_call in
          omega (arith, high, e));
    }

    pub owner_there : owner target name ≡ owner_by its_call
    owner_there = owner_is its_call

    pub owner_suits : SuitsOwner target def (owner_by its_call)
    owner_suits = suits_it its_call

    pub next_draft : with_owner target (draft before) name def (owner_by its_call) ≡ draft (before ++ def ∷ [])
    next_draft = next_is its_call
