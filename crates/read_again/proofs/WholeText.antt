-- The text of a script says it, where the line of each clause says its own assertion.
use Rattle.std.proofs.Common.{◌≡◌, ◌∙◌, sym, ap, refl, subst, ℕ, ◌+◌, ◌≤◌, true, false, nat_lt, List, [], ◌∷◌, ◌++◌, length, map, take, Ok, codes, append_assoc, arith}
use Rattle.std.specs.List.{list_all, list_any, concat}
use Rattle.std.proofs.lemmas.List.{append-nil}
use Rattle.chc_sorts.specs.declared.data.Data.{Data}
use Rattle.chc_sorts.specs.Signature.{Signature, no_datatypes}
use Rattle.chc_sorts.specs.Functions.{function_names}
use Rattle.chc_sorts.specs.Groups.{fixed_functions}
use Rattle.chc_sorts.specs.Listing.{AreFresh}
use Rattle.chc_sexpr.specs.declared.tree.Tree.{Tree, out-Tree}
use Rattle.chc_sexpr.specs.declared.tree.Tree.TheVariants.{Group}
use Rattle.chc_sexpr.proofs.Written.{Writes, TreesAt, spells_from}
use Rattle.chc_terms.specs.declared.term.Term.{Term}
use Rattle.chc_elab.specs.Sites.{Setting, ◌>>>◌}
use Rattle.chc_elab.specs.SortTrees.{place_at}
use Rattle.chc_state.specs.declared.clause.Clause.{Clause}
use Rattle.chc_state.specs.declared.clause.PredDecl.{PredDecl}
use Rattle.chc_state.specs.States.{StateView}
use Rattle.chc_state.specs.Limits.{live_count}
use Rattle.chc_state.proofs.Limiting.{WithinLimits}
use Rattle.chc_script.specs.declared.whole.progress.Progress.{Progress}
use Rattle.chc_script.specs.declared.whole.progress.Progress.TheVariants as progress
use Rattle.chc_script.specs.Drafts.{DraftView, PredicatesView, AssertedView, fresh, no_predicates, none_asserted, setting, held_to}
use Rattle.chc_script.specs.Commands.{logic_set, script}
use Rattle.chc_script.specs.Scripts.{ScriptView}
use Rattle.chc_script.specs.WholeScripts.{Says, command_at, at_end}
use Rattle.chc_print.specs.Texts.{Names}
use Rattle.chc_print.specs.Script.{clause_text, declarations_text, lines_of_script}
use Rattle.chc_print.specs.Datatypes.{groups_text}
use Rattle.chc_print.specs.Reach.{state_reach}
use Rattle.read_again.specs.FirstGroups.{total, before_group, first_groups, group_at, groups_reached, reached_signature, HasOwnNames, ComesInGroups}
use Rattle.read_again.specs.LivePredicates.{live_names, live_preds}
use Rattle.read_again.proofs.ReadSorts.{AreNumbered}
use Rattle.term_again.proofs.TermTrees.{Begins, IsNone, writes_wider, last_at, group_writes}
use Rattle.read_again.proofs.TreesInOrder.{first_at}
use Rattle.read_again.proofs.WrittenSorts.{IsNamed, named_symbol, writes_word, AreWritable}
use Rattle.read_again.proofs.WrittenGroups.{form_of-Group, is_writable_data}
use Rattle.read_again.proofs.GroupsAdded.{grouped, first_numbered, first_own}
use Rattle.read_again.proofs.GroupsRun.{groups_from}
use Rattle.read_again.proofs.FreshNames.{CanBeDeclared}
use Rattle.read_again.proofs.PredicatesRead.{is_fitting, CanFollow, predicates_run}
use Rattle.read_again.proofs.ClausesRun.{AllAssert, asserting, clauses_run, whole_passes}
use Rattle.read_again.proofs.Lines.{Turns, Leads, Runs, runs_line, runs_out, first_line}

-- ---- the first and the last line

logic_is : (place : ℕ) (trees : List Tree) → Begins (IsNamed (codes "set-logic")) (Begins (IsNamed (codes "HORN")) IsNone) trees
    → Turns (progress.Going fresh) (progress.Going (record { logic = true; sig = no_datatypes; preds = no_predicates; asserted = none_asserted })) (Group place trees)
logic_is place [] h = absurd h
logic_is place (a ∷ []) h = absurd h.1
logic_is place (a ∷ b ∷ []) h =
    let at : ℕ = place_at (out-Tree (Group place (a ∷ b ∷ []))) in
    ap (command_at fresh at) (form_of-Group place (codes "set-logic") a (b ∷ []) h.0)
    ∙ ap (λ o. logic_set fresh at o >>> (λ d. Ok (progress.Going d))) (named_symbol (codes "HORN") b h.1.0)
logic_is place (a ∷ b ∷ c ∷ more) h = absurd h.1.1

logic_writes : Writes (Turns (progress.Going fresh) (progress.Going (record { logic = true; sig = no_datatypes; preds = no_predicates; asserted = none_asserted }))) 1000 (codes "(set-logic HORN)")
logic_writes =
    writes_wider (Turns (progress.Going fresh) logical) (Turns (progress.Going fresh) logical) 1 1000 (omega arith) (λ t h. h) (codes "(set-logic HORN)")
    (group_writes (Begins (IsNamed (codes "set-logic")) (Begins (IsNamed (codes "HORN")) IsNone)) (Turns (progress.Going fresh) logical) 0 (codes "set-logic HORN")
    (λ place. first_at 0 false (IsNamed (codes "set-logic")) (Begins (IsNamed (codes "HORN")) IsNone) place [] (codes "set-logic") (32 ∷ codes "HORN") refl refl (writes_word 0 (codes "set-logic") refl refl)
    (λ next. last_at 0 false (IsNamed (codes "HORN")) next (32 ∷ []) (codes "HORN") refl (writes_word 0 (codes "HORN") refl refl)))
    logic_is)
  where
    logical : Progress
    logical = progress.Going (record { logic = true; sig = no_datatypes; preds = no_predicates; asserted = none_asserted })

module _ (sig : Signature) (preds : PredicatesView) (a : AssertedView) (within : WithinLimits preds.decls a.clauses) where
  abbrev whole_draft : DraftView
  whole_draft = asserting sig preds a

  end_is : (place : ℕ) (trees : List Tree) → Begins (IsNamed (codes "check-sat")) IsNone trees → Turns (progress.Going whole_draft) (progress.Ended (script whole_draft)) (Group place trees)
  end_is place [] h = absurd h
  end_is place (b ∷ []) h =
      let at : ℕ = place_at (out-Tree (Group place (b ∷ []))) in
      ap (command_at whole_draft at) (form_of-Group place (codes "check-sat") b [] h.0)
      ∙ ap (λ o. held_to at o >>> (λ _. Ok (script whole_draft)) >>> (λ X. Ok (progress.Ended X))) (whole_passes preds.decls a.clauses within)
  end_is place (b ∷ c ∷ more) h = absurd h.1

  end_writes : Writes (Turns (progress.Going whole_draft) (progress.Ended (script whole_draft))) 1000 (codes "(check-sat)")
  end_writes =
      writes_wider (Turns (progress.Going whole_draft) (progress.Ended (script whole_draft))) (Turns (progress.Going whole_draft) (progress.Ended (script whole_draft))) 1 1000 (omega arith) (λ t h. h) (codes "(check-sat)")
      (group_writes (Begins (IsNamed (codes "check-sat")) IsNone) (Turns (progress.Going whole_draft) (progress.Ended (script whole_draft))) 0 (codes "check-sat")
      (λ place. last_at 0 false (IsNamed (codes "check-sat")) place [] (codes "check-sat") refl (writes_word 0 (codes "check-sat") refl refl))
      end_is)

  end_runs : Runs (progress.Going whole_draft) (progress.Ended (script whole_draft)) (codes "(check-sat)\n")
  end_runs = runs_line (progress.Going whole_draft) (progress.Ended (script whole_draft)) (progress.Ended (script whole_draft)) (codes "(check-sat)") [] end_writes (runs_out (progress.Ended (script whole_draft)))

-- ---- the whole

none_first : {X : Type 0} (xs : List X) → [] ≡ take 0 xs
none_first [] = refl
none_first (x ∷ xs) = refl

no_groups : (sig : Signature) → no_datatypes ≡ first_groups sig 0
no_groups sig = λ i. signature_of (taken i) (none_first sig.groups i)
  where
    signature_of : List Data → List ℕ → Signature
    signature_of datatypes groups = record { datatypes = datatypes; groups = groups }

    taken : [] ≡ take (before_group sig 0) sig.datatypes
    taken = none_first sig.datatypes ∙ ap (λ (l : List ℕ). take (total l) sig.datatypes) (none_first sig.groups)

module _ (names : Names) (s : StateView) where
  -- the datatypes and predicates that the text declares
  abbrev printed : Signature
  printed = reached_signature names.sig (state_reach s)

  abbrev declares : PredicatesView
  declares = record { names = live_names names.preds 0 s.preds; decls = live_preds s.preds }

  -- the script with these, and with these assertions and their clauses
  abbrev pub said : List Term → List Clause → ScriptView
  said ts agains = record { names = declares.names; state = record { sig = printed; preds = declares.decls; clauses = agains }; assertions = ts }

  -- what terms are read over
  abbrev pub printed_setting : Setting
  printed_setting = setting (asserting printed declares none_asserted)

  -- what is asked of the state and of the names: its signature comes in groups, and all its names can be written; the live
  -- predicates can be declared, their sorts fit, and they are few and short; each clause is written as its own assertion,
  -- and the clauses that these say are within the limits
  pub record CanBeRead (ts : List Term) (agains : List Clause) : Type 0 where
    pub comes : ComesInGroups names.sig
    pub spelt : AreWritable names.sig
    pub groups_spelt : (n : ℕ) → list_all is_writable_data (group_at names.sig n) ≡ true
    pub declared : CanBeDeclared printed (live_names names.preds 0 s.preds)
    pub fits : list_all (is_fitting printed) s.preds ≡ true
    pub short : list_any (λ (d : PredDecl). nat_lt 1024 (length d.sorts)) s.preds ≡ false
    pub few : live_count s.preds ≤ 65536
    pub asserts : AllAssert names printed_setting s.clauses ts agains
    pub within : WithinLimits (live_preds s.preds) agains

  module _ (ts : List Term) (agains : List Clause) (can : CanBeRead ts agains) where
    abbrev reached : ℕ
    reached = groups_reached (state_reach s) 0 names.sig.groups

    abbrev same : AreNumbered names.sig printed
    same = first_numbered names.sig reached

    abbrev end : Progress
    end = progress.Ended (said ts agains)

    abbrev lines_of_groups : List ℕ
    lines_of_groups = groups_text names.sig (state_reach s) 0 names.sig.groups

    abbrev lines_of_predicates : List ℕ
    lines_of_predicates = declarations_text names 0 s.preds

    abbrev lines_of_clauses : List ℕ
    lines_of_clauses = concat (map (clause_text names) s.clauses)

    own_names : HasOwnNames printed
    own_names = first_own names.sig can.comes.own reached

    clauses_lead : Runs (progress.Going (asserting printed declares none_asserted)) end (lines_of_clauses ++ codes "(check-sat)\n")
    clauses_lead =
        clauses_run printed declares names s.clauses ts agains none_asserted end (codes "(check-sat)\n") can.asserts can.within
        (end_runs printed declares (record { assertions = ts; clauses = agains }) can.within)

    can_follow : CanFollow names can.spelt printed own_names same no_predicates 0 s.preds
    can_follow = record {
      fresh = subst (λ taken. AreFresh taken (live_names names.preds 0 s.preds)) (sym (append-nil (fixed_functions ++ function_names printed))) can.declared.fresh;
      spelt = can.declared.writable;
      fits = can.fits;
      short = can.short;
      few = (let h = can.few in omega (arith, h));
    }

    predicates_lead : Runs (progress.Going (grouped names.sig can.comes reached)) end (lines_of_predicates ++ (lines_of_clauses ++ codes "(check-sat)\n"))
    predicates_lead =
        predicates_run names can.spelt printed own_names same s.preds no_predicates 0 end (lines_of_clauses ++ codes "(check-sat)\n") can_follow clauses_lead

    groups_lead : Runs (progress.Going (grouped names.sig can.comes 0)) end (lines_of_groups ++ (lines_of_predicates ++ (lines_of_clauses ++ codes "(check-sat)\n")))
    groups_lead =
        groups_from names.sig can.comes can.spelt can.groups_spelt (state_reach s) names.sig.groups 0 0 end (lines_of_predicates ++ (lines_of_clauses ++ codes "(check-sat)\n"))
        refl (ap total (sym (none_first names.sig.groups)))
        (subst (λ k. Runs (progress.Going (grouped names.sig can.comes k)) end (lines_of_predicates ++ (lines_of_clauses ++ codes "(check-sat)\n"))) (let e : reached ≡ 0 + reached = omega arith in e) predicates_lead)

    abbrev logical : Signature → Progress
    logical sig = progress.Going (record { logic = true; sig = sig; preds = no_predicates; asserted = none_asserted })

    whole_leads : TreesAt (Leads (progress.Going fresh) end) 1000 true 0 (lines_of_script names s)
    whole_leads =
        let tail : List ℕ = codes "(check-sat)\n" in
        let rest : List ℕ = lines_of_groups ++ (lines_of_predicates ++ (lines_of_clauses ++ tail)) in
        let first : List ℕ = codes "(set-logic HORN)\n" in
        let text : first ++ rest ≡ lines_of_script names s =
        sym (append_assoc (((first ++ lines_of_groups) ++ lines_of_predicates)) lines_of_clauses tail
        ∙ append_assoc (first ++ lines_of_groups) lines_of_predicates (lines_of_clauses ++ tail)
        ∙ append_assoc first lines_of_groups (lines_of_predicates ++ (lines_of_clauses ++ tail))) in
        subst (TreesAt (Leads (progress.Going fresh) end) 1000 true 0) text
        (first_line (progress.Going fresh) (logical no_datatypes) end (codes "(set-logic HORN)") rest logic_writes
        (subst (λ sig. Runs (logical sig) end rest) (sym (no_groups names.sig)) groups_lead))

    -- the text says the script
    pub text_says : Says (lines_of_script names s) (Ok (said ts agains))
    text_says =
        let found = spells_from (Leads (progress.Going fresh) end) (lines_of_script names s) whole_leads in
        record { trees = found.0; spelled = found.1; stands = ap (λ r. r >>> at_end (length (lines_of_script names s))) found.2 }
