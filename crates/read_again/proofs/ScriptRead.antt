-- The text of a state whose clauses are readable says its script.
use Rattle.std.proofs.Common.{◌≡◌, ◌∙◌, sym, ap, subst, ℕ, ◌+◌, ◌≤◌, ◌^◌, true, false, nat_lt, List, [], ◌∷◌, ◌++◌, length, map, Ok, arith}
use Rattle.std.specs.List.{list_all, list_any, AllByRecursion}
use Rattle.std.proofs.lemmas.Bool.{and_parts, and_from, or_parts}
use Rattle.std.proofs.lemmas.Bool.Decides.{nat_tests}
use Rattle.std.proofs.lemmas.List.Folds.{list_all-append}
use Rattle.chc_sorts.specs.Functions.{function_names}
use Rattle.chc_sorts.specs.Groups.{fixed_functions}
use Rattle.chc_sorts.specs.Made.{CanBeMade}
use Rattle.chc_sorts.specs.Signature.{Signature}
use Rattle.chc_terms.specs.Counts.{greatest}
use Rattle.chc_elab.specs.Sites.{Setting}
use Rattle.chc_state.specs.declared.clause.Clause.{Clause}
use Rattle.chc_state.specs.Limits.{width, reserve, live_count}
use Rattle.chc_state.specs.Names.{AreNamesOf, is_writable_name, signature_names}
use Rattle.chc_state.specs.Sorts.{positions, positions_fit}
use Rattle.chc_state.specs.States.{StateView, clause_uses_live}
use Rattle.chc_state.specs.WellFormed.{is_well_formed}
use Rattle.chc_state.proofs.Limiting.{WithinLimits, WithinLimits-from_none}
use Rattle.chc_script.specs.WholeScripts.{Says}
use Rattle.chc_print.specs.Helpers.{NamesPredicates}
use Rattle.chc_print.specs.Prefix.{used_names, IsVariablePrefix}
use Rattle.chc_print.specs.Reach.{clause_reach, state_reach}
use Rattle.chc_print.specs.Script.{script_names, lines_of_script}
use Rattle.chc_print.specs.Texts.{Names}
use Rattle.term_again.specs.Naming.{AreFresh}
use Rattle.term_again.proofs.FreshSignatures.{made_is_fresh}
use Rattle.read_again.specs.ClauseCounts.{IsReadable}
use Rattle.read_again.specs.ClauseTerms.{assertion_of}
use Rattle.read_again.specs.FirstGroups.{groups_reached, first_groups, ComesInGroups}
use Rattle.read_again.specs.LivePredicates.{live_preds, live_names, renumbered, clauses_again}
use Rattle.read_again.specs.PrintedScripts.{IsKept, AreReadable, PrintedIsRead, assertions_again, script_again}
use Rattle.read_again.proofs.ClausesRun.{AllAssert}
use Rattle.read_again.proofs.ClauseWritten.{AreSettled, clause_asserts}
use Rattle.read_again.proofs.FreshNames.{CanBeDeclared, enough_names, names_declared}
use Rattle.read_again.proofs.HelpersSpelt.{helpers_spelt}
use Rattle.read_again.proofs.LiveNumbers.{live_found}
use Rattle.read_again.proofs.MadeGroups.{made_comes}
use Rattle.read_again.proofs.ReachedGroups.{behind, reached_front, within_reach, positions_fit_reached}
use Rattle.read_again.proofs.RenumberedCounts.{renumbered_are_readable, stays_within}
use Rattle.read_again.proofs.WholeText.{printed_setting, text_says}
use Rattle.read_again.proofs.WritableNames.{sorts_spelt, groups_spelt}

few_of : (n m : ℕ) → nat_lt 65536 (n + m) ≡ false → n ≤ 65536
few_of n m h = grind (arith, nat_tests)

narrow : (n : ℕ) → nat_lt 4096 n ≡ false → n ≤ 4096
narrow n h = grind (arith, nat_tests)

-- what is known of the signature of a state
pub record IsWellMade (sig : Signature) : Type 0 where
  pub comes : ComesInGroups sig
  pub fresh : AreFresh sig

module _ (s : StateView) (names all : List (List ℕ)) (prefix : List ℕ) (kept : IsKept s) (made : IsWellMade s.sig) (of_state : AreNamesOf s names) (called : NamesPredicates s names all)
    (variables : IsVariablePrefix (used_names s.sig names) prefix) where
  abbrev in_text : Names
  in_text = script_names s all prefix

  abbrev over : Setting
  over = printed_setting in_text s

  limits : WithinLimits s.preds s.clauses
  limits = WithinLimits-from_none s.preds s.clauses kept.within

  formed : (positions_fit s.sig s.preds ≡ true) × (list_all (is_well_formed s.sig (positions s.preds)) s.clauses ≡ true)
  formed = and_parts (positions_fit s.sig s.preds) (list_all (is_well_formed s.sig (positions s.preds)) s.clauses) kept.formed

  -- ---- names

  writable : (list_all is_writable_name names ≡ true) × (list_all is_writable_name (signature_names s.sig) ≡ true)
  writable = and_parts (list_all is_writable_name names) (list_all is_writable_name (signature_names s.sig)) (sym (list_all-append is_writable_name names (signature_names s.sig)) ∙ of_state.writable)

  all_spelt : list_all is_writable_name all ≡ true
  all_spelt =
      ap (list_all is_writable_name) called.whole
      ∙ list_all-append is_writable_name names called.helpers
      ∙ and_from (list_all is_writable_name names) (list_all is_writable_name called.helpers) writable.0 (helpers_spelt (used_names s.sig names) called.helpers called.are_next)

  declared : CanBeDeclared (first_groups s.sig (groups_reached (state_reach s) 0 s.sig.groups)) (live_names all 0 s.preds)
  declared = names_declared s names all of_state called (groups_reached (state_reach s) 0 s.sig.groups) all_spelt

  -- ---- clauses

  settled : AreSettled s names all prefix over (state_reach s)
  settled = record {
    named = record {
      fresh = made.fresh;
      writable = writable.1;
      variables = variables;
      more = behind s.sig made.comes.whole (state_reach s);
      front = reached_front s.sig made.comes.whole (state_reach s);
    };
    of_state = of_state;
    called = called;
    enough = (let enough = enough_names s names all of_state called (groups_reached (state_reach s) 0 s.sig.groups) in omega arith);
    found = λ p d live at. live_found all (fixed_functions ++ function_names (first_groups s.sig (groups_reached (state_reach s) 0 s.sig.groups))) s.preds declared.fresh p d live at;
    near = within_reach s.sig made.comes.whole (state_reach s);
  }

  few_variables : (c : Clause) → nat_lt 4096 (width c) ≡ false → length c.vars ≤ 2 ^ 64
  few_variables c h = (let few = narrow (width c) h in omega arith)

  -- the line of each clause says its own assertion
  all_assert : (cs : List Clause) → list_all (is_well_formed s.sig (positions s.preds)) cs ≡ true → list_all (clause_uses_live s.preds) cs ≡ true → list_any (λ c. nat_lt 4096 (width c)) cs ≡ false
      → AllByRecursion IsReadable cs → greatest (map clause_reach cs) ≤ state_reach s → AllAssert in_text over cs (map (λ c. assertion_of (renumbered s.preds c)) cs) (clauses_again s.preds cs)
  all_assert [] formed live wide readable low = tt
  all_assert (c ∷ cs) formed live wide readable low =
      let f = and_parts (is_well_formed s.sig (positions s.preds) c) (list_all (is_well_formed s.sig (positions s.preds)) cs) formed in
      let l = and_parts (clause_uses_live s.preds c) (list_all (clause_uses_live s.preds) cs) live in
      let w = or_parts (nat_lt 4096 (width c)) (list_any (λ e. nat_lt 4096 (width e)) cs) wide in (
        clause_asserts s names all prefix over (state_reach s) settled c (omega (arith, low)) (few_variables c w.0) f.0 l.0 (renumbered_are_readable s.preds c readable.0),
        all_assert cs f.1 l.1 w.1 readable.1 (omega (arith, low)),
      )

  -- ---- the whole

  pub state_text_says : AreReadable s → Says (lines_of_script in_text s) (Ok (script_again all s))
  state_text_says readable =
      text_says in_text s (assertions_again s) (clauses_again s.preds s.clauses) (record {
        comes = made.comes;
        spelt = sorts_spelt s.sig writable.1;
        groups_spelt = groups_spelt s.sig writable.1;
        declared = declared;
        fits = positions_fit_reached s.sig made.comes.whole (state_reach s) s.preds formed.0 (omega arith);
        short = limits.positions;
        few = few_of (live_count s.preds) (reserve 1 s.clauses) limits.predicates;
        asserts = all_assert s.clauses formed.1 kept.live limits.widths readable (omega arith);
        within = WithinLimits-from_none (live_preds s.preds) (clauses_again s.preds s.clauses) (stays_within s.preds s.clauses kept.within);
      })

well_made : (sig : Signature) → CanBeMade sig → IsWellMade sig
well_made sig made = record { comes = made_comes sig made; fresh = made_is_fresh sig made }

pub printed_is_read : PrintedIsRead
printed_is_read s names text kept of_state readable is =
    let prefix = is.0 in
    let all = is.1 in
    (all, is.3, subst (λ t. Says t (Ok (script_again all s))) (sym is.4) (state_text_says s names all prefix kept (well_made s.sig kept.made) of_state is.3 is.2 readable))
