-- The formula of each clause of a state is written as a tree that stands for the clause's assertion, with the numbers of
-- its predicates among the live ones.
use Rattle.std.proofs.Common.{◌≡◌, ◌∙◌, ap, refl, ℕ, ◌+◌, ◌≤◌, ◌^◌, true, false, ◌&&◌, List, [], ◌∷◌, ◌++◌, length, map, Option, Some, None, Ok, slice_get, option_map, arith}
use Rattle.std.specs.List.{list_all}
use Rattle.std.proofs.lemmas.Bool.{and_parts, and_from, false≢true}
use Rattle.std.proofs.lemmas.Option.{same_Some}
use Rattle.chc_sorts.specs.declared.sort.Sort.{Sort}
use Rattle.chc_sorts.specs.declared.sort.Sort.TheVariants as sort
use Rattle.chc_sorts.specs.Sorts.{sort_fits}
use Rattle.chc_sorts.specs.Names.{look_up}
use Rattle.chc_sexpr.proofs.Written.{Writes}
use Rattle.chc_terms.specs.declared.term.Kind.TheVariants as kind
use Rattle.chc_terms.specs.declared.term.Term.{Term}
use Rattle.chc_terms.specs.declared.term.Term.TheVariants as term
use Rattle.chc_terms.specs.Counts.{depth, depth_all, greatest}
use Rattle.chc_terms.specs.Numbers.{numbers_fit}
use Rattle.chc_terms.specs.Sorted.{Context, sort_of, sorts_of, sorts_fit, is_plain, when}
use Rattle.chc_terms.proofs.CountLaws.{size-Quant, depth-Pred, depth-Quant}
use Rattle.chc_terms.proofs.NumberLaws.{numbers_fit-Lit}
use Rattle.chc_terms.proofs.SameSort.{same_from_test, same_sorts_from_test, same_sorts_itself}
use Rattle.chc_terms.proofs.SortLaws.{sort_of-Lit, sorts_fit-Lit}
use Rattle.chc_elab.specs.declared.symbols.Symbol.TheVariants as symbol
use Rattle.chc_elab.specs.Binders.{outer_site}
use Rattle.chc_elab.specs.Sites.{Site, Setting, ◌>>>◌}
use Rattle.chc_elab.specs.Stands.{IsRead, IsWithin, AreFew}
use Rattle.chc_elab.proofs.StandsRead.{stands_read}
use Rattle.chc_state.specs.declared.clause.Atom.{Atom}
use Rattle.chc_state.specs.declared.clause.Clause.{Clause}
use Rattle.chc_state.specs.declared.clause.PredDecl.{PredDecl}
use Rattle.chc_state.specs.Names.{AreNamesOf}
use Rattle.chc_state.specs.Sorts.{clause_context, is_sort, are_sorts, is_condition, is_sorted_atom, positions}
use Rattle.chc_state.specs.States.{StateView, is_live, on_live, head_all, clause_uses_live}
use Rattle.chc_state.specs.WellFormed.{term_fits, atom_fits, is_well_formed}
use Rattle.chc_state.proofs.Forming.{positions-at}
use Rattle.chc_print.specs.Helpers.{NamesPredicates}
use Rattle.chc_print.specs.Reach.{term_reach, terms_reach, sorts_reach, atom_reach, head_reach, clause_reach, sort_reach}
use Rattle.chc_print.specs.Script.{script_names, atom_text, head_text, part_texts, matrix_text, closed}
use Rattle.chc_print.specs.Texts.{Names, name_at, term_text, term_texts}
use Rattle.read_again.specs.ClauseCounts.{IsReadable}
use Rattle.read_again.specs.ClauseTerms.{atom_term, head_term, part_terms, matrix_term, closed_term, assertion_of, clause_again}
use Rattle.read_again.specs.LivePredicates.{number_again, renumbered_atom, renumbered}
use Rattle.term_again.specs.Naming.{AreNamedFor, numbered_site}
use Rattle.term_again.specs.Terms.{CanBeWritten, CanAllBeWritten, IsTermOver}
use Rattle.read_again.proofs.ClauseSays.{WellFormed, well_formed, well_formed_is_plain, is_plain_atom, IsPlain, says_plain_clause, all_weaker}
use Rattle.read_again.proofs.ClausesRun.{IsCondition, Asserts}
use Rattle.read_again.proofs.Connectives.{truth, AllSmall, first_small, others_small, PartsSmall, parts_small, ReadsAs, EachWrites, matrix_writes}
use Rattle.read_again.proofs.LiveNumbers.{live_at, named_at}
use Rattle.term_again.proofs.TermBinders.{quantified_written}
use Rattle.term_again.proofs.TermBounds.{fitting_bound, term_bound, terms_bound}
use Rattle.term_again.proofs.TermCounts.{plain_binds_none, plain_terms_bind_none}
use Rattle.term_again.proofs.TermLaws.{text-Lit, bound-Lit}
use Rattle.term_again.proofs.TermLimits.{IsSmall}
use Rattle.term_again.proofs.SymbolNames.{symbol_named}
use Rattle.term_again.proofs.TermReach.{reach-Lit, sort_fits_front}
use Rattle.term_again.proofs.TermTexts.{names_read, clause_names, read_term_written, read_symbol_written}
use Rattle.term_again.proofs.TermTrees.{writes_wider, text_writes}

-- ---- what a well-formed clause has

pub both_fit : (ts : List Term) → (sig : _) → list_all (term_fits sig) ts ≡ true → (list_all (sorts_fit sig) ts ≡ true) × (list_all numbers_fit ts ≡ true)
both_fit ts sig h = (
  all_weaker (term_fits sig) (sorts_fit sig) (λ t f. (and_parts (sorts_fit sig t) (numbers_fit t) f).0) ts h,
  all_weaker (term_fits sig) numbers_fit (λ t f. (and_parts (sorts_fit sig t) (numbers_fit t) f).1) ts h,
)

some_sort : (s : Sort) (o : Option Sort) → is_sort s o ≡ true → o ≡ Some s
some_sort s None h = absurd (false≢true h)
some_sort s (Some t) h = ap Some (same_from_test t s h)

both_sorts : (given wanted : Option (List Sort)) (sorts : List Sort) → are_sorts given wanted ≡ true → wanted ≡ Some sorts → given ≡ Some sorts
both_sorts None wanted sorts h e = absurd (false≢true h)
both_sorts (Some ss) None sorts h e = absurd (false≢true h)
both_sorts (Some ss) (Some ts) sorts h e = ap Some (same_sorts_from_test ss ts h ∙ same_Some ts sorts e)

-- ---- the names and the setting of a state's text

module _ (s : StateView) (names all : List (List ℕ)) (prefix : List ℕ) (setting : Setting) where
  -- what is asked of them: each live predicate is found by its name, with its number among the live ones, and a datatype
  -- of the state that the state reaches is one of those that are declared
  pub record AreSettled (reach : ℕ) : Type 0 where
    pub named : AreNamedFor s names prefix setting
    pub of_state : AreNamesOf s names
    pub called : NamesPredicates s names all
    pub enough : length s.preds ≤ length all
    pub found : (p : ℕ) (d : PredDecl) → is_live s.preds p ≡ true → slice_get s.preds p ≡ Some d → look_up setting.symbols (name_at all p) ≡ Some (symbol.Pred (number_again s.preds p) d.sorts)
    pub near : (k : ℕ) → k ≤ reach → k ≤ length s.sig.datatypes → k ≤ length setting.sig.datatypes

  abbrev in_text : Names
  in_text = script_names s all prefix

  module _ (reach : ℕ) (settled : AreSettled reach) where
    module _ (vars : List Sort) (small : length vars ≤ 2 ^ 64) where
      abbrev cx : Context
      cx = clause_context s.sig

      abbrev site : Site
      site = numbered_site prefix vars

      abbrev under : ℕ
      under = length vars

      -- the text is written as a tree that stands for the truth value
      abbrev Written : ℕ → Term → List ℕ → Type 0
      Written deep t text = Writes (ReadsAs setting site (truth t)) deep text

      -- ---- atoms

      can_atom : (a : Atom) (d : PredDecl) → is_sorted_atom s.sig (positions s.preds) vars a ≡ true → atom_fits s.sig a ≡ true → slice_get s.preds a.pred ≡ Some d → CanAllBeWritten cx vars a.args d.sorts
      can_atom a d sorted fits at =
          let given = sorts_of (clause_context s.sig) a.args vars in
          let wanted = slice_get (positions s.preds) a.pred in
          let parts = and_parts (list_all is_plain a.args) (are_sorts given wanted) sorted in
          let is_there : wanted ≡ Some d.sorts = positions-at s.preds a.pred ∙ ap (option_map (λ (e : PredDecl). e.sorts)) at in
          let fit = both_fit a.args s.sig fits in
          record { sorted = both_sorts given wanted d.sorts parts.1 is_there; fitting = fit.0; numbers = fit.1 }

      atom_is_written : (a : Atom) → is_sorted_atom s.sig (positions s.preds) vars a ≡ true → atom_fits s.sig a ≡ true → on_live s.preds a ≡ true → atom_reach a ≤ reach → IsSmall (atom_term (renumbered_atom s.preds a))
          → Written 950 (atom_term (renumbered_atom s.preds a)) (atom_text in_text under a)
      atom_is_written a sorted fits live low fine =
          let there = live_at s.preds a.pred live in
          let d = there.0 in
          let k = number_again s.preds a.pred in
          let levels = depth-Pred k a.args in
          let can = can_atom a d sorted fits there.1 in
          let plain = (and_parts (list_all is_plain a.args) (are_sorts (sorts_of cx a.args vars) (slice_get (positions s.preds) a.pred)) sorted).0 in
          let bound = plain_terms_bind_none a.args plain in
          let named = symbol_named s names prefix setting settled.named all settled.of_state settled.called a.pred (symbol.Pred k d.sorts) (name_at all a.pred)
          (named_at all a.pred (let few = there.2 in let enough = settled.enough in omega arith))
          (settled.found a.pred d live there.1) in
          writes_wider (ReadsAs setting site (truth (term.Pred k a.args))) (ReadsAs setting site (truth (term.Pred k a.args))) (depth_all a.args + 18) 950 (let fine = fine.1 in omega arith) (λ t is. is) (atom_text in_text under a)
          (read_symbol_written s names all [] prefix setting settled.named cx (clause_names s all [] prefix setting) (symbol.Pred k d.sorts) (name_at all a.pred) named
          vars a.args d.sorts sort.Bool (ap (λ b. when b sort.Bool) (same_sorts_itself d.sorts)) can
          (settled.near (terms_reach a.args) low (terms_bound cx a.args vars d.sorts can.sorted can.fitting)) fine (omega (arith, small, bound)))

      -- ---- the head

      -- a condition of the clause's terms
      is_written : (t : Term) → IsTermOver cx setting vars t sort.Bool → IsSmall t → Written (depth t + 17) t (term_text in_text t under)
      is_written t of_state fine = read_term_written s names all [] prefix setting settled.named cx (clause_names s all [] prefix setting) vars t sort.Bool of_state fine

      head_is_written : (head : Option Atom) → head_all (is_sorted_atom s.sig (positions s.preds) vars) head ≡ true → head_all (atom_fits s.sig) head ≡ true → head_all (on_live s.preds) head ≡ true → head_reach head ≤ reach
          → IsSmall (head_term (option_map (renumbered_atom s.preds) head)) → Written 950 (head_term (option_map (renumbered_atom s.preds) head)) (head_text in_text under head)
      head_is_written (Some a) sorted fits live low fine = atom_is_written a sorted fits live low fine
      head_is_written None sorted fits live low fine =
          writes_wider (ReadsAs setting site (truth (term.Lit false))) (ReadsAs setting site (truth (term.Lit false))) (depth (term.Lit false) + 17) 950 (let fine = fine.1 in omega arith) (λ t is. is) (head_text in_text under None)
          (text_writes (ReadsAs setting site (truth (term.Lit false))) (depth (term.Lit false) + 17) (term_text in_text (term.Lit false) under) (head_text in_text under None) (text-Lit in_text false under)
          (is_written (term.Lit false)
          (record {
            can = record { sorted = sort_of-Lit cx false vars; fitting = sorts_fit-Lit s.sig false; numbers = numbers_fit-Lit false };
            near = omega (arith, reach-Lit false);
            few = omega (arith, small, bound-Lit false);
          })
          fine))

      -- ---- conjuncts

      condition_is_written : (t : Term) → is_condition s.sig vars t ≡ true → term_fits s.sig t ≡ true → term_reach t ≤ reach → IsSmall t → Written 950 t (term_text in_text t under)
      condition_is_written t condition fits low fine =
          let sorted = sort_of (clause_context s.sig) t vars in
          let parts = and_parts (is_plain t) (is_sort sort.Bool sorted) condition in
          let both = and_parts (sorts_fit s.sig t) (numbers_fit t) fits in
          let can : CanBeWritten cx vars t sort.Bool = record { sorted = some_sort sort.Bool sorted parts.1; fitting = both.0; numbers = both.1 } in
          writes_wider (ReadsAs setting site (truth t)) (ReadsAs setting site (truth t)) (depth t + 17) 950 (let fine = fine.1 in omega arith) (λ t is. is) (term_text in_text t under)
          (is_written t
          (record { can = can; near = settled.near (term_reach t) low (term_bound cx t vars sort.Bool can.sorted can.fitting); few = omega (arith, small, plain_binds_none t parts.0) })
          fine)

      conditions_are_written : (ts : List Term) → list_all (is_condition s.sig vars) ts ≡ true → list_all (term_fits s.sig) ts ≡ true → terms_reach ts ≤ reach → AllSmall ts
          → EachWrites setting site 950 (map truth ts) (term_texts in_text under ts)
      conditions_are_written [] conditions fits low fine = tt
      conditions_are_written (t ∷ ts) conditions fits low fine =
          let c = and_parts (is_condition s.sig vars t) (list_all (is_condition s.sig vars) ts) conditions in
          let f = and_parts (term_fits s.sig t) (list_all (term_fits s.sig) ts) fits in
          (condition_is_written t c.0 f.0 (omega (arith, low)) (first_small t ts fine), conditions_are_written ts c.1 f.1 (omega (arith, low)) (others_small t ts fine))

      -- the atoms of the body, then the conjuncts
      parts_are_written : (body : List Atom) (ts : List Term) → list_all (is_sorted_atom s.sig (positions s.preds) vars) body ≡ true → list_all (atom_fits s.sig) body ≡ true → list_all (on_live s.preds) body ≡ true
          → greatest (map atom_reach body) ≤ reach
          → list_all (is_condition s.sig vars) ts ≡ true → list_all (term_fits s.sig) ts ≡ true → terms_reach ts ≤ reach → AllSmall (map atom_term (map (renumbered_atom s.preds) body) ++ ts)
          → EachWrites setting site 950 (map truth (map atom_term (map (renumbered_atom s.preds) body) ++ ts)) (map (atom_text in_text under) body ++ term_texts in_text under ts)
      parts_are_written [] ts sorted fits live low conditions terms_fit near fine = conditions_are_written ts conditions terms_fit near fine
      parts_are_written (a ∷ body) ts sorted fits live low conditions terms_fit near fine =
          let o = and_parts (is_sorted_atom s.sig (positions s.preds) vars a) (list_all (is_sorted_atom s.sig (positions s.preds) vars) body) sorted in
          let f = and_parts (atom_fits s.sig a) (list_all (atom_fits s.sig) body) fits in
          let l = and_parts (on_live s.preds a) (list_all (on_live s.preds) body) live in
          let one = atom_term (renumbered_atom s.preds a) in
          let rest = map atom_term (map (renumbered_atom s.preds) body) ++ ts in (
            atom_is_written a o.0 f.0 l.0 (omega (arith, low)) (first_small one rest fine),
            parts_are_written body ts o.1 f.1 l.1 (omega (arith, low)) conditions terms_fit near (others_small one rest fine),
          )

      -- ---- the quantifier

      variables_fit : (ss : List Sort) → list_all (sort_fits s.sig) ss ≡ true → sorts_reach ss ≤ reach → list_all (sort_fits setting.sig) ss ≡ true
      variables_fit [] fits low = refl
      variables_fit (x ∷ ss) fits low =
          let parts = and_parts (sort_fits s.sig x) (list_all (sort_fits s.sig) ss) fits in
          and_from (sort_fits setting.sig x) (list_all (sort_fits setting.sig) ss)
          (sort_fits_front s.sig setting.sig settled.named.more settled.named.front x (settled.near (sort_reach x) (omega (arith, low)) (fitting_bound s.sig x parts.0)) parts.0)
          (variables_fit ss parts.1 (omega (arith, low)))

    -- under all variables, and nothing else
    abbrev WrittenWhole : ℕ → Term → List ℕ → Type 0
    WrittenWhole deep t text = Writes (λ tree. IsRead setting (outer_site [] []) tree (truth t)) deep text

    closed_is_written : (vars : List Sort) (small : length vars ≤ 2 ^ 64) (matrix : Term) (text : List ℕ) → list_all (sort_fits s.sig) vars ≡ true → sorts_reach vars ≤ reach
        → IsSmall (closed_term vars matrix) → Writes (ReadsAs setting (numbered_site prefix vars) (truth matrix)) 952 text → WrittenWhole 953 (closed_term vars matrix) (closed in_text vars text)
    closed_is_written [] small matrix text fits low fine writes =
        writes_wider (λ tree. IsRead setting (outer_site [] []) tree (truth matrix)) (λ tree. IsRead setting (outer_site [] []) tree (truth matrix)) 952 953 (omega arith) (λ t is. is) text writes
    closed_is_written (x ∷ vars) small matrix text fits low fine writes =
        quantified_written in_text setting settled.named.variables.marks settled.named.variables.form (names_read s names all [] prefix setting settled.named) IsWithin AreFew kind.Forall []
        x vars matrix 952 text (omega (arith, small)) (variables_fit (x ∷ vars) small (x ∷ vars) fits low) (omega arith) fine writes

    -- ---- the whole

    under_quantifier : (vars : List Sort) (t : Term) → IsSmall (closed_term vars t) → IsSmall t
    under_quantifier [] t h = h
    under_quantifier (x ∷ vars) t h = (omega (arith, size-Quant kind.Forall (x ∷ vars) t, h.0), omega (arith, depth-Quant kind.Forall (x ∷ vars) t, h.1))

    module _ (c : Clause) (low : clause_reach c ≤ reach) (small : length c.vars ≤ 2 ^ 64) (formed : is_well_formed s.sig (positions s.preds) c ≡ true) (live : clause_uses_live s.preds c ≡ true)
        (readable : IsReadable (renumbered s.preds c)) where
      abbrev again : Clause
      again = renumbered s.preds c

      w : WellFormed s.sig (positions s.preds) c
      w = well_formed s.sig (positions s.preds) c formed

      -- its variables, conjuncts, body and head fit
      fits_of_atoms : ((list_all (sort_fits s.sig) c.vars && list_all (term_fits s.sig) c.conj && list_all (atom_fits s.sig) c.body) ≡ true) × (head_all (atom_fits s.sig) c.head ≡ true)
      fits_of_atoms = and_parts (list_all (sort_fits s.sig) c.vars && list_all (term_fits s.sig) c.conj && list_all (atom_fits s.sig) c.body) (head_all (atom_fits s.sig) c.head) w.fits

      fits_of_body : ((list_all (sort_fits s.sig) c.vars && list_all (term_fits s.sig) c.conj) ≡ true) × (list_all (atom_fits s.sig) c.body ≡ true)
      fits_of_body = and_parts (list_all (sort_fits s.sig) c.vars && list_all (term_fits s.sig) c.conj) (list_all (atom_fits s.sig) c.body) fits_of_atoms.0

      fits_of_terms : (list_all (sort_fits s.sig) c.vars ≡ true) × (list_all (term_fits s.sig) c.conj ≡ true)
      fits_of_terms = and_parts (list_all (sort_fits s.sig) c.vars) (list_all (term_fits s.sig) c.conj) fits_of_body.0

      lives : (list_all (on_live s.preds) c.body ≡ true) × (head_all (on_live s.preds) c.head ≡ true)
      lives = and_parts (list_all (on_live s.preds) c.body) (head_all (on_live s.preds) c.head) live

      whole : IsSmall (assertion_of again)
      whole = (readable.nodes, readable.levels)

      inner : IsSmall (matrix_term again)
      inner = under_quantifier c.vars (matrix_term again) whole

      fine : PartsSmall (part_terms again) (head_term again.head)
      fine = parts_small (part_terms again) (head_term again.head) inner

      formula_written : WrittenWhole 953 (assertion_of again) (closed in_text c.vars (matrix_text in_text c))
      formula_written =
          closed_is_written c.vars small (matrix_term again) (matrix_text in_text c) fits_of_terms.0 (omega arith) whole
          (matrix_writes setting (numbered_site prefix c.vars) 950 (part_terms again) (head_term again.head) (part_texts in_text c) (head_text in_text (length c.vars) c.head)
          (parts_are_written c.vars small c.body c.conj w.atoms fits_of_body.1 lives.0 (omega arith) w.conditions fits_of_terms.1 (omega arith) fine.parts)
          (head_is_written c.vars small c.head w.head_sorted fits_of_atoms.1 lives.1 (omega arith) fine.conclusion_is_small)
          inner)

      -- ---- what it says

      atoms_plain : (body : List Atom) → list_all is_plain_atom body ≡ true → list_all is_plain_atom (map (renumbered_atom s.preds) body) ≡ true
      atoms_plain [] h = refl
      atoms_plain (a ∷ body) h =
          let parts = and_parts (is_plain_atom a) (list_all is_plain_atom body) h in
          and_from (is_plain_atom a) (list_all is_plain_atom (map (renumbered_atom s.preds) body)) parts.0 (atoms_plain body parts.1)

      head_plain : (head : Option Atom) → head_all is_plain_atom head ≡ true → head_all is_plain_atom (option_map (renumbered_atom s.preds) head) ≡ true
      head_plain None h = refl
      head_plain (Some a) h = h

      plain : IsPlain c.conj again.body again.head
      plain =
          let p = well_formed_is_plain s.sig (positions s.preds) c formed in
          record { conditions = p.conditions; singles = p.singles; atoms = atoms_plain c.body p.atoms; head_plain = head_plain c.head p.head_plain }

      -- the text of the clause is read as its assertion, which says the clause
      pub clause_asserts : Asserts in_text setting c (assertion_of again) (renumbered s.preds (clause_again c))
      clause_asserts = record {
        written = writes_wider (λ tree. IsRead setting (outer_site [] []) tree (truth (assertion_of again))) (IsCondition setting (assertion_of again)) 953 999 (omega arith)
            (λ tree h. ap (λ r. r >>> (λ v. Ok (record { term = v.term; sort = v.sort }))) (stands_read setting (outer_site [] []) tree (truth (assertion_of again)) h))
            (closed in_text c.vars (matrix_text in_text c)) formula_written;
        says = says_plain_clause again plain;
      }
