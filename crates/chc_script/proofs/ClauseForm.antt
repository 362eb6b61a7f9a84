-- The clause of an assertion is well formed.
use Rattle.std.proofs.Common.{◌≡◌, Bool, true, false, cond, ◌&&◌, List, [], ◌∷◌, ◌++◌, map, Some, Result, Ok, Err, refl, ap, sym, subst, ◌∙◌}
use Rattle.std.specs.List.{AllByRecursion, list_all}
use Rattle.std.proofs.lemmas.Bool.{and_from}
use Rattle.chc_sorts.specs.declared.sort.Sort.{Sort}
use Rattle.chc_sorts.specs.declared.sort.Sort.TheVariants as sort
use Rattle.chc_sorts.specs.declared.op.Op.{Op}
use Rattle.chc_sorts.specs.declared.op.Op.TheVariants as op
use Rattle.chc_sorts.specs.Sorts.{same_sorts, sort_fits}
use Rattle.chc_terms.specs.declared.term.Kind.{Kind}
use Rattle.chc_terms.specs.declared.term.Term.{Term}
use Rattle.chc_terms.specs.declared.term.Term.TheVariants as term
use Rattle.chc_terms.specs.Sorted.{Context, sort_of, is_unquantified}
use Rattle.chc_terms.proofs.Induction.{term_ind}
use Rattle.chc_terms.proofs.OperatorShapes.{when_some}
use Rattle.chc_terms.proofs.SameSort.{same_sorts_from_test}
use Rattle.chc_terms.proofs.SortSteps.{sorts_of_more, app_sorts, quant_sorts}
use Rattle.chc_state.specs.declared.clause.Clause.{Clause}
use Rattle.chc_state.specs.States.{StateView, head_all}
use Rattle.chc_state.specs.Sorts.{is_condition, is_sorted_atom, is_sorted_clause, positions}
use Rattle.chc_state.specs.WellFormed.{term_fits, atom_fits, clause_fits, is_part, is_well_formed}
use Rattle.chc_script.specs.Horn.{Prefix, left, binds, prefix_of, stripping, operator_stripped, collected, no_parts, closed_over, closed, clause_of}
use Rattle.chc_script.specs.HornLaws.{script_context, SaysClause, ClauseIsWellFormed}
use Rattle.chc_script.specs.declared.horn.parts.Parts.{Parts}
use Rattle.chc_script.specs.declared.horn.refusal.HornErr.{HornErr}
use Rattle.chc_script.specs.declared.horn.refusal.HornErr.TheVariants as refusal
use Rattle.chc_script.specs.declared.horn.side.Side.{Side}
use Rattle.chc_script.specs.declared.horn.side.Side.TheVariants as side
use Rattle.chc_script.proofs.PrefixLaws.{prefix-Var, prefix-Num, prefix-Lit, prefix-App, prefix-Pred, prefix-Quant, prefix-Call}
use Rattle.chc_script.proofs.HornSteps.{same_made, refused_made}
use Rattle.chc_script.proofs.SortedParts.{AreSorted, collected_sorted}
use Rattle.chc_script.proofs.FittingParts.{PartsFit, leaves_fitting, collected_fits}

-- of what a clause was made
pub record Made (assertion : Term) (clause : Clause) : Type 0 where
  pub parts : Parts
  pub unquantified : is_unquantified (prefix_of assertion side.Concluded []).rest ≡ true
  pub found : collected (prefix_of assertion side.Concluded []).rest (prefix_of assertion side.Concluded []).side no_parts ≡ Ok parts
  pub is : closed_over (prefix_of assertion side.Concluded []).vars parts ≡ clause

pub made_of : (assertion : Term) (clause : Clause) → clause_of assertion ≡ Ok clause → Made assertion clause
made_of assertion clause h = by_test (is_unquantified p.rest) refl h
  where
    p : Prefix
    p = prefix_of assertion side.Concluded []

    by_parts : is_unquantified (prefix_of assertion side.Concluded []).rest ≡ true → (r : Result Parts HornErr)
        → collected (prefix_of assertion side.Concluded []).rest (prefix_of assertion side.Concluded []).side no_parts ≡ r
        → closed (prefix_of assertion side.Concluded []).vars r ≡ Ok clause → Made assertion clause
    by_parts u (Err e) f g = absurd (refused_made e clause g)
    by_parts u (Ok parts) f g = record { parts = parts; unquantified = u; found = f; is = same_made (closed_over (prefix_of assertion side.Concluded []).vars parts) clause g }

    by_test : (b : Bool) → is_unquantified (prefix_of assertion side.Concluded []).rest ≡ b
        → cond b (closed (prefix_of assertion side.Concluded []).vars (collected (prefix_of assertion side.Concluded []).rest (prefix_of assertion side.Concluded []).side no_parts)) (Err refusal.QuantInside) ≡ Ok clause
        → Made assertion clause
    by_test true u f = by_parts u (collected (prefix_of assertion side.Concluded []).rest (prefix_of assertion side.Concluded []).side no_parts) refl f
    by_test false u f = absurd (refused_made refusal.QuantInside clause f)

-- what is left of a truth value is one
module _ (cx : Context) where
  abbrev IsTruth : Prefix → Type 0
  IsTruth p = sort_of cx p.rest p.vars ≡ Some sort.Bool

  abbrev LeavesTruth : Term → Type 0
  LeavesTruth t = (s : Side) (vars : List Sort) → sort_of cx t vars ≡ Some sort.Bool → IsTruth (prefix_of t s vars)

  operand_sort : (t : Term) (vars : List Sort) → sort_of cx (term.App op.Not (t ∷ [])) vars ≡ Some sort.Bool → sort_of cx t vars ≡ Some sort.Bool
  operand_sort t vars h =
      let g = app_sorts cx vars op.Not (t ∷ []) sort.Bool h in
      let m = sorts_of_more cx vars t [] g.sorts g.each in
      let same : g.sorts ≡ sort.Bool ∷ [] = same_sorts_from_test g.sorts (sort.Bool ∷ []) (when_some (same_sorts g.sorts (sort.Bool ∷ [])) sort.Bool sort.Bool g.result).0 in
      m.first_of ∙ ap Some (first_same m.first m.others (sym m.sorts_are ∙ same))
    where
      first_same : (s : Sort) (ss : List Sort) → s ∷ ss ≡ sort.Bool ∷ [] → s ≡ sort.Bool
      first_same s ss e = cc

  negation_leaves : (ts : List Term) → AllByRecursion LeavesTruth ts → (vars : List Sort) → sort_of cx (term.App op.Not ts) vars ≡ Some sort.Bool
      → IsTruth (operator_stripped op.Not side.Concluded (map (λ t. (t, stripping t)) ts) (term.App op.Not ts) side.Concluded vars)
  negation_leaves [] f vars h = h
  negation_leaves (t ∷ u ∷ ts) f vars h = h
  negation_leaves (t ∷ []) f vars h = f.0 side.Assumed vars (operand_sort t vars h)

  app_leaves : (o : Op) (s : Side) (ts : List Term) → AllByRecursion LeavesTruth ts → (vars : List Sort) → sort_of cx (term.App o ts) vars ≡ Some sort.Bool
      → IsTruth (operator_stripped o s (map (λ t. (t, stripping t)) ts) (term.App o ts) s vars)
  app_leaves op.Not side.Concluded ts f vars h = negation_leaves ts f vars h
  app_leaves o s ts f vars h = h

  quant_leaves : (k : Kind) (sorts : List Sort) (t : Term) → LeavesTruth t → LeavesTruth (term.Quant k sorts t)
  quant_leaves k sorts t f s vars h = subst IsTruth (sym (prefix-Quant s vars k sorts t)) (by_test (binds k s))
    where
      by_test : (b : Bool) → IsTruth (cond b (prefix_of t s (vars ++ sorts)) (left (term.Quant k sorts t) s vars))
      by_test true = f s (vars ++ sorts) (quant_sorts cx vars k sorts t sort.Bool h).0
      by_test false = h

  pub leaves_truth : (t : Term) → LeavesTruth t
  leaves_truth = term_ind LeavesTruth (record {
    of_var = λ i s vars h. subst IsTruth (sym (prefix-Var s vars i)) h;
    of_num = λ n s vars h. subst IsTruth (sym (prefix-Num s vars n)) h;
    of_lit = λ b s vars h. subst IsTruth (sym (prefix-Lit s vars b)) h;
    of_app = λ o ts f s vars h. subst IsTruth (sym (prefix-App s vars o ts)) (app_leaves o s ts f vars h);
    of_pred = λ p ts f s vars h. subst IsTruth (sym (prefix-Pred s vars p ts)) h;
    of_quant = quant_leaves;
    of_call = λ k ts f s vars h. subst IsTruth (sym (prefix-Call s vars k ts)) h;
  })

-- the parts of the clause of a well-sorted assertion
pub parts_sorted : (s : StateView) (assertion : Term) (clause : Clause) → SaysClause s assertion clause → (m : Made assertion clause)
    → AreSorted s.sig s.preds (prefix_of assertion side.Concluded []).vars m.parts
parts_sorted s assertion clause h m =
    let p = prefix_of assertion side.Concluded [] in
    collected_sorted s.sig s.preds p.vars p.rest p.side no_parts m.parts m.found (leaves_truth (script_context s.sig s.preds) assertion side.Concluded [] h.sorted) m.unquantified
    (record { conditions = refl; singles = refl; atoms = refl; head = refl })

clause_sorted : (s : StateView) (assertion : Term) (clause : Clause) → SaysClause s assertion clause → (m : Made assertion clause)
    → is_sorted_clause s.sig (positions s.preds) (closed_over (prefix_of assertion side.Concluded []).vars m.parts) ≡ true
clause_sorted s assertion clause h m =
    let vars = (prefix_of assertion side.Concluded []).vars in
    let sorted = parts_sorted s assertion clause h m in
    let conditions = list_all (is_condition s.sig vars) m.parts.conj in
    let atoms = list_all (is_sorted_atom s.sig (positions s.preds) vars) m.parts.body in
    and_from (conditions && atoms) (head_all (is_sorted_atom s.sig (positions s.preds) vars) m.parts.head) (and_from conditions atoms sorted.conditions sorted.atoms) sorted.head

-- and where its sorts and numbers fit
parts_fit : (s : StateView) (assertion : Term) (clause : Clause) → term_fits s.sig assertion ≡ true → (m : Made assertion clause) → PartsFit s.sig m.parts
parts_fit s assertion clause h m =
    let p = prefix_of assertion side.Concluded [] in
    collected_fits s.sig p.rest p.side no_parts m.parts m.found (leaves_fitting s.sig assertion side.Concluded [] refl h).rest
    (record { conditions = refl; atoms = refl; head = refl })

pub clause_is_well_formed : ClauseIsWellFormed
clause_is_well_formed s assertion clause h fit =
    subst (λ (c : Clause). is_well_formed s.sig (positions s.preds) c ≡ true) m.is
    (and_from (is_sorted_clause s.sig (positions s.preds) made && clause_fits s.sig made) (list_all is_part m.parts.conj)
    (and_from (is_sorted_clause s.sig (positions s.preds) made) (clause_fits s.sig made) (clause_sorted s assertion clause h m) fits)
    (parts_sorted s assertion clause h m).singles)
  where
    m : Made assertion clause
    m = made_of assertion clause h.says

    vars : List Sort
    vars = (prefix_of assertion side.Concluded []).vars

    made : Clause
    made = closed_over vars m.parts

    fitting : PartsFit s.sig m.parts
    fitting = parts_fit s assertion clause fit m

    fits : clause_fits s.sig made ≡ true
    fits =
        let sorts = list_all (sort_fits s.sig) vars in
        let conditions = list_all (term_fits s.sig) m.parts.conj in
        let atoms = list_all (atom_fits s.sig) m.parts.body in
        and_from (sorts && conditions && atoms) (head_all (atom_fits s.sig) m.parts.head)
        (and_from (sorts && conditions) atoms (and_from sorts conditions (leaves_fitting s.sig assertion side.Concluded [] refl fit).vars fitting.conditions) fitting.atoms) fitting.head
