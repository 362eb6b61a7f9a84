-- An assertion and its clause are true together.
use Rattle.std.proofs.Common.{◌≡◌, ◌⊎◌, inl, inr, Bool, true, false, List, [], ◌∷◌, Option, Some, None, slice_get, refl, ap, sym, subst, ◌∙◌}
use Rattle.std.specs.List.{list_all}
use Rattle.std.proofs.lemmas.Bool.{and_parts, false≢true}
use Rattle.std.proofs.lemmas.List.Folds.{list_all-map}
use Rattle.std.proofs.lemmas.Option.{none-some}
use Rattle.chc_sorts.specs.declared.sort.Sort.{Sort}
use Rattle.chc_sorts.specs.declared.sort.Sort.TheVariants as sort
use Rattle.chc_values.specs.declared.value.Value.{Value}
use Rattle.chc_values.specs.declared.value.Value.TheVariants as value
use Rattle.chc_values.specs.declared.world.WorldEntry.{WorldEntry}
use Rattle.chc_values.specs.Values.{AreOf}
use Rattle.chc_values.specs.Worlds.{IsWorld}
use Rattle.chc_terms.specs.declared.term.Term.{Term}
use Rattle.chc_terms.specs.Has.{TermHas, EachHas, AllHave, SomeHas, silent}
use Rattle.chc_terms.specs.Sorted.{sort_of, sorts_of, is_plain}
use Rattle.chc_terms.proofs.Contexts.{Extends, sort_kept}
use Rattle.chc_terms.proofs.ForOthers.{one_value_under_any, some_value_under_any, same_meaning, same_meanings, truth_value, nothing_meant, one_list, list_of_sorts}
use Rattle.chc_terms.proofs.HasLaws.{Has-Pred}
use Rattle.chc_terms.proofs.SameSort.{same_from_test, same_sorts_from_test}
use Rattle.chc_state.specs.declared.clause.Atom.{Atom}
use Rattle.chc_state.specs.declared.clause.Clause.{Clause}
use Rattle.chc_state.specs.declared.defs.Defs.{Defs}
use Rattle.chc_state.specs.States.{StateView, head_all}
use Rattle.chc_state.specs.Sorts.{clause_context, is_sort, are_sorts, is_condition, is_sorted_atom, positions}
use Rattle.chc_state.specs.Meaning.{In, AtomHolds, Fires}
use Rattle.chc_state.specs.Definitions.{PredMeans, DefMeans, HasUnder, Says, HeadHolds, IsTrueUnder, AssertTrue}
use Rattle.chc_state.proofs.Defined.{defined_means, all_live_total}
use Rattle.chc_script.specs.Horn.{Prefix, prefix_of, no_parts, closed_over}
use Rattle.chc_script.specs.HornLaws.{script_context, context_under, SaysClause, MeansUnder, HasValues, ClauseOfTrue, TrueOfClause, KeepsTruth}
use Rattle.chc_script.specs.declared.horn.parts.Parts.{Parts}
use Rattle.chc_script.specs.declared.horn.side.Side.{Side}
use Rattle.chc_script.specs.declared.horn.side.Side.TheVariants as side
use Rattle.chc_script.proofs.HornSteps.{true_not_false, holding, failing, atom_term, HeadIs, Met, Broken, TermStep, collected_step}
use Rattle.chc_script.proofs.Stripped.{Stripped, strips}
use Rattle.chc_script.proofs.SortedParts.{AreSorted}
use Rattle.chc_script.proofs.ClauseForm.{Made, made_of, leaves_truth, parts_sorted}

module _ (s : StateView) (w : List WorldEntry) (d : Defs) (world : IsWorld s.sig w) (means : MeansUnder s w d) where
  abbrev Under : Term → List Value → Value → Type 0
  Under = HasUnder s.sig w d

  abbrev Within : Term → List Value → Value → Type 0
  Within = TermHas s.sig w

  abbrev yes : Value
  yes = value.Bool true

  abbrev no : Value
  no = value.Bool false

  abbrev AtomHere : List Value → Atom → Type 0
  AtomHere env a = AtomHolds s.sig w (Says s.sig w d) env a

  within_from : (t : Term) → is_plain t ≡ true → (env : List Value) (v : Value) → Under t env v → Within t env v
  within_from t p env v h = same_meaning s.sig w (PredMeans s.sig w d) (DefMeans s.sig w d) silent silent t p env v h

  each_within : (ts : List Term) → list_all is_plain ts ≡ true → (env vs : List Value) → EachHas Under ts env vs → EachHas Within ts env vs
  each_within ts p env vs h = same_meanings s.sig w (PredMeans s.sig w d) (DefMeans s.sig w d) silent silent ts (list_all-map (λ b. b) is_plain ts ∙ p) env vs h

  module _ (vars : List Sort) (env : List Value) (are : AreOf s.sig env vars) where
    abbrev IsCondition : Term → Bool
    IsCondition = is_condition s.sig vars

    abbrev IsAtom : Atom → Bool
    IsAtom = is_sorted_atom s.sig (positions s.preds) vars

    -- conditions
    sort_found : (o : Option Sort) → is_sort sort.Bool o ≡ true → o ≡ Some sort.Bool
    sort_found None h = absurd (false≢true h)
    sort_found (Some t) h = ap Some (same_from_test t sort.Bool h)

    condition_once : (t : Term) → IsCondition t ≡ true → Within t env yes → Within t env no → ⊥
    condition_once t c h k =
        let b = and_parts (is_plain t) (is_sort sort.Bool (sort_of (clause_context s.sig) t vars)) c in
        true_not_false
        ((one_value_under_any (clause_context s.sig) w silent silent world (nothing_meant s.sig silent silent) t vars sort.Bool (sort_found (sort_of (clause_context s.sig) t vars) b.1)).one
        env are yes no h k)

    plain_condition : (t : Term) → IsCondition t ≡ true → is_plain t ≡ true
    plain_condition t c = (and_parts (is_plain t) (is_sort sort.Bool (sort_of (clause_context s.sig) t vars)) c).0

    conditions_clash : (ts : List Term) → list_all IsCondition ts ≡ true → AllHave Within ts env yes → SomeHas Under ts env no → ⊥
    conditions_clash [] c h k = k
    conditions_clash (t ∷ ts) c h (inl k) =
        let b = and_parts (IsCondition t) (list_all IsCondition ts) c in
        condition_once t b.0 h.0 (within_from t (plain_condition t b.0) env no k)
    conditions_clash (t ∷ ts) c h (inr k) = conditions_clash ts (and_parts (IsCondition t) (list_all IsCondition ts) c).1 h.1 k

    conditions_within : (ts : List Term) → list_all IsCondition ts ≡ true → AllHave Under ts env yes → AllHave Within ts env yes
    conditions_within [] c h = tt
    conditions_within (t ∷ ts) c h =
        let b = and_parts (IsCondition t) (list_all IsCondition ts) c in
        (within_from t (plain_condition t b.0) env yes h.0, conditions_within ts b.1 h.1)

    -- atoms
    record Args (a : Atom) : Type 0 where
      plain : list_all is_plain a.args ≡ true
      params : List Sort
      sorted : sorts_of (clause_context s.sig) a.args vars ≡ Some params
      declared : slice_get (positions s.preds) a.pred ≡ Some params

    args_of : (a : Atom) → IsAtom a ≡ true → Args a
    args_of a c =
        let b = and_parts (list_all is_plain a.args) (are_sorts (sorts_of (clause_context s.sig) a.args vars) (slice_get (positions s.preds) a.pred)) c in
        there b.0 (sorts_of (clause_context s.sig) a.args vars) refl (slice_get (positions s.preds) a.pred) refl b.1
      where
        there : list_all is_plain a.args ≡ true → (o : Option (List Sort)) → sorts_of (clause_context s.sig) a.args vars ≡ o
            → (q : Option (List Sort)) → slice_get (positions s.preds) a.pred ≡ q → are_sorts o q ≡ true → Args a
        there plain None e q f h = absurd (false≢true h)
        there plain (Some sorts) e None f h = absurd (false≢true h)
        there plain (Some sorts) e (Some params) f h = record { plain = plain; params = params; sorted = e ∙ ap Some (same_sorts_from_test sorts params h); declared = f }

    atom_here : (a : Atom) → IsAtom a ≡ true → Under (atom_term a) env yes → AtomHere env a
    atom_here a c h =
        let k = rw (Has-Pred s.sig w (PredMeans s.sig w d) (DefMeans s.sig w d) a.pred a.args env yes) at h in
        (k.0, each_within a.args (args_of a c).plain env k.0 k.1, k.2)

    atom_clash : (a : Atom) → IsAtom a ≡ true → AtomHere env a → Under (atom_term a) env no → ⊥
    atom_clash a c h k =
        let args = args_of a c in
        let l = rw (Has-Pred s.sig w (PredMeans s.sig w d) (DefMeans s.sig w d) a.pred a.args env no) at k in
        let nothing = nothing_meant s.sig silent silent in
        let same : l.0 ≡ h.0 = one_list (clause_context s.sig) w silent silent world nothing a.args vars args.params args.sorted env are l.0 h.0 (each_within a.args args.plain env l.0 l.1) h.1 in
        let sorts : AreOf s.sig h.0 args.params = list_of_sorts (clause_context s.sig) w silent silent world nothing a.args vars args.params args.sorted env are h.0 h.1 in
        true_not_false
        ((means.preds_fit a.pred args.params args.declared).one h.0 sorts yes no h.2 (subst (λ (us : List Value). PredMeans s.sig w d a.pred us no) same l.2))

    atoms_clash : (more : List Atom) → list_all IsAtom more ≡ true → ((a : Atom) → In a more → AtomHere env a) → SomeHas (λ a vs v. Under (atom_term a) vs v) more env no → ⊥
    atoms_clash [] c h k = k
    atoms_clash (a ∷ more) c h (inl k) = atom_clash a (and_parts (IsAtom a) (list_all IsAtom more) c).0 (h a (inl refl)) k
    atoms_clash (a ∷ more) c h (inr k) = atoms_clash more (and_parts (IsAtom a) (list_all IsAtom more) c).1 (λ b i. h b (inr i)) k

    atoms_here : (more : List Atom) → list_all IsAtom more ≡ true → AllHave (λ a vs v. Under (atom_term a) vs v) more env yes → (a : Atom) → In a more → AtomHere env a
    atoms_here [] c h a i = absurd i
    atoms_here (b ∷ more) c h a (inl same) = subst (AtomHere env) (sym same) (atom_here b (and_parts (IsAtom b) (list_all IsAtom more) c).0 h.0)
    atoms_here (b ∷ more) c h a (inr i) = atoms_here more (and_parts (IsAtom b) (list_all IsAtom more) c).1 h.1 a i

    -- the head
    abbrev HeadHas : Bool → Option Atom → Type 0
    HeadHas b head = HeadIs s.sig w (PredMeans s.sig w d) (DefMeans s.sig w d) env b head

    head_here : (head : Option Atom) → head_all IsAtom head ≡ true → HeadHas true head → HeadHolds s.sig w (Says s.sig w d) env head
    head_here None c h = false≢true (sym h)
    head_here (Some a) c h = atom_here a c h

    head_clash : (head : Option Atom) → head_all IsAtom head ≡ true → HeadHolds s.sig w (Says s.sig w d) env head → HeadHas false head → ⊥
    head_clash None c h k = h
    head_clash (Some a) c h k = atom_clash a c h k

    module _ (parts : Parts) (sorted : AreSorted s.sig s.preds vars parts) where
      abbrev IsMet : Type 0
      IsMet = Met s.sig w (PredMeans s.sig w d) (DefMeans s.sig w d) env parts

      abbrev IsBroken : Type 0
      IsBroken = Broken s.sig w (PredMeans s.sig w d) (DefMeans s.sig w d) env parts

      abbrev FiresHere : Type 0
      FiresHere = Fires s.sig w (Says s.sig w d) (closed_over vars parts) env

      -- a clause that some part makes true has a head that holds where it fires
      head_from : IsMet → FiresHere → HeadHolds s.sig w (Says s.sig w d) env parts.head
      head_from (inl k) fires = absurd (conditions_clash parts.conj sorted.conditions fires.truths k)
      head_from (inr (inl k)) fires = absurd (atoms_clash parts.body sorted.atoms fires.atoms k)
      head_from (inr (inr k)) fires = head_here parts.head sorted.head k

      -- and one that no part makes true fires, and isn't true
      no_break : (FiresHere → HeadHolds s.sig w (Says s.sig w d) env parts.head) → IsBroken → ⊥
      no_break h b =
          head_clash parts.head sorted.head
          (h (record { sorted = are; truths = conditions_within parts.conj sorted.conditions b.conditions; atoms = atoms_here parts.body sorted.atoms b.atoms }))
          b.head_false

  -- a truth value holds or fails
  by_side : (t : Term) (r : Side) (b : Bool) (env : List Value) → Under t env (value.Bool b) → Under t env (holding r) ⊎ Under t env (failing r)
  by_side t side.Concluded true env h = inl h
  by_side t side.Concluded false env h = inr h
  by_side t side.Assumed true env h = inr h
  by_side t side.Assumed false env h = inl h

  module _ (assertion : Term) (clause : Clause) (says : SaysClause s assertion clause) where
    abbrev front : Prefix
    front = prefix_of assertion side.Concluded []

    made : Made assertion clause
    made = made_of assertion clause says.says

    sorted_parts : AreSorted s.sig s.preds front.vars made.parts
    sorted_parts = parts_sorted s assertion clause says made

    stripped : Stripped s.sig w (PredMeans s.sig w d) (DefMeans s.sig w d) assertion side.Concluded [] front
    stripped = strips s.sig w (PredMeans s.sig w d) (DefMeans s.sig w d) assertion side.Concluded []

    step_at : (env : List Value) → TermStep s.sig w (PredMeans s.sig w d) (DefMeans s.sig w d) env front.rest front.side no_parts made.parts
    step_at env = collected_step s.sig w (PredMeans s.sig w d) (DefMeans s.sig w d) env front.rest front.side no_parts made.parts made.found

    clause_true : AssertTrue s.sig w d assertion → IsTrueUnder s.sig w d clause
    clause_true h =
        subst (IsTrueUnder s.sig w d) made.is
        (record {
          clause_true = λ env fires.
              let holds = stripped.forwards [] h.has_true env (subst (AreOf s.sig env) stripped.vars_are fires.sorted) in
              head_from front.vars env fires.sorted made.parts sorted_parts ((step_at env).says holds) fires;
        })

    rest_sorted : sort_of (context_under s d) front.rest front.vars ≡ Some sort.Bool
    rest_sorted = sort_kept (script_context s.sig s.preds) (context_under s d) extends front.rest front.vars sort.Bool (leaves_truth (script_context s.sig s.preds) assertion side.Concluded [] says.sorted)
      where
        extends : Extends (script_context s.sig s.preds) (context_under s d)
        extends = record { same_sig = refl; preds_kept = λ p params e. e; defs_kept = λ k f e. absurd (none-some f e) }

    nothing_broken : (env : List Value) → Broken s.sig w (PredMeans s.sig w d) (DefMeans s.sig w d) env no_parts
    nothing_broken env = record { conditions = tt; atoms = tt; head_false = refl }

    assertion_true : HasValues s w d → IsTrueUnder s.sig w d clause → AssertTrue s.sig w d assertion
    assertion_true values h = record { has_true = stripped.backwards [] (λ env a. rest_holds env (subst (AreOf s.sig env) (sym stripped.vars_are) a)) }
      where
        holds : IsTrueUnder s.sig w d (closed_over front.vars made.parts)
        holds = subst (IsTrueUnder s.sig w d) (sym made.is) h

        rest_holds : (env : List Value) → AreOf s.sig env front.vars → Under front.rest env (holding front.side)
        rest_holds env are =
            let found = values.valued front.rest front.vars sort.Bool rest_sorted made.unquantified env are in
            let of = (one_value_under_any (context_under s d) w (PredMeans s.sig w d) (DefMeans s.sig w d) world means front.rest front.vars sort.Bool rest_sorted).of env are found.0 found.1 in
            let truth = truth_value s.sig found.0 of in
            elim (by_side front.rest front.side truth.0 env (subst (Under front.rest env) truth.1 found.1)) [
              | inl k ↦ k
              | inr k ↦ absurd (no_break front.vars env are made.parts sorted_parts (holds.clause_true env) ((step_at env).breaks k (nothing_broken env)))
            ]

pub clause_of_true : ClauseOfTrue
clause_of_true s w d world means assertion clause says h = clause_true s w d world means assertion clause says h

pub true_of_clause : TrueOfClause
true_of_clause s w d world means values assertion clause says h = assertion_true s w d world means assertion clause says values h

pub keeps_truth : KeepsTruth
keeps_truth s w d world founded defines assertion clause says =
    let means : MeansUnder s w d = defined_means one_value_under_any s w d world defines in
    record {
      clause_true = λ h. clause_of_true s w d world means assertion clause says h;
      assertion_true = λ decided live h.
          let total = all_live_total s w d defines decided live in
          true_of_clause s w d world means
          (record { valued = λ t vars r sorted u env a. some_value_under_any (context_under s d) w (PredMeans s.sig w d) (DefMeans s.sig w d) world founded means total t vars r sorted u env a })
          assertion clause says h;
    }
