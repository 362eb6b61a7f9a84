-- The parts of the clause of an assertion fit where the assertion does.
use Rattle.std.proofs.Common.{◌≡◌, ℕ, Bool, true, false, cond, List, [], ◌∷◌, ◌++◌, map, Option, Some, None, Ok, refl, sym, subst, ◌∙◌}
use Rattle.std.specs.List.{AllByRecursion, list_all, list_any}
use Rattle.std.proofs.lemmas.Bool.{and_parts, and_from}
use Rattle.std.proofs.lemmas.List.Folds.{list_all-append}
use Rattle.chc_sorts.specs.declared.sort.Sort.{Sort}
use Rattle.chc_sorts.specs.declared.op.Op.{Op}
use Rattle.chc_sorts.specs.declared.op.Op.TheVariants as op
use Rattle.chc_sorts.specs.Signature.{Signature}
use Rattle.chc_sorts.specs.Sorts.{sort_fits}
use Rattle.chc_terms.specs.declared.term.Kind.{Kind}
use Rattle.chc_terms.specs.declared.term.Term.{Term}
use Rattle.chc_terms.specs.declared.term.Term.TheVariants as term
use Rattle.chc_terms.specs.Numbers.{numbers_fit}
use Rattle.chc_terms.specs.Sorted.{op_fits, sorts_fit}
use Rattle.chc_terms.proofs.Induction.{term_ind}
use Rattle.chc_terms.proofs.NumberLaws.{numbers_fit-App, numbers_fit-Pred, numbers_fit-Quant}
use Rattle.chc_terms.proofs.SortLaws.{sorts_fit-App, sorts_fit-Pred, sorts_fit-Quant}
use Rattle.chc_state.specs.declared.clause.Atom.{Atom}
use Rattle.chc_state.specs.States.{head_all}
use Rattle.chc_state.specs.WellFormed.{term_fits, atom_fits}
use Rattle.chc_script.specs.Marks.{mentions}
use Rattle.chc_script.specs.Horn.{Prefix, left, binds, prefix_of, stripping, operator_stripped, collected, readings, each, way_of, way_read, whole_read, literal_read, atom_read, with_condition, with_head}
use Rattle.chc_script.specs.declared.horn.parts.Parts.{Parts}
use Rattle.chc_script.specs.declared.horn.side.Side.{Side}
use Rattle.chc_script.specs.declared.horn.side.Side.TheVariants as side
use Rattle.chc_script.proofs.Collected.{collected-Var, collected-Num, collected-Lit, collected-App, collected-Pred, collected-Quant, collected-Call}
use Rattle.chc_script.proofs.PrefixLaws.{prefix-Var, prefix-Num, prefix-Lit, prefix-App, prefix-Pred, prefix-Quant, prefix-Call}
use Rattle.chc_script.proofs.HornSteps.{same_made, refused_made, made_before}
use Rattle.chc_script.proofs.SortedParts.{all_appended}

module _ (sig : Signature) where
  abbrev Fits : Term → Type 0
  Fits t = term_fits sig t ≡ true

  -- arguments
  all_fit : (ts : List Term) → list_all (λ b. b) (map (sorts_fit sig) ts) ≡ true → list_all (λ b. b) (map numbers_fit ts) ≡ true → list_all (term_fits sig) ts ≡ true
  all_fit [] h k = refl
  all_fit (t ∷ ts) h k =
      let sorts = and_parts (sorts_fit sig t) (list_all (λ b. b) (map (sorts_fit sig) ts)) h in
      let numbers = and_parts (numbers_fit t) (list_all (λ b. b) (map numbers_fit ts)) k in
      and_from (term_fits sig t) (list_all (term_fits sig) ts) (and_from (sorts_fit sig t) (numbers_fit t) sorts.0 numbers.0) (all_fit ts sorts.1 numbers.1)

  operands_fit : (o : Op) (ts : List Term) → Fits (term.App o ts) → list_all (term_fits sig) ts ≡ true
  operands_fit o ts h =
      let both = and_parts (sorts_fit sig (term.App o ts)) (numbers_fit (term.App o ts)) h in
      let sorts = and_parts (op_fits sig o) (list_all (λ b. b) (map (sorts_fit sig) ts)) (sym (sorts_fit-App sig o ts) ∙ both.0) in
      all_fit ts sorts.1 (sym (numbers_fit-App o ts) ∙ both.1)

  arguments_fit : (p : ℕ) (ts : List Term) → Fits (term.Pred p ts) → list_all (term_fits sig) ts ≡ true
  arguments_fit p ts h =
      let both = and_parts (sorts_fit sig (term.Pred p ts)) (numbers_fit (term.Pred p ts)) h in
      all_fit ts (sym (sorts_fit-Pred sig p ts) ∙ both.0) (sym (numbers_fit-Pred p ts) ∙ both.1)

  negation_fits : (t : Term) → Fits t → Fits (term.App op.Not (t ∷ []))
  negation_fits t h =
      let both = and_parts (sorts_fit sig t) (numbers_fit t) h in
      and_from (sorts_fit sig (term.App op.Not (t ∷ []))) (numbers_fit (term.App op.Not (t ∷ [])))
      (sorts_fit-App sig op.Not (t ∷ []) ∙ and_from (sorts_fit sig t) true both.0 refl) (numbers_fit-App op.Not (t ∷ []) ∙ and_from (numbers_fit t) true both.1 refl)

  -- the quantifiers in front
  pub record PrefixFits (p : Prefix) : Type 0 where
    pub vars : list_all (sort_fits sig) p.vars ≡ true
    pub rest : term_fits sig p.rest ≡ true

  abbrev LeavesFitting : Term → Type 0
  LeavesFitting t = (s : Side) (vars : List Sort) → list_all (sort_fits sig) vars ≡ true → Fits t → PrefixFits (prefix_of t s vars)

  left_fits : (t : Term) (s : Side) (vars : List Sort) → list_all (sort_fits sig) vars ≡ true → Fits t → PrefixFits (left t s vars)
  left_fits t s vars v h = record { vars = v; rest = h }

  negation_leaves : (ts : List Term) → AllByRecursion LeavesFitting ts → (vars : List Sort) → list_all (sort_fits sig) vars ≡ true → Fits (term.App op.Not ts)
      → PrefixFits (operator_stripped op.Not side.Concluded (map (λ t. (t, stripping t)) ts) (term.App op.Not ts) side.Concluded vars)
  negation_leaves [] f vars v h = left_fits (term.App op.Not []) side.Concluded vars v h
  negation_leaves (t ∷ u ∷ ts) f vars v h = left_fits (term.App op.Not (t ∷ u ∷ ts)) side.Concluded vars v h
  negation_leaves (t ∷ []) f vars v h = f.0 side.Assumed vars v (and_parts (term_fits sig t) true (operands_fit op.Not (t ∷ []) h)).0

  app_leaves : (o : Op) (s : Side) (ts : List Term) → AllByRecursion LeavesFitting ts → (vars : List Sort) → list_all (sort_fits sig) vars ≡ true → Fits (term.App o ts)
      → PrefixFits (operator_stripped o s (map (λ t. (t, stripping t)) ts) (term.App o ts) s vars)
  app_leaves op.Not side.Concluded ts f vars v h = negation_leaves ts f vars v h
  app_leaves o s ts f vars v h = left_fits (term.App o ts) s vars v h

  quant_leaves : (k : Kind) (sorts : List Sort) (t : Term) → LeavesFitting t → LeavesFitting (term.Quant k sorts t)
  quant_leaves k sorts t f s vars v h = subst PrefixFits (sym (prefix-Quant s vars k sorts t)) (by_test (binds k s))
    where
      both : (sorts_fit sig (term.Quant k sorts t) ≡ true) × (numbers_fit (term.Quant k sorts t) ≡ true)
      both = and_parts (sorts_fit sig (term.Quant k sorts t)) (numbers_fit (term.Quant k sorts t)) h

      bound : (list_all (sort_fits sig) sorts ≡ true) × (sorts_fit sig t ≡ true)
      bound = and_parts (list_all (sort_fits sig) sorts) (sorts_fit sig t) (sym (sorts_fit-Quant sig k sorts t) ∙ both.0)

      by_test : (b : Bool) → PrefixFits (cond b (prefix_of t s (vars ++ sorts)) (left (term.Quant k sorts t) s vars))
      by_test true =
          f s (vars ++ sorts) (list_all-append (sort_fits sig) vars sorts ∙ and_from (list_all (sort_fits sig) vars) (list_all (sort_fits sig) sorts) v bound.0)
          (and_from (sorts_fit sig t) (numbers_fit t) bound.1 (sym (numbers_fit-Quant k sorts t) ∙ both.1))
      by_test false = left_fits (term.Quant k sorts t) s vars v h

  pub leaves_fitting : (t : Term) → LeavesFitting t
  leaves_fitting = term_ind LeavesFitting (record {
    of_var = λ i s vars v h. subst PrefixFits (sym (prefix-Var s vars i)) (left_fits (term.Var i) s vars v h);
    of_num = λ n s vars v h. subst PrefixFits (sym (prefix-Num s vars n)) (left_fits (term.Num n) s vars v h);
    of_lit = λ b s vars v h. subst PrefixFits (sym (prefix-Lit s vars b)) (left_fits (term.Lit b) s vars v h);
    of_app = λ o ts f s vars v h. subst PrefixFits (sym (prefix-App s vars o ts)) (app_leaves o s ts f vars v h);
    of_pred = λ p ts f s vars v h. subst PrefixFits (sym (prefix-Pred s vars p ts)) (left_fits (term.Pred p ts) s vars v h);
    of_quant = quant_leaves;
    of_call = λ k ts f s vars v h. subst PrefixFits (sym (prefix-Call s vars k ts)) (left_fits (term.Call k ts) s vars v h);
  })

  -- all parts fit
  pub record PartsFit (found : Parts) : Type 0 where
    pub conditions : list_all (term_fits sig) found.conj ≡ true
    pub atoms : list_all (atom_fits sig) found.body ≡ true
    pub head : head_all (atom_fits sig) found.head ≡ true

  abbrev Keeps : Term → Type 0
  Keeps t = (s : Side) (found made : Parts) → collected t s found ≡ Ok made → Fits t → PartsFit found → PartsFit made

  -- one more condition
  with_conjunct : (t : Term) (found : Parts) → Fits t → PartsFit found → PartsFit (record { conj = found.conj ++ t ∷ []; body = found.body; head = found.head })
  with_conjunct t found h fit = record { conditions = all_appended (term_fits sig) found.conj t fit.conditions h; atoms = fit.atoms; head = fit.head }

  condition_fits : (t : Term) (s : Side) (found : Parts) → Fits t → PartsFit found → PartsFit (with_condition s t found)
  condition_fits t side.Concluded found h fit = with_conjunct (term.App op.Not (t ∷ [])) found (negation_fits t h) fit
  condition_fits t side.Assumed found h fit = with_conjunct t found h fit

  whole_fits : (m : Bool) (t : Term) (s : Side) (found made : Parts) → whole_read m t s found ≡ Ok made → Fits t → PartsFit found → PartsFit made
  whole_fits true t s found made e h fit = absurd (refused_made _ made e)
  whole_fits false t s found made e h fit = subst PartsFit (same_made (with_condition s t found) made e) (condition_fits t s found h fit)

  literal_fits : (b : Bool) (s : Side) (found made : Parts) → literal_read b s found ≡ Ok made → Fits (term.Lit b) → PartsFit found → PartsFit made
  literal_fits false side.Concluded found made e h fit = subst PartsFit (same_made found made e) fit
  literal_fits true side.Assumed found made e h fit = subst PartsFit (same_made found made e) fit
  literal_fits true side.Concluded found made e h fit = whole_fits false (term.Lit true) side.Concluded found made e h fit
  literal_fits false side.Assumed found made e h fit = whole_fits false (term.Lit false) side.Assumed found made e h fit

  -- one more atom
  head_fits : (a : Atom) (conj : List Term) (body : List Atom) (head : Option Atom) (made : Parts) → with_head a conj body head ≡ Ok made → atom_fits sig a ≡ true
      → PartsFit (record { conj = conj; body = body; head = head }) → PartsFit made
  head_fits a conj body (Some head) made e h fit = absurd (refused_made _ made e)
  head_fits a conj body None made e h fit =
      subst PartsFit (same_made (record { conj = conj; body = body; head = Some a }) made e) (record { conditions = fit.conditions; atoms = fit.atoms; head = h })

  read_atom_fits : (m : Bool) (p : ℕ) (ts : List Term) (s : Side) (found made : Parts) → atom_read m p ts s found ≡ Ok made → Fits (term.Pred p ts) → PartsFit found → PartsFit made
  read_atom_fits true p ts s found made e h fit = absurd (refused_made _ made e)
  read_atom_fits false p ts side.Concluded found made e h fit =
      head_fits (record { pred = p; args = ts }) found.conj found.body found.head made e (arguments_fit p ts h) fit
  read_atom_fits false p ts side.Assumed found made e h fit =
      subst PartsFit (same_made (record { conj = found.conj; body = found.body ++ a ∷ []; head = found.head }) made e)
      (record { conditions = fit.conditions; atoms = all_appended (atom_fits sig) found.body a fit.atoms (arguments_fit p ts h); head = fit.head })
    where
      a : Atom
      a = record { pred = p; args = ts }

  -- terms one after another
  each_fits : (ts : List Term) → AllByRecursion Keeps ts → (s : Side) (found made : Parts) → each (readings ts) s found ≡ Ok made → list_all (term_fits sig) ts ≡ true
      → PartsFit found → PartsFit made
  each_fits [] f s found made e h fit = subst PartsFit (same_made found made e) fit
  each_fits (t ∷ ts) f s found made e h fit =
      let m = made_before (collected t s found) (each (readings ts) s) made e in
      let both = and_parts (term_fits sig t) (list_all (term_fits sig) ts) h in
      each_fits ts f.1 s m.0 made m.2 both.1 (f.0 s found m.0 m.1 both.0 fit)

  -- an operator's term, by how it is read
  app_fits : (o : Op) (s : Side) (m : Bool) (ts : List Term) → AllByRecursion Keeps ts → (found made : Parts)
      → way_read (way_of o s m) (readings ts) (term.App o ts) s found ≡ Ok made → Fits (term.App o ts) → PartsFit found → PartsFit made
  app_fits op.Or side.Concluded m ts f found made e h fit = each_fits ts f side.Concluded found made e (operands_fit op.Or ts h) fit
  app_fits op.Not side.Concluded m ts f found made e h fit = each_fits ts f side.Assumed found made e (operands_fit op.Not ts h) fit
  app_fits op.And side.Assumed m ts f found made e h fit = each_fits ts f side.Assumed found made e (operands_fit op.And ts h) fit
  app_fits op.Not side.Assumed true ts f found made e h fit = each_fits ts f side.Concluded found made e (operands_fit op.Not ts h) fit
  app_fits o s true ts f found made e h fit = absurd (refused_made _ made e)
  app_fits o s false ts f found made e h fit = whole_fits false (term.App o ts) s found made e h fit

  -- what is read of a term that fits
  pub collected_fits : (t : Term) → Keeps t
  collected_fits = term_ind Keeps (record {
    of_var = λ i s found made e h fit. whole_fits (mentions (term.Var i)) (term.Var i) s found made (sym (collected-Var s found i) ∙ e) h fit;
    of_num = λ n s found made e h fit. whole_fits (mentions (term.Num n)) (term.Num n) s found made (sym (collected-Num s found n) ∙ e) h fit;
    of_lit = λ b s found made e h fit. literal_fits b s found made (sym (collected-Lit s found b) ∙ e) h fit;
    of_app = λ o ts f s found made e h fit. app_fits o s (mentions (term.App o ts)) ts f found made (sym (collected-App s found o ts) ∙ e) h fit;
    of_pred = λ p ts f s found made e h fit. read_atom_fits (list_any mentions ts) p ts s found made (sym (collected-Pred s found p ts) ∙ e) h fit;
    of_quant = λ k sorts t f s found made e h fit.
        whole_fits (mentions (term.Quant k sorts t)) (term.Quant k sorts t) s found made (sym (collected-Quant s found k sorts t) ∙ e) h fit;
    of_call = λ k ts f s found made e h fit. whole_fits (mentions (term.Call k ts)) (term.Call k ts) s found made (sym (collected-Call s found k ts) ∙ e) h fit;
  })
