-- The names of a state's predicates and of definitions for it: each can be that of a definition, and they differ.
use Rattle.std.proofs.Common.{◌≡◌, ◌∙◌, ◌⊎◌, inl, inr, sym, ap, subst, ℕ, zero, suc, ◌+◌, ◌<◌, false, List, [], ◌∷◌, ◌++◌, length, get_or, Option, Some, None, slice_get, codes, arith}
use Rattle.std.proofs.lemmas.Bool.{cases_lt}
use Rattle.std.proofs.lemmas.List.{length-append}
use Rattle.std.proofs.lemmas.Option.{slice_get_within}
use Rattle.chc_sorts.specs.Names.{has_name}
use Rattle.chc_state.proofs.Places.{element-at, same_element, one_element}
use Rattle.chc_print.specs.Helpers.{numbered}
use Rattle.chc_print.specs.Prefix.{used_names}
use Rattle.chc_print.specs.Texts.{name_at, or_empty}
use Rattle.ans_model.specs.Texts.{called}
use Rattle.ans_model.proofs.CalledNames.{called_other, called_owned, others_before, others_rise, others_within}
use Rattle.ans_model.proofs.CanBeCalled.{CanBeCalled, IsHelper, given_can, goal_is_stem, helper_at, helper_can, helpers_apart, lacked, lacks-append, lift_is_stem}
use Rattle.ans_model.proofs.Printing.{Printing}

-- a name of two lists is one of either
of_two : (xs ys : List (List ℕ)) (i : ℕ) (name : List ℕ) → slice_get (xs ++ ys) i ≡ Some name
    → (slice_get xs i ≡ Some name) ⊎ ((j : ℕ) × (i ≡ length xs + j) × (slice_get ys j ≡ Some name))
of_two [] ys i name at = inr (i, omega arith, at)
of_two (x ∷ xs) ys zero name at = inl at
of_two (x ∷ xs) ys (suc i) name at = elim (of_two xs ys i name at) [
  | inl here ↦ inl here
  | inr there ↦ (let e : suc i ≡ length (x ∷ xs) + there.0 = omega (arith, there.1) in inr (there.0, e, there.2))
]

-- what is there has that name
pub name_there : (names : List (List ℕ)) (i : ℕ) → i < length names → slice_get names i ≡ Some (name_at names i)
name_there names i low = let found = element-at names i low in found.1 ∙ ap Some (sym (ap or_empty found.1))

goal_no_lift : (m n : ℕ) → numbered (codes "goal!") m ≡ numbered (codes "lift!") n → ⊥
goal_no_lift m n e = let first : ◌≡◌ {A = ℕ} 103 108 = ap (λ (l : List ℕ). get_or l 0 0) e in omega arith

module _ (printing : Printing) where
  abbrev used : List (List ℕ)
  used = used_names printing.state.sig printing.names

  -- there is a name for each predicate
  pub all_count : length printing.all ≡ length printing.state.preds
  all_count =
      let whole : length printing.all ≡ length (printing.names ++ printing.naming.helpers) = ap length printing.naming.whole in
      let both = length-append printing.names printing.naming.helpers in
      let count = printing.naming.count in
      let few = printing.given.few in
      omega arith

  -- a name of a predicate is a given one or a helper's
  abbrev IsFrom : ℕ → List ℕ → Type 0
  IsFrom p name = (slice_get printing.names p ≡ Some name) ⊎ ((j : ℕ) × (p ≡ length printing.names + j) × (slice_get printing.naming.helpers j ≡ Some name))

  from : (p : ℕ) (name : List ℕ) → slice_get printing.all p ≡ Some name → IsFrom p name
  from p name at = of_two printing.names printing.naming.helpers p name (ap (λ (l : List (List ℕ)). slice_get l p) (sym printing.naming.whole) ∙ at)

  helper : (j : ℕ) (name : List ℕ) → slice_get printing.naming.helpers j ≡ Some name → IsHelper used (codes "goal!") name
  helper = helper_at used (codes "goal!") printing.naming.helpers printing.naming.are_next

  pub predicate_can : (p : ℕ) (name : List ℕ) → slice_get printing.all p ≡ Some name → CanBeCalled printing.state.sig printing.prefix name
  predicate_can p name at = elim (from p name at) [
    | inl here ↦ given_can printing.state printing.names printing.prefix printing.variables printing.given p name here
    | inr there ↦ helper_can printing.state printing.names printing.prefix printing.variables (codes "goal!") goal_is_stem name (helper there.0 name there.2)
  ]

  -- no name in use is given to a predicate that isn't so
  unused_given : (i : ℕ) (name : List ℕ) → slice_get printing.names i ≡ Some name → has_name used name ≡ false → ⊥
  unused_given i name at free = lacked printing.names i name at (lacks-append printing.names _ name free).0

  -- the names of predicates differ
  pub predicates_apart : (p q : ℕ) (name : List ℕ) → slice_get printing.all p ≡ Some name → slice_get printing.all q ≡ Some name → p ≡ q
  predicates_apart p q name at there = by (from p name at) (from q name there)
    where
      by : IsFrom p name → IsFrom q name → p ≡ q
      by (inl a) (inl b) = printing.given.apart p q name a b
      by (inl a) (inr (j, e, b)) = absurd (unused_given p name a (helper j name b).free)
      by (inr (i, e, a)) (inl b) = absurd (unused_given q name b (helper i name a).free)
      by (inr (i, e, a)) (inr (j, f, b)) = e ∙ ap (λ k. length printing.names + k) (helpers_apart used (codes "goal!") printing.naming.helpers printing.naming.are_next i j name a b) ∙ sym f

  -- no predicate has the name of a definition that is no predicate's
  pub lift_apart : (name : List ℕ) → IsHelper used (codes "lift!") name → (p : ℕ) → slice_get printing.all p ≡ Some name → ⊥
  lift_apart name lift p at = elim (from p name at) [
    | inl here ↦ unused_given p name here lift.free
    | inr there ↦ (let goal = helper there.0 name there.2 in goal_no_lift goal.number lift.number (sym goal.form ∙ lift.form))
  ]

  -- whose the definition of that name is: the predicate of the name, or none's
  abbrev pub IsCall : ℕ → List ℕ → Type 0
  IsCall k name =
      ((p : ℕ) × (slice_get printing.defs.of p ≡ Some (Some k)) × (slice_get printing.all p ≡ Some name))
      ⊎ ((slice_get printing.calling.owners k ≡ Some None) × (slice_get printing.calling.lifts (others_before printing.calling.owners k) ≡ Some name) × ((p : ℕ) → slice_get printing.defs.of p ≡ Some (Some k) → ⊥))

  lift : (i : ℕ) (name : List ℕ) → slice_get printing.calling.lifts i ≡ Some name → IsHelper used (codes "lift!") name
  lift = helper_at used (codes "lift!") printing.calling.lifts printing.calling.are_next

  -- each definition has a name
  pub call_is : (k : ℕ) → k < length printing.defs.list → (slice_get printing.calls k ≡ Some (name_at printing.calls k)) × IsCall k (name_at printing.calls k)
  call_is k low = by (element-at printing.calling.owners k (omega (arith, printing.calling.owned.count)))
    where
      at : (name : List ℕ) → slice_get (called printing.all printing.calling.lifts 0 printing.calling.owners) k ≡ Some name → slice_get printing.calls k ≡ Some name
      at name h = ap (λ (l : List (List ℕ)). slice_get l k) printing.calling.whole ∙ h

      named : (name : List ℕ) → slice_get printing.calls k ≡ Some name → IsCall k name → (slice_get printing.calls k ≡ Some (name_at printing.calls k)) × IsCall k (name_at printing.calls k)
      named name there call = let same : name ≡ name_at printing.calls k = sym (ap or_empty there) in (there ∙ ap Some same, subst (IsCall k) same call)

      by : (o : Option ℕ) × (slice_get printing.calling.owners k ≡ Some o) → (slice_get printing.calls k ≡ Some (name_at printing.calls k)) × IsCall k (name_at printing.calls k)
      by (None, none) =
          let i : ℕ = others_before printing.calling.owners k in
          let low : i < length printing.calling.lifts = omega (arith, printing.calling.count, others_within printing.calling.owners k none) in
          let none_more : 0 + i ≡ i = omega arith in
          named (name_at printing.calling.lifts i)
          (at (name_at printing.calling.lifts i) (called_other printing.all printing.calling.lifts 0 printing.calling.owners k none ∙ ap (λ n. Some (name_at printing.calling.lifts n)) none_more))
          (inr (none, name_there printing.calling.lifts i low, λ p owned. no_owner p (one_element None (Some p) none (printing.calling.owned.owned p k owned))))
        where
          no_owner : (p : ℕ) → ◌≡◌ {A = Option ℕ} None (Some p) → ⊥
          no_owner p e = cc
      by (Some p, some) =
          let owned : slice_get printing.defs.of p ≡ Some (Some k) = printing.calling.owned.only p k some in
          let low : p < length printing.all = omega (arith, slice_get_within printing.defs.of p (Some k) owned, printing.defines.entries, all_count) in
          named (name_at printing.all p) (at (name_at printing.all p) (called_owned printing.all printing.calling.lifts 0 printing.calling.owners k p some)) (inl (p, owned, name_there printing.all p low))

  -- each of these can be the name of a definition
  pub call_can : (k : ℕ) (name : List ℕ) → IsCall k name → CanBeCalled printing.state.sig printing.prefix name
  call_can k name (inl (p, owned, at)) = predicate_can p name at
  call_can k name (inr (at, there, none)) = helper_can printing.state printing.names printing.prefix printing.variables (codes "lift!") lift_is_stem name (lift (others_before printing.calling.owners k) name there)

  -- no predicate has that of a definition that is no predicate's
  pub call_unowned : (k : ℕ) (name : List ℕ) → slice_get printing.calling.lifts (others_before printing.calling.owners k) ≡ Some name → (p : ℕ) → slice_get printing.all p ≡ Some name → ⊥
  call_unowned k name there p at = lift_apart name (lift (others_before printing.calling.owners k) name there) p at

  -- and they differ
  pub calls_differ : (i j : ℕ) (name : List ℕ) → IsCall i name → IsCall j name → i ≡ j
  calls_differ i j name (inl (p, owned, at)) (inl (q, other, there)) =
      let same : p ≡ q = predicates_apart p q name at there in
      same_element i j (one_element (Some i) (Some j) owned (ap (slice_get printing.defs.of) same ∙ other))
  calls_differ i j name (inl (p, owned, at)) (inr (other, there, none)) = absurd (lift_apart name (lift (others_before printing.calling.owners j) name there) p at)
  calls_differ i j name (inr (at, here, none)) (inl (q, owned, there)) = absurd (lift_apart name (lift (others_before printing.calling.owners i) name here) q there)
  calls_differ i j name (inr (at, here, none)) (inr (there, after, other)) =
      let same : others_before printing.calling.owners i ≡ others_before printing.calling.owners j = helpers_apart used (codes "lift!") printing.calling.lifts printing.calling.are_next (others_before printing.calling.owners i) (others_before printing.calling.owners j) name here after in
      elim (cases_lt i j) [
        | inl less ↦ (let rise = others_rise printing.calling.owners i j at less in absurd (omega arith))
        | inr more ↦ elim (cases_lt j i) [
          | inl less ↦ (let rise = others_rise printing.calling.owners j i there less in absurd (omega arith))
          | inr back ↦ omega arith
        ]
      ]
