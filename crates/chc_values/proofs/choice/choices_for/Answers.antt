use Rattle.std.proofs.Common.{rules, ◌≡◌, ◌<◌, ◌+◌, false, length, None, replicate, slice_get, ap, ◌∙◌, sym, subst, arith}
use Rattle.chc_sorts.specs.declared.sort.Sort.TheVariants as sort
use Rattle.chc_sorts.specs.Signature.{IsInhabited}
use Rattle.chc_values.specs.Choices.{is_below, next_choices, AreAllBelow}
use Rattle.chc_values.proofs.Choosing.{gaps, gaps_at_first, all_below_at_first, all_below_next, gap_filled}
use Rattle.chc_values.proofs.choice.choices_for.Goals as goal

pub rounds-init : goal.rounds-init
rounds-init c =
    let e : c.in_ok-choices.choices ≡ replicate (length c.args.sig.now.datatypes) None = search rules in
    record {
      right = all_below_at_first c.args.sig.now _ e;
      room = let g = ap gaps e ∙ gaps_at_first (length c.args.sig.now.datatypes) in let d : length c.datatypes-datatypes.result.now ≡ length c.args.sig.now.datatypes = search rules in omega arith;
    }

pub rounds-smaller : goal.rounds-smaller
rounds-smaller c =
    let e : c.in_ok-choices-2.choices ≡ next_choices c.rounds.choices c.rounds.height c.args.sig.now.datatypes c.rounds.choices = search rules in
    let i : ∥ IsInhabited c.args.sig.now.datatypes (sort.Data c.args.d) ∥₁ = search rules in
    let n : is_below (slice_get c.rounds.choices c.args.d) c.rounds.height ≡ false = search rules in
    let l = gap_filled c.args.sig.now c.rounds.height c.rounds.choices c.rounds.invariant.right c.args.d i n in
    subst (λ x. gaps x < gaps c.rounds.choices) (sym e) l

pub rounds-preserved : goal.rounds-preserved
rounds-preserved c =
    let e : c.in_ok-choices-2.choices ≡ next_choices c.rounds.choices c.rounds.height c.args.sig.now.datatypes c.rounds.choices = search rules in
    let i : ∥ IsInhabited c.args.sig.now.datatypes (sort.Data c.args.d) ∥₁ = search rules in
    let n : is_below (slice_get c.rounds.choices c.args.d) c.rounds.height ≡ false = search rules in
    let l = gap_filled c.args.sig.now c.rounds.height c.rounds.choices c.rounds.invariant.right c.args.d i n in
    record {
      right = subst (λ x. AreAllBelow c.args.sig.now (c.rounds.height + 1) x) (sym e) (all_below_next c.args.sig.now c.rounds.height c.rounds.choices c.rounds.invariant.right);
      room = let g = ap gaps e in let r = c.rounds.invariant.room in omega arith;
    }
