use Rattle.std.proofs.Common.{rules, ◌≡◌, map, Some, ap, sym, ◌∙◌}
use Rattle.chc_elab.specs.declared.typed.Typed.{Typed}
use Rattle.chc_elab.specs.Building.{head_sort, head_term}
use Rattle.chc_elab.specs.Sites.{Tells}
use Rattle.chc_elab.proofs.joining.joined.Goals as goal

pub returns : goal.returns
returns c =
    let sorts = c.as_slice-2.ensures ∙ c.in_ok-sorts.ensures ∙ ap (map (λ (t : Typed). t.sort)) c.as_slice.ensures in
    let sort : head_sort c.args.sig.now c.args.head (map (λ (t : Typed). t.sort) c.args.args) ≡ Some c.in-Some.sort =
    ap (head_sort c.args.sig.now c.args.head) (sym sorts) ∙ sym c.in_ok-sort.ensures ∙ c.in-Some.is in
    let told = c.held.ensures (head_term c.args.head c.in_ok-terms.terms) c.head_term.ensures in
    rw sort (rw c.in_ok-terms.ensures at told)
