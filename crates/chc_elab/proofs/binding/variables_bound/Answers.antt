use Rattle.std.proofs.Common.{◌≡◌, ◌++◌, ◌≤◌, [], List, length, ap, sym, ◌∙◌, drop, arith}
use Rattle.std.proofs.lemmas.List.{append-nil, drop_all}
use Rattle.chc_sorts.specs.declared.sort.Sort.{Sort}
use Rattle.chc_elab.specs.declared.bound.Bound.{Bound}
use Rattle.chc_elab.specs.Settings.{locals_with}
use Rattle.chc_elab.proofs.BinderSteps.{variables_of, variables_with}
use Rattle.chc_elab.proofs.binding.variables_bound.Goals as goal

pub returns : goal.returns
returns c =
    let sorts = c.args.sorts.now in
    let at_end = c.loop-sort-test.false in
    let none : drop c.loop-sort.sort-index sorts ≡ [] = drop_all c.loop-sort.sort-index sorts (omega arith) in
    let made : c.loop-sort.bounds ≡ variables_of c.args.variables sorts =
    sym (append-nil c.loop-sort.bounds) ∙ ap (λ (l : List Sort). c.loop-sort.bounds ++ variables_of c.loop-sort.number l) (sym none) ∙ c.loop-sort.invariant.made in
    c.of.ensures ∙ ap (locals_with c.args.names) made ∙ variables_with c.args.variables c.args.names sorts
