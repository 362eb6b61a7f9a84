use Rattle.std.proofs.Common.{◌≡◌, ap, sym, map, ◌∙◌}
use Rattle.chc_elab.specs.Settings.{bound_under, locals_with}
use Rattle.chc_elab.proofs.BinderSteps.{terms_with}
use Rattle.chc_elab.proofs.binding.terms_bound.Goals as goal

pub returns : goal.returns
returns c = λ site same.
    c.of.ensures
    ∙ ap (locals_with c.args.names) (c.in_ok-bounds.ensures ∙ ap (λ n. map (bound_under n) c.args.values) (sym same))
    ∙ terms_with site c.args.names c.args.values
