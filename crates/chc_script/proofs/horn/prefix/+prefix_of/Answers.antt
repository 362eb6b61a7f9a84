use Rattle.std.proofs.Common.{arith, ◌≡◌, IfOk, List, [], ◌∷◌, length, get_or, true, ap, sym, subst, ◌∙◌}
use Rattle.std.proofs.lemmas.Grind.{common_steps}
use Rattle.chc_terms.specs.declared.term.Term.{Term}
use Rattle.chc_terms.specs.declared.term.Term.TheVariants.{App}
use Rattle.chc_script.specs.Fronts.{negates}
use Rattle.chc_script.specs.Horn.{Prefix, prefix_of, seen}
use Rattle.chc_script.specs.declared.horn.side.Side.TheVariants as side
use Rattle.chc_script.proofs.FrontLaws.{prefix-one, prefix-many, only_item}
use Rattle.chc_script.proofs.horn.prefix.+prefix_of.Goals as goal

pub returns-in-len1 : goal.returns-in-len1
returns-in-len1 t c =
    let args = c.in-App.args in
    let arg = c.arg-item.result in
    let at : arg ≡ get_or args 0 arg = c.arg-item.is ∙ ap (λ (l : List Term). get_or l 0 arg) c.as_slice.ensures in
    let one : args ≡ arg ∷ [] = only_item args arg (omega (arith, ap length c.as_slice.ensures)) at in
    let negated : negates c.in-App.op c.args.side ≡ true = grind (arith, common_steps) in
    let whole : prefix_of arg side.Assumed c.args.vars ≡ prefix_of c.args.term.now c.args.side c.args.vars =
    prefix-one c.in-App.op arg c.args.side c.args.vars negated
    ∙ ap (λ (ts : List Term). prefix_of (App c.in-App.op ts) c.args.side c.args.vars) (sym one)
    ∙ ap (λ (term : Term). prefix_of term c.args.side c.args.vars) (sym c.in-App.is) in
    subst (λ (made : Prefix). IfOk c.prefix_of-in-len1.result (λ prefix. seen prefix ≡ made)) whole c.prefix_of-in-len1.ensures

pub returns-in-empty : goal.returns-in-empty
returns-in-empty t c =
    prefix-many c.args.term.now c.in-App.op c.in-App.args c.args.side c.args.vars c.in-App.is
    (λ single. omega (arith, ap length c.as_slice.ensures))

pub returns-in-len2-up : goal.returns-in-len2-up
returns-in-len2-up t c =
    prefix-many c.args.term.now c.in-App.op c.in-App.args c.args.side c.args.vars c.in-App.is
    (λ single. omega (arith, ap length c.as_slice.ensures))
