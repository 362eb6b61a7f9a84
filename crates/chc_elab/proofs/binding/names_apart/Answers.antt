use Rattle.std.proofs.Common.{rules, ◌≡◌, ◌++◌, ◌∷◌, [], List, ℕ, ap, sym, ◌∙◌, false, drop, ◌+◌}
use Rattle.std.proofs.lemmas.List.{at_drop_more}
use Rattle.chc_sorts.specs.Names.{has_name}
use Rattle.chc_sexpr.specs.declared.tree.Tree.{Tree}
use Rattle.chc_sexpr.specs.Shapes.{group_of}
use Rattle.chc_elab.specs.Apart.{are_apart}
use Rattle.chc_elab.specs.Binders.{apart_after, before_others, pair_name, pair_names}
use Rattle.chc_elab.proofs.Locals.{apart_push}
use Rattle.chc_elab.proofs.BinderSteps.{name_next}
use Rattle.chc_elab.proofs.binding.names_apart.Goals as goal

pub loop-pair-preserved : goal.loop-pair-preserved
loop-pair-preserved c =
    let names = c.loop-pair.names in
    let name = c.in-Some.name.now in
    let absent : has_name names name ≡ false = sym (sym c.if-has.false ∙ c.has.ensures) in
    let more : c.add.new.self ≡ names ++ name ∷ [] = c.in_ok-add.ensures.added in
    let rest = pair_names (drop (c.loop-pair.pair-index + 1) c.args.pairs.now) in
    let pair = c.pair-item.result in
    let front : pair_names (drop c.loop-pair.pair-index c.args.pairs.now) ≡ before_others (pair_name (group_of pair)) rest =
    at_drop_more pair_names c.args.pairs.now c.loop-pair.pair-index pair c.loop-pair-test.true ∙ ap (λ (t : Tree). pair_names (t ∷ drop (c.loop-pair.pair-index + 1) c.args.pairs.now)) (sym c.pair-item.is) in
    let named : pair_names (drop c.loop-pair.pair-index c.args.pairs.now) ≡ (c.in-Some.place, name) ∷ rest = front ∙ ap (λ o. before_others o rest) c.in-Some.ensures in
    record {
      same = ap (λ l. apart_after l rest) more ∙ sym (name_next names c.in-Some.place name rest absent) ∙ ap (apart_after names) (sym named) ∙ c.loop-pair.invariant.same;
      apart = ap are_apart more ∙ apart_push names name c.loop-pair.invariant.apart absent;
    }
