use Rattle.std.proofs.Common.{◌≡◌, ◌++◌, ◌∷◌, [], length, ap, subst}
use Rattle.chc_elab.specs.declared.symbols.Symbol.TheVariants as symbol
use Rattle.chc_script.specs.Drafts.{PredicatesView, ArePredicates, declaration}
use Rattle.chc_script.proofs.PredicateLaws.{none_found, predicates_more, kept_of_equal}
use Rattle.chc_script.proofs.whole.predicates.Predicates.with.Goals as goal

pub add-requires : goal.add-requires
add-requires c =
    let kept = subst (λ (p : PredicatesView). ArePredicates p c.self.inside.symbols) c.self.view_is c.self.invariant in
    rw c.in_ok-name_of.ensures (none_found c.args.self c.self.inside.symbols kept c.args.name.now c.requires.fresh)

pub invariant_of-result : goal.invariant_of-result
invariant_of-result c =
    let kept = subst (λ (p : PredicatesView). ArePredicates p c.self.inside.symbols) c.self.view_is c.self.invariant in
    let more = predicates_more c.args.self c.self.inside.symbols kept c.args.name.now c.args.sorts c.requires.short c.requires.few in
    let names : c.push.new.self ≡ c.args.self.names ++ c.args.name.now ∷ [] =
    cc (c.in_ok-push.ensures.added, c.in_ok-name_of-2.ensures, ap (λ (p : PredicatesView). p.names) c.self.view_is) in
    let decls : c.push-2.new.self ≡ c.args.self.decls ++ declaration c.args.sorts ∷ [] =
    cc (c.in_ok-push-2.ensures.added, ap (λ (p : PredicatesView). p.decls) c.self.view_is) in
    let symbols : c.add.new.self ≡ c.self.inside.symbols ++ (c.args.name.now, symbol.Pred (length c.args.self.decls) c.args.sorts) ∷ [] =
    cc (c.in_ok-add.ensures.added, c.in_ok-name_of.ensures, c.in_ok-copy_sorts.ensures, c.len.ensures, ap (λ (p : PredicatesView). length p.decls) c.self.view_is) in
    kept_of_equal _ _ _ _ _ names decls symbols more
