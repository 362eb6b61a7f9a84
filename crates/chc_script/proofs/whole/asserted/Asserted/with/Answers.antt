use Rattle.std.proofs.Common.{◌≡◌, ◌+◌, ◌++◌, ◌∷◌, [], cond, ap, arith, subst}
use Rattle.std.proofs.lemmas.Bool.{ltb-false}
use Rattle.chc_state.specs.Limits.{charge, is_query}
use Rattle.chc_script.specs.Drafts.{AssertedView, AreAsserted}
use Rattle.chc_script.proofs.AssertedLaws.{passes_none, asserted_more, asserted_of_equal}
use Rattle.chc_script.proofs.whole.asserted.Asserted.with.Goals as goal

pub invariant_of-result : goal.invariant_of-result
invariant_of-result c =
    let kept = subst (λ (a : AssertedView). AreAsserted a c.self.inside.charge c.self.inside.queries) c.self.view_is c.self.invariant in
    let more = asserted_more c.args.self c.self.inside.charge c.self.inside.queries c.args.term c.args.clause kept c.requires.within c.requires.weight in
    let light = ltb-false 262144 (charge c.args.clause) (passes_none c.args.self.clauses c.args.clause c.requires.within).charges in
    let charged : c.self.inside.charge + c.charge.result ≡ c.self.inside.charge + charge c.args.clause = omega (arith, c.charge.ensures, light) in
    let counted : c.self.inside.queries + c.queries_in.result ≡ c.self.inside.queries + cond (is_query c.args.clause) 1 0 = cc (c.queries_in.ensures) in
    let assertions : c.push.new.self ≡ c.args.self.assertions ++ c.args.term ∷ [] =
    cc (c.in_ok-push.ensures.added, ap (λ (a : AssertedView). a.assertions) c.self.view_is) in
    let clauses : c.push-2.new.self ≡ c.args.self.clauses ++ c.args.clause ∷ [] =
    cc (c.in_ok-push-2.ensures.added, ap (λ (a : AssertedView). a.clauses) c.self.view_is) in
    asserted_of_equal _ _ _ _ _ _ _ assertions clauses charged counted more
