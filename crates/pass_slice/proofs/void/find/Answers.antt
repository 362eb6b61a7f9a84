use Rattle.std.proofs.Common.{List, length, sym, ap, ◌∙◌, arith}
use Rattle.std.proofs.lemmas.Bool.{false≢true}
use Rattle.chc_state.specs.declared.clause.Clause.{Clause}
use Rattle.pass_slice.proofs.Voiding.{none_up_to, none_at_all}
use Rattle.pass_slice.proofs.void.find.Goals as goal

pub loop-k-init : goal.loop-k-init
loop-k-init c = λ j below can. absurd (omega (arith, below))

pub overflow_cast-k : goal.overflow_cast-k
overflow_cast-k c = omega (arith, c.loop-k-test.true, c.len-count.ensures, c.clauses.ensures.few, ap (λ (cs : List Clause). length cs) c.clauses.ensures.value)

pub overflow_cast-result : goal.overflow_cast-result
overflow_cast-result c = omega (arith, c.loop-k-test.true, c.len-count.ensures, c.clauses.ensures.few, ap (λ (cs : List Clause). length cs) c.clauses.ensures.value)

pub returns-then-can_void : goal.returns-then-can_void
returns-then-can_void c = record { legal = c.can_void.ensures.0 c.if-can_void.true; least = c.loop-k.invariant }

pub loop-k-preserved : goal.loop-k-preserved
loop-k-preserved c = none_up_to c.args.s.now c.loop-k.k c.loop-k.invariant (λ can. false≢true (sym c.if-can_void.false ∙ c.can_void.ensures.1 can))

pub returns : goal.returns
returns c =
    none_at_all c.args.s.now c.loop-k.k
    (omega (arith, c.loop-k-test.false, c.len-count.ensures, ap (λ (cs : List Clause). length cs) c.clauses.ensures.value)) c.loop-k.invariant
