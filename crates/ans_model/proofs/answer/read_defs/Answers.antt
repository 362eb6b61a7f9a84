use Rattle.std.proofs.Common.{List, length, arith, ap, subst, ℕ}
use Rattle.std.proofs.lemmas.Result.{err_from_is_err_and}
use Rattle.chc_sexpr.specs.Counts.{count_all}
use Rattle.chc_sexpr.specs.declared.tree.Tree.{Tree}
use Rattle.chc_elab.specs.Sites.{Tells}
use Rattle.chc_print.specs.Helpers.{NamesPredicates}
use Rattle.ans_model.specs.Answers.{answer_of}
use Rattle.ans_model.specs.Drafts.{TargetView}
use Rattle.ans_model.proofs.Faults.{spelled_reading, unspelled_fault}
use Rattle.ans_model.proofs.Lengths.{spelled_count}
use Rattle.ans_model.proofs.ReadableRead.{reading_readable}
use Rattle.ans_model.proofs.answer.read_defs.Goals as goal

pub read_answer-requires : goal.read_answer-requires
read_answer-requires c =
    let few = spelled_count c.args.bytes.now c.in_ok-trees.trees c.in_ok-trees.ensures.0 in
    let same = ap count_all c.as_slice-2.ensures in
    omega (arith, few, same, c.requires)

pub returns-in_err-trees-clause-reading : goal.returns-in_err-trees-clause-reading
returns-in_err-trees-clause-reading c =
    let p = err_from_is_err_and c.from_residual.result c.from_residual.ensures.1 in
    rw (p.1, p.2) (unspelled_fault c.args.s.now c.args.names.now c.args.bytes.now c.first_fault_is_one.ensures c.in_err-trees.field-0.0 c.in_err-trees.ensures)

pub returns-clause-reading : goal.returns-clause-reading
returns-clause-reading c =
    let s = c.args.s.now in
    let all = c.in_ok-all.all in
    let count = length c.args.bytes.now in
    let result = c.read_answer.result in
    let named : NamesPredicates s c.args.names.now all = subst (λ (names : List (List ℕ)). NamesPredicates s names all) c.as_slice.ensures c.in_ok-all.ensures in
    let aimed = subst (λ (t : TargetView). Tells result (answer_of t count c.as_slice-2.result.now)) c.new-target.ensures c.read_answer.ensures.value in
    let told = subst (λ (l : List Tree). Tells result (answer_of (record { state = s; names = all }) count l)) c.as_slice-2.ensures aimed in
    spelled_reading s c.args.names.now c.args.bytes.now c.in_ok-trees.trees all c.in_ok-trees.ensures named result told

pub returns-clause-readable : goal.returns-clause-readable
returns-clause-readable c = reading_readable c.args.s.now c.args.names.now c.args.bytes.now c.read_answer.result (returns-clause-reading c)
