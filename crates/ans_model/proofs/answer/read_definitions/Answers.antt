use Rattle.std.proofs.Common.{arith, sym, ◌∙◌}
use Rattle.chc_elab.proofs.TreeCounts.{count_at}
use Rattle.ans_model.specs.Forms.{definition_form}
use Rattle.ans_model.proofs.DraftLaws.{defined_next, next_kept}
use Rattle.ans_model.proofs.answer.read_definitions.Goals as goal

pub define_by-requires-clause-room : goal.define_by-requires-clause-room
define_by-requires-clause-room c =
    let h = count_at c.args.trees.now c.loop-tree.tree-index c.tree-item.result c.loop-tree-test.true c.tree-item.is in
    omega (arith, h, c.requires)

pub loop-tree-preserved : goal.loop-tree-preserved
loop-tree-preserved c = record {
  same =
      defined_next c.args.target.now c.loop-tree.draft c.in_ok-draft-2.draft c.args.trees.now c.loop-tree.tree-index c.tree-item.result c.loop-tree-test.true c.tree-item.is
      c.in_ok-draft-2.ensures
      ∙ c.loop-tree.invariant.same;
  drafted =
      next_kept c.args.target.now c.loop-tree.draft c.tree-item.result (definition_form c.tree-item.result) c.in_ok-draft-2.draft c.loop-tree.invariant.drafted
      (sym c.in_ok-draft-2.ensures);
}
