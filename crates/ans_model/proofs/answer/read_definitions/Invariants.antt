use Rattle.std.proofs.Common.{◌≡◌, drop}
use Rattle.ans_model.specs.Answers.{all_defined}
use Rattle.ans_model.specs.Drafted.{IsDrafted}
use Rattle.ans_model.specs.Drafts.{fresh}
use Rattle.ans_model.proofs.answer.read_definitions.Given as goal

abbrev pub invariant-loop-tree : goal.invariant-loop-tree
invariant-loop-tree l = record {
  same : all_defined l.target l.draft (drop l.tree-index l.trees) ≡ all_defined l.target (fresh l.target) l.trees;
  drafted : IsDrafted l.target.state l.draft;
}
