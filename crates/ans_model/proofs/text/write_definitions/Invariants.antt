use Rattle.std.proofs.Common.{◌≡◌, ◌++◌, drop}
use Rattle.ans_model.specs.Texts.{definitions_text}
use Rattle.ans_model.proofs.text.write_definitions.Given as goal

abbrev pub invariant-loop-k : goal.invariant-loop-k
invariant-loop-k l = l.out ++ definitions_text l.names l.k (drop l.k l.defs) ≡ l.initial.out ++ definitions_text l.names 0 l.defs
