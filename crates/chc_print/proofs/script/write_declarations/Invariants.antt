use Rattle.std.proofs.Common.{◌≡◌, ◌++◌, drop}
use Rattle.chc_print.specs.Script.{declarations_text}
use Rattle.chc_print.proofs.script.write_declarations.Given as goal

abbrev pub invariant-loop-p : goal.invariant-loop-p
invariant-loop-p l = l.out ++ declarations_text l.names l.p (drop l.p l.preds) ≡ l.initial.out ++ declarations_text l.names 0 l.preds
