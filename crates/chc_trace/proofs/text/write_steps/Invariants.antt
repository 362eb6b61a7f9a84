use Rattle.std.proofs.Common.{◌≡◌, ◌++◌, take, drop, map}
use Rattle.std.specs.List.{concat, All}
use Rattle.chc_trace.specs.Traces.{line, step_tree}
use Rattle.chc_trace.specs.Kinds.{HasSmallNumbers}
use Rattle.chc_trace.proofs.text.write_steps.Given as goal

abbrev pub invariant-loop-step : goal.invariant-loop-step
invariant-loop-step l = record {
  text : l.out ++ concat (map (λ x. line (step_tree x)) (drop l.step-index l.steps)) ≡ l.initial.out ++ concat (map (λ x. line (step_tree x)) l.steps);
  small : All HasSmallNumbers (take l.step-index l.steps);
}
