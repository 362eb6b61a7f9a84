use Rattle.std.proofs.Common.{arith, refl, inl, inr, ◌≤◌, length}
use Rattle.std.proofs.lemmas.Result.{err_from_is_err_and}
use Rattle.chc_jobs.specs.Runs.{most_bytes}
use Rattle.chc_jobs.proofs.LiftRuns.{lift_unread, lift_refused, lift_made, inputs_short}
use Rattle.chc_jobs.proofs.top.lifting.make_text.Goals as goal

pub lift_bytes-requires : goal.lift_bytes-requires
lift_bytes-requires g c =
    let script : length c.in_ok-inputs.inputs.script ≤ most_bytes = c.in_ok-inputs.ensures.read.short c.in_ok-inputs.inputs.script (inl refl) in
    let trace : length c.in_ok-inputs.inputs.trace ≤ most_bytes = c.in_ok-inputs.ensures.read.short c.in_ok-inputs.inputs.trace (inr (inl refl)) in
    let answer : length c.in_ok-inputs.inputs.answer ≤ most_bytes = c.in_ok-inputs.ensures.read.short c.in_ok-inputs.inputs.answer (inr (inr (inl refl))) in
    record { script = omega arith; trace = omega arith; answer = omega arith }

pub returns-in_err-inputs-clause-refused : goal.returns-in_err-inputs-clause-refused
returns-in_err-inputs-clause-refused g c =
    let p = err_from_is_err_and c.from_residual.result c.from_residual.ensures.1 in
    rw (p.1, p.2) (lift_unread c.args.names.now.script.now c.args.names.now.trace.now c.args.names.now.answer.now c.args.names.now.out.now (g.F.Files.outside c.args.files.now) (g.F.Files.outside c.read_inputs.new.files) _ c.in_err-inputs.ensures.refused)

pub returns-in_err-lifted-clause-refused : goal.returns-in_err-lifted-clause-refused
returns-in_err-lifted-clause-refused g c =
    let p = err_from_is_err_and c.from_residual-in_err-lifted.result c.from_residual-in_err-lifted.ensures.1 in
    rw (p.1, p.2) (lift_refused c.args.names.now.script.now c.args.names.now.trace.now c.args.names.now.answer.now c.args.names.now.out.now (g.F.Files.outside c.args.files.now) (g.F.Files.outside c.read_inputs.new.files) _ _ _ _ c.in_ok-inputs.ensures.read c.in_err-lifted.ensures.refused)

pub returns-clause-short : goal.returns-clause-short
returns-clause-short g c = inputs_short c.args.names.now.script.now c.args.names.now.trace.now c.args.names.now.answer.now c.args.names.now.out.now (g.F.Files.outside c.args.files.now) _ c.in_ok-inputs.ensures.read

pub returns-clause-made : goal.returns-clause-made
returns-clause-made g c = lift_made c.args.names.now.script.now c.args.names.now.trace.now c.args.names.now.answer.now c.args.names.now.out.now (g.F.Files.outside c.args.files.now) _ _ _ _ _ c.in_ok-inputs.ensures.read c.in_ok-lifted.ensures.ok
