-- Where a run's way back is refused.
use Rattle.std.specs.Prelude.{ℕ}
use Rattle.chc_state.specs.declared.refutation.BackErr.{BackErr}
use Rattle.chc_state.specs.declared.refutation.BackErr.TheVariants as step_err
use Rattle.chc_steps.specs.declared.refusal.RunBackErr.{RunBackErr}
use Rattle.chc_steps.specs.declared.refusal.RunBackErr.TheVariants as run_err

-- the refusal of the run's step of number k
abbrev pub refused_at : ℕ → BackErr → RunBackErr
refused_at k (step_err.OutOfRange n) = run_err.OutOfRange k n
refused_at k step_err.NoMemory = run_err.NoMemory
