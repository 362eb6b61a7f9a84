use Rattle.std.proofs.Common.{List, length, ap, arith}
use Rattle.chc_state.specs.declared.clause.PredDecl.{PredDecl}
use Rattle.pass_slice.specs.Tables.{marked}
use Rattle.pass_slice.proofs.Retiring.{retired_more}
use Rattle.pass_slice.proofs.sets.retire.Goals as goal

pub loop-i-preserved : goal.loop-i-preserved
loop-i-preserved c =
    retired_more (marked c.args.table.now) c.args.preds c.loop-i.decls.items c.loop-i.i c.index.result.now c.index_mut.result.now c.stays_live-live.result
    (omega (arith, ap (λ (ds : List PredDecl). length ds) c.into_vec-decls.ensures)) c.loop-i.invariant c.index.ensures c.index_mut.ensures.value c.stays_live-live.ensures
