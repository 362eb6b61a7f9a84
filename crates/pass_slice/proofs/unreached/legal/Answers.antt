use Rattle.std.proofs.Common.{List, Bool, sym, ap, ◌∙◌}
use Rattle.pass_slice.specs.Tables.{marked}
use Rattle.pass_slice.proofs.Choosing.{legal_unreached}
use Rattle.pass_slice.proofs.unreached.legal.Goals as goal

pub returns : goal.returns
returns c =
    legal_unreached c.args.s.now c.args.ps.now c.is_met.result (record {
      table = c.deref.result.now;
      within = c.is_met.ensures.within;
      choice = sym c.can_go.ensures ∙ c.if-not-can_go.false;
      same = λ p. ap (λ (table : List Bool). marked table p) c.deref.ensures.value ∙ c.in_ok-table.ensures p;
      meets = c.is_met.ensures.meets;
    })
