use Rattle.std.proofs.Common.{◌≡◌}
use Rattle.std.proofs.lemmas.Result.{IfOk-weaker}
use Rattle.chc_terms.specs.declared.term.Term.{Term}
use Rattle.chc_terms.specs.ShiftLaws.{KeepsMeaning}
use Rattle.chc_terms.specs.Shifted.{shifted}
use Rattle.chc_terms.proofs.ShiftKeeps.{keeps_meaning_where}
use Rattle.chc_terms.proofs.shifting.shift.Goals as goal

-- what `shift` gives means what the term means
pub returns-clause-keeps : goal.returns-clause-keeps
returns-clause-keeps c =
    IfOk-weaker c.shift_term.result (λ s. s ≡ shifted c.args.t.now c.args.from c.args.up) (λ (s : Term). KeepsMeaning c.args.t.now s c.args.from c.args.up)
    (λ s e. keeps_meaning_where c.args.t.now c.args.from c.args.up s e) c.shift_term.ensures
