use Rattle.std.proofs.Common.{Some, sym, ap, ◌∙◌, slice_get}
use Rattle.std.proofs.lemmas.Option.{none-some}
use Rattle.chc_values.proofs.Building.{declared_base, within_told, within_plain}
use Rattle.chc_values.proofs.default.rounds_for.Goals as goal

pub choices_for-requires : goal.choices_for-requires
choices_for-requires c = declared_base c.args.sig.now c.args.sort.now c.in-Data.d c.in-Data.ensures c.requires

pub returns-in-Bool : goal.returns-in-Bool
returns-in-Bool c = record {
  right = λ d k e. absurd (none-some (Some k) (sym (ap (λ l. slice_get l d) c.new.ensures) ∙ e));
  within = within_plain c.new.result 0 c.args.sort.now c.base_of.result c.in-Bool.is c.base_of.ensures;
}

pub returns-in_ok-rounds-in-Data-clause-within : goal.returns-in_ok-rounds-in-Data-clause-within
returns-in_ok-rounds-in-Data-clause-within c =
    within_told c.in_ok-rounds-in-Data.rounds.choices c.in_ok-rounds-in-Data.rounds.height c.args.sort.now c.in-Data.d c.in-Data.ensures c.in_ok-rounds-in-Data.ensures.told
