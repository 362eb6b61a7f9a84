use Rattle.std.proofs.Common.{arith, ◌∷◌, []}
use Rattle.chc_sorts.proofs.SameSort.{other_lengths}
use Rattle.chc_elab.proofs.sorting.is_sole.Goals as goal

pub returns-in-empty-2 : goal.returns-in-empty-2
returns-in-empty-2 c = other_lengths c.args.sorts.now (c.args.sort.now ∷ []) (λ e. omega arith)
