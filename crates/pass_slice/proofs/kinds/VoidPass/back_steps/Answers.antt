use Rattle.pass_slice.proofs.Voiding.{void_number_fits, void_turns}
use Rattle.pass_slice.proofs.kinds.VoidPass.back_steps.Goals as goal

pub renumber-requires-clause-fit : goal.renumber-requires-clause-fit
renumber-requires-clause-fit c = λ n x at. void_number_fits c.args.u.now c.requires.0 c.requires.1 c.args._w.now c.args.r c.requires.2 c.requires.4 n x at

pub returns : goal.returns
returns c = λ s k stands world refutes. void_turns c.args.u.now s k c.args._w.now c.args.r c.renumber.result stands refutes c.renumber.ensures
