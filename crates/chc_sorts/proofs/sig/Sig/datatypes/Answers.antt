use Rattle.chc_sorts.proofs.sig.Sig.datatypes.Goals as goal

pub returns-clause-narrow : goal.returns-clause-narrow
returns-clause-narrow c = c.self.invariant.narrow
