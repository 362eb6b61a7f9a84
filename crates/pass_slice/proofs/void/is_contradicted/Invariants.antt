use Rattle.std.proofs.Common.{◌↔◌, false, drop}
use Rattle.chc_terms.specs.declared.term.Term.TheVariants as term
use Rattle.chc_state.specs.Meaning.{In}
use Rattle.pass_slice.proofs.void.is_contradicted.Given as goal

abbrev pub invariant-loop-t : goal.invariant-loop-t
invariant-loop-t l = In (term.Lit false) l.conj ↔ In (term.Lit false) (drop l.t-index l.conj)
