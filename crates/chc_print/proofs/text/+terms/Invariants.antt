use Rattle.std.proofs.Common.{◌≡◌, ◌≤◌, ◌+◌, ◌^◌, ◌++◌, length, drop}
use Rattle.chc_sexpr.specs.Writing.{spaced}
use Rattle.chc_print.specs.Texts.{term_texts}
use Rattle.chc_print.proofs.text.+terms.Given as goal

abbrev pub invariant-write_terms-loop-term : goal.invariant-write_terms-loop-term
invariant-write_terms-loop-term l =
    (l.under ≤ length l.out + 2 ^ 32) × (l.out ++ spaced (term_texts l.names l.under (drop l.term-index l.terms)) ≡ l.initial.out ++ spaced (term_texts l.names l.under l.terms))
