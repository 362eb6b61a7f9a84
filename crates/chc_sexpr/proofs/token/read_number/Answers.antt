use Rattle.chc_sexpr.proofs.Runs.{run_all, digits_all}
use Rattle.std.specs.Char.{is_ascii_digit}
use Rattle.chc_sexpr.proofs.token.read_number.Goals as goal

pub read_number_of-requires-clause-digits : goal.read_number_of-requires-clause-digits
read_number_of-requires-clause-digits c = rw c.run_length-whole.ensures.run (digits_all _ (run_all is_ascii_digit c.args.rest.now))
