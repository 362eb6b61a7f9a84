use Rattle.read_again.proofs.ClauseSays.{says_its_clause}
use Rattle.read_again.proofs.laws.says_its_clause.Goals as goal

pub returns : goal.returns
returns c = says_its_clause
