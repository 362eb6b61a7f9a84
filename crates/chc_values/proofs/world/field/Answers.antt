use Rattle.chc_values.proofs.Keys.{field_found}
use Rattle.chc_values.proofs.world.field.Goals as goal

pub returns-in-None : goal.returns-in-None
returns-in-None c s q = c.in-None.ensures q.0 q.1

pub returns-in-Some : goal.returns-in-Some
returns-in-Some c = field_found c.args.sig.now c.args.d c.args.c c.args.i c.in-Some.found.now.fields c.in-Some.ensures c.get.result c.get.ensures.value
