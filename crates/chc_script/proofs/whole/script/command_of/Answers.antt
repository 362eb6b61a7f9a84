use Rattle.std.proofs.Common.{arith}
use Rattle.chc_script.proofs.SpellableTrees.{form_spellable, form_counted}
use Rattle.chc_script.proofs.whole.script.command_of.Goals as goal

pub command_named-requires-clause-few : goal.command_named-requires-clause-few
command_named-requires-clause-few c =
    let h = form_counted c.args.tree.now c.in-Some.name.now c.in-Some.args.now c.in-Some.ensures in
    omega (arith, h, c.requires.few)

pub command_named-requires-clause-spellable : goal.command_named-requires-clause-spellable
command_named-requires-clause-spellable c = (form_spellable c.args.tree.now c.in-Some.name.now c.in-Some.args.now c.requires.spellable c.in-Some.ensures).1
