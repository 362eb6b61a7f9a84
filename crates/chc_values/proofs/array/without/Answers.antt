use Rattle.std.proofs.Common.{rules, to_z-of_z, ◌≡◌}
use Rattle.std.specs.List.{remove}
use Rattle.chc_values.specs.Arrays.{IsAt}
use Rattle.chc_values.proofs.Edits.{stores_removed}
use Rattle.chc_values.proofs.array.without.Goals as goal

pub returns-in-Ok : goal.returns-in-Ok
returns-in-Ok c default h =
    let found : IsAt c.args.i c.args.exceptions c.in-Ok.place = search (rules, to_z-of_z) in
    let rest : c.remove-old.new.self ≡ remove c.args.exceptions c.in-Ok.place = search rules in
    stores_removed default c.args.exceptions c.args.i h c.remove-old.new.self c.in-Ok.place found rest
