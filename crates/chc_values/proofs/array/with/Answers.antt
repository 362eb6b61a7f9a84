use Rattle.std.proofs.Common.{rules, to_z-of_z, ◌≡◌, insert, slice_set, IfOk}
use Rattle.std.proofs.lemmas.Result.{IfOk-weaker}
use Rattle.chc_values.specs.Arrays.{IsAt, IsGap}
use Rattle.chc_values.proofs.Edits.{stores_set, stores_insert}
use Rattle.chc_values.proofs.array.with.Goals as goal

pub returns-in-Ok : goal.returns-in-Ok
returns-in-Ok c default n h =
    let found : IsAt c.args.i c.args.exceptions c.in-Ok.place = search (rules, to_z-of_z) in
    let changed : c.replace-old.new.self ≡ slice_set c.args.exceptions c.in-Ok.place (c.args.i, c.args.v) = search (rules, to_z-of_z) in
    stores_set default c.args.exceptions c.args.i h c.args.v c.replace-old.new.self c.in-Ok.place found n changed

pub returns-in-Err : goal.returns-in-Err
returns-in-Err c =
    let absent : IsGap c.args.i c.args.exceptions c.in-Err.place = search (rules, to_z-of_z) in
    let made : IfOk c.with_inserted.result (λ l. l ≡ insert c.args.exceptions c.in-Err.place (c.args.i, c.args.v)) = search (rules, to_z-of_z) in
    IfOk-weaker c.with_inserted.result (λ l. l ≡ insert c.args.exceptions c.in-Err.place (c.args.i, c.args.v)) _
    (λ l e default n h. stores_insert default c.args.exceptions c.args.i h c.args.v l c.in-Err.place absent n e) made
