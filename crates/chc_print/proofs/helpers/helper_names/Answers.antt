use Rattle.std.proofs.Common.{◌+◌, ◌<◌, ◌≤◌, ◌^◌, length, arith}
use Rattle.chc_print.proofs.HelperLaws.{none_made, one_more_made}
use Rattle.chc_print.proofs.helpers.helper_names.Goals as goal

pub loop-alloc-init : goal.loop-alloc-init
loop-alloc-init c = rw c.new-names.ensures (none_made c.args.used.now c.args.stem.now c.args.count c.in_ok-table.table c.in_ok-table.ensures)

pub loop-alloc-preserved : goal.loop-alloc-preserved
loop-alloc-preserved c =
    let l = c.loop-alloc in
    let more : length l.names < c.args.count = omega (arith, c.len.ensures, c.loop-alloc-test.true) in
    let narrow : l.number + 1 ≤ 2 ^ 64 = omega (arith, c.number_behind-number.ensures.next, c.number_behind-number.ensures.narrow) in
    let made = one_more_made c.args.used.now c.args.stem.now c.args.count (length c.in_ok-table.table) l.number l.table l.names l.invariant more narrow in
    rw (c.number_behind-number.ensures.next, c.in_ok-add_free.ensures.table, c.in_ok-add_free.ensures.names, c.in_ok-name.ensures) made
