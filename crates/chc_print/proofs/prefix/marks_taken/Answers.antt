use Rattle.std.proofs.Common.{◌≡◌, ◌-◌, ◌∷◌, length, take, drop}
use Rattle.chc_print.proofs.Marks.{begins_x, first_and_rest}
use Rattle.chc_print.proofs.prefix.marks_taken.Goals as goal

pub returns-in-len1-up : goal.returns-in-len1-up
returns-in-len1-up c =
    let name = c.args.name.now in
    let rest = take (length name - 1) (drop 1 name) in
    let whole : name ≡ 120 ∷ rest = first_and_rest name c.in-len1-up.len_at_least c.if-first-eq120.true in
    λ k. rw c.marks_before_digit.ensures (begins_x k name rest whole)
