use Rattle.std.proofs.Common.{◌≡◌, ℕ, List, ap, ◌∙◌, arith}
use Rattle.chc_sorts.specs.declared.sort.Sort.{Sort}
use Rattle.chc_sexpr.specs.Counts.{count}
use Rattle.chc_elab.specs.Binders.{variables_from}
use Rattle.chc_elab.specs.Settings.{flat}
use Rattle.chc_elab.proofs.Room.{room_outer}
use Rattle.chc_elab.proofs.elaboration.elab_sorted.Goals as goal

pub read_term-requires : goal.read_term-requires
read_term-requires c =
    let names = c.args.scope.now.names.now in
    let sorts = c.args.scope.now.sorts.now in
    let even = c.requires.even in
    let room = c.requires.room in
    let made : flat c.in_ok-frames.frames ≡ variables_from 0 names sorts =
    c.in_ok-frames.ensures ∙ ap (λ (l : List (List ℕ)). variables_from 0 l c.as_slice-2.result.now) c.as_slice.ensures ∙ ap (λ (l : List Sort). variables_from 0 names l) c.as_slice-2.ensures in
    record {
      room = room_outer c.in_ok-frames.frames c.len-count.result (count c.args.tree.now) names sorts made c.len-count.ensures (omega arith);
    }
