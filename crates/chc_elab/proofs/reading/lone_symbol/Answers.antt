use Rattle.std.proofs.Common.{◌≤◌}
use Rattle.chc_elab.specs.Settings.{flat, site_at}
use Rattle.chc_elab.specs.Sites.{Local}
use Rattle.chc_elab.proofs.Locals.{local_of}
use Rattle.chc_elab.proofs.Room.{named_holds, room_local}
use Rattle.chc_elab.proofs.reading.lone_symbol.Goals as goal

pub moved_under-requires-clause-under : goal.moved_under-requires-clause-under
moved_under-requires-clause-under c =
    named_holds (λ (l : Local). l.under ≤ c.args.variables) (flat c.args.frames.now) c.args.name.now (local_of c.args.name.now c.in-Some.bound.now) c.requires.under c.in-Some.ensures

pub moved_under-requires-clause-room : goal.moved_under-requires-clause-room
moved_under-requires-clause-room c =
    room_local (site_at c.args.frames.now c.args.variables) c.args.name.now (local_of c.args.name.now c.in-Some.bound.now) c.requires c.in-Some.ensures
