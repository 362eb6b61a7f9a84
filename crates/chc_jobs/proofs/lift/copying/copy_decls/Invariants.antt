use Rattle.std.proofs.Common.{◌≡◌, take}
use Rattle.chc_jobs.proofs.lift.copying.copy_decls.Given as goal

-- what has been copied so far is equal
abbrev pub invariant-loop-decl : goal.invariant-loop-decl
invariant-loop-decl l = l.copies ≡ take l.decl-index l.decl-items
