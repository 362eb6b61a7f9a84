use Rattle.std.proofs.Common.{◌≡◌, drop}
use Rattle.std.specs.List.{flat_map}
use Rattle.chc_sorts.specs.Groups.{ctor_declares}
use Rattle.chc_sorts.specs.Checks.{name_found}
use Rattle.chc_sorts.proofs.PassLaws.{Leads}
use Rattle.chc_sorts.proofs.taken.declare_ctors.Given as goal

abbrev pub invariant-loop-ctor : goal.invariant-loop-ctor
invariant-loop-ctor l = (Leads (name_found l.sig l.preds) l.initial.own (flat_map ctor_declares l.ctors) l.own (flat_map ctor_declares (drop l.ctor-index l.ctors))) × (l.own.sorts ≡ l.initial.own.sorts)
