use Rattle.std.proofs.Common.{◌≡◌, ◌++◌, map, drop, take}
use Rattle.std.specs.List.{flat_map}
use Rattle.chc_sorts.specs.Groups.{data_declares}
use Rattle.chc_sorts.specs.Checks.{name_found}
use Rattle.chc_sorts.specs.declared.spec.DataSpec.{DataSpec}
use Rattle.chc_sorts.proofs.PassLaws.{Leads}
use Rattle.chc_sorts.proofs.taken.declare_all.Given as goal

abbrev pub invariant-loop-datatype : goal.invariant-loop-datatype
invariant-loop-datatype l = (Leads (name_found l.sig l.preds) l.initial.own (flat_map data_declares l.group) l.own (flat_map data_declares (drop l.datatype-index l.group))) × (l.own.sorts ≡ l.initial.own.sorts ++ map (λ (t : DataSpec). t.name) (take l.datatype-index l.group))
