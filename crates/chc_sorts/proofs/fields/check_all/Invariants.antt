use Rattle.std.proofs.Common.{drop}
use Rattle.std.specs.List.{flat_map}
use Rattle.chc_sorts.specs.Groups.{data_specs}
use Rattle.chc_sorts.specs.Checks.{sort_found}
use Rattle.chc_sorts.proofs.PassLaws.{Leads}
use Rattle.chc_sorts.proofs.fields.check_all.Given as goal

abbrev pub invariant-loop-datatype : goal.invariant-loop-datatype
invariant-loop-datatype l = Leads (sort_found l.names) l.initial.seen (flat_map data_specs l.group) l.seen (flat_map data_specs (drop l.datatype-index l.group))
