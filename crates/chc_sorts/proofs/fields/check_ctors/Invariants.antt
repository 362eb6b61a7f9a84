use Rattle.std.proofs.Common.{drop}
use Rattle.std.specs.List.{flat_map}
use Rattle.chc_sorts.specs.Groups.{ctor_specs}
use Rattle.chc_sorts.specs.Checks.{sort_found}
use Rattle.chc_sorts.proofs.PassLaws.{Leads}
use Rattle.chc_sorts.proofs.fields.check_ctors.Given as goal

abbrev pub invariant-loop-ctor : goal.invariant-loop-ctor
invariant-loop-ctor l = Leads (sort_found l.names) l.initial.seen (flat_map ctor_specs l.ctor-items) l.seen (flat_map ctor_specs (drop l.ctor-index l.ctor-items))
