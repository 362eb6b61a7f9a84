-- What building a term answers.
use Rattle.std.specs.Prelude.{◌≡◌, ◌<◌, ℕ, List, [], ◌∷◌, ◌++◌, Result, Ok, Err, ⊤}
use Rattle.chc_sorts.specs.declared.op.Op.{Op}
use Rattle.chc_terms.specs.declared.term.Term.{Term}
use Rattle.chc_terms.specs.Counts.{size, size_all}
use Rattle.chc_elab.specs.declared.build_err.BuildErr.{BuildErr}
use Rattle.chc_elab.specs.declared.build_err.BuildErr.TheVariants as build
use Rattle.chc_elab.specs.declared.joint.Joint.{Joint}
use Rattle.chc_elab.specs.declared.joint.Joint.TheVariants as joint
use Rattle.chc_elab.specs.Limits.{most_nodes}
use Rattle.chc_elab.specs.Building.{pair, differ, turned}

-- the term, or a refusal where it has too many nodes; memory may always be refused
abbrev pub Builds : Result Term BuildErr → Term → Type 0
Builds (Ok t) wanted = t ≡ wanted
Builds (Err build.TooLarge) wanted = most_nodes < size wanted
Builds (Err build.NoMemory) wanted = ⊤

-- the same of several terms together
abbrev pub BuildsAll : Result (List Term) BuildErr → List Term → Type 0
BuildsAll (Ok ts) wanted = ts ≡ wanted
BuildsAll (Err build.TooLarge) wanted = most_nodes < size_all wanted
BuildsAll (Err build.NoMemory) wanted = ⊤

-- how two terms are joined
abbrev pub joins : Joint → Term → Term → Term
joins (joint.Pair o) = pair o
joins (joint.Turned o) = turned (pair o)
joins joint.Differ = differ

-- a refusal for size comes only where these nodes are too many
abbrev pub Refused : {A : Type 0} → Result A BuildErr → ℕ → Type 0
Refused (Ok a) nodes = ⊤
Refused (Err build.TooLarge) nodes = most_nodes < nodes
Refused (Err build.NoMemory) nodes = ⊤
