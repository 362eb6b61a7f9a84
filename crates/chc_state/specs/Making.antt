-- When parts are a state.
use Rattle.std.specs.Prelude.{◌≡◌, ⊤, List, Option, Some, None, Result, Ok, Err}
use Rattle.chc_sorts.specs.Signature.{Signature}
use Rattle.chc_state.specs.declared.clause.Clause.{Clause}
use Rattle.chc_state.specs.declared.clause.PredDecl.{PredDecl}
use Rattle.chc_state.specs.declared.making.StateErr.{StateErr}
use Rattle.chc_state.specs.declared.making.StateErr.TheVariants as refusal
use Rattle.chc_state.specs.States.{StateView}
use Rattle.chc_state.specs.Limits.{first_passed}
use Rattle.chc_state.specs.WellFormed.{first_bad}

-- what comes of making a state: the state of the parts, where each clause may stand in it and no limit is passed; else
-- the first clause that may not stand in it; else the first limit that is passed. Memory may always be refused
abbrev pub Makes : Signature → List PredDecl → List Clause → Result StateView StateErr → Type 0
Makes sig preds cs (Ok s) = (first_bad sig preds cs ≡ None) × (first_passed preds cs ≡ None) × (s ≡ record { sig = sig; preds = preds; clauses = cs })
Makes sig preds cs (Err (refusal.BadClause k)) = first_bad sig preds cs ≡ Some k
Makes sig preds cs (Err (refusal.OverLimit limit)) = (first_bad sig preds cs ≡ None) × (first_passed preds cs ≡ Some limit)
Makes sig preds cs (Err refusal.NoMemory) = ⊤
