-- Signatures that groups of datatypes make, one after the other.
use Rattle.std.specs.Prelude.{◌≡◌, ℕ, List, None}
use Rattle.chc_sorts.specs.declared.spec.DataSpec.{DataSpec}
use Rattle.chc_sorts.specs.Signature.{Signature, AllInhabited, no_datatypes}
use Rattle.chc_sorts.specs.Groups.{first_refusal, with_group}

-- the signature without datatypes, and one that is made with a group more, beside any names of predicates, where nothing
-- stands against the group and all datatypes have values
pub data IsMade : Signature → Type 0 where
  empty : IsMade no_datatypes
  more : (sig : Signature) (group : List DataSpec) (preds : List (List ℕ)) → IsMade sig → first_refusal sig group preds ≡ None → AllInhabited (with_group sig group).datatypes → IsMade (with_group sig group)

-- there is a way to make the signature
abbrev pub CanBeMade : Signature → Type 0
CanBeMade sig = ∥ IsMade sig ∥₁
