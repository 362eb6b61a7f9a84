use Rattle.std.proofs.Common.{◌≡◌, ◌++◌, ◌∷◌, [], map, take, drop}
use Rattle.chc_sorts.specs.declared.data.Field.{Field}
use Rattle.chc_sorts.specs.declared.meaning.Meaning.TheVariants as meaning
use Rattle.chc_sorts.specs.Names.{each_from}
use Rattle.chc_sorts.specs.Listing.{AreFresh, names_of}
use Rattle.chc_sorts.proofs.listing.add_fields.Given as goal

abbrev pub invariant-loop-i : goal.invariant-loop-i
invariant-loop-i l = (l.table ≡ l.initial.table ++ each_from (λ i (f : Field). (f.name, meaning.Get l.d l.c i) ∷ []) 0 (take l.i l.fields)) × AreFresh (names_of l.table) (map (λ (f : Field). f.name) (drop l.i l.fields))
