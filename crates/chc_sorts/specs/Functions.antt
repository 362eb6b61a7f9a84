-- The names of constructors and selectors.
use Rattle.std.specs.Prelude.{ℕ, List, [], ◌∷◌, Option, map}
use Rattle.chc_sorts.specs.declared.data.Data.{Data}
use Rattle.chc_sorts.specs.declared.data.Ctor.{Ctor}
use Rattle.chc_sorts.specs.declared.data.Field.{Field}
use Rattle.chc_sorts.specs.declared.meaning.Meaning.{Meaning}
use Rattle.chc_sorts.specs.declared.meaning.Meaning.TheVariants as meaning
use Rattle.chc_sorts.specs.Signature.{Signature}
use Rattle.chc_sorts.specs.Names.{look_up, each_from}

-- a constructor and its selectors, by name, in order
abbrev pub functions_of : ℕ → ℕ → Ctor → List (List ℕ × Meaning)
functions_of d c k = (k.name, meaning.Make d c) ∷ each_from (λ i (f : Field). (f.name, meaning.Get d c i) ∷ []) 0 k.fields

-- the constructors and selectors of a signature, by name, in order of declaration
abbrev pub functions : Signature → List (List ℕ × Meaning)
functions sig = each_from (λ d (t : Data). each_from (functions_of d) 0 t.ctors) 0 sig.datatypes

-- what the name is: a constructor or a selector
abbrev pub meaning_of : Signature → List ℕ → Option Meaning
meaning_of sig name = look_up (functions sig) name

-- the names of constructors and selectors
abbrev pub function_names : Signature → List (List ℕ)
function_names sig = map (λ (f : List ℕ × Meaning). f.0) (functions sig)
