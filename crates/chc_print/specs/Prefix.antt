-- The prefix of the variables' names.
use Rattle.std.specs.Prelude.{◌≡◌, ◌<◌, ◌==◌, ◌&&◌, ◌+◌, ℕ, nat_eq, if◌then◌else◌, Option, Some, None, Bool, true, false, List, [], ◌∷◌, ◌++◌, map, replicate, codes}
use Rattle.std.specs.List.{list_any, flat_map}
use Rattle.std.specs.Char.{is_ascii_digit}
use Rattle.chc_sorts.specs.Signature.{Signature}
use Rattle.chc_sorts.specs.declared.data.Data.{Data}
use Rattle.chc_sorts.specs.declared.data.Ctor.{Ctor}
use Rattle.chc_sorts.specs.declared.data.Field.{Field}

-- the names of a constructor and its selectors
abbrev pub ctor_names : Ctor → List (List ℕ)
ctor_names k = k.name ∷ map (λ (f : Field). f.name) k.fields

-- the names that a script uses: its predicates', and the constructors and selectors of its datatypes
abbrev pub used_names : Signature → List (List ℕ) → List (List ℕ)
used_names sig names = names ++ flat_map ctor_names (flat_map (λ (t : Data). t.ctors) sig.datatypes)

-- whether the name begins with the prefix and a digit
abbrev pub begins_numbered : List ℕ → List ℕ → Bool
begins_numbered [] [] = false
begins_numbered [] (b ∷ bs) = is_ascii_digit b
begins_numbered (p ∷ ps) [] = false
begins_numbered (p ∷ ps) (b ∷ bs) = b == p && begins_numbered ps bs

-- whether some name does
abbrev pub is_taken : List (List ℕ) → List ℕ → Bool
is_taken used prefix = list_any (begins_numbered prefix) used

-- x with some exclamation marks
abbrev pub marked : ℕ → List ℕ
marked marks = codes "x" ++ replicate marks 33

-- how many marks stand before a digit, where nothing else does, with so many before
abbrev pub marks_from : ℕ → List ℕ → Option ℕ
marks_from marks [] = None
marks_from marks (b ∷ bs) = if is_ascii_digit b then Some marks else (if b == 33 then marks_from (marks + 1) bs else None)

-- whether that is the number of marks
abbrev pub takes_marks : ℕ → Option ℕ → Bool
takes_marks k None = false
takes_marks k (Some marks) = nat_eq k marks

-- the prefix with the fewest marks that no name in use begins with, with a digit behind it
pub record IsVariablePrefix (used : List (List ℕ)) (prefix : List ℕ) : Type 0 where
  pub marks : ℕ
  pub form : prefix ≡ marked marks
  pub free : is_taken used prefix ≡ false
  pub least : (fewer : ℕ) → fewer < marks → is_taken used (marked fewer) ≡ true
