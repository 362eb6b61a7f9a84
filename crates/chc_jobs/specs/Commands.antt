-- What the words of a command line mean.
use Rattle.std.specs.Prelude.{◌≡◌, ◌≢◌, ℕ, List, [], ◌∷◌, codes}

-- the words are `normalise` and these names of files; an output's name equals no other name
pub record IsNormalise (words : List (List ℕ)) (script out trace : List ℕ) : Type 0 where
  pub form : words ≡ codes "normalise" ∷ script ∷ out ∷ trace ∷ []
  pub out_apart : out ≢ script
  pub trace_apart : trace ≢ script
  pub both_apart : trace ≢ out

-- the words are `lift` and these names of files; the output's name equals no other name
pub record IsLift (words : List (List ℕ)) (script trace answer out : List ℕ) : Type 0 where
  pub form : words ≡ codes "lift" ∷ script ∷ trace ∷ answer ∷ out ∷ []
  pub script_apart : out ≢ script
  pub trace_apart : out ≢ trace
  pub answer_apart : out ≢ answer

-- the words are no form of `normalise`
abbrev pub IsNoNormalise : List (List ℕ) → Type 0
IsNoNormalise words = (script out trace : List ℕ) → IsNormalise words script out trace → ⊥

-- the words are no form of `lift`
abbrev pub IsNoLift : List (List ℕ) → Type 0
IsNoLift words = (script trace answer out : List ℕ) → IsLift words script trace answer out → ⊥

-- the words are no form of either command
pub record IsNoCommand (words : List (List ℕ)) : Type 0 where
  pub no_normalise : IsNoNormalise words
  pub no_lift : IsNoLift words
