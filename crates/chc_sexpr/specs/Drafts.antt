-- What a reader of trees has read so far, and what the rest of the text can make of it.
use Rattle.std.specs.Prelude.{ℕ, ◌≡◌, ◌≢◌, ◌<◌, ◌≤◌, ◌+◌, true, false, List, [], ◌∷◌, ◌++◌, length, drop, map, reverse, Result, Ok, Err, ⊤}
use Rattle.chc_sexpr.specs.Tokens.{is_white}
use Rattle.chc_sexpr.specs.Spelling.{EachSpelled, TreeSpelled, FirstFault}
use Rattle.chc_sexpr.specs.Scanning.{fault_at}
use Rattle.chc_sexpr.specs.Trees.{depth_all, most_open}
use Rattle.chc_sexpr.specs.declared.draft.OpenGroup.{OpenGroup}
use Rattle.chc_sexpr.specs.declared.draft.Draft.{Draft}
use Rattle.chc_sexpr.specs.declared.fault.Fault.{Fault}
use Rattle.chc_sexpr.specs.declared.fault.Fault.TheVariants.{OpenParen}
use Rattle.chc_sexpr.specs.declared.fault.TextFault.{TextFault}
use Rattle.chc_sexpr.specs.declared.fault.TextErr.{TextErr}
use Rattle.chc_sexpr.specs.declared.fault.TextErr.TheVariants as text_err
use Rattle.chc_sexpr.specs.declared.tree.Tree.{Tree}
use Rattle.chc_sexpr.specs.declared.tree.Tree.TheVariants.{Group}

-- the innermost group of the one draft is closed in the other
pub record Closes (old new : Draft) : Type 0 where
  pub group : OpenGroup
  pub was : old.groups ≡ new.groups ++ group ∷ []
  pub trees : new.trees ≡ group.before ++ Group group.place old.trees ∷ []

-- the rest of a text, from a place on, goes on with groups that are open, innermost first, and with the trees
-- of the innermost so far, such that the whole text is these trees
abbrev pub Completes : List OpenGroup → List Tree → ℕ → List ℕ → List Tree → Type 0
Completes [] trees place rest all = (more : List Tree) × (all ≡ trees ++ more) × EachSpelled TreeSpelled true more place rest
Completes (g ∷ gs) trees place rest all =
    (more : List Tree) × (inner after : List ℕ) × (rest ≡ inner ++ 41 ∷ after) × EachSpelled TreeSpelled false more place inner
    × Completes gs (g.before ++ Group g.place (trees ++ more) ∷ []) (place + length inner + 1) after all

-- the same of a draft: what the rest of the text makes of it
pub record Ends (d : Draft) (place : ℕ) (rest : List ℕ) (all : List Tree) : Type 0 where
  pub is : Completes (reverse d.groups) d.trees place rest all

-- no trees that are not too deep stand in open groups, innermost first, and in the innermost
abbrev pub AreShallow : List OpenGroup → List Tree → Type 0
AreShallow [] trees = depth_all trees ≤ most_open
AreShallow (g ∷ gs) trees = (depth_all trees + length (g ∷ gs) ≤ most_open) × AreShallow gs g.before

-- the same of a draft
pub record IsShallow (d : Draft) : Type 0 where
  pub is : AreShallow (reverse d.groups) d.trees

-- the places of the open groups, innermost first
abbrev pub open_places : Draft → List ℕ
open_places d = map (λ g. g.place) (reverse d.groups)

-- the new draft is the old one and n bytes of the rest of the text, from a place on
pub record StepsTo (old new : Draft) (place : ℕ) (rest : List ℕ) (n : ℕ) : Type 0 where
  pub some : 0 < n
  pub within : n ≤ length rest
  pub there : (all : List Tree) → Ends old place rest all → Ends new (place + n) (drop n rest) all
  pub back : (all : List Tree) → Ends new (place + n) (drop n rest) all → Ends old place rest all
  pub shallow : IsShallow old → IsShallow new
  pub faults : (fault : Fault) (at : ℕ) → FirstFault (open_places new) (place + n) (drop n rest) fault at → FirstFault (open_places old) place rest fault at

-- the rest of the text, from a place on, can't go on with the draft, and the fault stands first in it
pub record Fails (d : Draft) (place : ℕ) (rest : List ℕ) (fault : TextFault) : Type 0 where
  pub none : (all : List Tree) → depth_all all ≤ most_open → Ends d place rest all → ⊥
  pub first : FirstFault (open_places d) place rest fault.fault fault.place
  pub nameless : fault.name ≡ []

-- what a step answers: how many bytes it took, or a fault where the text can't go on
abbrev pub StepsOn : Draft → Draft → ℕ → List ℕ → Result ℕ TextErr → Type 0
StepsOn old new place rest (Ok n) = StepsTo old new place rest n
StepsOn old new place rest (Err (text_err.At fault)) = Fails old place rest fault
StepsOn old new place rest (Err text_err.NoMemory) = ⊤

-- a byte that is neither white space nor a parenthesis, and begins no comment
pub record BeginsToken (b : ℕ) : Type 0 where
  pub white : is_white b ≡ false
  pub comment : b ≢ 59
  pub opening : b ≢ 40
  pub closing : b ≢ 41

-- what a draft comes to where the text ends: its trees, or the innermost group that is open
abbrev pub Finishes : Draft → Result (List Tree) TextErr → Type 0
Finishes d (Ok trees) = (d.groups ≡ []) × (trees ≡ d.trees)
Finishes d (Err (text_err.At fault)) = (group : OpenGroup) × (outer : List OpenGroup) × (d.groups ≡ outer ++ group ∷ []) × (fault ≡ fault_at group.place OpenParen)
Finishes d (Err text_err.NoMemory) = ⊤
