-- Lines that are read one after the other.
use Rattle.std.proofs.Common.{◌≡◌, ◌∙◌, sym, ap, refl, subst, ℕ, ◌+◌, true, List, [], ◌∷◌, ◌++◌, length, Ok, append_assoc}
use Rattle.chc_sexpr.specs.declared.tree.Tree.{Tree}
use Rattle.chc_sexpr.proofs.Written.{Writes, TreesAt, no_more_at, next_at}
use Rattle.chc_elab.specs.Sites.{◌>>>◌}
use Rattle.chc_script.specs.declared.whole.progress.Progress.{Progress}
use Rattle.chc_script.specs.WholeScripts.{command, commands}

-- the tree is a command that goes on from the one progress to the other
abbrev pub Turns : Progress → Progress → Tree → Type 0
Turns p q tree = command p tree ≡ Ok q

-- the trees lead from the one progress to the other
abbrev pub Leads : Progress → Progress → List Tree → Type 0
Leads p q trees = commands p trees ≡ Ok q

pub turns_leads : (p q end : Progress) (t : Tree) (ts : List Tree) → Turns p q t → Leads q end ts → Leads p end (t ∷ ts)
turns_leads p q end t ts one more = ap (λ r. r >>> (λ next. commands next ts)) one ∙ more

-- behind a line feed, the text is trees that lead from the one progress to the other
abbrev pub Runs : Progress → Progress → List ℕ → Type 0
Runs p end bytes = (place : ℕ) → TreesAt (Leads p end) 1000 true place (10 ∷ bytes)

pub runs_same : (p end : Progress) (bytes same : List ℕ) → bytes ≡ same → Runs p end bytes → Runs p end same
runs_same p end bytes same e runs = subst (Runs p end) e runs

-- nothing more
pub runs_out : (p : Progress) → Runs p p []
runs_out p place = no_more_at (Leads p p) 1000 true place (10 ∷ []) refl refl

-- a line, and what is behind it
pub runs_line : (p q end : Progress) (line rest : List ℕ) → Writes (Turns p q) 1000 line → Runs q end rest → Runs p end ((line ++ 10 ∷ []) ++ rest)
runs_line p q end line rest writes runs place =
    subst (λ (bytes : List ℕ). TreesAt (Leads p end) 1000 true place (10 ∷ bytes)) (sym (append_assoc line (10 ∷ []) rest))
    (next_at (Turns p q) (Leads q end) (Leads p end) 1000 true place (10 ∷ []) line (10 ∷ rest) refl
    (writes (place + 1) (10 ∷ rest) refl) (runs (place + 1 + length line))
    (turns_leads p q end))

-- the first line of a text
pub first_line : (p q end : Progress) (line rest : List ℕ) → Writes (Turns p q) 1000 line → Runs q end rest → TreesAt (Leads p end) 1000 true 0 ((line ++ 10 ∷ []) ++ rest)
first_line p q end line rest writes runs =
    subst (TreesAt (Leads p end) 1000 true 0) (sym (append_assoc line (10 ∷ []) rest))
    (next_at (Turns p q) (Leads q end) (Leads p end) 1000 true 0 [] line (10 ∷ rest) refl
    (writes 0 (10 ∷ rest) refl) (runs (0 + 0 + length line))
    (turns_leads p q end))
