-- Where trees stand, and what is wrong there.
use Rattle.std.specs.Prelude.{ℕ, [], Option, Some, None, Result, Ok, Err, ⊤, ◌≡◌}
use Rattle.chc_sexpr.specs.declared.fault.TextFault.{TextFault}
use Rattle.chc_sexpr.specs.declared.fault.TextErr.{TextErr}
use Rattle.chc_sexpr.specs.declared.fault.TextErr.TheVariants as text_err
use Rattle.chc_sexpr.specs.declared.fault.Fault.TheVariants.{BadForm}
use Rattle.chc_sexpr.specs.declared.tree.Tree.{Tree, out-Tree}
use Rattle.chc_sexpr.specs.declared.tree.Tree.TheOpen.{Tree-F}

-- the place of a level
abbrev pub place_at : Tree-F Tree → ℕ
place_at (Tree-F.Symbol place name) = place
place_at (Tree-F.Word place word) = place
place_at (Tree-F.Keyword place word) = place
place_at (Tree-F.Numeral place number) = place
place_at (Tree-F.Text place bytes) = place
place_at (Tree-F.Other place token) = place
place_at (Tree-F.Group place trees) = place

-- where a tree stands
abbrev pub place_of : Tree → ℕ
place_of tree = place_at (out-Tree tree)

-- the fault that another tree is wanted at the place
abbrev pub bad_form : ℕ → TextFault
bad_form place = record { place = place; fault = BadForm; name = [] }

-- what is read, or the first fault
abbrev pub Reading : Type 0 → Type 0
Reading A = Result A TextFault

-- what was read, or the fault that another tree is wanted at the place
abbrev pub wanted_at : {A : Type 0} → ℕ → Option A → Reading A
wanted_at place None = Err (bad_form place)
wanted_at place (Some a) = Ok a

-- what is read from what was read first, where that has no fault
infixl 10 ◌>>>◌
abbrev pub ◌>>>◌ : {A B : Type 0} → Reading A → (A → Reading B) → Reading B
(Ok a) >>> next = next a
(Err fault) >>> next = Err fault

-- the answer is the reading, or memory was refused
abbrev pub Tells : {A : Type 0} → Result A TextErr → Reading A → Type 0
Tells (Ok a) reading = Ok a ≡ reading
Tells (Err (text_err.At fault)) reading = Err fault ≡ reading
Tells (Err text_err.NoMemory) reading = ⊤
