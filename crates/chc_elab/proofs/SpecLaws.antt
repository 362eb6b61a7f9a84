-- The written sorts that trees of each kind spell.
use Rattle.std.proofs.Common.{◌≡◌, ℕ, ℤ, List, [], Ok}
use Rattle.chc_sorts.specs.declared.spec.SortSpec.{SortSpec}
use Rattle.chc_sorts.specs.declared.spec.SortSpec.TheVariants as spec
use Rattle.chc_sexpr.specs.declared.tree.Tree.{Tree}
use Rattle.chc_sexpr.specs.declared.tree.Tree.TheVariants as tree
use Rattle.chc_sexpr.specs.declared.fault.Fault.TheVariants.{BadCommand}
use Rattle.chc_sexpr.proofs.Folds.{para-Symbol, para-Word, para-Keyword, para-Numeral, para-Text, para-Other, para-Group}
use Rattle.chc_elab.specs.Sites.{Reading, faulty}
use Rattle.chc_elab.specs.SortTrees.{array_spec, beside_specs, spec_of, spec_step}

pub spec-Symbol : (place : ℕ) (name : List ℕ) → spec_of (tree.Symbol place name) ≡ Ok (spec.Named name)
unfolding spec_of
spec-Symbol place name = para-Symbol (Reading SortSpec) spec_step place name

pub spec-Word : (place : ℕ) (word : List ℕ) → spec_of (tree.Word place word) ≡ faulty place BadCommand []
unfolding spec_of
spec-Word place word = para-Word (Reading SortSpec) spec_step place word

pub spec-Keyword : (place : ℕ) (word : List ℕ) → spec_of (tree.Keyword place word) ≡ faulty place BadCommand []
unfolding spec_of
spec-Keyword place word = para-Keyword (Reading SortSpec) spec_step place word

pub spec-Numeral : (place : ℕ) (n : ℤ) → spec_of (tree.Numeral place n) ≡ faulty place BadCommand []
unfolding spec_of
spec-Numeral place n = para-Numeral (Reading SortSpec) spec_step place n

pub spec-Text : (place : ℕ) (bytes : List ℕ) → spec_of (tree.Text place bytes) ≡ faulty place BadCommand []
unfolding spec_of
spec-Text place bytes = para-Text (Reading SortSpec) spec_step place bytes

pub spec-Other : (place : ℕ) (token : List ℕ) → spec_of (tree.Other place token) ≡ faulty place BadCommand []
unfolding spec_of
spec-Other place token = para-Other (Reading SortSpec) spec_step place token

pub spec-Group : (place : ℕ) (trees : List Tree) → spec_of (tree.Group place trees) ≡ array_spec place (beside_specs trees)
unfolding spec_of
spec-Group place trees = para-Group (Reading SortSpec) spec_step place trees

-- the equations of written sorts
pub ruleset spec_equations = (spec-Symbol, spec-Word, spec-Keyword, spec-Numeral, spec-Text, spec-Other, spec-Group)
