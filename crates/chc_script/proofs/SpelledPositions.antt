-- The sorts that trees spell fit.
use Rattle.std.proofs.Common.{◌≡◌, ℕ, true, List, [], ◌∷◌, ◌++◌, Ok, sym}
use Rattle.std.specs.List.{list_all}
use Rattle.chc_sorts.specs.declared.sort.Sort.{Sort}
use Rattle.chc_sorts.specs.Signature.{Signature}
use Rattle.chc_sorts.specs.Sorts.{sort_fits}
use Rattle.chc_sexpr.specs.declared.tree.Tree.{Tree, out-Tree}
use Rattle.chc_elab.specs.SortTrees.{place_at, sort_of_tree}
use Rattle.chc_elab.proofs.SpelledSorts.{spelled_fits}
use Rattle.chc_script.proofs.PredicateLaws.{all_more}

-- one more sort that a tree spells
pub fitting_more : (sig : Signature) (sorts : List Sort) (t : Tree) (s : Sort) → list_all (sort_fits sig) sorts ≡ true → Ok s ≡ sort_of_tree sig (place_at (out-Tree t)) t
    → list_all (sort_fits sig) (sorts ++ s ∷ []) ≡ true
fitting_more sig sorts t s h e = all_more (sort_fits sig) sorts s h (spelled_fits (record { sig = sig; symbols = [] }) t s (sym e))
