-- What holds of every tree that bytes spell: its numerals are in range, and its names can be written.
use Rattle.std.specs.Prelude.{Bool, true, List}
use Rattle.std.specs.List.{list_all}
use Rattle.chc_sexpr.specs.declared.tree.Tree.{Tree}
use Rattle.chc_sexpr.specs.declared.tree.Tree.TheOpen.{Tree-F}
use Rattle.chc_sexpr.specs.declared.tree.Tree.TheFolds.{fold-Tree}
use Rattle.chc_values.specs.Ranges.{is_int_in_range}
use Rattle.chc_state.specs.Names.{is_writable_name}

abbrev pub spellable_step : Tree-F Bool → Bool
spellable_step (Tree-F.Symbol place name) = is_writable_name name
spellable_step (Tree-F.Word place word) = true
spellable_step (Tree-F.Keyword place word) = true
spellable_step (Tree-F.Numeral place n) = is_int_in_range n
spellable_step (Tree-F.Text place bytes) = true
spellable_step (Tree-F.Other place token) = true
spellable_step (Tree-F.Group place parts) = list_all (λ b. b) parts

-- whether each numeral in the tree is from -(2^127 - 1) to 2^127 - 1, and each name in it can be written
unfoldable pub is_spellable : Tree → Bool
is_spellable = fold-Tree Bool spellable_step

-- whether all of the trees are so
abbrev pub are_spellable : List Tree → Bool
are_spellable trees = list_all is_spellable trees
