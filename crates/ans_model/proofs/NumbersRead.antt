-- Each numeral in the trees of a text is in range.
use Rattle.std.proofs.Common.{◌≡◌, ◌∙◌, sym, ap, refl, ℕ, ◌+◌, ◌<◌, ◌-◌, ◌^◌, ◌&&◌, ℤ, pos, Bool, true, false, List, [], ◌∷◌, length, map, arith}
use Rattle.std.specs.List.{list_all, AllByRecursion}
use Rattle.std.proofs.lemmas.Bool.{and_from, le-leb}
use Rattle.chc_sexpr.proofs.Folds.{fold-Symbol, fold-Word, fold-Keyword, fold-Numeral, fold-Text, fold-Other, fold-Group, tree_ind}
use Rattle.chc_sexpr.proofs.Spelled.{opened, spelled-Numeral, spelled-Group}
use Rattle.chc_sexpr.specs.Spelling.{EachSpelled, LevelSpelled, TreeSpelled, Spells}
use Rattle.chc_sexpr.specs.declared.tree.Tree.{Tree}
use Rattle.chc_sexpr.specs.declared.tree.Tree.TheOpen.{Tree-F}
use Rattle.chc_sexpr.specs.declared.tree.Tree.TheVariants.{Numeral, Group}
use Rattle.chc_values.specs.Ranges.{is_int_in_range}
use Rattle.chc_elab.specs.WellRead.{are_numerals_in_range, numerals_step}

-- a tree whose numerals are in range, where it is spelled
abbrev InRange : Tree → Type 0
InRange t = (place : ℕ) (text after : List ℕ) → TreeSpelled t place text after → are_numerals_in_range t ≡ true

each_in_range : (ends : Bool) (ts : List Tree) → AllByRecursion InRange ts → (place : ℕ) (bytes : List ℕ) → EachSpelled TreeSpelled ends ts place bytes → list_all (λ b. b) (map are_numerals_in_range ts) ≡ true
each_in_range ends [] held place bytes h = refl
each_in_range ends (t ∷ ts) held place bytes (gap, text, after, e, is, spelled, each) =
    and_from (are_numerals_in_range t) (list_all (λ b. b) (map are_numerals_in_range ts)) (held.0 (place + length gap) text after spelled) (each_in_range ends ts held.1 (place + length gap + length text) after each)

small_in_range : (number : ℤ) (n : ℕ) → number ≡ pos n → n < 2 ^ 127 → is_int_in_range number ≡ true
small_in_range number n is small = ap is_int_in_range is ∙ le-leb n (2 ^ 127 - 1) (omega (arith, small))

numeral_in_range : (at : ℕ) (number : ℤ) (place : ℕ) (text after : List ℕ) → LevelSpelled TreeSpelled (Tree-F.Numeral at number) place text after → is_int_in_range number ≡ true
numeral_in_range at number place text after (e, n, is, small, same, stop) = small_in_range number n is small

group_in_range : (at : ℕ) (ts : List Tree) → AllByRecursion InRange ts → (place : ℕ) (text after : List ℕ) → LevelSpelled TreeSpelled (Tree-F.Group at ts) place text after → list_all (λ b. b) (map are_numerals_in_range ts) ≡ true
group_in_range at ts held place text after (e, inner, same, each) = each_in_range false ts held (place + 1) inner each

in_range : (t : Tree) → InRange t
in_range = tree_ind InRange (record {
  symbol = λ at name place text after h. fold-Symbol Bool numerals_step at name;
  word = λ at word place text after h. fold-Word Bool numerals_step at word;
  keyword = λ at word place text after h. fold-Keyword Bool numerals_step at word;
  numeral = λ at number place text after h. fold-Numeral Bool numerals_step at number ∙ numeral_in_range at number place text after (opened (spelled-Numeral at number) place text after h);
  text = λ at bytes place text after h. fold-Text Bool numerals_step at bytes;
  other = λ at token place text after h. fold-Other Bool numerals_step at token;
  group = λ at ts held place text after h. fold-Group Bool numerals_step at ts ∙ group_in_range at ts held place text after (opened (spelled-Group at ts) place text after h);
})

all_in_range : (ts : List Tree) → AllByRecursion InRange ts
all_in_range [] = tt
all_in_range (t ∷ ts) = (in_range t, all_in_range ts)

pub mapped_ranges : (ts : List Tree) → list_all (λ b. b) (map are_numerals_in_range ts) ≡ list_all are_numerals_in_range ts
mapped_ranges [] = refl
mapped_ranges (t ∷ ts) = ap (λ b. are_numerals_in_range t && b) (mapped_ranges ts)

-- the trees that a text spells have numerals in range alone
pub spelled_in_range : (bytes : List ℕ) (trees : List Tree) → Spells bytes trees → list_all are_numerals_in_range trees ≡ true
spelled_in_range bytes trees s = sym (mapped_ranges trees) ∙ each_in_range true trees (all_in_range trees) 0 bytes s.spelled
