-- A text has as many bytes at least as trees.
use Rattle.std.proofs.Common.{◌≡◌, ◌<◌, ◌≤◌, ◌+◌, ◌^◌, ◌++◌, ◌∷◌, [], ℕ, ℤ, Bool, true, false, List, length, decimal, ap, arith}
use Rattle.std.proofs.Common.{inl, inr}
use Rattle.chc_sexpr.proofs.Decimals.{whole_decimal}
use Rattle.std.specs.List.{AllByRecursion}
use Rattle.std.proofs.lemmas.List.{length-append}
use Rattle.chc_sexpr.proofs.Folds.{fold-Symbol, fold-Word, fold-Keyword, fold-Numeral, fold-Text, fold-Other, tree_ind}
use Rattle.chc_sexpr.proofs.Spelled.{opened, spelled-Symbol, spelled-Word, spelled-Keyword, spelled-Numeral, spelled-Text, spelled-Other, spelled-Group}
use Rattle.chc_sexpr.specs.Spelling.{EachSpelled, LevelSpelled, TreeSpelled, Spells, IsDecimal, IsHexadecimal, IsBinary, is_keyword}
use Rattle.chc_sexpr.specs.Tokens.{is_simple_symbol, is_reserved, is_whole_number}
use Rattle.chc_sexpr.specs.declared.tree.Tree.{Tree}
use Rattle.chc_sexpr.specs.declared.tree.Tree.TheOpen.{Tree-F}
use Rattle.chc_sexpr.specs.declared.tree.Tree.TheVariants.{Symbol, Word, Keyword, Numeral, Text, Other, Group}
use Rattle.chc_sexpr.specs.Counts.{count, count_step, count_all}
use Rattle.chc_elab.proofs.TreeCounts.{count-Group}

-- a tree has no more trees than its text has bytes
abbrev Counted : Tree → Type 0
Counted t = (place : ℕ) (text after : List ℕ) → TreeSpelled t place text after → count t ≤ length text

symbol_some : (name : List ℕ) → is_simple_symbol name ≡ true → 1 ≤ length name
symbol_some [] h = cc
symbol_some (b ∷ bs) h = omega arith

word_some : (word : List ℕ) → is_reserved word ≡ true → 1 ≤ length word
word_some [] h = cc
word_some (b ∷ bs) h = omega arith

keyword_some : (word : List ℕ) → is_keyword word ≡ true → 1 ≤ length word
keyword_some [] h = cc
keyword_some (b ∷ bs) h = omega arith

whole_some : (ds : List ℕ) → is_whole_number ds ≡ true → 1 ≤ length ds
whole_some [] h = cc
whole_some (d ∷ ds) h = omega arith

decimal_some : (n : ℕ) → n < 2 ^ 127 → 1 ≤ length (decimal n)
decimal_some n small = whole_some (decimal n) (whole_decimal n small)

leaf : (t : Tree) (y : Tree-F ℕ) (text : List ℕ) → count t ≡ count_step y → count_step y ≤ 1 → 1 ≤ length text → count t ≤ length text
leaf t y text e one some = omega arith

each_counted : (ends : Bool) (xs : List Tree) → AllByRecursion Counted xs → (place : ℕ) (bs : List ℕ) → EachSpelled TreeSpelled ends xs place bs → count_all xs ≤ length bs
each_counted ends [] held place bs h = omega arith
each_counted ends (x ∷ xs) held place bs (gap, text, after, e, is, spelled, each) =
    let first : count x ≤ length text = held.0 (place + length gap) text after spelled in
    let rest : count_all xs ≤ length after = each_counted ends xs held.1 (place + length gap + length text) after each in
    let whole : length bs ≡ length ((gap ++ text) ++ after) = ap (λ (l : List ℕ). length l) e in
    let parts = length-append (gap ++ text) after in
    let more = length-append gap text in
    omega arith

symbol_text : (at : ℕ) (name : List ℕ) (place : ℕ) (text after : List ℕ) → LevelSpelled TreeSpelled (Tree-F.Symbol at name) place text after → 1 ≤ length text
symbol_text at name place text after (e, inl (same, simple, free, stop)) = let some = symbol_some name simple in let long = ap (λ (l : List ℕ). length l) same in omega arith
symbol_text at name place text after (e, inr (same, quotable)) = let long = ap (λ (l : List ℕ). length l) same in omega arith

word_text : (at : ℕ) (word : List ℕ) (place : ℕ) (text after : List ℕ) → LevelSpelled TreeSpelled (Tree-F.Word at word) place text after → 1 ≤ length text
word_text at word place text after (e, same, reserved, stop) = let some = word_some word reserved in let long = ap (λ (l : List ℕ). length l) same in omega arith

keyword_text : (at : ℕ) (word : List ℕ) (place : ℕ) (text after : List ℕ) → LevelSpelled TreeSpelled (Tree-F.Keyword at word) place text after → 1 ≤ length text
keyword_text at word place text after (e, same, is, stop) = let some = keyword_some word is in let long = ap (λ (l : List ℕ). length l) same in omega arith

numeral_text : (at : ℕ) (number : ℤ) (place : ℕ) (text after : List ℕ) → LevelSpelled TreeSpelled (Tree-F.Numeral at number) place text after → 1 ≤ length text
numeral_text at number place text after (e, n, is, small, same, stop) = let some = decimal_some n small in let long = ap (λ (l : List ℕ). length l) same in omega arith

string_text : (at : ℕ) (bytes : List ℕ) (place : ℕ) (text after : List ℕ) → LevelSpelled TreeSpelled (Tree-F.Text at bytes) place text after → 1 ≤ length text
string_text at bytes place text after (e, same, stop) = let long = ap (λ (l : List ℕ). length l) same in omega arith

decimal_text : (token : List ℕ) → IsDecimal token → 1 ≤ length token
decimal_text token (whole, digits, same, is, run) =
    let long = ap (λ (l : List ℕ). length l) same in
    let parts = length-append whole (46 ∷ digits) in
    omega arith

hexadecimal_text : (token : List ℕ) → IsHexadecimal token → 1 ≤ length token
hexadecimal_text token (digits, same, run) = let long = ap (λ (l : List ℕ). length l) same in omega arith

binary_text : (token : List ℕ) → IsBinary token → 1 ≤ length token
binary_text token (digits, same, run) = let long = ap (λ (l : List ℕ). length l) same in omega arith

other_text : (at : ℕ) (token : List ℕ) (place : ℕ) (text after : List ℕ) → LevelSpelled TreeSpelled (Tree-F.Other at token) place text after → 1 ≤ length text
other_text at token place text after (e, same, inl (inl d, stop)) = let some = decimal_text token d in let long = ap (λ (l : List ℕ). length l) same in omega arith
other_text at token place text after (e, same, inl (inr d, stop)) = let some = hexadecimal_text token d in let long = ap (λ (l : List ℕ). length l) same in omega arith
other_text at token place text after (e, same, inr (d, stop)) = let some = binary_text token d in let long = ap (λ (l : List ℕ). length l) same in omega arith

group_counted : (at : ℕ) (xs : List Tree) → AllByRecursion Counted xs → (place : ℕ) (text after : List ℕ) → LevelSpelled TreeSpelled (Tree-F.Group at xs) place text after → count (Group at xs) ≤ length text
group_counted at xs held place text after (e, inner, same, each) =
    let rest = each_counted false xs held (place + 1) inner each in
    let long = ap (λ (l : List ℕ). length l) same in
    let parts = length-append inner (41 ∷ []) in
    let all = count-Group at xs in
    omega arith

counted : (t : Tree) → Counted t
unfolding count
counted = tree_ind Counted (record {
  symbol = λ at name place text after h. leaf (Symbol at name) (Tree-F.Symbol at name) text (fold-Symbol ℕ count_step at name) (omega arith) (symbol_text at name place text after (opened (spelled-Symbol at name) place text after h));
  word = λ at word place text after h. leaf (Word at word) (Tree-F.Word at word) text (fold-Word ℕ count_step at word) (omega arith) (word_text at word place text after (opened (spelled-Word at word) place text after h));
  keyword = λ at word place text after h. leaf (Keyword at word) (Tree-F.Keyword at word) text (fold-Keyword ℕ count_step at word) (omega arith) (keyword_text at word place text after (opened (spelled-Keyword at word) place text after h));
  numeral = λ at number place text after h. leaf (Numeral at number) (Tree-F.Numeral at number) text (fold-Numeral ℕ count_step at number) (omega arith) (numeral_text at number place text after (opened (spelled-Numeral at number) place text after h));
  text = λ at bytes place text after h. leaf (Text at bytes) (Tree-F.Text at bytes) text (fold-Text ℕ count_step at bytes) (omega arith) (string_text at bytes place text after (opened (spelled-Text at bytes) place text after h));
  other = λ at token place text after h. leaf (Other at token) (Tree-F.Other at token) text (fold-Other ℕ count_step at token) (omega arith) (other_text at token place text after (opened (spelled-Other at token) place text after h));
  group = λ at xs held place text after h. group_counted at xs held place text after (opened (spelled-Group at xs) place text after h);
})

all_counted : (xs : List Tree) → AllByRecursion Counted xs
all_counted [] = tt
all_counted (x ∷ xs) = (counted x, all_counted xs)

-- the trees of a text are no more than its bytes
pub spelled_count : (bytes : List ℕ) (trees : List Tree) → Spells bytes trees → count_all trees ≤ length bytes
spelled_count bytes trees s = each_counted true trees (all_counted trees) 0 bytes s.spelled
