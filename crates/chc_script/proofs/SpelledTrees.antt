-- A text has no more trees than bytes, its numerals are in range, and its names can be written.
use Rattle.std.proofs.Common.{◌≡◌, ◌≤◌, ◌<◌, ◌+◌, ◌^◌, ◌⊎◌, ℕ, ℤ, Bool, true, false, not, ◌&&◌, ◌||◌, List, [], ◌∷◌, ◌++◌, length, length-append, codes, inl, inr, refl, ap, sym, ◌∙◌, arith}
use Rattle.std.specs.Prelude.{IsTrue, nat_eq}
use Rattle.std.specs.Char.{is_ascii_digit}
use Rattle.std.specs.List.{AllByRecursion, list_all}
use Rattle.std.proofs.lemmas.Bool.{and_parts, eqb-true, le-leb}
use Rattle.std.proofs.lemmas.Fmt.{decimal_is_IsNumeral_wide}
use Rattle.chc_sexpr.specs.Counts.{count, count_all}
use Rattle.chc_sexpr.specs.Tokens.{is_simple_symbol, is_reserved, is_symbol_byte}
use Rattle.chc_sexpr.specs.Spelling.{EachSpelled, LevelSpelled, TreeSpelled, Spells, IsDecimal, IsHexadecimal, IsBinary, is_keyword, is_quotable}
use Rattle.chc_sexpr.specs.declared.tree.Tree.{Tree}
use Rattle.chc_sexpr.specs.declared.tree.Tree.TheOpen.{Tree-F}
use Rattle.chc_sexpr.specs.declared.tree.Tree.TheVariants.{Symbol, Word, Keyword, Numeral, Text, Other, Group}
use Rattle.chc_sexpr.proofs.Folds.{tree_ind, trees_ind, TreeCases}
use Rattle.chc_sexpr.proofs.Spelled.{spelled-Symbol, spelled-Word, spelled-Keyword, spelled-Numeral, spelled-Text, spelled-Other, spelled-Group, opened}
use Rattle.chc_values.specs.Ranges.{greatest_int, is_int_in_range}
use Rattle.chc_state.specs.Names.{is_writable_name}
use Rattle.chc_elab.proofs.TreeCounts.{count-Symbol, count-Word, count-Keyword, count-Numeral, count-Text, count-Other, count-Group}
use Rattle.chc_script.specs.Spellable.{is_spellable, are_spellable}
use Rattle.chc_script.proofs.SpellableTrees.{spellable-Symbol, spellable-Word, spellable-Keyword, spellable-Numeral, spellable-Text, spellable-Other, spellable-Group}

-- each token has a byte
false_not_true : false ≡ true → ⊥
false_not_true e = cc

some_symbol : (name : List ℕ) → is_simple_symbol name ≡ true → 1 ≤ length name
some_symbol [] h = absurd (false_not_true h)
some_symbol (b ∷ bs) h = omega arith

some_reserved : (word : List ℕ) → is_reserved word ≡ true → 1 ≤ length word
some_reserved [] h = absurd (false_not_true h)
some_reserved (b ∷ bs) h = omega arith

some_keyword : (word : List ℕ) → is_keyword word ≡ true → 1 ≤ length word
some_keyword [] h = absurd (false_not_true h)
some_keyword (b ∷ bs) h = omega arith

some_other : (token : List ℕ) (a b : Bool) → ((IsDecimal token ⊎ IsHexadecimal token) × IsTrue a) ⊎ (IsBinary token × IsTrue b) → 1 ≤ length token
some_other token a b (inl (inl d, rest)) = omega (arith, ap length d.2, length-append d.0 (46 ∷ d.1))
some_other token a b (inl (inr d, rest)) = omega (arith, ap length d.1, length-append (codes "#x") d.0)
some_other token a b (inr (d, rest)) = omega (arith, ap length d.1, length-append (codes "#b") d.0)

-- a tree is made of no more trees than its text has bytes
abbrev Counted : Tree → Type 0
Counted t = (place : ℕ) (text after : List ℕ) → TreeSpelled t place text after → count t ≤ length text

each_counted : (ends : Bool) (xs : List Tree) (place : ℕ) (bs : List ℕ) → AllByRecursion Counted xs → EachSpelled TreeSpelled ends xs place bs → count_all xs ≤ length bs
each_counted ends [] place bs all h = omega arith
each_counted ends (x ∷ xs) place bs all (gap, text, after, e, blank, first, rest) =
    let one = all.0 (place + length gap) text after first in
    let more = each_counted ends xs (place + length gap + length text) after all.1 rest in
    let long : length bs ≡ length gap + length text + length after = ap length e ∙ length-append (gap ++ text) after ∙ ap (λ n. n + length after) (length-append gap text) in
    omega (arith, one, more, long)

symbol_counted : (at : ℕ) (name : List ℕ) → Counted (Symbol at name)
symbol_counted at name place text after h = by (opened (spelled-Symbol at name) place text after h)
  where
    by : LevelSpelled TreeSpelled (Tree-F.Symbol at name) place text after → count (Symbol at name) ≤ length text
    by (e, inl (same, simple, plain, rest)) = omega (arith, count-Symbol at name, some_symbol name simple, ap length same)
    by (e, inr (same, rest)) = omega (arith, count-Symbol at name, ap length same, length-append (124 ∷ name) (124 ∷ []))

group_counted : (at : ℕ) (inner : List Tree) → AllByRecursion Counted inner → Counted (Group at inner)
group_counted at inner all place text after h =
    let o = opened (spelled-Group at inner) place text after h in
    let more = each_counted false inner (place + 1) o.1 all o.3 in
    let long : length text ≡ length {A = ℕ} (40 ∷ o.1) + length {A = ℕ} (41 ∷ []) = ap length o.2 ∙ length-append (40 ∷ o.1) (41 ∷ []) in
    omega (arith, count-Group at inner, more, long)

each : TreeCases Counted
each = record {
  symbol = symbol_counted;
  word = λ at word place text after h.
      let o = opened (spelled-Word at word) place text after h in
      omega (arith, count-Word at word, some_reserved word o.2, ap length o.1);
  keyword = λ at word place text after h.
      let o = opened (spelled-Keyword at word) place text after h in
      omega (arith, count-Keyword at word, some_keyword word o.2, ap length o.1);
  numeral = λ at number place text after h.
      let o = opened (spelled-Numeral at number) place text after h in
      let some = (decimal_is_IsNumeral_wide o.1 (omega (arith, o.3))).0 in
      omega (arith, count-Numeral at number, some.0, ap length o.4);
  text = λ at bytes place text after h.
      let o = opened (spelled-Text at bytes) place text after h in
      omega (arith, count-Text at bytes, ap length o.1);
  other = λ at token place text after h.
      let o = opened (spelled-Other at token) place text after h in
      omega (arith, count-Other at token, some_other token _ _ o.2, ap length o.1);
  group = group_counted;
}

pub trees_within : (bytes : List ℕ) (trees : List Tree) → Spells bytes trees → count_all trees ≤ length bytes
trees_within bytes trees h = each_counted true trees 0 bytes (trees_ind Counted each trees) h.spelled

-- bytes that may stand in a name can be written
abbrev is_writable_byte : ℕ → Bool
is_writable_byte b = not (nat_eq b 124) && not (nat_eq b 92)

all_from : (p q : ℕ → Bool) (bs : List ℕ) → ((b : ℕ) → p b ≡ true → q b ≡ true) → list_all p bs ≡ true → list_all q bs ≡ true
all_from p q [] f h = refl
all_from p q (b ∷ bs) f h =
    let (first, rest) = and_parts (p b) (list_all p bs) h in
    ap (λ x. x && list_all q bs) (f b first) ∙ all_from p q bs f rest

neither : (p q : Bool) → not (p || q) ≡ true → (not p && not q) ≡ true
neither true q h = h
neither false q h = h

quotable_byte : (b : ℕ) → is_quotable b ≡ true → is_writable_byte b ≡ true
quotable_byte b h = neither (nat_eq b 124) (nat_eq b 92) h

symbol_byte : (b : ℕ) → is_symbol_byte b ≡ true → is_writable_byte b ≡ true
symbol_byte b h = by (nat_eq b 124) (nat_eq b 92) refl refl
  where
    by : (p q : Bool) → nat_eq b 124 ≡ p → nat_eq b 92 ≡ q → (not p && not q) ≡ true
    by true q e f = absurd (false_not_true (sym (ap is_symbol_byte (eqb-true b 124 e)) ∙ h))
    by false true e f = absurd (false_not_true (sym (ap is_symbol_byte (eqb-true b 92 f)) ∙ h))
    by false false e f = refl

simple_written : (name : List ℕ) → is_simple_symbol name ≡ true → is_writable_name name ≡ true
simple_written [] h = refl
simple_written (b ∷ bs) h = all_from is_symbol_byte is_writable_byte (b ∷ bs) symbol_byte (and_parts (not (is_ascii_digit b)) (list_all is_symbol_byte (b ∷ bs)) h).1

-- a tree that is spelled has its numerals in range, and its names can be written
abbrev Spellable : Tree → Type 0
Spellable t = (place : ℕ) (text after : List ℕ) → TreeSpelled t place text after → is_spellable t ≡ true

each_spellable : (ends : Bool) (xs : List Tree) (place : ℕ) (bs : List ℕ) → AllByRecursion Spellable xs → EachSpelled TreeSpelled ends xs place bs → are_spellable xs ≡ true
each_spellable ends [] place bs all h = refl
each_spellable ends (x ∷ xs) place bs all (gap, text, after, e, blank, first, rest) =
    ap (λ b. b && are_spellable xs) (all.0 (place + length gap) text after first)
    ∙ each_spellable ends xs (place + length gap + length text) after all.1 rest

symbol_spelled : (at : ℕ) (name : List ℕ) → Spellable (Symbol at name)
symbol_spelled at name place text after h = spellable-Symbol at name ∙ by (opened (spelled-Symbol at name) place text after h)
  where
    by : LevelSpelled TreeSpelled (Tree-F.Symbol at name) place text after → is_writable_name name ≡ true
    by (e, inl (same, simple, plain, rest)) = simple_written name simple
    by (e, inr (same, all)) = all_from is_quotable is_writable_byte name quotable_byte all

numeral_spelled : (at : ℕ) (number : ℤ) → Spellable (Numeral at number)
numeral_spelled at number place text after h =
    let (same, n, is, low, text_is, rest) = opened (spelled-Numeral at number) place text after h in
    spellable-Numeral at number ∙ ap is_int_in_range is ∙ le-leb n greatest_int (omega (arith, low))

spellable_each : TreeCases Spellable
spellable_each = record {
  symbol = symbol_spelled;
  word = λ at word place text after h. spellable-Word at word;
  keyword = λ at word place text after h. spellable-Keyword at word;
  numeral = numeral_spelled;
  text = λ at bytes place text after h. spellable-Text at bytes;
  other = λ at token place text after h. spellable-Other at token;
  group = λ at inner all place text after h.
      let o = opened (spelled-Group at inner) place text after h in
      spellable-Group at inner ∙ each_spellable false inner (place + 1) o.1 all o.3;
}

pub trees_spellable : (bytes : List ℕ) (trees : List Tree) → Spells bytes trees → are_spellable trees ≡ true
trees_spellable bytes trees h = each_spellable true trees 0 bytes (trees_ind Spellable spellable_each trees) h.spelled
