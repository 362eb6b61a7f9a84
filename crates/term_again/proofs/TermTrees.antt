-- Trees that are written one by one between parentheses, and names, words and numerals that are written as trees.
use Rattle.std.proofs.Common.{◌≡◌, ◌∙◌, refl, subst, ℕ, zero, suc, ◌+◌, ◌≤◌, ◌<◌, ◌^◌, pos, Bool, true, false, not, ◌||◌, List, [], ◌∷◌, ◌++◌, length, replicate, arith}
use Rattle.std.specs.Prelude.{IsTrue, decimal}
use Rattle.std.specs.List.{list_all}
use Rattle.std.specs.Char.{digit_value, is_ascii_alphanumeric}
use Rattle.std.specs.Int.{is_in_range}
use Rattle.std.specs.Str.Parse.{AllDigits}
use Rattle.std.proofs.lemmas.Bool.{and_from, or_left, le-leb}
use Rattle.std.proofs.lemmas.List.{append-nil}
use Rattle.std.proofs.lemmas.List.Folds.{list_all-append}
use Rattle.std.proofs.lemmas.Fmt.{decimal_is_IsNumeral_wide}
use Rattle.std.proofs.lemmas.Str.Parse.{digit_from_value}
use Rattle.chc_sexpr.specs.Tokens.{is_symbol_byte, is_symbol_sign, is_simple_symbol, is_reserved}
use Rattle.chc_sexpr.specs.Spelling.{is_gap, is_quotable}
use Rattle.chc_sexpr.specs.Symbols.{symbol_text}
use Rattle.chc_sexpr.specs.Writing.{spaced}
use Rattle.chc_sexpr.specs.declared.tree.Tree.{Tree}
use Rattle.chc_sexpr.specs.declared.tree.Tree.TheVariants.{Symbol, Word, Numeral, Group}
use Rattle.chc_sexpr.proofs.Written.{TreeAt, TreesAt, Writes, is_parted, tree_of_kind, no_more_at, next_at, group_at, symbol_at, word_at, numeral_at, name_writes as written_name}
use Rattle.chc_print.specs.Prefix.{marked}

-- no trees
abbrev pub IsNone : List Tree → Type 0
IsNone [] = Unit {0}
IsNone (t ∷ ts) = ⊥

-- a tree of the one kind, and behind it trees of the other
abbrev pub Begins : (Tree → Type 0) → (List Tree → Type 0) → List Tree → Type 0
Begins first rest [] = ⊥
Begins first rest (t ∷ ts) = first t × rest ts

pub writes_wider : (kind wider : Tree → Type 0) (deep deeper : ℕ) → deep ≤ deeper → ((t : Tree) → kind t → wider t) → (text : List ℕ) → Writes kind deep text → Writes wider deeper text
writes_wider kind wider deep deeper le widens text writes place after parted = tree_of_kind kind wider deep deeper le widens place text after (writes place after parted)

pub text_writes : (kind : Tree → Type 0) (deep : ℕ) (text same : List ℕ) → text ≡ same → Writes kind deep text → Writes kind deep same
text_writes kind deep text same e writes = subst (Writes kind deep) e writes

module _ (deep : ℕ) (ends : Bool) where
  -- one tree and more behind it
  pub begin_at : (first : Tree → Type 0) (rest : List Tree → Type 0) (place : ℕ) (gap text after : List ℕ) → IsTrue (is_gap gap)
      → TreeAt first deep (place + length gap) text after → TreesAt rest deep ends (place + length gap + length text) after
      → TreesAt (Begins first rest) deep ends place (gap ++ text ++ after)
  begin_at first rest place gap text after blank t ts = next_at first rest (Begins first rest) deep ends place gap text after blank t ts (λ t ts one more. (one, more))

  -- the last tree
  pub last_at : (last : Tree → Type 0) (place : ℕ) (gap text : List ℕ) → IsTrue (is_gap gap) → Writes last deep text → TreesAt (Begins last IsNone) deep ends place (gap ++ text)
  last_at last place gap text blank writes =
      subst (TreesAt (Begins last IsNone) deep ends place) (append-nil (gap ++ text))
      (begin_at last IsNone place gap text [] blank (writes (place + length gap) [] refl)
      (no_more_at IsNone deep ends (place + length gap + length text) [] refl tt))

-- trees between parentheses
pub group_writes : (inside : List Tree → Type 0) (kind : Tree → Type 0) (deep : ℕ) (inner : List ℕ) → ((place : ℕ) → TreesAt inside deep false place inner)
    → ((place : ℕ) (ts : List Tree) → inside ts → kind (Group place ts)) → Writes kind (deep + 1) (40 ∷ inner ++ 41 ∷ [])
group_writes inside kind deep inner trees is place after parted = group_at inside kind deep place inner after (trees (place + 1)) (is place)

-- the tree is the symbol of that name, somewhere
abbrev pub IsSymbolOf : List ℕ → Tree → Type 0
IsSymbolOf name tree = (place : ℕ) × (tree ≡ Symbol place name)

-- the tree is that word, somewhere
abbrev pub IsWordOf : List ℕ → Tree → Type 0
IsWordOf word tree = (place : ℕ) × (tree ≡ Word place word)

-- the tree is the numeral of that number, somewhere
abbrev pub IsNumeralOf : ℕ → Tree → Type 0
IsNumeralOf n tree = (place : ℕ) × (tree ≡ Numeral place (pos n))

-- a simple symbol that is no reserved word is written as it is
pub bare_writes : (deep : ℕ) (name : List ℕ) → IsTrue (is_simple_symbol name) → IsTrue (not (is_reserved name)) → Writes (IsSymbolOf name) deep name
bare_writes deep name simple free place after parted = symbol_at (IsSymbolOf name) deep place name after parted simple free (place, refl)

-- and so is a reserved word
pub word_writes : (deep : ℕ) (word : List ℕ) → IsTrue (is_reserved word) → Writes (IsWordOf word) deep word
word_writes deep word reserved place after parted = word_at (IsWordOf word) deep place word after parted reserved (place, refl)

-- a number is written as its numeral
pub numeral_writes : (deep n : ℕ) → n < 2 ^ 127 → Writes (IsNumeralOf n) deep (decimal n)
numeral_writes deep n small place after parted = numeral_at (IsNumeralOf n) deep place n after parted small (place, refl)

-- a name is written as its symbol
pub name_writes : (deep : ℕ) (name : List ℕ) → IsTrue (list_all is_quotable name) → Writes (IsSymbolOf name) deep (symbol_text name)
name_writes deep name quotable = written_name (IsSymbolOf name) deep name quotable (λ place. (place, refl))

-- texts with a space before each part from what stands before them
pub spaced_parted : (texts : List (List ℕ)) → IsTrue (is_parted (spaced texts))
spaced_parted [] = refl
spaced_parted (t ∷ ts) = refl

symbol_digit : (c : ℕ) → digit_value c < 10 → is_symbol_byte c ≡ true
symbol_digit c h =
    let range = digit_from_value c h in
    let digit : is_in_range 48 57 c ≡ true = and_from _ _ (le-leb 48 c range.0) (le-leb c 57 range.1) in
    or_left (is_ascii_alphanumeric c) (is_symbol_sign c) (or_left (is_in_range 48 57 c || is_in_range 65 90 c) (is_in_range 97 122 c) (or_left (is_in_range 48 57 c) (is_in_range 65 90 c) digit))

symbol_digits : (ds : List ℕ) → AllDigits 10 ds → list_all is_symbol_byte ds ≡ true
symbol_digits [] h = refl
symbol_digits (d ∷ ds) h = and_from (is_symbol_byte d) (list_all is_symbol_byte ds) (symbol_digit d h.0) (symbol_digits ds h.1)

symbol_marks : (marks : ℕ) → list_all is_symbol_byte (replicate marks 33) ≡ true
symbol_marks zero = refl
symbol_marks (suc marks) = symbol_marks marks

variable_simple : (marks i : ℕ) → i < 2 ^ 64 → is_simple_symbol (marked marks ++ decimal i) ≡ true
variable_simple marks i small =
    list_all-append is_symbol_byte (replicate marks 33) (decimal i)
    ∙ and_from (list_all is_symbol_byte (replicate marks 33)) (list_all is_symbol_byte (decimal i)) (symbol_marks marks) (symbol_digits (decimal i) (decimal_is_IsNumeral_wide i (omega arith)).0.1)

variable_free : (marks i : ℕ) → not (is_reserved (marked marks ++ decimal i)) ≡ true
variable_free marks i = refl

-- a variable is written as its name
pub variable_writes : (deep marks i : ℕ) → i < 2 ^ 64 → Writes (IsSymbolOf (marked marks ++ decimal i)) deep (marked marks ++ decimal i)
variable_writes deep marks i small = bare_writes deep (marked marks ++ decimal i) (variable_simple marks i small) (variable_free marks i)
