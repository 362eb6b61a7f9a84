-- What a text spells: trees of tokens, with white space and comments between them; and what is wrong with one that spells none.
use Rattle.std.specs.Prelude.{◌≡◌, ◌⊎◌, ◌≤◌, ◌<◌, ◌^◌, ◌+◌, ◌==◌, ℕ, pos, Bool, true, false, not, ◌&&◌, ◌||◌, cond, IsTrue, List, [], ◌∷◌, ◌++◌, length, map, decimal, codes, Result, Ok, Err, ⊤}
use Rattle.std.specs.List.{list_all, list_any, concat}
use Rattle.std.specs.Char.{is_ascii_digit, is_ascii_hexdigit}
use Rattle.std.specs.Str.Parse.{digits_value}
use Rattle.chc_sexpr.specs.Tokens.{is_white, is_commented, is_symbol_byte, is_simple_symbol, is_reserved, is_whole_number}
use Rattle.chc_sexpr.specs.Trees.{depth, depth_all, most_open}
use Rattle.chc_sexpr.specs.declared.fault.Fault.{Fault}
use Rattle.chc_sexpr.specs.declared.fault.Fault.TheVariants.{BadByte, OpenString, OpenQuoted, OpenParen, StrayParen, LeadingZero, NumeralTooLarge, TooDeep}
use Rattle.chc_sexpr.specs.declared.fault.TextFault.{TextFault}
use Rattle.chc_sexpr.specs.declared.fault.TextErr.{TextErr}
use Rattle.chc_sexpr.specs.declared.fault.TextErr.TheVariants as text_err
use Rattle.chc_sexpr.specs.declared.tree.Tree.{Tree, rec-Tree}
use Rattle.chc_sexpr.specs.declared.tree.Tree.TheOpen.{Tree-F}

-- white space and comments, of which each runs from `;` to a line feed; inside a comment or not, and
-- whether the last comment may end with the text instead
abbrev pub is_blank_in : Bool → Bool → List ℕ → Bool
is_blank_in ends false [] = true
is_blank_in ends true [] = ends
is_blank_in ends false (b ∷ bs) = (is_white b && is_blank_in ends false bs) || (b == 59 && is_blank_in ends true bs)
is_blank_in ends true (b ∷ bs) = cond (b == 10) (is_blank_in ends false bs) (is_blank_in ends true bs)

-- what may stand before a token: white space and whole comments
abbrev pub is_gap : List ℕ → Bool
is_gap = is_blank_in false false

-- what may stand at the end of a text: there the last comment needs no line feed
abbrev pub is_end : List ℕ → Bool
is_end = is_blank_in true false

-- whether the text is empty, or begins with a byte that doesn't pass the test
abbrev pub stops : (ℕ → Bool) → List ℕ → Bool
stops test [] = true
stops test (b ∷ bs) = not (test b)

-- the bytes that may stand between the bars of a quoted symbol
abbrev pub is_quotable : ℕ → Bool
is_quotable b = not (b == 124 || b == 92)

-- a keyword: a colon, and at least one byte of symbols
abbrev pub is_keyword : List ℕ → Bool
is_keyword [] = false
is_keyword (b ∷ []) = false
is_keyword (b ∷ c ∷ cs) = b == 58 && list_all is_symbol_byte (c ∷ cs)

-- at least one byte, all of which pass the test
abbrev pub is_run : (ℕ → Bool) → List ℕ → Bool
is_run test [] = false
is_run test (b ∷ bs) = list_all test (b ∷ bs)

-- a decimal: a whole number, a point, and at least one digit
abbrev pub IsDecimal : List ℕ → Type 0
IsDecimal bs = (whole digits : List ℕ) × (bs ≡ whole ++ 46 ∷ digits) × IsTrue (is_whole_number whole) × IsTrue (is_run is_ascii_digit digits)

-- `#x` and hexadecimal digits
abbrev pub IsHexadecimal : List ℕ → Type 0
IsHexadecimal bs = (digits : List ℕ) × (bs ≡ codes "#x" ++ digits) × IsTrue (is_run is_ascii_hexdigit digits)

-- a binary digit
abbrev pub is_binary_digit : ℕ → Bool
is_binary_digit b = b == 48 || b == 49

-- `#b` and binary digits
abbrev pub IsBinary : List ℕ → Type 0
IsBinary bs = (digits : List ℕ) × (bs ≡ codes "#b" ++ digits) × IsTrue (is_run is_binary_digit digits)

-- what may not follow a binary token: a binary digit, a letter, or a sign of symbols
abbrev pub continues_binary : ℕ → Bool
continues_binary b = is_symbol_byte b && (is_binary_digit b || not (is_ascii_digit b))

-- a byte in a string, where a quote stands twice
abbrev pub in_string : ℕ → List ℕ
in_string b = cond (b == 34) (b ∷ b ∷ []) (b ∷ [])

-- the string of the bytes
abbrev pub string_of : List ℕ → List ℕ
string_of bytes = 34 ∷ concat (map in_string bytes) ++ 34 ∷ []

module _ {X : Type 0} (spelled : X → ℕ → List ℕ → List ℕ → Type 0) where
  -- from the place on, the text has these trees side by side, each behind a gap, and blanks after the last
  abbrev pub EachSpelled : Bool → List X → ℕ → List ℕ → Type 0
  EachSpelled ends [] place bs = IsTrue (is_blank_in ends false bs)
  EachSpelled ends (x ∷ xs) place bs =
      (gap text after : List ℕ) × (bs ≡ gap ++ text ++ after) × IsTrue (is_gap gap)
      × spelled x (place + length gap) text after × EachSpelled ends xs (place + length gap + length text) after

  -- the text from the place on is a tree of this level, where `after` follows in the same group
  abbrev pub LevelSpelled : Tree-F X → ℕ → List ℕ → List ℕ → Type 0
  LevelSpelled (Tree-F.Symbol at name) place text after =
      (at ≡ place)
      × (((text ≡ name) × IsTrue (is_simple_symbol name) × IsTrue (not (is_reserved name)) × IsTrue (stops is_symbol_byte after))
      ⊎ ((text ≡ 124 ∷ name ++ 124 ∷ []) × IsTrue (list_all is_quotable name)))
  LevelSpelled (Tree-F.Word at word) place text after = (at ≡ place) × (text ≡ word) × IsTrue (is_reserved word) × IsTrue (stops is_symbol_byte after)
  LevelSpelled (Tree-F.Keyword at word) place text after = (at ≡ place) × (text ≡ word) × IsTrue (is_keyword word) × IsTrue (stops is_symbol_byte after)
  LevelSpelled (Tree-F.Numeral at number) place text after =
      (at ≡ place) × (n : ℕ) × (number ≡ pos n) × (n < 2 ^ 127) × (text ≡ decimal n) × IsTrue (stops is_symbol_byte after)
  LevelSpelled (Tree-F.Text at bytes) place text after = (at ≡ place) × (text ≡ string_of bytes) × IsTrue (stops (λ b. b == 34) after)
  LevelSpelled (Tree-F.Other at token) place text after =
      (at ≡ place) × (text ≡ token)
      × (((IsDecimal token ⊎ IsHexadecimal token) × IsTrue (stops is_symbol_byte after)) ⊎ (IsBinary token × IsTrue (stops continues_binary after)))
  LevelSpelled (Tree-F.Group at xs) place text after =
      (at ≡ place) × (inner : List ℕ) × (text ≡ 40 ∷ inner ++ 41 ∷ []) × EachSpelled false xs (place + 1) inner

-- the text, which begins at the place and is followed by `after`, is the tree
abbrev pub TreeSpelled : Tree → ℕ → List ℕ → List ℕ → Type 0
TreeSpelled = rec-Tree (ℕ → List ℕ → List ℕ → Type 0) (λ X whole spelled level. LevelSpelled spelled level)

-- the bytes spell the trees, in which at most 1,000 groups stand within one another
pub record Spells (bytes : List ℕ) (trees : List Tree) : Type 0 where
  pub spelled : EachSpelled TreeSpelled true trees 0 bytes
  pub shallow : depth_all trees ≤ most_open

-- a text that begins with a byte that passes the test
abbrev pub starts : (ℕ → Bool) → List ℕ → Bool
starts test bs = not (stops test bs)

-- a byte with which no token begins, and neither white space, a comment nor a group
abbrev pub begins_nothing : ℕ → Bool
begins_nothing b = not (is_symbol_byte b) && not (is_white b) && not (list_any (λ c. b == c) (124 ∷ 34 ∷ 58 ∷ 35 ∷ 59 ∷ 40 ∷ 41 ∷ []))

-- the letter of a base, and one of its digits
abbrev pub begins_based : List ℕ → Bool
begins_based [] = false
begins_based (b ∷ []) = false
begins_based (b ∷ c ∷ bs) = (b == 120 && is_ascii_hexdigit c) || (b == 98 && is_binary_digit c)

-- a point and a digit
abbrev pub begins_fraction : List ℕ → Bool
begins_fraction [] = false
begins_fraction (b ∷ []) = false
begins_fraction (b ∷ c ∷ bs) = b == 46 && is_ascii_digit c

-- digits without a needless 0, behind which neither a digit nor a fraction stands
pub record IsNumber (digits after : List ℕ) : Type 0 where
  pub whole : IsTrue (is_whole_number digits)
  pub longest : IsTrue (stops is_ascii_digit after)
  pub alone : begins_fraction after ≡ false

-- a numeral, a decimal or a token with a sharp, behind which a byte stands that may not follow it
pub data RunsOn (text after : List ℕ) : Type 0 where
  after_numeral : IsNumber text after → digits_value 10 text < 2 ^ 127 → IsTrue (starts is_symbol_byte after) → RunsOn text after
  after_decimal : IsDecimal text → IsTrue (stops is_ascii_digit after) → IsTrue (starts is_symbol_byte after) → RunsOn text after
  after_hexadecimal : IsHexadecimal text → IsTrue (stops is_ascii_hexdigit after) → IsTrue (starts is_symbol_byte after) → RunsOn text after
  after_binary : IsBinary text → IsTrue (stops is_binary_digit after) → IsTrue (starts continues_binary after) → RunsOn text after

-- what is wrong where a token would begin: the fault, and the place at which it stands
pub data IsTokenFault (place : ℕ) : List ℕ → Fault → ℕ → Type 0 where
  nothing : (b : ℕ) (rest : List ℕ) → IsTrue (begins_nothing b) → IsTokenFault place (b ∷ rest) BadByte place
  lone_colon : (rest : List ℕ) → IsTrue (stops is_symbol_byte rest) → IsTokenFault place (58 ∷ rest) BadByte place
  lone_sharp : (rest : List ℕ) → begins_based rest ≡ false → IsTokenFault place (35 ∷ rest) BadByte place
  runs_on : (text after : List ℕ) → RunsOn text after → IsTokenFault place (text ++ after) BadByte (place + length text)
  backslash : (name after : List ℕ) → IsTrue (list_all is_quotable name) → IsTokenFault place (124 ∷ name ++ 92 ∷ after) BadByte (place + (1 + length name))
  open_quoted : (name : List ℕ) → IsTrue (list_all is_quotable name) → IsTokenFault place (124 ∷ name) OpenQuoted place
  open_string : (bytes : List ℕ) → IsTokenFault place (34 ∷ concat (map in_string bytes)) OpenString place
  needless_zero : (b : ℕ) (rest : List ℕ) → IsTrue (is_ascii_digit b) → IsTokenFault place (48 ∷ b ∷ rest) LeadingZero place
  too_large : (digits after : List ℕ) → IsNumber digits after → 2 ^ 127 ≤ digits_value 10 digits → IsTokenFault place (digits ++ after) NumeralTooLarge place

-- the first fault in reading order of a text from a place on, in front of which the groups at these places are
-- open, innermost first: white space, comments, tokens and parentheses that are fine, and then the fault and its place
pub data FirstFault : List ℕ → ℕ → List ℕ → Fault → ℕ → Type 0 where
  white : (opened : List ℕ) (place b : ℕ) (rest : List ℕ) (fault : Fault) (at : ℕ) → IsTrue (is_white b)
      → FirstFault opened (place + 1) rest fault at → FirstFault opened place (b ∷ rest) fault at
  comment : (opened : List ℕ) (place : ℕ) (text rest : List ℕ) (fault : Fault) (at : ℕ) → IsTrue (list_all is_commented text) → IsTrue (stops is_commented rest)
      → FirstFault opened (place + (1 + length text)) rest fault at → FirstFault opened place (59 ∷ text ++ rest) fault at
  token : (opened : List ℕ) (place : ℕ) (tree : Tree) (text rest : List ℕ) (fault : Fault) (at : ℕ) → depth tree ≡ 0 → TreeSpelled tree place text rest
      → FirstFault opened (place + length text) rest fault at → FirstFault opened place (text ++ rest) fault at
  opening : (opened : List ℕ) (place : ℕ) (rest : List ℕ) (fault : Fault) (at : ℕ) → length opened < most_open
      → FirstFault (place ∷ opened) (place + 1) rest fault at → FirstFault opened place (40 ∷ rest) fault at
  closing : (group : ℕ) (opened : List ℕ) (place : ℕ) (rest : List ℕ) (fault : Fault) (at : ℕ)
      → FirstFault opened (place + 1) rest fault at → FirstFault (group ∷ opened) place (41 ∷ rest) fault at
  bad_token : (opened : List ℕ) (place : ℕ) (rest : List ℕ) (fault : Fault) (at : ℕ) → IsTokenFault place rest fault at → FirstFault opened place rest fault at
  too_deep : (opened : List ℕ) (place : ℕ) (rest : List ℕ) → most_open ≤ length opened → FirstFault opened place (40 ∷ rest) TooDeep place
  stray : (place : ℕ) (rest : List ℕ) → FirstFault [] place (41 ∷ rest) StrayParen place
  unclosed : (group : ℕ) (opened : List ℕ) (place : ℕ) → FirstFault (group ∷ opened) place [] OpenParen group

-- the first fault of a text; it is about no name
pub record IsFirstFault (bytes : List ℕ) (fault : TextFault) : Type 0 where
  pub first : FirstFault [] 0 bytes fault.fault fault.place
  pub nameless : fault.name ≡ []

-- no text has two first faults
abbrev pub HasOneFault : Type 0
HasOneFault = (bytes : List ℕ) (one other : TextFault) → IsFirstFault bytes one → IsFirstFault bytes other → one ≡ other

-- bytes that spell no trees
abbrev pub SpellsNone : List ℕ → Type 0
SpellsNone bytes = (trees : List Tree) → Spells bytes trees → ⊥

-- what a reading of bytes answers: the trees that they spell, which are the only ones, or their first fault
-- where they spell none; it may always be refused memory
abbrev pub IsTreeReading : List ℕ → Result (List Tree) TextErr → Type 0
IsTreeReading bytes (Ok trees) = Spells bytes trees × ((others : List Tree) → Spells bytes others → trees ≡ others)
IsTreeReading bytes (Err (text_err.At fault)) = SpellsNone bytes × IsFirstFault bytes fault
IsTreeReading bytes (Err text_err.NoMemory) = ⊤
