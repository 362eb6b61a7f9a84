-- What stands first in a text: a token and how many bytes it takes, or a fault and its place.
use Rattle.std.specs.Prelude.{◌≡◌, ℕ, ◌+◌, ◌==◌, ◌^◌, nat_lt, pos, Bool, false, ◌&&◌, cond, List, [], ◌∷◌, take, drop, Option, Some, None, Result, Ok, Err, ⊤}
use Rattle.std.specs.List.{prefix_len}
use Rattle.std.specs.Char.{is_ascii_digit, is_ascii_hexdigit}
use Rattle.std.specs.Str.Parse.{digits_value}
use Rattle.chc_sexpr.specs.Tokens.{is_symbol_byte, is_reserved, is_commented}
use Rattle.chc_sexpr.specs.Spelling.{is_quotable, is_binary_digit, continues_binary, stops}
use Rattle.chc_sexpr.specs.declared.fault.Fault.{Fault}
use Rattle.chc_sexpr.specs.declared.fault.Fault.TheVariants.{BadByte, OpenString, OpenQuoted, LeadingZero, NumeralTooLarge}
use Rattle.chc_sexpr.specs.declared.fault.TextFault.{TextFault}
use Rattle.chc_sexpr.specs.declared.fault.TextErr.{TextErr}
use Rattle.chc_sexpr.specs.declared.fault.TextErr.TheVariants as text_err
use Rattle.chc_sexpr.specs.declared.kind.Kind.{Kind}
use Rattle.chc_sexpr.specs.declared.kind.Kind.TheVariants as kind
use Rattle.chc_sexpr.specs.declared.token.Token.{Token}
use Rattle.chc_sexpr.specs.declared.tree.Tree.{Tree}
use Rattle.chc_sexpr.specs.declared.tree.Tree.TheVariants as tree

-- the bytes of a kind
abbrev pub is_of : Kind → ℕ → Bool
is_of kind.Symbol = is_symbol_byte
is_of kind.Digit = is_ascii_digit
is_of kind.Hexadecimal = is_ascii_hexdigit
is_of kind.Binary = is_binary_digit
is_of kind.BinaryTail = continues_binary
is_of kind.Quotable = is_quotable
is_of kind.Commented = is_commented

-- a fault at a place, about no name
abbrev pub fault_at : ℕ → Fault → TextFault
fault_at place fault = record { place = place; fault = fault; name = [] }

-- the token of the first n bytes of a text
abbrev pub front : (List ℕ → Tree) → ℕ → List ℕ → Token
front make n bs = record { tree = make (take n bs); length = n }

-- a token that no byte of a kind may follow
abbrev pub ended : (ℕ → Bool) → ℕ → List ℕ → Token → Result Token TextFault
ended test place bs t = cond (stops test (drop t.length bs)) (Ok t) (Err (fault_at (place + t.length) BadByte))

-- a symbol, or a reserved word
abbrev pub word_at : ℕ → List ℕ → Tree
word_at place word = cond (is_reserved word) (tree.Word place word) (tree.Symbol place word)

-- the symbol or reserved word at the front
abbrev pub symbol_at : ℕ → List ℕ → Result Token TextFault
symbol_at place bs = Ok (front (word_at place) (prefix_len is_symbol_byte bs) bs)

-- a keyword, where n bytes of symbols follow its colon
abbrev pub keyword_of : ℕ → ℕ → List ℕ → Result Token TextFault
keyword_of n place bs = cond (n == 0) (Err (fault_at place BadByte)) (Ok (front (tree.Keyword place) (1 + n) bs))

-- the keyword at the front
abbrev pub keyword_at : ℕ → List ℕ → Result Token TextFault
keyword_at place bs = keyword_of (prefix_len is_symbol_byte (drop 1 bs)) place bs

-- a quoted symbol, where its n bytes are the name, and the rest follows them
abbrev pub quoted_of : ℕ → ℕ → List ℕ → List ℕ → Result Token TextFault
quoted_of n place name [] = Err (fault_at place OpenQuoted)
quoted_of n place name (b ∷ bs) =
    cond (b == 124) (Ok (record { tree = tree.Symbol place name; length = n + 2 })) (Err (fault_at (place + (1 + n)) BadByte))

-- a quoted symbol whose name would be the n bytes behind its bar
abbrev pub quoted_from : ℕ → ℕ → List ℕ → Result Token TextFault
quoted_from n place bs = quoted_of n place (take n bs) (drop n bs)

-- the quoted symbol at the front
abbrev pub quoted_at : ℕ → List ℕ → Result Token TextFault
quoted_at place bs = quoted_from (prefix_len is_quotable (drop 1 bs)) place (drop 1 bs)

-- how many bytes the next byte of a string takes: 2 for a doubled quote, and 0 where a quote ends the string
abbrev pub step_of : List ℕ → ℕ
step_of [] = 0
step_of (b ∷ []) = cond (b == 34) 0 1
step_of (b ∷ c ∷ bs) = cond (b == 34) (cond (c == 34) 2 0) 1

-- one more byte of a string, which takes w bytes
abbrev pub with_byte : ℕ → ℕ → Option (List ℕ × ℕ) → Option (List ℕ × ℕ)
with_byte b w None = None
with_byte b w (Some found) = Some (b ∷ found.0, w + found.1)

-- the bytes of a string behind its first quote, and how many bytes of the text they and the last quote take
abbrev pub string_from : List ℕ → Option (List ℕ × ℕ)
string_from [] = None
string_from (b ∷ []) = cond (b == 34) (Some ([], 1)) None
string_from (b ∷ c ∷ bs) =
    cond (b == 34) (cond (c == 34) (with_byte 34 2 (string_from bs)) (Some ([], 1))) (with_byte b 1 (string_from (c ∷ bs)))

-- the string whose bytes are found, or none
abbrev pub string_of_found : ℕ → Option (List ℕ × ℕ) → Result Token TextFault
string_of_found place None = Err (fault_at place OpenString)
string_of_found place (Some found) = Ok (record { tree = tree.Text place found.0; length = 1 + found.1 })

-- the string at the front
abbrev pub string_at : ℕ → List ℕ → Result Token TextFault
string_at place bs = string_of_found place (string_from (drop 1 bs))

-- a token that begins with a sharp, where n digits follow its letter
abbrev pub based_of : (ℕ → Bool) → ℕ → ℕ → List ℕ → Result Token TextFault
based_of tail n place bs = cond (n == 0) (Err (fault_at place BadByte)) (ended tail place bs (front (tree.Other place) (2 + n) bs))

-- a token of a sharp, a letter and digits of its base, and what may not follow it
abbrev pub based_at : (ℕ → Bool) → (ℕ → Bool) → ℕ → List ℕ → Result Token TextFault
based_at digit tail place bs = based_of tail (prefix_len digit (drop 2 bs)) place bs

-- a token that begins with a sharp
abbrev pub sharp_at : ℕ → List ℕ → Result Token TextFault
sharp_at place [] = Err (fault_at place BadByte)
sharp_at place (b ∷ []) = Err (fault_at place BadByte)
sharp_at place (b ∷ c ∷ bs) =
    cond (c == 120) (based_at is_ascii_hexdigit is_symbol_byte place (b ∷ c ∷ bs))
    (cond (c == 98) (based_at is_binary_digit continues_binary place (b ∷ c ∷ bs)) (Err (fault_at place BadByte)))

-- how many bytes a point and n digits take, or 0 where there are no digits
abbrev pub fraction_of : ℕ → ℕ
fraction_of n = cond (n == 0) 0 (1 + n)

-- how many bytes a point and the digits behind it take, or 0 where not both are there
abbrev pub fraction : List ℕ → ℕ
fraction [] = 0
fraction (b ∷ bs) = cond (b == 46) (fraction_of (prefix_len is_ascii_digit bs)) 0

-- a numeral of n digits
abbrev pub numeral_of : ℕ → ℕ → List ℕ → Result Token TextFault
numeral_of n place bs =
    cond (nat_lt (digits_value 10 (take n bs)) (2 ^ 127))
    (ended is_symbol_byte place bs (record { tree = tree.Numeral place (pos (digits_value 10 (take n bs))); length = n }))
    (Err (fault_at place NumeralTooLarge))

-- a numeral of n digits, or a decimal, in which a point and digits of m bytes follow
abbrev pub number_of : ℕ → ℕ → ℕ → List ℕ → Result Token TextFault
number_of m n place bs = cond (m == 0) (numeral_of n place bs) (ended is_symbol_byte place bs (front (tree.Other place) (n + m) bs))

-- whether n digits begin with a needless 0
abbrev pub has_needless_zero : ℕ → List ℕ → Bool
has_needless_zero n [] = false
has_needless_zero n (b ∷ bs) = nat_lt 1 n && b == 48

-- a number, of which n digits come first
abbrev pub number_from : ℕ → ℕ → List ℕ → Result Token TextFault
number_from n place bs = cond (has_needless_zero n bs) (Err (fault_at place LeadingZero)) (number_of (fraction (drop n bs)) n place bs)

-- the numeral or decimal at the front
abbrev pub number_at : ℕ → List ℕ → Result Token TextFault
number_at place bs = number_from (prefix_len is_ascii_digit bs) place bs

-- the token that begins with a byte
abbrev pub token_by : ℕ → ℕ → List ℕ → Result Token TextFault
token_by b place bs =
    cond (is_ascii_digit b) (number_at place bs)
    (cond (is_symbol_byte b) (symbol_at place bs)
    (cond (b == 124) (quoted_at place bs)
    (cond (b == 34) (string_at place bs)
    (cond (b == 58) (keyword_at place bs)
    (cond (b == 35) (sharp_at place bs) (Err (fault_at place BadByte)))))))

-- the token that stands first in a text from a place on
abbrev pub token_at : ℕ → List ℕ → Result Token TextFault
token_at place [] = Err (fault_at place BadByte)
token_at place (b ∷ bs) = token_by b place (b ∷ bs)

-- a function answers what stands there, unless it was refused memory
abbrev pub Gives : Result Token TextErr → Result Token TextFault → Type 0
Gives (Ok t) stands = stands ≡ Ok t
Gives (Err (text_err.At fault)) stands = stands ≡ Err fault
Gives (Err text_err.NoMemory) stands = ⊤
