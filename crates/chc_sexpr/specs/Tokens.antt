-- The bytes and words of which tokens are made.
use Rattle.std.specs.Prelude.{ℕ, ◌==◌, Bool, false, not, ◌&&◌, ◌||◌, List, [], ◌∷◌, codes}
use Rattle.std.specs.List.{list_all, list_any}
use Rattle.std.specs.Char.{is_ascii_digit, is_ascii_alphanumeric}
use Rattle.std.specs.Str.{bytes_eq}

-- tab, line feed, carriage return and space
abbrev pub is_white : ℕ → Bool
is_white b = b == 32 || b == 10 || b == 13 || b == 9

-- the bytes of symbols besides letters and digits
abbrev pub is_symbol_sign : ℕ → Bool
is_symbol_sign b = list_any (λ sign. b == sign) (codes "~!@$%^&*_-+=<>.?/")

-- a letter, a digit or one of the other bytes of symbols
abbrev pub is_symbol_byte : ℕ → Bool
is_symbol_byte b = is_ascii_alphanumeric b || is_symbol_sign b

-- a simple symbol: bytes of symbols, at least one, of which the first is no digit
abbrev pub is_simple_symbol : List ℕ → Bool
is_simple_symbol [] = false
is_simple_symbol (b ∷ bs) = not (is_ascii_digit b) && list_all is_symbol_byte (b ∷ bs)

-- the simple symbols that are words of the language
abbrev pub reserved_words : List (List ℕ)
reserved_words =
    codes "!" ∷ codes "_" ∷ codes "as" ∷ codes "let" ∷ codes "par" ∷ codes "match" ∷ codes "exists" ∷ codes "forall" ∷ codes "BINARY" ∷ codes "STRING" ∷ codes "DECIMAL" ∷ codes "NUMERAL" ∷ codes "HEXADECIMAL" ∷ []

-- one of those words
abbrev pub is_reserved : List ℕ → Bool
is_reserved bs = list_any (bytes_eq bs) reserved_words

-- a byte that goes on with a comment: any but a line feed
abbrev pub is_commented : ℕ → Bool
is_commented b = not (b == 10)

-- digits, of which the first is no needless 0
abbrev pub is_whole_number : List ℕ → Bool
is_whole_number [] = false
is_whole_number (b ∷ []) = is_ascii_digit b
is_whole_number (b ∷ c ∷ cs) = not (b == 48) && list_all is_ascii_digit (b ∷ c ∷ cs)
