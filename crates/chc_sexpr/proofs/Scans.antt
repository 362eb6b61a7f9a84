-- What is spelled is read: the token of a tree's text stands first in it, whatever may follow.
use Rattle.std.proofs.Common.{◌≡◌, ◌⊎◌, ℕ, ◌+◌, ◌^◌, ◌<◌, ℤ, pos, Bool, true, false, not, cond, eqb, ltb, List, [], ◌∷◌, ◌++◌, length, map, take, drop, Some, Ok, Err, ap, sym, refl, subst, ◌∙◌, ⊎_elim, inl, inr, arith, append_assoc, length-append}
use Rattle.std.specs.List.{list_all, list_any, prefix_len, concat}
use Rattle.std.specs.Char.{is_ascii_digit, is_ascii_hexdigit, is_ascii_alphanumeric}
use Rattle.std.specs.Fmt.{decimal}
use Rattle.std.specs.Str.{bytes_eq}
use Rattle.std.specs.Str.Parse.{digits_value}
use Rattle.std.proofs.lemmas.Bool.{and_parts, and_right, or_cases, or_left, not-true, cond-true, cond-false, false≢true, eqb-true, ne_eqb, lt-ltb}
use Rattle.std.proofs.lemmas.List.{take_at, drop_at}
use Rattle.std.proofs.lemmas.Slice.Eq.{bytes_eq-Decides}
use Rattle.chc_sexpr.specs.Tokens.{is_symbol_sign, is_symbol_byte, is_simple_symbol, reserved_words, is_reserved, is_whole_number}
use Rattle.chc_sexpr.specs.Spelling.{stops, is_quotable, is_keyword, is_run, IsDecimal, IsHexadecimal, IsBinary, is_binary_digit, continues_binary, in_string, string_of, EachSpelled, LevelSpelled, TreeSpelled}
use Rattle.chc_sexpr.specs.Scanning.{fault_at, front, ended, word_at, quoted_of, quoted_from, with_byte, string_from, string_of_found, based_at, fraction_of, fraction, number_of, has_needless_zero, number_from, number_at, token_at}
use Rattle.chc_sexpr.specs.declared.fault.Fault.TheVariants.{NumeralTooLarge}
use Rattle.chc_sexpr.specs.declared.token.Token.{Token}
use Rattle.chc_sexpr.specs.declared.tree.Tree.{Tree}
use Rattle.chc_sexpr.specs.declared.tree.Tree.TheOpen.{Tree-F}
use Rattle.chc_sexpr.specs.declared.tree.Tree.TheVariants.{Symbol, Word, Keyword, Numeral, Text, Other, Group}
use Rattle.chc_sexpr.proofs.Decimals.{whole_decimal, value_decimal, whole_digits}
use Rattle.chc_sexpr.proofs.Folds.{tree_ind}
use Rattle.chc_sexpr.proofs.Runs.{run_is, stops_fewer}
use Rattle.chc_sexpr.proofs.Spelled.{spelled-Symbol, spelled-Word, spelled-Keyword, spelled-Numeral, spelled-Text, spelled-Other, spelled-Group, opened}

-- the token of all bytes of a text
abbrev pub token_of : (List ℕ → Tree) → List ℕ → Token
token_of make text = record { tree = make text; length = length text }

front_is : (make : List ℕ → Tree) (text after : List ℕ) (n : ℕ) → n ≡ length text → front make n (text ++ after) ≡ token_of make text
front_is make text after n e = λ i. record { tree = make (take_at text after n (sym e) i); length = e i }

ended_is : (test : ℕ → Bool) (place : ℕ) (text after : List ℕ) (tree : Tree) → stops test after ≡ true →
    ended test place (text ++ after) (record { tree = tree; length = length text }) ≡ Ok (record { tree = tree; length = length text })
ended_is test place text after tree h = cond-true (stops test (drop (length text) (text ++ after))) _ _ (ap (stops test) (drop_at text after (length text) refl) ∙ h)

-- simple symbols and reserved words
simple_word : (words : List (List ℕ)) → list_all is_simple_symbol words ≡ true → (bytes : List ℕ) → list_any (bytes_eq bytes) words ≡ true → is_simple_symbol bytes ≡ true
simple_word [] all bytes one = absurd (false≢true one)
simple_word (word ∷ words) all bytes one =
    let both = and_parts (is_simple_symbol word) (list_all is_simple_symbol words) all in
    ⊎_elim (λ e. ap is_simple_symbol ((bytes_eq-Decides bytes word).0 e) ∙ both.0) (simple_word words both.1 bytes) (or_cases (bytes_eq bytes word) (list_any (bytes_eq bytes) words) one)

reserved_is_simple : (bytes : List ℕ) → is_reserved bytes ≡ true → is_simple_symbol bytes ≡ true
reserved_is_simple = simple_word reserved_words refl

word_reads : (place : ℕ) (name after : List ℕ) → is_simple_symbol name ≡ true → stops is_symbol_byte after ≡ true → token_at place (name ++ after) ≡ Ok (token_of (word_at place) name)
word_reads place [] after simple end = absurd (false≢true simple)
word_reads place (b ∷ bs) after simple end =
    let parts = and_parts (not (is_ascii_digit b)) (list_all is_symbol_byte (b ∷ bs)) simple in
    let all = parts.1 in
    cond-false (is_ascii_digit b) _ _ (not-true (is_ascii_digit b) parts.0)
    ∙ cond-true (is_symbol_byte b) _ _ (and_parts (is_symbol_byte b) (list_all is_symbol_byte bs) all).0
    ∙ ap Ok (front_is (word_at place) (b ∷ bs) after (prefix_len is_symbol_byte ((b ∷ bs) ++ after)) (run_is is_symbol_byte (b ∷ bs) after all end))

quoted_reads : (place : ℕ) (name after : List ℕ) → list_all is_quotable name ≡ true → token_at place ((124 ∷ name ++ 124 ∷ []) ++ after) ≡ Ok (record { tree = Symbol place name; length = length (124 ∷ name ++ 124 ∷ []) })
quoted_reads place name after all =
    let n = length name in
    let behind : (name ++ 124 ∷ []) ++ after ≡ name ++ (124 ∷ after) = append_assoc name (124 ∷ []) after in
    let run = run_is is_quotable name (124 ∷ after) all refl in
    let size : n + 2 ≡ length (124 ∷ name ++ 124 ∷ []) = omega (arith, length-append name (124 ∷ [])) in
    ap (λ bs. quoted_from (prefix_len is_quotable bs) place bs) behind
    ∙ ap (λ m. quoted_from m place (name ++ (124 ∷ after))) run
    ∙ (λ i. quoted_of n place (take_at name (124 ∷ after) n refl i) (drop_at name (124 ∷ after) n refl i))
    ∙ ap (λ m. Ok (record { tree = Symbol place name; length = m })) size

keyword_reads : (place c : ℕ) (cs after : List ℕ) → list_all is_symbol_byte (c ∷ cs) ≡ true → stops is_symbol_byte after ≡ true → token_at place ((58 ∷ c ∷ cs) ++ after) ≡ Ok (token_of (Keyword place) (58 ∷ c ∷ cs))
keyword_reads place c cs after all end =
    let n : ℕ = prefix_len is_symbol_byte ((c ∷ cs) ++ after) in
    let run : n ≡ length (c ∷ cs) = run_is is_symbol_byte (c ∷ cs) after all end in
    let size : 1 + n ≡ length (58 ∷ c ∷ cs) = omega arith in
    cond-false (eqb n 0) _ _ (ne_eqb n 0 (λ z. omega arith))
    ∙ ap Ok (front_is (Keyword place) (58 ∷ c ∷ cs) after (1 + n) size)

-- numbers
needless_not : (ds after : List ℕ) → is_whole_number ds ≡ true → has_needless_zero (length ds) (ds ++ after) ≡ false
needless_not [] after whole = absurd (false≢true whole)
needless_not (d ∷ []) after whole = refl
needless_not (d ∷ e ∷ ds) after whole =
    and_right (ltb 1 (length (d ∷ e ∷ ds))) (eqb d 48) (not-true (eqb d 48) (and_parts (not (eqb d 48)) (list_all is_ascii_digit (d ∷ e ∷ ds)) whole).0)

number_first : (place : ℕ) (ds after : List ℕ) → is_whole_number ds ≡ true → list_all is_ascii_digit ds ≡ true → token_at place (ds ++ after) ≡ number_at place (ds ++ after)
number_first place [] after whole all = absurd (false≢true whole)
number_first place (d ∷ ds) after whole all = cond-true (is_ascii_digit d) _ _ (and_parts (is_ascii_digit d) (list_all is_ascii_digit ds) all).0

pub number_reads : (place : ℕ) (ds after : List ℕ) → is_whole_number ds ≡ true → stops is_ascii_digit after ≡ true → token_at place (ds ++ after) ≡ number_of (fraction after) (length ds) place (ds ++ after)
number_reads place ds after whole end =
    let bs = ds ++ after in
    let all = whole_digits ds whole in
    number_first place ds after whole all
    ∙ ap (λ n. number_from n place bs) (run_is is_ascii_digit ds after all end)
    ∙ cond-false (has_needless_zero (length ds) bs) _ _ (needless_not ds after whole)
    ∙ ap (λ rest. number_of (fraction rest) (length ds) place bs) (drop_at ds after (length ds) refl)

pub digit_is_symbol_byte : (b : ℕ) → is_ascii_digit b ≡ true → is_symbol_byte b ≡ true
digit_is_symbol_byte b h = grind arith

no_point : (b : ℕ) → is_symbol_byte b ≡ false → eqb b 46 ≡ false
no_point b h = ne_eqb b 46 (λ e. false≢true (sym h ∙ ap is_symbol_byte e))

no_fraction : (after : List ℕ) → stops is_symbol_byte after ≡ true → fraction after ≡ 0
no_fraction [] end = refl
no_fraction (b ∷ bs) end = cond-false (eqb b 46) _ _ (no_point b (not-true (is_symbol_byte b) end))

-- a whole number in range is read, up to what follows it
pub numeral_ends : (place n : ℕ) (ds after : List ℕ) → is_whole_number ds ≡ true → digits_value 10 ds ≡ n → n < 2 ^ 127 → stops is_ascii_digit after ≡ true → fraction after ≡ 0 →
    token_at place (ds ++ after) ≡ ended is_symbol_byte place (ds ++ after) (record { tree = Numeral place (pos n); length = length ds })
numeral_ends place n ds after whole value_is small end alone =
    let bs = ds ++ after in
    let value : digits_value 10 (take (length ds) bs) ≡ n = ap (digits_value 10) (take_at ds after (length ds) refl) ∙ value_is in
    number_reads place ds after whole end
    ∙ ap (λ m. number_of m (length ds) place bs) alone
    ∙ ap (λ v. cond (ltb v (2 ^ 127)) (ended is_symbol_byte place bs (record { tree = Numeral place (pos v); length = length ds })) (Err (fault_at place NumeralTooLarge))) value
    ∙ cond-true (ltb n (2 ^ 127)) _ _ (lt-ltb n (2 ^ 127) small)

numeral_reads : (place n : ℕ) (after : List ℕ) → n < 2 ^ 127 → stops is_symbol_byte after ≡ true → token_at place (decimal n ++ after) ≡ Ok (record { tree = Numeral place (pos n); length = length (decimal n) })
numeral_reads place n after small end =
    numeral_ends place n (decimal n) after (whole_decimal n small) (value_decimal n small) small (stops_fewer is_symbol_byte is_ascii_digit digit_is_symbol_byte after end) (no_fraction after end)
    ∙ ended_is is_symbol_byte place (decimal n) after (Numeral place (pos n)) end

run_some : (test : ℕ → Bool) (bs : List ℕ) → is_run test bs ≡ true → (list_all test bs ≡ true) × (0 < length bs)
run_some test [] h = absurd (false≢true h)
run_some test (b ∷ bs) h = (h, omega arith)

-- a decimal is read, up to what follows it
pub decimal_ends : (place : ℕ) (whole digits after : List ℕ) → is_whole_number whole ≡ true → is_run is_ascii_digit digits ≡ true → stops is_ascii_digit after ≡ true →
    token_at place ((whole ++ 46 ∷ digits) ++ after) ≡ ended is_symbol_byte place ((whole ++ 46 ∷ digits) ++ after) (token_of (Other place) (whole ++ 46 ∷ digits))
decimal_ends place whole digits after w d end =
    let text = whole ++ 46 ∷ digits in
    let some = run_some is_ascii_digit digits d in
    let m : ℕ = prefix_len is_ascii_digit (digits ++ after) in
    let run : m ≡ length digits = run_is is_ascii_digit digits after some.0 end in
    let parts : text ++ after ≡ whole ++ (46 ∷ digits ++ after) = append_assoc whole (46 ∷ digits) after in
    let f : fraction_of m ≡ 1 + m = cond-false (eqb m 0) _ _ (ne_eqb m 0 (λ z. omega arith)) in
    let size : length whole + (1 + m) ≡ length text = omega (arith, length-append whole (46 ∷ digits)) in
    ap (token_at place) parts
    ∙ number_reads place whole (46 ∷ digits ++ after) w refl
    ∙ ap (λ bs. number_of (fraction_of m) (length whole) place bs) (sym parts)
    ∙ ap (λ k. number_of k (length whole) place (text ++ after)) f
    ∙ cond-false (eqb (1 + m) 0) _ _ (ne_eqb (1 + m) 0 (λ z. omega arith))
    ∙ ap (ended is_symbol_byte place (text ++ after)) (front_is (Other place) text after (length whole + (1 + m)) size)

decimal_reads : (place : ℕ) (whole digits after : List ℕ) → is_whole_number whole ≡ true → is_run is_ascii_digit digits ≡ true → stops is_symbol_byte after ≡ true →
    token_at place ((whole ++ 46 ∷ digits) ++ after) ≡ Ok (token_of (Other place) (whole ++ 46 ∷ digits))
decimal_reads place whole digits after w d end =
    decimal_ends place whole digits after w d (stops_fewer is_symbol_byte is_ascii_digit digit_is_symbol_byte after end)
    ∙ ended_is is_symbol_byte place (whole ++ 46 ∷ digits) after (Other place (whole ++ 46 ∷ digits)) end

-- a token with a sharp is read, up to what follows it
pub based_ends : (digit tail : ℕ → Bool) (place a b : ℕ) (digits after : List ℕ) → is_run digit digits ≡ true → stops digit after ≡ true →
    based_at digit tail place ((a ∷ b ∷ digits) ++ after) ≡ ended tail place ((a ∷ b ∷ digits) ++ after) (token_of (Other place) (a ∷ b ∷ digits))
based_ends digit tail place a b digits after d stop =
    let some = run_some digit digits d in
    let n : ℕ = prefix_len digit (digits ++ after) in
    let run : n ≡ length digits = run_is digit digits after some.0 stop in
    let size : 2 + n ≡ length (a ∷ b ∷ digits) = omega arith in
    cond-false (eqb n 0) _ _ (ne_eqb n 0 (λ z. omega arith))
    ∙ ap (ended tail place ((a ∷ b ∷ digits) ++ after)) (front_is (Other place) (a ∷ b ∷ digits) after (2 + n) size)

based_reads : (digit tail : ℕ → Bool) (place a b : ℕ) (digits after : List ℕ) → is_run digit digits ≡ true → stops digit after ≡ true → stops tail after ≡ true →
    based_at digit tail place ((a ∷ b ∷ digits) ++ after) ≡ Ok (token_of (Other place) (a ∷ b ∷ digits))
based_reads digit tail place a b digits after d stop end =
    based_ends digit tail place a b digits after d stop ∙ ended_is tail place (a ∷ b ∷ digits) after (Other place (a ∷ b ∷ digits)) end

hexdigit_is_alphanumeric : (b : ℕ) → is_ascii_hexdigit b ≡ true → is_ascii_alphanumeric b ≡ true
hexdigit_is_alphanumeric b h = grind arith

hexdigit_is_symbol_byte : (b : ℕ) → is_ascii_hexdigit b ≡ true → is_symbol_byte b ≡ true
hexdigit_is_symbol_byte b h = or_left (is_ascii_alphanumeric b) (is_symbol_sign b) (hexdigit_is_alphanumeric b h)

binary_digit_continues : (b : ℕ) → is_binary_digit b ≡ true → continues_binary b ≡ true
binary_digit_continues b h = ⊎_elim (λ e. ap continues_binary (eqb-true b 48 e)) (λ e. ap continues_binary (eqb-true b 49 e)) (or_cases (eqb b 48) (eqb b 49) h)

-- strings
pub plain_byte : (b : ℕ) (bs : List ℕ) → eqb b 34 ≡ false → string_from (b ∷ bs) ≡ with_byte b 1 (string_from bs)
plain_byte b [] e = cond-false (eqb b 34) _ _ e
plain_byte b (c ∷ bs) e = cond-false (eqb b 34) _ _ e

string_ends_here : (after : List ℕ) → stops (λ b. eqb b 34) after ≡ true → string_from (34 ∷ after) ≡ Some ([], 1)
string_ends_here [] end = refl
string_ends_here (c ∷ cs) end = cond-false (eqb c 34) _ _ (not-true (eqb c 34) end)

-- the text of a byte of a string, in front of more
byte_reads : (t : Bool) (b n : ℕ) (bytes more : List ℕ) → eqb b 34 ≡ t → string_from more ≡ Some (bytes, n) → string_from (cond t (b ∷ b ∷ []) (b ∷ []) ++ more) ≡ Some (b ∷ bytes, length (cond t (b ∷ b ∷ []) (b ∷ [])) + n)
byte_reads true b n bytes more e h =
    let q = eqb-true b 34 e in
    ap (λ d. string_from (d ∷ d ∷ more)) q ∙ ap (with_byte 34 2) h ∙ ap (λ d. Some (d ∷ bytes, 2 + n)) (sym q)
byte_reads false b n bytes more e h = plain_byte b more e ∙ ap (with_byte b 1) h

string_reads_on : (bytes after : List ℕ) → stops (λ b. eqb b 34) after ≡ true → string_from (concat (map in_string bytes) ++ (34 ∷ after)) ≡ Some (bytes, length (concat (map in_string bytes)) + 1)
string_reads_on [] after end = string_ends_here after end
string_reads_on (b ∷ bytes) after end =
    let more = concat (map in_string bytes) in
    let size : length (in_string b) + (length more + 1) ≡ length (in_string b ++ more) + 1 = omega (arith, length-append (in_string b) more) in
    ap string_from (append_assoc (in_string b) more (34 ∷ after))
    ∙ byte_reads (eqb b 34) b (length more + 1) bytes (more ++ (34 ∷ after)) refl (string_reads_on bytes after end)
    ∙ ap (λ n. Some (b ∷ bytes, n)) size

string_reads : (place : ℕ) (bytes after : List ℕ) → stops (λ b. eqb b 34) after ≡ true → token_at place (string_of bytes ++ after) ≡ Ok (record { tree = Text place bytes; length = length (string_of bytes) })
string_reads place bytes after end =
    let more = concat (map in_string bytes) in
    let size : 1 + (length more + 1) ≡ length (string_of bytes) = omega (arith, length-append more (34 ∷ [])) in
    ap (λ bs. string_of_found place (string_from bs)) (append_assoc more (34 ∷ []) after)
    ∙ ap (string_of_found place) (string_reads_on bytes after end)
    ∙ ap (λ n. Ok (record { tree = Text place bytes; length = n })) size

-- a text that is a group's: it holds the group's trees between two parentheses
pub record IsGroupText (tree : Tree) (place : ℕ) (text : List ℕ) : Type 0 where
  pub trees : List Tree
  pub inner : List ℕ
  pub is : tree ≡ Group place trees
  pub whole : text ≡ 40 ∷ inner ++ 41 ∷ []
  pub each : EachSpelled TreeSpelled false trees (place + 1) inner

-- what the text of a tree is: a token that stands first in it, or a group's
pub data Reads (tree : Tree) (place : ℕ) (text after : List ℕ) : Type 0 where
  as_token : token_at place (text ++ after) ≡ Ok (record { tree = tree; length = length text }) → Reads tree place text after
  as_group : IsGroupText tree place text → Reads tree place text after

abbrev IsRead : Tree → Type 0
IsRead tree = (place : ℕ) (text after : List ℕ) → TreeSpelled tree place text after → Reads tree place text after

-- a token's tree stands at the place at which it is read
at_place : (make : ℕ → Tree) (at place : ℕ) (text after read : List ℕ) → at ≡ place → text ≡ read →
    token_at place (read ++ after) ≡ Ok (record { tree = make place; length = length read }) → Reads (make at) place text after
at_place make at place text after read e same h =
    as_token (ap (λ bs. token_at place (bs ++ after)) same ∙ h ∙ (λ i. Ok (record { tree = make (sym e i); length = length (sym same i) })))

unreserved : (place : ℕ) (name : List ℕ) → not (is_reserved name) ≡ true → word_at place name ≡ Symbol place name
unreserved place name h = cond-false (is_reserved name) _ _ (not-true (is_reserved name) h)

reserved : (place : ℕ) (name : List ℕ) → is_reserved name ≡ true → word_at place name ≡ Word place name
reserved place name h = cond-true (is_reserved name) _ _ h

symbol_read : (at : ℕ) (name : List ℕ) → IsRead (Symbol at name)
symbol_read at name place text after h = by_form (opened (spelled-Symbol at name) place text after h)
  where
    by_form : LevelSpelled TreeSpelled (Tree-F.Symbol at name) place text after → Reads (Symbol at name) place text after
    by_form (e, inl simple) =
        at_place (λ p. Symbol p name) at place text after name e simple.0
        (word_reads place name after simple.1 simple.3 ∙ ap (λ t. Ok (record { tree = t; length = length name })) (unreserved place name simple.2))
    by_form (e, inr quoted) =
        at_place (λ p. Symbol p name) at place text after (124 ∷ name ++ 124 ∷ []) e quoted.0 (quoted_reads place name after quoted.1)

word_read : (at : ℕ) (name : List ℕ) → IsRead (Word at name)
word_read at name place text after h =
    let l = opened (spelled-Word at name) place text after h in
    at_place (λ p. Word p name) at place text after name l.0 l.1
    (word_reads place name after (reserved_is_simple name l.2) l.3 ∙ ap (λ t. Ok (record { tree = t; length = length name })) (reserved place name l.2))

keyword_form : (place : ℕ) (word after : List ℕ) → is_keyword word ≡ true → stops is_symbol_byte after ≡ true → token_at place (word ++ after) ≡ Ok (token_of (Keyword place) word)
keyword_form place [] after k end = absurd (false≢true k)
keyword_form place (b ∷ []) after k end = absurd (false≢true k)
keyword_form place (b ∷ c ∷ cs) after k end =
    let parts = and_parts (eqb b 58) (list_all is_symbol_byte (c ∷ cs)) k in
    subst (λ d. token_at place ((d ∷ c ∷ cs) ++ after) ≡ Ok (token_of (Keyword place) (d ∷ c ∷ cs))) (sym (eqb-true b 58 parts.0)) (keyword_reads place c cs after parts.1 end)

keyword_read : (at : ℕ) (word : List ℕ) → IsRead (Keyword at word)
keyword_read at word place text after h =
    let l = opened (spelled-Keyword at word) place text after h in
    at_place (λ p. Keyword p word) at place text after word l.0 l.1 (keyword_form place word after l.2 l.3)

numeral_read : (at : ℕ) (number : ℤ) → IsRead (Numeral at number)
numeral_read at number place text after h =
    let l = opened (spelled-Numeral at number) place text after h in
    at_place (λ p. Numeral p number) at place text after (decimal l.1) l.0 l.4
    (numeral_reads place l.1 after l.3 l.5 ∙ ap (λ z. Ok (record { tree = Numeral place z; length = length (decimal l.1) })) (sym l.2))

text_read : (at : ℕ) (bytes : List ℕ) → IsRead (Text at bytes)
text_read at bytes place text after h =
    let l = opened (spelled-Text at bytes) place text after h in
    at_place (λ p. Text p bytes) at place text after (string_of bytes) l.0 l.1 (string_reads place bytes after l.2)

decimal_form : (place : ℕ) (token after : List ℕ) → IsDecimal token → stops is_symbol_byte after ≡ true → token_at place (token ++ after) ≡ Ok (token_of (Other place) token)
decimal_form place token after d end =
    subst (λ text. token_at place (text ++ after) ≡ Ok (token_of (Other place) text)) (sym d.2) (decimal_reads place d.0 d.1 after d.3 d.4 end)

hexadecimal_form : (place : ℕ) (token after : List ℕ) → IsHexadecimal token → stops is_symbol_byte after ≡ true → token_at place (token ++ after) ≡ Ok (token_of (Other place) token)
hexadecimal_form place token after d end =
    subst (λ text. token_at place (text ++ after) ≡ Ok (token_of (Other place) text)) (sym d.1)
    (based_reads is_ascii_hexdigit is_symbol_byte place 35 120 d.0 after d.2 (stops_fewer is_symbol_byte is_ascii_hexdigit hexdigit_is_symbol_byte after end) end)

binary_form : (place : ℕ) (token after : List ℕ) → IsBinary token → stops continues_binary after ≡ true → token_at place (token ++ after) ≡ Ok (token_of (Other place) token)
binary_form place token after d end =
    subst (λ text. token_at place (text ++ after) ≡ Ok (token_of (Other place) text)) (sym d.1)
    (based_reads is_binary_digit continues_binary place 35 98 d.0 after d.2 (stops_fewer continues_binary is_binary_digit binary_digit_continues after end) end)

other_read : (at : ℕ) (token : List ℕ) → IsRead (Other at token)
other_read at token place text after h =
    let l = opened (spelled-Other at token) place text after h in
    at_place (λ p. Other p token) at place text after token l.0 l.1 (by_form l.2)
  where
    by_form : ((IsDecimal token ⊎ IsHexadecimal token) × (stops is_symbol_byte after ≡ true)) ⊎ (IsBinary token × (stops continues_binary after ≡ true)) → token_at place (token ++ after) ≡ Ok (token_of (Other place) token)
    by_form (inl (inl d, end)) = decimal_form place token after d end
    by_form (inl (inr d, end)) = hexadecimal_form place token after d end
    by_form (inr (d, end)) = binary_form place token after d end

group_read : (at : ℕ) (trees : List Tree) → IsRead (Group at trees)
group_read at trees place text after h =
    let l = opened (spelled-Group at trees) place text after h in
    as_group (record { trees = trees; inner = l.1; is = ap (λ p. Group p trees) l.0; whole = l.2; each = l.3 })

-- what is spelled is read
pub reads : (tree : Tree) → IsRead tree
reads = tree_ind IsRead (record {
  symbol = symbol_read;
  word = word_read;
  keyword = keyword_read;
  numeral = numeral_read;
  text = text_read;
  other = other_read;
  group = λ at trees inner. group_read at trees;
})
