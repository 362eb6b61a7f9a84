-- A text has at most one first fault: the one that a reading by the next byte meets.
use Rattle.std.proofs.Common.{◌≡◌, ℕ, zero, suc, ◌+◌, ◌^◌, ◌≤◌, ◌<◌, pos, Bool, true, false, not, ◌&&◌, ◌||◌, cond, eqb, ltb, leb, List, [], ◌∷◌, ◌++◌, length, map, drop, Option, Some, None, Result, Ok, Err, ap, sym, refl, subst, ◌∙◌, arith, append_assoc, append-nil, length-append}
use Rattle.std.specs.List.{list_all, list_any, prefix_len, concat}
use Rattle.std.specs.Char.{is_ascii_digit, is_ascii_hexdigit}
use Rattle.std.specs.Str.Parse.{digits_value}
use Rattle.std.proofs.lemmas.Bool.{and_parts, or_parts, or_from, and_from, leb-true, not-true, not_from_false, cond-true, cond-false, false≢true, eqb-true, eqb-false, ne_eqb, lt-ltb, le-ltb}
use Rattle.std.proofs.lemmas.List.{take_at, drop_at}
use Rattle.chc_sexpr.specs.Tokens.{is_white, is_commented, is_symbol_byte, is_whole_number}
use Rattle.chc_sexpr.specs.Trees.{depth, depth_step, most_open}
use Rattle.chc_sexpr.specs.Spelling.{stops, starts, is_quotable, IsDecimal, is_binary_digit, continues_binary, in_string, begins_nothing, begins_based, begins_fraction, IsNumber, RunsOn, after_numeral, after_decimal, after_hexadecimal, after_binary, IsTokenFault, nothing, lone_colon, lone_sharp, runs_on, backslash, open_quoted, open_string, needless_zero, too_large, FirstFault, white, comment, token, opening, closing, bad_token, too_deep, stray, unclosed, IsFirstFault, TreeSpelled}
use Rattle.chc_sexpr.specs.Scanning.{fault_at, ended, keyword_of, quoted_of, quoted_from, with_byte, string_from, string_of_found, based_of, based_at, sharp_at, fraction_of, fraction, number_of, has_needless_zero, token_at}
use Rattle.chc_sexpr.specs.Drafts.{BeginsToken}
use Rattle.chc_sexpr.specs.declared.fault.Fault.{Fault}
use Rattle.chc_sexpr.specs.declared.fault.Fault.TheVariants.{BadByte, OpenString, OpenQuoted, OpenParen, StrayParen, LeadingZero, NumeralTooLarge, TooDeep}
use Rattle.chc_sexpr.specs.declared.fault.TextFault.{TextFault}
use Rattle.chc_sexpr.specs.declared.token.Token.{Token}
use Rattle.chc_sexpr.specs.declared.tree.Tree.{Tree}
use Rattle.chc_sexpr.specs.declared.tree.Tree.TheVariants.{Numeral, Other}
use Rattle.chc_sexpr.proofs.Decimals.{whole_digits}
use Rattle.chc_sexpr.proofs.Folds.{fold-Group}
use Rattle.chc_sexpr.proofs.Runs.{run_is}
use Rattle.chc_sexpr.proofs.Scans.{Reads, as_token, as_group, reads, numeral_ends, decimal_ends, based_ends, number_reads, digit_is_symbol_byte, plain_byte}
use Rattle.chc_sexpr.proofs.Stands.{stands, token_begins}

-- a text that begins with a token's byte, and the fault that is read there
record IsReadFault (place : ℕ) (bs : List ℕ) (fault : Fault) (at : ℕ) : Type 0 where
  first : ℕ
  rest : List ℕ
  is : bs ≡ first ∷ rest
  begins : BeginsToken first
  read : token_at place bs ≡ Err (fault_at at fault)

-- a byte that no white space, comment or parenthesis is
begins : (b : ℕ) → is_white b ≡ false → eqb b 59 ≡ false → eqb b 40 ≡ false → eqb b 41 ≡ false → BeginsToken b
begins b w c o d = record { white = w; comment = eqb-false b 59 c; opening = eqb-false b 40 o; closing = eqb-false b 41 d }

not_ended : (tail : ℕ → Bool) (place : ℕ) (text after : List ℕ) (tree : Tree) → starts tail after ≡ true → ended tail place (text ++ after) (record { tree = tree; length = length text }) ≡ Err (fault_at (place + length text) BadByte)
not_ended tail place text after tree h = cond-false (stops tail (drop (length text) (text ++ after))) _ _ (ap (stops tail) (drop_at text after (length text) refl) ∙ not-true (stops tail after) h)

no_run : (test : ℕ → Bool) (bs : List ℕ) → stops test bs ≡ true → prefix_len test bs ≡ 0
no_run test bs h = run_is test [] bs refl h

-- no token
nothing_read : (place b : ℕ) (rest : List ℕ) → begins_nothing b ≡ true → IsReadFault place (b ∷ rest) BadByte place
nothing_read place b rest h =
    let outer = and_parts (not (is_symbol_byte b) && not (is_white b)) (not (list_any (λ c. eqb b c) (124 ∷ 34 ∷ 58 ∷ 35 ∷ 59 ∷ 40 ∷ 41 ∷ []))) h in
    let inner = and_parts (not (is_symbol_byte b)) (not (is_white b)) outer.0 in
    let symbol = not-true (is_symbol_byte b) inner.0 in
    let signs = not-true (list_any (λ c. eqb b c) (124 ∷ 34 ∷ 58 ∷ 35 ∷ 59 ∷ 40 ∷ 41 ∷ [])) outer.1 in
    let bar = or_parts (eqb b 124) (list_any (λ c. eqb b c) (34 ∷ 58 ∷ 35 ∷ 59 ∷ 40 ∷ 41 ∷ [])) signs in
    let quote = or_parts (eqb b 34) (list_any (λ c. eqb b c) (58 ∷ 35 ∷ 59 ∷ 40 ∷ 41 ∷ [])) bar.1 in
    let colon = or_parts (eqb b 58) (list_any (λ c. eqb b c) (35 ∷ 59 ∷ 40 ∷ 41 ∷ [])) quote.1 in
    let sharp = or_parts (eqb b 35) (list_any (λ c. eqb b c) (59 ∷ 40 ∷ 41 ∷ [])) colon.1 in
    let semicolon = or_parts (eqb b 59) (list_any (λ c. eqb b c) (40 ∷ 41 ∷ [])) sharp.1 in
    let paren = or_parts (eqb b 40) (list_any (λ c. eqb b c) (41 ∷ [])) semicolon.1 in
    let close = or_parts (eqb b 41) false paren.1 in
    let digit : is_ascii_digit b ≡ false = no_digit (is_ascii_digit b) refl symbol in
    record {
      first = b;
      rest = rest;
      is = refl;
      begins = begins b (not-true (is_white b) inner.1) semicolon.0 paren.0 close.0;
      read = cond-false (is_ascii_digit b) _ _ digit ∙ cond-false (is_symbol_byte b) _ _ symbol ∙ cond-false (eqb b 124) _ _ bar.0 ∙ cond-false (eqb b 34) _ _ quote.0 ∙ cond-false (eqb b 58) _ _ colon.0 ∙ cond-false (eqb b 35) _ _ sharp.0;
    }
  where
    no_digit : (d : Bool) → is_ascii_digit b ≡ d → is_symbol_byte b ≡ false → d ≡ false
    no_digit true e s = absurd (false≢true (sym s ∙ digit_is_symbol_byte b e))
    no_digit false e s = refl

-- colons, sharps and bars
colon_read : (place : ℕ) (rest : List ℕ) → stops is_symbol_byte rest ≡ true → IsReadFault place (58 ∷ rest) BadByte place
colon_read place rest h = record {
  first = 58;
  rest = rest;
  is = refl;
  begins = begins 58 refl refl refl refl;
  read = ap (λ n. keyword_of n place (58 ∷ rest)) (no_run is_symbol_byte rest h);
}

no_digits : (digit tail : ℕ → Bool) (place a b : ℕ) (bs : List ℕ) → stops digit bs ≡ true → based_at digit tail place (a ∷ b ∷ bs) ≡ Err (fault_at place BadByte)
no_digits digit tail place a b bs h = ap (λ n. based_of tail n place (a ∷ b ∷ bs)) (no_run digit bs h)

stops_unless : (digit : ℕ → Bool) (bs : List ℕ) → ((c : ℕ) (cs : List ℕ) → bs ≡ c ∷ cs → digit c ≡ false) → stops digit bs ≡ true
stops_unless digit [] h = refl
stops_unless digit (c ∷ cs) h = not_from_false (digit c) (h c cs refl)

based_not : (t d u e : Bool) → ((t && d) || (u && e)) ≡ false → (t ≡ true → d ≡ false) × (u ≡ true → e ≡ false)
based_not t d u e h =
    let parts = or_parts (t && d) (u && e) h in
    (λ f. off t d f parts.0, λ f. off u e f parts.1)
  where
    off : (x y : Bool) → x ≡ true → (x && y) ≡ false → y ≡ false
    off true y f g = g
    off false y f g = absurd (false≢true f)

sharp_none : (place c : ℕ) (bs : List ℕ) → begins_based (c ∷ bs) ≡ false → sharp_at place (35 ∷ c ∷ bs) ≡ Err (fault_at place BadByte)
sharp_none place c bs h =
    let none : (d : ℕ) (ds : List ℕ) → bs ≡ d ∷ ds → (eqb c 120 ≡ true → is_ascii_hexdigit d ≡ false) × (eqb c 98 ≡ true → is_binary_digit d ≡ false) = λ d ds e.
    based_not (eqb c 120) (is_ascii_hexdigit d) (eqb c 98) (is_binary_digit d) (ap (λ r. begins_based (c ∷ r)) (sym e) ∙ h) in
    by_letter (eqb c 120) (eqb c 98) refl refl
    (λ x. stops_unless is_ascii_hexdigit bs (λ d ds e. (none d ds e).0 x)) (λ x. stops_unless is_binary_digit bs (λ d ds e. (none d ds e).1 x))
  where
    by_letter : (t u : Bool) → eqb c 120 ≡ t → eqb c 98 ≡ u → (t ≡ true → stops is_ascii_hexdigit bs ≡ true) → (u ≡ true → stops is_binary_digit bs ≡ true) → sharp_at place (35 ∷ c ∷ bs) ≡ Err (fault_at place BadByte)
    by_letter true u e f x y = cond-true (eqb c 120) _ _ e ∙ no_digits is_ascii_hexdigit is_symbol_byte place 35 c bs (x refl)
    by_letter false true e f x y = cond-false (eqb c 120) _ _ e ∙ cond-true (eqb c 98) _ _ f ∙ no_digits is_binary_digit continues_binary place 35 c bs (y refl)
    by_letter false false e f x y = cond-false (eqb c 120) _ _ e ∙ cond-false (eqb c 98) _ _ f

sharp_read : (place : ℕ) (rest : List ℕ) → begins_based rest ≡ false → IsReadFault place (35 ∷ rest) BadByte place
sharp_read place rest h = record { first = 35; rest = rest; is = refl; begins = begins 35 refl refl refl refl; read = by_rest rest h }
  where
    by_rest : (bs : List ℕ) → begins_based bs ≡ false → sharp_at place (35 ∷ bs) ≡ Err (fault_at place BadByte)
    by_rest [] k = refl
    by_rest (c ∷ cs) k = sharp_none place c cs k

backslash_read : (place : ℕ) (name after : List ℕ) → list_all is_quotable name ≡ true → IsReadFault place (124 ∷ name ++ 92 ∷ after) BadByte (place + (1 + length name))
backslash_read place name after all =
    let n = length name in
    let bs = name ++ 92 ∷ after in
    record {
      first = 124;
      rest = bs;
      is = refl;
      begins = begins 124 refl refl refl refl;
      read = ap (λ m. quoted_from m place bs) (run_is is_quotable name (92 ∷ after) all refl) ∙ (λ i. quoted_of n place (take_at name (92 ∷ after) n refl i) (drop_at name (92 ∷ after) n refl i));
    }

open_quoted_read : (place : ℕ) (name : List ℕ) → list_all is_quotable name ≡ true → IsReadFault place (124 ∷ name) OpenQuoted place
open_quoted_read place name all =
    let n = length name in
    let whole : name ++ [] ≡ name = append-nil name in
    record {
      first = 124;
      rest = name;
      is = refl;
      begins = begins 124 refl refl refl refl;
      read = ap (λ bs. quoted_from (prefix_len is_quotable bs) place bs) (sym whole)
          ∙ ap (λ m. quoted_from m place (name ++ [])) (run_is is_quotable name [] all refl)
          ∙ (λ i. quoted_of n place (take_at name [] n refl i) (drop_at name [] n refl i));
    }

-- strings
open_byte : (t : Bool) (b : ℕ) (more : List ℕ) → eqb b 34 ≡ t → string_from more ≡ None → string_from (cond t (b ∷ b ∷ []) (b ∷ []) ++ more) ≡ None
open_byte true b more e h = ap (λ d. string_from (d ∷ d ∷ more)) (eqb-true b 34 e) ∙ ap (with_byte 34 2) h
open_byte false b more e h = plain_byte b more e ∙ ap (with_byte b 1) h

open_bytes : (bytes : List ℕ) → string_from (concat (map in_string bytes)) ≡ None
open_bytes [] = refl
open_bytes (b ∷ bytes) = open_byte (eqb b 34) b (concat (map in_string bytes)) refl (open_bytes bytes)

open_string_read : (place : ℕ) (bytes : List ℕ) → IsReadFault place (34 ∷ concat (map in_string bytes)) OpenString place
open_string_read place bytes = record {
  first = 34;
  rest = concat (map in_string bytes);
  is = refl;
  begins = begins 34 refl refl refl refl;
  read = ap (string_of_found place) (open_bytes bytes);
}

-- numbers
digit_begins : (b : ℕ) → is_ascii_digit b ≡ true → BeginsToken b
digit_begins b d =
    let low = leb-true 48 b (and_parts (leb 48 b) (leb b 57) d).0 in
    let other : (c : ℕ) → c < 48 → eqb b c ≡ false = λ c small. ne_eqb b c (λ e. omega arith) in
    begins b
    (or_from ((eqb b 32 || eqb b 10) || eqb b 13) (eqb b 9)
    (or_from (eqb b 32 || eqb b 10) (eqb b 13) (or_from (eqb b 32) (eqb b 10) (other 32 (omega arith)) (other 10 (omega arith))) (other 13 (omega arith))) (other 9 (omega arith)))
    (ne_eqb b 59 (λ e. let high = leb-true b 57 (and_parts (leb 48 b) (leb b 57) d).1 in omega arith)) (other 40 (omega arith)) (other 41 (omega arith))

number_begins : (place : ℕ) (digits after : List ℕ) (fault : Fault) (at : ℕ) → is_whole_number digits ≡ true → token_at place (digits ++ after) ≡ Err (fault_at at fault) → IsReadFault place (digits ++ after) fault at
number_begins place [] after fault at whole e = absurd (false≢true whole)
number_begins place (d ∷ ds) after fault at whole e = record {
  first = d;
  rest = ds ++ after;
  is = refl;
  begins = digit_begins d (and_parts (is_ascii_digit d) (list_all is_ascii_digit ds) (whole_digits (d ∷ ds) whole)).0;
  read = e;
}

no_fraction : (after : List ℕ) → begins_fraction after ≡ false → fraction after ≡ 0
no_fraction [] e = refl
no_fraction (b ∷ []) e = by_point (eqb b 46)
  where
    by_point : (t : Bool) → cond t (fraction_of 0) 0 ≡ 0
    by_point true = refl
    by_point false = refl
no_fraction (b ∷ c ∷ cs) e = by_point (eqb b 46) (is_ascii_digit c) (prefix_len is_ascii_digit cs) e
  where
    by_point : (t d : Bool) (k : ℕ) → (t && d) ≡ false → cond t (fraction_of (cond d (1 + k) 0)) 0 ≡ 0
    by_point true true k h = absurd (false≢true (sym h))
    by_point true false k h = refl
    by_point false d k h = refl

numeral_runs_on : (place : ℕ) (text after : List ℕ) → IsNumber text after → digits_value 10 text < 2 ^ 127 → starts is_symbol_byte after ≡ true → IsReadFault place (text ++ after) BadByte (place + length text)
numeral_runs_on place text after n small more =
    let v : ℕ = digits_value 10 text in
    number_begins place text after BadByte (place + length text) n.whole
    (numeral_ends place v text after n.whole refl small n.longest (no_fraction after n.alone) ∙ not_ended is_symbol_byte place text after (Numeral place (pos v)) more)

too_large_read : (place : ℕ) (digits after : List ℕ) → IsNumber digits after → 2 ^ 127 ≤ digits_value 10 digits → IsReadFault place (digits ++ after) NumeralTooLarge place
too_large_read place digits after n large =
    let bs = digits ++ after in
    let size = length digits in
    let v : ℕ = digits_value 10 digits in
    number_begins place digits after NumeralTooLarge place n.whole
    (number_reads place digits after n.whole n.longest
    ∙ ap (λ m. number_of m size place bs) (no_fraction after n.alone)
    ∙ ap (λ ds. cond (ltb (digits_value 10 ds) (2 ^ 127)) (ended is_symbol_byte place bs (record { tree = Numeral place (pos (digits_value 10 ds)); length = size })) (Err (fault_at place NumeralTooLarge))) (take_at digits after size refl)
    ∙ cond-false (ltb v (2 ^ 127)) _ _ (le-ltb v (2 ^ 127) large))

decimal_runs_on : (place : ℕ) (text after : List ℕ) → IsDecimal text → stops is_ascii_digit after ≡ true → starts is_symbol_byte after ≡ true → IsReadFault place (text ++ after) BadByte (place + length text)
decimal_runs_on place text after d longest more =
    let whole = d.0 in
    let token = whole ++ 46 ∷ d.1 in
    let regroup = append_assoc whole (46 ∷ d.1) after in
    let read = decimal_ends place whole d.1 after d.3 d.4 longest ∙ not_ended is_symbol_byte place token after (Other place token) more in
    let found = number_begins place whole (46 ∷ d.1 ++ after) BadByte (place + length token) d.3 (ap (token_at place) (sym regroup) ∙ read) in
    subst (λ t. IsReadFault place (t ++ after) BadByte (place + length t)) (sym d.2) (subst (λ bs. IsReadFault place bs BadByte (place + length token)) (sym regroup) found)

sharp_runs_on : (place : ℕ) (text after : List ℕ) → token_at place ((35 ∷ text) ++ after) ≡ Err (fault_at (place + length (35 ∷ text)) BadByte) → IsReadFault place ((35 ∷ text) ++ after) BadByte (place + length (35 ∷ text))
sharp_runs_on place text after e = record { first = 35; rest = text ++ after; is = refl; begins = begins 35 refl refl refl refl; read = e }

runs_on_read : (place : ℕ) (text after : List ℕ) → RunsOn text after → IsReadFault place (text ++ after) BadByte (place + length text)
runs_on_read place text after (after_numeral n small more) = numeral_runs_on place text after n small more
runs_on_read place text after (after_decimal d longest more) = decimal_runs_on place text after d longest more
runs_on_read place text after (after_hexadecimal d longest more) =
    let token = 35 ∷ 120 ∷ d.0 in
    subst (λ t. IsReadFault place (t ++ after) BadByte (place + length t)) (sym d.1)
    (sharp_runs_on place (120 ∷ d.0) after (based_ends is_ascii_hexdigit is_symbol_byte place 35 120 d.0 after d.2 longest ∙ not_ended is_symbol_byte place token after (Other place token) more))
runs_on_read place text after (after_binary d longest more) =
    let token = 35 ∷ 98 ∷ d.0 in
    subst (λ t. IsReadFault place (t ++ after) BadByte (place + length t)) (sym d.1)
    (sharp_runs_on place (98 ∷ d.0) after (based_ends is_binary_digit continues_binary place 35 98 d.0 after d.2 longest ∙ not_ended continues_binary place token after (Other place token) more))

needless_read : (place b : ℕ) (rest : List ℕ) → is_ascii_digit b ≡ true → IsReadFault place (48 ∷ b ∷ rest) LeadingZero place
needless_read place b rest d =
    let bs = 48 ∷ b ∷ rest in
    let n : ℕ = prefix_len is_ascii_digit bs in
    let next : prefix_len is_ascii_digit (b ∷ rest) ≡ 1 + prefix_len is_ascii_digit rest = cond-true (is_ascii_digit b) _ _ d in
    let long : 1 < n = omega (arith, next) in
    record {
      first = 48;
      rest = b ∷ rest;
      is = refl;
      begins = begins 48 refl refl refl refl;
      read = cond-true (has_needless_zero n bs) _ _ (and_from (ltb 1 n) true (lt-ltb 1 n long) refl);
    }

-- what is wrong with a token is what is read of it
fault_read : (place : ℕ) (bs : List ℕ) (fault : Fault) (at : ℕ) → IsTokenFault place bs fault at → IsReadFault place bs fault at
fault_read place bs fault at (nothing b rest h) = nothing_read place b rest h
fault_read place bs fault at (lone_colon rest h) = colon_read place rest h
fault_read place bs fault at (lone_sharp rest h) = sharp_read place rest h
fault_read place bs fault at (runs_on text after h) = runs_on_read place text after h
fault_read place bs fault at (backslash name after h) = backslash_read place name after h
fault_read place bs fault at (open_quoted name h) = open_quoted_read place name h
fault_read place bs fault at (open_string bytes) = open_string_read place bytes
fault_read place bs fault at (needless_zero b rest h) = needless_read place b rest h
fault_read place bs fault at (too_large digits after n h) = too_large_read place digits after n h

-- the first fault, by the next byte; as many steps are taken as the first number says
abbrev at_end : List ℕ → Option (Fault × ℕ)
at_end [] = None
at_end (group ∷ opened) = Some (OpenParen, group)

abbrev at_close : (List ℕ → Option (Fault × ℕ)) → ℕ → List ℕ → Option (Fault × ℕ)
at_close go place [] = Some (StrayParen, place)
at_close go place (group ∷ opened) = go opened

abbrev at_token : (ℕ → Option (Fault × ℕ)) → Result Token TextFault → Option (Fault × ℕ)
at_token go (Ok t) = go t.length
at_token go (Err fault) = Some (fault.fault, fault.place)

-- what the next byte leads to, where the rest is read by a function of the open groups, the place and the text
abbrev by_byte : (List ℕ → ℕ → List ℕ → Option (Fault × ℕ)) → List ℕ → ℕ → ℕ → List ℕ → Option (Fault × ℕ)
by_byte go opened place b bs =
    cond (is_white b) (go opened (place + 1) bs)
    (cond (eqb b 59) (go opened (place + (1 + prefix_len is_commented bs)) (drop (prefix_len is_commented bs) bs))
    (cond (eqb b 40) (cond (ltb (length opened) most_open) (go (place ∷ opened) (place + 1) bs) (Some (TooDeep, place)))
    (cond (eqb b 41) (at_close (λ outer. go outer (place + 1) bs) place opened)
    (at_token (λ n. go opened (place + n) (drop n (b ∷ bs))) (token_at place (b ∷ bs))))))

abbrev fault_from : ℕ → List ℕ → ℕ → List ℕ → Option (Fault × ℕ)
fault_from zero opened place bs = None
fault_from (suc k) opened place [] = at_end opened
fault_from (suc k) opened place (b ∷ bs) = by_byte (fault_from k) opened place b bs

-- where a token begins, what is read there decides
at_start : (k : ℕ) (opened : List ℕ) (place b : ℕ) (bs : List ℕ) (r : Result Token TextFault) → BeginsToken b → token_at place (b ∷ bs) ≡ r →
    fault_from (suc k) opened place (b ∷ bs) ≡ at_token (λ n. fault_from k opened (place + n) (drop n (b ∷ bs))) r
at_start k opened place b bs r t e =
    cond-false (is_white b) _ _ t.white
    ∙ cond-false (eqb b 59) _ _ (ne_eqb b 59 t.comment)
    ∙ cond-false (eqb b 40) _ _ (ne_eqb b 40 t.opening)
    ∙ cond-false (eqb b 41) _ _ (ne_eqb b 41 t.closing)
    ∙ ap (at_token (λ n. fault_from k opened (place + n) (drop n (b ∷ bs)))) e

token_step : (k : ℕ) (opened : List ℕ) (place : ℕ) (bs : List ℕ) (t : Token) → token_at place bs ≡ Ok t → fault_from (suc k) opened place bs ≡ fault_from k opened (place + t.length) (drop t.length bs)
token_step k opened place [] t e = absurd cc
token_step k opened place (b ∷ bs) t e = at_start k opened place b bs (Ok t) (token_begins place b bs t e) e

fault_step : (k : ℕ) (opened : List ℕ) (place : ℕ) (bs : List ℕ) (fault : Fault) (at : ℕ) → IsReadFault place bs fault at → fault_from (suc k) opened place bs ≡ Some (fault, at)
fault_step k opened place bs fault at f =
    ap (fault_from (suc k) opened place) f.is
    ∙ at_start k opened place f.first f.rest (Err (fault_at at fault)) f.begins (ap (token_at place) (sym f.is) ∙ f.read)

-- the token of a tree that is no group
leaf_read : (tree : Tree) (place : ℕ) (text rest : List ℕ) → depth tree ≡ 0 → TreeSpelled tree place text rest → token_at place (text ++ rest) ≡ Ok (record { tree = tree; length = length text })
leaf_read tree place text rest flat h = by_read (reads tree place text rest h)
  where
    by_read : Reads tree place text rest → token_at place (text ++ rest) ≡ Ok (record { tree = tree; length = length text })
    by_read (as_token r) = r
    by_read (as_group g) = absurd (omega (arith, flat, ap depth g.is, fold-Group ℕ depth_step place g.trees))

-- each first fault is the one that is met
abbrev IsMet : List ℕ → ℕ → List ℕ → Fault → ℕ → Type 0
IsMet opened place bs fault at = (k : ℕ) → length bs < k → fault_from k opened place bs ≡ Some (fault, at)

met_fault : (opened : List ℕ) (place : ℕ) (bs : List ℕ) (fault : Fault) (at : ℕ) → IsReadFault place bs fault at → IsMet opened place bs fault at
met_fault opened place bs fault at f zero h = absurd (omega arith)
met_fault opened place bs fault at f (suc k) h = fault_step k opened place bs fault at f

met_token : (opened : List ℕ) (place : ℕ) (tree : Tree) (text rest : List ℕ) (fault : Fault) (at : ℕ) → token_at place (text ++ rest) ≡ Ok (record { tree = tree; length = length text }) → IsMet opened (place + length text) rest fault at → IsMet opened place (text ++ rest) fault at
met_token opened place tree text rest fault at e m zero h = absurd (omega arith)
met_token opened place tree text rest fault at e m (suc k) h =
    let some = (stands place (text ++ rest) (record { tree = tree; length = length text }) e).some in
    token_step k opened place (text ++ rest) (record { tree = tree; length = length text }) e
    ∙ ap (fault_from k opened (place + length text)) (drop_at text rest (length text) refl)
    ∙ m k (omega (arith, length-append text rest))

met_comment : (opened : List ℕ) (place : ℕ) (text rest : List ℕ) (fault : Fault) (at : ℕ) → list_all is_commented text ≡ true → stops is_commented rest ≡ true → IsMet opened (place + (1 + length text)) rest fault at → IsMet opened place (59 ∷ text ++ rest) fault at
met_comment opened place text rest fault at all stop m zero h = absurd (omega arith)
met_comment opened place text rest fault at all stop m (suc k) h =
    ap (λ n. fault_from k opened (place + (1 + n)) (drop n (text ++ rest))) (run_is is_commented text rest all stop)
    ∙ ap (fault_from k opened (place + (1 + length text))) (drop_at text rest (length text) refl)
    ∙ m k (omega (arith, length-append text rest))

met_white : (opened : List ℕ) (place b : ℕ) (rest : List ℕ) (fault : Fault) (at : ℕ) → is_white b ≡ true → IsMet opened (place + 1) rest fault at → IsMet opened place (b ∷ rest) fault at
met_white opened place b rest fault at w m zero h = absurd (omega arith)
met_white opened place b rest fault at w m (suc k) h = cond-true (is_white b) _ _ w ∙ m k (omega arith)

met_opening : (opened : List ℕ) (place : ℕ) (rest : List ℕ) (fault : Fault) (at : ℕ) → length opened < most_open → IsMet (place ∷ opened) (place + 1) rest fault at → IsMet opened place (40 ∷ rest) fault at
met_opening opened place rest fault at few m zero h = absurd (omega arith)
met_opening opened place rest fault at few m (suc k) h = cond-true (ltb (length opened) most_open) _ _ (lt-ltb (length opened) most_open few) ∙ m k (omega arith)

met_closing : (group : ℕ) (opened : List ℕ) (place : ℕ) (rest : List ℕ) (fault : Fault) (at : ℕ) → IsMet opened (place + 1) rest fault at → IsMet (group ∷ opened) place (41 ∷ rest) fault at
met_closing group opened place rest fault at m zero h = absurd (omega arith)
met_closing group opened place rest fault at m (suc k) h = m k (omega arith)

met_too_deep : (opened : List ℕ) (place : ℕ) (rest : List ℕ) → most_open ≤ length opened → IsMet opened place (40 ∷ rest) TooDeep place
met_too_deep opened place rest full zero h = absurd (omega arith)
met_too_deep opened place rest full (suc k) h = cond-false (ltb (length opened) most_open) _ _ (le-ltb (length opened) most_open full)

met_stray : (place : ℕ) (rest : List ℕ) → IsMet [] place (41 ∷ rest) StrayParen place
met_stray place rest zero h = absurd (omega arith)
met_stray place rest (suc k) h = refl

met_unclosed : (group : ℕ) (opened : List ℕ) (place : ℕ) → IsMet (group ∷ opened) place [] OpenParen group
met_unclosed group opened place zero h = absurd (omega arith)
met_unclosed group opened place (suc k) h = refl

met : (opened : List ℕ) (place : ℕ) (bs : List ℕ) (fault : Fault) (at : ℕ) → FirstFault opened place bs fault at → IsMet opened place bs fault at
met opened place bs fault at (white o p b rest f a w first) = met_white o p b rest f a w (met o (p + 1) rest f a first)
met opened place bs fault at (comment o p text rest f a all stop first) = met_comment o p text rest f a all stop (met o (p + (1 + length text)) rest f a first)
met opened place bs fault at (token o p tree text rest f a flat h first) = met_token o p tree text rest f a (leaf_read tree p text rest flat h) (met o (p + length text) rest f a first)
met opened place bs fault at (opening o p rest f a few first) = met_opening o p rest f a few (met (p ∷ o) (p + 1) rest f a first)
met opened place bs fault at (closing group o p rest f a first) = met_closing group o p rest f a (met o (p + 1) rest f a first)
met opened place bs fault at (bad_token o p rest f a h) = met_fault o p rest f a (fault_read p rest f a h)
met opened place bs fault at (too_deep o p rest full) = met_too_deep o p rest full
met opened place bs fault at (stray p rest) = met_stray p rest
met opened place bs fault at (unclosed group o p) = met_unclosed group o p

-- the law
pub one_fault : (bytes : List ℕ) (one other : TextFault) → IsFirstFault bytes one → IsFirstFault bytes other → one ≡ other
one_fault bytes one other f g =
    let k : ℕ = suc (length bytes) in
    let same : Some (one.fault, one.place) ≡ Some (other.fault, other.place) = sym (met [] 0 bytes one.fault one.place f.first k (omega arith)) ∙ met [] 0 bytes other.fault other.place g.first k (omega arith) in
    let pair : (one.fault, one.place) ≡ (other.fault, other.place) = cc in
    λ i. record { place = ap (λ (p : Fault × ℕ). p.1) pair i; fault = ap (λ (p : Fault × ℕ). p.0) pair i; name = (f.nameless ∙ sym g.nameless) i }
