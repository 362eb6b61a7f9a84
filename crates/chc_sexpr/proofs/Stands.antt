-- What is read is spelled: a token that stands first in a text is what the text's front spells.
use Rattle.std.proofs.Common.{◌≡◌, ◌⊎◌, ℕ, suc, ◌+◌, ◌^◌, ◌≤◌, ◌<◌, pos, Bool, true, false, not, ◌&&◌, ◌||◌, cond, eqb, ltb, List, [], ◌∷◌, ◌++◌, length, map, take, drop, get_or, Option, Some, None, Result, Ok, Err, ap, sym, refl, subst, ◌∙◌, ⊎_elim, inl, inr, arith, append_assoc, append-nil, length-append, length-drop}
use Rattle.std.specs.List.{list_all, list_any, prefix_len, concat}
use Rattle.std.specs.Char.{is_ascii_digit, is_ascii_hexdigit}
use Rattle.std.specs.Str.Parse.{digits_value}
use Rattle.std.proofs.lemmas.Bool.{and_parts, and_from, and_cases, and_left, or_from, false_from_ne_true, not-true, not_from_false, cond-true, cond-false, false≢true, eqb-true, eqb-false, ne_eqb, ltb-true, ltb-false}
use Rattle.std.proofs.lemmas.List.{take_at, drop_at, take-append-drop, length-take-le, drop-drop}
use Rattle.std.proofs.lemmas.List.Folds.{length-prefix_len}
use Rattle.std.proofs.lemmas.List.Sums.{prefix_len-le-length}
use Rattle.chc_sexpr.specs.Trees.{depth, depth_step}
use Rattle.chc_sexpr.specs.Tokens.{is_white, is_symbol_byte, is_simple_symbol, is_reserved, is_whole_number}
use Rattle.chc_sexpr.specs.Spelling.{stops, starts, begins_nothing, begins_based, begins_fraction, IsNumber, RunsOn, after_numeral, after_decimal, after_hexadecimal, after_binary, IsTokenFault, nothing, lone_colon, lone_sharp, runs_on, backslash, open_quoted, open_string, needless_zero, too_large, is_quotable, is_keyword, is_run, IsDecimal, IsHexadecimal, IsBinary, is_binary_digit, continues_binary, in_string, string_of, TreeSpelled}
use Rattle.chc_sexpr.specs.Scanning.{fault_at, front, ended, symbol_at, keyword_at, quoted_of, quoted_at, with_byte, string_from, string_of_found, string_at, based_at, sharp_at, fraction_of, fraction, numeral_of, number_of, has_needless_zero, number_at, token_by, token_at}
use Rattle.chc_sexpr.specs.Drafts.{BeginsToken}
use Rattle.chc_sexpr.specs.declared.fault.Fault.{Fault}
use Rattle.chc_sexpr.specs.declared.fault.Fault.TheVariants.{BadByte, OpenString, OpenQuoted, LeadingZero, NumeralTooLarge}
use Rattle.chc_sexpr.specs.declared.fault.TextFault.{TextFault}
use Rattle.chc_sexpr.specs.declared.token.Token.{Token}
use Rattle.chc_sexpr.specs.declared.tree.Tree.TheVariants.{Symbol, Word, Keyword, Numeral, Other}
use Rattle.chc_sexpr.proofs.Decimals.{whole_from, decimal_whole}
use Rattle.chc_sexpr.proofs.Folds.{fold-Symbol, fold-Word, fold-Keyword, fold-Numeral, fold-Text, fold-Other}
use Rattle.chc_sexpr.proofs.Heads.{white_begins_none, semicolon_begins_none, close_begins_none}
use Rattle.chc_sexpr.proofs.Runs.{run_all, run_stops, digits_all}
use Rattle.chc_sexpr.proofs.Spelled.{spelled-Symbol, spelled-Word, spelled-Keyword, spelled-Numeral, spelled-Text, spelled-Other, shut}

-- the token is what a front of the text spells
pub record Stands (place : ℕ) (bs : List ℕ) (t : Token) : Type 0 where
  pub some : 0 < t.length
  pub within : t.length ≤ length bs
  pub spelled : TreeSpelled t.tree place (take t.length bs) (drop t.length bs)
  pub flat : depth t.tree ≡ 0

-- the fault is what is wrong with the token that begins there
pub record FaultStands (place : ℕ) (bs : List ℕ) (fault : TextFault) : Type 0 where
  pub token : IsTokenFault place bs fault.fault fault.place
  pub nameless : fault.name ≡ []

-- what is read stands: the token, or the fault
abbrev StandsIf : ℕ → List ℕ → Result Token TextFault → Type 0
StandsIf place bs (Ok t) = Stands place bs t
StandsIf place bs (Err fault) = FaultStands place bs fault

fault_stands : (place at : ℕ) (bs : List ℕ) (fault : Fault) → IsTokenFault place bs fault at → FaultStands place bs (fault_at at fault)
fault_stands place at bs fault t = record { token = t; nameless = refl }

-- by the test that decides
by_test : (place : ℕ) (bs : List ℕ) (b : Bool) (x y : Result Token TextFault) → (b ≡ true → StandsIf place bs x) → (b ≡ false → StandsIf place bs y) → StandsIf place bs (cond b x y)
by_test place bs true x y so else_so = so refl
by_test place bs false x y so else_so = else_so refl

runs_on_stands : (place n : ℕ) (bs : List ℕ) → n ≤ length bs → RunsOn (take n bs) (drop n bs) → FaultStands place bs (fault_at (place + n) BadByte)
runs_on_stands place n bs within r =
    let size : length (take n bs) ≡ n = length-take-le n bs within in
    fault_stands place (place + n) bs BadByte
    (subst (λ k. IsTokenFault place bs BadByte (place + k)) size
    (subst (λ text. IsTokenFault place text BadByte (place + length (take n bs))) (take-append-drop n bs) (runs_on (take n bs) (drop n bs) r)))

ended_stands : (tail : ℕ → Bool) (place : ℕ) (bs : List ℕ) (t : Token) → t.length ≤ length bs → (stops tail (drop t.length bs) ≡ true → Stands place bs t) → (starts tail (drop t.length bs) ≡ true → RunsOn (take t.length bs) (drop t.length bs)) → StandsIf place bs (ended tail place bs t)
ended_stands tail place bs t within so on =
    let rest = drop t.length bs in
    by_test place bs (stops tail rest) (Ok t) _ so (λ e. runs_on_stands place t.length bs within (on (not_from_false (stops tail rest) e)))

-- a run that begins with a byte of its kind
run_begins : (test : ℕ → Bool) (b : ℕ) (bs : List ℕ) → test b ≡ true → prefix_len test (b ∷ bs) ≡ suc (prefix_len test bs)
run_begins test b bs e = let s : 1 + prefix_len test bs ≡ suc (prefix_len test bs) = omega arith in cond-true (test b) _ _ e ∙ s

-- symbols and words
simple_front : (b : ℕ) (bs : List ℕ) → is_ascii_digit b ≡ false → is_symbol_byte b ≡ true → is_simple_symbol (take (prefix_len is_symbol_byte (b ∷ bs)) (b ∷ bs)) ≡ true
simple_front b bs d s =
    let n = run_begins is_symbol_byte b bs s in
    let all : list_all is_symbol_byte (b ∷ take (prefix_len is_symbol_byte bs) bs) ≡ true = ap (λ m. list_all is_symbol_byte (take m (b ∷ bs))) (sym n) ∙ run_all is_symbol_byte (b ∷ bs) in
    ap (λ m. is_simple_symbol (take m (b ∷ bs))) n ∙ and_from (not (is_ascii_digit b)) (list_all is_symbol_byte (b ∷ take (prefix_len is_symbol_byte bs) bs)) (not_from_false (is_ascii_digit b) d) all

word_spelled : (r : Bool) (place : ℕ) (name after : List ℕ) → is_reserved name ≡ r → is_simple_symbol name ≡ true → stops is_symbol_byte after ≡ true → TreeSpelled (cond r (Word place name) (Symbol place name)) place name after
word_spelled true place name after r s end = shut (spelled-Word place name) place name after (refl, refl, r, end)
word_spelled false place name after r s end = shut (spelled-Symbol place name) place name after (refl, inl (refl, s, not_from_false (is_reserved name) r, end))

word_flat : (r : Bool) (place : ℕ) (name : List ℕ) → depth (cond r (Word place name) (Symbol place name)) ≡ 0
word_flat true place name = fold-Word ℕ depth_step place name
word_flat false place name = fold-Symbol ℕ depth_step place name

symbol_stands : (place b : ℕ) (bs : List ℕ) → is_ascii_digit b ≡ false → is_symbol_byte b ≡ true → StandsIf place (b ∷ bs) (symbol_at place (b ∷ bs))
symbol_stands place b bs d s =
    let text = b ∷ bs in
    let n : ℕ = prefix_len is_symbol_byte text in
    record {
      some = omega (arith, run_begins is_symbol_byte b bs s);
      within = prefix_len-le-length is_symbol_byte text;
      spelled = word_spelled (is_reserved (take n text)) place (take n text) (drop n text) refl (simple_front b bs d s) (run_stops is_symbol_byte text);
      flat = word_flat (is_reserved (take n text)) place (take n text);
    }

-- keywords
no_run : (test : ℕ → Bool) (bs : List ℕ) → prefix_len test bs ≡ 0 → stops test bs ≡ true
no_run test bs e = ap (λ n. stops test (drop n bs)) (sym e) ∙ run_stops test bs

keyword_front : (n : ℕ) (bs : List ℕ) → list_all is_symbol_byte (take n bs) ≡ true → 0 < length (take n bs) → is_keyword (take (1 + n) (58 ∷ bs)) ≡ true
keyword_front n bs all some =
    let s : 1 + n ≡ suc n = omega arith in
    ap (λ m. is_keyword (take m (58 ∷ bs))) s ∙ of_run (take n bs) all some
  where
    of_run : (cs : List ℕ) → list_all is_symbol_byte cs ≡ true → 0 < length cs → is_keyword (58 ∷ cs) ≡ true
    of_run [] all some = absurd (omega arith)
    of_run (c ∷ cs) all some = all

keyword_stands : (place : ℕ) (bs : List ℕ) → StandsIf place (58 ∷ bs) (keyword_at place (58 ∷ bs))
keyword_stands place bs =
    let n : ℕ = prefix_len is_symbol_byte bs in
    let text = 58 ∷ bs in
    let s : 1 + n ≡ suc n = omega arith in
    by_test place text (eqb n 0) _ (Ok (front (Keyword place) (1 + n) text)) (λ e. fault_stands place place text BadByte (lone_colon bs (no_run is_symbol_byte bs (eqb-true n 0 e)))) (λ e.
    let some : n ≡ 0 → ⊥ = eqb-false n 0 e in
    let fits = prefix_len-le-length is_symbol_byte bs in
    let end : stops is_symbol_byte (drop (1 + n) text) ≡ true = ap (λ m. stops is_symbol_byte (drop m text)) s ∙ run_stops is_symbol_byte bs in
    record {
      some = omega arith;
      within = omega (arith, fits);
      spelled = shut (spelled-Keyword place (take (1 + n) text)) place (take (1 + n) text) (drop (1 + n) text)
          (refl, refl, keyword_front n bs (run_all is_symbol_byte bs) (omega (arith, some, length-prefix_len is_symbol_byte bs)), end);
      flat = fold-Keyword ℕ depth_step place (take (1 + n) text);
    })

-- quoted symbols
not_quotable : (c : ℕ) → eqb c 124 ≡ false → not (is_quotable c) ≡ true → c ≡ 92
not_quotable c e h = eqb-true c 92 (by_bar (eqb c 124) (eqb c 92) e h)
  where
    by_bar : (t u : Bool) → t ≡ false → not (not (t || u)) ≡ true → u ≡ true
    by_bar true u f k = absurd (false≢true (sym f))
    by_bar false true f k = refl
    by_bar false false f k = k

quoted_rest : (place n : ℕ) (name rest bs : List ℕ) → n ≡ length name → bs ≡ name ++ rest → list_all is_quotable name ≡ true → stops is_quotable rest ≡ true → StandsIf place (124 ∷ bs) (quoted_of n place name rest)
quoted_rest place n name [] bs size is all stop =
    fault_stands place place (124 ∷ bs) OpenQuoted (subst (λ t. IsTokenFault place (124 ∷ t) OpenQuoted place) (sym (is ∙ append-nil name)) (open_quoted name all))
quoted_rest place n name (c ∷ cs) bs size is all stop = by_test place (124 ∷ bs) (eqb c 124) (Ok (record { tree = Symbol place name; length = n + 2 })) _ (λ e.
    let text = 124 ∷ name ++ 124 ∷ [] in
    let whole : 124 ∷ bs ≡ text ++ cs = ap (λ r. 124 ∷ r) (is ∙ ap (λ d. name ++ d ∷ cs) (eqb-true c 124 e) ∙ sym (append_assoc name (124 ∷ []) cs)) in
    let long : length text ≡ n + 2 = omega (arith, size, length-append name (124 ∷ [])) in
    let front : take (n + 2) (124 ∷ bs) ≡ text = ap (take (n + 2)) whole ∙ take_at text cs (n + 2) long in
    let total : length (124 ∷ bs) ≡ length text + length cs = ap length whole ∙ length-append text cs in
    record {
      some = omega arith;
      within = omega (arith, total, long);
      spelled = shut (spelled-Symbol place name) place (take (n + 2) (124 ∷ bs)) (drop (n + 2) (124 ∷ bs)) (refl, inr (front, all));
      flat = fold-Symbol ℕ depth_step place name;
    }) (λ e. fault_stands place (place + (1 + n)) (124 ∷ bs) BadByte
    (subst (λ t. IsTokenFault place (124 ∷ t) BadByte (place + (1 + n))) (sym (is ∙ ap (λ d. name ++ d ∷ cs) (not_quotable c e stop)))
    (subst (λ k. IsTokenFault place (124 ∷ name ++ 92 ∷ cs) BadByte (place + (1 + k))) (sym size) (backslash name cs all))))

quoted_stands : (place : ℕ) (bs : List ℕ) → StandsIf place (124 ∷ bs) (quoted_at place (124 ∷ bs))
quoted_stands place bs =
    let n : ℕ = prefix_len is_quotable bs in
    quoted_rest place n (take n bs) (drop n bs) bs (sym (length-prefix_len is_quotable bs)) (sym (take-append-drop n bs)) (run_all is_quotable bs) (run_stops is_quotable bs)

-- strings
record IsStringFront (bs : List ℕ) (found : List ℕ × ℕ) : Type 0 where
  rest : List ℕ
  whole : bs ≡ (concat (map in_string found.0) ++ 34 ∷ []) ++ rest
  size : length (concat (map in_string found.0) ++ 34 ∷ []) ≡ found.1
  end : stops (λ b. eqb b 34) rest ≡ true

abbrev IsStringIf : List ℕ → Option (List ℕ × ℕ) → Type 0
IsStringIf bs None = (bytes : List ℕ) × (bs ≡ concat (map in_string bytes))
IsStringIf bs (Some found) = IsStringFront bs found

string_if : (bs : List ℕ) (b : Bool) (x y : Option (List ℕ × ℕ)) → (b ≡ true → IsStringIf bs x) → (b ≡ false → IsStringIf bs y) → IsStringIf bs (cond b x y)
string_if bs true x y so else_so = so refl
string_if bs false x y so else_so = else_so refl

-- a string grows by a byte in front
string_longer : (b w : ℕ) (bs : List ℕ) (found : Option (List ℕ × ℕ)) → length (in_string b) ≡ w → IsStringIf bs found → IsStringIf (in_string b ++ bs) (with_byte b w found)
string_longer b w bs None size h = (b ∷ h.0, ap (λ r. in_string b ++ r) h.1)
string_longer b w bs (Some found) size h =
    let more : List ℕ = concat (map in_string found.0) in
    let regroup : (in_string b ++ more) ++ 34 ∷ [] ≡ in_string b ++ (more ++ 34 ∷ []) = append_assoc (in_string b) more (34 ∷ []) in
    record {
      rest = h.rest;
      whole = ap (λ r. in_string b ++ r) h.whole ∙ sym (append_assoc (in_string b) (more ++ 34 ∷ []) h.rest) ∙ ap (λ t. t ++ h.rest) (sym regroup);
      size = ap length regroup ∙ length-append (in_string b) (more ++ 34 ∷ []) ∙ (λ i. size i + h.size i);
      end = h.end;
    }

one_byte : (b : ℕ) → eqb b 34 ≡ false → in_string b ≡ b ∷ []
one_byte b e = cond-false (eqb b 34) _ _ e

two_bytes : (b : ℕ) → eqb b 34 ≡ true → in_string b ≡ b ∷ b ∷ []
two_bytes b e = cond-true (eqb b 34) _ _ e

string_ended : (bs : List ℕ) (b : ℕ) → eqb b 34 ≡ true → stops (λ c. eqb c 34) bs ≡ true → IsStringFront (b ∷ bs) ([], 1)
string_ended bs b e end = record { rest = bs; whole = ap (λ d. d ∷ bs) (eqb-true b 34 e); size = refl; end = end }

string_front : (bs : List ℕ) → IsStringIf bs (string_from bs)
string_front [] = ([], refl)
string_front (b ∷ []) = string_if (b ∷ []) (eqb b 34) (Some ([], 1)) None (λ e. string_ended [] b e refl) (λ e. (b ∷ [], ap (λ r. r ++ []) (sym (one_byte b e))))
string_front (b ∷ c ∷ bs) =
    let after : IsStringIf bs (string_from bs) = string_front bs in
    let next : IsStringIf (c ∷ bs) (string_from (c ∷ bs)) = string_front (c ∷ bs) in
    let doubled : eqb b 34 ≡ true → eqb c 34 ≡ true → IsStringIf (b ∷ c ∷ bs) (with_byte 34 2 (string_from bs)) = λ e f.
    subst (λ t. IsStringIf t (with_byte 34 2 (string_from bs))) (λ i. sym (eqb-true b 34 e) i ∷ sym (eqb-true c 34 f) i ∷ bs) (string_longer 34 2 bs (string_from bs) refl after) in
    string_if (b ∷ c ∷ bs) (eqb b 34) (cond (eqb c 34) (with_byte 34 2 (string_from bs)) (Some ([], 1))) (with_byte b 1 (string_from (c ∷ bs)))
    (λ e. string_if (b ∷ c ∷ bs) (eqb c 34) (with_byte 34 2 (string_from bs)) (Some ([], 1)) (doubled e) (λ f. string_ended (c ∷ bs) b e (not_from_false (eqb c 34) f)))
    (λ e. subst (λ t. IsStringIf (t ++ (c ∷ bs)) (with_byte b 1 (string_from (c ∷ bs)))) (one_byte b e) (string_longer b 1 (c ∷ bs) (string_from (c ∷ bs)) (ap length (one_byte b e)) next))

string_found : (place : ℕ) (bs : List ℕ) (found : Option (List ℕ × ℕ)) → IsStringIf bs found → StandsIf place (34 ∷ bs) (string_of_found place found)
string_found place bs None h = fault_stands place place (34 ∷ bs) OpenString (subst (λ t. IsTokenFault place (34 ∷ t) OpenString place) (sym h.1) (open_string h.0))
string_found place bs (Some found) h =
    let text = string_of found.0 in
    let whole : 34 ∷ bs ≡ text ++ h.rest = ap (λ r. 34 ∷ r) h.whole in
    let long : length text ≡ 1 + found.1 = omega (arith, h.size) in
    let front : take (1 + found.1) (34 ∷ bs) ≡ text = ap (take (1 + found.1)) whole ∙ take_at text h.rest (1 + found.1) long in
    let behind : drop (1 + found.1) (34 ∷ bs) ≡ h.rest = ap (drop (1 + found.1)) whole ∙ drop_at text h.rest (1 + found.1) long in
    let total : length (34 ∷ bs) ≡ length text + length h.rest = ap length whole ∙ length-append text h.rest in
    record {
      some = omega arith;
      within = omega (arith, total, long);
      spelled = shut (spelled-Text place found.0) place (take (1 + found.1) (34 ∷ bs)) (drop (1 + found.1) (34 ∷ bs)) (refl, front, ap (stops (λ b. eqb b 34)) behind ∙ h.end);
      flat = fold-Text ℕ depth_step place found.0;
    }

string_stands : (place : ℕ) (bs : List ℕ) → StandsIf place (34 ∷ bs) (string_at place (34 ∷ bs))
string_stands place bs = string_found place bs (string_from bs) (string_front bs)

-- tokens that begin with a sharp
run_from : (test : ℕ → Bool) (bs : List ℕ) → list_all test bs ≡ true → 0 < length bs → is_run test bs ≡ true
run_from test [] all some = absurd (omega arith)
run_from test (b ∷ bs) all some = all

based_stands : (digit tail : ℕ → Bool) (place a b : ℕ) (bs : List ℕ) →
    ((text after : List ℕ) → is_run digit text ≡ true → stops tail after ≡ true → TreeSpelled (Other place (a ∷ b ∷ text)) place (a ∷ b ∷ text) after) →
    ((text after : List ℕ) → is_run digit text ≡ true → stops digit after ≡ true → starts tail after ≡ true → RunsOn (a ∷ b ∷ text) after) →
    (stops digit bs ≡ true → IsTokenFault place (a ∷ b ∷ bs) BadByte place) →
    StandsIf place (a ∷ b ∷ bs) (based_at digit tail place (a ∷ b ∷ bs))
based_stands digit tail place a b bs made on none =
    let n : ℕ = prefix_len digit bs in
    let text = a ∷ b ∷ bs in
    let s : 2 + n ≡ suc (suc n) = omega arith in
    let front : take (2 + n) text ≡ a ∷ b ∷ take n bs = ap (λ m. take m text) s in
    let fits : 2 + n ≤ length text = omega (arith, prefix_len-le-length digit bs) in
    let behind : drop n bs ≡ drop (2 + n) text = ap (λ m. drop m text) (sym s) in
    by_test place text (eqb n 0) _ (ended tail place text (front_token (2 + n) text)) (λ e. fault_stands place place text BadByte (none (no_run digit bs (eqb-true n 0 e)))) (λ e.
    let some : n ≡ 0 → ⊥ = eqb-false n 0 e in
    let run = run_from digit (take n bs) (run_all digit bs) (omega (arith, some, length-prefix_len digit bs)) in
    ended_stands tail place text (front_token (2 + n) text) fits (λ end. record {
      some = omega arith;
      within = fits;
      spelled = subst (λ t. TreeSpelled (Other place t) place t (drop (2 + n) text)) (sym front) (made (take n bs) (drop (2 + n) text) run end);
      flat = fold-Other ℕ depth_step place (take (2 + n) text);
    })
    (λ more. subst (λ t. RunsOn t (drop (2 + n) text)) (sym front) (on (take n bs) (drop (2 + n) text) run (ap (stops digit) (sym behind) ∙ run_stops digit bs) more)))
  where
    front_token : ℕ → List ℕ → Token
    front_token m bytes = front (Other place) m bytes

other_spelled : (place : ℕ) (token after : List ℕ) → ((IsDecimal token ⊎ IsHexadecimal token) × (stops is_symbol_byte after ≡ true)) ⊎ (IsBinary token × (stops continues_binary after ≡ true)) → TreeSpelled (Other place token) place token after
other_spelled place token after h = shut (spelled-Other place token) place token after (refl, refl, h)

no_digit : (digit : ℕ → Bool) (b : ℕ) (bs : List ℕ) → stops digit (b ∷ bs) ≡ true → digit b ≡ false
no_digit digit b bs h = not-true (digit b) h

no_hexadecimal : (bs : List ℕ) → stops is_ascii_hexdigit bs ≡ true → begins_based (120 ∷ bs) ≡ false
no_hexadecimal [] h = refl
no_hexadecimal (b ∷ bs) h = or_from (true && is_ascii_hexdigit b) false (not-true (is_ascii_hexdigit b) h) refl

no_binary : (bs : List ℕ) → stops is_binary_digit bs ≡ true → begins_based (98 ∷ bs) ≡ false
no_binary [] h = refl
no_binary (b ∷ bs) h = not-true (is_binary_digit b) h

no_base : (c : ℕ) (bs : List ℕ) → eqb c 120 ≡ false → eqb c 98 ≡ false → begins_based (c ∷ bs) ≡ false
no_base c [] e f = refl
no_base c (b ∷ bs) e f = or_from (eqb c 120 && is_ascii_hexdigit b) (eqb c 98 && is_binary_digit b) (and_left (eqb c 120) (is_ascii_hexdigit b) e) (and_left (eqb c 98) (is_binary_digit b) f)

hexadecimal_stands : (place : ℕ) (bs : List ℕ) → StandsIf place (35 ∷ 120 ∷ bs) (based_at is_ascii_hexdigit is_symbol_byte place (35 ∷ 120 ∷ bs))
hexadecimal_stands place bs = based_stands is_ascii_hexdigit is_symbol_byte place 35 120 bs
    (λ digits after run end. other_spelled place (35 ∷ 120 ∷ digits) after (inl (inr (digits, refl, run), end)))
    (λ digits after run longest more. after_hexadecimal (digits, refl, run) longest more)
    (λ none. lone_sharp (120 ∷ bs) (no_hexadecimal bs none))

binary_stands : (place : ℕ) (bs : List ℕ) → StandsIf place (35 ∷ 98 ∷ bs) (based_at is_binary_digit continues_binary place (35 ∷ 98 ∷ bs))
binary_stands place bs = based_stands is_binary_digit continues_binary place 35 98 bs
    (λ digits after run end. other_spelled place (35 ∷ 98 ∷ digits) after (inr ((digits, refl, run), end)))
    (λ digits after run longest more. after_binary (digits, refl, run) longest more)
    (λ none. lone_sharp (98 ∷ bs) (no_binary bs none))

sharp_stands : (place : ℕ) (bs : List ℕ) → StandsIf place (35 ∷ bs) (sharp_at place (35 ∷ bs))
sharp_stands place [] = fault_stands place place (35 ∷ []) BadByte (lone_sharp [] refl)
sharp_stands place (c ∷ bs) =
    let text = 35 ∷ c ∷ bs in
    by_test place text (eqb c 120) (based_at is_ascii_hexdigit is_symbol_byte place text) _
    (λ e. subst (λ d. StandsIf place (35 ∷ d ∷ bs) (based_at is_ascii_hexdigit is_symbol_byte place (35 ∷ d ∷ bs))) (sym (eqb-true c 120 e)) (hexadecimal_stands place bs))
    (λ e. by_test place text (eqb c 98) (based_at is_binary_digit continues_binary place text) _
    (λ f. subst (λ d. StandsIf place (35 ∷ d ∷ bs) (based_at is_binary_digit continues_binary place (35 ∷ d ∷ bs))) (sym (eqb-true c 98 f)) (binary_stands place bs))
    (λ f. fault_stands place place text BadByte (lone_sharp (c ∷ bs) (no_base c bs e f))))

-- numbers
record IsFraction (rest : List ℕ) (m : ℕ) : Type 0 where
  digits : List ℕ
  front : take m rest ≡ 46 ∷ digits
  run : is_run is_ascii_digit digits ≡ true
  within : m ≤ length rest
  longest : stops is_ascii_digit (drop m rest) ≡ true

fraction_pointed : (bs : List ℕ) (k m : ℕ) → prefix_len is_ascii_digit bs ≡ k → fraction_of k ≡ m → (m ≡ 0 → ⊥) → IsFraction (46 ∷ bs) m
fraction_pointed bs k m same e some = by_count (eqb k 0) refl
  where
    by_count : (z : Bool) → eqb k 0 ≡ z → IsFraction (46 ∷ bs) m
    by_count true z = absurd (some (sym e ∙ cond-true (eqb k 0) _ _ z))
    by_count false z =
        let is : m ≡ 1 + k = sym e ∙ cond-false (eqb k 0) _ _ z in
        let s : m ≡ suc k = omega arith in
        let more : k ≡ 0 → ⊥ = eqb-false k 0 z in
        let size : length (take k bs) ≡ k = ap (λ j. length (take j bs)) (sym same) ∙ length-prefix_len is_ascii_digit bs ∙ same in
        let all : list_all is_ascii_digit (take k bs) ≡ true = ap (λ j. list_all is_ascii_digit (take j bs)) (sym same) ∙ run_all is_ascii_digit bs in
        record {
          digits = take k bs;
          front = ap (λ j. take j (46 ∷ bs)) s;
          run = run_from is_ascii_digit (take k bs) all (omega (arith, more, size));
          within = omega (arith, prefix_len-le-length is_ascii_digit bs);
          longest = ap (λ j. stops is_ascii_digit (drop j (46 ∷ bs))) s ∙ ap (λ j. stops is_ascii_digit (drop j bs)) (sym same) ∙ run_stops is_ascii_digit bs;
        }

fraction_front : (rest : List ℕ) (m : ℕ) → fraction rest ≡ m → (m ≡ 0 → ⊥) → IsFraction rest m
fraction_front [] m e some = absurd (some (sym e))
fraction_front (b ∷ bs) m e some = by_point (eqb b 46) refl
  where
    by_point : (t : Bool) → eqb b 46 ≡ t → IsFraction (b ∷ bs) m
    by_point true t =
        subst (λ d. IsFraction (d ∷ bs) m) (sym (eqb-true b 46 t))
        (fraction_pointed bs (prefix_len is_ascii_digit bs) m refl (sym (cond-true (eqb b 46) _ _ t) ∙ e) some)
    by_point false t = absurd (some (sym e ∙ cond-false (eqb b 46) _ _ t))

whole_front : (n b : ℕ) (bs : List ℕ) → n ≡ suc (prefix_len is_ascii_digit bs) → n ≡ prefix_len is_ascii_digit (b ∷ bs) → has_needless_zero n (b ∷ bs) ≡ false → is_whole_number (take n (b ∷ bs)) ≡ true
whole_front n b bs s same lead =
    let m : ℕ = prefix_len is_ascii_digit bs in
    let all : list_all is_ascii_digit (take n (b ∷ bs)) ≡ true = ap (λ j. list_all is_ascii_digit (take j (b ∷ bs))) same ∙ run_all is_ascii_digit (b ∷ bs) in
    let size : length (take n (b ∷ bs)) ≡ n = ap (λ j. length (take j (b ∷ bs))) same ∙ length-prefix_len is_ascii_digit (b ∷ bs) ∙ sym same in
    let first : get_or (take n (b ∷ bs)) 0 0 ≡ b = ap (λ j. get_or (take j (b ∷ bs)) 0 0) s in
    whole_from (take n (b ∷ bs)) (omega (arith, size))
    (λ h. ⊎_elim (λ short. omega (arith, size, ltb-false 1 n short)) (λ other. absurd (eqb-false b 48 other (sym first ∙ h))) (and_cases (ltb 1 n) (eqb b 48) lead))
    (digits_all (take n (b ∷ bs)) all)

no_fraction : (rest : List ℕ) → fraction rest ≡ 0 → begins_fraction rest ≡ false
no_fraction [] e = refl
no_fraction (b ∷ []) e = refl
no_fraction (b ∷ c ∷ cs) e = by_point (eqb b 46) (is_ascii_digit c) (prefix_len is_ascii_digit cs) e
  where
    by_point : (t d : Bool) (k : ℕ) → cond t (fraction_of (cond d (1 + k) 0)) 0 ≡ 0 → (t && d) ≡ false
    by_point true true k h = absurd (omega (arith, sym (cond-false (eqb (1 + k) 0) 0 (1 + (1 + k)) (ne_eqb (1 + k) 0 (λ z. omega arith))) ∙ h))
    by_point true false k h = refl
    by_point false d k h = refl

numeral_stands : (place n : ℕ) (bs : List ℕ) → 0 < n → n ≤ length bs → IsNumber (take n bs) (drop n bs) → StandsIf place bs (numeral_of n place bs)
numeral_stands place n bs some within number =
    let whole = number.whole in
    let ds = take n bs in
    let v : ℕ = digits_value 10 ds in
    let t : Token = record { tree = Numeral place (pos v); length = n } in
    by_test place bs (ltb v (2 ^ 127)) (ended is_symbol_byte place bs t) _ (λ e.
    let small = ltb-true v (2 ^ 127) e in
    ended_stands is_symbol_byte place bs t within (λ end. record {
      some = some;
      within = within;
      spelled = shut (spelled-Numeral place (pos v)) place ds (drop n bs) (refl, v, refl, small, sym (decimal_whole ds whole small), end);
      flat = fold-Numeral ℕ depth_step place (pos v);
    }) (λ more. after_numeral number small more))
    (λ e. fault_stands place place bs NumeralTooLarge (subst (λ text. IsTokenFault place text NumeralTooLarge place) (take-append-drop n bs) (too_large ds (drop n bs) number (ltb-false v (2 ^ 127) e))))

decimal_stands : (place n m : ℕ) (bs : List ℕ) → 0 < n → n ≤ length bs → is_whole_number (take n bs) ≡ true → IsFraction (drop n bs) m → StandsIf place bs (ended is_symbol_byte place bs (front (Other place) (n + m) bs))
decimal_stands place n m bs some within whole f =
    let rest = drop n bs in
    let ds = take n bs in
    let token = ds ++ 46 ∷ f.digits in
    let parts : bs ≡ token ++ drop m rest =
    sym (take-append-drop n bs) ∙ ap (λ r. ds ++ r) (sym (take-append-drop m rest)) ∙ ap (λ r. ds ++ (r ++ drop m rest)) f.front ∙ sym (append_assoc ds (46 ∷ f.digits) (drop m rest)) in
    let size : length token ≡ n + m = length-append ds (46 ∷ f.digits) ∙ (λ i. length-take-le n bs within i + ap length (sym f.front) i) ∙ ap (λ k. n + k) (length-take-le m rest f.within) in
    let front_is : take (n + m) bs ≡ token = ap (take (n + m)) parts ∙ take_at token (drop m rest) (n + m) size in
    let fits : n + m ≤ length bs = omega (arith, within, f.within, length-drop n bs) in
    let behind : drop (n + m) bs ≡ drop m rest = sym (drop-drop m n bs) in
    ended_stands is_symbol_byte place bs (front (Other place) (n + m) bs) fits (λ end. record {
      some = omega arith;
      within = fits;
      spelled = subst (λ t. TreeSpelled (Other place t) place t (drop (n + m) bs)) (sym front_is)
          (other_spelled place token (drop (n + m) bs) (inl (inl (ds, f.digits, refl, whole, f.run), end)));
      flat = fold-Other ℕ depth_step place (take (n + m) bs);
    })
    (λ more. subst (λ t. RunsOn t (drop (n + m) bs)) (sym front_is) (after_decimal (ds, f.digits, refl, whole, f.run) (ap (stops is_ascii_digit) behind ∙ f.longest) more))

number_of_stands : (place n m : ℕ) (bs : List ℕ) → 0 < n → n ≤ length bs → is_whole_number (take n bs) ≡ true → stops is_ascii_digit (drop n bs) ≡ true → fraction (drop n bs) ≡ m → StandsIf place bs (number_of m n place bs)
number_of_stands place n m bs some within whole longest f =
    by_test place bs (eqb m 0) (numeral_of n place bs) _ (λ e. numeral_stands place n bs some within (record { whole = whole; longest = longest; alone = no_fraction (drop n bs) (f ∙ eqb-true m 0 e) }))
    (λ e. decimal_stands place n m bs some within whole (fraction_front (drop n bs) m f (eqb-false m 0 e)))

next_digit : (bs : List ℕ) → 0 < prefix_len is_ascii_digit bs → (c : ℕ) × (cs : List ℕ) × (bs ≡ c ∷ cs) × (is_ascii_digit c ≡ true)
next_digit [] some = absurd (omega arith)
next_digit (c ∷ cs) some = (c, cs, refl, by_digit (is_ascii_digit c) (prefix_len is_ascii_digit cs) some)
  where
    by_digit : (d : Bool) (k : ℕ) → 0 < cond d (1 + k) 0 → d ≡ true
    by_digit true k h = refl
    by_digit false k h = absurd (omega arith)

needless : (place n b : ℕ) (bs : List ℕ) → n ≡ suc (prefix_len is_ascii_digit bs) → has_needless_zero n (b ∷ bs) ≡ true → IsTokenFault place (b ∷ bs) LeadingZero place
needless place n b bs s h =
    let parts = and_parts (ltb 1 n) (eqb b 48) h in
    let next = next_digit bs (omega (arith, ltb-true 1 n parts.0)) in
    subst (λ t. IsTokenFault place t LeadingZero place) (λ i. sym (eqb-true b 48 parts.1) i ∷ sym next.2 i) (needless_zero next.0 next.1 next.3)

number_stands : (place b : ℕ) (bs : List ℕ) → is_ascii_digit b ≡ true → StandsIf place (b ∷ bs) (number_at place (b ∷ bs))
number_stands place b bs d =
    let text = b ∷ bs in
    let n : ℕ = prefix_len is_ascii_digit text in
    let s = run_begins is_ascii_digit b bs d in
    by_test place text (has_needless_zero n text) _ (number_of (fraction (drop n text)) n place text) (λ e. fault_stands place place text LeadingZero (needless place n b bs s e))
    (λ e. number_of_stands place n (fraction (drop n text)) text (omega arith) (prefix_len-le-length is_ascii_digit text) (whole_front n b bs s refl e) (run_stops is_ascii_digit text) refl)

-- any token
nothing_begins : (b : ℕ) → BeginsToken b → is_symbol_byte b ≡ false → eqb b 124 ≡ false → eqb b 34 ≡ false → eqb b 58 ≡ false → eqb b 35 ≡ false → begins_nothing b ≡ true
nothing_begins b t s q r k h =
    let c59 = ne_eqb b 59 t.comment in
    let c40 = ne_eqb b 40 t.opening in
    let c41 = ne_eqb b 41 t.closing in
    let w = t.white in
    let n = or_from (eqb b 124) (eqb b 34 || (eqb b 58 || (eqb b 35 || (eqb b 59 || (eqb b 40 || (eqb b 41 || false)))))) q
    (or_from (eqb b 34) (eqb b 58 || (eqb b 35 || (eqb b 59 || (eqb b 40 || (eqb b 41 || false))))) r
    (or_from (eqb b 58) (eqb b 35 || (eqb b 59 || (eqb b 40 || (eqb b 41 || false)))) k
    (or_from (eqb b 35) (eqb b 59 || (eqb b 40 || (eqb b 41 || false))) h
    (or_from (eqb b 59) (eqb b 40 || (eqb b 41 || false)) c59
    (or_from (eqb b 40) (eqb b 41 || false) c40
    (or_from (eqb b 41) false c41 refl)))))) in
    and_from (not (is_symbol_byte b) && not (is_white b)) (not (list_any (λ c. eqb b c) (124 ∷ 34 ∷ 58 ∷ 35 ∷ 59 ∷ 40 ∷ 41 ∷ [])))
    (and_from (not (is_symbol_byte b)) (not (is_white b)) (not_from_false (is_symbol_byte b) s) (not_from_false (is_white b) w))
    (not_from_false (list_any (λ c. eqb b c) (124 ∷ 34 ∷ 58 ∷ 35 ∷ 59 ∷ 40 ∷ 41 ∷ [])) n)

by_first : (place b : ℕ) (bs : List ℕ) → BeginsToken b → StandsIf place (b ∷ bs) (token_by b place (b ∷ bs))
by_first place b bs begins =
    let whole = b ∷ bs in
    by_test place whole (is_ascii_digit b) (number_at place whole) _ (number_stands place b bs) (λ d.
    by_test place whole (is_symbol_byte b) (symbol_at place whole) _ (symbol_stands place b bs d) (λ s.
    by_test place whole (eqb b 124) (quoted_at place whole) _ (λ e. subst (λ c. StandsIf place (c ∷ bs) (quoted_at place (c ∷ bs))) (sym (eqb-true b 124 e)) (quoted_stands place bs)) (λ q.
    by_test place whole (eqb b 34) (string_at place whole) _ (λ e. subst (λ c. StandsIf place (c ∷ bs) (string_at place (c ∷ bs))) (sym (eqb-true b 34 e)) (string_stands place bs)) (λ r.
    by_test place whole (eqb b 58) (keyword_at place whole) _ (λ e. subst (λ c. StandsIf place (c ∷ bs) (keyword_at place (c ∷ bs))) (sym (eqb-true b 58 e)) (keyword_stands place bs)) (λ k.
    by_test place whole (eqb b 35) (sharp_at place whole) _ (λ e. subst (λ c. StandsIf place (c ∷ bs) (sharp_at place (c ∷ bs))) (sym (eqb-true b 35 e)) (sharp_stands place bs)) (λ h. fault_stands place place whole BadByte (nothing b bs (nothing_begins b begins s q r k h))))))))

-- with what a token begins
pub token_begins : (place b : ℕ) (bs : List ℕ) (t : Token) → token_at place (b ∷ bs) ≡ Ok t → BeginsToken b
token_begins place b bs t e = record {
  white = false_from_ne_true (is_white b) (λ w. (white_begins_none b w).token place bs t e);
  comment = λ f. semicolon_begins_none.token place bs t (ap (λ c. token_at place (c ∷ bs)) (sym f) ∙ e);
  opening = λ f. let h = ap (λ c. token_at place (c ∷ bs)) (sym f) ∙ e in cc;
  closing = λ f. close_begins_none.token place bs t (ap (λ c. token_at place (c ∷ bs)) (sym f) ∙ e);
}

-- what is read is spelled
pub stands : (place : ℕ) (bs : List ℕ) (t : Token) → token_at place bs ≡ Ok t → Stands place bs t
stands place [] t e = absurd cc
stands place (b ∷ bs) t e = subst (StandsIf place (b ∷ bs)) e (by_first place b bs (token_begins place b bs t e))

-- and a fault stands where one is read
pub faulty : (place b : ℕ) (bs : List ℕ) (fault : TextFault) → BeginsToken b → token_at place (b ∷ bs) ≡ Err fault → FaultStands place (b ∷ bs) fault
faulty place b bs fault begins e = subst (StandsIf place (b ∷ bs)) e (by_first place b bs begins)
