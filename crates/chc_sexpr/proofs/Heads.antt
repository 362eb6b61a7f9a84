-- The first tree of a text that stands side by side with others, in a group or outside.
use Rattle.std.proofs.Common.{◌≡◌, ◌⊎◌, ℕ, ◌+◌, ℤ, Bool, true, false, ◌&&◌, ◌||◌, eqb, List, [], ◌∷◌, ◌++◌, length, Ok, ap, sym, refl, subst, ◌∙◌, ⊎_elim, inl, inr, arith, append_assoc, append-nil}
use Rattle.std.proofs.lemmas.Bool.{and_parts, or_cases, false≢true, eqb-true, not_from_false}
use Rattle.chc_sexpr.specs.Tokens.{is_white, is_symbol_byte}
use Rattle.chc_sexpr.specs.Spelling.{is_blank_in, is_gap, stops, continues_binary, IsDecimal, IsHexadecimal, IsBinary, EachSpelled, LevelSpelled, TreeSpelled}
use Rattle.chc_sexpr.specs.Scanning.{token_at}
use Rattle.chc_sexpr.specs.declared.token.Token.{Token}
use Rattle.chc_sexpr.specs.declared.tree.Tree.{Tree}
use Rattle.chc_sexpr.specs.declared.tree.Tree.TheOpen.{Tree-F}
use Rattle.chc_sexpr.specs.declared.tree.Tree.TheVariants.{Symbol, Word, Keyword, Numeral, Text, Other, Group}
use Rattle.chc_sexpr.proofs.Folds.{tree_ind}
use Rattle.chc_sexpr.proofs.Scans.{Reads, as_token, as_group, reads}
use Rattle.chc_sexpr.proofs.Spelled.{spelled-Symbol, spelled-Word, spelled-Keyword, spelled-Numeral, spelled-Text, spelled-Other, spelled-Group, opened, shut}

-- what follows trees side by side: nothing where they are a whole text, or the `)` of their group
pub data IsTail : Bool → List ℕ → Type 0 where
  whole : IsTail true []
  closing : {c : ℕ} {after : List ℕ} → c ≡ 41 → IsTail false (c ∷ after)

-- texts that stop the same tests, of those that a `)` stops
abbrev StopAlike : List ℕ → List ℕ → Type 0
StopAlike xs ys = (test : ℕ → Bool) → test 41 ≡ false → stops test xs ≡ stops test ys

alike_closing : (xs after : List ℕ) → StopAlike xs (xs ++ 41 ∷ after)
alike_closing [] after test h = sym (not_from_false (test 41) h)
alike_closing (x ∷ xs) after test h = refl

alike_tail : (ends : Bool) (tail xs : List ℕ) → IsTail ends tail → StopAlike xs (xs ++ tail)
alike_tail true [] xs whole test h = ap (stops test) (sym (append-nil xs))
alike_tail false (c ∷ after) xs (closing e) test h = alike_closing xs after test h ∙ ap (λ d. stops test (xs ++ d ∷ after)) (sym e)
alike_tail false [] xs is test h = elim is [ ]
alike_tail true (c ∷ after) xs is test h = elim is [ ]

alike_back : (xs ys : List ℕ) → StopAlike xs ys → StopAlike ys xs
alike_back xs ys s test h = sym (s test h)

-- a tree's text is its text in front of any that stops the same tests
abbrev SpelledAlike : Tree → Type 0
SpelledAlike tree = (place : ℕ) (text xs ys : List ℕ) → StopAlike xs ys → TreeSpelled tree place text xs → TreeSpelled tree place text ys

symbol_alike : (at : ℕ) (name : List ℕ) → SpelledAlike (Symbol at name)
symbol_alike at name place text xs ys s h = shut (spelled-Symbol at name) place text ys (by_form (opened (spelled-Symbol at name) place text xs h))
  where
    by_form : LevelSpelled TreeSpelled (Tree-F.Symbol at name) place text xs → LevelSpelled TreeSpelled (Tree-F.Symbol at name) place text ys
    by_form (e, inl simple) = (e, inl (simple.0, simple.1, simple.2, sym (s is_symbol_byte refl) ∙ simple.3))
    by_form (e, inr quoted) = (e, inr quoted)

word_alike : (at : ℕ) (name : List ℕ) → SpelledAlike (Word at name)
word_alike at name place text xs ys s h =
    let l = opened (spelled-Word at name) place text xs h in
    shut (spelled-Word at name) place text ys (l.0, l.1, l.2, sym (s is_symbol_byte refl) ∙ l.3)

keyword_alike : (at : ℕ) (name : List ℕ) → SpelledAlike (Keyword at name)
keyword_alike at name place text xs ys s h =
    let l = opened (spelled-Keyword at name) place text xs h in
    shut (spelled-Keyword at name) place text ys (l.0, l.1, l.2, sym (s is_symbol_byte refl) ∙ l.3)

numeral_alike : (at : ℕ) (number : ℤ) → SpelledAlike (Numeral at number)
numeral_alike at number place text xs ys s h =
    let l = opened (spelled-Numeral at number) place text xs h in
    shut (spelled-Numeral at number) place text ys (l.0, l.1, l.2, l.3, l.4, sym (s is_symbol_byte refl) ∙ l.5)

text_alike : (at : ℕ) (bytes : List ℕ) → SpelledAlike (Text at bytes)
text_alike at bytes place text xs ys s h =
    let l = opened (spelled-Text at bytes) place text xs h in
    shut (spelled-Text at bytes) place text ys (l.0, l.1, sym (s (λ b. eqb b 34) refl) ∙ l.2)

other_alike : (at : ℕ) (token : List ℕ) → SpelledAlike (Other at token)
other_alike at token place text xs ys s h =
    let l = opened (spelled-Other at token) place text xs h in
    shut (spelled-Other at token) place text ys (l.0, l.1, by_form l.2)
  where
    by_form : ((IsDecimal token ⊎ IsHexadecimal token) × (stops is_symbol_byte xs ≡ true)) ⊎ (IsBinary token × (stops continues_binary xs ≡ true)) →
        ((IsDecimal token ⊎ IsHexadecimal token) × (stops is_symbol_byte ys ≡ true)) ⊎ (IsBinary token × (stops continues_binary ys ≡ true))
    by_form (inl (d, end)) = inl (d, sym (s is_symbol_byte refl) ∙ end)
    by_form (inr (d, end)) = inr (d, sym (s continues_binary refl) ∙ end)

group_alike : (at : ℕ) (trees : List Tree) → SpelledAlike (Group at trees)
group_alike at trees place text xs ys s h = shut (spelled-Group at trees) place text ys (opened (spelled-Group at trees) place text xs h)

alike : (tree : Tree) → SpelledAlike tree
alike = tree_ind SpelledAlike (record {
  symbol = symbol_alike;
  word = word_alike;
  keyword = keyword_alike;
  numeral = numeral_alike;
  text = text_alike;
  other = other_alike;
  group = λ at trees inner. group_alike at trees;
})

-- what ends the trees of a group may stand behind each of them or not
pub longer : (ends : Bool) (tail : List ℕ) → IsTail ends tail → (tree : Tree) (place : ℕ) (text after : List ℕ) → TreeSpelled tree place text after → TreeSpelled tree place text (after ++ tail)
longer ends tail is tree place text after = alike tree place text after (after ++ tail) (alike_tail ends tail after is)

pub shorter : (ends : Bool) (tail : List ℕ) → IsTail ends tail → (tree : Tree) (place : ℕ) (text after : List ℕ) → TreeSpelled tree place text (after ++ tail) → TreeSpelled tree place text after
shorter ends tail is tree place text after = alike tree place text (after ++ tail) after (alike_back after (after ++ tail) (alike_tail ends tail after is))

-- a byte with which no tree begins
pub record BeginsNone (b : ℕ) : Type 0 where
  pub token : (place : ℕ) (bs : List ℕ) (t : Token) → token_at place (b ∷ bs) ≡ Ok t → ⊥
  pub group : b ≡ 40 → ⊥

white_byte : (P : ℕ → Type 0) → P 32 → P 10 → P 13 → P 9 → (b : ℕ) → is_white b ≡ true → P b
white_byte P space feed return tab b h =
    ⊎_elim (λ e.
    ⊎_elim (λ e.
    ⊎_elim (λ e. subst P (sym (eqb-true b 32 e)) space) (λ e. subst P (sym (eqb-true b 10 e)) feed) (or_cases (eqb b 32) (eqb b 10) e))
    (λ e. subst P (sym (eqb-true b 13 e)) return) (or_cases (eqb b 32 || eqb b 10) (eqb b 13) e))
    (λ e. subst P (sym (eqb-true b 9 e)) tab) (or_cases ((eqb b 32 || eqb b 10) || eqb b 13) (eqb b 9) h)

pub white_begins_none : (b : ℕ) → is_white b ≡ true → BeginsNone b
white_begins_none = white_byte BeginsNone
    (record { token = λ place bs t e. cc; group = λ e. omega arith })
    (record { token = λ place bs t e. cc; group = λ e. omega arith })
    (record { token = λ place bs t e. cc; group = λ e. omega arith })
    (record { token = λ place bs t e. cc; group = λ e. omega arith })

pub semicolon_begins_none : BeginsNone 59
semicolon_begins_none = record { token = λ place bs t e. cc; group = λ e. omega arith }

pub close_begins_none : BeginsNone 41
close_begins_none = record { token = λ place bs t e. cc; group = λ e. omega arith }

-- no text of a tree begins with such a byte, and none is empty
pub not_begun : (b : ℕ) → BeginsNone b → (tree : Tree) (place : ℕ) (text after bs : List ℕ) → b ∷ bs ≡ text ++ after → TreeSpelled tree place text after → ⊥
not_begun b n tree place text after bs e h = by_read (reads tree place text after h)
  where
    by_read : Reads tree place text after → ⊥
    by_read (as_token r) = n.token place bs _ (ap (token_at place) e ∙ r)
    by_read (as_group g) = n.group (let w = e ∙ ap (λ t. t ++ after) g.whole in cc)

pub not_empty : (tree : Tree) (place : ℕ) (text after : List ℕ) → [] ≡ text ++ after → TreeSpelled tree place text after → ⊥
not_empty tree place text after e h = by_read (reads tree place text after h)
  where
    by_read : Reads tree place text after → ⊥
    by_read (as_token r) = let w = ap (token_at place) e ∙ r in cc
    by_read (as_group g) = let w = e ∙ ap (λ t. t ++ after) g.whole in cc

-- a byte that is no white space and begins no comment
pub record IsSolid (b : ℕ) : Type 0 where
  pub white : is_white b ≡ false
  pub comment : eqb b 59 ≡ false

pub solid_is_no_blank : (inside : Bool) (b : ℕ) (bs : List ℕ) → IsSolid b → is_blank_in inside false (b ∷ bs) ≡ true → ⊥
solid_is_no_blank inside b bs s h =
    ⊎_elim (λ w. false≢true (sym s.white ∙ (and_parts (is_white b) (is_blank_in inside false bs) w).0))
    (λ c. false≢true (sym s.comment ∙ (and_parts (eqb b 59) (is_blank_in inside true bs) c).0))
    (or_cases (is_white b && is_blank_in inside false bs) (eqb b 59 && is_blank_in inside true bs) h)

-- the first tree of some, and what stands behind it
pub record Head (ends : Bool) (tail bs : List ℕ) (place : ℕ) (more : List Tree) : Type 0 where
  pub tree : Tree
  pub rest : List Tree
  pub text : List ℕ
  pub after : List ℕ
  pub is : more ≡ tree ∷ rest
  pub whole : bs ≡ text ++ (after ++ tail)
  pub spelled : TreeSpelled tree place text (after ++ tail)
  pub each : EachSpelled TreeSpelled ends rest (place + length text) after

head_of : (ends : Bool) (tail : List ℕ) → IsTail ends tail → (b : ℕ) (inner : List ℕ) → IsSolid b → (more : List Tree) (place : ℕ) → EachSpelled TreeSpelled ends more place (b ∷ inner) → Head ends tail ((b ∷ inner) ++ tail) place more
head_of ends tail is b inner s [] place h = absurd (solid_is_no_blank ends b inner s h)
head_of ends tail is b inner s (x ∷ xs) place (([]), text, after, e, gap, spelled, each) =
    let z : place + length {A = ℕ} [] ≡ place = omega arith in
    record {
      tree = x;
      rest = xs;
      text = text;
      after = after;
      is = refl;
      whole = ap (λ bs. bs ++ tail) e ∙ append_assoc text after tail;
      spelled = longer ends tail is x place text after (subst (λ p. TreeSpelled x p text after) z spelled);
      each = subst (λ p. EachSpelled TreeSpelled ends xs (p + length text) after) z each;
    }
head_of ends tail is b inner s (x ∷ xs) place ((c ∷ cs), text, after, e, gap, spelled, each) =
    let same : c ≡ b = cc in
    absurd (solid_is_no_blank false b cs s (ap (λ d. is_gap (d ∷ cs)) (sym same) ∙ gap))

-- trees of a text that begins with a solid byte, but no `)`
pub head : (ends : Bool) (tail : List ℕ) → IsTail ends tail → (b : ℕ) (bs inner : List ℕ) → IsSolid b → (b ≡ 41 → ⊥) → inner ++ tail ≡ b ∷ bs → (more : List Tree) (place : ℕ) → EachSpelled TreeSpelled ends more place inner → Head ends tail (b ∷ bs) place more
head true [] whole b bs [] s apart e more place h = absurd cc
head false (c ∷ after) (closing k) b bs [] s apart e more place h = absurd (apart cc)
head false [] is b bs [] s apart e more place h = elim is [ ]
head true (c ∷ after) is b bs [] s apart e more place h = elim is [ ]
head ends tail is b bs (c ∷ inner) s apart e more place h =
    let same : c ≡ b = cc in
    let solid : IsSolid c = subst IsSolid (sym same) s in
    subst (λ text. Head ends tail text place more) e (head_of ends tail is c inner solid more place h)
