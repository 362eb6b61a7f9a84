-- Texts that are written as trees: for each form, the tree that it is at its place, and how texts side by side are trees side by side.
use Rattle.std.proofs.Common.{◌≡◌, ◌⊎◌, inl, inr, ℕ, ◌+◌, ◌≤◌, ◌<◌, ◌^◌, pos, Bool, true, false, not, ◌&&◌, ◌||◌, ◌==◌, cond, List, [], ◌∷◌, ◌++◌, length, codes, sym, refl, subst, arith}
use Rattle.std.specs.Prelude.{IsTrue, decimal}
use Rattle.std.specs.List.{list_all}
use Rattle.std.proofs.lemmas.Bool.{and_parts, or_cases, eqb-true}
use Rattle.std.proofs.Math.Nat.{max-le}
use Rattle.chc_sexpr.specs.Tokens.{is_white, is_symbol_byte, is_simple_symbol, is_reserved}
use Rattle.chc_sexpr.specs.Trees.{depth, depth_step, depth_all}
use Rattle.chc_sexpr.specs.Spelling.{is_gap, is_blank_in, is_quotable, is_keyword, stops, continues_binary, string_of, IsDecimal, IsHexadecimal, IsBinary, EachSpelled, LevelSpelled, TreeSpelled, Spells}
use Rattle.chc_sexpr.specs.Symbols.{is_bare, is_command_name, symbol_text}
use Rattle.chc_sexpr.specs.declared.tree.Tree.{Tree}
use Rattle.chc_sexpr.specs.declared.tree.Tree.TheOpen.{Tree-F}
use Rattle.chc_sexpr.specs.declared.tree.Tree.TheVariants.{Symbol, Word, Keyword, Numeral, Text, Other, Group}
use Rattle.chc_sexpr.proofs.Folds.{fold-Symbol, fold-Word, fold-Keyword, fold-Numeral, fold-Text, fold-Other, fold-Group}
use Rattle.chc_sexpr.proofs.Spelled.{shut, spelled-Symbol, spelled-Word, spelled-Keyword, spelled-Numeral, spelled-Text, spelled-Other, spelled-Group}

-- ---- what stands behind a tree

-- nothing, or white space or a parenthesis first: no token goes on there
abbrev pub is_parted : List ℕ → Bool
is_parted [] = true
is_parted (b ∷ bs) = is_white b || b == 40 || b == 41

stops_at : (test : ℕ → Bool) (c : ℕ) → IsTrue (not (test c)) → (b : ℕ) → IsTrue (b == c) → IsTrue (not (test b))
stops_at test c passes b is = subst (λ (x : ℕ). IsTrue (not (test x))) (sym (eqb-true b c is)) passes

-- a test that white space and parentheses don't pass
record Parts (test : ℕ → Bool) : Type 0 where
  space : IsTrue (not (test 32))
  feed : IsTrue (not (test 10))
  carriage : IsTrue (not (test 13))
  tab : IsTrue (not (test 9))
  opening : IsTrue (not (test 40))
  closing : IsTrue (not (test 41))

stops_white : (test : ℕ → Bool) → Parts test → (b : ℕ) → IsTrue (is_white b) → IsTrue (not (test b))
stops_white test p b h =
    elim (or_cases (b == 32 || b == 10 || b == 13) (b == 9) h) [
      | inr is ↦ stops_at test 9 p.tab b is
      | inl more ↦
          elim (or_cases (b == 32 || b == 10) (b == 13) more) [
            | inr is ↦ stops_at test 13 p.carriage b is
            | inl first ↦
                elim (or_cases (b == 32) (b == 10) first) [
                  | inl is ↦ stops_at test 32 p.space b is
                  | inr is ↦ stops_at test 10 p.feed b is
                ]
          ]
    ]

stops_parted : (test : ℕ → Bool) → Parts test → (after : List ℕ) → IsTrue (is_parted after) → IsTrue (stops test after)
stops_parted test p [] h = refl
stops_parted test p (b ∷ bs) h =
    elim (or_cases (is_white b || b == 40) (b == 41) h) [
      | inr is ↦ stops_at test 41 p.closing b is
      | inl more ↦
          elim (or_cases (is_white b) (b == 40) more) [
            | inr is ↦ stops_at test 40 p.opening b is
            | inl white ↦ stops_white test p b white
          ]
    ]

pub stops_symbol : (after : List ℕ) → IsTrue (is_parted after) → IsTrue (stops is_symbol_byte after)
stops_symbol = stops_parted is_symbol_byte (record { space = refl; feed = refl; carriage = refl; tab = refl; opening = refl; closing = refl })

pub stops_string : (after : List ℕ) → IsTrue (is_parted after) → IsTrue (stops (λ b. b == 34) after)
stops_string = stops_parted (λ b. b == 34) (record { space = refl; feed = refl; carriage = refl; tab = refl; opening = refl; closing = refl })

stops_binary : (after : List ℕ) → IsTrue (is_parted after) → IsTrue (stops continues_binary after)
stops_binary = stops_parted continues_binary (record { space = refl; feed = refl; carriage = refl; tab = refl; opening = refl; closing = refl })

-- ---- one tree

-- a tree of the kind that the text is at the place, in front of what is after it, and that is no deeper than so
pub record TreeAt (kind : Tree → Type 0) (deep place : ℕ) (text after : List ℕ) : Type 0 where
  pub tree : Tree
  pub is : kind tree
  pub shallow : depth tree ≤ deep
  pub spelled : TreeSpelled tree place text after

-- a text that is a tree of the kind wherever it stands
abbrev pub Writes : (Tree → Type 0) → ℕ → List ℕ → Type 0
Writes kind deep text = (place : ℕ) (after : List ℕ) → IsTrue (is_parted after) → TreeAt kind deep place text after

-- a tree of a kind is one of each wider kind, and of each greater depth
pub tree_of_kind : (kind wider : Tree → Type 0) (deep deeper : ℕ) → deep ≤ deeper → ((t : Tree) → kind t → wider t)
    → (place : ℕ) (text after : List ℕ) → TreeAt kind deep place text after → TreeAt wider deeper place text after
tree_of_kind kind wider deep deeper le widens place text after t =
    record { tree = t.tree; is = widens t.tree t.is; shallow = (let h = t.shallow in omega arith); spelled = t.spelled }

-- a decimal, hexadecimal or binary token
abbrev pub IsOtherToken : List ℕ → Type 0
IsOtherToken token = (IsDecimal token ⊎ IsHexadecimal token) ⊎ IsBinary token

other_stops : (token after : List ℕ) → IsTrue (is_parted after) → IsOtherToken token
    → ((IsDecimal token ⊎ IsHexadecimal token) × IsTrue (stops is_symbol_byte after)) ⊎ (IsBinary token × IsTrue (stops continues_binary after))
other_stops token after parted (inl form) = inl (form, stops_symbol after parted)
other_stops token after parted (inr form) = inr (form, stops_binary after parted)

module _ (kind : Tree → Type 0) (deep place : ℕ) where
  at_tree : (t : Tree) (level : Tree-F Tree) (text after : List ℕ) → TreeSpelled t ≡ LevelSpelled TreeSpelled level → kind t → depth t ≤ deep
      → LevelSpelled TreeSpelled level place text after → TreeAt kind deep place text after
  at_tree t level text after e is shallow h =
      record { tree = t; is = is; shallow = shallow; spelled = shut e place text after h }

  at_leaf : (t : Tree) (level : Tree-F Tree) (text after : List ℕ) → TreeSpelled t ≡ LevelSpelled TreeSpelled level → kind t → depth t ≡ 0
      → LevelSpelled TreeSpelled level place text after → TreeAt kind deep place text after
  at_leaf t level text after e is flat h = at_tree t level text after e is (omega arith) h

  -- a symbol without bars
  pub symbol_at : (name after : List ℕ) → IsTrue (is_parted after) → IsTrue (is_simple_symbol name) → IsTrue (not (is_reserved name)) → kind (Symbol place name)
      → TreeAt kind deep place name after
  symbol_at name after parted simple free is =
      at_leaf (Symbol place name) (Tree-F.Symbol place name) name after (spelled-Symbol place name) is (fold-Symbol ℕ depth_step place name)
      (refl, inl (refl, simple, free, stops_symbol after parted))

  -- a symbol between bars
  pub quoted_at : (name after : List ℕ) → IsTrue (list_all is_quotable name) → kind (Symbol place name) → TreeAt kind deep place (124 ∷ name ++ 124 ∷ []) after
  quoted_at name after quotable is =
      at_leaf (Symbol place name) (Tree-F.Symbol place name) (124 ∷ name ++ 124 ∷ []) after (spelled-Symbol place name) is (fold-Symbol ℕ depth_step place name)
      (refl, inr (refl, quotable))

  -- a reserved word
  pub word_at : (word after : List ℕ) → IsTrue (is_parted after) → IsTrue (is_reserved word) → kind (Word place word) → TreeAt kind deep place word after
  word_at word after parted reserved is =
      at_leaf (Word place word) (Tree-F.Word place word) word after (spelled-Word place word) is (fold-Word ℕ depth_step place word)
      (refl, refl, reserved, stops_symbol after parted)

  -- a keyword
  pub keyword_at : (word after : List ℕ) → IsTrue (is_parted after) → IsTrue (is_keyword word) → kind (Keyword place word) → TreeAt kind deep place word after
  keyword_at word after parted keyword is =
      at_leaf (Keyword place word) (Tree-F.Keyword place word) word after (spelled-Keyword place word) is (fold-Keyword ℕ depth_step place word)
      (refl, refl, keyword, stops_symbol after parted)

  -- a number in decimal
  pub numeral_at : (n : ℕ) (after : List ℕ) → IsTrue (is_parted after) → n < 2 ^ 127 → kind (Numeral place (pos n)) → TreeAt kind deep place (decimal n) after
  numeral_at n after parted small is =
      at_leaf (Numeral place (pos n)) (Tree-F.Numeral place (pos n)) (decimal n) after (spelled-Numeral place (pos n)) is (fold-Numeral ℕ depth_step place (pos n))
      (refl, n, refl, small, refl, stops_symbol after parted)

  -- a string
  pub string_at : (bytes after : List ℕ) → IsTrue (is_parted after) → kind (Text place bytes) → TreeAt kind deep place (string_of bytes) after
  string_at bytes after parted is =
      at_leaf (Text place bytes) (Tree-F.Text place bytes) (string_of bytes) after (spelled-Text place bytes) is (fold-Text ℕ depth_step place bytes)
      (refl, refl, stops_string after parted)

  -- a token of another form
  pub other_at : (token after : List ℕ) → IsTrue (is_parted after) → IsOtherToken token → kind (Other place token) → TreeAt kind deep place token after
  other_at token after parted form is =
      at_leaf (Other place token) (Tree-F.Other place token) token after (spelled-Other place token) is (fold-Other ℕ depth_step place token)
      (refl, refl, other_stops token after parted form)

-- a name is written as its symbol
name_by : (kind : Tree → Type 0) (deep : ℕ) (name : List ℕ) (bare : Bool) → is_bare name ≡ bare → IsTrue (list_all is_quotable name) → ((place : ℕ) → kind (Symbol place name))
    → Writes kind deep (cond bare name (codes "|" ++ name ++ codes "|"))
name_by kind deep name true e quotable is place after parted =
    let symbol = and_parts (is_simple_symbol name && not (is_reserved name)) (not (is_command_name name)) e in
    let parts = and_parts (is_simple_symbol name) (not (is_reserved name)) symbol.0 in
    symbol_at kind deep place name after parted parts.0 parts.1 (is place)
name_by kind deep name false e quotable is place after parted = quoted_at kind deep place name after quotable (is place)

pub name_writes : (kind : Tree → Type 0) (deep : ℕ) (name : List ℕ) → IsTrue (list_all is_quotable name) → ((place : ℕ) → kind (Symbol place name)) → Writes kind deep (symbol_text name)
unfolding symbol_text
name_writes kind deep name quotable is = name_by kind deep name (is_bare name) refl quotable is

-- ---- trees side by side

-- trees of the kind that the bytes from the place on are, and that are no deeper than so
pub record TreesAt (kind : List Tree → Type 0) (deep : ℕ) (ends : Bool) (place : ℕ) (bytes : List ℕ) : Type 0 where
  pub trees : List Tree
  pub are : kind trees
  pub shallow : depth_all trees ≤ deep
  pub spelled : EachSpelled TreeSpelled ends trees place bytes

-- no more trees: nothing but blanks
pub no_more_at : (kind : List Tree → Type 0) (deep : ℕ) (ends : Bool) (place : ℕ) (bytes : List ℕ) → IsTrue (is_blank_in ends false bytes) → kind [] → TreesAt kind deep ends place bytes
no_more_at kind deep ends place bytes blank is = record { trees = []; are = is; shallow = omega arith; spelled = blank }

-- a tree behind a gap, and more trees behind it
pub next_at : (first : Tree → Type 0) (rest kind : List Tree → Type 0) (deep : ℕ) (ends : Bool) (place : ℕ) (gap text after : List ℕ) → IsTrue (is_gap gap)
    → TreeAt first deep (place + length gap) text after → TreesAt rest deep ends (place + length gap + length text) after
    → ((t : Tree) (ts : List Tree) → first t → rest ts → kind (t ∷ ts)) → TreesAt kind deep ends place (gap ++ text ++ after)
next_at first rest kind deep ends place gap text after blank t ts joins =
    record { trees = t.tree ∷ ts.trees; are = joins t.tree ts.trees t.is ts.are; shallow = max-le t.shallow ts.shallow; spelled = (gap, text, after, refl, blank, t.spelled, ts.spelled) }

-- trees between two parentheses
pub group_at : (inside : List Tree → Type 0) (kind : Tree → Type 0) (deep place : ℕ) (inner after : List ℕ) → TreesAt inside deep false (place + 1) inner
    → ((ts : List Tree) → inside ts → kind (Group place ts)) → TreeAt kind (deep + 1) place (40 ∷ inner ++ 41 ∷ []) after
group_at inside kind deep place inner after ts is =
    let deepest : depth (Group place ts.trees) ≡ depth_all ts.trees + 1 = fold-Group ℕ depth_step place ts.trees in
    at_tree kind (deep + 1) place (Group place ts.trees) (Tree-F.Group place ts.trees) (40 ∷ inner ++ 41 ∷ []) after (spelled-Group place ts.trees) (is ts.trees ts.are)
    (let h = ts.shallow in omega arith) (refl, inner, refl, ts.spelled)

-- ---- whole texts

-- a text that is trees of the kind, at most 1,000 deep, spells them
pub spells_from : (kind : List Tree → Type 0) (bytes : List ℕ) → TreesAt kind 1000 true 0 bytes → (trees : List Tree) × Spells bytes trees × kind trees
spells_from kind bytes ts = (ts.trees, record { spelled = ts.spelled; shallow = ts.shallow }, ts.are)
