-- The text of a spelled tree is spelled by that tree again, up to places.
use Rattle.std.proofs.Common.{◌≡◌, ◌∙◌, inl, inr, ℕ, zero, suc, ◌+◌, ◌≤◌, ◌<◌, ℤ, pos, Bool, true, false, not, ◌||◌, ◌==◌, List, [], ◌∷◌, ◌++◌, length, map, ap, sym, refl, subst, append-nil, arith}
use Rattle.std.specs.Prelude.{IsTrue, decimal, slice_index_or}
use Rattle.std.specs.Char.{is_ascii_digit}
use Rattle.std.specs.Fmt.{signed_decimal}
use Rattle.std.specs.List.{list_all, AllByRecursion}
use Rattle.std.proofs.lemmas.Bool.{and_parts, and_from, eqb-true, false≢true}
use Rattle.chc_sexpr.specs.Tokens.{is_symbol_byte, is_simple_symbol}
use Rattle.chc_sexpr.specs.Trees.{depth, depth_step, depth_all}
use Rattle.chc_sexpr.specs.Spelling.{is_gap, is_quotable, string_of, EachSpelled, LevelSpelled, TreeSpelled, Spells}
use Rattle.chc_sexpr.specs.Symbols.{symbol_text}
use Rattle.chc_sexpr.specs.Writing.{spaced, joined, text_step, tree_text, unplaced_step, unplaced, AreReadAgain}
use Rattle.chc_sexpr.specs.declared.tree.Tree.{Tree}
use Rattle.chc_sexpr.specs.declared.tree.Tree.TheOpen.{Tree-F}
use Rattle.chc_sexpr.specs.declared.tree.Tree.TheVariants.{Symbol, Word, Keyword, Numeral, Text, Other, Group}
use Rattle.chc_sexpr.proofs.Folds.{fold-Symbol, fold-Word, fold-Keyword, fold-Numeral, fold-Text, fold-Other, fold-Group, tree_ind}
use Rattle.chc_sexpr.proofs.Spelled.{opened, spelled-Symbol, spelled-Word, spelled-Keyword, spelled-Numeral, spelled-Other, spelled-Group}
use Rattle.chc_sexpr.proofs.Written.{is_parted, TreeAt, Writes, TreesAt, tree_of_kind, word_at, name_writes, keyword_at, numeral_at, string_at, IsOtherToken, other_at, no_more_at, next_at, group_at, spells_from}

-- the tree is the same but for its places
abbrev IsLike : Tree → Tree → Type 0
IsLike tree other = unplaced other ≡ unplaced tree

-- a tree's text is spelled by a tree that is like it
abbrev IsReadAgain : Tree → Type 0
IsReadAgain tree = Writes (IsLike tree) (depth tree) (tree_text tree)

-- so it is where some text spells the tree
abbrev Again : Tree → Type 0
Again tree = (place : ℕ) (text after : List ℕ) → TreeSpelled tree place text after → IsReadAgain tree

-- ---- names

quotable_byte : (b : ℕ) (bar slash : Bool) → (b == 124) ≡ bar → (b == 92) ≡ slash → is_symbol_byte b ≡ true → not (bar || slash) ≡ true
quotable_byte b true slash is other h = absurd (false≢true (ap is_symbol_byte (sym (eqb-true b 124 is)) ∙ h))
quotable_byte b false true other is h = absurd (false≢true (ap is_symbol_byte (sym (eqb-true b 92 is)) ∙ h))
quotable_byte b false false other is h = refl

quotable_bytes : (bs : List ℕ) → list_all is_symbol_byte bs ≡ true → list_all is_quotable bs ≡ true
quotable_bytes [] h = refl
quotable_bytes (b ∷ bs) h =
    let parts = and_parts (is_symbol_byte b) (list_all is_symbol_byte bs) h in
    and_from (is_quotable b) (list_all is_quotable bs) (quotable_byte b (b == 124) (b == 92) refl refl parts.0) (quotable_bytes bs parts.1)

-- a simple symbol can stand between bars
quotable_simple : (name : List ℕ) → is_simple_symbol name ≡ true → list_all is_quotable name ≡ true
quotable_simple [] h = refl
quotable_simple (b ∷ bs) h = quotable_bytes (b ∷ bs) (and_parts (not (is_ascii_digit b)) (list_all is_symbol_byte (b ∷ bs)) h).1

-- what the name of a spelled symbol is like
quotable_name : (at : ℕ) (name : List ℕ) (place : ℕ) (text after : List ℕ) → LevelSpelled TreeSpelled (Tree-F.Symbol at name) place text after → IsTrue (list_all is_quotable name)
quotable_name at name place text after (e, inl (same, simple, free, stop)) = quotable_simple name simple
quotable_name at name place text after (e, inr (same, quotable)) = quotable

-- ---- tokens

-- what is shown of the text that a tree's text comes to is shown of the tree
as_text : (tree : Tree) (text : List ℕ) → tree_text tree ≡ text → Writes (IsLike tree) (depth tree) text → IsReadAgain tree
as_text tree text e w = subst (Writes (IsLike tree) (depth tree)) (sym e) w

symbol_again : (at : ℕ) (name : List ℕ) → Again (Symbol at name)
symbol_again at name place text after h =
    let quotable = quotable_name at name place text after (opened (spelled-Symbol at name) place text after h) in
    as_text (Symbol at name) (symbol_text name) (fold-Symbol (List ℕ) text_step at name)
    (name_writes (IsLike (Symbol at name)) (depth (Symbol at name)) name quotable
    (λ other. fold-Symbol Tree unplaced_step other name ∙ sym (fold-Symbol Tree unplaced_step at name)))

word_again : (at : ℕ) (word : List ℕ) → Again (Word at word)
word_again at word place text after h =
    let l = opened (spelled-Word at word) place text after h in
    as_text (Word at word) word (fold-Word (List ℕ) text_step at word)
    (λ other behind parted. word_at (IsLike (Word at word)) (depth (Word at word)) other word behind parted l.2
    (fold-Word Tree unplaced_step other word ∙ sym (fold-Word Tree unplaced_step at word)))

keyword_again : (at : ℕ) (word : List ℕ) → Again (Keyword at word)
keyword_again at word place text after h =
    let l = opened (spelled-Keyword at word) place text after h in
    as_text (Keyword at word) word (fold-Keyword (List ℕ) text_step at word)
    (λ other behind parted. keyword_at (IsLike (Keyword at word)) (depth (Keyword at word)) other word behind parted l.2
    (fold-Keyword Tree unplaced_step other word ∙ sym (fold-Keyword Tree unplaced_step at word)))

numeral_again : (at : ℕ) (number : ℤ) → Again (Numeral at number)
numeral_again at number place text after h =
    let l = opened (spelled-Numeral at number) place text after h in
    let n : ℕ = l.1 in
    let is : number ≡ pos n = l.2 in
    as_text (Numeral at number) (decimal n) (fold-Numeral (List ℕ) text_step at number ∙ ap signed_decimal is)
    (λ other behind parted. numeral_at (IsLike (Numeral at number)) (depth (Numeral at number)) other n behind parted l.3
    (fold-Numeral Tree unplaced_step other (pos n) ∙ ap (Numeral 0) (sym is) ∙ sym (fold-Numeral Tree unplaced_step at number)))

text_again : (at : ℕ) (bytes : List ℕ) → Again (Text at bytes)
text_again at bytes place text after h =
    as_text (Text at bytes) (string_of bytes) (fold-Text (List ℕ) text_step at bytes)
    (λ other behind parted. string_at (IsLike (Text at bytes)) (depth (Text at bytes)) other bytes behind parted
    (fold-Text Tree unplaced_step other bytes ∙ sym (fold-Text Tree unplaced_step at bytes)))

form_of : (at : ℕ) (token : List ℕ) (place : ℕ) (text after : List ℕ) → LevelSpelled TreeSpelled (Tree-F.Other at token) place text after → IsOtherToken token
form_of at token place text after (e, same, inl form) = inl form.0
form_of at token place text after (e, same, inr form) = inr form.0

other_again : (at : ℕ) (token : List ℕ) → Again (Other at token)
other_again at token place text after h =
    let form = form_of at token place text after (opened (spelled-Other at token) place text after h) in
    as_text (Other at token) token (fold-Other (List ℕ) text_step at token)
    (λ other behind parted. other_at (IsLike (Other at token)) (depth (Other at token)) other token behind parted form
    (fold-Other Tree unplaced_step other token ∙ sym (fold-Other Tree unplaced_step at token)))

-- ---- groups

-- trees that are like these, one by one
abbrev AreLike : List Tree → List Tree → Type 0
AreLike trees others = map unplaced others ≡ map unplaced trees

like_more : (x t : Tree) (xs ts : List Tree) → IsLike x t → AreLike xs ts → AreLike (x ∷ xs) (t ∷ ts)
like_more x t xs ts is are = λ i. is i ∷ are i

-- every tree that some text spells side by side with others is one of which the claim holds
all_again : (ends : Bool) (xs : List Tree) (place : ℕ) (bs : List ℕ) → AllByRecursion Again xs → EachSpelled TreeSpelled ends xs place bs → AllByRecursion IsReadAgain xs
all_again ends [] place bs all h = tt
all_again ends (x ∷ xs) place bs all (gap, text, after, e, blank, spelled, each) =
    (all.0 (place + length gap) text after spelled, all_again ends xs (place + length gap + length text) after all.1 each)

parted_spaced : (ts : List (List ℕ)) → is_parted (spaced ts) ≡ true
parted_spaced [] = refl
parted_spaced (t ∷ ts) = refl

-- the first of some trees is written behind a gap, and the others behind it
first_at : (deep : ℕ) (x : Tree) (xs : List Tree) (gap : List ℕ) → is_gap gap ≡ true → depth x ≤ deep → (place : ℕ) → IsReadAgain x
    → ((behind : ℕ) → TreesAt (AreLike xs) deep false behind (spaced (map tree_text xs))) → TreesAt (AreLike (x ∷ xs)) deep false place (gap ++ tree_text x ++ spaced (map tree_text xs))
first_at deep x xs gap blank small place writes others =
    let after : List ℕ = spaced (map tree_text xs) in
    let at : ℕ = place + length gap in
    next_at (IsLike x) (AreLike xs) (AreLike (x ∷ xs)) deep false place gap (tree_text x) after blank
    (tree_of_kind (IsLike x) (IsLike x) (depth x) deep small (λ t is. is) at (tree_text x) after (writes at after (parted_spaced (map tree_text xs))))
    (others (at + length (tree_text x)))
    (λ t ts is are. like_more x t xs ts is are)

spaced_at : (deep : ℕ) (xs : List Tree) → depth_all xs ≤ deep → AllByRecursion IsReadAgain xs → (place : ℕ) → TreesAt (AreLike xs) deep false place (spaced (map tree_text xs))
spaced_at deep [] small all place = no_more_at (AreLike []) deep false place [] refl refl
spaced_at deep (x ∷ xs) small all place = first_at deep x xs (32 ∷ []) refl (omega arith) place all.0 (spaced_at deep xs (omega arith) all.1)

joined_at : (deep : ℕ) (xs : List Tree) → depth_all xs ≤ deep → AllByRecursion IsReadAgain xs → (place : ℕ) → TreesAt (AreLike xs) deep false place (joined (map tree_text xs))
joined_at deep [] small all place = no_more_at (AreLike []) deep false place [] refl refl
joined_at deep (x ∷ xs) small all place = first_at deep x xs [] refl (omega arith) place all.0 (spaced_at deep xs (omega arith) all.1)

group_again : (at : ℕ) (xs : List Tree) → AllByRecursion Again xs → Again (Group at xs)
group_again at xs inner place text after h =
    let l = opened (spelled-Group at xs) place text after h in
    let all : AllByRecursion IsReadAgain xs = all_again false xs (place + 1) l.1 inner l.3 in
    let deepest : depth (Group at xs) ≡ depth_all xs + 1 = fold-Group ℕ depth_step at xs in
    let like : (other : ℕ) (ts : List Tree) → AreLike xs ts → IsLike (Group at xs) (Group other ts) =
    λ other ts are. fold-Group Tree unplaced_step other ts ∙ ap (Group 0) are ∙ sym (fold-Group Tree unplaced_step at xs) in
    as_text (Group at xs) (40 ∷ joined (map tree_text xs) ++ 41 ∷ []) (fold-Group (List ℕ) text_step at xs)
    (λ other behind parted.
    subst (λ deep. TreeAt (IsLike (Group at xs)) deep other (40 ∷ joined (map tree_text xs) ++ 41 ∷ []) behind) (sym deepest)
    (group_at (AreLike xs) (IsLike (Group at xs)) (depth_all xs) other (joined (map tree_text xs)) behind (joined_at (depth_all xs) xs (omega arith) all (other + 1)) (like other)))

again : (tree : Tree) → Again tree
again = tree_ind Again (record {
  symbol = symbol_again;
  word = word_again;
  keyword = keyword_again;
  numeral = numeral_again;
  text = text_again;
  other = other_again;
  group = group_again;
})

-- ---- whole texts

agains : (ts : List Tree) → AllByRecursion Again ts
agains [] = tt
agains (t ∷ ts) = (again t, agains ts)

no_deeper : (n : ℕ) (ts : List Tree) → depth_all ts ≤ n → AllByRecursion (λ t. depth t ≤ n) ts
no_deeper n [] h = tt
no_deeper n (t ∷ ts) h = (omega arith, no_deeper n ts (omega arith))

-- what holds of each of some trees holds of one of them
of_one : (P : Tree → Type 0) (ts : List Tree) (tree : Tree) (k : ℕ) → AllByRecursion P ts → k < length ts → slice_index_or ts k tree ≡ tree → P tree
of_one P [] tree k all h is = absurd (omega arith)
of_one P (t ∷ ts) tree zero all h is = subst P is all.0
of_one P (t ∷ ts) tree (suc k) all h is = of_one P ts tree k all.1 (omega arith) is

-- the trees are one that is like the tree
abbrev IsOneLike : Tree → List Tree → Type 0
IsOneLike tree trees = (other : Tree) × (trees ≡ other ∷ []) × IsLike tree other

alone : (tree : Tree) → depth tree ≤ 1000 → IsReadAgain tree → (trees : List Tree) × Spells (tree_text tree) trees × IsOneLike tree trees
alone tree small writes =
    let text : List ℕ = tree_text tree in
    let first : TreeAt (IsLike tree) 1000 0 text [] = tree_of_kind (IsLike tree) (IsLike tree) (depth tree) 1000 small (λ t is. is) 0 text [] (writes 0 [] refl) in
    let none : TreesAt (λ ts. ts ≡ []) 1000 true (0 + length text) [] = no_more_at (λ ts. ts ≡ []) 1000 true (0 + length text) [] refl refl in
    let all : TreesAt (IsOneLike tree) 1000 true 0 (text ++ []) =
    next_at (IsLike tree) (λ ts. ts ≡ []) (IsOneLike tree) 1000 true 0 [] text [] refl first none (λ t ts is e. (t, ap (λ more. t ∷ more) e, is)) in
    spells_from (IsOneLike tree) text (subst (TreesAt (IsOneLike tree) 1000 true 0) (append-nil text) all)

pub read_again : AreReadAgain
read_again bytes trees s tree (k, within, is) =
    let all : AllByRecursion IsReadAgain trees = all_again true trees 0 bytes (agains trees) s.spelled in
    let writes : IsReadAgain tree = of_one IsReadAgain trees tree k all within is in
    let small : depth tree ≤ 1000 = of_one (λ t. depth t ≤ 1000) trees tree k (no_deeper 1000 trees s.shallow) within is in
    let one = alone tree small writes in
    (one.2.0, subst (Spells (tree_text tree)) one.2.1 one.1, one.2.2)
