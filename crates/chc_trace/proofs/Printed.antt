-- The lines of a trace say it.
use Rattle.std.proofs.Common.{◌≡◌, ◌∙◌, ◌<◌, ◌≤◌, ◌^◌, ◌+◌, ℕ, pos, true, false, List, [], ◌∷◌, ◌++◌, length, map, codes, sym, ap, refl, subst, arith, append_assoc}
use Rattle.std.specs.Prelude.{IsTrue, decimal}
use Rattle.std.specs.List.{concat, list_all, All, AllByRecursion}
use Rattle.std.proofs.lemmas.List.Elements.{All-head, All-tail}
use Rattle.hex.specs.Hex.{encode_lower}
use Rattle.chc_sexpr.specs.Spelling.{is_gap, is_quotable, string_of}
use Rattle.chc_sexpr.specs.Writing.{spaced, joined, text_step, tree_text, unplaced_step, unplaced}
use Rattle.chc_sexpr.specs.declared.tree.Tree.{Tree}
use Rattle.chc_sexpr.specs.declared.tree.Tree.TheVariants.{Symbol, Text, Group}
use Rattle.chc_sexpr.proofs.Folds.{fold-Symbol, fold-Numeral, fold-Text, fold-Group}
use Rattle.chc_sexpr.proofs.Written.{is_parted, Writes, TreesAt, tree_of_kind, name_writes, numeral_at, string_at, no_more_at, next_at, group_at, spells_from}
use Rattle.chc_state.specs.declared.step.Step.{Step}
use Rattle.chc_state.specs.declared.step.Step.TheVariants as step
use Rattle.chc_trace.specs.declared.trace.Trace.{Trace}
use Rattle.chc_trace.specs.Kinds.{word_of, parts_of, HasSmallNumbers}
use Rattle.chc_trace.specs.Numbers.{number, AreSmall}
use Rattle.chc_trace.specs.Traces.{form, mark_tree, source_tree, step_tree, target_tree, trace_trees, line, trace_lines, IsDigest, SaysTrace}
use Rattle.chc_trace.proofs.Texts.{number_text, string_text, word_fits}

-- ---- one tree

-- the tree is that one but for its places
abbrev IsLike : Tree → Tree → Type 0
IsLike tree t = unplaced t ≡ tree

-- the tree's text is spelled by a tree that is like it, and no deeper than so
abbrev IsWritten : ℕ → Tree → Type 0
IsWritten deep tree = Writes (IsLike tree) deep (tree_text tree)

deeper : (less more : ℕ) → less ≤ more → (tree : Tree) → IsWritten less tree → IsWritten more tree
deeper less more le tree w place after parted = tree_of_kind (IsLike tree) (IsLike tree) less more le (λ t is. is) place (tree_text tree) after (w place after parted)

-- what is written as a text is written as its tree's text
by_text : (deep : ℕ) (tree : Tree) (text : List ℕ) → tree_text tree ≡ text → Writes (IsLike tree) deep text → IsWritten deep tree
by_text deep tree text e w = subst (Writes (IsLike tree) deep) (sym e) w

number_written : (n : ℕ) → n < 2 ^ 32 → IsWritten 0 (number n)
number_written n small =
    by_text 0 (number n) (decimal n) (number_text n)
    (λ place after parted. numeral_at (IsLike (number n)) 0 place n after parted (omega arith) (fold-Numeral Tree unplaced_step place (pos n)))

string_written : (bytes : List ℕ) → IsWritten 0 (Text 0 bytes)
string_written bytes =
    by_text 0 (Text 0 bytes) (string_of bytes) (string_text bytes)
    (λ place after parted. string_at (IsLike (Text 0 bytes)) 0 place bytes after parted (fold-Text Tree unplaced_step place bytes))

name_written : (name : List ℕ) → IsTrue (list_all is_quotable name) → IsWritten 0 (Symbol 0 name)
name_written name quotable =
    subst (Writes (IsLike (Symbol 0 name)) 0) (sym (fold-Symbol (List ℕ) text_step 0 name))
    (name_writes (IsLike (Symbol 0 name)) 0 name quotable (λ place. fold-Symbol Tree unplaced_step place name))

-- ---- forms

-- the trees are those but for their places
abbrev AreLike : List Tree → List Tree → Type 0
AreLike trees ts = map unplaced ts ≡ trees

like_more : (t u : Tree) (ts us : List Tree) → IsLike t u → AreLike ts us → AreLike (t ∷ ts) (u ∷ us)
like_more t u ts us is are = λ i. is i ∷ are i

parted_spaced : (texts : List (List ℕ)) → IsTrue (is_parted (spaced texts))
parted_spaced [] = refl
parted_spaced (t ∷ ts) = refl

-- the first of some trees behind a gap, and the others behind it
first_at : (deep : ℕ) (t : Tree) (ts : List Tree) (gap : List ℕ) → IsTrue (is_gap gap) → (place : ℕ) → IsWritten deep t
    → ((behind : ℕ) → TreesAt (AreLike ts) deep false behind (spaced (map tree_text ts))) → TreesAt (AreLike (t ∷ ts)) deep false place (gap ++ tree_text t ++ spaced (map tree_text ts))
first_at deep t ts gap blank place first others =
    let after : List ℕ = spaced (map tree_text ts) in
    next_at (IsLike t) (AreLike ts) (AreLike (t ∷ ts)) deep false place gap (tree_text t) after blank
    (first (place + length gap) after (parted_spaced (map tree_text ts))) (others (place + length gap + length (tree_text t)))
    (λ u us is are. like_more t u ts us is are)

spaced_at : (deep : ℕ) (ts : List Tree) → AllByRecursion (IsWritten deep) ts → (place : ℕ) → TreesAt (AreLike ts) deep false place (spaced (map tree_text ts))
spaced_at deep [] written place = no_more_at (AreLike []) deep false place [] refl refl
spaced_at deep (t ∷ ts) written place = first_at deep t ts (codes " ") refl place written.0 (spaced_at deep ts written.1)

form_written : (deep : ℕ) (name : List ℕ) → IsTrue (list_all is_quotable name) → (ts : List Tree) → AllByRecursion (IsWritten deep) ts → IsWritten (deep + 1) (form name ts)
form_written deep name quotable ts written =
    by_text (deep + 1) (form name ts) (40 ∷ joined (map tree_text (Symbol 0 name ∷ ts)) ++ 41 ∷ []) (fold-Group (List ℕ) text_step 0 (Symbol 0 name ∷ ts))
    (λ place after parted.
    group_at (AreLike (Symbol 0 name ∷ ts)) (IsLike (form name ts)) deep place (joined (map tree_text (Symbol 0 name ∷ ts))) after
    (first_at deep (Symbol 0 name) ts [] refl (place + 1) (deeper 0 deep (omega arith) (Symbol 0 name) (name_written name quotable)) (spaced_at deep ts written))
    (λ us are. fold-Group Tree unplaced_step place us ∙ ap (Group 0) are))

-- ---- the trees of a trace

-- how deep what stands behind the word of a step may be
abbrev inside : ℕ
inside = 998

numbers_written : (ns : List ℕ) → AreSmall ns → AllByRecursion (IsWritten inside) (map number ns)
numbers_written [] small = tt
numbers_written (n ∷ ns) small =
    (deeper 0 inside (omega arith) (number n) (number_written n (All-head (λ m. m < 2 ^ 32) n ns small)), numbers_written ns (All-tail (λ m. m < 2 ^ 32) n ns small))

parts_written : (x : Step) → HasSmallNumbers x → AllByRecursion (IsWritten inside) (parts_of x)
parts_written (step.Void k) small = (deeper 0 inside (omega arith) (number k) (number_written k small), tt)
parts_written (step.Unreached ps) small = numbers_written ps small
parts_written (step.Unneeded ps) small = numbers_written ps small

step_written : (x : Step) → HasSmallNumbers x → IsWritten 1000 (step_tree x)
step_written x small =
    deeper (inside + 1) 1000 (omega arith) (step_tree x)
    (form_written inside (codes "step") refl (Symbol 0 (word_of x) ∷ parts_of x)
    (deeper 0 inside (omega arith) (Symbol 0 (word_of x)) (name_written (word_of x) (word_fits x).1), parts_written x small))

-- a form of a name with one part, which is a token
short_written : (name : List ℕ) → IsTrue (list_all is_quotable name) → (part : Tree) → IsWritten 0 part → IsWritten 1000 (form name (part ∷ []))
short_written name quotable part w = deeper (0 + 1) 1000 (omega arith) (form name (part ∷ [])) (form_written 0 name quotable (part ∷ []) (w, tt))

target_written : (text : List ℕ) → IsWritten 1000 (target_tree text)
target_written text = short_written (codes "target") refl (Text 0 text) (string_written text)

steps_written : (xs : List Step) → All HasSmallNumbers xs → (text : List ℕ) → AllByRecursion (IsWritten 1000) (map step_tree xs ++ target_tree text ∷ [])
steps_written [] small text = (target_written text, tt)
steps_written (x ∷ xs) small text = (step_written x (All-head HasSmallNumbers x xs small), steps_written xs (All-tail HasSmallNumbers x xs small) text)

-- ---- lines

line_text : (t : Tree) (rest : List ℕ) → line t ++ rest ≡ tree_text t ++ (10 ∷ rest)
line_text t rest = append_assoc (tree_text t) (codes "\n") rest

-- the first of some trees on lines, behind a gap, and the others behind it
first_line_at : (gap : List ℕ) → IsTrue (is_gap gap) → (t : Tree) (ts : List Tree) → IsWritten 1000 t → (place : ℕ)
    → ((behind : ℕ) → TreesAt (AreLike ts) 1000 true behind (10 ∷ concat (map line ts))) → TreesAt (AreLike (t ∷ ts)) 1000 true place (gap ++ concat (map line (t ∷ ts)))
first_line_at gap blank t ts first place others =
    let after : List ℕ = 10 ∷ concat (map line ts) in
    let text : gap ++ tree_text t ++ after ≡ gap ++ concat (map line (t ∷ ts)) = append_assoc gap (tree_text t) after ∙ ap (λ (more : List ℕ). gap ++ more) (sym (line_text t (concat (map line ts)))) in
    subst (TreesAt (AreLike (t ∷ ts)) 1000 true place) text
    (next_at (IsLike t) (AreLike ts) (AreLike (t ∷ ts)) 1000 true place gap (tree_text t) after blank
    (first (place + length gap) after refl) (others (place + length gap + length (tree_text t)))
    (λ u us is are. like_more t u ts us is are))

-- trees on lines, behind the end of a line
lines_at : (ts : List Tree) → AllByRecursion (IsWritten 1000) ts → (place : ℕ) → TreesAt (AreLike ts) 1000 true place (10 ∷ concat (map line ts))
lines_at [] written place = no_more_at (AreLike []) 1000 true place (10 ∷ []) refl refl
lines_at (t ∷ ts) written place = first_line_at (10 ∷ []) refl t ts written.0 place (lines_at ts written.1)

-- the lines of a trace say it, if its source is a digest and its numbers are below 2^32
pub lines_say : (t : Trace) → IsDigest t.source → All HasSmallNumbers t.steps → SaysTrace (trace_lines t) t
lines_say t digest small =
    let rest : List Tree = source_tree t.source ∷ map step_tree t.steps ++ target_tree t.target ∷ [] in
    let mark : IsWritten 1000 mark_tree = short_written (codes "chc-trace") refl (number 1) (number_written 1 (omega arith)) in
    let source : IsWritten 1000 (source_tree t.source) = short_written (codes "source") refl (Text 0 (encode_lower t.source)) (string_written (encode_lower t.source)) in
    let trees = first_line_at [] refl mark_tree rest mark 0 (lines_at rest (source, steps_written t.steps small t.target)) in
    let said = spells_from (AreLike (trace_trees t)) (trace_lines t) trees in
    record { trees = said.0; spelled = said.1; stands = record { alike = said.2; digest = digest; small = small } }
