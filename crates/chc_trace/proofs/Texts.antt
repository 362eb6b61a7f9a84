-- The texts of the trees of a trace.
use Rattle.std.proofs.Common.{◌≡◌, ◌∙◌, ℕ, pos, List, [], ◌∷◌, ◌++◌, map, codes, ap, sym, refl, append_assoc, append-nil, arith}
use Rattle.std.proofs.lemmas.Fmt.{decimal_digit}
use Rattle.std.specs.Prelude.{IsTrue, decimal}
use Rattle.std.specs.List.{concat, list_all}
use Rattle.hex.specs.Hex.{encode_lower}
use Rattle.chc_sexpr.specs.Spelling.{is_quotable, string_of}
use Rattle.chc_sexpr.specs.Symbols.{symbol_text}
use Rattle.chc_sexpr.specs.Writing.{spaced, text_step, tree_text}
use Rattle.chc_sexpr.specs.declared.tree.Tree.{Tree}
use Rattle.chc_sexpr.specs.declared.tree.Tree.TheVariants.{Symbol, Text}
use Rattle.chc_sexpr.proofs.Folds.{fold-Symbol, fold-Numeral, fold-Text, fold-Group}
use Rattle.chc_state.specs.declared.step.Step.{Step}
use Rattle.chc_state.specs.declared.step.Step.TheVariants as step
use Rattle.chc_trace.specs.declared.trace.Trace.{Trace}
use Rattle.chc_trace.specs.Numbers.{number}
use Rattle.chc_trace.specs.Kinds.{word_of, parts_of}
use Rattle.chc_trace.specs.Traces.{form, mark_tree, source_tree, step_tree, target_tree, line, trace_lines}

pub number_text : (n : ℕ) → tree_text (number n) ≡ decimal n
number_text n = fold-Numeral (List ℕ) text_step 0 (pos n)

-- numbers with a space before each
pub numbers_text : (ns : List ℕ) → spaced (map decimal ns) ≡ spaced (map tree_text (map number ns))
numbers_text [] = refl
numbers_text (n ∷ ns) = rw (number_text n, numbers_text ns) refl

pub string_text : (bytes : List ℕ) → tree_text (Text 0 bytes) ≡ string_of bytes
string_text bytes = fold-Text (List ℕ) text_step 0 bytes

-- a name that needs no bars
abbrev pub IsPlain : List ℕ → Type 0
IsPlain name = symbol_text name ≡ name

name_text : (name : List ℕ) → IsPlain name → tree_text (Symbol 0 name) ≡ name
name_text name plain = fold-Symbol (List ℕ) text_step 0 name ∙ plain

regrouped : (a b c d e : List ℕ) → (a ++ (b ++ c) ++ d) ++ e ≡ a ++ b ++ c ++ (d ++ e)
regrouped a b c d e = simp append_assoc

spread : (a b c d : List ℕ) → a ++ (b ++ c ++ []) ++ d ≡ a ++ b ++ c ++ d
spread a b c d = simp (append_assoc, append-nil)

-- a form on a line
form_line : (name : List ℕ) → IsPlain name → (trees : List Tree) → line (form name trees) ≡ codes "(" ++ name ++ spaced (map tree_text trees) ++ codes ")\n"
form_line name plain trees =
    ap (λ (text : List ℕ). text ++ codes "\n") (fold-Group (List ℕ) text_step 0 (Symbol 0 name ∷ trees))
    ∙ ap (λ (text : List ℕ). (codes "(" ++ (text ++ spaced (map tree_text trees)) ++ codes ")") ++ codes "\n") (name_text name plain)
    ∙ regrouped (codes "(") name (spaced (map tree_text trees)) (codes ")") (codes "\n")

string_line : (name : List ℕ) → IsPlain name → (bytes : List ℕ) → line (form name (Text 0 bytes ∷ [])) ≡ codes "(" ++ name ++ codes " " ++ string_of bytes ++ codes ")\n"
string_line name plain bytes =
    form_line name plain (Text 0 bytes ∷ []) ∙ ap (λ (text : List ℕ). codes "(" ++ name ++ (codes " " ++ text ++ []) ++ codes ")\n") (string_text bytes)
    ∙ spread (codes "(" ++ name) (codes " ") (string_of bytes) (codes ")\n")

-- ---- the names that stand in traces

plain_mark : IsPlain (codes "chc-trace")
unfolding symbol_text
plain_mark = refl

plain_source : IsPlain (codes "source")
unfolding symbol_text
plain_source = refl

plain_step : IsPlain (codes "step")
unfolding symbol_text
plain_step = refl

plain_target : IsPlain (codes "target")
unfolding symbol_text
plain_target = refl

-- the word of a kind needs no bars, and may stand between them
pub word_fits : (x : Step) → IsPlain (word_of x) × IsTrue (list_all is_quotable (word_of x))
unfolding symbol_text
word_fits (step.Void k) = (refl, refl)
word_fits (step.Unreached ps) = (refl, refl)
word_fits (step.Unneeded ps) = (refl, refl)

-- ---- lines

pub mark_line : line mark_tree ≡ codes "(chc-trace 1)\n"
mark_line = form_line (codes "chc-trace") plain_mark (number 1 ∷ []) ∙ ap (λ (text : List ℕ). codes "(chc-trace " ++ text ++ [] ++ codes ")\n") (number_text 1 ∙ decimal_digit 1 (omega arith))

pub source_line : (digest : List ℕ) → line (source_tree digest) ≡ codes "(source " ++ string_of (encode_lower digest) ++ codes ")\n"
source_line digest = string_line (codes "source") plain_source (encode_lower digest)

pub target_line : (text : List ℕ) → line (target_tree text) ≡ codes "(target " ++ string_of text ++ codes ")\n"
target_line text = string_line (codes "target") plain_target text

pub step_line : (x : Step) → line (step_tree x) ≡ codes "(step " ++ word_of x ++ spaced (map tree_text (parts_of x)) ++ codes ")\n"
step_line x =
    form_line (codes "step") plain_step (Symbol 0 (word_of x) ∷ parts_of x)
    ∙ ap (λ (text : List ℕ). codes "(step" ++ (codes " " ++ text ++ spaced (map tree_text (parts_of x))) ++ codes ")\n") (name_text (word_of x) (word_fits x).0)

steps_and_target : (xs : List Step) (text : List ℕ)
    → concat (map line (map step_tree xs ++ target_tree text ∷ [])) ≡ concat (map (λ x. line (step_tree x)) xs) ++ line (target_tree text)
steps_and_target [] text = append-nil (line (target_tree text))
steps_and_target (x ∷ xs) text =
    ap (λ (more : List ℕ). line (step_tree x) ++ more) (steps_and_target xs text)
    ∙ sym (append_assoc (line (step_tree x)) (concat (map (λ y. line (step_tree y)) xs)) (line (target_tree text)))

in_turn : (a b c d : List ℕ) → a ++ (b ++ (c ++ d)) ≡ a ++ b ++ c ++ d
in_turn a b c d = simp append_assoc

-- the lines of a trace, one after another
pub lines_are : (t : Trace)
    → trace_lines t ≡ codes "(chc-trace 1)\n" ++ line (source_tree t.source) ++ concat (map (λ x. line (step_tree x)) t.steps) ++ line (target_tree t.target)
lines_are t =
    ap (λ (text : List ℕ). text ++ (line (source_tree t.source) ++ concat (map line (map step_tree t.steps ++ target_tree t.target ∷ [])))) mark_line
    ∙ ap (λ (more : List ℕ). codes "(chc-trace 1)\n" ++ (line (source_tree t.source) ++ more)) (steps_and_target t.steps t.target)
    ∙ in_turn (codes "(chc-trace 1)\n") (line (source_tree t.source)) (concat (map (λ x. line (step_tree x)) t.steps)) (line (target_tree t.target))
