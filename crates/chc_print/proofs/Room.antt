-- How much a text grows by binders.
use Rattle.std.proofs.Common.{◌≡◌, ℕ, ◌+◌, ◌≤◌, ◌++◌, List, [], ◌∷◌, length, codes, arith, ap, ◌∙◌}
use Rattle.std.proofs.lemmas.List.{length-append}
use Rattle.chc_sorts.specs.declared.sort.Sort.{Sort}
use Rattle.chc_terms.specs.declared.term.Kind.{Kind}
use Rattle.chc_sexpr.specs.Writing.{spaced, joined}
use Rattle.chc_print.specs.Texts.{Names, kind_text, binder_text, binder_texts, quantifier_text}

longer : (old text new : List ℕ) → new ≡ old ++ text → length new ≡ length old + length text
longer old text new e = ap (λ (t : List ℕ). length t) e ∙ length-append old text

-- a text grows by what is added
pub grown_by : (old text new : List ℕ) (n : ℕ) → new ≡ old ++ text → n ≤ length text → length old + n ≤ length new
grown_by old text new n e most = let grown = longer old text new e in omega arith

spaced_longer : (t : List ℕ) (ts : List (List ℕ)) → 1 + length (spaced ts) ≤ length (spaced (t ∷ ts))
spaced_longer t ts = let all = length-append (codes " " ++ t) (spaced ts) in omega arith

-- each binder takes a byte at least
binders_spaced : (names : Names) (i : ℕ) (sorts : List Sort) → length sorts ≤ length (spaced (binder_texts names i sorts))
binders_spaced names i [] = omega arith
binders_spaced names i (s ∷ sorts) =
    let rest = binders_spaced names (i + 1) sorts in
    let first = spaced_longer (binder_text names i s) (binder_texts names (i + 1) sorts) in
    omega arith

binder_some : (names : Names) (i : ℕ) (s : Sort) → 1 ≤ length (binder_text names i s)
binder_some names i s = omega arith

pub binders_joined : (names : Names) (i : ℕ) (sorts : List Sort) → length sorts ≤ length (joined (binder_texts names i sorts))
binders_joined names i [] = omega arith
binders_joined names i (s ∷ sorts) =
    let rest = binders_spaced names (i + 1) sorts in
    let some = binder_some names i s in
    let all = length-append (binder_text names i s) (spaced (binder_texts names (i + 1) sorts)) in
    omega arith

pub quantifier_room : (names : Names) (k : Kind) (i : ℕ) (sorts : List Sort) → length sorts ≤ length (quantifier_text names k i sorts)
quantifier_room names k i sorts =
    let inner = binders_joined names i sorts in
    let all = length-append (codes "(" ++ kind_text k ++ codes " (" ++ joined (binder_texts names i sorts)) (codes ") ") in
    let front = length-append (codes "(" ++ kind_text k ++ codes " (") (joined (binder_texts names i sorts)) in
    omega arith
