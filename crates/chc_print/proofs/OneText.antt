-- A state has one script, and a term one text over it.
use Rattle.std.proofs.Common.{◌≡◌, ◌∙◌, sym, ap, ℕ, ◌<◌, true, false, List, inl, inr, arith}
use Rattle.std.proofs.lemmas.Bool.{cases_lt, false≢true}
use Rattle.chc_terms.specs.declared.term.Term.{Term}
use Rattle.chc_state.specs.States.{StateView}
use Rattle.chc_print.specs.Prefix.{is_taken, marked, used_names, IsVariablePrefix}
use Rattle.chc_print.specs.Texts.{term_text}
use Rattle.chc_print.specs.Script.{lines_of_script, script_names, names_over, IsScriptText, IsTermText}
use Rattle.chc_print.proofs.HelperLaws.{one_naming}

pub one_prefix : (used : List (List ℕ)) (a b : List ℕ) → IsVariablePrefix used a → IsVariablePrefix used b → a ≡ b
one_prefix used a b p q = p.form ∙ ap marked same ∙ sym q.form
  where
    not_less : (m n : ℕ) → is_taken used (marked m) ≡ false → ((k : ℕ) → k < n → is_taken used (marked k) ≡ true) → m < n → ⊥
    not_less m n free least low = false≢true (sym free ∙ least m low)

    same : p.marks ≡ q.marks
    same =
        let up = not_less p.marks q.marks (ap (is_taken used) (sym p.form) ∙ p.free) q.least in
        let down = not_less q.marks p.marks (ap (is_taken used) (sym q.form) ∙ q.free) p.least in
        elim (cases_lt p.marks q.marks) [ inl less ↦ absurd (up less) | inr more ↦ elim (cases_lt q.marks p.marks) [ inl less ↦ absurd (down less) | inr back ↦ omega arith ] ]

one_script : (s : StateView) (names : List (List ℕ)) (a b : List ℕ) → IsScriptText s names a → IsScriptText s names b → a ≡ b
one_script s names a b (p, m, is_p, is_m, e) (q, n, is_q, is_n, f) =
    e ∙ ap (λ x. lines_of_script (script_names s m x) s) (one_prefix (used_names s.sig names) p q is_p is_q)
    ∙ ap (λ x. lines_of_script (script_names s x q) s) (one_naming s names m n is_m is_n) ∙ sym f

one_term : (s : StateView) (names calls : List (List ℕ)) (under : ℕ) (t : Term) (a b : List ℕ) → IsTermText s names calls under t a → IsTermText s names calls under t b → a ≡ b
one_term s names calls under t a b (p, m, is_p, is_m, e) (q, n, is_q, is_n, f) =
    e ∙ ap (λ x. term_text (names_over s m calls x) t under) (one_prefix (used_names s.sig names) p q is_p is_q)
    ∙ ap (λ x. term_text (names_over s x calls q) t under) (one_naming s names m n is_m is_n) ∙ sym f

-- what is the script is the only one
pub only_script : (s : StateView) (names : List (List ℕ)) (text : List ℕ) → IsScriptText s names text → (other : List ℕ) → IsScriptText s names other → other ≡ text
only_script s names text said other there = one_script s names other text there said

pub only_term : (s : StateView) (names calls : List (List ℕ)) (under : ℕ) (t : Term) (text : List ℕ) → IsTermText s names calls under t text
    → (other : List ℕ) → IsTermText s names calls under t other → other ≡ text
only_term s names calls under t text said other there = one_term s names calls under t other text there said
