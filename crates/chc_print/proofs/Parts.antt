-- Texts in a row, and the matrix that the parts of a clause make.
use Rattle.std.proofs.Common.{◌≡◌, ◌∙◌, sym, ap, refl, ℕ, ◌+◌, ◌<◌, ◌++◌, List, [], ◌∷◌, length, codes, append_assoc, arith}
use Rattle.std.proofs.lemmas.List.{length-map, length-append, append-nil}
use Rattle.chc_state.specs.declared.clause.Clause.{Clause}
use Rattle.chc_sexpr.specs.Writing.{spaced}
use Rattle.chc_print.specs.Texts.{Names}
use Rattle.chc_print.specs.Script.{part_texts, tail_text, implied}

pub spaced_append : (xs ys : List (List ℕ)) → spaced (xs ++ ys) ≡ spaced xs ++ spaced ys
spaced_append [] ys = refl
spaced_append (x ∷ xs) ys = ap (λ (t : List ℕ). codes " " ++ x ++ t) (spaced_append xs ys) ∙ sym (append_assoc (codes " " ++ x) (spaced xs) (spaced ys))

pub parts_length : (names : Names) (c : Clause) → length (part_texts names c) ≡ length c.body + length c.conj
parts_length names c = simp (length-append, length-map)

pub tail_of_one : (ts : List (List ℕ)) → length ts ≡ 1 → codes " " ++ tail_text ts ≡ spaced ts
tail_of_one [] one = absurd (omega arith)
tail_of_one (t ∷ []) one = simp append-nil
tail_of_one (t ∷ u ∷ us) one = absurd (omega arith)

pub tail_of_more : (ts : List (List ℕ)) → 1 < length ts → codes " " ++ tail_text ts ≡ codes " (and" ++ spaced ts ++ codes ")"
tail_of_more [] more = absurd (omega arith)
tail_of_more (t ∷ []) more = absurd (omega arith)
tail_of_more (t ∷ u ∷ us) more = refl

pub implied_alone : (ts : List (List ℕ)) (head : List ℕ) → length ts ≡ 0 → implied ts head ≡ head
implied_alone [] head none = refl
implied_alone (t ∷ ts) head none = absurd (omega arith)

pub implied_by : (ts : List (List ℕ)) (head : List ℕ) → 0 < length ts → implied ts head ≡ codes "(=>" ++ (codes " " ++ tail_text ts) ++ codes " " ++ head ++ codes ")"
implied_by [] head some = absurd (omega arith)
implied_by (t ∷ ts) head some = refl
