-- How a string is read byte by byte.
use Rattle.std.proofs.Common.{◌≡◌, ℕ, ◌+◌, ◌≤◌, ◌<◌, Bool, true, false, cond, eqb, List, [], ◌∷◌, ◌++◌, length, get_or, drop, Option, Some, None, ap, sym, refl, ◌∙◌, arith, append_assoc, append-nil}
use Rattle.std.proofs.lemmas.Bool.{eqb-true}
use Rattle.std.proofs.lemmas.List.{drop-drop, drop_all, drop_more}
use Rattle.chc_sexpr.specs.Scanning.{step_of, with_byte, string_from}

-- what stands behind a front of the string, of which the bytes are known
abbrev pub behind_front : List ℕ → ℕ → Option (List ℕ × ℕ) → Option (List ℕ × ℕ)
behind_front front n None = None
behind_front front n (Some found) = Some (front ++ found.0, n + found.1)

ends_two : (t u : Bool) (b c : ℕ) (bs : List ℕ) → ◌≡◌ {A = ℕ} (cond t (cond u 2 0) 1) 0 →
    cond t (cond u (with_byte 34 2 (string_from bs)) (Some ([], 1))) (with_byte b 1 (string_from (c ∷ bs))) ≡ Some ([], 1)
ends_two true true b c bs e = absurd (omega arith)
ends_two true false b c bs e = refl
ends_two false u b c bs e = absurd (omega arith)

ends_one : (t : Bool) → ◌≡◌ {A = ℕ} (cond t 0 1) 0 → ◌≡◌ {A = Option (List ℕ × ℕ)} (cond t (Some ([], 1)) None) (Some ([], 1))
ends_one true e = refl
ends_one false e = absurd (omega arith)

-- a quote that isn't doubled ends the string
string_ends : (b : ℕ) (bs : List ℕ) → step_of (b ∷ bs) ≡ 0 → string_from (b ∷ bs) ≡ Some ([], 1)
string_ends b [] e = ends_one (eqb b 34) e
string_ends b (c ∷ bs) e = ends_two (eqb b 34) (eqb c 34) b c bs e

takes_two : (t u : Bool) (b c : ℕ) (bs : List ℕ) (n : ℕ) → (t ≡ true → b ≡ 34) → cond t (cond u 2 0) 1 ≡ n → (n ≡ 0 → ⊥) →
    cond t (cond u (with_byte 34 2 (string_from bs)) (Some ([], 1))) (with_byte b 1 (string_from (c ∷ bs))) ≡ with_byte b n (string_from (drop n (b ∷ c ∷ bs)))
takes_two true true b c bs n q e some = ap (λ d. with_byte d 2 (string_from bs)) (sym (q refl)) ∙ ap (λ m. with_byte b m (string_from (drop m (b ∷ c ∷ bs)))) e
takes_two true false b c bs n q e some = absurd (some (sym e))
takes_two false u b c bs n q e some = ap (λ m. with_byte b m (string_from (drop m (b ∷ c ∷ bs)))) e

takes_one : (t : Bool) (b n : ℕ) → cond t 0 1 ≡ n → (n ≡ 0 → ⊥) → cond t (Some ([], 1)) None ≡ with_byte b n (string_from (drop n (b ∷ [])))
takes_one true b n e some = absurd (some (sym e))
takes_one false b n e some = ap (λ m. with_byte b m (string_from (drop m (b ∷ [])))) e

-- any other byte goes on with it
pub string_goes_on : (b : ℕ) (bs : List ℕ) (n : ℕ) → step_of (b ∷ bs) ≡ n → (n ≡ 0 → ⊥) → string_from (b ∷ bs) ≡ with_byte b n (string_from (drop n (b ∷ bs)))
string_goes_on b [] n e some = takes_one (eqb b 34) b n e some
string_goes_on b (c ∷ bs) n e some = takes_two (eqb b 34) (eqb c 34) b c bs n (eqb-true b 34) e some

pub front_start : (found : Option (List ℕ × ℕ)) → behind_front [] 0 found ≡ found
front_start None = refl
front_start (Some found) = let e : 0 + found.1 ≡ found.1 = omega arith in ap (λ n. Some (found.0, n)) e

front_longer : (front : List ℕ) (at b n : ℕ) (found : Option (List ℕ × ℕ)) → behind_front (front ++ b ∷ []) (at + n) found ≡ behind_front front at (with_byte b n found)
front_longer front at b n None = refl
front_longer front at b n (Some found) =
    let e : at + n + found.1 ≡ at + (n + found.1) = omega arith in
    let a = append_assoc front (b ∷ []) found.0 in
    λ i. Some (a i, e i)

-- the front grows by a byte
pub front_more : (front bytes : List ℕ) (at n : ℕ) → at < length bytes → step_of (drop at bytes) ≡ n → (n ≡ 0 → ⊥) →
    behind_front (front ++ get_or bytes at 0 ∷ []) (at + n) (string_from (drop (at + n) bytes)) ≡ behind_front front at (string_from (drop at bytes))
front_more front bytes at n h e some =
    let b = get_or bytes at 0 in
    let cut = drop_more bytes at 0 h in
    let on = string_goes_on b (drop (at + 1) bytes) n (ap step_of (sym cut) ∙ e) some in
    let rest : drop n (b ∷ drop (at + 1) bytes) ≡ drop (at + n) bytes = ap (drop n) (sym cut) ∙ drop-drop n at bytes in
    front_longer front at b n (string_from (drop (at + n) bytes))
    ∙ ap (λ bs. behind_front front at (with_byte b n (string_from bs))) (sym rest)
    ∙ ap (behind_front front at) (sym on ∙ ap string_from (sym cut))

-- the string ends
pub front_done : (front bytes : List ℕ) (at : ℕ) → at < length bytes → step_of (drop at bytes) ≡ 0 → behind_front front at (string_from (drop at bytes)) ≡ Some (front, at + 1)
front_done front bytes at h e =
    let cut = drop_more bytes at 0 h in
    ap (behind_front front at) (ap string_from cut ∙ string_ends (get_or bytes at 0) (drop (at + 1) bytes) (ap step_of (sym cut) ∙ e))
    ∙ ap (λ bs. Some (bs, at + 1)) (append-nil front)

-- the bytes end before the string
pub front_open : (front bytes : List ℕ) (at : ℕ) → length bytes ≤ at → behind_front front at (string_from (drop at bytes)) ≡ None
front_open front bytes at h = ap (λ bs. behind_front front at (string_from bs)) (drop_all at bytes h)
