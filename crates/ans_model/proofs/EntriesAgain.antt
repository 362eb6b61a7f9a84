-- Which predicates the first definitions are for, and that none is missing at the end.
use Rattle.std.proofs.Common.{◌≡◌, ◌∙◌, inl, inr, sym, ap, refl, ℕ, zero, suc, ◌+◌, ◌<◌, ◌≤◌, Bool, true, false, not, ◌&&◌, cond, nat_lt, List, [], ◌∷◌, length, map, set, Option, Some, None, slice_get, arith}
use Rattle.std.proofs.lemmas.Bool.{cases_eq, cases_lt, lt-ltb}
use Rattle.std.proofs.lemmas.Bool.Decides.{nat_tests}
use Rattle.std.specs.Str.{bytes_eq}
use Rattle.std.proofs.lemmas.Slice.Eq.{bytes_eq-Decides}
use Rattle.chc_elab.proofs.Readings.{none_some}
use Rattle.chc_state.specs.declared.clause.PredDecl.{PredDecl}
use Rattle.chc_state.proofs.Places.{same_element}
use Rattle.ans_model.specs.Drafts.{is_defined, missing_from, no_entries, owner_from}
use Rattle.ans_model.proofs.NamedRows.{bytes_other}

-- the entry, where it is that of one of the first definitions, so many
abbrev pub entry_below : ℕ → Option ℕ → Option ℕ
entry_below k None = None
entry_below k (Some j) = cond (nat_lt j k) (Some j) None

abbrev pub entries_below : ℕ → List (Option ℕ) → List (Option ℕ)
entries_below k of = map (entry_below k) of

-- ---- the first ones, and all

none_below : (j : ℕ) → nat_lt j 0 ≡ false
none_below j = grind (arith, nat_tests)

entry_first : (o : Option ℕ) → entry_below 0 o ≡ None
entry_first None = refl
entry_first (Some j) = ap (λ b. cond b (Some j) None) (none_below j)

pub entries_first : (of : List (Option ℕ)) (preds : List PredDecl) → length of ≡ length preds → no_entries preds ≡ entries_below 0 of
entries_first [] [] long = refl
entries_first [] (p ∷ preds) long = absurd (omega arith)
entries_first (o ∷ of) [] long = absurd (omega arith)
entries_first (o ∷ of) (p ∷ preds) long = λ i. sym (entry_first o) i ∷ entries_first of preds (omega (arith, long)) i

pub entries_whole : (n : ℕ) (of : List (Option ℕ)) → ((p j : ℕ) → slice_get of p ≡ Some (Some j) → j < n) → entries_below n of ≡ of
entries_whole n [] low = refl
entries_whole n (None ∷ of) low = ap (λ l. None ∷ l) (entries_whole n of (λ p j at. low (suc p) j at))
entries_whole n (Some j ∷ of) low = λ i. here i ∷ entries_whole n of (λ p k at. low (suc p) k at) i
  where
    here : entry_below n (Some j) ≡ Some j
    here = ap (λ b. cond b (Some j) None) (lt-ltb j n (low 0 j refl))

-- ---- one more

not_less : (j k : ℕ) → k ≤ j → nat_lt j k ≡ false
not_less j k high = grind (arith, nat_tests)

differ_below : (j k : ℕ) → (j ≡ k → ⊥) → nat_lt j k ≡ nat_lt j (k + 1)
differ_below j k other = elim (cases_lt j k) [
  | inl low ↦ lt-ltb j k low ∙ sym (lt-ltb j (k + 1) (omega (arith, low)))
  | inr high ↦ elim (cases_eq j k) [
    | inl same ↦ absurd (other same)
    | inr differ ↦ (let above : k + 1 ≤ j = omega (arith, high, differ) in not_less j k high ∙ sym (not_less j (k + 1) above))
  ]
]

entry_kept : (k : ℕ) (o : Option ℕ) → (o ≡ Some k → ⊥) → entry_below k o ≡ entry_below (k + 1) o
entry_kept k None other = refl
entry_kept k (Some j) other = ap (λ b. cond b (Some j) None) (differ_below j k (λ e. other (ap Some e)))

-- where the next definition is no predicate's
pub entries_kept : (k : ℕ) (of : List (Option ℕ)) → ((p : ℕ) → slice_get of p ≡ Some (Some k) → ⊥) → entries_below k of ≡ entries_below (k + 1) of
entries_kept k [] none = refl
entries_kept k (o ∷ of) none = λ i. entry_kept k o (λ e. none 0 (ap Some e)) i ∷ entries_kept k of (λ p at. none (suc p) at) i

-- where it is that of a predicate
pub entries_set : (k : ℕ) (of : List (Option ℕ)) (p : ℕ) → slice_get of p ≡ Some (Some k) → ((q : ℕ) → slice_get of q ≡ Some (Some k) → q ≡ p)
    → set (entries_below k of) p (Some k) ≡ entries_below (k + 1) of
entries_set k [] p at only = absurd (none_some (Some k) at)
entries_set k (o ∷ of) zero at only =
    λ i. here i ∷ entries_kept k of (λ p there. let e : suc p ≡ 0 = only (suc p) there in omega (arith, e)) i
  where
    here : Some k ≡ entry_below (k + 1) o
    here = sym (ap (entry_below (k + 1)) (same_element o (Some k) at) ∙ ap (λ b. cond b (Some k) None) (lt-ltb k (k + 1) (omega arith)))
entries_set k (o ∷ of) (suc p) at only =
    λ i. entry_kept k o (λ e. let f : 0 ≡ suc p = only 0 (ap Some e) in omega (arith, f)) i
    ∷ entries_set k of p at (λ q there. let e : suc q ≡ suc p = only (suc q) there in omega (arith, e)) i

-- ---- none is missing

pub none_missing : (of : List (Option ℕ)) (n : ℕ) (decls : List PredDecl)
    → ((k : ℕ) (decl : PredDecl) → slice_get decls k ≡ Some decl → (decl.live && not (is_defined (slice_get of (n + k)))) ≡ false) → missing_from of n decls ≡ None
none_missing of n [] h = refl
none_missing of n (decl ∷ decls) h =
    let here : n + 0 ≡ n = omega arith in
    ap (λ b. cond b (Some n) (missing_from of (n + 1) decls)) (ap (λ k. decl.live && not (is_defined (slice_get of k))) (sym here) ∙ h 0 decl refl)
    ∙ none_missing of (n + 1) decls
    (λ k e at. let there : n + 1 + k ≡ n + suc k = omega arith in ap (λ j. e.live && not (is_defined (slice_get of j))) there ∙ h (suc k) e at)

-- ---- whose a name is

-- a live predicate's name is its own, where names differ
pub owner_found : (n : ℕ) (names : List (List ℕ)) (decls : List PredDecl) (p : ℕ) (name : List ℕ) (decl : PredDecl)
    → slice_get names p ≡ Some name → slice_get decls p ≡ Some decl → decl.live ≡ true → ((q : ℕ) → slice_get names q ≡ Some name → q ≡ p)
    → owner_from n names decls name ≡ Some (n + p)
owner_found n [] decls p name decl at there live only = absurd (none_some name at)
owner_found n (x ∷ names) [] p name decl at there live only = absurd (none_some decl there)
owner_found n (x ∷ names) (e ∷ decls) zero name decl at there live only =
    let here : n ≡ n + 0 = omega arith in
    let alive : e.live ≡ true = ap (λ (d : PredDecl). d.live) (same_element e decl there) ∙ live in
    let same : bytes_eq x name ≡ true = (bytes_eq-Decides x name).1 (same_element x name at) in
    (λ i. cond (alive i && same i) (Some n) (owner_from (n + 1) names decls name)) ∙ ap Some here
owner_found n (x ∷ names) (e ∷ decls) (suc p) name decl at there live only =
    let next : n + 1 + p ≡ n + suc p = omega arith in
    let other : bytes_eq x name ≡ false = bytes_other x name (λ same. let f : 0 ≡ suc p = only 0 (ap Some same) in omega (arith, f)) in
    ap (λ b. cond b (Some n) (owner_from (n + 1) names decls name)) (ap (λ b. e.live && b) other ∙ neither e.live)
    ∙ owner_found (n + 1) names decls p name decl at there live (λ q found. let f : suc q ≡ suc p = only (suc q) found in omega (arith, f))
    ∙ ap Some next
  where
    neither : (b : Bool) → (b && false) ≡ false
    neither true = refl
    neither false = refl

-- a name that no predicate has is no one's
pub owner_none : (n : ℕ) (names : List (List ℕ)) (decls : List PredDecl) (name : List ℕ) → ((q : ℕ) → slice_get names q ≡ Some name → ⊥) → owner_from n names decls name ≡ None
owner_none n [] decls name none = refl
owner_none n (x ∷ names) [] name none = refl
owner_none n (x ∷ names) (e ∷ decls) name none =
    ap (λ b. cond b (Some n) (owner_from (n + 1) names decls name)) (ap (λ b. e.live && b) (bytes_other x name (λ same. none 0 (ap Some same))) ∙ neither e.live)
    ∙ owner_none (n + 1) names decls name (λ q at. none (suc q) at)
  where
    neither : (b : Bool) → (b && false) ≡ false
    neither true = refl
    neither false = refl
