-- The names of live predicates stand for them, with their numbers among the live ones.
use Rattle.std.proofs.Common.{◌≡◌, ◌∙◌, sym, ap, refl, ℕ, zero, suc, ◌+◌, ◌<◌, Bool, true, false, cond, List, [], ◌∷◌, ◌++◌, length, take, Some, slice_get, arith}
use Rattle.std.specs.Str.{bytes_eq}
use Rattle.std.proofs.lemmas.Bool.{false≢true, or_parts}
use Rattle.std.proofs.lemmas.List.Sums.{sum_by-cons}
use Rattle.std.proofs.lemmas.Option.{none-some, same_Some}
use Rattle.std.proofs.lemmas.Slice.Eq.{bytes_eq-Decides}
use Rattle.chc_sorts.specs.Names.{has_name, look_up}
use Rattle.chc_sorts.specs.Listing.{AreFresh}
use Rattle.chc_elab.specs.declared.symbols.Symbol.TheVariants as symbol
use Rattle.chc_elab.proofs.Locals.{same_name}
use Rattle.chc_state.specs.declared.clause.PredDecl.{PredDecl}
use Rattle.chc_state.specs.States.{is_live}
use Rattle.chc_state.specs.Limits.{live_count}
use Rattle.chc_script.specs.Drafts.{symbols_from}
use Rattle.chc_print.specs.Texts.{name_at}
use Rattle.read_again.specs.LivePredicates.{live_preds, live_names, number_again}
use Rattle.read_again.proofs.FreshNames.{lacks-append, bytes_differ}

-- ---- the number of a live predicate among the live ones

pub count_more : (d : PredDecl) (ds : List PredDecl) → live_count (d ∷ ds) ≡ cond d.live 1 0 + live_count ds
count_more d ds = sum_by-cons (λ (e : PredDecl). cond e.live 1 0) d ds

one_more : (n : ℕ) → 1 + n ≡ suc n
one_more n = omega arith

none_more : (n : ℕ) → 0 + n ≡ n
none_more n = omega arith

first_live : {X : Type 0} (b : Bool) (x : X) (rest : List X) → b ≡ true → slice_get (cond b (x ∷ rest) rest) 0 ≡ Some x
first_live true x rest h = refl
first_live false x rest h = absurd (false≢true h)

later_live : {X : Type 0} (b : Bool) (x : X) (rest : List X) (n : ℕ) → slice_get (cond b (x ∷ rest) rest) (cond b 1 0 + n) ≡ slice_get rest n
later_live true x rest n = ap (slice_get (x ∷ rest)) (one_more n)
later_live false x rest n = ap (slice_get rest) (none_more n)

-- it is declared there among them
declared_there : (preds : List PredDecl) (p : ℕ) → is_live preds p ≡ true → slice_get (live_preds preds) (number_again preds p) ≡ slice_get preds p
declared_there [] p h = absurd (false≢true h)
declared_there (d ∷ ds) zero h = first_live d.live d (live_preds ds) h
declared_there (d ∷ ds) (suc p) h =
    ap (slice_get (live_preds (d ∷ ds))) (count_more d (take p ds))
    ∙ later_live d.live d (live_preds ds) (number_again ds p)
    ∙ declared_there ds p h

-- and has its name there
named_there : (names : List (List ℕ)) (k : ℕ) (ds : List PredDecl) (p : ℕ) → is_live ds p ≡ true → slice_get (live_names names k ds) (number_again ds p) ≡ Some (name_at names (k + p))
named_there names k [] p h = absurd (false≢true h)
named_there names k (d ∷ ds) zero h = first_live d.live (name_at names k) (live_names names (k + 1) ds) h ∙ ap (λ n. Some (name_at names n)) (let e : k ≡ k + 0 = omega arith in e)
named_there names k (d ∷ ds) (suc p) h =
    ap (slice_get (live_names names k (d ∷ ds))) (count_more d (take p ds))
    ∙ later_live d.live (name_at names k) (live_names names (k + 1) ds) (number_again ds p)
    ∙ named_there names (k + 1) ds p h
    ∙ ap (λ n. Some (name_at names n)) (let e : k + 1 + p ≡ k + suc p = omega arith in e)

-- ---- names among all

-- a live predicate is declared
pub live_at : (preds : List PredDecl) (p : ℕ) → is_live preds p ≡ true → (d : PredDecl) × (slice_get preds p ≡ Some d) × (p < length preds)
live_at [] p h = absurd (false≢true h)
live_at (d ∷ ds) zero h = (d, refl, omega arith)
live_at (d ∷ ds) (suc p) h = let there = live_at ds p h in (there.0, there.1, omega (arith, there.2))

pub named_at : (names : List (List ℕ)) (p : ℕ) → p < length names → slice_get names p ≡ Some (name_at names p)
named_at [] p low = absurd (omega (arith, low))
named_at (x ∷ xs) zero low = refl
named_at (x ∷ xs) (suc p) low = named_at xs p (omega (arith, low))

-- ---- names that are looked up

-- a name of a fresh list isn't taken
free_at : (taken names : List (List ℕ)) (k : ℕ) (name : List ℕ) → AreFresh taken names → slice_get names k ≡ Some name → has_name taken name ≡ false
free_at taken [] k name fresh at = absurd (none-some name at)
free_at taken (x ∷ names) zero name fresh at = ap (has_name taken) (sym (same_Some x name at)) ∙ fresh.0
free_at taken (x ∷ names) (suc k) name fresh at = (lacks-append taken (x ∷ []) name (free_at (taken ++ x ∷ []) names k name fresh.1 at)).0

-- it is no earlier one
other_name : (taken names : List (List ℕ)) (x : List ℕ) (k : ℕ) (name : List ℕ) → AreFresh (taken ++ x ∷ []) names → slice_get names k ≡ Some name → bytes_eq x name ≡ false
other_name taken names x k name fresh at =
    let differs = (or_parts (bytes_eq name x) false (lacks-append taken (x ∷ []) name (free_at (taken ++ x ∷ []) names k name fresh at)).1).0 in
    bytes_differ x name (λ same. false≢true (sym differs ∙ (bytes_eq-Decides name x).1 (sym same)))

row_found : (n k : ℕ) (taken names : List (List ℕ)) (decls : List PredDecl) (name : List ℕ) (d : PredDecl) → AreFresh taken names → slice_get names k ≡ Some name → slice_get decls k ≡ Some d
    → look_up (symbols_from n names decls) name ≡ Some (symbol.Pred (n + k) d.sorts)
row_found n k taken [] decls name d fresh at there = absurd (none-some name at)
row_found n k taken (x ∷ names) [] name d fresh at there = absurd (none-some d there)
row_found n zero taken (x ∷ names) (e ∷ decls) name d fresh at there =
    ap (λ b. cond b (Some (symbol.Pred n e.sorts)) (look_up (symbols_from (n + 1) names decls) name)) (ap (λ y. bytes_eq y name) (same_Some x name at) ∙ same_name name)
    ∙ ap (λ (p : PredDecl). Some (symbol.Pred n p.sorts)) (same_Some e d there) ∙ ap (λ m. Some (symbol.Pred m d.sorts)) (let e : n ≡ n + 0 = omega arith in e)
row_found n (suc k) taken (x ∷ names) (e ∷ decls) name d fresh at there =
    ap (λ b. cond b (Some (symbol.Pred n e.sorts)) (look_up (symbols_from (n + 1) names decls) name)) (other_name taken names x k name fresh.1 at)
    ∙ row_found (n + 1) k (taken ++ x ∷ []) names decls name d fresh.1 at there
    ∙ ap (λ m. Some (symbol.Pred m d.sorts)) (let e : n + 1 + k ≡ n + suc k = omega arith in e)

-- the name of a live predicate stands for it, where the names of the live ones can be declared
pub live_found : (names taken : List (List ℕ)) (preds : List PredDecl) → AreFresh taken (live_names names 0 preds) → (p : ℕ) (d : PredDecl) → is_live preds p ≡ true → slice_get preds p ≡ Some d
    → look_up (symbols_from 0 (live_names names 0 preds) (live_preds preds)) (name_at names p) ≡ Some (symbol.Pred (number_again preds p) d.sorts)
live_found names taken preds fresh p d live at =
    row_found 0 (number_again preds p) taken (live_names names 0 preds) (live_preds preds) (name_at names p) d fresh
    (named_there names 0 preds p live ∙ ap (λ n. Some (name_at names n)) (none_more p))
    (declared_there preds p live ∙ at)
    ∙ ap (λ m. Some (symbol.Pred m d.sorts)) (none_more (number_again preds p))
