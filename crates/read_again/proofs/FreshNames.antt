-- The names of live predicates can be declared: none is a function's, and none stands twice.
use Rattle.std.proofs.Common.{◌≡◌, ◌∙◌, sym, ap, refl, subst, ℕ, zero, suc, ◌+◌, ◌≤◌, ◌<◌, Bool, true, false, not, ◌&&◌, List, [], ◌∷◌, ◌++◌, length, take, drop, Option, Some, None, slice_get, codes, append_assoc, arith}
use Rattle.std.specs.Prelude.{if◌then◌else◌}
use Rattle.std.specs.List.{list_all, flat_map}
use Rattle.std.specs.Str.{bytes_eq}
use Rattle.std.proofs.lemmas.Bool.{and_from, or_parts, or_from, false≢true}
use Rattle.std.proofs.lemmas.List.{map-append, append-nil, length-append}
use Rattle.std.proofs.lemmas.List.Folds.{list_any-append}
use Rattle.std.proofs.lemmas.Slice.Eq.{bytes_eq-Decides}
use Rattle.chc_sorts.specs.declared.data.Data.{Data}
use Rattle.chc_sorts.specs.declared.meaning.Meaning.{Meaning}
use Rattle.chc_sorts.specs.Signature.{Signature}
use Rattle.chc_sorts.specs.Names.{has_name, each_from}
use Rattle.chc_sorts.specs.Functions.{function_names}
use Rattle.chc_sorts.specs.Groups.{fixed_functions}
use Rattle.chc_sorts.specs.Listing.{AreFresh, names_of, rows_of}
use Rattle.chc_state.specs.declared.clause.PredDecl.{PredDecl}
use Rattle.chc_state.specs.Names.{AreNamesOf, is_fixed_name, is_writable_name}
use Rattle.chc_state.specs.States.{StateView}
use Rattle.chc_print.specs.Texts.{name_at, or_empty}
use Rattle.chc_print.specs.Prefix.{used_names, ctor_names}
use Rattle.chc_print.specs.Helpers.{numbered, AreHelpers, NamesPredicates}
use Rattle.read_again.specs.FirstGroups.{before_group, first_groups}
use Rattle.term_again.proofs.FunctionNames.{names_of_all_ctors}
use Rattle.term_again.proofs.TermNames.{passes_at}
use Rattle.read_again.specs.LivePredicates.{live_names}

-- the names can be declared over the signature: none is a fixed one, a constructor's or a selector's, none stands twice,
-- and all can be written
pub record CanBeDeclared (sig : Signature) (names : List (List ℕ)) : Type 0 where
  pub fresh : AreFresh (fixed_functions ++ function_names sig) names
  pub writable : list_all is_writable_name names ≡ true

-- ---- lists of names that are fresh

-- no name that the one list lacks stands in the other
abbrev IsWithin : List (List ℕ) → List (List ℕ) → Type 0
IsWithin few many = (name : List ℕ) → has_name many name ≡ false → has_name few name ≡ false

pub lacks-append : (xs ys : List (List ℕ)) (name : List ℕ) → has_name (xs ++ ys) name ≡ false → (has_name xs name ≡ false) × (has_name ys name ≡ false)
lacks-append xs ys name h = or_parts (has_name xs name) (has_name ys name) (sym (list_any-append (bytes_eq name) xs ys) ∙ h)

append-lacks : (xs ys : List (List ℕ)) (name : List ℕ) → has_name xs name ≡ false → has_name ys name ≡ false → has_name (xs ++ ys) name ≡ false
append-lacks xs ys name p q = list_any-append (bytes_eq name) xs ys ∙ or_from (has_name xs name) (has_name ys name) p q

within_more : (few many : List (List ℕ)) (more : List (List ℕ)) → IsWithin few many → IsWithin (few ++ more) (many ++ more)
within_more few many more within name h = let p = lacks-append many more name h in append-lacks few more name (within name p.0) p.1

fewer_taken : (few many names : List (List ℕ)) → IsWithin few many → AreFresh many names → AreFresh few names
fewer_taken few many [] within h = tt
fewer_taken few many (name ∷ names) within h = (within name h.0, fewer_taken (few ++ name ∷ []) (many ++ name ∷ []) names (within_more few many (name ∷ []) within) h.1)

without_last : (taken : List (List ℕ)) (x : List ℕ) → IsWithin taken (taken ++ x ∷ [])
without_last taken x name h = (lacks-append taken (x ∷ []) name h).0

fresh-append : (taken xs ys : List (List ℕ)) → AreFresh taken xs → AreFresh (taken ++ xs) ys → AreFresh taken (xs ++ ys)
fresh-append taken [] ys h g = subst (λ t. AreFresh t ys) (append-nil taken) g
fresh-append taken (x ∷ xs) ys h g = (h.0, fresh-append (taken ++ x ∷ []) xs ys h.1 (subst (λ t. AreFresh t ys) (sym (append_assoc taken (x ∷ []) xs)) g))

pub bytes_differ : (xs ys : List ℕ) → (xs ≡ ys → ⊥) → bytes_eq xs ys ≡ false
bytes_differ xs ys other = by (bytes_eq xs ys) refl
  where
    by : (b : Bool) → bytes_eq xs ys ≡ b → bytes_eq xs ys ≡ false
    by true e = absurd (other ((bytes_eq-Decides xs ys).0 e))
    by false e = e

-- names at two places that are all different, none of which is taken
fresh_names : (taken names : List (List ℕ)) → ((i : ℕ) (name : List ℕ) → slice_get names i ≡ Some name → has_name taken name ≡ false)
    → ((i j : ℕ) (name : List ℕ) → slice_get names i ≡ Some name → slice_get names j ≡ Some name → i ≡ j) → AreFresh taken names
fresh_names taken [] free apart = tt
fresh_names taken (x ∷ xs) free apart = (
  free 0 x refl,
  fresh_names (taken ++ x ∷ []) xs
      (λ i name at. append-lacks taken (x ∷ []) name (free (suc i) name at) (or_from (bytes_eq name x) false (bytes_differ name x (λ same. let e : suc i ≡ 0 = apart (suc i) 0 name at (ap Some (sym same)) in omega (arith, e))) refl))
      (λ i j name at there. let e : suc i ≡ suc j = apart (suc i) (suc j) name at there in omega (arith, e)),
)

-- ---- the live ones among all

rest_at : (all : List (List ℕ)) (k : ℕ) → k < length all → drop k all ≡ name_at all k ∷ drop (k + 1) all
rest_at [] k low = absurd (omega arith)
rest_at (x ∷ xs) zero low = refl
rest_at (x ∷ xs) (suc k) low = rest_at xs k (omega arith) ∙ ap (λ n. name_at xs k ∷ drop n (x ∷ xs)) (let e : suc (k + 1) ≡ suc k + 1 = omega arith in e)

live_fresh : (all : List (List ℕ)) (ds : List PredDecl) (k : ℕ) (taken : List (List ℕ)) → k + length ds ≤ length all → AreFresh taken (drop k all) → AreFresh taken (live_names all k ds)
live_fresh all [] k taken enough h = tt
live_fresh all (d ∷ ds) k taken enough h =
    let here = subst (AreFresh taken) (rest_at all k (omega arith)) h in
    by d.live (here.0, live_fresh all ds (k + 1) (taken ++ name_at all k ∷ []) (omega arith) here.1)
    (live_fresh all ds (k + 1) taken (omega arith) (fewer_taken taken (taken ++ name_at all k ∷ []) (drop (k + 1) all) (without_last taken (name_at all k)) here.1))
  where
    by : (b : Bool) → AreFresh taken (name_at all k ∷ live_names all (k + 1) ds) → AreFresh taken (live_names all (k + 1) ds)
        → AreFresh taken (if b then name_at all k ∷ live_names all (k + 1) ds else live_names all (k + 1) ds)
    by true first rest = first
    by false first rest = rest

live_spelt : (all : List (List ℕ)) → list_all is_writable_name all ≡ true → (ds : List PredDecl) (k : ℕ) → list_all is_writable_name (live_names all k ds) ≡ true
live_spelt all h [] k = refl
live_spelt all h (d ∷ ds) k = by d.live (named (slice_get all k) refl) (live_spelt all h ds (k + 1))
  where
    named : (o : Option (List ℕ)) → slice_get all k ≡ o → is_writable_name (name_at all k) ≡ true
    named None e = ap (λ o. is_writable_name (or_empty o)) e
    named (Some name) e = ap (λ o. is_writable_name (or_empty o)) e ∙ passes_at is_writable_name all k name h e

    by : (b : Bool) → is_writable_name (name_at all k) ≡ true → list_all is_writable_name (live_names all (k + 1) ds) ≡ true
        → list_all is_writable_name (if b then name_at all k ∷ live_names all (k + 1) ds else live_names all (k + 1) ds) ≡ true
    by true first rest = and_from (is_writable_name (name_at all k)) (list_all is_writable_name (live_names all (k + 1) ds)) first rest
    by false first rest = rest

-- ---- names of functions

fewer_rows : (n k : ℕ) (ts : List Data) → IsWithin (names_of (each_from rows_of n (take k ts))) (names_of (each_from rows_of n ts))
fewer_rows n zero [] name h = refl
fewer_rows n zero (t ∷ ts) name h = refl
fewer_rows n (suc k) [] name h = refl
fewer_rows n (suc k) (t ∷ ts) name h =
    let split = map-append (λ (row : List ℕ × Meaning). row.0) (rows_of n t) (each_from rows_of (suc n) ts) in
    let parts = lacks-append (names_of (rows_of n t)) (names_of (each_from rows_of (suc n) ts)) name (ap (λ l. has_name l name) (sym split) ∙ h) in
    ap (λ l. has_name l name) (map-append (λ (row : List ℕ × Meaning). row.0) (rows_of n t) (each_from rows_of (suc n) (take k ts)))
    ∙ append-lacks (names_of (rows_of n t)) (names_of (each_from rows_of (suc n) (take k ts))) name parts.0 (fewer_rows (suc n) k ts name parts.1)

-- the first groups have fewer functions
first_functions : (sig : Signature) (n : ℕ) → IsWithin (function_names (first_groups sig n)) (function_names sig)
first_functions sig n = fewer_rows 0 (before_group sig n) sig.datatypes

-- ---- helpers

-- no helper has the name of a fixed function
goal_not_fixed : (n : ℕ) → has_name fixed_functions (numbered (codes "goal!") n) ≡ false
unfolding fixed_functions
goal_not_fixed n = refl

fresh_helpers : (few many helpers : List (List ℕ)) → ((n : ℕ) → has_name many (numbered (codes "goal!") n) ≡ false → has_name few (numbered (codes "goal!") n) ≡ false)
    → AreHelpers many (codes "goal!") helpers → AreFresh few helpers
fresh_helpers few many [] within h = tt
fresh_helpers few many (name ∷ names) within h = (
  ap (has_name few) h.0.form ∙ within h.0.number (ap (has_name many) (sym h.0.form) ∙ h.0.free),
  fresh_helpers (few ++ name ∷ []) (many ++ name ∷ []) names
      (λ n lacks. let parts = lacks-append many (name ∷ []) (numbered (codes "goal!") n) lacks in append-lacks few (name ∷ []) (numbered (codes "goal!") n) (within n parts.0) parts.1) h.1,
)

-- ---- all of them

not_so : (a b : Bool) → (not a && not b) ≡ true → (a ≡ false) × (b ≡ false)
not_so true b h = absurd (false≢true h)
not_so false true h = absurd (false≢true h)
not_so false false h = (refl, refl)

module _ (s : StateView) (names all : List (List ℕ)) (are : AreNamesOf s names) (called : NamesPredicates s names all) (n : ℕ) where
  abbrev taken : List (List ℕ)
  taken = fixed_functions ++ function_names (first_groups s.sig n)

  name_free : (i : ℕ) (name : List ℕ) → slice_get names i ≡ Some name → has_name taken name ≡ false
  name_free i name at =
      let both = not_so (is_fixed_name name) (has_name (function_names s.sig) name) (passes_at (λ x. not (is_fixed_name x) && not (has_name (function_names s.sig) x)) names i name are.free at) in
      append-lacks fixed_functions (function_names (first_groups s.sig n)) name both.0 (first_functions s.sig n name both.1)

  helper_free : (k : ℕ) → has_name (used_names s.sig names) (numbered (codes "goal!") k) ≡ false → has_name (taken ++ names) (numbered (codes "goal!") k) ≡ false
  helper_free k lacks =
      let goal : List ℕ = numbered (codes "goal!") k in
      let parts = lacks-append names (flat_map ctor_names (flat_map (λ (t : Data). t.ctors) s.sig.datatypes)) goal lacks in
      let functions = ap (λ l. has_name l goal) (names_of_all_ctors s.sig.datatypes) ∙ parts.1 in
      append-lacks taken names goal (append-lacks fixed_functions (function_names (first_groups s.sig n)) goal (goal_not_fixed k) (first_functions s.sig n goal functions)) parts.0

  all_fresh : AreFresh taken all
  all_fresh =
      subst (AreFresh taken) (sym called.whole)
      (fresh-append taken names called.helpers (fresh_names taken names name_free are.apart)
      (fresh_helpers (taken ++ names) (used_names s.sig names) called.helpers helper_free called.are_next))

  pub enough_names : 0 + length s.preds ≤ length all
  enough_names =
      let whole : length all ≡ length (names ++ called.helpers) = ap length called.whole in
      let both = length-append names called.helpers in
      let count = called.count in
      omega arith

  -- the names of the live predicates can be declared
  pub names_declared : list_all is_writable_name all ≡ true → CanBeDeclared (first_groups s.sig n) (live_names all 0 s.preds)
  names_declared spelt = record { fresh = live_fresh all s.preds 0 taken enough_names all_fresh; writable = live_spelt all spelt s.preds 0 }
