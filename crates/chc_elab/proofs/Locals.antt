-- Names and what they stand for.
use Rattle.std.proofs.Common.{◌≡◌, ◌<◌, ◌≤◌, ◌+◌, ◌-◌, ◌&&◌, ◌||◌, not, cond, ℕ, zero, suc, Bool, true, false, List, [], ◌∷◌, ◌++◌, length, Option, Some, None, slice_get, get_or, take, drop, refl, sym, ap, subst, ◌∙◌, arith}
use Rattle.std.proofs.lemmas.List.{append_assoc, take_more}
use Rattle.std.proofs.lemmas.Option.{slice_get-get_or}
use Rattle.std.proofs.lemmas.List.Quantifiers.{position-Some}
use Rattle.std.proofs.lemmas.Slice.Eq.{bytes_eq-Decides}
use Rattle.std.specs.List.{list_any, position}
use Rattle.std.specs.Option.{option_or}
use Rattle.std.specs.Str.{bytes_eq}
use Rattle.chc_sorts.specs.Names.{has_name, number_of}
use Rattle.chc_elab.specs.declared.bound.Bound.{Bound}
use Rattle.chc_elab.specs.Apart.{are_apart}
use Rattle.chc_elab.specs.Settings.{locals_with, flat}
use Rattle.chc_elab.specs.Sites.{Local, local_named}

-- the local of a name
abbrev pub local_of : List ℕ → Bound → Local
local_of name b = record { name = name; value = b.value; under = b.under }

pub both_true : (a b : Bool) → (a && b) ≡ true → (a ≡ true) × (b ≡ true)
both_true true b h = (refl, h)
both_true false b h = cc

pub either_false : (a b : Bool) → (a || b) ≡ false → (a ≡ false) × (b ≡ false)
either_false false b h = (refl, h)
either_false true b h = cc

pub not_true : (b : Bool) → not b ≡ true → b ≡ false
not_true false h = refl
not_true true h = cc

-- names that are told apart either way
pub turned : (xs ys : List ℕ) → bytes_eq xs ys ≡ false → bytes_eq ys xs ≡ false
turned xs ys h = told (bytes_eq ys xs) (λ e. subst (λ b. b ≡ false) ((bytes_eq-Decides xs ys).1 (sym ((bytes_eq-Decides ys xs).0 e))) h)
  where
    told : (b : Bool) → (b ≡ true → true ≡ false) → b ≡ false
    told false f = refl
    told true f = f refl

pub same_name : (name : List ℕ) → bytes_eq name name ≡ true
same_name name = (bytes_eq-Decides name name).1 refl

pub with_push : (names : List (List ℕ)) (bounds : List Bound) (name : List ℕ) (b : Bound) → length names ≡ length bounds → locals_with (names ++ name ∷ []) (bounds ++ b ∷ []) ≡ locals_with names bounds ++ local_of name b ∷ []
with_push [] [] name b e = refl
with_push [] (c ∷ bounds) name b e = absurd (omega arith)
with_push (x ∷ names) [] name b e = absurd (omega arith)
with_push (x ∷ names) (c ∷ bounds) name b e = ap (λ l. local_of x c ∷ l) (with_push names bounds name b (omega arith))

-- one name more that isn't there
last_absent : (x : List ℕ) (names : List (List ℕ)) (name : List ℕ) → has_name names x ≡ false → bytes_eq x name ≡ false → has_name (names ++ name ∷ []) x ≡ false
last_absent x [] name h k = ap (λ b. b || false) k
last_absent x (y ∷ names) name h k =
    let parts = either_false (bytes_eq x y) (has_name names x) h in
    ap (λ b. b || has_name (names ++ name ∷ []) x) parts.0 ∙ last_absent x names name parts.1 k

pub apart_push : (names : List (List ℕ)) (name : List ℕ) → are_apart names ≡ true → has_name names name ≡ false → are_apart (names ++ name ∷ []) ≡ true
apart_push [] name h k = refl
apart_push (x ∷ names) name h k =
    let parts = both_true (not (has_name names x)) (are_apart names) h in
    let differ = either_false (bytes_eq name x) (has_name names name) k in
    let first = last_absent x names name (not_true (has_name names x) parts.0) (turned name x differ.0) in
    ap (λ b. not b && are_apart (names ++ name ∷ [])) first ∙ apart_push names name parts.1 differ.1

-- a name that isn't there stands for nothing
pub unbound : (names : List (List ℕ)) (bounds : List Bound) (name : List ℕ) → has_name names name ≡ false → local_named (locals_with names bounds) name ≡ None
unbound [] bounds name h = refl
unbound (x ∷ names) [] name h = refl
unbound (x ∷ names) (b ∷ bounds) name h =
    let parts = either_false (bytes_eq name x) (has_name names name) h in
    ap (λ o. option_or o (cond (bytes_eq x name) (Some (local_of x b)) None)) (unbound names bounds name parts.1)
    ∙ ap (λ c. cond c (Some (local_of x b)) None) (turned name x parts.0)

-- where names differ, a name stands for what stands at its place
pub bound : (names : List (List ℕ)) (bounds : List Bound) (name : List ℕ) (b : Bound) (i : ℕ) → are_apart names ≡ true → slice_get names i ≡ Some name → slice_get bounds i ≡ Some b → local_named (locals_with names bounds) name ≡ Some (local_of name b)
bound [] bounds name b i h at there = cc
bound (x ∷ names) [] name b i h at there = cc
bound (x ∷ names) (c ∷ bounds) name b zero h at there =
    let parts = both_true (not (has_name names x)) (are_apart names) h in
    let same : x ≡ name = cc in
    let what : c ≡ b = cc in
    let fresh : has_name names name ≡ false = subst (λ y. has_name names y ≡ false) same (not_true (has_name names x) parts.0) in
    ap (λ o. option_or o (cond (bytes_eq x name) (Some (local_of x c)) None)) (unbound names bounds name fresh)
    ∙ ap (λ t. cond t (Some (local_of x c)) None) ((bytes_eq-Decides x name).1 same)
    ∙ ap (λ y. Some (local_of y c)) same ∙ ap (λ d. Some (local_of name d)) what
bound (x ∷ names) (c ∷ bounds) name b (suc i) h at there =
    let parts = both_true (not (has_name names x)) (are_apart names) h in
    ap (λ o. option_or o (cond (bytes_eq x name) (Some (local_of x c)) None)) (bound names bounds name b i parts.1 at there)

-- where names differ, a name past all that names stand for stands for nothing
pub past : (names : List (List ℕ)) (bounds : List Bound) (name : List ℕ) (i : ℕ) → are_apart names ≡ true → slice_get names i ≡ Some name → slice_get bounds i ≡ None → local_named (locals_with names bounds) name ≡ None
past [] bounds name i h at there = refl
past (x ∷ names) [] name i h at there = refl
past (x ∷ names) (c ∷ bounds) name zero h at there = cc
past (x ∷ names) (c ∷ bounds) name (suc i) h at there =
    let parts = both_true (not (has_name names x)) (are_apart names) h in
    ap (λ o. option_or o (cond (bytes_eq x name) (Some (local_of x c)) None)) (past names bounds name i parts.1 at there)
    ∙ ap (λ t. cond t (Some (local_of x c)) None) (told (bytes_eq x name) (λ e. differs x names name i (not_true (has_name names x) parts.0) at ((bytes_eq-Decides x name).0 e)))
  where
    told : (b : Bool) → (b ≡ true → ⊥) → b ≡ false
    told false f = refl
    told true f = absurd (f refl)

    differs : (x : List ℕ) (xs : List (List ℕ)) (name : List ℕ) (i : ℕ) → has_name xs x ≡ false → slice_get xs i ≡ Some name → x ≡ name → ⊥
    differs x [] name i h at e = cc
    differs x (y ∷ ys) name zero h at e =
        let parts = either_false (bytes_eq x y) (has_name ys x) h in
        let here : y ≡ name = cc in
        let equal = (bytes_eq-Decides x y).1 (e ∙ sym here) in
        cc
    differs x (y ∷ ys) name (suc i) h at e =
        let parts = either_false (bytes_eq x y) (has_name ys x) h in
        differs x ys name i parts.1 at e

-- the place where a list has a name
pub place_of : (names : List (List ℕ)) (name : List ℕ) (i : ℕ) → number_of names name ≡ Some i → slice_get names i ≡ Some name
place_of names name i h =
    let found = position-Some (bytes_eq name) names i name h in
    slice_get-get_or names i name found.0 ∙ ap Some (sym ((bytes_eq-Decides name (get_or names i name)).0 found.1))

-- the local of a name in two lists one after another
pub local-append : (outer inner : List Local) (name : List ℕ) → local_named (outer ++ inner) name ≡ option_or (local_named inner name) (local_named outer name)
local-append [] inner name = sym (or_none (local_named inner name))
  where
    or_none : {A : Type 0} (o : Option A) → option_or o None ≡ o
    or_none None = refl
    or_none (Some x) = refl
local-append (l ∷ outer) inner name =
    ap (λ o. option_or o (cond (bytes_eq l.name name) (Some l) None)) (local-append outer inner name)
    ∙ or_assoc (local_named inner name) (local_named outer name) (cond (bytes_eq l.name name) (Some l) None)
  where
    or_assoc : {A : Type 0} (o p q : Option A) → option_or (option_or o p) q ≡ option_or o (option_or p q)
    or_assoc None p q = refl
    or_assoc (Some x) p q = refl

pub append_nil : (l : List Local) → l ++ [] ≡ l
append_nil [] = refl
append_nil (x ∷ xs) = ap (λ l. x ∷ l) (append_nil xs)

pub flat-append : (fs gs : List (List Local)) → flat (fs ++ gs) ≡ flat fs ++ flat gs
flat-append [] gs = refl
flat-append (f ∷ fs) gs = ap (λ l. f ++ l) (flat-append fs gs) ∙ sym (append_assoc f (flat fs) (flat gs))

-- one more list of locals
pub flat-push : (fs : List (List Local)) (f : List Local) → flat (fs ++ f ∷ []) ≡ flat fs ++ f
flat-push fs f = flat-append fs (f ∷ []) ∙ ap (λ l. flat fs ++ l) (append_nil f)

pub flat-last : (fs : List (List Local)) (n : ℕ) (f : List Local) → 0 < n → n ≤ length fs → f ≡ get_or fs (n - 1) f → flat (take n fs) ≡ flat (take (n - 1) fs) ++ f
flat-last fs n f some within e =
    let before : n ≡ n - 1 + 1 = omega arith in
    ap (λ m. flat (take m fs)) before ∙ ap flat (take_more fs (n - 1) f (omega arith) ∙ ap (λ (g : List Local). take (n - 1) fs ++ g ∷ []) (sym e)) ∙ flat-push (take (n - 1) fs) f

-- what a look-up in the last list says of the look-up in all
pub local-last : (fs : List (List Local)) (n : ℕ) (f : List Local) (name : List ℕ) → 0 < n → n ≤ length fs → f ≡ get_or fs (n - 1) f
    → local_named (flat (take n fs)) name ≡ option_or (local_named f name) (local_named (flat (take (n - 1) fs)) name)
local-last fs n f name some within e = ap (λ l. local_named l name) (flat-last fs n f some within e) ∙ local-append (flat (take (n - 1) fs)) f name
