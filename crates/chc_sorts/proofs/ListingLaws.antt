-- Rows that come behind others, and names that are fresh.
use Rattle.std.proofs.Common.{◌≡◌, ◌<◌, ◌≤◌, ◌+◌, ℕ, suc, Bool, true, false, ◌&&◌, List, [], ◌∷◌, ◌++◌, map, length, take, get_or, refl, ap, sym, subst, ◌∙◌, arith}
use Rattle.std.specs.List.{flat_map, list_all}
use Rattle.std.proofs.lemmas.Bool.{false≢true}
use Rattle.std.proofs.lemmas.List.{take-take, length-take}
use Rattle.std.proofs.Math.Seq.{take-append_seam}
use Rattle.chc_sorts.specs.declared.data.Data.{Data}
use Rattle.chc_sorts.specs.declared.data.Ctor.{Ctor}
use Rattle.chc_sorts.specs.declared.data.Field.{Field}
use Rattle.chc_sorts.specs.declared.meaning.Meaning.{Meaning}
use Rattle.chc_sorts.specs.declared.meaning.Meaning.TheVariants as meaning
use Rattle.chc_sorts.specs.Names.{each_from}
use Rattle.chc_sorts.specs.Functions.{functions_of}
use Rattle.chc_sorts.specs.Listing.{AreFresh, Begins, names_of, ctor_names, data_names, rows_of}
use Rattle.chc_sorts.proofs.PassLaws.{take_here}

rejoined : {X : Type 0} (xs ys zs : List X) → (xs ++ ys) ++ zs ≡ xs ++ (ys ++ zs)
rejoined [] ys zs = refl
rejoined (x ∷ xs) ys zs = ap (λ l. x ∷ l) (rejoined xs ys zs)

nothing_more : {X : Type 0} (xs : List X) → xs ++ [] ≡ xs
nothing_more [] = refl
nothing_more (x ∷ xs) = ap (λ l. x ∷ l) (nothing_more xs)

map-more : {X Y : Type 0} (f : X → Y) (xs ys : List X) → map f (xs ++ ys) ≡ map f xs ++ map f ys
map-more f [] ys = refl
map-more f (x ∷ xs) ys = ap (λ l. f x ∷ l) (map-more f xs ys)

-- what is given on two lists, one behind the other
pub each_from-append : {X Y : Type 0} (f : ℕ → X → List Y) (n : ℕ) (xs ys : List X) → each_from f n (xs ++ ys) ≡ each_from f n xs ++ each_from f (n + length xs) ys
each_from-append f n [] ys = ap (λ k. each_from f k ys) same
  where
    same : n ≡ n + 0
    same = omega arith
each_from-append f n (x ∷ xs) ys =
    ap (λ l. f n x ++ l) (each_from-append f (suc n) xs ys) ∙ sym (rejoined (f n x) (each_from f (suc n) xs) (each_from f (suc n + length xs) ys))
    ∙ ap (λ k. (f n x ++ each_from f (suc n) xs) ++ each_from f k ys) same
  where
    same : suc n + length xs ≡ n + length (x ∷ xs)
    same = omega arith

-- the names of rows
field_names : (d c n : ℕ) (fs : List Field) → names_of (each_from (λ i (f : Field). (f.name, meaning.Get d c i) ∷ []) n fs) ≡ map (λ (f : Field). f.name) fs
field_names d c n [] = refl
field_names d c n (f ∷ fs) = ap (λ l. f.name ∷ l) (field_names d c (suc n) fs)

pub names_of_ctor : (d c : ℕ) (k : Ctor) → names_of (functions_of d c k) ≡ ctor_names k
names_of_ctor d c k = ap (λ l. k.name ∷ l) (field_names d c 0 k.fields)

names_of_ctors : (d n : ℕ) (ks : List Ctor) → names_of (each_from (functions_of d) n ks) ≡ flat_map ctor_names ks
names_of_ctors d n [] = refl
names_of_ctors d n (k ∷ ks) =
    map-more (λ (row : List ℕ × Meaning). row.0) (functions_of d n k) (each_from (functions_of d) (suc n) ks)
    ∙ ap (λ l. l ++ names_of (each_from (functions_of d) (suc n) ks)) (names_of_ctor d n k)
    ∙ ap (λ l. ctor_names k ++ l) (names_of_ctors d (suc n) ks)

pub names_of_data : (d : ℕ) (t : Data) → names_of (rows_of d t) ≡ data_names t
names_of_data d t = names_of_ctors d 0 t.ctors

-- fresh names, one list behind the other
pub fresh_parts : (taken xs ys : List (List ℕ)) → AreFresh taken (xs ++ ys) → AreFresh taken xs × AreFresh (taken ++ xs) ys
fresh_parts taken [] ys h = (tt, subst (λ t. AreFresh t ys) (sym (nothing_more taken)) h)
fresh_parts taken (x ∷ xs) ys h =
    let rest = fresh_parts (taken ++ x ∷ []) xs ys h.1 in
    ((h.0, rest.0), subst (λ t. AreFresh t ys) (rejoined taken (x ∷ []) xs) rest.1)

-- the names behind rows that came are fresh still
pub fresh_later : (now new rows : List (List ℕ × Meaning)) (xs ys : List (List ℕ)) → new ≡ now ++ rows → names_of rows ≡ xs → AreFresh (names_of now) (xs ++ ys) → AreFresh (names_of new) ys
fresh_later now new rows xs ys e n h =
    subst (λ t. AreFresh t ys) (sym (ap names_of e ∙ map-more (λ (row : List ℕ × Meaning). row.0) now rows ∙ ap (λ l. names_of now ++ l) n)) (fresh_parts (names_of now) xs ys h).1

-- the rows of one more item
pub rows_more : {X : Type 0} (f : ℕ → X → List (List ℕ × Meaning)) (first : ℕ) (xs : List X) (i : ℕ) (x : X) (old now new : List (List ℕ × Meaning)) → i < length xs → x ≡ get_or xs i x
    → now ≡ old ++ each_from f first (take i xs) → new ≡ now ++ f (first + i) x → new ≡ old ++ each_from f first (take (i + 1) xs)
rows_more {X} f first xs i x old now new within is before e =
    e ∙ ap (λ l. l ++ f (first + i) x) before ∙ rejoined old (each_from f first (take i xs)) (f (first + i) x) ∙ ap (λ l. old ++ l) (sym added)
  where
    count : length (take i xs) ≡ i
    count = omega (arith, length-take i xs)

    added : each_from f first (take (i + 1) xs) ≡ each_from f first (take i xs) ++ f (first + i) x
    added = ap (each_from f first) (take_here xs i x within is) ∙ each_from-append f first (take i xs) (x ∷ [])
        ∙ ap (λ k. each_from f first (take i xs) ++ (f (first + k) x ++ [])) count ∙ ap (λ l. each_from f first (take i xs) ++ l) (nothing_more (f (first + i) x))

-- lists that begin as they were
pub begins_more : {X : Type 0} (old more new : List X) → new ≡ old ++ more → Begins old new
begins_more old more new e = ap (take (length old)) e ∙ take-append_seam old more

pub begins_on : {X : Type 0} (old now new : List X) → Begins old now → Begins now new → Begins old new
begins_on old now new h k = sym (take-take (length old) (length now) new shorter) ∙ ap (take (length old)) k ∙ h
  where
    shorter : length old ≤ length now
    shorter = omega (arith, length-take (length old) now, ap length h)

pub all_parts : {X : Type 0} (p : X → Bool) (x : X) (xs : List X) → list_all p (x ∷ xs) ≡ true → (p x ≡ true) × (list_all p xs ≡ true)
all_parts p x xs h = by (p x) h
  where
    by : (b : Bool) → (b && list_all p xs) ≡ true → (b ≡ true) × (list_all p xs ≡ true)
    by true g = (refl, g)
    by false g = absurd (false≢true g)
