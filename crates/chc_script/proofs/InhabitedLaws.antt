-- After as many rounds as there are datatypes, the marks tell which have values.
use mathlib.Core.Logic.{∥∥₁_elim}
use mathlib.Core.HLevel.{⊥_prop}
use Rattle.std.proofs.Math.Logic.{∥∥₁_map}
use Rattle.std.proofs.Common.{◌≡◌, ◌<◌, ◌≤◌, ◌+◌, ℕ, Bool, true, false, ◌&&◌, ◌||◌, List, [], ◌∷◌, zero, suc, length, map, count_by, cond, Some, None, slice_get, refl, sym, ap, ◌∙◌, arith, ◌⊎◌, inl, inr}
use Rattle.std.specs.List.{list_all, list_any}
use Rattle.std.proofs.lemmas.Bool.{false≢true}
use Rattle.std.proofs.lemmas.List.{length-map}
use Rattle.std.proofs.lemmas.List.Sums.{sum_by-cons, count_by-le-length}
use Rattle.std.proofs.lemmas.Option.{none-some, same_Some}
use Rattle.std.proofs.lemmas.Map.Keys.{any_passes_from_place}
use Rattle.chc_sorts.specs.declared.sort.Sort.{Sort, Sort-F, fold-roll-Sort}
use Rattle.chc_sorts.specs.declared.sort.Sort.TheVariants as sort
use Rattle.chc_sorts.specs.declared.data.Data.{Data}
use Rattle.chc_sorts.specs.declared.data.Ctor.{Ctor}
use Rattle.chc_sorts.specs.declared.data.Field.{Field}
use Rattle.chc_sorts.specs.Signature.{IsInhabited, FieldsInhabited, AllInhabited}
use Rattle.chc_sorts.specs.Groups.{IsFirstEmpty}
use Rattle.chc_sorts.specs.Marks.{is_marked, sort_marked, sort_marked_step, ctor_marked, data_marked, AreTrue, AreClosed}
use Rattle.chc_sorts.proofs.SameSort.{sort_ind}
use Rattle.chc_script.specs.Inhabited.{marks_after, first_unmarked, first_without_value}

-- what marks say of each kind of sort
module _ (marks : List Bool) where
  marked-Bool : sort_marked marks sort.Bool ≡ true
  marked-Bool = ap (sort_marked marks) (sym sort.rolls-Bool) ∙ fold-roll-Sort Bool (sort_marked_step marks) Sort-F.Bool

  marked-Int : sort_marked marks sort.Int ≡ true
  marked-Int = ap (sort_marked marks) (sym sort.rolls-Int) ∙ fold-roll-Sort Bool (sort_marked_step marks) Sort-F.Int

  marked-Data : (d : ℕ) → sort_marked marks (sort.Data d) ≡ is_marked marks d
  marked-Data d = ap (sort_marked marks) (sym (sort.rolls-Data d)) ∙ fold-roll-Sort Bool (sort_marked_step marks) (Sort-F.Data d)

  marked-Array : (s : Sort) → sort_marked marks (sort.Array s) ≡ sort_marked marks s
  marked-Array s = ap (sort_marked marks) (sym (sort.rolls-Array s)) ∙ fold-roll-Sort Bool (sort_marked_step marks) (Sort-F.Array s)

both_hold : (a b : Bool) → (a && b) ≡ true → (a ≡ true) × (b ≡ true)
both_hold true b h = (refl, h)
both_hold false b h = absurd (false≢true h)

right_true : (a b : Bool) → b ≡ true → (a || b) ≡ true
right_true true b h = refl
right_true false b h = h

-- the place of one that passes a test
place_of : {X : Type 0} (p : X → Bool) (xs : List X) → list_any p xs ≡ true → (i : ℕ) × (x : X) × (slice_get xs i ≡ Some x) × (p x ≡ true)
place_of p [] h = absurd (false≢true h)
place_of {X} p (x ∷ xs) h = by (p x) refl h (place_of p xs)
  where
    by : (b : Bool) → p x ≡ b → (b || list_any p xs) ≡ true → (list_any p xs ≡ true → (i : ℕ) × (y : X) × (slice_get xs i ≡ Some y) × (p y ≡ true))
        → (i : ℕ) × (y : X) × (slice_get (x ∷ xs) i ≡ Some y) × (p y ≡ true)
    by true e g rest = (0, x, refl, e)
    by false e g rest = let r = rest g in (suc r.0, r.1, r.2, r.3)

-- where each sort that one list of marks has is one that the other has
module _ (m n : List Bool) (more : (d : ℕ) → is_marked m d ≡ true → is_marked n d ≡ true) where
  sort_more : (s : Sort) → sort_marked m s ≡ true → sort_marked n s ≡ true
  sort_more = sort_ind (λ s. sort_marked m s ≡ true → sort_marked n s ≡ true) (record {
    of_bool = λ e. marked-Bool n;
    of_int = λ e. marked-Int n;
    of_data = λ d e. marked-Data n d ∙ more d (sym (marked-Data m d) ∙ e);
    of_array = λ s f e. marked-Array n s ∙ f (sym (marked-Array m s) ∙ e);
  })

  fields_more : (fs : List Field) → list_all (λ (f : Field). sort_marked m f.sort) fs ≡ true → list_all (λ (f : Field). sort_marked n f.sort) fs ≡ true
  fields_more [] e = e
  fields_more (f ∷ fs) e =
      let b = both_hold (sort_marked m f.sort) (list_all (λ (f : Field). sort_marked m f.sort) fs) e in
      ap (λ c. c && list_all (λ (f : Field). sort_marked n f.sort) fs) (sort_more f.sort b.0) ∙ fields_more fs b.1

  ctors_more : (ks : List Ctor) → list_any (ctor_marked m) ks ≡ true → list_any (ctor_marked n) ks ≡ true
  ctors_more [] e = e
  ctors_more (k ∷ ks) e = by (ctor_marked m k) refl e (ctors_more ks)
    where
      by : (b : Bool) → ctor_marked m k ≡ b → (b || list_any (ctor_marked m) ks) ≡ true → (list_any (ctor_marked m) ks ≡ true → list_any (ctor_marked n) ks ≡ true) → list_any (ctor_marked n) (k ∷ ks) ≡ true
      by true p h rest = ap (λ c. c || list_any (ctor_marked n) ks) (fields_more k.fields p)
      by false p h rest = right_true (ctor_marked n k) (list_any (ctor_marked n) ks) (rest h)

  data_more : (t : Data) → data_marked m t ≡ true → data_marked n t ≡ true
  data_more t e = ctors_more t.ctors e

-- marks that a test gives
marked_at : {X : Type 0} (f : X → Bool) (xs : List X) (d : ℕ) → is_marked (map f xs) d ≡ true → (x : X) × (slice_get xs d ≡ Some x) × (f x ≡ true)
marked_at f [] d e = absurd (false≢true e)
marked_at f (x ∷ xs) zero e = (x, refl, e)
marked_at f (x ∷ xs) (suc d) e = marked_at f xs d e

at_marked : {X : Type 0} (f : X → Bool) (xs : List X) (d : ℕ) (x : X) → slice_get xs d ≡ Some x → is_marked (map f xs) d ≡ f x
at_marked f [] d x h = absurd (none-some x h)
at_marked f (y ∷ xs) zero x h = ap f (same_Some y x h)
at_marked f (y ∷ xs) (suc d) x h = at_marked f xs d x h

none_marked : {X : Type 0} (xs : List X) (d : ℕ) → is_marked (map (λ x. false) xs) d ≡ true → ⊥
none_marked [] d e = false≢true e
none_marked (x ∷ xs) zero e = false≢true e
none_marked (x ∷ xs) (suc d) e = none_marked xs d e

-- marks that grow are the same, or more
abbrev marked_count : List Bool → ℕ
marked_count marks = count_by (λ b. b) marks

count_next : (b : Bool) (marks : List Bool) → marked_count (b ∷ marks) ≡ cond b 1 0 + marked_count marks
count_next b marks = sum_by-cons (λ (c : Bool). cond c 1 0) b marks

abbrev SameOrMore : List Bool → List Bool → Type 0
SameOrMore m n = (m ≡ n) ⊎ (marked_count m < marked_count n)

at_least : (m n : List Bool) → SameOrMore m n → marked_count m ≤ marked_count n
at_least m n (inl e) = let c : marked_count m ≡ marked_count n = ap marked_count e in omega (arith, c)
at_least m n (inr l) = omega (arith, l)

same_or_more : (m n : List Bool) → length m ≡ length n → ((d : ℕ) → is_marked m d ≡ true → is_marked n d ≡ true) → SameOrMore m n
same_or_more [] [] e more = inl refl
same_or_more [] (b ∷ n) e more = absurd (omega (arith, e))
same_or_more (a ∷ m) [] e more = absurd (omega (arith, e))
same_or_more (a ∷ m) (b ∷ n) e more = by a b (more 0) (same_or_more m n (omega (arith, e)) (λ d. more (suc d)))
  where
    by : (a b : Bool) → (a ≡ true → b ≡ true) → SameOrMore m n → SameOrMore (a ∷ m) (b ∷ n)
    by true true h (inl p) = inl (ap (λ l. true ∷ l) p)
    by true true h (inr l) = inr (omega (arith, l, count_next true m, count_next true n))
    by true false h r = absurd (false≢true (h refl))
    by false true h r = inr (omega (arith, at_least m n r, count_next false m, count_next true n))
    by false false h (inl p) = inl (ap (λ l. false ∷ l) p)
    by false false h (inr l) = inr (omega (arith, l, count_next false m, count_next false n))

module _ (ds : List Data) where
  abbrev next : List Bool → List Bool
  next m = map (data_marked m) ds

  long : (n : ℕ) → length (marks_after ds n) ≡ length ds
  long zero = length-map ds (λ t. false)
  long (suc n) = length-map ds (data_marked (marks_after ds n))

  -- each round keeps the marks
  rising : (n d : ℕ) → is_marked (marks_after ds n) d ≡ true → is_marked (marks_after ds (suc n)) d ≡ true
  rising zero d e = absurd (none_marked ds d e)
  rising (suc n) d e =
      let p = marked_at (data_marked (marks_after ds n)) ds d e in
      at_marked (data_marked (marks_after ds (suc n))) ds d p.0 p.1 ∙ data_more (marks_after ds n) (marks_after ds (suc n)) (rising n) p.0 p.2

  round : (n : ℕ) → SameOrMore (marks_after ds n) (marks_after ds (suc n))
  round n = same_or_more (marks_after ds n) (marks_after ds (suc n)) (long n ∙ sym (long (suc n))) (rising n)

  -- a round changes nothing more, or there are more marks than rounds
  settled : (n : ℕ) → (marks_after ds n ≡ marks_after ds (suc n)) ⊎ (n < marked_count (marks_after ds (suc n)))
  settled zero = by (round 0)
    where
      by : SameOrMore (marks_after ds 0) (marks_after ds 1) → (marks_after ds 0 ≡ marks_after ds 1) ⊎ (0 < marked_count (marks_after ds 1))
      by (inl e) = inl e
      by (inr l) = inr (omega (arith, l))
  settled (suc n) = by (settled n) (round (suc n))
    where
      by : (marks_after ds n ≡ marks_after ds (suc n)) ⊎ (n < marked_count (marks_after ds (suc n))) → SameOrMore (marks_after ds (suc n)) (marks_after ds (suc (suc n)))
          → (marks_after ds (suc n) ≡ marks_after ds (suc (suc n))) ⊎ (suc n < marked_count (marks_after ds (suc (suc n))))
      by (inl e) r = inl (ap next e)
      by (inr l) (inl e) = inl e
      by (inr l) (inr m) = inr (omega (arith, l, m))

  abbrev last : List Bool
  last = marks_after ds (length ds)

  unchanged : last ≡ next last
  unchanged = by (settled (length ds))
    where
      by : (marks_after ds (length ds) ≡ marks_after ds (suc (length ds))) ⊎ (length ds < marked_count (marks_after ds (suc (length ds)))) → last ≡ next last
      by (inl e) = e
      by (inr l) =
          let most = count_by-le-length (λ (b : Bool). b) (marks_after ds (suc (length ds))) in
          absurd (omega (arith, l, most, long (suc (length ds))))

  last_closed : AreClosed ds last
  last_closed = record { marked = λ d t at e. ap (λ m. is_marked m d) unchanged ∙ at_marked (data_marked last) ds d t at ∙ e }

  -- each sort that has a value is marked then
  mutual
    marked_where_inhabited : (s : Sort) → IsInhabited ds s → sort_marked last s ≡ true
    marked_where_inhabited _ IsInhabited.bool = marked-Bool last
    marked_where_inhabited _ IsInhabited.int = marked-Int last
    marked_where_inhabited _ (IsInhabited.array s v) = marked-Array last s ∙ marked_where_inhabited s v
    marked_where_inhabited _ (IsInhabited.datatype d c t k at there fields) =
        marked-Data last d ∙ last_closed.marked d t at (any_passes_from_place (ctor_marked last) t.ctors c k there (fields_where_inhabited k.fields fields))

    fields_where_inhabited : (fs : List Field) → FieldsInhabited ds fs → list_all (λ (f : Field). sort_marked last f.sort) fs ≡ true
    fields_where_inhabited _ FieldsInhabited.none = refl
    fields_where_inhabited _ (FieldsInhabited.more f fs v vs) =
        ap (λ b. b && list_all (λ (f : Field). sort_marked last f.sort) fs) (marked_where_inhabited f.sort v) ∙ fields_where_inhabited fs vs

  -- and each that is marked has a value
  module _ (marks : List Bool) (h : AreTrue ds marks) where
    sort_truly : (s : Sort) → sort_marked marks s ≡ true → IsInhabited ds s
    sort_truly = sort_ind (λ s. sort_marked marks s ≡ true → IsInhabited ds s) (record {
      of_bool = λ e. IsInhabited.bool;
      of_int = λ e. IsInhabited.int;
      of_data = λ d e. h.inhabited d (sym (marked-Data marks d) ∙ e);
      of_array = λ s f e. IsInhabited.array s (f (sym (marked-Array marks s) ∙ e));
    })

    fields_truly : (fs : List Field) → list_all (λ (f : Field). sort_marked marks f.sort) fs ≡ true → FieldsInhabited ds fs
    fields_truly [] e = FieldsInhabited.none
    fields_truly (f ∷ fs) e =
        let b = both_hold (sort_marked marks f.sort) (list_all (λ (f : Field). sort_marked marks f.sort) fs) e in
        FieldsInhabited.more f fs (sort_truly f.sort b.0) (fields_truly fs b.1)

    data_truly : (d : ℕ) (t : Data) → slice_get ds d ≡ Some t → data_marked marks t ≡ true → IsInhabited ds (sort.Data d)
    data_truly d t at e =
        let p = place_of (ctor_marked marks) t.ctors e in
        IsInhabited.datatype d p.0 t p.1 at p.2 (fields_truly p.1.fields p.3)

  all_true : (n : ℕ) → AreTrue ds (marks_after ds n)
  all_true zero = record { inhabited = λ d e. absurd (none_marked ds d e) }
  all_true (suc n) = record {
    inhabited = λ d e.
        let p = marked_at (data_marked (marks_after ds n)) ds d e in
        data_truly (marks_after ds n) (all_true n) d p.0 p.1 p.2;
  }

-- the first datatype that isn't marked
none_unmarked : (ds : List Data) (marks : List Bool) → ((d : ℕ) → d < length ds → is_marked marks d ≡ true) → first_unmarked ds marks ≡ None
none_unmarked [] marks all = refl
none_unmarked (t ∷ ts) [] all = refl
none_unmarked (t ∷ ts) (b ∷ marks) all =
    ap (λ c. cond c (first_unmarked ts marks) (Some t.name)) (all 0 (omega arith)) ∙ none_unmarked ts marks (λ d l. all (suc d) (omega (arith, l)))

first_unmarked_at : (ds : List Data) (marks : List Bool) → length marks ≡ length ds → (k : ℕ) (t : Data) → slice_get ds k ≡ Some t → is_marked marks k ≡ false
    → ((d : ℕ) → d < k → is_marked marks d ≡ true) → first_unmarked ds marks ≡ Some t.name
first_unmarked_at [] marks e k t at off before = absurd (none-some t at)
first_unmarked_at (u ∷ ts) [] e k t at off before = absurd (omega (arith, e))
first_unmarked_at (u ∷ ts) (b ∷ marks) e zero t at off before =
    ap (λ c. cond c (first_unmarked ts marks) (Some u.name)) off ∙ ap (λ (x : Data). Some x.name) (same_Some u t at)
first_unmarked_at (u ∷ ts) (b ∷ marks) e (suc k) t at off before =
    ap (λ c. cond c (first_unmarked ts marks) (Some u.name)) (before 0 (omega arith))
    ∙ first_unmarked_at ts marks (omega (arith, e)) k t at off (λ d l. before (suc d) (omega (arith, l)))

-- a datatype that has a value is marked, and one that has none isn't
marked_now : (ds : List Data) (d : ℕ) → ∥ IsInhabited ds (sort.Data d) ∥₁ → is_marked (last ds) d ≡ true
marked_now ds d i = by (is_marked (last ds) d) refl
  where
    by : (b : Bool) → is_marked (last ds) d ≡ b → is_marked (last ds) d ≡ true
    by true e = e
    by false e = absurd (∥∥₁_elim i ⊥_prop (λ j. false≢true (sym e ∙ sym (marked-Data (last ds) d) ∙ marked_where_inhabited ds (sort.Data d) j)))

unmarked_now : (ds : List Data) (d : ℕ) → (IsInhabited ds (sort.Data d) → ⊥) → is_marked (last ds) d ≡ false
unmarked_now ds d none = by (is_marked (last ds) d) refl
  where
    by : (b : Bool) → is_marked (last ds) d ≡ b → is_marked (last ds) d ≡ false
    by true e = absurd (none ((all_true ds (length ds)).inhabited d e))
    by false e = e

-- there is none where all have values
pub none_where_all : (ds : List Data) → AllInhabited ds → first_without_value ds ≡ None
unfolding first_without_value
none_where_all ds all = none_unmarked ds (last ds) (λ d l. let t = there_is ds d l in marked_now ds d (∥∥₁_map all (λ f. f d t.0 t.1)))
  where
    there_is : (xs : List Data) (i : ℕ) → i < length xs → (x : Data) × (slice_get xs i ≡ Some x)
    there_is [] i l = absurd (omega (arith, l))
    there_is (x ∷ xs) zero l = (x, refl)
    there_is (x ∷ xs) (suc i) l = there_is xs i (omega (arith, l))

-- and else it is the first that has none
pub first_where_empty : (ds : List Data) (name : List ℕ) → IsFirstEmpty ds name → first_without_value ds ≡ Some name
unfolding first_without_value
first_where_empty ds name f =
    first_unmarked_at ds (last ds) (long ds (length ds)) f.number f.datatype f.there (unmarked_now ds f.number f.empty) (λ d l. marked_now ds d (f.earlier d l))
    ∙ ap (λ (n : List ℕ). Some n) f.named
