-- What marks tell of datatypes: those that are marked have values, and after the last round those that aren't have none.
use Rattle.std.proofs.Common.{◌≡◌, ◌<◌, ◌≤◌, ◌+◌, ◌++◌, ℕ, Bool, true, false, not, ◌&&◌, ◌||◌, List, [], ◌∷◌, zero, suc, length, take, drop, ◌-◌, cond, set, Option, Some, None, slice_get, refl, sym, ap, ◌∙◌, subst, arith, ◌⊎◌, inl, inr}
use Rattle.std.specs.List.{list_all, list_any}
use Rattle.std.proofs.Math.Logic.{∥∥₁_map}
use Rattle.std.specs.Prelude.{MatchOption}
use Rattle.std.proofs.lemmas.Bool.{false≢true, cases_eq}
use Rattle.std.proofs.lemmas.List.{get_or-set_other, length-set, length-take-le, take-append-drop}
use Rattle.std.proofs.lemmas.List.Sums.{sum_by-set}
use Rattle.std.proofs.lemmas.Option.{none-some, same_Some, slice_get_within}
use Rattle.std.proofs.lemmas.Map.Keys.{any_passes_from_place}
use Rattle.chc_sorts.specs.declared.sort.Sort.{Sort, Sort-F, roll-Sort, map-Sort, ind-Sort, fold-roll-Sort}
use Rattle.chc_sorts.specs.declared.sort.Sort.TheVariants as sort
use Rattle.chc_sorts.specs.declared.data.Data.{Data}
use Rattle.chc_sorts.specs.declared.data.Field.{Field}
use Rattle.chc_sorts.specs.Signature.{IsInhabited, FieldsInhabited, AllInhabited}
use Rattle.chc_sorts.specs.Marks.{is_marked, sort_marked, sort_marked_step, ctor_marked, data_marked, AreTrue, AreClosed, AllMarked, IsFirstEmptyAt, unmarked}

-- what is shown of each sort, where P holds of an array's element sort
pub record CasesOfSort (P : Sort → Type 0) : Type 0 where
  pub of_bool : P sort.Bool
  pub of_int : P sort.Int
  pub of_data : (d : ℕ) → P (sort.Data d)
  pub of_array : (s : Sort) → P s → P (sort.Array s)

module _ (P : Sort → Type 0) where
  abbrev Shown : Type 0
  Shown = (s : Sort) × P s

  at_level : CasesOfSort P → (y : Sort-F Shown) → P (roll-Sort (map-Sort Shown Sort (λ (e : Shown). e.0) y))
  at_level c Sort-F.Bool = subst P (sym sort.rolls-Bool) c.of_bool
  at_level c Sort-F.Int = subst P (sym sort.rolls-Int) c.of_int
  at_level c (Sort-F.Data d) = subst P (sym (sort.rolls-Data d)) (c.of_data d)
  at_level c (Sort-F.Array s) = subst P (sym (sort.rolls-Array s.0)) (c.of_array s.0 s.1)

  -- induction over sorts
  pub by_sort : CasesOfSort P → (s : Sort) → P s
  by_sort c = ind-Sort P (λ x y e. subst (λ z. P (roll-Sort z)) e (at_level c y))

-- what the marks say of each kind of sort
module _ (marks : List Bool) where
  pub sort_marked-Bool : sort_marked marks sort.Bool ≡ true
  sort_marked-Bool = ap (sort_marked marks) (sym sort.rolls-Bool) ∙ fold-roll-Sort Bool (sort_marked_step marks) Sort-F.Bool

  pub sort_marked-Int : sort_marked marks sort.Int ≡ true
  sort_marked-Int = ap (sort_marked marks) (sym sort.rolls-Int) ∙ fold-roll-Sort Bool (sort_marked_step marks) Sort-F.Int

  pub sort_marked-Data : (d : ℕ) → sort_marked marks (sort.Data d) ≡ is_marked marks d
  sort_marked-Data d = ap (sort_marked marks) (sym (sort.rolls-Data d)) ∙ fold-roll-Sort Bool (sort_marked_step marks) (Sort-F.Data d)

  pub sort_marked-Array : (s : Sort) → sort_marked marks (sort.Array s) ≡ sort_marked marks s
  sort_marked-Array s = ap (sort_marked marks) (sym (sort.rolls-Array s)) ∙ fold-roll-Sort Bool (sort_marked_step marks) (Sort-F.Array s)

both_hold : (a b : Bool) → (a && b) ≡ true → (a ≡ true) × (b ≡ true)
both_hold true b h = (refl, h)
both_hold false b h = absurd (false≢true h)

-- an element that passes, with its place
abbrev PlaceOf : {X : Type 0} → (X → Bool) → List X → Type 0
PlaceOf {X} p xs = (i : ℕ) × (x : X) × (slice_get xs i ≡ Some x) × (p x ≡ true)

place_in : {X : Type 0} (p : X → Bool) (x : X) (xs : List X) (b : Bool) → p x ≡ b → (b || list_any p xs) ≡ true → (list_any p xs ≡ true → PlaceOf p xs) → PlaceOf p (x ∷ xs)
place_in p x xs true e g later = (0, x, refl, e)
place_in p x xs false e g later = let r = later g in (suc r.0, r.1, r.2, r.3)

place_of_passing : {X : Type 0} (p : X → Bool) (xs : List X) → list_any p xs ≡ true → PlaceOf p xs
place_of_passing p [] h = absurd (false≢true h)
place_of_passing p (x ∷ xs) h = place_in p x xs (p x) refl h (λ g. place_of_passing p xs g)

-- where the marked datatypes have values, what the marks say is so
module _ (ds : List Data) (marks : List Bool) (h : AreTrue ds marks) where
  sort_truly : (s : Sort) → sort_marked marks s ≡ true → IsInhabited ds s
  sort_truly = by_sort (λ s. sort_marked marks s ≡ true → IsInhabited ds s) (record {
    of_bool = λ e. IsInhabited.bool;
    of_int = λ e. IsInhabited.int;
    of_data = λ d e. h.inhabited d (sym (sort_marked-Data marks d) ∙ e);
    of_array = λ s f e. IsInhabited.array s (f (sym (sort_marked-Array marks s) ∙ e));
  })

  fields_truly : (fs : List Field) → list_all (λ (f : Field). sort_marked marks f.sort) fs ≡ true → FieldsInhabited ds fs
  fields_truly [] e = FieldsInhabited.none
  fields_truly (f ∷ fs) e = let b = both_hold _ _ e in FieldsInhabited.more f fs (sort_truly f.sort b.0) (fields_truly fs b.1)

  pub data_truly : (d : ℕ) (t : Data) → slice_get ds d ≡ Some t → data_marked marks t ≡ true → IsInhabited ds (sort.Data d)
  data_truly d t at e =
      let p = place_of_passing (ctor_marked marks) t.ctors e in
      IsInhabited.datatype d p.0 t p.1 at p.2 (fields_truly p.1.fields p.3)

-- after the last round each sort with a value is marked
module _ (ds : List Data) (marks : List Bool) (closed : AreClosed ds marks) where
  mutual
    marked_where_inhabited : (s : Sort) → IsInhabited ds s → sort_marked marks s ≡ true
    marked_where_inhabited _ IsInhabited.bool = sort_marked-Bool marks
    marked_where_inhabited _ IsInhabited.int = sort_marked-Int marks
    marked_where_inhabited _ (IsInhabited.array s v) = sort_marked-Array marks s ∙ marked_where_inhabited s v
    marked_where_inhabited _ (IsInhabited.datatype d c t k at there fields) =
        sort_marked-Data marks d ∙ closed.marked d t at (any_passes_from_place (ctor_marked marks) t.ctors c k there (fields_where_inhabited k.fields fields))

    fields_where_inhabited : (fs : List Field) → FieldsInhabited ds fs → list_all (λ (f : Field). sort_marked marks f.sort) fs ≡ true
    fields_where_inhabited _ FieldsInhabited.none = refl
    fields_where_inhabited _ (FieldsInhabited.more f fs v vs) = ap (λ b. b && list_all (λ (f : Field). sort_marked marks f.sort) fs) (marked_where_inhabited f.sort v) ∙ fields_where_inhabited fs vs

  pub empty_where_unmarked : (d : ℕ) → is_marked marks d ≡ false → IsInhabited ds (sort.Data d) → ⊥
  empty_where_unmarked d e v = false≢true (sym e ∙ sym (sort_marked-Data marks d) ∙ marked_where_inhabited (sort.Data d) v)

-- a new mark is a true one
pub true_with_more : (ds : List Data) (marks : List Bool) (i : ℕ) (t : Data) → i < length marks → slice_get ds i ≡ Some t → data_marked marks t ≡ true
    → AreTrue ds marks → AreTrue ds (set marks i true)
true_with_more ds marks i t within at e h = record { inhabited = λ d g. by_place d (cases_eq d i) g }
  where
    by_place : (d : ℕ) → (d ≡ i) ⊎ (d ≡ i → ⊥) → is_marked (set marks i true) d ≡ true → IsInhabited ds (sort.Data d)
    by_place d (inl p) g = subst (λ j. IsInhabited ds (sort.Data j)) (sym p) (data_truly ds marks h i t at e)
    by_place d (inr p) g = h.inhabited d (sym (get_or-set_other marks i d true false p) ∙ g)

-- what a round has kept when it comes to datatype i
pub record RoundKept (ds : List Data) (before marks : List Bool) (i : ℕ) (grown : Bool) : Type 0 where
  pub along : length marks ≡ length ds
  pub holds : AreTrue ds before → AreTrue ds marks
  pub same : grown ≡ false → marks ≡ before
  pub seen : grown ≡ false → (d : ℕ) → d < i → (t : Data) → slice_get ds d ≡ Some t → data_marked before t ≡ true → is_marked before d ≡ true
  pub least : unmarked marks ≤ unmarked before
  pub fewer : grown ≡ true → unmarked marks < unmarked before

module _ (ds : List Data) (before marks : List Bool) (i : ℕ) (grown : Bool) (t : Data) (at : slice_get ds i ≡ Some t) (k : RoundKept ds before marks i grown) where
  -- a datatype that was seen to have a value before, or isn't yet
  pub round_none : (not (is_marked marks i) && data_marked marks t) ≡ false → RoundKept ds before marks (i + 1) grown
  round_none old = record {
    along = k.along;
    holds = k.holds;
    same = k.same;
    seen = λ g d below u there e. by_place d (cases_eq d i) g below u there e;
    least = k.least;
    fewer = k.fewer;
  }
    where
      stays : (a b : Bool) → (not a && b) ≡ false → b ≡ true → a ≡ true
      stays true b e h = refl
      stays false b e h = absurd (false≢true (sym e ∙ h))

      here : grown ≡ false → data_marked before t ≡ true → is_marked before i ≡ true
      here g e =
          let moved : data_marked marks t ≡ true = ap (λ m. data_marked m t) (k.same g) ∙ e in
          ap (λ m. is_marked m i) (sym (k.same g)) ∙ stays (is_marked marks i) (data_marked marks t) old moved

      by_place : (d : ℕ) → (d ≡ i) ⊎ (d ≡ i → ⊥) → grown ≡ false → d < i + 1 → (u : Data) → slice_get ds d ≡ Some u → data_marked before u ≡ true → is_marked before d ≡ true
      by_place d (inl p) g below u there e =
          let same_data : u ≡ t = same_Some u t (sym there ∙ ap (slice_get ds) p ∙ at) in
          ap (is_marked before) p ∙ here g (ap (data_marked before) (sym same_data) ∙ e)
      by_place d (inr p) g below u there e = k.seen g d (omega arith) u there e

  -- a datatype that is seen to have a value for the first time
  pub round_new : (not (is_marked marks i) && data_marked marks t) ≡ true → RoundKept ds before (set marks i true) (i + 1) true
  round_new new = record {
    along = length-set marks i true ∙ k.along;
    holds = λ h. true_with_more ds marks i t within at parts.1 (k.holds h);
    same = λ e. absurd (false≢true (sym e));
    seen = λ e. absurd (false≢true (sym e));
    least = omega (arith, k.least, count);
    fewer = λ _. omega (arith, k.least, count);
  }
    where
      parts : (not (is_marked marks i) ≡ true) × (data_marked marks t ≡ true)
      parts = both_hold (not (is_marked marks i)) (data_marked marks t) new

      within : i < length marks
      within = subst (λ n. i < n) (sym k.along) (slice_get_within ds i t at)

      counts_one : (b : Bool) → not b ≡ true → ◌≡◌ {A = ℕ} (cond (not b) 1 0) 1
      counts_one true e = absurd (false≢true e)
      counts_one false e = refl

      count : unmarked (set marks i true) + 1 ≡ unmarked marks
      count =
          let sums = sum_by-set (λ (b : Bool). cond (not b) 1 0) marks i true false within in
          let one : ◌≡◌ {A = ℕ} (cond (not (is_marked marks i)) 1 0) 1 = counts_one (is_marked marks i) parts.0 in
          omega (arith, sums, one)

  -- the step of a round
  pub round_step : (new : Bool) → new ≡ (not (is_marked marks i) && data_marked marks t) → RoundKept ds before (cond new (set marks i true) marks) (i + 1) (grown || new)
  round_step true e = by_grown grown (round_new (sym e))
    where
      by_grown : (b : Bool) → RoundKept ds before (set marks i true) (i + 1) true → RoundKept ds before (set marks i true) (i + 1) (b || true)
      by_grown true r = r
      by_grown false r = r
  round_step false e = by_grown grown (round_none (sym e))
    where
      by_grown : (b : Bool) → RoundKept ds before marks (i + 1) b → RoundKept ds before marks (i + 1) (b || false)
      by_grown true r = r
      by_grown false r = r

-- the marks after a round in which none was new
pub closed_after : (ds : List Data) (before marks : List Bool) (i : ℕ) → length ds ≤ i → RoundKept ds before marks i false → AreClosed ds marks
closed_after ds before marks i all k = record {
  marked = λ d t at e.
      let within : d < length ds = slice_get_within ds d t at in
      let moved : data_marked before t ≡ true = ap (λ m. data_marked m t) (sym (k.same refl)) ∙ e in
      ap (λ m. is_marked m d) (k.same refl) ∙ k.seen refl d (omega arith) t at moved;
}

-- no mark behind the known ones
pub known_more : (marks : List Bool) (b : Bool) (known : ℕ) → ((d : ℕ) → is_marked marks d ≡ true → d < known) → (b ≡ true → length marks < known)
    → (d : ℕ) → is_marked (marks ++ b ∷ []) d ≡ true → d < known
known_more [] b known h last zero e = last e
known_more [] b known h last (suc d) e = absurd (false≢true e)
known_more (a ∷ marks) b known h last zero e = h zero e
known_more (a ∷ marks) b known h last (suc d) e =
    let moved : d < known - 1 = known_more marks b (known - 1) (λ k g. let lt : suc k < known = h (suc k) g in omega arith) (λ g. let lt : length (a ∷ marks) < known = last g in omega arith) d e in
    omega arith

-- a sort that has a value has one when more datatypes come
module _ (ds more : List Data) where
  get_before : {X : Type 0} (xs ys : List X) (i : ℕ) (x : X) → slice_get xs i ≡ Some x → slice_get (xs ++ ys) i ≡ Some x
  get_before [] ys i x e = absurd (none-some x e)
  get_before (y ∷ xs) ys zero x e = e
  get_before (y ∷ xs) ys (suc i) x e = get_before xs ys i x e

  mutual
    pub inhabited_later : (s : Sort) → IsInhabited ds s → IsInhabited (ds ++ more) s
    inhabited_later _ IsInhabited.bool = IsInhabited.bool
    inhabited_later _ IsInhabited.int = IsInhabited.int
    inhabited_later _ (IsInhabited.array s v) = IsInhabited.array s (inhabited_later s v)
    inhabited_later _ (IsInhabited.datatype d c t k at there fields) = IsInhabited.datatype d c t k (get_before ds more d t at) there (fields_later k.fields fields)

    fields_later : (fs : List Field) → FieldsInhabited ds fs → FieldsInhabited (ds ++ more) fs
    fields_later _ FieldsInhabited.none = FieldsInhabited.none
    fields_later _ (FieldsInhabited.more f fs v vs) = FieldsInhabited.more f fs (inhabited_later f.sort v) (fields_later fs vs)

-- marks on datatypes that had values before the others came are true
pub known_true : (ds : List Data) (known : ℕ) (marks : List Bool) → known ≤ length ds → ((d : ℕ) → is_marked marks d ≡ true → d < known)
    → AllInhabited (take known ds) → ∥ AreTrue ds marks ∥₁
known_true ds known marks within h old = ∥∥₁_map old (λ all. record {
  inhabited = λ d e.
      let below : d < known = h d e in
      let t = at_place (take known ds) d (subst (λ n. d < n) (sym (length-take-le known ds within)) below) in
      subst (λ l. IsInhabited l (sort.Data d)) (take-append-drop known ds) (inhabited_later (take known ds) (drop known ds) (sort.Data d) (all d t.0 t.1));
})
  where
    at_place : (xs : List Data) (i : ℕ) → i < length xs → (x : Data) × (slice_get xs i ≡ Some x)
    at_place [] i lt = absurd (omega arith)
    at_place (x ∷ xs) zero lt = (x, refl)
    at_place (x ∷ xs) (suc i) lt = at_place xs i (omega arith)

-- what exact marks tell
module _ (ds : List Data) (marks : List Bool) (along : length marks ≡ length ds) (sound : ∥ AreTrue ds marks ∥₁) (closed : AreClosed ds marks) where
  pub all_inhabited : AllMarked marks (length marks) → AllInhabited ds
  all_inhabited all = ∥∥₁_map sound (λ h d t at. let lt : d < length ds = slice_get_within ds d t at in h.inhabited d (all d (omega arith)))

  pub first_empty_at : (number : ℕ) → (number < length marks) × (is_marked marks number ≡ false) × AllMarked marks number → IsFirstEmptyAt ds number
  first_empty_at number h = record {
    within = let lt = h.0 in omega arith;
    empty = empty_where_unmarked ds marks closed number h.1;
    earlier = λ d below. ∥∥₁_map sound (λ s. s.inhabited d (h.2 d below));
  }

  pub first_empty_told : (o : Option ℕ) → MatchOption o (AllMarked marks (length marks)) (λ d. (d < length marks) × (is_marked marks d ≡ false) × AllMarked marks d)
      → MatchOption o (AllInhabited ds) (IsFirstEmptyAt ds)
  first_empty_told None h = all_inhabited h
  first_empty_told (Some d) h = first_empty_at d h
