-- `same_sort` tells whether two sorts are equal, and the depth of a sort by its variant.
use Rattle.std.proofs.Common.{◌≡◌, ℕ, ◌+◌, Bool, true, false, ◌&&◌, List, [], ◌∷◌, length, refl, sym, ap, ◌∙◌, subst}
use Rattle.std.specs.Prelude.{nat_eq}
use Rattle.std.proofs.lemmas.Bool.{false≢true}
use Rattle.std.proofs.lemmas.Bool.Decides.{nat_tests}
use Rattle.std.proofs.Common.{arith}
use Rattle.chc_sorts.specs.declared.sort.Sort.{Sort, Sort-F, out-Sort, roll-Sort, roll-out-Sort, map-Sort, ind-Sort, fold-roll-Sort}
use Rattle.chc_sorts.specs.declared.sort.Sort.TheVariants as sort
use Rattle.chc_sorts.specs.Sorts.{same_level, same_sort, same_sorts, sort_depth, sort_depth_step}

-- what is shown of each sort, where P holds of an array's element sort
pub record SortCases (P : Sort → Type 0) : Type 0 where
  pub of_bool : P sort.Bool
  pub of_int : P sort.Int
  pub of_data : (d : ℕ) → P (sort.Data d)
  pub of_array : (s : Sort) → P s → P (sort.Array s)

module _ (P : Sort → Type 0) where
  abbrev Shown : Type 0
  Shown = (s : Sort) × P s

  at_level : SortCases P → (y : Sort-F Shown) → P (roll-Sort (map-Sort Shown Sort (λ (e : Shown). e.0) y))
  at_level c Sort-F.Bool = subst P (sym sort.rolls-Bool) c.of_bool
  at_level c Sort-F.Int = subst P (sym sort.rolls-Int) c.of_int
  at_level c (Sort-F.Data d) = subst P (sym (sort.rolls-Data d)) (c.of_data d)
  at_level c (Sort-F.Array s) = subst P (sym (sort.rolls-Array s.0)) (c.of_array s.0 s.1)

  -- induction over sorts
  pub sort_ind : SortCases P → (s : Sort) → P s
  sort_ind c = ind-Sort P (λ x y e. subst (λ z. P (roll-Sort z)) e (at_level c y))

abbrev step : Sort-F (Sort → Bool) → Sort → Bool
step level s = same_level level (out-Sort s)

pub same_sort-Bool : (t : Sort) → same_sort sort.Bool t ≡ same_level Sort-F.Bool (out-Sort t)
same_sort-Bool t = λ i. (ap same_sort (sym sort.rolls-Bool) ∙ fold-roll-Sort (Sort → Bool) step Sort-F.Bool) i t

pub same_sort-Int : (t : Sort) → same_sort sort.Int t ≡ same_level Sort-F.Int (out-Sort t)
same_sort-Int t = λ i. (ap same_sort (sym sort.rolls-Int) ∙ fold-roll-Sort (Sort → Bool) step Sort-F.Int) i t

pub same_sort-Data : (d : ℕ) (t : Sort) → same_sort (sort.Data d) t ≡ same_level (Sort-F.Data d) (out-Sort t)
same_sort-Data d t = λ i. (ap same_sort (sym (sort.rolls-Data d)) ∙ fold-roll-Sort (Sort → Bool) step (Sort-F.Data d)) i t

pub same_sort-Array : (s t : Sort) → same_sort (sort.Array s) t ≡ same_level (Sort-F.Array (same_sort s)) (out-Sort t)
same_sort-Array s t = λ i. (ap same_sort (sym (sort.rolls-Array s)) ∙ fold-roll-Sort (Sort → Bool) step (Sort-F.Array s)) i t

-- the test by the variant of the first sort
pub ruleset levels = (same_sort-Bool, same_sort-Int, same_sort-Data, same_sort-Array)

pub sort_depth-Bool : sort_depth sort.Bool ≡ 1
sort_depth-Bool = λ i. (ap sort_depth (sym sort.rolls-Bool) ∙ fold-roll-Sort ℕ sort_depth_step Sort-F.Bool) i

pub sort_depth-Int : sort_depth sort.Int ≡ 1
sort_depth-Int = λ i. (ap sort_depth (sym sort.rolls-Int) ∙ fold-roll-Sort ℕ sort_depth_step Sort-F.Int) i

pub sort_depth-Data : (d : ℕ) → sort_depth (sort.Data d) ≡ 1
sort_depth-Data d = λ i. (ap sort_depth (sym (sort.rolls-Data d)) ∙ fold-roll-Sort ℕ sort_depth_step (Sort-F.Data d)) i

pub sort_depth-Array : (s : Sort) → sort_depth (sort.Array s) ≡ sort_depth s + 1
sort_depth-Array s = λ i. (ap sort_depth (sym (sort.rolls-Array s)) ∙ fold-roll-Sort ℕ sort_depth_step (Sort-F.Array s)) i

-- the depth by the variant
pub ruleset depths = (sort_depth-Bool, sort_depth-Int, sort_depth-Data, sort_depth-Array)

nat_eq-true : (d e : ℕ) → nat_eq d e ≡ true → d ≡ e
nat_eq-true d e h = grind (arith, nat_tests)

nat_eq_itself : (d : ℕ) → nat_eq d d ≡ true
nat_eq_itself d = grind (arith, nat_tests)

-- equal at a level, equal sorts
abbrev Tells : Sort → Type 0
Tells s = (t : Sort) → same_sort s t ≡ true → s ≡ t

bool_level : (x : Sort-F Sort) → same_level Sort-F.Bool x ≡ true → sort.Bool ≡ roll-Sort x
bool_level Sort-F.Bool h = sym sort.rolls-Bool
bool_level Sort-F.Int h = absurd (false≢true h)
bool_level (Sort-F.Data e) h = absurd (false≢true h)
bool_level (Sort-F.Array t) h = absurd (false≢true h)

int_level : (x : Sort-F Sort) → same_level Sort-F.Int x ≡ true → sort.Int ≡ roll-Sort x
int_level Sort-F.Bool h = absurd (false≢true h)
int_level Sort-F.Int h = sym sort.rolls-Int
int_level (Sort-F.Data e) h = absurd (false≢true h)
int_level (Sort-F.Array t) h = absurd (false≢true h)

data_level : (d : ℕ) (x : Sort-F Sort) → same_level (Sort-F.Data d) x ≡ true → sort.Data d ≡ roll-Sort x
data_level d Sort-F.Bool h = absurd (false≢true h)
data_level d Sort-F.Int h = absurd (false≢true h)
data_level d (Sort-F.Data e) h = ap sort.Data (nat_eq-true d e h) ∙ sym (sort.rolls-Data e)
data_level d (Sort-F.Array t) h = absurd (false≢true h)

array_level : (s : Sort) → Tells s → (x : Sort-F Sort) → same_level (Sort-F.Array (same_sort s)) x ≡ true → sort.Array s ≡ roll-Sort x
array_level s f Sort-F.Bool h = absurd (false≢true h)
array_level s f Sort-F.Int h = absurd (false≢true h)
array_level s f (Sort-F.Data e) h = absurd (false≢true h)
array_level s f (Sort-F.Array t) h = ap sort.Array (f t h) ∙ sym (sort.rolls-Array t)

pub same_from_test : (s t : Sort) → same_sort s t ≡ true → s ≡ t
same_from_test = sort_ind Tells (record {
  of_bool = λ t h. bool_level (out-Sort t) (sym (same_sort-Bool t) ∙ h) ∙ roll-out-Sort t;
  of_int = λ t h. int_level (out-Sort t) (sym (same_sort-Int t) ∙ h) ∙ roll-out-Sort t;
  of_data = λ d t h. data_level d (out-Sort t) (sym (same_sort-Data d t) ∙ h) ∙ roll-out-Sort t;
  of_array = λ s f t h. array_level s f (out-Sort t) (sym (same_sort-Array s t) ∙ h) ∙ roll-out-Sort t;
})

pub same_itself : (s : Sort) → same_sort s s ≡ true
same_itself = sort_ind (λ s. same_sort s s ≡ true) (record {
  of_bool = same_sort-Bool sort.Bool ∙ ap (same_level Sort-F.Bool) sort.outs-Bool;
  of_int = same_sort-Int sort.Int ∙ ap (same_level Sort-F.Int) sort.outs-Int;
  of_data = λ d. same_sort-Data d (sort.Data d) ∙ ap (same_level (Sort-F.Data d)) (sort.outs-Data d) ∙ nat_eq_itself d;
  of_array = λ s h. same_sort-Array s (sort.Array s) ∙ ap (same_level (Sort-F.Array (same_sort s))) (sort.outs-Array s) ∙ h;
})

pub test_from_same : (s t : Sort) → s ≡ t → same_sort s t ≡ true
test_from_same s t e = subst (λ u. same_sort s u ≡ true) e (same_itself s)

-- both parts of a conjunction
pub both_true : (a b : Bool) → (a && b) ≡ true → (a ≡ true) × (b ≡ true)
both_true true b h = (refl, h)
both_true false b h = absurd (false≢true h)

pub same_sorts_from_test : (ss ts : List Sort) → same_sorts ss ts ≡ true → ss ≡ ts
same_sorts_from_test [] [] h = refl
same_sorts_from_test [] (t ∷ ts) h = absurd (false≢true h)
same_sorts_from_test (s ∷ ss) [] h = absurd (false≢true h)
same_sorts_from_test (s ∷ ss) (t ∷ ts) h =
    let b = both_true (same_sort s t) (same_sorts ss ts) h in
    let p = same_from_test s t b.0 in let q = same_sorts_from_test ss ts b.1 in λ i. p i ∷ q i

pub same_sorts_itself : (ss : List Sort) → same_sorts ss ss ≡ true
same_sorts_itself [] = refl
same_sorts_itself (s ∷ ss) = rw (same_itself s) (same_sorts_itself ss)

differ : (b : Bool) (left right : List Sort) → (b ≡ true → left ≡ right) → (length left ≡ length right → ⊥) → false ≡ b
differ true left right same ne = absurd (ne (ap length (same refl)))
differ false left right same ne = refl

-- lists of other lengths have other sorts
pub other_lengths : (left right : List Sort) → (length left ≡ length right → ⊥) → false ≡ same_sorts left right
other_lengths left right ne = differ (same_sorts left right) left right (same_sorts_from_test left right) ne
