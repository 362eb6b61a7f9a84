-- The rounds in which the first constructors of least height are found.
use Rattle.std.proofs.Common.{◌≡◌, ◌⊎◌, ℕ, zero, suc, ◌+◌, ◌<◌, ◌≤◌, Bool, true, false, cond, ◌&&◌, nat_lt, List, [], ◌∷◌, length, map, Option, Some, None, slice_get, replicate, option_map, inl, inr, refl, sym, ap, ◌∙◌, subst, arith}
use Rattle.std.specs.List.{list_all, position_from}
use Rattle.std.proofs.lemmas.Bool.{false≢true}
use Rattle.std.proofs.lemmas.Bool.Decides.{nat_tests}
use Rattle.std.proofs.lemmas.Option.{same_Some, none-some, slice_get_within}
use Rattle.std.proofs.Math.Decide.{dec_lt}
use Rattle.std.proofs.lemmas.List.{length-replicate}
use mathlib.Core.Logic.{∥∥₁_elim}
use mathlib.Core.HLevel.{⊥_prop}
use Rattle.chc_sorts.specs.declared.sort.Sort.{Sort, Sort-F, roll-Sort, map-Sort, ind-Sort, fold-roll-Sort}
use Rattle.chc_sorts.specs.declared.sort.Sort.TheVariants as sort
use Rattle.chc_sorts.specs.declared.data.Data.{Data}
use Rattle.chc_sorts.specs.declared.data.Ctor.{Ctor}
use Rattle.chc_sorts.specs.declared.data.Field.{Field}
use Rattle.chc_sorts.specs.Signature as inhabited
use Rattle.chc_sorts.specs.Signature.{Signature, IsInhabited, FieldsInhabited}
use Rattle.chc_values.specs.declared.choice.Choice.{Choice}
use Rattle.chc_values.specs.Values.{HasFields}
use Rattle.chc_values.specs.Defaults.{HeightWithin, HeightsWithin, bool, int, array, datatype, none, more, IsFirstLeast}
use Rattle.chc_values.specs.Choices.{is_below, is_within, is_within_step, field_sorts, are_within, choice, next_choice, next_choices, IsChoice, AreChoices, AreAllBelow}

abbrev pub Choices : Type 0
Choices = List (Option Choice)

-- how many datatypes are without a choice
abbrev pub gaps : Choices → ℕ
gaps [] = 0
gaps (Some k ∷ choices) = gaps choices
gaps (None ∷ choices) = gaps choices + 1

pub nat_lt-true : (m n : ℕ) → nat_lt m n ≡ true → m < n
nat_lt-true m n h = grind (arith, nat_tests)

nat_lt-from : (m n : ℕ) → m < n → nat_lt m n ≡ true
nat_lt-from m n h = grind (arith, nat_tests)

-- what is shown of each sort, where P holds of an array's element sort
pub record SortCases (P : Sort → Type 0) : Type 0 where
  pub of_bool : P sort.Bool
  pub of_int : P sort.Int
  pub of_data : (d : ℕ) → P (sort.Data d)
  pub of_array : (s : Sort) → P s → P (sort.Array s)

module _ (P : Sort → Type 0) where
  abbrev Shown : Type 0
  Shown = (s : Sort) × P s

  at_level : SortCases P → (y : Sort-F Shown) → P (roll-Sort (map-Sort Shown Sort (λ (e : Shown). e.0) y))
  at_level c Sort-F.Bool = subst P (sym sort.rolls-Bool) c.of_bool
  at_level c Sort-F.Int = subst P (sym sort.rolls-Int) c.of_int
  at_level c (Sort-F.Data d) = subst P (sym (sort.rolls-Data d)) (c.of_data d)
  at_level c (Sort-F.Array s) = subst P (sym (sort.rolls-Array s.0)) (c.of_array s.0 s.1)

  -- induction over sorts
  pub each_sort : SortCases P → (s : Sort) → P s
  each_sort c = ind-Sort P (λ x y e. subst (λ z. P (roll-Sort z)) e (at_level c y))

-- the equations of `is_within`
module _ (choices : Choices) (n : ℕ) where
  pub within-Bool : is_within choices n sort.Bool ≡ true
  within-Bool = ap (is_within choices n) (sym sort.rolls-Bool) ∙ fold-roll-Sort Bool (is_within_step choices n) Sort-F.Bool

  pub within-Int : is_within choices n sort.Int ≡ true
  within-Int = ap (is_within choices n) (sym sort.rolls-Int) ∙ fold-roll-Sort Bool (is_within_step choices n) Sort-F.Int

  pub within-Data : (d : ℕ) → is_within choices n (sort.Data d) ≡ is_below (slice_get choices d) n
  within-Data d = ap (is_within choices n) (sym (sort.rolls-Data d)) ∙ fold-roll-Sort Bool (is_within_step choices n) (Sort-F.Data d)

  pub within-Array : (s : Sort) → is_within choices n (sort.Array s) ≡ is_within choices n s
  within-Array s = ap (is_within choices n) (sym (sort.rolls-Array s)) ∙ fold-roll-Sort Bool (is_within_step choices n) (Sort-F.Array s)

-- both parts of a conjunction
pub both : (a b : Bool) → (a && b) ≡ true → (a ≡ true) × (b ≡ true)
both true b h = (refl, h)
both false b h = absurd (false≢true h)

pub joined : (a b : Bool) → a ≡ true → b ≡ true → (a && b) ≡ true
joined true b p q = q
joined false b p q = absurd (false≢true p)

-- a test that passes implies another
all_along : {X : Type 0} (p q : X → Bool) → ((x : X) → p x ≡ true → q x ≡ true) → (xs : List X) → list_all p xs ≡ true → list_all q xs ≡ true
all_along p q f [] h = refl
all_along p q f (x ∷ xs) h = let b = both (p x) (list_all p xs) h in joined (q x) (list_all q xs) (f x b.0) (all_along p q f xs b.1)

-- a choice that is told
pub record Told (o : Option (Option Choice)) (n : ℕ) : Type 0 where
  pub chosen : Choice
  pub there : o ≡ Some (Some chosen)
  pub under : chosen.height < n

pub told : (o : Option (Option Choice)) (n : ℕ) → is_below o n ≡ true → Told o n
told (Some (Some k)) n h = record { chosen = k; there = refl; under = nat_lt-true k.height n h }
told (Some None) n h = absurd (false≢true h)
told None n h = absurd (false≢true h)

pub is_below-told : (o : Option (Option Choice)) (n : ℕ) (k : Choice) → o ≡ Some (Some k) → k.height < n → is_below o n ≡ true
is_below-told o n k e h = ap (λ x. is_below x n) e ∙ nat_lt-from k.height n h

-- the first of a list that passes
record FirstAt {X : Type 0} (p : X → Bool) (xs : List X) (c : ℕ) : Type 0 where
  one : X
  there : slice_get xs c ≡ Some one
  passes : p one ≡ true
  before : (j : ℕ) (y : X) → j < c → slice_get xs j ≡ Some y → p y ≡ true → ⊥

module _ {X : Type 0} (p : X → Bool) where
  record FoundAt (xs : List X) (i c : ℕ) : Type 0 where
    place : ℕ
    moved : c ≡ i + place
    first : FirstAt p xs place

  found_from : (b : Bool) (x : X) (xs : List X) (i c : ℕ) → p x ≡ b → cond b (Some i) (position_from p (i + 1) xs) ≡ Some c
      → (position_from p (i + 1) xs ≡ Some c → FoundAt xs (i + 1) c) → FoundAt (x ∷ xs) i c
  found_from true x xs i c e h f = record {
    place = 0;
    moved = let q : i ≡ c = same_Some i c h in omega arith;
    first = record { one = x; there = refl; passes = e; before = λ j y l. absurd (omega arith) };
  }
  found_from false x xs i c e h f =
      let g = f h in
      record {
        place = suc g.place;
        moved = let m = g.moved in omega arith;
        first = record { one = g.first.one; there = g.first.there; passes = g.first.passes; before = earlier g };
      }
    where
      earlier : (g : FoundAt xs (i + 1) c) (j : ℕ) (y : X) → j < suc g.place → slice_get (x ∷ xs) j ≡ Some y → p y ≡ true → ⊥
      earlier g zero y l q t = false≢true (sym e ∙ ap p (same_Some x y q) ∙ t)
      earlier g (suc j) y l q t = g.first.before j y (omega arith) q t

  found : (xs : List X) (i c : ℕ) → position_from p i xs ≡ Some c → FoundAt xs i c
  found [] i c h = absurd (none-some c h)
  found (x ∷ xs) i c h = found_from (p x) x xs i c refl h (λ q. found xs (i + 1) c q)

  first_at : (xs : List X) (c : ℕ) → position_from p 0 xs ≡ Some c → FirstAt p xs c
  first_at xs c h = let g = found xs 0 c h in let m = g.moved in let q : g.place ≡ c = omega arith in subst (FirstAt p xs) q g.first

  -- one that passes is found
  passes_at : (b : Bool) (x : X) (xs : List X) (i : ℕ) → p x ≡ b → cond b (Some i) (position_from p (i + 1) xs) ≡ None → (b ≡ true → ⊥) × (position_from p (i + 1) xs ≡ None)
  passes_at true x xs i e h = absurd (none-some i (sym h))
  passes_at false x xs i e h = (false≢true, h)

  not_found : (xs : List X) (i j : ℕ) (y : X) → position_from p i xs ≡ None → slice_get xs j ≡ Some y → p y ≡ true → ⊥
  not_found [] i j y h q t = none-some y q
  not_found (x ∷ xs) i zero y h q t = (passes_at (p x) x xs i refl h).0 (ap p (same_Some x y q) ∙ t)
  not_found (x ∷ xs) i (suc j) y h q t = not_found xs (i + 1) j y (passes_at (p x) x xs i refl h).1 q t

-- a greater height suffices too
mutual
  pub higher : (sig : Signature) (m n : ℕ) (s : Sort) → HeightWithin sig m s → m ≤ n → HeightWithin sig n s
  higher sig m n s (bool _) l = bool n
  higher sig m n s (int _) l = int n
  higher sig m n s (array _ t h) l = array n t (higher sig m n t h l)
  higher sig m zero s (datatype k d c sorts f w) l = absurd (omega arith)
  higher sig m (suc n) s (datatype k d c sorts f w) l = datatype n d c sorts f (highers sig k n sorts w (omega arith))

  pub highers : (sig : Signature) (m n : ℕ) (ss : List Sort) → HeightsWithin sig m ss → m ≤ n → HeightsWithin sig n ss
  highers sig m n ss (none _) l = none n
  highers sig m n ss (more _ s sorts h w) l = more n s sorts (higher sig m n s h l) (highers sig m n sorts w l)

-- what the choices tell is so
module _ (sig : Signature) (choices : Choices) (right : AreChoices sig choices) where
  height_told : (n : ℕ) (s : Sort) → is_within choices n s ≡ true → HeightWithin sig n s
  height_told n = each_sort (λ s. is_within choices n s ≡ true → HeightWithin sig n s) (record {
    of_bool = λ h. bool n;
    of_int = λ h. int n;
    of_data = λ d h. of_choice d (told (slice_get choices d) n (sym (within-Data choices n d) ∙ h));
    of_array = λ s f h. array n s (f (sym (within-Array choices n s) ∙ h));
  })
    where
      of_choice : (d : ℕ) → Told (slice_get choices d) n → HeightWithin sig n (sort.Data d)
      of_choice d t =
          let k = right d t.chosen t.there in
          let l : suc k.first.height ≤ n = let e = k.height in let u = t.under in omega arith in
          higher sig (suc k.first.height) n (sort.Data d) (datatype k.first.height d t.chosen.ctor k.sorts k.first.fields k.first.within) l

  heights_told : (n : ℕ) (ss : List Sort) → list_all (is_within choices n) ss ≡ true → HeightsWithin sig n ss
  heights_told n [] h = none n
  heights_told n (s ∷ ss) h = let b = both (is_within choices n s) (list_all (is_within choices n) ss) h in more n s ss (height_told n s b.0) (heights_told n ss b.1)

-- what all choices below n tell
module _ (sig : Signature) (n : ℕ) (choices : Choices) (h : AreAllBelow sig n choices) where
  tells : (m : ℕ) (ss : List Sort) → m ≤ n → HeightsWithin sig m ss → list_all (is_within choices m) ss ≡ true
  tells m ss l (none _) = refl
  tells m ss l (more _ s sorts w ws) = joined (is_within choices m s) (list_all (is_within choices m) sorts) (h.all m s l w) (tells m sorts l ws)

  -- a datatype without a choice is higher
  no_constructor : (d k m : ℕ) (others : List Sort) → slice_get choices d ≡ Some None → HasFields sig d k others → HeightsWithin sig m others → m < n → ⊥
  no_constructor d k m others e f w l =
      false≢true (sym (ap (λ o. is_below o (suc m)) e) ∙ sym (within-Data choices (suc m) d) ∙ h.all (suc m) (sort.Data d) (omega arith) (datatype m d k others f w))

  -- the choice of a datatype is the first constructor whose fields are within n, where it had none before
  chosen : (d c : ℕ) (t : Data) → slice_get sig.datatypes d ≡ Some t → slice_get choices d ≡ Some None
      → (f : FirstAt (are_within choices n) t.ctors c) → (r : IsFirstLeast sig d c (field_sorts f.one)) × (r.height ≡ n)
  chosen d c t there e f = (
    record {
      height = n;
      fields = (t, f.one, there, f.there, refl);
      within = heights_told sig choices h.right n (field_sorts f.one) f.passes;
      least = λ k m others g w l. no_constructor d k m others e g w l;
      first = earlier;
    },
    refl,
  )
    where
      earlier : (k : ℕ) (others : List Sort) → k < c → HasFields sig d k others → HeightsWithin sig n others → ⊥
      earlier k others l g w =
          let same : g.0 ≡ t = same_Some g.0 t (sym g.2 ∙ there) in
          f.before k g.1 l (ap (λ (x : Data). slice_get x.ctors k) (sym same) ∙ g.3)
          (ap (list_all (is_within choices n)) g.4 ∙ tells n others (omega arith) w)

pub there_is : {X : Type 0} (xs : List X) (i : ℕ) → i < length xs → (x : X) × (slice_get xs i ≡ Some x)
there_is [] i l = absurd (omega arith)
there_is (x ∷ xs) zero l = (x, refl)
there_is (x ∷ xs) (suc i) l = there_is xs i (omega arith)

-- the choices after a round, by place
module _ (choices : Choices) (n : ℕ) where
  record AtNext (ts : List Data) (olds : Choices) (d : ℕ) (x : Option Choice) : Type 0 where
    declared : Data
    there : slice_get ts d ≡ Some declared
    before : Option Choice
    was : slice_get olds d ≡ Some before
    next : x ≡ next_choice choices n declared before

  at_next : (ts : List Data) (olds : Choices) (d : ℕ) (x : Option Choice) → slice_get (next_choices choices n ts olds) d ≡ Some x → AtNext ts olds d x
  at_next [] olds d x h = absurd (none-some x h)
  at_next (t ∷ ts) [] d x h = absurd (none-some x h)
  at_next (t ∷ ts) (old ∷ olds) zero x h = record { declared = t; there = refl; before = old; was = refl; next = sym (same_Some (next_choice choices n t old) x h) }
  at_next (t ∷ ts) (old ∷ olds) (suc d) x h = let g = at_next ts olds d x h in record { declared = g.declared; there = g.there; before = g.before; was = g.was; next = g.next }

  next_at : (ts : List Data) (olds : Choices) (d : ℕ) (t : Data) (old : Option Choice) → slice_get ts d ≡ Some t → slice_get olds d ≡ Some old
      → slice_get (next_choices choices n ts olds) d ≡ Some (next_choice choices n t old)
  next_at [] olds d t old e f = absurd (none-some t e)
  next_at (x ∷ ts) [] d t old e f = absurd (none-some old f)
  next_at (x ∷ ts) (y ∷ olds) zero t old e f =
      let p = same_Some x t e in let q = same_Some y old f in λ i. Some (next_choice choices n (p i) (q i))
  next_at (x ∷ ts) (y ∷ olds) (suc d) t old e f = next_at ts olds d t old e f

  pub length_next : (ts : List Data) (olds : Choices) → length olds ≡ length ts → length (next_choices choices n ts olds) ≡ length ts
  length_next [] olds e = refl
  length_next (t ∷ ts) [] e = e
  length_next (t ∷ ts) (old ∷ olds) e = let q = length_next ts olds (omega arith) in omega arith

  -- a choice stays
  stays : (ts : List Data) (olds : Choices) → length olds ≡ length ts → (d : ℕ) (k : Choice) → slice_get olds d ≡ Some (Some k) → slice_get (next_choices choices n ts olds) d ≡ Some (Some k)
  stays ts olds e d k f =
      let l = slice_get_within olds d (Some k) f in
      let t = there_is ts d (omega arith) in next_at ts olds d t.0 (Some k) t.1 f

  -- a datatype that has no choice yet gets none
  abbrev Settled : List Data → Choices → Type 0
  Settled ts olds = (d : ℕ) (t : Data) → slice_get ts d ≡ Some t → slice_get olds d ≡ Some None → next_choice choices n t None ≡ None

  no_more_gaps : (ts : List Data) (olds : Choices) → gaps (next_choices choices n ts olds) ≤ gaps olds
  no_more_gaps [] olds = omega arith
  no_more_gaps (t ∷ ts) [] = omega arith
  no_more_gaps (t ∷ ts) (Some k ∷ olds) = no_more_gaps ts olds
  no_more_gaps (t ∷ ts) (None ∷ olds) = at_gap (next_choice choices n t None) (no_more_gaps ts olds)
    where
      at_gap : (x : Option Choice) → gaps (next_choices choices n ts olds) ≤ gaps olds → gaps (x ∷ next_choices choices n ts olds) ≤ gaps (None ∷ olds)
      at_gap (Some k) l = omega arith
      at_gap None l = omega arith

  -- a round fills a gap, or nothing changes
  fills : (ts : List Data) (olds : Choices) → (gaps (next_choices choices n ts olds) < gaps olds) ⊎ Settled ts olds
  fills [] olds = inr (λ d t e f. absurd (none-some t e))
  fills (t ∷ ts) [] = inr (λ d t e f. absurd (none-some None f))
  fills (t ∷ ts) (Some k ∷ olds) = at_choice (fills ts olds)
    where
      at_choice : (gaps (next_choices choices n ts olds) < gaps olds) ⊎ Settled ts olds → (gaps (next_choices choices n (t ∷ ts) (Some k ∷ olds)) < gaps (Some k ∷ olds)) ⊎ Settled (t ∷ ts) (Some k ∷ olds)
      at_choice (inl l) = inl l
      at_choice (inr s) = inr here
        where
          here : Settled (t ∷ ts) (Some k ∷ olds)
          here zero u e f = absurd (none-some k (sym (same_Some (Some k) None f)))
          here (suc d) u e f = s d u e f
  fills (t ∷ ts) (None ∷ olds) = at_gap (next_choice choices n t None) refl (fills ts olds)
    where
      at_gap : (x : Option Choice) → next_choice choices n t None ≡ x → (gaps (next_choices choices n ts olds) < gaps olds) ⊎ Settled ts olds
          → (gaps (x ∷ next_choices choices n ts olds) < gaps (None ∷ olds)) ⊎ Settled (t ∷ ts) (None ∷ olds)
      at_gap (Some k) e o = inl (let l = no_more_gaps ts olds in omega arith)
      at_gap None e (inl l) = inl (omega arith)
      at_gap None e (inr s) = inr here
        where
          here : Settled (t ∷ ts) (None ∷ olds)
          here zero u f g = ap (λ (y : Data). next_choice choices n y None) (sym (same_Some t u f)) ∙ e
          here (suc d) u f g = s d u f g

-- what is told stays told
still_within : (choices next : Choices) → ((d : ℕ) (k : Choice) → slice_get choices d ≡ Some (Some k) → slice_get next d ≡ Some (Some k))
    → (m : ℕ) (s : Sort) → is_within choices m s ≡ true → is_within next m s ≡ true
still_within choices next keep m = each_sort (λ s. is_within choices m s ≡ true → is_within next m s ≡ true) (record {
  of_bool = λ h. within-Bool next m;
  of_int = λ h. within-Int next m;
  of_data = λ d h. within-Data next m d ∙ of_choice d (told (slice_get choices d) m (sym (within-Data choices m d) ∙ h));
  of_array = λ s f h. within-Array next m s ∙ f (sym (within-Array choices m s) ∙ h);
})
  where
    of_choice : (d : ℕ) → Told (slice_get choices d) m → is_below (slice_get next d) m ≡ true
    of_choice d t = is_below-told (slice_get next d) m t.chosen (keep d t.chosen t.there) t.under

-- a constructor whose fields are within n is found
found_none : (choices : Choices) (n : ℕ) (t : Data) (c : ℕ) (k : Ctor) → next_choice choices n t None ≡ None → slice_get t.ctors c ≡ Some k → are_within choices n k ≡ true → ⊥
found_none choices n t c k e f w = not_found (are_within choices n) t.ctors 0 c k (nowhere (position_from (are_within choices n) 0 t.ctors) e) f w
  where
    nowhere : (o : Option ℕ) → option_map (choice n) o ≡ None → o ≡ None
    nowhere (Some c) h = absurd (none-some (choice n c) (sym h))
    nowhere None h = refl

-- a round from all choices below n
module _ (sig : Signature) (n : ℕ) (choices : Choices) (h : AreAllBelow sig n choices) where
  abbrev Next : Choices
  Next = next_choices choices n sig.datatypes choices

  keeps : (d : ℕ) (k : Choice) → slice_get choices d ≡ Some (Some k) → slice_get Next d ≡ Some (Some k)
  keeps = stays choices n sig.datatypes choices h.as_many

  keeps_within : (m : ℕ) (s : Sort) → is_within choices m s ≡ true → is_within Next m s ≡ true
  keeps_within = still_within choices Next keeps

  record Right (d : ℕ) (k : Choice) : Type 0 where
    is_choice : IsChoice sig Next d k
    below : k.height < n + 1

  old_right : (d : ℕ) (k : Choice) → slice_get choices d ≡ Some (Some k) → Right d k
  old_right d k e =
      let r = h.right d k e in
      record {
        is_choice = record { sorts = r.sorts; first = r.first; height = r.height; within = all_along (is_within choices k.height) (is_within Next k.height) (keeps_within k.height) r.sorts r.within };
        below = let l = h.below d k e in omega arith;
      }

  new_right : (d : ℕ) (k : Choice) (t : Data) (o : Option ℕ) → slice_get sig.datatypes d ≡ Some t → slice_get choices d ≡ Some None
      → position_from (are_within choices n) 0 t.ctors ≡ o → Some k ≡ option_map (choice n) o → Right d k
  new_right d k t None e f p q = absurd (none-some k (sym q))
  new_right d k t (Some c) e f p q =
      let first = first_at (are_within choices n) t.ctors c p in
      let made = chosen sig n choices h d c t e f first in
      let is : choice n c ≡ k = same_Some (choice n c) k (sym q) in
      subst (Right d) is (record {
        is_choice = record { sorts = field_sorts first.one; first = made.0; height = made.1; within = all_along (is_within choices n) (is_within Next n) (keeps_within n) (field_sorts first.one) first.passes };
        below = omega arith;
      })

  is_right : (d : ℕ) (k : Choice) → slice_get Next d ≡ Some (Some k) → Right d k
  is_right d k e = let a = at_next choices n sig.datatypes choices d (Some k) e in at_place d k a.declared a.before a.there a.was a.next
    where
      at_place : (d : ℕ) (k : Choice) (t : Data) (old : Option Choice) → slice_get sig.datatypes d ≡ Some t → slice_get choices d ≡ Some old → Some k ≡ next_choice choices n t old → Right d k
      at_place d k t (Some j) e f q = subst (Right d) (sym (same_Some k j q)) (old_right d j f)
      at_place d k t None e f q = new_right d k t (position_from (are_within choices n) 0 t.ctors) e f refl q

  -- a datatype of which a constructor's fields are within n
  reached : (d c : ℕ) (sorts : List Sort) → HasFields sig d c sorts → list_all (is_within choices n) sorts ≡ true → is_below (slice_get Next d) (suc n) ≡ true
  reached d c sorts f w =
      let l = slice_get_within sig.datatypes d f.0 f.2 in
      let m = h.as_many in
      let old = there_is choices d (omega arith) in
      by_old old.0 old.1
    where
      by_found : (x : Option Choice) → next_choice choices n f.0 None ≡ x → slice_get choices d ≡ Some None → is_below (slice_get Next d) (suc n) ≡ true
      by_found None e g = absurd (found_none choices n f.0 c f.1 e f.3 (ap (list_all (is_within choices n)) f.4 ∙ w))
      by_found (Some k) e g =
          let there = next_at choices n sig.datatypes choices d f.0 None f.2 g ∙ ap Some e in
          is_below-told (slice_get Next d) (suc n) k there (let r = is_right d k there in let b = r.below in omega arith)

      by_old : (old : Option Choice) → slice_get choices d ≡ Some old → is_below (slice_get Next d) (suc n) ≡ true
      by_old (Some k) e = is_below-told (slice_get Next d) (suc n) k (keeps d k e) (let b = h.below d k e in omega arith)
      by_old None e = by_found (next_choice choices n f.0 None) refl e

  tells_all : (m : ℕ) (s : Sort) → m ≤ n + 1 → HeightWithin sig m s → is_within Next m s ≡ true
  tells_all m s l (bool _) = within-Bool Next m
  tells_all m s l (int _) = within-Int Next m
  tells_all m s l (array _ t w) = within-Array Next m t ∙ tells_all m t l w
  tells_all m s l (datatype j d c sorts f w) = within-Data Next (suc j) d ∙ by_height (dec_lt j n)
    where
      by_height : Dec (j < n) → is_below (slice_get Next d) (suc j) ≡ true
      by_height (yes below) = sym (within-Data Next (suc j) d) ∙ keeps_within (suc j) (sort.Data d) (h.all (suc j) (sort.Data d) (omega arith) (datatype j d c sorts f w))
      by_height (no not_below) =
          let e : n ≡ j = omega arith in
          subst (λ i. is_below (slice_get Next d) (suc i) ≡ true) e (reached d c sorts f (tells sig n choices h n sorts (omega arith) (subst (λ i. HeightsWithin sig i sorts) (sym e) w)))

  pub all_below_next : AreAllBelow sig (n + 1) Next
  all_below_next = record {
    as_many = length_next choices n sig.datatypes choices h.as_many;
    right = λ d k e. (is_right d k e).is_choice;
    below = λ d k e. (is_right d k e).below;
    all = tells_all;
  }

  -- where nothing changes, each sort that has a value is within n
  module _ (settled : Settled choices n sig.datatypes choices) where
    settled_at : (d c : ℕ) (t : Data) (k : Ctor) → slice_get sig.datatypes d ≡ Some t → slice_get t.ctors c ≡ Some k → are_within choices n k ≡ true → is_below (slice_get choices d) n ≡ true
    settled_at d c t k e f w =
        let l = slice_get_within sig.datatypes d t e in
        let m = h.as_many in
        let old = there_is choices d (omega arith) in
        by_old old.0 old.1
      where
        by_old : (old : Option Choice) → slice_get choices d ≡ Some old → is_below (slice_get choices d) n ≡ true
        by_old (Some j) g = is_below-told (slice_get choices d) n j g (h.below d j g)
        by_old None g = absurd (found_none choices n t c k (settled d t e g) f w)

    mutual
      settled_within : (s : Sort) → IsInhabited sig.datatypes s → is_within choices n s ≡ true
      settled_within s inhabited.bool = within-Bool choices n
      settled_within s inhabited.int = within-Int choices n
      settled_within s (inhabited.array t i) = within-Array choices n t ∙ settled_within t i
      settled_within s (inhabited.datatype d c t k e f i) = within-Data choices n d ∙ settled_at d c t k e f (settled_fields k.fields i)

      settled_fields : (fs : List Field) → FieldsInhabited sig.datatypes fs → list_all (is_within choices n) (map (λ (f : Field). f.sort) fs) ≡ true
      settled_fields fs inhabited.none = refl
      settled_fields fs (inhabited.more f gs i is) =
          joined (is_within choices n f.sort) (list_all (is_within choices n) (map (λ (f : Field). f.sort) gs)) (settled_within f.sort i) (settled_fields gs is)

  -- while a datatype that has a value isn't told, a round fills a gap
  pub gap_filled : (d : ℕ) → ∥ IsInhabited sig.datatypes (sort.Data d) ∥₁ → is_below (slice_get choices d) n ≡ false → gaps Next < gaps choices
  gap_filled d i e = by_fill (fills choices n sig.datatypes choices)
    where
      by_fill : (gaps Next < gaps choices) ⊎ Settled choices n sig.datatypes choices → gaps Next < gaps choices
      by_fill (inl l) = l
      by_fill (inr settled) = absurd (∥∥₁_elim i ⊥_prop (λ j. false≢true (sym e ∙ sym (within-Data choices n d) ∙ settled_within settled (sort.Data d) j)))

-- without a choice nothing is told
pub gaps_at_first : (n : ℕ) → gaps (replicate n None) ≡ n
gaps_at_first zero = refl
gaps_at_first (suc n) = let e = gaps_at_first n in omega arith

none_chosen : (n d : ℕ) (k : Choice) → slice_get (replicate n None) d ≡ Some (Some k) → ⊥
none_chosen zero d k e = none-some (Some k) e
none_chosen (suc n) zero k e = none-some k (same_Some None (Some k) e)
none_chosen (suc n) (suc d) k e = none_chosen n d k e

module _ (sig : Signature) (choices : Choices) where
  none_within : (m : ℕ) (s : Sort) → m ≤ 0 → HeightWithin sig m s → is_within choices m s ≡ true
  none_within m s l (bool _) = within-Bool choices m
  none_within m s l (int _) = within-Int choices m
  none_within m s l (array _ t w) = within-Array choices m t ∙ none_within m t l w
  none_within m s l (datatype j d c sorts f w) = absurd (omega arith)

  pub all_below_at_first : choices ≡ replicate (length sig.datatypes) None → AreAllBelow sig 0 choices
  all_below_at_first e = record {
    as_many = ap length e ∙ length-replicate (length sig.datatypes) None;
    right = λ d k f. absurd (none_chosen (length sig.datatypes) d k (sym (ap (λ l. slice_get l d) e) ∙ f));
    below = λ d k f. absurd (none_chosen (length sig.datatypes) d k (sym (ap (λ l. slice_get l d) e) ∙ f));
    all = none_within;
  }
