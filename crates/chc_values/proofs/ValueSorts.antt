-- The equations of `IsOf`, one for each variant, and which values a sort has.
use Rattle.std.proofs.Common.{◌≡◌, ℕ, ℤ, Bool, List, [], ◌∷◌, map, refl, sym, ap, ◌∙◌, map-id, subst}
use Rattle.std.specs.List.{AllByRecursion}
use Rattle.chc_sorts.specs.declared.sort.Sort.{Sort, Sort-F, out-Sort}
use Rattle.chc_sorts.specs.declared.sort.Sort.TheVariants as sort
use Rattle.chc_sorts.specs.Signature.{Signature}
use Rattle.chc_values.specs.declared.value.Value.{Value, Value-F, out-Value, roll-Value, roll-out-Value, map-Value, rec-roll-Value}
use Rattle.chc_values.specs.declared.value.Value.TheVariants as value
use Rattle.chc_values.specs.Values.{HasFields, EachOf, IsCanonical, LevelOf, IsOf, AreOf}

module _ (X Y : Type 0) (f : X → Y) (is_of : Y → Sort → Type 0) where
  EachOf-map : (xs : List X) (sorts : List Sort) → EachOf (λ x. is_of (f x)) xs sorts ≡ EachOf is_of (map f xs) sorts
  EachOf-map [] [] = refl
  EachOf-map [] (s ∷ sorts) = refl
  EachOf-map (x ∷ xs) [] = refl
  EachOf-map (x ∷ xs) (s ∷ sorts) = λ i. is_of (f x) s × EachOf-map xs sorts i

  entries-map : (element : Sort) (es : List (ℤ × X))
      → AllByRecursion (λ (e : ℤ × X). is_of (f e.1) element) es ≡ AllByRecursion (λ (e : ℤ × Y). is_of e.1 element) (map (λ (e : ℤ × X). (e.0, f e.1)) es)
  entries-map element [] = refl
  entries-map element (e ∷ es) = λ i. is_of (f e.1) element × entries-map element es i

LevelOf-map : (sig : Signature) (X : Type 0) (f : X → Value) (is_of : Value → Sort → Type 0) (level : Value-F X) (s : Sort)
    → LevelOf sig f (λ x. is_of (f x)) level s ≡ LevelOf sig (λ y. y) is_of (map-Value X Value f level) s
LevelOf-map sig X f is_of (Value-F.Bool b) s = refl
LevelOf-map sig X f is_of (Value-F.Int n) s = refl
LevelOf-map sig X f is_of (Value-F.Data d c xs) s = λ i. (sorts : List Sort) × (s ≡ sort.Data d) × HasFields sig d c sorts × EachOf-map X Value f is_of xs sorts i
LevelOf-map sig X f is_of (Value-F.Array x es) s =
    λ i. (element : Sort) × (s ≡ sort.Array element) × is_of (f x) element × entries-map X Value f is_of element es i
    × IsCanonical (f x) (sym (map-id (map (λ (e : ℤ × X). (e.0, f e.1)) es)) i)

-- the sorts differ
pub Bool≢Int : sort.Bool ≡ sort.Int → ⊥
Bool≢Int e = cc

pub Bool≢Data : (d : ℕ) → sort.Bool ≡ sort.Data d → ⊥
Bool≢Data d e = cc

pub Int≢Data : (d : ℕ) → sort.Int ≡ sort.Data d → ⊥
Int≢Data d e = cc

pub Bool≢Array : (s : Sort) → sort.Bool ≡ sort.Array s → ⊥
Bool≢Array s e = let f : Sort-F.Bool ≡ Sort-F.Array s = sym sort.outs-Bool ∙ ap out-Sort e ∙ sort.outs-Array s in cc

pub Int≢Array : (s : Sort) → sort.Int ≡ sort.Array s → ⊥
Int≢Array s e = let f : Sort-F.Int ≡ Sort-F.Array s = sym sort.outs-Int ∙ ap out-Sort e ∙ sort.outs-Array s in cc

pub Data≢Array : (d : ℕ) (s : Sort) → sort.Data d ≡ sort.Array s → ⊥
Data≢Array d s e = let f : Sort-F.Data d ≡ Sort-F.Array s = sym (sort.outs-Data d) ∙ ap out-Sort e ∙ sort.outs-Array s in cc

one_datatype : (d e : ℕ) → sort.Data d ≡ sort.Data e → d ≡ e
one_datatype d e h = cc

-- arrays of one sort have elements of one sort
pub same_element : (s t : Sort) → sort.Array s ≡ sort.Array t → s ≡ t
same_element s t e = let f : Sort-F.Array s ≡ Sort-F.Array t = sym (sort.outs-Array s) ∙ ap out-Sort e ∙ sort.outs-Array t in cc

module _ (sig : Signature) where
  IsOf-roll : (level : Value-F Value) (s : Sort) → IsOf sig (roll-Value level) s ≡ LevelOf sig (λ y. y) (IsOf sig) level s
  IsOf-roll level s =
      λ i. rec-roll-Value (Sort → Type 0) (λ X whole is_of level. LevelOf sig whole is_of level)
      (λ X v k x. λ j t. LevelOf-map sig X v k x t j) level i s

  pub IsOf-Bool : (b : Bool) (s : Sort) → IsOf sig (value.Bool b) s ≡ (s ≡ sort.Bool)
  IsOf-Bool b s = ap (λ v. IsOf sig v s) (sym (value.rolls-Bool b)) ∙ IsOf-roll (Value-F.Bool b) s

  pub IsOf-Int : (n : ℤ) (s : Sort) → IsOf sig (value.Int n) s ≡ (s ≡ sort.Int)
  IsOf-Int n s = ap (λ v. IsOf sig v s) (sym (value.rolls-Int n)) ∙ IsOf-roll (Value-F.Int n) s

  pub IsOf-Data : (d c : ℕ) (vs : List Value) (s : Sort)
      → IsOf sig (value.Data d c vs) s ≡ ((sorts : List Sort) × (s ≡ sort.Data d) × HasFields sig d c sorts × AreOf sig vs sorts)
  IsOf-Data d c vs s = ap (λ v. IsOf sig v s) (sym (value.rolls-Data d c vs)) ∙ IsOf-roll (Value-F.Data d c vs) s

  pub IsOf-Array : (default : Value) (es : List (ℤ × Value)) (s : Sort)
      → IsOf sig (value.Array default es) s
      ≡ ((element : Sort) × (s ≡ sort.Array element) × IsOf sig default element × AllByRecursion (λ (e : ℤ × Value). IsOf sig e.1 element) es × IsCanonical default es)
  IsOf-Array default es s = ap (λ v. IsOf sig v s) (sym (value.rolls-Array default es)) ∙ IsOf-roll (Value-F.Array default es) s ∙ last
    where
      last : LevelOf sig (λ y. y) (IsOf sig) (Value-F.Array default es) s
          ≡ ((element : Sort) × (s ≡ sort.Array element) × IsOf sig default element × AllByRecursion (λ (e : ℤ × Value). IsOf sig e.1 element) es × IsCanonical default es)
      last = λ i. (element : Sort) × (s ≡ sort.Array element) × IsOf sig default element × AllByRecursion (λ (e : ℤ × Value). IsOf sig e.1 element) es
          × IsCanonical default (map-id es i)

  opened : (v : Value) (s : Sort) → IsOf sig v s → LevelOf sig (λ y. y) (IsOf sig) (out-Value v) s
  opened v s h = subst (λ A. A) (IsOf-roll (out-Value v) s) (subst (λ u. IsOf sig u s) (sym (roll-out-Value v)) h)

  truth_at_level : (level : Value-F Value) → LevelOf sig (λ y. y) (IsOf sig) level sort.Bool → (b : Bool) × (roll-Value level ≡ value.Bool b)
  truth_at_level (Value-F.Bool b) h = (b, value.rolls-Bool b)
  truth_at_level (Value-F.Int n) h = absurd (Bool≢Int h)
  truth_at_level (Value-F.Data d c xs) h = absurd (Bool≢Data d h.1)
  truth_at_level (Value-F.Array x es) h = absurd (Bool≢Array h.0 h.1)

  -- a value of Bool is a truth value
  pub truth_value : (v : Value) → IsOf sig v sort.Bool → (b : Bool) × (v ≡ value.Bool b)
  truth_value v h = let t = truth_at_level (out-Value v) (opened v sort.Bool h) in (t.0, sym (roll-out-Value v) ∙ t.1)

  integer_at_level : (level : Value-F Value) → LevelOf sig (λ y. y) (IsOf sig) level sort.Int → (n : ℤ) × (roll-Value level ≡ value.Int n)
  integer_at_level (Value-F.Bool b) h = absurd (Bool≢Int (sym h))
  integer_at_level (Value-F.Int n) h = (n, value.rolls-Int n)
  integer_at_level (Value-F.Data d c xs) h = absurd (Int≢Data d h.1)
  integer_at_level (Value-F.Array x es) h = absurd (Int≢Array h.0 h.1)

  -- a value of Int is an integer
  pub integer_value : (v : Value) → IsOf sig v sort.Int → (n : ℤ) × (v ≡ value.Int n)
  integer_value v h = let t = integer_at_level (out-Value v) (opened v sort.Int h) in (t.0, sym (roll-out-Value v) ∙ t.1)

  array_at_level : (s : Sort) (level : Value-F Value) → LevelOf sig (λ y. y) (IsOf sig) level (sort.Array s) → (default : Value) × (es : List (ℤ × Value)) × (roll-Value level ≡ value.Array default es)
  array_at_level s (Value-F.Bool b) h = absurd (Bool≢Array s (sym h))
  array_at_level s (Value-F.Int n) h = absurd (Int≢Array s (sym h))
  array_at_level s (Value-F.Data d c xs) h = absurd (Data≢Array d s (sym h.1))
  array_at_level s (Value-F.Array x es) h = (x, es, value.rolls-Array x es)

  -- a value of an array sort is an array
  pub array_value : (s : Sort) (v : Value) → IsOf sig v (sort.Array s) → (default : Value) × (es : List (ℤ × Value)) × (v ≡ value.Array default es)
  array_value s v h = let t = array_at_level s (out-Value v) (opened v (sort.Array s) h) in (t.0, t.1, sym (roll-out-Value v) ∙ t.2)

  data_at_level : (d : ℕ) (level : Value-F Value) → LevelOf sig (λ y. y) (IsOf sig) level (sort.Data d) → (c : ℕ) × (vs : List Value) × (roll-Value level ≡ value.Data d c vs)
  data_at_level d (Value-F.Bool b) h = absurd (Bool≢Data d (sym h))
  data_at_level d (Value-F.Int n) h = absurd (Int≢Data d (sym h))
  data_at_level d (Value-F.Data e c vs) h = (c, vs, value.rolls-Data e c vs ∙ ap (λ x. value.Data x c vs) (sym (one_datatype d e h.1)))
  data_at_level d (Value-F.Array x es) h = absurd (Data≢Array d h.0 h.1)

  -- a value of a datatype is a constructor on values
  pub data_value : (d : ℕ) (v : Value) → IsOf sig v (sort.Data d) → (c : ℕ) × (vs : List Value) × (v ≡ value.Data d c vs)
  data_value d v h = let t = data_at_level d (out-Value v) (opened v (sort.Data d) h) in (t.0, t.1, sym (roll-out-Value v) ∙ t.2)

  -- what an array of a sort holds
  pub record HoldsOf (default : Value) (es : List (ℤ × Value)) (element : Sort) : Type 0 where
    pub default_of : IsOf sig default element
    pub each_of : AllByRecursion (λ (e : ℤ × Value). IsOf sig e.1 element) es
    pub canonical : IsCanonical default es

  pub held_by_array : (default : Value) (es : List (ℤ × Value)) (element : Sort) → IsOf sig (value.Array default es) (sort.Array element) → HoldsOf default es element
  held_by_array default es element h =
      let t = subst (λ A. A) (IsOf-Array default es (sort.Array element)) h in
      let e = same_element element t.0 t.1 in
      record {
        default_of = subst (IsOf sig default) (sym e) t.2;
        each_of = subst (λ s. AllByRecursion (λ (e : ℤ × Value). IsOf sig e.1 s) es) (sym e) t.3;
        canonical = t.4;
      }

  pub array_of : (default : Value) (es : List (ℤ × Value)) (element : Sort) → HoldsOf default es element → IsOf sig (value.Array default es) (sort.Array element)
  array_of default es element h = subst (λ A. A) (sym (IsOf-Array default es (sort.Array element))) (element, refl, h.default_of, h.each_of, h.canonical)
