-- One equation for each variant of a value in range.
use Rattle.std.proofs.Common.{◌≡◌, ◌<◌, ℕ, ℤ, ◌+◌, ◌-◌, max, Bool, true, false, ◌&&◌, List, [], ◌∷◌, map, refl, sym, ap, ◌∙◌, arith}
use Rattle.std.specs.Prelude.{nat_le}
use Rattle.std.specs.List.{list_all}
use Rattle.std.proofs.lemmas.Bool.Decides.{nat_tests}
use Rattle.chc_values.specs.declared.value.Value.{Value, Value-F, fold-roll-Value}
use Rattle.chc_values.specs.declared.value.Value.TheVariants as value
use Rattle.chc_values.specs.Ranges.{is_int_in_range, ints_step, are_ints_in_range, greatest, depth_step, depth, is_within, are_entries_within}

ints-Bool : (b : Bool) → are_ints_in_range (value.Bool b) ≡ true
ints-Bool b = ap are_ints_in_range (sym (value.rolls-Bool b)) ∙ fold-roll-Value Bool ints_step (Value-F.Bool b)

ints-Int : (n : ℤ) → are_ints_in_range (value.Int n) ≡ is_int_in_range n
ints-Int n = ap are_ints_in_range (sym (value.rolls-Int n)) ∙ fold-roll-Value Bool ints_step (Value-F.Int n)

ints-Data : (d c : ℕ) (vs : List Value) → are_ints_in_range (value.Data d c vs) ≡ list_all (λ b. b) (map are_ints_in_range vs)
ints-Data d c vs = ap are_ints_in_range (sym (value.rolls-Data d c vs)) ∙ fold-roll-Value Bool ints_step (Value-F.Data d c vs)

ints-Array : (v : Value) (es : List (ℤ × Value))
    → are_ints_in_range (value.Array v es) ≡ (are_ints_in_range v && list_all (λ (e : ℤ × Bool). is_int_in_range e.0 && e.1) (map (λ (e : ℤ × Value). (e.0, are_ints_in_range e.1)) es))
ints-Array v es = ap are_ints_in_range (sym (value.rolls-Array v es)) ∙ fold-roll-Value Bool ints_step (Value-F.Array v es)

depth-Bool : (b : Bool) → depth (value.Bool b) ≡ 1
depth-Bool b = ap depth (sym (value.rolls-Bool b)) ∙ fold-roll-Value ℕ depth_step (Value-F.Bool b)

depth-Int : (n : ℤ) → depth (value.Int n) ≡ 1
depth-Int n = ap depth (sym (value.rolls-Int n)) ∙ fold-roll-Value ℕ depth_step (Value-F.Int n)

depth-Data : (d c : ℕ) (vs : List Value) → depth (value.Data d c vs) ≡ greatest (map depth vs) + 1
depth-Data d c vs = ap depth (sym (value.rolls-Data d c vs)) ∙ fold-roll-Value ℕ depth_step (Value-F.Data d c vs)

depth-Array : (v : Value) (es : List (ℤ × Value)) → depth (value.Array v es) ≡ max (depth v) (greatest (map (λ (e : ℤ × ℕ). e.1) (map (λ (e : ℤ × Value). (e.0, depth e.1)) es))) + 1
depth-Array v es = ap depth (sym (value.rolls-Array v es)) ∙ fold-roll-Value ℕ depth_step (Value-F.Array v es)

nat_le-max : (a b n : ℕ) → nat_le (max a b) n ≡ (nat_le a n && nat_le b n)
nat_le-max a b n = grind (arith, nat_tests)

nat_le-suc : (a n : ℕ) → 0 < n → nat_le (a + 1) n ≡ nat_le a (n - 1)
nat_le-suc a n h = grind (arith, nat_tests)

-- two pairs of tests, sorted anew
regrouped : (a b c d : Bool) → ((a && b) && (c && d)) ≡ ((a && c) && (b && d))
regrouped true b true d = refl
regrouped true true false d = refl
regrouped true false false d = refl
regrouped false b c d = refl

all_within : (n : ℕ) (vs : List Value) → (list_all (λ b. b) (map are_ints_in_range vs) && nat_le (greatest (map depth vs)) n) ≡ list_all (is_within n) vs
all_within n [] = grind (arith, nat_tests)
all_within n (v ∷ vs) =
    ap (λ t. (are_ints_in_range v && list_all (λ b. b) (map are_ints_in_range vs)) && t) (nat_le-max (depth v) (greatest (map depth vs)) n)
    ∙ regrouped (are_ints_in_range v) (list_all (λ b. b) (map are_ints_in_range vs)) (nat_le (depth v) n) (nat_le (greatest (map depth vs)) n)
    ∙ ap (λ t. is_within n v && t) (all_within n vs)

abbrev ints_of : List (ℤ × Value) → Bool
ints_of es = list_all (λ (e : ℤ × Bool). is_int_in_range e.0 && e.1) (map (λ (e : ℤ × Value). (e.0, are_ints_in_range e.1)) es)

abbrev depth_of : List (ℤ × Value) → ℕ
depth_of es = greatest (map (λ (e : ℤ × ℕ). e.1) (map (λ (e : ℤ × Value). (e.0, depth e.1)) es))

&&-assoc : (a b c : Bool) → ((a && b) && c) ≡ (a && (b && c))
&&-assoc true b c = refl
&&-assoc false b c = refl

entries_within : (n : ℕ) (es : List (ℤ × Value)) → (ints_of es && nat_le (depth_of es) n) ≡ are_entries_within n es
entries_within n [] = grind (arith, nat_tests)
entries_within n (e ∷ es) =
    ap (λ t. ((is_int_in_range e.0 && are_ints_in_range e.1) && ints_of es) && t) (nat_le-max (depth e.1) (depth_of es) n)
    ∙ regrouped (is_int_in_range e.0 && are_ints_in_range e.1) (ints_of es) (nat_le (depth e.1) n) (nat_le (depth_of es) n)
    ∙ (λ i. &&-assoc (is_int_in_range e.0) (are_ints_in_range e.1) (nat_le (depth e.1) n) i && entries_within n es i)

-- a datatype's value
pub is_within-Data : (n d c : ℕ) (vs : List Value) → 0 < n → is_within n (value.Data d c vs) ≡ list_all (is_within (n - 1)) vs
is_within-Data n d c vs h =
    (λ i. ints-Data d c vs i && nat_le (depth-Data d c vs i) n)
    ∙ ap (λ t. list_all (λ b. b) (map are_ints_in_range vs) && t) (nat_le-suc (greatest (map depth vs)) n h)
    ∙ all_within (n - 1) vs

-- an array
pub is_within-Array : (n : ℕ) (v : Value) (es : List (ℤ × Value)) → 0 < n → is_within n (value.Array v es) ≡ (is_within (n - 1) v && are_entries_within (n - 1) es)
is_within-Array n v es h =
    (λ i. ints-Array v es i && nat_le (depth-Array v es i) n)
    ∙ ap (λ t. (are_ints_in_range v && ints_of es) && t) (nat_le-suc (max (depth v) (depth_of es)) n h ∙ nat_le-max (depth v) (depth_of es) (n - 1))
    ∙ regrouped (are_ints_in_range v) (ints_of es) (nat_le (depth v) (n - 1)) (nat_le (depth_of es) (n - 1))
    ∙ ap (λ t. is_within (n - 1) v && t) (entries_within (n - 1) es)
