-- The measure as one number: within the limits it is less where the measure is.
use Rattle.std.proofs.Common.{◌≡◌, ℕ, zero, suc, ◌+◌, ◌*◌, ◌^◌, ◌<◌, ◌≤◌, Bool, true, false, cond, List, [], ◌∷◌, length, Some, get_or, sum_by, inl, inr, refl, sym, subst, arith, mul-le-mul_left, mul-le-mul_right, pow-suc}
use Rattle.std.specs.Prelude.{slice_get, nat_lt, ◌&&◌}
use Rattle.std.specs.List.{list_any}
use Rattle.std.proofs.lemmas.Bool.{ltb-false, or_parts}
use Rattle.std.proofs.Math.Nat.{pow-zero}
use Rattle.std.proofs.lemmas.List.Sums.{sum_by-cons, sum_by-le}
use Rattle.chc_sorts.specs.declared.sort.Sort.{Sort, Sort-F, out-Sort}
use Rattle.chc_sorts.specs.declared.data.Data.{Data}
use Rattle.chc_sorts.specs.declared.data.Ctor.{Ctor}
use Rattle.chc_sorts.specs.declared.data.Field.{Field}
use Rattle.chc_sorts.specs.Signature.{Signature}
use Rattle.chc_state.specs.declared.clause.Clause.{Clause}
use Rattle.chc_state.specs.declared.clause.PredDecl.{PredDecl}
use Rattle.chc_state.specs.States.{StateView}
use Rattle.chc_state.specs.Limits.{width, reserve}
use Rattle.chc_state.specs.Used.{is_used}
use Rattle.chc_state.specs.Passes.{IsState}
use Rattle.chc_state.specs.Measure.{IsLess, is_enumeration, count_from, enumerations, data_weight, level_weight, weight_within, sort_weight, sorts_weight, decl_weight, measure}
use Rattle.chc_state.proofs.Limiting.{WithinLimits, WithinLimits-from_none}

-- the numbers as one, in the positional system of that base
pub rank : ℕ → List ℕ → ℕ
rank base [] = 0
rank base (n ∷ ns) = n * base ^ length ns + rank base ns

place : (n b p r : ℕ) → n < b → r < p → n * p + r < p * b
place n b p r h below = omega (arith, mul-le-mul_left p h)

-- all numbers are below the base
abbrev pub EachBelow : ℕ → List ℕ → Type 0
EachBelow base [] = Unit {0}
EachBelow base (n ∷ ns) = (n < base) × EachBelow base ns

rank-below : (base : ℕ) (ns : List ℕ) → EachBelow base ns → rank base ns < base ^ length ns
unfolding rank
rank-below base [] h = let e : base ^ zero ≡ 1 = pow-zero base in rw e (omega arith)
rank-below base (n ∷ ns) h =
    let e : base ^ suc (length ns) ≡ base ^ length ns * base = pow-suc base (length ns) in
    rw e (place n base (base ^ length ns) (rank base ns) h.0 (rank-below base ns h.1))

-- all numbers but the first are below the base
abbrev pub RestBelow : ℕ → List ℕ → Type 0
RestBelow base [] = Unit {0}
RestBelow base (n ∷ ns) = EachBelow base ns

rest : (base : ℕ) (ns : List ℕ) → EachBelow base ns → RestBelow base ns
rest base [] h = tt
rest base (n ∷ ns) h = h.1

earlier : (m n p r t : ℕ) → m < n → r < p → m * p + r < n * p + t
earlier m n p r t h below = omega (arith, mul-le-mul_right p h)

pub rank-less : (base : ℕ) (ms ns : List ℕ) → length ms ≡ length ns → RestBelow base ms → IsLess ms ns → rank base ms < rank base ns
unfolding rank
rank-less base [] ns same below less = absurd less
rank-less base (m ∷ ms) [] same below less = absurd less
rank-less base (m ∷ ms) (n ∷ ns) same below less =
    let as_long : length ms ≡ length ns = omega arith in
    elim less [
      | inl first ↦ rw (sym as_long) (earlier m n (base ^ length ms) (rank base ms) (rank base ns) first (rank-below base ms below))
      | inr later ↦
          let inner = rank-less base ms ns as_long (rest base ms below) later.1 in
          rw (later.0, as_long) (omega (arith, inner))
    ]

-- how many fields a constructor, a datatype and all of them have
fields_of : Data → ℕ
fields_of t = sum_by (λ (k : Ctor). length k.fields) t.ctors

all_fields : Signature → ℕ
all_fields sig = sum_by fields_of sig.datatypes

-- no sort weighs more, in datatypes within datatypes at most n deep
heaviest : Signature → ℕ → ℕ
heaviest sig zero = 1
heaviest sig (suc n) = 1 + all_fields sig * heaviest sig n

heaviest-some : (sig : Signature) (n : ℕ) → 1 ≤ heaviest sig n
unfolding heaviest
heaviest-some sig zero = omega arith
heaviest-some sig (suc n) = omega arith

wider : (a b m : ℕ) → a ≤ b → 1 + a * m ≤ 1 + b * m
wider a b m h = omega (arith, mul-le-mul_right m h)

module _ (weigh : Sort → ℕ) (m : ℕ) (light : (s : Sort) → weigh s ≤ m) where
  fields-light : (fs : List Field) → sum_by (λ (f : Field). weigh f.sort) fs ≤ length fs * m
  fields-light fs = sum_by-le (λ (f : Field). weigh f.sort) m fs (λ k d inside. light (get_or fs k d).sort)

  data-light : (t : Data) → data_weight weigh (Some t) ≤ 1 + fields_of t * m
  unfolding fields_of
  data-light t = go t.ctors
    where
      go : (ks : List Ctor) → data_weight weigh (Some (record { name = t.name; ctors = ks })) ≤ 1 + sum_by (λ (k : Ctor). length k.fields) ks * m
      go [] = omega arith
      go (k ∷ []) =
          omega (arith, fields-light k.fields, sum_by-cons (λ (k : Ctor). length k.fields) k [], wider (length k.fields) (sum_by (λ (k : Ctor). length k.fields) (k ∷ [])) m (omega (arith, sum_by-cons (λ (k : Ctor). length k.fields) k [])))
      go (k ∷ l ∷ ks) = omega arith

  found-light : (ds : List Data) (d : ℕ) → data_weight weigh (slice_get ds d) ≤ 1 + sum_by fields_of ds * m
  found-light [] d = omega arith
  found-light (t ∷ ts) zero =
      let e = sum_by-cons fields_of t ts in
      let here : fields_of t ≤ sum_by fields_of (t ∷ ts) = omega (arith, e) in
      omega (arith, data-light t, wider (fields_of t) (sum_by fields_of (t ∷ ts)) m here)
  found-light (t ∷ ts) (suc d) =
      let e = sum_by-cons fields_of t ts in
      let there : sum_by fields_of ts ≤ sum_by fields_of (t ∷ ts) = omega (arith, e) in
      omega (arith, found-light ts d, wider (sum_by fields_of ts) (sum_by fields_of (t ∷ ts)) m there)

  level-light : (sig : Signature) (v : Sort-F Sort) → level_weight sig weigh v ≤ 1 + all_fields sig * m
  unfolding all_fields
  level-light sig Sort-F.Bool = omega arith
  level-light sig Sort-F.Int = omega arith
  level-light sig (Sort-F.Data d) = found-light sig.datatypes d
  level-light sig (Sort-F.Array element) = omega arith

weight-light : (sig : Signature) (n : ℕ) (s : Sort) → weight_within sig n s ≤ heaviest sig n
unfolding heaviest
weight-light sig zero s = omega arith
weight-light sig (suc n) s = level-light (weight_within sig n) (heaviest sig n) (weight-light sig n) sig (out-Sort s)

-- no sort of the signature weighs more
unit : Signature → ℕ
unit sig = heaviest sig (length sig.datatypes + 1)

-- more than each number of the measure but the first may be
base_of : Signature → ℕ
base_of sig = 4398046511104 * unit sig + length sig.datatypes + 1

sort-light : (sig : Signature) (s : Sort) → sort_weight sig s ≤ unit sig
unfolding unit
sort-light sig s = weight-light sig (length sig.datatypes + 1) s

sorts-light : (sig : Signature) (sorts : List Sort) (n : ℕ) → length sorts ≤ n → sorts_weight sig sorts ≤ n * unit sig
sorts-light sig sorts n h = omega (arith, sum_by-le (sort_weight sig) (unit sig) sorts (λ k d inside. sort-light sig (get_or sorts k d)), mul-le-mul_right (unit sig) h)

count-few : (test : ℕ → Data → Bool) (n : ℕ) (ts : List Data) → count_from test n ts ≤ length ts
count-few test n [] = omega arith
count-few test n (t ∷ ts) = let rest = count-few test (n + 1) ts in elim (test n t) as (λ b. cond b 1 0 + count_from test (n + 1) ts ≤ suc (length ts)) [
  | true ↦ omega (arith, rest)
  | false ↦ omega (arith, rest)
]

decl-light : (sig : Signature) (p : PredDecl) → nat_lt 1024 (length p.sorts) ≡ false → decl_weight sig p ≤ 1024 * unit sig
decl-light sig p h = elim p.live as (λ b. cond b (sorts_weight sig p.sorts) 0 ≤ 1024 * unit sig) [
  | true ↦ sorts-light sig p.sorts 1024 (ltb-false 1024 (length p.sorts) h)
  | false ↦ omega arith
]

decls-light : (sig : Signature) (ds : List PredDecl) → list_any (λ (d : PredDecl). nat_lt 1024 (length d.sorts)) ds ≡ false → (k : ℕ) (d : PredDecl) → k < length ds → decl_weight sig (get_or ds k d) ≤ 1024 * unit sig
decls-light sig [] h k d inside = absurd (omega arith)
decls-light sig (p ∷ ds) h zero d inside = decl-light sig p (or_parts (nat_lt 1024 (length p.sorts)) (list_any (λ (d : PredDecl). nat_lt 1024 (length d.sorts)) ds) h).0
decls-light sig (p ∷ ds) h (suc k) d inside = decls-light sig ds (or_parts (nat_lt 1024 (length p.sorts)) (list_any (λ (d : PredDecl). nat_lt 1024 (length d.sorts)) ds) h).1 k d (omega arith)

clause-light : (sig : Signature) (c : Clause) → nat_lt 4096 (width c) ≡ false → sorts_weight sig c.vars ≤ 4096 * unit sig
clause-light sig c h = sorts-light sig c.vars 4096 (omega (arith, ltb-false 4096 (width c) h))

clauses-light : (sig : Signature) (cs : List Clause) → list_any (λ c. nat_lt 4096 (width c)) cs ≡ false → (k : ℕ) (d : Clause) → k < length cs → sorts_weight sig (get_or cs k d).vars ≤ 4096 * unit sig
clauses-light sig [] h k d inside = absurd (omega arith)
clauses-light sig (c ∷ cs) h zero d inside = clause-light sig c (or_parts (nat_lt 4096 (width c)) (list_any (λ c. nat_lt 4096 (width c)) cs) h).0
clauses-light sig (c ∷ cs) h (suc k) d inside = clauses-light sig cs (or_parts (nat_lt 4096 (width c)) (list_any (λ c. nat_lt 4096 (width c)) cs) h).1 k d (omega arith)

many : (n k m : ℕ) → n ≤ k → n * m ≤ k * m
many n k m h = mul-le-mul_right m h

module _ (s : StateView) (kept : IsState s) where
  limits : WithinLimits s.preds s.clauses
  limits = WithinLimits-from_none s.preds s.clauses kept.within

  few-clauses : length s.clauses ≤ 65536
  few-clauses = omega (arith, ltb-false 65536 (length s.clauses + reserve 1 s.clauses) limits.clauses)

  decls-below : sum_by (decl_weight s.sig) s.preds < base_of s.sig
  unfolding base_of
  decls-below =
      let all = sum_by-le (decl_weight s.sig) (1024 * unit s.sig) s.preds (decls-light s.sig s.preds limits.positions) in
      let few : length s.preds ≤ 4294967296 = omega (arith, kept.few) in
      omega (arith, all, many (length s.preds) 4294967296 (1024 * unit s.sig) few)

  vars-below : sum_by (λ (c : Clause). sorts_weight s.sig c.vars) s.clauses < base_of s.sig
  unfolding base_of
  vars-below =
      let all = sum_by-le (λ (c : Clause). sorts_weight s.sig c.vars) (4096 * unit s.sig) s.clauses (clauses-light s.sig s.clauses limits.widths) in
      omega (arith, all, many (length s.clauses) 65536 (4096 * unit s.sig) few-clauses)

  clauses-below : length s.clauses < base_of s.sig
  unfolding base_of unit
  clauses-below = omega (arith, few-clauses, heaviest-some s.sig (length s.sig.datatypes + 1))

  enumerations-below : enumerations s < base_of s.sig
  unfolding base_of
  enumerations-below = omega (arith, count-few (λ d t. is_used s d && is_enumeration t) 0 s.sig.datatypes)

  measure-below : RestBelow (base_of s.sig) (measure s)
  measure-below = (clauses-below, (enumerations-below, (decls-below, (vars-below, tt))))

-- the measure as one number
pub rank_of : StateView → ℕ
rank_of s = rank (base_of s.sig) (measure s)

-- within the limits it is less where the measure is
pub rank_of-less : (s z : StateView) → IsState z → z.sig ≡ s.sig → IsLess (measure z) (measure s) → rank_of z < rank_of s
unfolding rank_of
rank_of-less s z kept sig less =
    let falls = rank-less (base_of z.sig) (measure z) (measure s) refl (measure-below z kept) less in
    let P : Signature → Type 0 = λ g. rank (base_of z.sig) (measure z) < rank (base_of g) (measure s) in
    subst P sig falls
