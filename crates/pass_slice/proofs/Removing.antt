-- The state after a slice: predicates that were live and aren't now, limits that still hold.
use Rattle.std.proofs.Common.{◌≡◌, ◌≢◌, ◌↔◌, ℕ, zero, suc, ◌+◌, ◌≤◌, ◌<◌, Bool, true, false, not, ◌&&◌, ◌||◌, cond, List, [], ◌∷◌, Some, None, Option, length, sum_by, inl, inr, sym, ap, ◌∙◌, refl, arith, add-zero}
use Rattle.std.specs.Prelude.{nat_lt, nat_eq, is_none}
use Rattle.std.specs.List.{filter, list_any, list_all}
use Rattle.std.proofs.lemmas.Bool.{not_from_false, not-true, or_cases, or_left, and_parts, and_from, false≢true, eq-eqb}
use Rattle.std.proofs.lemmas.List.Sums.{sum_by-cons}
use Rattle.chc_sorts.specs.declared.sort.Sort.{Sort}
use Rattle.chc_sorts.specs.Signature.{Signature}
use Rattle.chc_sorts.specs.Sorts.{sort_fits}
use Rattle.chc_state.specs.declared.clause.Atom.{Atom}
use Rattle.chc_state.specs.declared.clause.Clause.{Clause}
use Rattle.chc_state.specs.declared.clause.PredDecl.{PredDecl}
use Rattle.pass_slice.specs.Slices.{Slice, body_meets, head_meets, is_unreached, is_unneeded, condition, goes, without, sliced, CanGo}
use Rattle.chc_state.specs.States.{StateView, is_live, on_live, head_all, head_any, uses_live}
use Rattle.chc_state.specs.Limits.{charge, charge_of_args, filled_of_body, is_query, live_count, first_passed}
use Rattle.chc_state.specs.Meaning.{In}
use Rattle.chc_state.specs.Sorts.{positions, positions_fit, is_sorted_clause, are_sorted}
use Rattle.chc_state.specs.WellFormed.{is_well_formed, are_well_formed}
use Rattle.chc_state.specs.PredSets.{PredSet, set_of, retired}
use Rattle.chc_state.proofs.Members.{In-filtered, kept-passes, all-at, all-from, none-at}
use Rattle.chc_state.proofs.Limiting.{WithinLimits-from_none, none_from-WithinLimits, WithinLimits-fewer}
use Rattle.chc_values.specs.declared.world.WorldEntry.{WorldEntry}
use Rattle.chc_state.specs.Meaning.{DerivesFalse}
use Rattle.chc_state.specs.Measure.{measure, IsLess}
use Rattle.chc_state.specs.Passes.{Applies}
use Rattle.chc_state.proofs.Retired.{length-retired}
use Rattle.pass_slice.proofs.Answering.{head_meets-none, unreached_same, unneeded_same}

module _ (set : PredSet) where
  -- live is what was live and isn't in the set
  pub is_live-retired : (n : ℕ) (ds : List PredDecl) (p : ℕ) → is_live (retired set n ds) p ≡ (is_live ds p && not (set (n + p)))
  is_live-retired n [] p = refl
  is_live-retired n (d ∷ ds) zero = ap (λ k. d.live && not (set k)) (sym (add-zero n))
  is_live-retired n (d ∷ ds) (suc p) =
      let e : n + 1 + p ≡ n + suc p = omega arith in
      is_live-retired (n + 1) ds p ∙ ap (λ k. is_live ds p && not (set k)) e

  live_count-cons : (d : PredDecl) (ds : List PredDecl) → live_count (d ∷ ds) ≡ cond d.live 1 0 + live_count ds
  live_count-cons d ds = sum_by-cons (λ (d : PredDecl). cond d.live 1 0) d ds

  fewer_or_same : (live gone : Bool) → cond (live && not gone) 1 0 ≤ cond live 1 0
  fewer_or_same true true = omega arith
  fewer_or_same true false = omega arith
  fewer_or_same false gone = omega arith

  one_less : (live gone : Bool) → live ≡ true → gone ≡ true → cond (live && not gone) 1 0 + 1 ≤ cond live 1 0
  one_less true true e h = omega arith
  one_less true false e h = absurd (false≢true h)
  one_less false gone e h = absurd (false≢true e)

  live_count-retired : (n : ℕ) (ds : List PredDecl) → live_count (retired set n ds) ≤ live_count ds
  live_count-retired n [] = omega arith
  live_count-retired n (d ∷ ds) =
      let now : PredDecl = record { sorts = d.sorts; live = d.live && not (set n) } in
      omega (arith, live_count-cons now (retired set (n + 1) ds), live_count-cons d ds, fewer_or_same d.live (set n), live_count-retired (n + 1) ds)

  -- a live predicate of the set makes it one less
  pub live_count-falls : (n : ℕ) (ds : List PredDecl) (p : ℕ) → is_live ds p ≡ true → set (n + p) ≡ true → live_count (retired set n ds) < live_count ds
  live_count-falls n [] p live in_set = absurd (false≢true live)
  live_count-falls n (d ∷ ds) zero live in_set =
      let now : PredDecl = record { sorts = d.sorts; live = d.live && not (set n) } in
      let gone : set n ≡ true = ap set (sym (add-zero n)) ∙ in_set in
      let less = one_less d.live (set n) live gone in
      omega (arith, live_count-cons now (retired set (n + 1) ds), live_count-cons d ds, live_count-retired (n + 1) ds, less)
  live_count-falls n (d ∷ ds) (suc p) live in_set =
      let now : PredDecl = record { sorts = d.sorts; live = d.live && not (set n) } in
      let e : n + suc p ≡ n + 1 + p = omega arith in
      let later = live_count-falls (n + 1) ds p live (ap set (sym e) ∙ in_set) in
      omega (arith, live_count-cons now (retired set (n + 1) ds), live_count-cons d ds, fewer_or_same d.live (set n), later)

  positions-retired : (n : ℕ) (ds : List PredDecl)
      → list_any (λ (d : PredDecl). nat_lt 1024 (length d.sorts)) (retired set n ds) ≡ list_any (λ (d : PredDecl). nat_lt 1024 (length d.sorts)) ds
  positions-retired n [] = refl
  positions-retired n (d ∷ ds) = ap (λ b. nat_lt 1024 (length d.sorts) || b) (positions-retired (n + 1) ds)

  -- the limits still hold where the queries that go have a body atom
  pub fits : (s : StateView) (gone : Clause → Bool)
      → ((c : Clause) → gone c ≡ true → is_query c ≡ true → 2 ≤ charge c)
      → (p : ℕ) → is_live s.preds p ≡ true → set p ≡ true
      → first_passed s.preds s.clauses ≡ None
      → first_passed (without set gone s).preds (without set gone s).clauses ≡ None
  fits s gone heavy p live in_set within =
      let h = WithinLimits-from_none s.preds s.clauses within in
      let e : 0 + p ≡ p = omega arith in
      none_from-WithinLimits (retired set 0 s.preds) (filter (λ c. not (gone c)) s.clauses)
      (WithinLimits-fewer gone heavy s.preds (retired set 0 s.preds) s.clauses
      (live_count-falls 0 s.preds p live (ap set e ∙ in_set))
      (positions-retired 0 s.preds ∙ h.positions) h)

  -- a clause with nothing of the set uses live predicates still
  still_live : (preds : List PredDecl) (p : ℕ) → is_live preds p ≡ true → set p ≡ false → is_live (retired set 0 preds) p ≡ true
  still_live preds p live out =
      let e : 0 + p ≡ p = omega arith in
      is_live-retired 0 preds p ∙ and_from (is_live preds p) (not (set (0 + p))) live (not_from_false (set (0 + p)) (ap set e ∙ out))

  head_still_live : (preds : List PredDecl) (o : Option Atom) → head_all (on_live preds) o ≡ true → head_any (λ (a : Atom). set a.pred) o ≡ false → head_all (on_live (retired set 0 preds)) o ≡ true
  head_still_live preds None live out = refl
  head_still_live preds (Some a) live out = still_live preds a.pred live out

  pub uses_live-without : (preds : List PredDecl) (cs kept : List Clause)
      → uses_live preds cs ≡ true
      → ((c : Clause) → In c kept → In c cs × (body_meets set c ≡ false) × (head_meets set c ≡ false))
      → uses_live (retired set 0 preds) kept ≡ true
  uses_live-without preds cs kept live out =
      all-from (λ (c : Clause). list_all (on_live (retired set 0 preds)) c.body && head_all (on_live (retired set 0 preds)) c.head) kept (λ c i.
      let h = out c i in
      let was = and_parts (list_all (on_live preds) c.body) (head_all (on_live preds) c.head)
      (all-at (λ (c : Clause). list_all (on_live preds) c.body && head_all (on_live preds) c.head) c cs live h.0) in
      and_from (list_all (on_live (retired set 0 preds)) c.body) (head_all (on_live (retired set 0 preds)) c.head)
      (all-from (on_live (retired set 0 preds)) c.body (λ a j.
      still_live preds a.pred (all-at (on_live preds) a c.body was.0 j) (none-at (λ (a : Atom). set a.pred) a c.body h.1 j)))
      (head_still_live preds c.head was.1 h.2))

-- a query with a body atom has a charge of at least 2
body_has_charge : (set : PredSet) (body : List Atom) → list_any (λ (a : Atom). set a.pred) body ≡ true → 1 ≤ sum_by (λ (a : Atom). charge_of_args a.args (filled_of_body a.args)) body
body_has_charge set [] h = absurd (false≢true h)
body_has_charge set (a ∷ body) h =
    let s = sum_by-cons (λ (a : Atom). charge_of_args a.args (filled_of_body a.args)) a body in
    omega (arith, s)

pub charge-with_body : (set : PredSet) (c : Clause) → body_meets set c ≡ true → 2 ≤ charge c
charge-with_body set c h = omega (arith, body_has_charge set c.body h)

-- what is_none says
is_query-head : (o : Option Atom) → is_none o ≡ true → o ≡ None
is_query-head None h = refl
is_query-head (Some a) h = absurd (false≢true h)

-- a clause that concludes something of the set is no query
pub no_query : (set : PredSet) (c : Clause) → head_meets set c ≡ true → is_query c ≡ true → ⊥
no_query set c h asks = false≢true (sym (head_meets-none set c (is_query-head c.head asks)) ∙ h)

-- what an unreached set leaves
pub unreached_out : (cs : List Clause) (set : PredSet) → is_unreached cs set ≡ true → (c : Clause)
    → In c (filter (λ c. not (body_meets set c)) cs) → In c cs × (body_meets set c ≡ false) × (head_meets set c ≡ false)
unreached_out cs set meets c i =
    let was = In-filtered (λ c. not (body_meets set c)) c cs i in
    let out = not-true (body_meets set c) (kept-passes (λ c. not (body_meets set c)) c cs i) in (
      was,
      out,
      elim (or_cases (not (head_meets set c)) (body_meets set c) (all-at (λ c. not (head_meets set c) || body_meets set c) c cs meets was)) [
        | inl e ↦ not-true (head_meets set c) e
        | inr e ↦ absurd (false≢true (sym out ∙ e))
      ],
    )

-- what an unneeded set leaves
pub unneeded_out : (cs : List Clause) (set : PredSet) → is_unneeded cs set ≡ true → (c : Clause)
    → In c (filter (λ c. not (head_meets set c)) cs) → In c cs × (body_meets set c ≡ false) × (head_meets set c ≡ false)
unneeded_out cs set meets c i =
    let was = In-filtered (λ c. not (head_meets set c)) c cs i in
    let out = not-true (head_meets set c) (kept-passes (λ c. not (head_meets set c)) c cs i) in (
      was,
      elim (or_cases (head_meets set c) (not (body_meets set c)) (all-at (λ c. head_meets set c || not (body_meets set c)) c cs meets was)) [
        | inl e ↦ absurd (false≢true (sym out ∙ e))
        | inr e ↦ not-true (body_meets set c) e
      ],
      out,
    )

-- some live predicate is in the set
pub record HasLive (preds : List PredDecl) (ps : List ℕ) : Type 0 where
  pub place : ℕ
  pub live : is_live preds place ≡ true
  pub in_set : set_of ps place ≡ true

pub HasLive-some : (preds : List PredDecl) (ps : List ℕ) → ps ≢ [] → list_all (is_live preds) ps ≡ true → HasLive preds ps
HasLive-some preds [] some live = absurd (some refl)
HasLive-some preds (p ∷ ps) some live =
    record {
      place = p;
      live = (and_parts (is_live preds p) (list_all (is_live preds) ps) live).0;
      in_set = or_left (nat_eq p p) (list_any (nat_eq p) ps) (eq-eqb p p refl);
    }

-- the limits hold after removing live predicates by either kind
pub within-unreached : (s : StateView) (ps : List ℕ) → ps ≢ [] → list_all (is_live s.preds) ps ≡ true
    → first_passed s.preds s.clauses ≡ None → first_passed (sliced Slice.forward s ps).preds (sliced Slice.forward s ps).clauses ≡ None
within-unreached s ps some live within =
    let p = HasLive-some s.preds ps some live in
    fits (set_of ps) s (body_meets (set_of ps)) (λ c h asks. charge-with_body (set_of ps) c h) p.place p.live p.in_set within

pub within-unneeded : (s : StateView) (ps : List ℕ) → ps ≢ [] → list_all (is_live s.preds) ps ≡ true
    → first_passed s.preds s.clauses ≡ None → first_passed (sliced Slice.backward s ps).preds (sliced Slice.backward s ps).clauses ≡ None
within-unneeded s ps some live within =
    let p = HasLive-some s.preds ps some live in
    fits (set_of ps) s (head_meets (set_of ps)) (λ c h asks. absurd (no_query (set_of ps) c h asks)) p.place p.live p.in_set within

-- taking a legal step
fewer_live : (s : StateView) (ps : List ℕ) → ps ≢ [] → list_all (is_live s.preds) ps ≡ true → live_count (retired (set_of ps) 0 s.preds) < live_count s.preds
fewer_live s ps some live =
    let p = HasLive-some s.preds ps some live in
    let e : 0 + p.place ≡ p.place = omega arith in
    live_count-falls (set_of ps) 0 s.preds p.place p.live (ap (set_of ps) e ∙ p.in_set)

-- so the measure is less
pub lessens : (x : Slice) (s : StateView) (ps : List ℕ) → CanGo x s ps → IsLess (measure (sliced x s ps)) (measure s)
lessens x s ps h = inl (fewer_live s ps h.some h.live)

-- what taking a slice gives
pub applies : (x : Slice) (s : StateView) (ps : List ℕ) → CanGo x s ps → Applies (sliced x) (λ qs. true) (λ qs. false) s ps (sliced x s ps)
applies x s ps h =
    let long = length-retired (set_of ps) 0 s.preds in
    record {
      taken = refl;
      answer = λ w world. answers x w h.meets;
      same_sig = refl;
      as_many = λ adds. long;
      one_more = omega (arith, long);
      falls = λ reduces. lessens x s ps h;
    }
  where
    answers : (y : Slice) (w : List WorldEntry) → condition y s.clauses (set_of ps) ≡ true → DerivesFalse s w ↔ DerivesFalse (sliced y s ps) w
    answers Slice.forward w meets = unreached_same s (set_of ps) meets w
    answers Slice.backward w meets = unneeded_same s (set_of ps) meets w

pub uses_live-sliced : (x : Slice) (s : StateView) (ps : List ℕ) → CanGo x s ps → uses_live s.preds s.clauses ≡ true → uses_live (sliced x s ps).preds (sliced x s ps).clauses ≡ true
uses_live-sliced Slice.forward s ps h live =
    uses_live-without (set_of ps) s.preds s.clauses (filter (λ c. not (body_meets (set_of ps) c)) s.clauses) live (unreached_out s.clauses (set_of ps) h.meets)
uses_live-sliced Slice.backward s ps h live =
    uses_live-without (set_of ps) s.preds s.clauses (filter (λ c. not (head_meets (set_of ps) c)) s.clauses) live (unneeded_out s.clauses (set_of ps) h.meets)

-- predicates keep the sorts of their positions
positions-retired_all : (set : PredSet) (n : ℕ) (ds : List PredDecl) → positions (retired set n ds) ≡ positions ds
positions-retired_all set n [] = refl
positions-retired_all set n (d ∷ ds) = ap (λ sorts. d.sorts ∷ sorts) (positions-retired_all set (n + 1) ds)

pub positions-sliced : (x : Slice) (s : StateView) (ps : List ℕ) → positions (sliced x s ps).preds ≡ positions s.preds
positions-sliced x s ps = positions-retired_all (set_of ps) 0 s.preds

-- fewer clauses pass a test over the same positions still
module _ (test : Signature → List (List Sort) → Clause → Bool) where
  fewer_pass : (s : StateView) (preds : List PredDecl) (keep : Clause → Bool) → positions preds ≡ positions s.preds
      → (positions_fit s.sig s.preds && list_all (test s.sig (positions s.preds)) s.clauses) ≡ true
      → (positions_fit s.sig preds && list_all (test s.sig (positions preds)) (filter keep s.clauses)) ≡ true
  fewer_pass s preds keep same passed =
      let was = and_parts (positions_fit s.sig s.preds) (list_all (test s.sig (positions s.preds)) s.clauses) passed in
      let of_positions : List (List Sort) → Bool = λ sorts. list_all (list_all (sort_fits s.sig)) sorts && list_all (test s.sig sorts) (filter keep s.clauses) in
      ap of_positions same
      ∙ and_from (positions_fit s.sig s.preds) (list_all (test s.sig (positions s.preds)) (filter keep s.clauses)) was.0
      (all-from (test s.sig (positions s.preds)) (filter keep s.clauses) (λ c i.
      all-at (test s.sig (positions s.preds)) c s.clauses was.1 (In-filtered keep c s.clauses i)))

pub are_sorted-sliced : (x : Slice) (s : StateView) (ps : List ℕ) → are_sorted s.sig s.preds s.clauses ≡ true → are_sorted s.sig (sliced x s ps).preds (sliced x s ps).clauses ≡ true
are_sorted-sliced x s ps sorted =
    fewer_pass is_sorted_clause s (retired (set_of ps) 0 s.preds) (λ c. not (goes x (set_of ps) c)) (positions-retired_all (set_of ps) 0 s.preds) sorted

pub are_formed-sliced : (x : Slice) (s : StateView) (ps : List ℕ) → are_well_formed s.sig s.preds s.clauses ≡ true → are_well_formed s.sig (sliced x s ps).preds (sliced x s ps).clauses ≡ true
are_formed-sliced x s ps formed =
    fewer_pass is_well_formed s (retired (set_of ps) 0 s.preds) (λ c. not (goes x (set_of ps) c)) (positions-retired_all (set_of ps) 0 s.preds) formed
