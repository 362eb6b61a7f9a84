-- What is kept of a draft when a predicate, a group or an assertion comes, and what follows at the end.
use Rattle.std.proofs.Common.{◌≡◌, ◌≤◌, ◌<◌, ◌+◌, ℕ, zero, suc, Bool, true, false, ◌&&◌, cond, List, [], ◌∷◌, ◌++◌, length, length-append, sum_by, count_by, map, Option, Some, None, Result, Ok, Err, slice_get, refl, ap, sym, subst, ◌∙◌, arith}
use Rattle.std.specs.Prelude.{nat_lt}
use Rattle.std.specs.List.{AllByRecursion, list_all}
use Rattle.std.proofs.lemmas.Bool.{and_parts, and_from, false≢true, le-ltb, ltb-false}
use Rattle.std.proofs.lemmas.Option.{none-some, same_Some}
use Rattle.chc_sorts.specs.declared.sort.Sort.{Sort}
use Rattle.chc_sorts.specs.declared.sort.Sort.TheVariants as sort
use Rattle.chc_sorts.specs.declared.limit.Limit.TheVariants as limit
use Rattle.chc_sorts.specs.declared.spec.DataSpec.{DataSpec}
use Rattle.chc_sorts.specs.Signature.{Signature}
use Rattle.chc_sorts.specs.Sorts.{sort_fits}
use Rattle.chc_sorts.specs.Names.{has_name}
use Rattle.chc_sorts.specs.Functions.{function_names}
use Rattle.chc_sorts.specs.Groups.{data_declared, first_refusal, fixed_functions, names_with, with_group}
use Rattle.chc_sexpr.specs.declared.fault.TextErr.{TextErr}
use Rattle.chc_sexpr.specs.declared.fault.TextErr.TheVariants as text_err
use Rattle.chc_elab.specs.Sites.{Reading, Tells, ◌>>>◌}
use Rattle.chc_terms.specs.declared.term.Term.{Term}
use Rattle.chc_terms.specs.Sorted.{sort_of, is_unquantified}
use Rattle.chc_state.specs.declared.clause.Atom.{Atom}
use Rattle.chc_state.specs.declared.clause.Clause.{Clause}
use Rattle.chc_state.specs.declared.clause.PredDecl.{PredDecl}
use Rattle.chc_state.specs.Limits.{charge, first_passed, is_query, live_count}
use Rattle.chc_state.specs.Names.{is_writable_name}
use Rattle.chc_state.specs.States.{StateView, on_live, is_live, head_all, clause_uses_live, uses_live}
use Rattle.chc_state.specs.Sorts.{are_sorts, is_sorted_atom, is_sorted_clause, is_condition, positions, positions_fit}
use Rattle.chc_state.specs.WellFormed.{term_fits, is_well_formed, are_well_formed}
use Rattle.chc_state.proofs.Forming.{formed_sorted}
use Rattle.chc_script.specs.declared.horn.parts.Parts.{Parts}
use Rattle.chc_script.specs.declared.horn.refusal.HornErr.{HornErr}
use Rattle.chc_script.specs.declared.horn.refusal.HornErr.TheVariants as refusal
use Rattle.chc_script.specs.declared.horn.side.Side.TheVariants as side
use Rattle.chc_script.specs.Drafted.{IsCondition, IsDrafted, SaysScript, are_writable_specs}
use Rattle.chc_script.specs.Drafts.{PredicatesView, AssertedView, ArePredicates, AreAsserted, declaration, passed_by_all, passed_by_clause, passed_by_predicate, symbols_of, with_predicate, with_assertion}
use Rattle.chc_script.specs.Horn.{clause_of, closed, closed_over, collected, no_parts, prefix_of}
use Rattle.chc_script.specs.HornLaws.{script_context, SaysClause, ClauseIsWellFormed}
use Rattle.chc_script.specs.Scripts.{ScriptView}
use Rattle.chc_script.proofs.AssertedLaws.{asserted_more, none_passed, not_passed}
use Rattle.chc_script.proofs.DraftNames.{named_group, named_predicate}
use Rattle.chc_script.proofs.Growing.{Holds, Declares, fit_kept, sort_kept, term_fit_kept}
use Rattle.chc_script.proofs.PredicateLaws.{all_counted, all_more, none_more}

-- a fault of what is read first is the fault of the whole
pub refused_on : {A B : Type 0} (e : TextErr) (r : Reading A) (next : A → Reading B) → Tells (Err e) r → Tells (Err e) (r >>> next)
refused_on (text_err.At fault) r next h = ap (λ x. x >>> next) h
refused_on text_err.NoMemory r next h = tt

all_push : {X : Type 0} (P : X → Type 0) (xs : List X) (x : X) → AllByRecursion P xs → P x → AllByRecursion P (xs ++ x ∷ [])
all_push P [] x p q = (q, tt)
all_push P (y ∷ xs) x p q = (p.0, all_push P xs x p.1 q)

map_append : {X Y : Type 0} (f : X → Y) (xs : List X) (x : X) → map f (xs ++ x ∷ []) ≡ map f xs ++ f x ∷ []
map_append f [] x = refl
map_append f (y ∷ xs) x = ap (λ l. f y ∷ l) (map_append f xs x)

at_front : {X : Type 0} (xs ys : List X) (i : ℕ) (x : X) → slice_get xs i ≡ Some x → slice_get (xs ++ ys) i ≡ Some x
at_front [] ys i x h = absurd (none-some x h)
at_front (y ∷ xs) ys zero x h = h
at_front (y ∷ xs) ys (suc i) x h = at_front xs ys i x h

-- what holds of all, where one follows from the other
all_from : {X : Type 0} (P Q : X → Type 0) (xs : List X) → ((x : X) → P x → Q x) → AllByRecursion P xs → AllByRecursion Q xs
all_from P Q [] f h = tt
all_from P Q (x ∷ xs) f h = (f x h.0, all_from P Q xs f h.1)

list_all_from : {X : Type 0} (p q : X → Bool) (xs : List X) → ((x : X) → p x ≡ true → q x ≡ true) → list_all p xs ≡ true → list_all q xs ≡ true
list_all_from p q [] f h = refl
list_all_from p q (x ∷ xs) f h =
    let parts = and_parts (p x) (list_all p xs) h in
    ap (λ b. b && list_all q xs) (f x parts.0) ∙ list_all_from p q xs f parts.1

positions_more : (decls : List PredDecl) (d : PredDecl) → positions (decls ++ d ∷ []) ≡ positions decls ++ d.sorts ∷ []
positions_more decls d = map_append (λ (x : PredDecl). x.sorts) decls d

-- where a new predicate passes no limit, it has few positions, and few predicates stand before it
pub few_declared : (decls : List PredDecl) (sorts : List Sort) → list_all (λ (d : PredDecl). d.live) decls ≡ true → passed_by_predicate decls sorts ≡ None → (length sorts ≤ 1024) × (length decls < 65536)
few_declared decls sorts live within =
    let first = not_passed (nat_lt 1024 (length sorts)) limit.L8 ((nat_lt 65536 (live_count (decls ++ declaration sorts ∷ [])), limit.L7) ∷ []) within in
    let second = not_passed (nat_lt 65536 (live_count (decls ++ declaration sorts ∷ []))) limit.L7 [] first.1 in
    let short = ltb-false 1024 (length sorts) first.0 in
    let counted = ltb-false 65536 (live_count (decls ++ declaration sorts ∷ [])) second.0 in
    let all = all_counted (λ (d : PredDecl). d.live) (decls ++ declaration sorts ∷ []) (all_more (λ (d : PredDecl). d.live) decls (declaration sorts) live refl) in
    (short, omega (arith, counted, all, length-append decls (declaration sorts ∷ [])))

-- the predicates with one more
declared_more : (p : PredicatesView) (name : List ℕ) (sorts : List Sort) → ArePredicates p (symbols_of p) → passed_by_predicate p.decls sorts ≡ None
    → ArePredicates (with_predicate p name sorts) (symbols_of (with_predicate p name sorts))
declared_more p name sorts kept within =
    let room = few_declared p.decls sorts kept.live within in
    record {
      same = omega (arith, kept.same, length-append p.names (name ∷ []), length-append p.decls (declaration sorts ∷ []));
      few = omega (arith, room.1, length-append p.decls (declaration sorts ∷ []));
      live = all_more (λ (d : PredDecl). d.live) p.decls (declaration sorts) kept.live refl;
      short = none_more (λ (d : PredDecl). nat_lt 1024 (length d.sorts)) p.decls (declaration sorts) kept.short (le-ltb 1024 (length sorts) room.0);
      tabled = refl;
    }

-- the clause of an assertion has weight 1
ok_same : (c d : Clause) → ◌≡◌ {A = Result Clause HornErr} (Ok c) (Ok d) → c ≡ d
ok_same c d h = cc

err_ok : (e : HornErr) (c : Clause) → ◌≡◌ {A = Result Clause HornErr} (Err e) (Ok c) → ⊥
err_ok e c h = cc

weight_behind : (b : Bool) (vars : List Sort) (r : Result Parts HornErr) (c : Clause) → cond b (closed vars r) (Err refusal.QuantInside) ≡ Ok c → c.weight ≡ 1
weight_behind true vars (Ok parts) c h = ap (λ (x : Clause). x.weight) (sym (ok_same (closed_over vars parts) c h))
weight_behind true vars (Err e) c h = absurd (err_ok e c h)
weight_behind false vars r c h = absurd (err_ok refusal.QuantInside c h)

pub weight_one : (t : Term) (c : Clause) → clause_of t ≡ Ok c → c.weight ≡ 1
weight_one t c h =
    let p = prefix_of t side.Concluded [] in
    weight_behind (is_unquantified p.rest) p.vars (collected p.rest p.side no_parts) c h

-- the assertions with one more
held_more : (a : AssertedView) (t : Term) (c : Clause) → AreAsserted a (sum_by charge a.clauses) (count_by is_query a.clauses) → passed_by_clause a.clauses c ≡ None → c.weight ≡ 1
    → AreAsserted (with_assertion a t c) (sum_by charge (a.clauses ++ c ∷ [])) (count_by is_query (a.clauses ++ c ∷ []))
held_more a t c kept within one =
    let more = asserted_more a (sum_by charge a.clauses) (count_by is_query a.clauses) t c kept within one in
    subst (λ (n : ℕ). AreAsserted (with_assertion a t c) n (count_by is_query (a.clauses ++ c ∷ []))) more.charged
    (subst (λ (n : ℕ). AreAsserted (with_assertion a t c) (sum_by charge a.clauses + charge c) n) more.counted more)

-- a predicate more
pub drafted_predicate : (sig : Signature) (p : PredicatesView) (a : AssertedView) (name : List ℕ) (sorts : List Sort) → IsDrafted sig p a
    → has_name (fixed_functions ++ function_names sig ++ p.names) name ≡ false → is_writable_name name ≡ true
    → list_all (sort_fits sig) sorts ≡ true → passed_by_predicate p.decls sorts ≡ None → IsDrafted sig (with_predicate p name sorts) a
drafted_predicate sig p a name sorts kept new written fit within = record {
  declared = declared_more p name sorts kept.declared within;
  held = kept.held;
  fits = ap (list_all (list_all (sort_fits sig))) (positions_more p.decls (declaration sorts)) ∙ all_more (list_all (sort_fits sig)) (positions p.decls) sorts kept.fits fit;
  sorted = all_from (IsCondition sig p.decls) (IsCondition sig (p.decls ++ declaration sorts ∷ [])) a.assertions
      (λ t h. sort_kept (script_context sig p.decls) (script_context sig (p.decls ++ declaration sorts ∷ [])) more t [] sort.Bool h) kept.sorted;
  fitting = kept.fitting;
  said = kept.said;
  named = named_predicate sig p.names name new written kept.named;
}
  where
    more : Declares (script_context sig p.decls) (script_context sig (p.decls ++ declaration sorts ∷ []))
    more = record {
      datas_kept = record { kept = λ d t h. h; more = omega arith };
      preds_kept = λ q params h. ap (λ l. slice_get l q) (positions_more p.decls (declaration sorts)) ∙ at_front (positions p.decls) (sorts ∷ []) q params h;
      defs_kept = λ k f h. h;
    }

-- a group of datatypes more
group_holds : (sig : Signature) (group : List DataSpec) → Holds sig (with_group sig group)
group_holds sig group = record {
  kept = at_front sig.datatypes (map (data_declared (names_with sig group)) group);
  more = omega (arith, length-append sig.datatypes (map (data_declared (names_with sig group)) group));
}

drafted_with : (sig : Signature) (group : List DataSpec) (p : PredicatesView) (a : AssertedView) → first_refusal sig group p.names ≡ None → are_writable_specs group ≡ true
    → IsDrafted sig p a → IsDrafted (with_group sig group) p a
drafted_with sig group p a none written kept = record {
  declared = kept.declared;
  held = kept.held;
  fits = list_all_from (list_all (sort_fits sig)) (list_all (sort_fits (with_group sig group))) (positions p.decls)
      (λ sorts. list_all_from (sort_fits sig) (sort_fits (with_group sig group)) sorts (fit_kept sig (with_group sig group) holds)) kept.fits;
  sorted = all_from (IsCondition sig p.decls) (IsCondition (with_group sig group) p.decls) a.assertions
      (λ t k. sort_kept (script_context sig p.decls) (script_context (with_group sig group) p.decls) more t [] sort.Bool k) kept.sorted;
  fitting = list_all_from (term_fits sig) (term_fits (with_group sig group)) a.assertions (term_fit_kept sig (with_group sig group) holds) kept.fitting;
  said = kept.said;
  named = named_group sig group p.names none written kept.named;
}
  where
    holds : Holds sig (with_group sig group)
    holds = group_holds sig group

    more : Declares (script_context sig p.decls) (script_context (with_group sig group) p.decls)
    more = record { datas_kept = group_holds sig group; preds_kept = λ q params k. k; defs_kept = λ k f g. g }

pub drafted_group : (sig : Signature) (group : List DataSpec) (new : Signature) (p : PredicatesView) (a : AssertedView) → first_refusal sig group p.names ≡ None → are_writable_specs group ≡ true
    → new ≡ with_group sig group → IsDrafted sig p a → IsDrafted new p a
drafted_group sig group new p a none written e kept = subst (λ s. IsDrafted s p a) (sym e) (drafted_with sig group p a none written kept)

-- an assertion more
pub drafted_assertion : (sig : Signature) (p : PredicatesView) (a : AssertedView) (t : Term) (c : Clause) → IsDrafted sig p a → IsCondition sig p.decls t → term_fits sig t ≡ true → clause_of t ≡ Ok c → passed_by_clause a.clauses c ≡ None
    → IsDrafted sig p (with_assertion a t c)
drafted_assertion sig p a t c kept sorted fit says within = record {
  declared = kept.declared;
  held = held_more a t c kept.held within (weight_one t c says);
  fits = kept.fits;
  sorted = all_push (IsCondition sig p.decls) a.assertions t kept.sorted sorted;
  fitting = all_more (term_fits sig) a.assertions t kept.fitting fit;
  said = map_append clause_of a.assertions t ∙ ap (λ l. l ++ clause_of t ∷ []) kept.said ∙ ap (λ r. map (λ (x : Clause). Ok x) a.clauses ++ r ∷ []) says
      ∙ sym (map_append (λ (x : Clause). Ok x) a.clauses c);
  named = kept.named;
}

-- each assertion says the clause at its place
head_said : (t : Result Clause HornErr) (ts : List (Result Clause HornErr)) (c : Result Clause HornErr) (cs : List (Result Clause HornErr)) → t ∷ ts ≡ c ∷ cs → (t ≡ c) × (ts ≡ cs)
head_said t ts c cs e = (cc, cc)

none_said : (c : Result Clause HornErr) (cs : List (Result Clause HornErr)) → [] ≡ c ∷ cs → ⊥
none_said c cs e = cc

said_at : (ts : List Term) (cs : List Clause) (k : ℕ) (t : Term) (c : Clause) → map clause_of ts ≡ map (λ (x : Clause). Ok x) cs → slice_get ts k ≡ Some t → slice_get cs k ≡ Some c → clause_of t ≡ Ok c
said_at [] cs k t c e at there = absurd (none-some t at)
said_at (u ∷ ts) [] k t c e at there = absurd (none-some c there)
said_at (u ∷ ts) (d ∷ cs) zero t c e at there =
    let h = head_said (clause_of u) (map clause_of ts) (Ok d) (map (λ (x : Clause). Ok x) cs) e in
    ap clause_of (sym (same_Some u t at)) ∙ h.0 ∙ ap (λ (x : Clause). Ok x) (same_Some d c there)
said_at (u ∷ ts) (d ∷ cs) (suc k) t c e at there =
    said_at ts cs k t c (head_said (clause_of u) (map clause_of ts) (Ok d) (map (λ (x : Clause). Ok x) cs) e).1 at there

all_at : {X : Type 0} (P : X → Type 0) (xs : List X) (k : ℕ) (x : X) → AllByRecursion P xs → slice_get xs k ≡ Some x → P x
all_at P [] k x p h = absurd (none-some x h)
all_at P (y ∷ xs) zero x p h = subst P (same_Some y x h) p.0
all_at P (y ∷ xs) (suc k) x p h = all_at P xs k x p.1 h

says_at : (s : StateView) (p : PredicatesView) (a : AssertedView) → s.preds ≡ p.decls → IsDrafted s.sig p a → (k : ℕ) (t : Term) (c : Clause) → slice_get a.assertions k ≡ Some t → slice_get a.clauses k ≡ Some c
    → SaysClause s t c
says_at s p a same kept k t c at there = record {
  sorted = ap (λ (l : List PredDecl). sort_of (script_context s.sig l) t []) same ∙ all_at (IsCondition s.sig p.decls) a.assertions k t kept.sorted at;
  says = said_at a.assertions a.clauses k t c kept.said at there;
}

-- a script of the draft's parts says its clauses by its assertions
pub says_script : (X : ScriptView) (p : PredicatesView) (a : AssertedView) → IsDrafted X.state.sig p a → X.state.preds ≡ p.decls → X.state.clauses ≡ a.clauses → X.assertions ≡ a.assertions → SaysScript X
says_script X p a kept preds clauses assertions = record {
  counts = ap (λ (l : List Term). length l) assertions ∙ kept.held.same ∙ ap (λ (l : List Clause). length l) (sym clauses);
  says = λ k t c at.
      says_at X.state p a preds kept k t c
      (ap (λ (l : List Term). slice_get l k) (sym assertions) ∙ at.assertion_at) (ap (λ (l : List Clause). slice_get l k) (sym clauses) ∙ at.clause_at);
}

-- all clauses are well formed
module _ (law : ClauseIsWellFormed) (sig : Signature) (decls : List PredDecl) where
  abbrev bare : StateView
  bare = record { sig = sig; preds = decls; clauses = [] }

  clauses_formed : (ts : List Term) (cs : List Clause) → AllByRecursion (IsCondition sig decls) ts → list_all (term_fits sig) ts ≡ true → map clause_of ts ≡ map (λ (x : Clause). Ok x) cs
      → list_all (is_well_formed sig (positions decls)) cs ≡ true
  clauses_formed ts [] p f e = refl
  clauses_formed [] (c ∷ cs) p f e = absurd (none_said (Ok c) (map (λ (x : Clause). Ok x) cs) e)
  clauses_formed (t ∷ ts) (c ∷ cs) p f e =
      let h = head_said (clause_of t) (map clause_of ts) (Ok c) (map (λ (x : Clause). Ok x) cs) e in
      let fit = and_parts (term_fits sig t) (list_all (term_fits sig) ts) f in
      let one = law bare t c (record { sorted = p.0; says = h.0 }) fit.0 in
      and_from (is_well_formed sig (positions decls) c) (list_all (is_well_formed sig (positions decls)) cs) one (clauses_formed ts cs p.1 fit.1 h.1)

pub all_formed : (law : ClauseIsWellFormed) (sig : Signature) (p : PredicatesView) (a : AssertedView) → IsDrafted sig p a → are_well_formed sig p.decls a.clauses ≡ true
all_formed law sig p a kept =
    and_from (positions_fit sig p.decls) (list_all (is_well_formed sig (positions p.decls)) a.clauses) kept.fits
    (clauses_formed law sig p.decls a.assertions a.clauses kept.sorted kept.fitting kept.said)

-- none of the limits of a state is passed
pub all_within : (sig : Signature) (p : PredicatesView) (a : AssertedView) → IsDrafted sig p a → passed_by_all p.decls a.clauses ≡ None → first_passed p.decls a.clauses ≡ None
all_within sig p a kept within = none_passed p (symbols_of p) a (sum_by charge a.clauses) (count_by is_query a.clauses) kept.declared kept.held within

-- a predicate with positions is there, and all are live
position_live : (decls : List PredDecl) (p : ℕ) (ss : Option (List Sort)) → list_all (λ (d : PredDecl). d.live) decls ≡ true → are_sorts ss (slice_get (positions decls) p) ≡ true → is_live decls p ≡ true
position_live [] p None live h = absurd (false≢true h)
position_live [] p (Some ss) live h = absurd (false≢true h)
position_live (d ∷ decls) zero ss live h = (and_parts d.live (list_all (λ (d : PredDecl). d.live) decls) live).0
position_live (d ∷ decls) (suc p) ss live h = position_live decls p ss (and_parts d.live (list_all (λ (d : PredDecl). d.live) decls) live).1 h

module _ (sig : Signature) (decls : List PredDecl) (live : list_all (λ (d : PredDecl). d.live) decls ≡ true) where
  atom_live : (vars : List Sort) (a : Atom) → is_sorted_atom sig (positions decls) vars a ≡ true → on_live decls a ≡ true
  atom_live vars a h = position_live decls a.pred _ live (and_parts _ _ h).1

  head_live : (vars : List Sort) (head : Option Atom) → head_all (is_sorted_atom sig (positions decls) vars) head ≡ true → head_all (on_live decls) head ≡ true
  head_live vars None h = refl
  head_live vars (Some a) h = atom_live vars a h

  clause_live : (c : Clause) → is_sorted_clause sig (positions decls) c ≡ true → clause_uses_live decls c ≡ true
  clause_live c h =
      let outer = and_parts (list_all (is_condition sig c.vars) c.conj && list_all (is_sorted_atom sig (positions decls) c.vars) c.body) (head_all (is_sorted_atom sig (positions decls) c.vars) c.head) h in
      let inner = and_parts (list_all (is_condition sig c.vars) c.conj) (list_all (is_sorted_atom sig (positions decls) c.vars) c.body) outer.0 in
      ap (λ b. b && head_all (on_live decls) c.head) (list_all_from (is_sorted_atom sig (positions decls) c.vars) (on_live decls) c.body (atom_live c.vars) inner.1)
      ∙ head_live c.vars c.head outer.1

  -- well-formed clauses use live predicates alone
  pub all_live : (cs : List Clause) → are_well_formed sig decls cs ≡ true → uses_live decls cs ≡ true
  all_live cs h =
      list_all_from (is_sorted_clause sig (positions decls)) (clause_uses_live decls) cs clause_live
      (and_parts (positions_fit sig decls) (list_all (is_sorted_clause sig (positions decls)) cs) (formed_sorted sig decls cs h)).1
