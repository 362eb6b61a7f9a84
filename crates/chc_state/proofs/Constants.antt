-- The way back by constants: predicates that no definition defines become false everywhere, or true everywhere.
use Rattle.std.proofs.Common.{◌≡◌, ◌≢◌, ℕ, ◌+◌, ◌<◌, Bool, true, false, not, ◌&&◌, ◌||◌, List, [], ◌∷◌, ◌++◌, length, Some, inl, inr, refl, sym, ap, ◌∙◌, subst, arith, length-set}
use Rattle.std.specs.Prelude.{slice_get, nat_eq, nat_lt}
use Rattle.std.specs.List.{list_all}
use Rattle.std.proofs.lemmas.Bool.{cases_Bool, and_parts, and_from, or_left, or_from, false≢true, eq-eqb, ne_eqb, ltb-true, or_cases, or_parts, eqb-true}
use Rattle.chc_sorts.specs.declared.sort.Sort.{Sort, Sort-F, fold-Sort, fold-roll-Sort}
use Rattle.chc_sorts.specs.declared.sort.Sort.TheVariants as sort
use Rattle.chc_sorts.specs.Signature.{Signature}
use Rattle.chc_values.specs.declared.value.Value.{Value}
use Rattle.chc_values.specs.declared.value.Value.TheVariants as value
use Rattle.chc_values.specs.declared.world.WorldEntry.{WorldEntry}
use Rattle.chc_terms.specs.Has.{Has, silent}
use Rattle.chc_sorts.specs.Sorts.{sort_fits, sort_depth, sort_depth_step, is_declared_step}
use Rattle.chc_terms.proofs.HasLaws.{Has-Lit}
use Rattle.chc_terms.proofs.SortLaws.{sort_of-Lit, sorts_fit-Lit}
use Rattle.chc_state.specs.declared.clause.PredDecl.{PredDecl}
use Rattle.chc_state.specs.declared.defs.Def.{Def}
use Rattle.chc_state.specs.declared.defs.Defs.{Defs}
use Rattle.chc_state.specs.States.{StateView, is_live}
use Rattle.chc_state.specs.Sorts.{positions, positions_fit}
use Rattle.chc_state.specs.PredSets.{PredSet, set_of, is_ascending, retired}
use Rattle.chc_state.specs.Definitions.{DefMeans, Says, Defines, IsDefinition, context_before}
use Rattle.chc_state.specs.Back.{or_none, constant, with_constant, with_constants}
use Rattle.chc_state.proofs.Members.{In-at, all-at}
use Rattle.chc_state.proofs.Places.{at-map}
use Rattle.chc_state.proofs.Retired.{length-retired, at-retired, retired-alike, retired-nothing, LiveAt, LiveAt-is_live}
use Rattle.chc_state.proofs.Added.{StandInList, StandInList-added, from_other, to_other, from_same, to_same, Defines-added}

-- Bool fits every signature
Bool_fits : (sig : Signature) → sort_fits sig sort.Bool ≡ true
Bool_fits sig =
    and_from _ _ (ap (fold-Sort Bool (is_declared_step sig)) (sym sort.rolls-Bool) ∙ fold-roll-Sort Bool (is_declared_step sig) Sort-F.Bool)
    (ap (λ n. nat_lt n 17) (ap sort_depth (sym sort.rolls-Bool) ∙ fold-roll-Sort ℕ sort_depth_step Sort-F.Bool))

-- a constant is a definition
constant_fits : (sig : Signature) (defs : List Def) (k : ℕ) (sorts : List Sort) (b : Bool) → list_all (sort_fits sig) sorts ≡ true → IsDefinition sig defs k (constant sorts b)
constant_fits sig defs k sorts b fit =
    record { params_fit = fit; result_fits = Bool_fits sig; body_fits = sorts_fit-Lit sig b; sorted = sort_of-Lit (context_before sig defs k) b sorts }

-- a number below all those of the list isn't in it
below_all : (p : ℕ) (ps : List ℕ) → list_all (nat_lt p) ps ≡ true → set_of ps p ≡ false
below_all p [] h = refl
below_all p (q ∷ ps) h =
    let b = and_parts (nat_lt p q) (list_all (nat_lt p) ps) h in
    let less : p < q = ltb-true p q b.0 in
    or_from (nat_eq p q) (set_of ps p) (ne_eqb p q (λ e. omega arith)) (below_all p ps b.1)

set_of-other : (p : ℕ) (ps : List ℕ) (q : ℕ) → q ≢ p → set_of (p ∷ ps) q ≡ set_of ps q
set_of-other p ps q ne = ap (λ b. b || set_of ps q) (ne_eqb q p ne)

set_of-first : (p : ℕ) (ps : List ℕ) (q : ℕ) → q ≡ p → set_of (p ∷ ps) q ≡ true
set_of-first p ps q e = or_left (nat_eq q p) (set_of ps q) (eq-eqb q p e)

-- the state in which the predicates of the set aren't live
abbrev pub but : StateView → PredSet → StateView
but s gone = record { sig = s.sig; preds = retired gone 0 s.preds; clauses = s.clauses }

module _ (s : StateView) (b : Bool) (fit : positions_fit s.sig s.preds ≡ true) where
  define_one : (p : ℕ) (ps : List ℕ) (d : Defs) → list_all (nat_lt p) ps ≡ true → is_live s.preds p ≡ true
      → Defines d (but s (set_of (p ∷ ps))) → Defines (with_constant (positions s.preds) b p d) (but s (set_of ps))
  define_one p ps d apart live defines =
      Defines-added (but s (set_of (p ∷ ps))) (but s (set_of ps)) d p now (constant (or_none (slice_get (positions s.preds) p)) b) defines
      (record {
        same_sig = refl;
        counts = length-retired (set_of (p ∷ ps)) 0 s.preds ∙ sym (length-retired (set_of ps) 0 s.preds);
        others = λ q ne. let k : 0 + q ≡ q = omega arith in retired-alike (set_of (p ∷ ps)) (set_of ps) 0 s.preds q (ap (set_of (p ∷ ps)) k ∙ set_of-other p ps q ne ∙ sym (ap (set_of ps) k));
        here = at-retired (set_of ps) 0 s.preds p found.decl found.at;
        live = and_from found.decl.live (not (set_of ps (0 + p))) found.live (let k : 0 + p ≡ p = omega arith in ap (λ j. not (set_of ps j)) k ∙ ap not (below_all p ps apart));
      })
      (record { params = sorts; result = refl })
      (constant_fits s.sig (d.list ++ constant (or_none (slice_get (positions s.preds) p)) b ∷ []) (length d.list) (or_none (slice_get (positions s.preds) p)) b
      (ap (list_all (sort_fits s.sig)) sorts ∙ all-at (list_all (sort_fits s.sig)) found.decl.sorts (positions s.preds) fit (In-at (positions s.preds) p found.decl.sorts there)))
    where
      found : LiveAt s.preds p
      found = LiveAt-is_live s.preds p live

      there : slice_get (positions s.preds) p ≡ Some found.decl.sorts
      there = at-map (λ (d : PredDecl). d.sorts) s.preds p found.decl found.at

      sorts : or_none (slice_get (positions s.preds) p) ≡ found.decl.sorts
      sorts = ap or_none there

      now : PredDecl
      now = record { sorts = found.decl.sorts; live = found.decl.live && not (set_of ps (0 + p)) }

  define_all : (ps : List ℕ) (d : Defs) → is_ascending ps ≡ true → list_all (is_live s.preds) ps ≡ true
      → Defines d (but s (set_of ps)) → Defines (with_constants (positions s.preds) b ps d) (but s (λ p. false))
  define_all [] d ascending live defines = defines
  define_all (p ∷ ps) d ascending live defines =
      let up = and_parts (list_all (nat_lt p) ps) (is_ascending ps) ascending in
      let on = and_parts (is_live s.preds p) (list_all (is_live s.preds) ps) live in
      define_all ps (with_constant (positions s.preds) b p d) up.1 on.1 (define_one p ps d up.0 on.0 defines)

  -- with a constant for each predicate that isn't live after, the live predicates before are defined
  pub constants_define : (ps : List ℕ) (d : Defs) → is_ascending ps ≡ true → list_all (is_live s.preds) ps ≡ true
      → Defines d (but s (set_of ps)) → Defines (with_constants (positions s.preds) b ps d) s
  constants_define ps d ascending live defines =
      subst (λ (ds : List PredDecl). Defines (with_constants (positions s.preds) b ps d) (record { sig = s.sig; preds = ds; clauses = s.clauses })) (retired-nothing 0 s.preds)
      (define_all ps d ascending live defines)

-- what is said of the predicates of the set, and of the others
pub record SaysBack (sig : Signature) (w : List WorldEntry) (set : PredSet) (b : Bool) (d e : Defs) (q : ℕ) (us : List Value) : Type 0 where
  pub from_set : set q ≡ true → Says sig w e q us → b ≡ true
  pub to_set : set q ≡ true → b ≡ true → Says sig w e q us
  pub from_other : set q ≡ false → Says sig w e q us → Says sig w d q us
  pub to_other : set q ≡ false → Says sig w d q us → Says sig w e q us

module _ (sig : Signature) (w : List WorldEntry) (sorts : List (List Sort)) (b : Bool) where
  -- a constant's body
  from_body : (d : Defs) (xs : List Sort) (us : List Value) → Has sig w silent (DefMeans sig w d) (constant xs b).body us (value.Bool true) → b ≡ true
  from_body d xs us h = is b (subst (λ A. A) (Has-Lit sig w silent (DefMeans sig w d) b us (value.Bool true)) h)
    where
      is : (c : Bool) → value.Bool true ≡ value.Bool c → c ≡ true
      is c e = cc

  to_body : (d : Defs) (xs : List Sort) (us : List Value) → b ≡ true → Has sig w silent (DefMeans sig w d) (constant xs b).body us (value.Bool true)
  to_body d xs us e = subst (λ A. A) (sym (Has-Lit sig w silent (DefMeans sig w d) b us (value.Bool true))) (ap value.Bool (sym e))

  says_one : (p : ℕ) (d : Defs) → StandInList d → p < length d.of → (q : ℕ) (us : List Value) → SaysBack sig w (λ r. nat_eq r p) b d (with_constant sorts b p d) q us
  says_one p d stand inside q us =
      record {
        from_set = λ same h. from_body d xs us (from_same sig w d p def stand inside us (value.Bool true) (subst (λ r. Says sig w (with_constant sorts b p d) r us) (eqb-true q p same) h));
        to_set = λ same e. subst (λ r. Says sig w (with_constant sorts b p d) r us) (sym (eqb-true q p same)) (to_same sig w d p def stand inside us (value.Bool true) (to_body d xs us e));
        from_other = λ other h. from_other sig w d p def stand q us (value.Bool true) (apart other) h;
        to_other = λ other h. to_other sig w d p def stand q us (value.Bool true) (apart other) h;
      }
    where
      xs : List Sort
      xs = or_none (slice_get sorts p)

      def : Def
      def = constant xs b

      apart : nat_eq q p ≡ false → q ≢ p
      apart other e = false≢true (sym other ∙ eq-eqb q p e)

  -- one constant, and then others
  joined : (p : ℕ) (ps : List ℕ) (d d' e : Defs) (q : ℕ) (us : List Value) → SaysBack sig w (λ r. nat_eq r p) b d d' q us → SaysBack sig w (set_of ps) b d' e q us → SaysBack sig w (set_of (p ∷ ps)) b d e q us
  joined p ps d d' e q us first rest =
      record {
        from_set = λ in_set h. elim (cases_Bool (set_of ps q)) [
          | inl later ↦ rest.from_set later h
          | inr out ↦ first.from_set (at_first in_set out) (rest.from_other out h)
        ];
        to_set = λ in_set always. elim (cases_Bool (set_of ps q)) [
          | inl later ↦ rest.to_set later always
          | inr out ↦ rest.to_other out (first.to_set (at_first in_set out) always)
        ];
        from_other = λ out h. let outs = or_parts (nat_eq q p) (set_of ps q) out in first.from_other outs.0 (rest.from_other outs.1 h);
        to_other = λ out h. let outs = or_parts (nat_eq q p) (set_of ps q) out in rest.to_other outs.1 (first.to_other outs.0 h);
      }
    where
      at_first : set_of (p ∷ ps) q ≡ true → set_of ps q ≡ false → nat_eq q p ≡ true
      at_first in_set out = elim (or_cases (nat_eq q p) (set_of ps q) in_set) [ inl e ↦ e | inr e ↦ absurd (false≢true (sym out ∙ e)) ]

  pub constants_say : (ps : List ℕ) (d : Defs) → StandInList d → list_all (λ p. nat_lt p (length d.of)) ps ≡ true
      → (q : ℕ) (us : List Value) → SaysBack sig w (set_of ps) b d (with_constants sorts b ps d) q us
  constants_say [] d stand inside q us =
      record { from_set = λ e h. absurd (false≢true e); to_set = λ e h. absurd (false≢true e); from_other = λ e h. h; to_other = λ e h. h }
  constants_say (p ∷ ps) d stand inside q us =
      let bs = and_parts (nat_lt p (length d.of)) (list_all (λ r. nat_lt r (length d.of)) ps) inside in
      let here : p < length d.of = ltb-true p (length d.of) bs.0 in
      let d' = with_constant sorts b p d in
      let long : length d.of ≡ length d'.of = sym (length-set d.of p (Some (length d.list))) in
      let def = constant (or_none (slice_get sorts p)) b in
      joined p ps d d' (with_constants sorts b ps d') q us (says_one p d stand here q us)
      (constants_say ps d' (StandInList-added d p def stand here) (ap (λ n. list_all (λ r. nat_lt r n) ps) (sym long) ∙ bs.1) q us)
