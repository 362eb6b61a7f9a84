-- What is found in written sorts, one after the other, is their first refusal.
use Rattle.std.proofs.Common.{◌≡◌, ℕ, ◌+◌, Bool, true, false, not, ◌||◌, ◌&&◌, cond, nat_lt, List, [], ◌∷◌, Option, Some, None, option_map, codes, refl, ap, sym, subst, ◌∙◌}
use Rattle.std.specs.Prelude.{is_some}
use Rattle.std.specs.List.{list_any, flat_map}
use Rattle.std.specs.Option.{option_or}
use Rattle.std.specs.Str.{bytes_eq}
use Rattle.std.proofs.lemmas.Bool.{false≢true}
use Rattle.std.proofs.lemmas.Slice.Eq.{bytes_eq-Decides}
use Rattle.chc_sorts.specs.declared.sort.Sort.{Sort, Sort-F, out-Sort, fold-roll-Sort}
use Rattle.chc_sorts.specs.declared.sort.Sort.TheVariants as sort
use Rattle.chc_sorts.specs.declared.spec.SortSpec.{SortSpec, SortSpec-F, roll-SortSpec, map-SortSpec, ind-SortSpec, fold-roll-SortSpec}
use Rattle.chc_sorts.specs.declared.spec.SortSpec.TheVariants as spec
use Rattle.chc_sorts.specs.declared.fields.SortFaults.{SortFaults}
use Rattle.chc_sorts.specs.declared.refusal.SigErr.{SigErr}
use Rattle.chc_sorts.specs.declared.refusal.SigErr.TheVariants as refusal
use Rattle.chc_sorts.specs.Sorts.{same_sort, same_level, sort_depth, sort_depth_step}
use Rattle.chc_sorts.specs.Names.{number_of}
use Rattle.chc_sorts.specs.Named.{names_in, names_step, sort_named, first_unknown, unless_known, array_over, sort_meant, meant_step, most_depth}
use Rattle.chc_sorts.specs.Groups.{is_misindexed, is_deep, refused_where, sort_refusal}
use Rattle.chc_sorts.specs.Checks.{Shape, shape, shape_step, faults_with, unknown_or, sort_found}
use Rattle.chc_sorts.proofs.Unknown.{first_unknown-append, first_unknown_array}

-- each of the folds at a name and at an array
shape-Named : (name : List ℕ) → shape (spec.Named name) ≡ record { is_int = bytes_eq name (codes "Int"); over_int = true; depth = 1 }
shape-Named name = ap shape (sym (spec.rolls-Named name)) ∙ fold-roll-SortSpec Shape shape_step (SortSpec-F.Named name)

shape-Array : (i e : SortSpec) → shape (spec.Array i e) ≡ record { is_int = false; over_int = (shape i).is_int && (shape e).over_int; depth = (shape e).depth + 1 }
shape-Array i e = ap shape (sym (spec.rolls-Array i e)) ∙ fold-roll-SortSpec Shape shape_step (SortSpec-F.Array i e)

meant-Named : (names : List (List ℕ)) (name : List ℕ) → sort_meant names (spec.Named name) ≡ sort_named names name
meant-Named names name = ap (sort_meant names) (sym (spec.rolls-Named name)) ∙ fold-roll-SortSpec (Option Sort) (meant_step names) (SortSpec-F.Named name)

meant-Array : (names : List (List ℕ)) (i e : SortSpec) → sort_meant names (spec.Array i e) ≡ array_over (sort_meant names i) (sort_meant names e)
meant-Array names i e = ap (sort_meant names) (sym (spec.rolls-Array i e)) ∙ fold-roll-SortSpec (Option Sort) (meant_step names) (SortSpec-F.Array i e)

in-Named : (name : List ℕ) → names_in (spec.Named name) ≡ name ∷ []
in-Named name = ap names_in (sym (spec.rolls-Named name)) ∙ fold-roll-SortSpec (List (List ℕ)) names_step (SortSpec-F.Named name)

depth-Array : (s : Sort) → sort_depth (sort.Array s) ≡ sort_depth s + 1
depth-Array s = ap sort_depth (sym (sort.rolls-Array s)) ∙ fold-roll-Sort ℕ sort_depth_step (Sort-F.Array s)

depth-Data : (d : ℕ) → sort_depth (sort.Data d) ≡ 1
depth-Data d = ap sort_depth (sym (sort.rolls-Data d)) ∙ fold-roll-Sort ℕ sort_depth_step (Sort-F.Data d)

depth-Bool : sort_depth sort.Bool ≡ 1
depth-Bool = ap sort_depth (sym sort.rolls-Bool) ∙ fold-roll-Sort ℕ sort_depth_step Sort-F.Bool

depth-Int : sort_depth sort.Int ≡ 1
depth-Int = ap sort_depth (sym sort.rolls-Int) ∙ fold-roll-Sort ℕ sort_depth_step Sort-F.Int

abbrev step : Sort-F (Sort → Bool) → Sort → Bool
step level s = same_level level (out-Sort s)

int-Bool : same_sort sort.Bool sort.Int ≡ false
int-Bool = (λ i. (ap same_sort (sym sort.rolls-Bool) ∙ fold-roll-Sort (Sort → Bool) step Sort-F.Bool) i sort.Int) ∙ ap (same_level Sort-F.Bool) sort.outs-Int

int-Int : same_sort sort.Int sort.Int ≡ true
int-Int = (λ i. (ap same_sort (sym sort.rolls-Int) ∙ fold-roll-Sort (Sort → Bool) step Sort-F.Int) i sort.Int) ∙ ap (same_level Sort-F.Int) sort.outs-Int

int-Data : (d : ℕ) → same_sort (sort.Data d) sort.Int ≡ false
int-Data d = (λ i. (ap same_sort (sym (sort.rolls-Data d)) ∙ fold-roll-Sort (Sort → Bool) step (Sort-F.Data d)) i sort.Int) ∙ ap (same_level (Sort-F.Data d)) sort.outs-Int

int-Array : (s : Sort) → same_sort (sort.Array s) sort.Int ≡ false
int-Array s = (λ i. (ap same_sort (sym (sort.rolls-Array s)) ∙ fold-roll-Sort (Sort → Bool) step (Sort-F.Array s)) i sort.Int) ∙ ap (same_level (Sort-F.Array (same_sort s))) sort.outs-Int

-- a sort is there, and it is of that shape, or its arrays aren't over Int
abbrev pub OfShape : Shape → Option Sort → Type 0
OfShape f None = (f.over_int ≡ false) × (f.is_int ≡ false)
OfShape f (Some s) = (f.over_int ≡ true) × (same_sort s sort.Int ≡ f.is_int) × (sort_depth s ≡ f.depth)

never_both : (name : List ℕ) → name ≡ codes "Bool" → name ≡ codes "Int" → ⊥
never_both name u v = false≢true (ap (λ l. bytes_eq l (codes "Int")) (sym u ∙ v))

none-some : {A : Type 0} (x : A) → Some x ≡ None → ⊥
none-some x h = false≢true (sym (ap is_some h))

named_shape : (name : List ℕ) (o : Option ℕ) (a b : Bool) → bytes_eq name (codes "Bool") ≡ a → bytes_eq name (codes "Int") ≡ b
    → unless_known name None (cond a (Some sort.Bool) (cond b (Some sort.Int) (option_map (λ d. sort.Data d) o))) ≡ None
    → OfShape (record { is_int = b; over_int = true; depth = 1 }) (cond a (Some sort.Bool) (cond b (Some sort.Int) (option_map (λ d. sort.Data d) o)))
named_shape name o true true p q e = absurd (never_both name ((bytes_eq-Decides name (codes "Bool")).0 p) ((bytes_eq-Decides name (codes "Int")).0 q))
named_shape name o true false p q e = (refl, int-Bool, depth-Bool)
named_shape name o false true p q e = (refl, int-Int, depth-Int)
named_shape name None false false p q e = absurd (none-some name e)
named_shape name (Some d) false false p q e = (refl, int-Data d, depth-Data d)

and_false : (a b : Bool) → b ≡ false → (a && b) ≡ false
and_false true b e = e
and_false false b e = refl

array_some : (b : Bool) (f g : Shape) (e : Option Sort) → b ≡ f.is_int → OfShape g e
    → OfShape (record { is_int = false; over_int = f.is_int && g.over_int; depth = g.depth + 1 }) (cond b (option_map (λ t. sort.Array t) e) None)
array_some true f g None q k = (and_false f.is_int g.over_int k.0, refl)
array_some true f g (Some t) q k = (ap (λ x. x && g.over_int) (sym q) ∙ k.0, int-Array t, depth-Array t ∙ ap (λ n. n + 1) k.2)
array_some false f g e q k = (ap (λ x. x && g.over_int) (sym q), refl)

array_shape : (f g : Shape) (i e : Option Sort) → OfShape f i → OfShape g e → OfShape (record { is_int = false; over_int = f.is_int && g.over_int; depth = g.depth + 1 }) (array_over i e)
array_shape f g None e h k = (ap (λ x. x && g.over_int) h.1, refl)
array_shape f g (Some s) e h k = array_some (same_sort s sort.Int) f g e h.1 k

first_none : {A : Type 0} (a b : Option A) → option_or a b ≡ None → a ≡ None
first_none None b e = refl
first_none (Some x) b e = absurd (none-some x e)

second_none : {A : Type 0} (a b : Option A) → option_or a b ≡ None → b ≡ None
second_none None b e = e
second_none (Some x) b e = absurd (none-some x e)

module _ (names : List (List ℕ)) where
  abbrev Shaped : SortSpec → Type 0
  Shaped s = first_unknown names (names_in s) ≡ None → OfShape (shape s) (sort_meant names s)

  at_name : (name : List ℕ) → Shaped (spec.Named name)
  at_name name e =
      let known : first_unknown names (name ∷ []) ≡ None = ap (first_unknown names) (sym (in-Named name)) ∙ e in
      let there = named_shape name (number_of names name) (bytes_eq name (codes "Bool")) (bytes_eq name (codes "Int")) refl refl known in
      subst (λ (f : Shape). OfShape f (sort_meant names (spec.Named name))) (sym (shape-Named name))
      (subst (λ (o : Option Sort). OfShape (record { is_int = bytes_eq name (codes "Int"); over_int = true; depth = 1 }) o) (sym (meant-Named names name)) there)

  at_array : (i e : SortSpec) → Shaped i → Shaped e → Shaped (spec.Array i e)
  at_array i e h k q =
      let parts : option_or (first_unknown names (names_in i)) (first_unknown names (names_in e)) ≡ None = sym (first_unknown_array names i e) ∙ q in
      let there = array_shape (shape i) (shape e) (sort_meant names i) (sort_meant names e) (h (first_none _ _ parts)) (k (second_none _ _ parts)) in
      subst (λ (f : Shape). OfShape f (sort_meant names (spec.Array i e))) (sym (shape-Array i e))
      (subst (λ (o : Option Sort). OfShape (record { is_int = false; over_int = (shape i).is_int && (shape e).over_int; depth = (shape e).depth + 1 }) o) (sym (meant-Array names i e)) there)

  abbrev Seen : Type 0
  Seen = (s : SortSpec) × Shaped s

  at_level : (y : SortSpec-F Seen) → Shaped (roll-SortSpec (map-SortSpec Seen SortSpec (λ (e : Seen). e.0) y))
  at_level (SortSpec-F.Named name) = subst Shaped (sym (spec.rolls-Named name)) (at_name name)
  at_level (SortSpec-F.Array i e) = subst Shaped (sym (spec.rolls-Array i.0 e.0)) (at_array i.0 e.0 i.1 e.1)

  -- a written sort whose names are known is of its shape
  pub shaped : (s : SortSpec) → Shaped s
  shaped = ind-SortSpec Shaped (λ x y e. subst (λ z. Shaped (roll-SortSpec z)) e (at_level y))

  abbrev off : SortSpec → Bool
  off s = not (shape s).over_int

  abbrev deep : SortSpec → Bool
  deep s = nat_lt most_depth (shape s).depth

  abbrev deep_sort : SortSpec → Bool
  deep_sort s = is_deep (sort_meant names s)

  off_is : (f : Shape) (o : Option Sort) → OfShape f o → not f.over_int ≡ not (is_some o)
  off_is f None h = ap not h.0
  off_is f (Some s) h = ap not h.0

  deep_is : (f : Shape) (o : Option Sort) → OfShape f o → not (is_some o) ≡ false → nat_lt most_depth f.depth ≡ is_deep o
  deep_is f None h e = absurd (false≢true (sym e))
  deep_is f (Some s) h e = ap (nat_lt most_depth) (sym h.2)

  or_parts : (a b : Bool) → (a || b) ≡ false → (a ≡ false) × (b ≡ false)
  or_parts true b e = absurd (false≢true (sym e))
  or_parts false b e = (refl, e)

  all_off : (ss : List SortSpec) → first_unknown names (flat_map names_in ss) ≡ None → list_any off ss ≡ list_any (is_misindexed names) ss
  all_off [] e = refl
  all_off (s ∷ ss) e =
      let parts : option_or (first_unknown names (names_in s)) (first_unknown names (flat_map names_in ss)) ≡ None = sym (first_unknown-append names (names_in s) (flat_map names_in ss)) ∙ e in
      ap (λ b. b || list_any off ss) (off_is (shape s) (sort_meant names s) (shaped s (first_none _ _ parts)))
      ∙ ap (λ b. is_misindexed names s || b) (all_off ss (second_none _ _ parts))

  all_deep : (ss : List SortSpec) → first_unknown names (flat_map names_in ss) ≡ None → list_any (is_misindexed names) ss ≡ false → list_any deep ss ≡ list_any deep_sort ss
  all_deep [] e m = refl
  all_deep (s ∷ ss) e m =
      let parts : option_or (first_unknown names (names_in s)) (first_unknown names (flat_map names_in ss)) ≡ None = sym (first_unknown-append names (names_in s) (flat_map names_in ss)) ∙ e in
      let tests = or_parts (is_misindexed names s) (list_any (is_misindexed names) ss) m in
      ap (λ b. b || list_any deep ss) (deep_is (shape s) (sort_meant names s) (shaped s (first_none _ _ parts)) tests.0)
      ∙ ap (λ b. deep_sort s || b) (all_deep ss (second_none _ _ parts) tests.1)

  or_assoc : (a b c : Bool) → ((a || b) || c) ≡ (a || (b || c))
  or_assoc true b c = refl
  or_assoc false b c = refl

  abbrev fault : Option (List ℕ) → Bool → Bool → Option SigErr
  fault o m d = option_or (option_map (λ name. refusal.UnknownSort name) o) (option_or (refused_where m refusal.ArrayIndex) (refused_where d refusal.SortTooDeep))

  at_end : (m d : Bool) → cond m (Some refusal.ArrayIndex) (cond d (Some refusal.SortTooDeep) None) ≡ fault None (m || false) (d || false)
  at_end true d = refl
  at_end false true = refl
  at_end false false = refl

  at_next : (o more : Option (List ℕ)) (m d : Bool) (later : Option SigErr) → later ≡ fault more m d → unknown_or o later ≡ fault (option_or o more) m d
  at_next None more m d later e = e
  at_next (Some name) more m d later e = refl

  found_is : (ss : List SortSpec) (seen : SortFaults) → sort_found names seen ss ≡ fault (first_unknown names (flat_map names_in ss)) (seen.misindexed || list_any off ss) (seen.deep || list_any deep ss)
  found_is [] seen = at_end seen.misindexed seen.deep
  found_is (s ∷ ss) seen =
      let later = found_is ss (faults_with seen s)
      ∙ ap (λ b. fault (first_unknown names (flat_map names_in ss)) b ((seen.deep || deep s) || list_any deep ss)) (or_assoc seen.misindexed (off s) (list_any off ss))
      ∙ ap (λ b. fault (first_unknown names (flat_map names_in ss)) (seen.misindexed || (off s || list_any off ss)) b) (or_assoc seen.deep (deep s) (list_any deep ss)) in
      at_next (first_unknown names (names_in s)) (first_unknown names (flat_map names_in ss)) (seen.misindexed || (off s || list_any off ss)) (seen.deep || (deep s || list_any deep ss)) (sort_found names (faults_with seen s) ss) later
      ∙ ap (λ (o : Option (List ℕ)). fault o (seen.misindexed || list_any off (s ∷ ss)) (seen.deep || list_any deep (s ∷ ss))) (sym (first_unknown-append names (names_in s) (flat_map names_in ss)))

  same_fault : (ss : List SortSpec) (o : Option (List ℕ)) → first_unknown names (flat_map names_in ss) ≡ o → fault o (list_any off ss) (list_any deep ss) ≡ fault o (list_any (is_misindexed names) ss) (list_any deep_sort ss)
  same_fault ss (Some name) e = refl
  same_fault ss None e = ap (λ b. fault None b (list_any deep ss)) (all_off ss e) ∙ by (list_any (is_misindexed names) ss) refl
    where
      by : (b : Bool) → list_any (is_misindexed names) ss ≡ b → fault None b (list_any deep ss) ≡ fault None b (list_any deep_sort ss)
      by true q = refl
      by false q = ap (λ d. fault None false d) (all_deep ss e q)

  -- what is found in the sorts is their first refusal
  pub found_is_refusal : (ss : List SortSpec) → sort_found names (record { misindexed = false; deep = false }) ss ≡ sort_refusal names ss
  found_is_refusal ss = found_is ss (record { misindexed = false; deep = false }) ∙ same_fault ss (first_unknown names (flat_map names_in ss)) refl
