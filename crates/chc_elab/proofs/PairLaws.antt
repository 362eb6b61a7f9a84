-- Binder lists: pairs whose names differ.
use Rattle.std.proofs.Common.{◌≡◌, ◌∙◌, sym, ap, subst, refl, ℕ, Bool, true, false, not, ◌&&◌, ◌||◌, cond, List, [], ◌∷◌, ◌++◌, map, Option, Some, None, Ok, append_assoc, append-nil}
use Rattle.std.specs.Option.{is_some, option_map}
use Rattle.std.specs.Str.{bytes_eq}
use Rattle.std.proofs.lemmas.Bool.{and_parts, and_from}
use Rattle.std.proofs.lemmas.List.Folds.{list_any-append}
use Rattle.std.proofs.lemmas.Slice.Eq.{bytes_eq-Decides}
use Rattle.chc_sorts.specs.Names.{has_name}
use Rattle.chc_sexpr.specs.declared.tree.Tree.{Tree, out-Tree}
use Rattle.chc_sexpr.specs.declared.tree.Tree.TheVariants as tree
use Rattle.chc_sexpr.specs.declared.fault.Fault.TheVariants.{NameTaken, BadCommand}
use Rattle.chc_sexpr.specs.Shapes.{symbol_of, group_of}
use Rattle.chc_elab.specs.Apart.{are_apart}
use Rattle.chc_elab.specs.Sites.{faulty}
use Rattle.chc_elab.specs.SortTrees.{place_at}
use Rattle.chc_elab.specs.Binders.{pair_name, are_pairs, before_others, pair_names, apart_after, binder_names, second_tree, second_trees}
use Rattle.chc_elab.specs.Stands.{Pairs, Binds}
use Rattle.chc_elab.specs.Stands as stands
use Rattle.chc_elab.proofs.Readings.{cond_else_ok, cond_ok, err_ok, ok_same}
use Rattle.chc_elab.proofs.ShapeLaws.{symbol_of-Symbol, group_of-Group, is_Symbol, is_Group}

false_true : false ≡ true → ⊥
false_true h = cc

-- names that differ

-- whether none of the names is among those before
unmet : List (List ℕ) → List (List ℕ) → Bool
unmet before [] = true
unmet before (n ∷ ns) = not (has_name before n) && unmet before ns

bytes_turned : (m n : List ℕ) → bytes_eq m n ≡ bytes_eq n m
bytes_turned m n = by (bytes_eq m n) (bytes_eq n m) refl refl
  where
    by : (a b : Bool) → bytes_eq m n ≡ a → bytes_eq n m ≡ b → a ≡ b
    by true true f g = refl
    by false false f g = refl
    by true false f g = sym ((bytes_eq-Decides n m).1 (sym ((bytes_eq-Decides m n).0 f))) ∙ g
    by false true f g = sym f ∙ (bytes_eq-Decides m n).1 (sym ((bytes_eq-Decides n m).0 g))

shuffled : (a b u h : Bool) → (not (a || b) && (u && not h)) ≡ ((not a && u) && not (b || h))
shuffled true b u h = refl
shuffled false true true h = refl
shuffled false true false h = refl
shuffled false false u h = refl

unmet-more : (before : List (List ℕ)) (n : List ℕ) (ns : List (List ℕ)) → unmet (before ++ n ∷ []) ns ≡ (unmet before ns && not (has_name ns n))
unfolding unmet
unmet-more before n [] = refl
unmet-more before n (m ∷ ns) =
    (λ i. not (has i) && unmet-more before n ns i)
    ∙ shuffled (has_name before m) (bytes_eq n m) (unmet before ns) (has_name ns n)
  where
    has : has_name (before ++ n ∷ []) m ≡ (has_name before m || bytes_eq n m)
    has = list_any-append (bytes_eq m) before (n ∷ []) ∙ ap (λ b. has_name before m || b) (or_none (bytes_eq m n) ∙ bytes_turned m n)
      where
        or_none : (b : Bool) → (b || false) ≡ b
        or_none true = refl
        or_none false = refl

abbrev names_of : List (ℕ × List ℕ) → List (List ℕ)
names_of ps = map (λ (p : ℕ × List ℕ). p.1) ps

-- the test for the first of the names, and for the others
apart_step : (before : List (List ℕ)) (n : List ℕ) (ns : List (List ℕ))
    → (unmet before (n ∷ ns) && are_apart (n ∷ ns)) ≡ (not (has_name before n) && (unmet (before ++ n ∷ []) ns && are_apart ns))
unfolding unmet
apart_step before n ns =
    regrouped (has_name before n) (unmet before ns) (has_name ns n) (are_apart ns)
    ∙ ap (λ b. not (has_name before n) && (b && are_apart ns)) (sym (unmet-more before n ns))
  where
    regrouped : (a u h r : Bool) → ((not a && u) && (not h && r)) ≡ (not a && ((u && not h) && r))
    regrouped true u h r = refl
    regrouped false true h r = refl
    regrouped false false h r = refl

not_true : (b : Bool) → not b ≡ true → b ≡ false
not_true true h = cc
not_true false h = refl

not_false : (b : Bool) → b ≡ false → not b ≡ true
not_false true h = cc
not_false false h = refl

apart_ok : (before : List (List ℕ)) (ps : List (ℕ × List ℕ)) → (unmet before (names_of ps) && are_apart (names_of ps)) ≡ true → apart_after before ps ≡ Ok (before ++ names_of ps)
apart_ok before [] h = ap (λ ns. Ok ns) (sym (append-nil before))
apart_ok before ((place, n) ∷ ps) h =
    let parts = and_parts (not (has_name before n)) (unmet (before ++ n ∷ []) (names_of ps) && are_apart (names_of ps)) (sym (apart_step before n (names_of ps)) ∙ h) in
    ap (λ b. cond b (faulty place NameTaken n) (apart_after (before ++ n ∷ []) ps)) (not_true (has_name before n) parts.0)
    ∙ apart_ok (before ++ n ∷ []) ps parts.1
    ∙ ap (λ ns. Ok ns) (append_assoc before (n ∷ []) (names_of ps))

ok_apart : (before : List (List ℕ)) (ps : List (ℕ × List ℕ)) (all : List (List ℕ)) → apart_after before ps ≡ Ok all
    → (before ++ names_of ps ≡ all) × ((unmet before (names_of ps) && are_apart (names_of ps)) ≡ true)
unfolding unmet
ok_apart before [] all h = (append-nil before ∙ ok_same before all h, refl)
ok_apart before ((place, n) ∷ ps) all h =
    let first = cond_else_ok (has_name before n) (apart_after (before ++ n ∷ []) ps) (record { place = place; fault = NameTaken; name = n }) all h in
    let rest = ok_apart (before ++ n ∷ []) ps all first.1 in (
      sym (append_assoc before (n ∷ []) (names_of ps)) ∙ rest.0,
      apart_step before n (names_of ps) ∙ and_from (not (has_name before n)) (unmet (before ++ n ∷ []) (names_of ps) && are_apart (names_of ps)) (not_false (has_name before n) first.0) rest.1,
    )

unmet-none : (ns : List (List ℕ)) → unmet [] ns ≡ true
unfolding unmet
unmet-none [] = refl
unmet-none (n ∷ ns) = unmet-none ns

-- pairs

-- a pair's name, with a place
pair_is : (place at : ℕ) (name : List ℕ) (t : Tree) → pair_name (group_of (tree.Group place (tree.Symbol at name ∷ t ∷ []))) ≡ Some (place_at (out-Tree (tree.Symbol at name)), name)
pair_is place at name t =
    ap pair_name (group_of-Group place (tree.Symbol at name ∷ t ∷ []))
    ∙ ap (option_map (λ name'. (place_at (out-Tree (tree.Symbol at name)), name'))) (symbol_of-Symbol at name)

-- what the pairs' own functions tell of them
pub record PairsTold (ps : List Tree) (names : List (List ℕ)) (seconds : List Tree) : Type 0 where
  pub pairs : are_pairs ps ≡ true
  pub named : names_of (pair_names ps) ≡ names
  pub behind : second_trees ps ≡ seconds

pub pairs_told : (ps : List Tree) (names : List (List ℕ)) (seconds : List Tree) → Pairs ps names seconds → PairsTold ps names seconds
pairs_told ps names seconds stands.no_pair = record { pairs = refl; named = refl; behind = refl }
pairs_told ps names seconds (stands.pair_before place at name t pairs names' seconds' rest) =
    let told = pairs_told pairs names' seconds' rest in
    let pair = pair_is place at name t in
    record {
      pairs = ap (λ p. is_some p && are_pairs pairs) pair ∙ told.pairs;
      named = ap (λ p. names_of (before_others p (pair_names pairs))) pair ∙ ap (λ ns. name ∷ ns) told.named;
      behind = ap (λ g. before_others (second_tree g) (second_trees pairs)) (group_of-Group place (tree.Symbol at name ∷ t ∷ [])) ∙ ap (λ ts. t ∷ ts) told.behind;
    }

-- the names that a binder list gives
pub names_bound : (place : ℕ) (ps : List Tree) (names : List (List ℕ)) (seconds : List Tree) → Pairs ps names seconds → are_apart names ≡ true → binder_names place (Some ps) ≡ Ok names
names_bound place ps names seconds pairs apart =
    let told = pairs_told ps names seconds pairs in
    ap (λ b. cond b (apart_after [] (pair_names ps)) (faulty place BadCommand [])) told.pairs
    ∙ apart_ok [] (pair_names ps)
    (and_from (unmet [] (names_of (pair_names ps))) (are_apart (names_of (pair_names ps))) (unmet-none (names_of (pair_names ps))) (ap are_apart told.named ∙ apart))
    ∙ ap (λ ns. Ok ns) told.named

-- a tree whose name as a pair is told is one
a_pair : (t : Tree) (g : Option (List Tree)) → group_of t ≡ g → is_some (pair_name g) ≡ true
    → (place : ℕ) × (at : ℕ) × (name : List ℕ) × (s : Tree) × (t ≡ tree.Group place (tree.Symbol at name ∷ s ∷ []))
a_pair t None is h = absurd (false_true h)
a_pair t (Some []) is h = absurd (false_true h)
a_pair t (Some (x ∷ [])) is h = absurd (false_true h)
a_pair t (Some (x ∷ s ∷ [])) is h = by (symbol_of x) refl h
  where
    by : (o : Option (List ℕ)) → symbol_of x ≡ o → is_some {T = ℕ × List ℕ} (option_map (λ name. (place_at (out-Tree x), name)) o) ≡ true
        → (place : ℕ) × (at : ℕ) × (name : List ℕ) × (s : Tree) × (t ≡ tree.Group place (tree.Symbol at name ∷ s ∷ []))
    by None named e = absurd (false_true e)
    by (Some name) named e =
        let group = is_Group t (x ∷ s ∷ []) is in
        let symbol = is_Symbol x name named in
        (group.0, symbol.0, name, s, group.1 ∙ ap (λ y. tree.Group group.0 (y ∷ s ∷ [])) symbol.1)
a_pair t (Some (x ∷ s ∷ u ∷ more)) is h = absurd (false_true h)

pub told_pairs : (ps : List Tree) → are_pairs ps ≡ true → (names : List (List ℕ)) × (seconds : List Tree) × Pairs ps names seconds
told_pairs [] h = ([], [], stands.no_pair)
told_pairs (t ∷ ts) h =
    let parts = and_parts (is_some (pair_name (group_of t))) (are_pairs ts) h in
    let (place, at, name, s, is) = a_pair t (group_of t) refl parts.0 in
    let (names, seconds, rest) = told_pairs ts parts.1 in (
      name ∷ names,
      s ∷ seconds,
      subst (λ u. Pairs (u ∷ ts) (name ∷ names) (s ∷ seconds)) (sym is) (stands.pair_before place at name s ts names seconds rest),
    )

-- the list that gives names, where it gives any
pub bound_names : (place : ℕ) (t : Tree) (g : Option (List Tree)) (names : List (List ℕ)) → group_of t ≡ g → binder_names place g ≡ Ok names
    → (at : ℕ) × (ps : List Tree) × (seconds : List Tree) × (t ≡ tree.Group at ps) × Pairs ps names seconds × (are_apart names ≡ true)
bound_names place t None names is h = absurd (err_ok _ names h)
bound_names place t (Some ps) names is h =
    let pairs = cond_ok (are_pairs ps) (apart_after [] (pair_names ps)) (record { place = place; fault = BadCommand; name = [] }) names h in
    let (given, seconds, made) = told_pairs ps pairs.0 in
    let apart = ok_apart [] (pair_names ps) names pairs.1 in
    let same : given ≡ names = sym (pairs_told ps given seconds made).named ∙ apart.0 in
    let group = is_Group t ps is in (
      group.0,
      ps,
      seconds,
      group.1,
      subst (λ ns. Pairs ps ns seconds) same made,
      sym (ap are_apart apart.0) ∙ (and_parts (unmet [] (names_of (pair_names ps))) (are_apart (names_of (pair_names ps))) apart.1).1,
    )
