-- Predicates by name and by number.
use Rattle.std.proofs.Common.{◌≡◌, ◌≤◌, ◌<◌, ℕ, suc, ◌+◌, Bool, true, false, ◌||◌, ◌&&◌, cond, List, [], ◌∷◌, ◌++◌, length, length-append, map, count_by, Option, Some, None, option_copied, Bor, refl, ap, sym, subst, ◌∙◌, arith}
use Rattle.std.specs.Prelude.{is_some, nat_lt}
use Rattle.std.specs.List.{list_all, list_any}
use Rattle.std.proofs.lemmas.Bool.{false≢true, and_parts, le-ltb, lt-ltb}
use Rattle.std.proofs.lemmas.List.Sums.{sum_by-cons}
use Rattle.std.proofs.lemmas.List.Folds.{list_any-append}
use Rattle.chc_sorts.specs.declared.sort.Sort.{Sort}
use Rattle.chc_sorts.specs.declared.limit.Limit.TheVariants as limit
use Rattle.chc_sorts.specs.Names.{has_name, look_up}
use Rattle.chc_elab.specs.declared.symbols.Symbol.{Symbol}
use Rattle.chc_elab.specs.declared.symbols.Symbol.TheVariants as symbol
use Rattle.chc_state.specs.declared.clause.PredDecl.{PredDecl}
use Rattle.chc_state.specs.Limits.{live_count, first_true}
use Rattle.chc_script.specs.Drafts.{PredicatesView, ArePredicates, symbols_from, symbols_of, declaration, with_predicate, passed_by_predicate}
use Rattle.chc_script.proofs.TakenNames.{has_row}

no_length : {X : Type 0} (x : X) (xs : List X) → 0 ≡ length (x ∷ xs) → ⊥
no_length x xs h = omega (arith, h)

-- the names of the rows
row_names : (n : ℕ) (names : List (List ℕ)) (decls : List PredDecl) → length names ≡ length decls → map (λ (row : List ℕ × Symbol). row.0) (symbols_from n names decls) ≡ names
row_names n [] decls h = refl
row_names n (name ∷ names) [] h = absurd (no_length name names (sym h))
row_names n (name ∷ names) (d ∷ decls) h = ap (λ l. name ∷ l) (row_names (n + 1) names decls (omega (arith, h)))

-- a predicate is found exactly where it has the name
pub found_where_named : (p : PredicatesView) (name : List ℕ) → length p.names ≡ length p.decls → is_some (look_up (symbols_of p) name) ≡ has_name p.names name
found_where_named p name h = has_row (symbols_of p) name ∙ ap (λ l. has_name l name) (row_names 0 p.names p.decls h)

-- one more predicate stands last
rows_more : (n : ℕ) (names : List (List ℕ)) (decls : List PredDecl) (name : List ℕ) (d : PredDecl) → length names ≡ length decls
    → symbols_from n (names ++ name ∷ []) (decls ++ d ∷ []) ≡ symbols_from n names decls ++ (name, symbol.Pred (n + length decls) d.sorts) ∷ []
rows_more n [] [] name d h = let e : n + 0 ≡ n = omega arith in ap (λ k. (name, symbol.Pred k d.sorts) ∷ []) (sym e)
rows_more n [] (e ∷ decls) name d h = absurd (no_length e decls h)
rows_more n (x ∷ names) [] name d h = absurd (no_length x names (sym h))
rows_more n (x ∷ names) (e ∷ decls) name d h =
    let moved : (n + 1) + length decls ≡ n + length (e ∷ decls) = omega arith in
    ap (λ l. (x, symbol.Pred n e.sorts) ∷ l)
    (rows_more (n + 1) names decls name d (omega (arith, h))
    ∙ ap (λ k. symbols_from (n + 1) names decls ++ (name, symbol.Pred k d.sorts) ∷ []) moved)

pub symbols_more : (names : List (List ℕ)) (decls : List PredDecl) (name : List ℕ) (d : PredDecl) → length names ≡ length decls
    → symbols_from 0 (names ++ name ∷ []) (decls ++ d ∷ []) ≡ symbols_from 0 names decls ++ (name, symbol.Pred (length decls) d.sorts) ∷ []
symbols_more names decls name d h =
    rows_more 0 names decls name d h ∙ ap (λ k. symbols_from 0 names decls ++ (name, symbol.Pred k d.sorts) ∷ []) zero_more
  where
    zero_more : 0 + length decls ≡ length decls
    zero_more = omega arith

-- one that isn't found
pub absent : {X : Type 0} (o : Option X) (b : Bool) → is_some o ≡ b → b ≡ false → o ≡ None
absent None b h e = refl
absent (Some x) b h e = absurd (false≢true (sym e ∙ sym h))

-- all of live predicates are counted
pub all_counted : {X : Type 0} (p : X → Bool) (xs : List X) → list_all p xs ≡ true → count_by p xs ≡ length xs
all_counted p [] h = refl
all_counted p (x ∷ xs) h =
    let parts = and_parts (p x) (list_all p xs) h in
    sum_by-cons (λ y. cond (p y) 1 0) x xs ∙ ap (λ b. cond b 1 0 + count_by p xs) parts.0 ∙ ap (λ n. 1 + n) (all_counted p xs parts.1) ∙ one_more (length xs)
  where
    one_more : (n : ℕ) → 1 + n ≡ suc n
    one_more n = omega arith

-- one more that passes, and one more that doesn't
pub all_more : {X : Type 0} (p : X → Bool) (xs : List X) (x : X) → list_all p xs ≡ true → p x ≡ true → list_all p (xs ++ x ∷ []) ≡ true
all_more p [] x h e = ap (λ b. b && true) e
all_more p (y ∷ xs) x h e =
    let parts = and_parts (p y) (list_all p xs) h in
    ap (λ b. b && list_all p (xs ++ x ∷ [])) parts.0 ∙ all_more p xs x parts.1 e

pub none_more : {X : Type 0} (p : X → Bool) (xs : List X) (x : X) → list_any p xs ≡ false → p x ≡ false → list_any p (xs ++ x ∷ []) ≡ false
none_more p xs x h e = list_any-append p xs (x ∷ []) ∙ ap (λ b. b || (p x || false)) h ∙ ap (λ b. b || false) e

-- a reference is found where a value is
pub copied_found : {X : Type 0} (o : Option (Bor X)) → is_some o ≡ is_some (option_copied o)
copied_found None = refl
copied_found (Some x) = refl

module _ (p : PredicatesView) (symbols : List (List ℕ × Symbol)) (kept : ArePredicates p symbols) where
  -- what is found by name
  pub found : (name : List ℕ) → is_some (look_up symbols name) ≡ has_name p.names name
  found name = ap (λ rows. is_some (look_up rows name)) kept.tabled ∙ found_where_named p name kept.same

  pub none_found : (name : List ℕ) → has_name p.names name ≡ false → look_up symbols name ≡ None
  none_found name e = absent (look_up symbols name) (has_name p.names name) (found name) e

  -- all are counted
  pub count_of_all : live_count p.decls ≡ length p.decls
  count_of_all = all_counted (λ (d : PredDecl). d.live) p.decls kept.live

  -- one more is counted
  counted_more : (sorts : List Sort) → live_count (p.decls ++ declaration sorts ∷ []) ≡ length p.decls + 1
  counted_more sorts =
      all_counted (λ (d : PredDecl). d.live) (p.decls ++ declaration sorts ∷ []) (all_more (λ (d : PredDecl). d.live) p.decls (declaration sorts) kept.live refl)
      ∙ length-append p.decls (declaration sorts ∷ [])

  -- the limit that one more passes where there are as many as may be
  pub passed_where_full : (sorts : List Sort) → length sorts ≤ 1024 → 65536 ≤ length p.decls → Some limit.L7 ≡ passed_by_predicate p.decls sorts
  passed_where_full sorts short full =
      let over : 65536 < live_count (p.decls ++ declaration sorts ∷ []) = omega (arith, full, counted_more sorts) in
      sym (second_passed (nat_lt 1024 (length sorts)) (nat_lt 65536 (live_count (p.decls ++ declaration sorts ∷ []))) (le-ltb 1024 (length sorts) short) (lt-ltb 65536 _ over))
    where
      second_passed : (a b : Bool) → a ≡ false → b ≡ true → first_true ((a, limit.L8) ∷ (b, limit.L7) ∷ []) ≡ Some limit.L7
      second_passed a b d e = ap (λ x. cond x (Some limit.L8) (cond b (Some limit.L7) None)) d ∙ ap (λ x. cond x (Some limit.L7) None) e

  -- what is kept with one more
  pub predicates_more : (name : List ℕ) (sorts : List Sort) → length sorts ≤ 1024 → length p.decls < 65536
      → ArePredicates (with_predicate p name sorts) (symbols ++ (name, symbol.Pred (length p.decls) sorts) ∷ [])
  predicates_more name sorts short few = record {
    same = omega (arith, kept.same, length-append p.names (name ∷ []), length-append p.decls (declaration sorts ∷ []));
    few = omega (arith, few, length-append p.decls (declaration sorts ∷ []));
    live = all_more (λ (d : PredDecl). d.live) p.decls (declaration sorts) kept.live refl;
    short = none_more (λ (d : PredDecl). nat_lt 1024 (length d.sorts)) p.decls (declaration sorts) kept.short (le-ltb 1024 (length sorts) short);
    tabled =
        ap (λ rows. rows ++ (name, symbol.Pred (length p.decls) sorts) ∷ []) kept.tabled
        ∙ sym (symbols_more p.names p.decls name (declaration sorts) kept.same);
  }

-- what is kept of predicates is kept of equal ones
pub kept_of_equal : (p : PredicatesView) (rows : List (List ℕ × Symbol)) (names : List (List ℕ)) (decls : List PredDecl) (symbols : List (List ℕ × Symbol))
    → names ≡ p.names → decls ≡ p.decls → symbols ≡ rows → ArePredicates p rows → ArePredicates (record { names = names; decls = decls }) symbols
kept_of_equal p rows names decls symbols e f g kept = subst (λ (q : PredicatesView × List (List ℕ × Symbol)). ArePredicates q.0 q.1) joined kept
  where
    joined : ◌≡◌ {A = PredicatesView × List (List ℕ × Symbol)} (p, rows) (record { names = names; decls = decls }, symbols)
    joined i = (record { names = sym e i; decls = sym f i }, sym g i)
