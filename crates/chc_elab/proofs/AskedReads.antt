-- What is read is within the limits, and meets what is asked of it where the tree and the names do.
use Rattle.std.proofs.Common.{◌≡◌, ◌∙◌, ◌-◌, ◌+◌, ◌≤◌, sym, ap, subst, refl, arith, ℕ, ℤ, pos, neg_ℤ, Bool, true, ◌&&◌, List, [], ◌∷◌, ◌++◌, get_or, map, Option, Some, Ok, codes}
use Rattle.std.specs.List.{All, AllByRecursion, list_all}
use Rattle.std.proofs.lemmas.List.Elements.{All-append, All-cons, All-nil}
use Rattle.chc_sorts.specs.declared.sort.Sort.{Sort}
use Rattle.chc_sorts.specs.declared.sort.Sort.TheVariants as sort
use Rattle.chc_sorts.specs.declared.op.Op.TheVariants as op
use Rattle.chc_sorts.specs.Names.{look_up}
use Rattle.chc_sexpr.specs.declared.tree.Tree.{Tree}
use Rattle.chc_sexpr.specs.declared.tree.Tree.TheVariants as tree
use Rattle.chc_terms.specs.declared.fun_sort.FunSort.{FunSort}
use Rattle.chc_terms.specs.declared.term.Term.{Term}
use Rattle.chc_terms.specs.declared.term.Term.TheVariants as term
use Rattle.chc_terms.specs.Counts.{size, depth}
use Rattle.chc_terms.specs.Shifted.{shifted}
use Rattle.chc_terms.specs.Sorted.{element_of}
use Rattle.chc_terms.proofs.CountLaws.{size-Var, size-Num, size-Lit, size-App, size-Pred, size-Call, depth-Var, depth-Num, depth-Lit, depth-App, depth-Pred, depth-Call}
use Rattle.chc_terms.proofs.ForOthers.{shift_keeps_counts}
use Rattle.chc_elab.specs.declared.symbols.Symbol.{Symbol}
use Rattle.chc_elab.specs.declared.symbols.Symbol.TheVariants as symbol
use Rattle.chc_elab.specs.declared.typed.Typed.{Typed}
use Rattle.chc_elab.specs.declared.head.Head.{Head}
use Rattle.chc_elab.specs.Limits.{most_nodes, most_levels}
use Rattle.chc_elab.specs.Sites.{Local, Site, Setting, ◌>>>◌, moved_under}
use Rattle.chc_elab.specs.Heads.{sort_tree}
use Rattle.chc_elab.specs.Binders.{locals_of, sorts_of_trees, variables_from, with_terms, with_variables, outer_site}
use Rattle.chc_elab.specs.Reads.{number}
use Rattle.chc_elab.specs.Stands.{Stands, StandAll, IsRead, IsWithin, AreFew, Applies, IsHead, IsOfSort, Names, Pairs, Binds, kind_word}
use Rattle.chc_elab.specs.Stands as stands
use Rattle.chc_elab.proofs.ArgumentLaws.{terms_of}
use Rattle.chc_elab.proofs.Asked.{Asks, every, Holds, AllHold, SymbolAsked, HeadAsked, var_holds, num_holds, lit_holds, app_holds, pred_holds, quant_holds, call_holds, shifted_same, head_holds}
use Rattle.chc_elab.proofs.LoneSymbols.{HoldsAlone, lone_holds, literal_value, constructor_value, predicate_value, definition_value}
use Rattle.chc_elab.proofs.Readings.{ok_same, bind_ok}

-- the trees for which something is asked of a reading, and why it meets that
pub record Meets (a : Asks) (setting : Setting) (From : Tree → Type 0) : Type 0 where
  pub zero_asked : a.number (pos 0) ≡ true
  pub numeral : (place : ℕ) (n : ℤ) → From (tree.Numeral place n) → a.number n ≡ true
  pub minus : (n : ℤ) → a.number n ≡ true → a.number (neg_ℤ n) ≡ true
  pub group : (place : ℕ) (ts : List Tree) → From (tree.Group place ts) → AllByRecursion From ts
  pub bound : (t : Tree) (s : Sort) → sort_tree setting t ≡ Ok s → a.bound s ≡ true
  pub element : (t : Tree) (s e : Sort) → sort_tree setting t ≡ Ok s → element_of s ≡ Some e → a.element e ≡ true
  pub call : (name : List ℕ) (k : ℕ) (f : FunSort) → look_up setting.symbols name ≡ Some (symbol.Def k f) → a.call k ≡ true

module _ (a : Asks) (setting : Setting) (From : Tree → Type 0) (meets : Meets a setting From) where
  -- within the limits, and as is asked
  pub record IsFine (v : Typed) : Type 0 where
    pub within : IsWithin v
    pub holds : Holds a v.term

  abbrev AllFine : List Typed → Type 0
  AllFine vs = AllByRecursion IsFine vs

  abbrev LocalsFine : List Local → Type 0
  LocalsFine ls = All (λ (l : Local). IsFine l.value) ls

  terms_hold : (vs : List Typed) → AllFine vs → AllHold a (terms_of vs)
  terms_hold [] h = tt
  terms_hold (v ∷ vs) h = (h.0.holds, terms_hold vs h.1)

  number_fine : (n : ℤ) → a.number n ≡ true → IsFine (number n)
  number_fine n h = let nodes = size-Num n in let levels = depth-Num n in record { within = (omega arith, omega arith); holds = num_holds a n h }

  variable_fine : (n : ℕ) (s : Sort) → IsFine (record { term = term.Var n; sort = s })
  variable_fine n s = let nodes = size-Var n in let levels = depth-Var n in record { within = (omega arith, omega arith); holds = var_holds a n }

  moved_fine : (variables : ℕ) (l : Local) → IsFine l.value → IsFine (moved_under variables l)
  moved_fine variables l h =
      let counts = shift_keeps_counts l.value.term l.under (variables - l.under) in
      let nodes = h.within.0 in
      let levels = h.within.1 in
      record { within = (omega (arith, counts.0), omega (arith, counts.1)); holds = shifted_same a l.under (variables - l.under) l.value.term ∙ h.holds }

  alone_fine : HoldsAlone setting IsFine
  alone_fine = record {
    literal = λ b. let nodes = size-Lit b in let levels = depth-Lit b in record { within = (omega arith, omega arith); holds = lit_holds a b };
    constructor = λ d c none.
        let nodes = size-App (op.Make d c) [] in
        let levels = depth-App (op.Make d c) [] in
        record { within = (omega arith, omega arith); holds = app_holds a (op.Make d c) [] refl tt };
    predicate = λ name p sorts is none.
        let nodes = size-Pred p [] in
        let levels = depth-Pred p [] in
        record { within = (omega arith, omega arith); holds = pred_holds a p [] tt };
    definition = λ name k f is none.
        let nodes = size-Call k [] in
        let levels = depth-Call k [] in
        record { within = (omega arith, omega arith); holds = call_holds a k [] (meets.call name k f is) tt };
  }

  terms_fine : (site : Site) (names : List (List ℕ)) (vs : List Typed) → AllFine vs → LocalsFine (locals_of site names vs)
  terms_fine site [] vs h = All-nil (λ (l : Local). IsFine l.value)
  terms_fine site (name ∷ names) [] h = All-nil (λ (l : Local). IsFine l.value)
  terms_fine site (name ∷ names) (v ∷ vs) h =
      All-cons (λ (l : Local). IsFine l.value) (record { name = name; value = v; under = site.variables }) (locals_of site names vs) h.0 (terms_fine site names vs h.1)

  variables_fine : (n : ℕ) (names : List (List ℕ)) (sorts : List Sort) → LocalsFine (variables_from n names sorts)
  variables_fine n [] sorts = All-nil (λ (l : Local). IsFine l.value)
  variables_fine n (name ∷ names) [] = All-nil (λ (l : Local). IsFine l.value)
  variables_fine n (name ∷ names) (s ∷ sorts) =
      All-cons (λ (l : Local). IsFine l.value) (record { name = name; value = record { term = term.Var n; sort = s }; under = n + 1 }) (variables_from (n + 1) names sorts)
      (variable_fine n s) (variables_fine (n + 1) names sorts)

  with_terms_fine : (site : Site) (names : List (List ℕ)) (vs : List Typed) → LocalsFine site.locals → AllFine vs → LocalsFine (with_terms site names vs).locals
  with_terms_fine site names vs h k = All-append (λ (l : Local). IsFine l.value) site.locals (locals_of site names vs) h (terms_fine site names vs k)

  with_variables_fine : (site : Site) (names : List (List ℕ)) (sorts : List Sort) → LocalsFine site.locals → LocalsFine (with_variables site names sorts).locals
  with_variables_fine site names sorts h =
      All-append (λ (l : Local). IsFine l.value) site.locals (variables_from site.variables names sorts) h (variables_fine site.variables names sorts)

  -- heads
  symbol_asked : (name : List ℕ) (y : Symbol) → look_up setting.symbols name ≡ Some y → SymbolAsked a meets.zero_asked y
  symbol_asked name (symbol.Pred p sorts) is = tt
  symbol_asked name (symbol.Def k f) is = meets.call name k f is

  name_asked : (name : List ℕ) (h : Head) → Names setting name h → HeadAsked a meets.zero_asked h
  name_asked name h (stands.operator o is) = tt
  name_asked name h (stands.constructor d c new is) = tt
  name_asked name h (stands.selector d c i new is) = tt
  name_asked name h (stands.declared y new unmet is) = symbol_asked name y is
  name_asked name h (stands.tester tested d c new unmet unsaid is made) = tt

  of_sort_asked : (name : List ℕ) (spelled : Tree) (h : Head) → IsOfSort setting name spelled h → HeadAsked a meets.zero_asked h
  of_sort_asked name spelled h (stands.of_sort d c s is spells) = tt

  head_asked : (t : Tree) (h : Head) → IsHead setting t h → From t → HeadAsked a meets.zero_asked h
  head_asked t h (stands.named_head at name h' names) from = name_asked name h names
  head_asked t h (stands.tester_head place at i j name d c is) from = tt
  head_asked t h (stands.divisible_head place at i j n is) from =
      let parts = meets.group place (tree.Word at (codes "_") ∷ tree.Symbol i (codes "divisible") ∷ tree.Numeral j (pos n) ∷ []) from in
      meets.numeral j (pos n) parts.1.1.0
  head_asked t h (stands.constant_head place at i spelled s array is) from = λ e element. meets.element spelled s e is element
  head_asked t h (stands.of_sort_head place at i name spelled h' other made) from = of_sort_asked name spelled h made

  applied_fine : (h : Head) (vs : List Typed) (v : Typed) → HeadAsked a meets.zero_asked h → AllFine vs → Applies setting.sig h vs v → IsWithin v → IsFine v
  applied_fine h vs v asked each applies within = record {
    within = within;
    holds = ap (every a) applies.term ∙ head_holds a meets.zero_asked h (terms_of vs) asked (terms_hold vs each);
  }

  -- the trees of pairs
  seconds_from : (pairs : List Tree) (names : List (List ℕ)) (seconds : List Tree) → Pairs pairs names seconds → AllByRecursion From pairs → AllByRecursion From seconds
  seconds_from pairs names seconds stands.no_pair from = tt
  seconds_from pairs names seconds (stands.pair_before place at name t pairs' names' seconds' rest) from =
      let parts = meets.group place (tree.Symbol at name ∷ t ∷ []) from.0 in (parts.1.0, seconds_from pairs' names' seconds' rest from.1)

  bound_from : (t : Tree) (names : List (List ℕ)) (seconds : List Tree) → Binds t names seconds → From t → AllByRecursion From seconds
  bound_from t names seconds (stands.binds place pairs names' seconds' each apart) from = seconds_from pairs names seconds each (meets.group place pairs from)

  all_bound : (ts : List Tree) (sorts : List Sort) → sorts_of_trees setting ts ≡ Ok sorts → list_all a.bound sorts ≡ true
  all_bound [] sorts e = ap (list_all a.bound) (sym (ok_same [] sorts e))
  all_bound (t ∷ ts) sorts e =
      let (s, first, others) = bind_ok (sort_tree setting t) (λ s. sorts_of_trees setting ts >>> (λ rest. Ok (s ∷ rest))) sorts e in
      let (rest, more, same) = bind_ok (sorts_of_trees setting ts) (λ rest. Ok (s ∷ rest)) sorts others in
      ap (list_all a.bound) (sym (ok_same (s ∷ rest) sorts same)) ∙ (λ i. meets.bound t s first i && all_bound ts rest more i)

  mutual
    fine : (site : Site) (t : Tree) (v : Typed) → Stands setting IsWithin AreFew site t v → LocalsFine site.locals → From t → IsFine v
    fine site t v (stands.numeral site' place n) at from = number_fine n (meets.numeral place n from)
    fine site t v (stands.negative site' place i j minus n is above) at from =
        let parts = meets.group place (tree.Symbol i minus ∷ tree.Numeral j n ∷ []) from in
        number_fine (neg_ℤ n) (meets.minus n (meets.numeral j n parts.1.0))
    fine site t v (stands.lone site' place name v' is) at from =
        lone_holds setting IsFine alone_fine site (λ i d lt. moved_fine site.variables (get_or site.locals i d) (at i d lt)) name v is
    fine site t v (stands.application site' place first args h vs v' is other each small applies within) at from =
        let parts = meets.group place (first ∷ args) from in
        applied_fine h vs v (head_asked first h is parts.0) (all_fine site args vs each at parts.1) applies within
    fine site t v (stands.qualified site' place i j name spelled h v' made applies within) at from = applied_fine h [] v (of_sort_asked name spelled h made) tt applies within
    fine site t v (stands.let_names site' place i pairs body names seconds vs v' bound each is) at from =
        let parts = meets.group place (tree.Word i (codes "let") ∷ pairs ∷ body ∷ []) from in
        let values = all_fine site seconds vs each at (bound_from pairs names seconds bound parts.1.0) in
        fine (with_terms site names vs) body v is (with_terms_fine site names vs at values) parts.1.1.0
    fine site t v (stands.annotated site' place i body attributes v' is) at from =
        let parts = meets.group place (tree.Word i (codes "!") ∷ body ∷ attributes) from in
        fine site body v is at parts.1.0
    fine site t v (stands.quantifier site' place i k pairs body names seconds s sorts u bound spelled is truth within) at from =
        let parts = meets.group place (tree.Word i (kind_word k) ∷ pairs ∷ body ∷ []) from in
        let inner = fine (with_variables site names (s ∷ sorts)) body u is (with_variables_fine site names (s ∷ sorts) at) parts.1.1.0 in
        record { within = within; holds = quant_holds a k (s ∷ sorts) u.term (all_bound seconds (s ∷ sorts) spelled) inner.holds }
    fine site t v (stands.unquantified site' place i j k body v' is) at from =
        let parts = meets.group place (tree.Word i (kind_word k) ∷ tree.Group j [] ∷ body ∷ []) from in
        fine site body v is at parts.1.1.0

    all_fine : (site : Site) (ts : List Tree) (vs : List Typed) → StandAll setting IsWithin AreFew site ts vs → LocalsFine site.locals → AllByRecursion From ts → AllFine vs
    all_fine site ts vs (stands.no_tree site') at from = tt
    all_fine site ts vs (stands.tree_before site' first trees v values is each) at from = (fine site first v is at from.0, all_fine site trees values each at from.1)

  -- what is read under variables
  pub read_fine : (names : List (List ℕ)) (sorts : List Sort) (t : Tree) (v : Typed) → IsRead setting (outer_site names sorts) t v → From t → IsFine v
  read_fine names sorts t v h from = fine (outer_site names sorts) t v h (with_variables_fine (record { locals = []; variables = 0 }) names sorts (All-nil (λ (l : Local). IsFine l.value))) from
