-- What is read is well sorted.
use Rattle.std.proofs.Common.{◌≡◌, ◌∙◌, ◌-◌, ◌+◌, sym, ap, subst, refl, arith, ℕ, neg_ℤ, Bool, true, ◌&&◌, cond, nat_lt, get_or, List, [], ◌∷◌, ◌++◌, length, map, Option, Some, None, Ok, slice_get, append_assoc, option_and_then}
use Rattle.std.specs.Prelude.{IsTrue}
use Rattle.std.specs.List.{All, AllByRecursion, list_all}
use Rattle.std.proofs.lemmas.List.{append-nil, length-append}
use Rattle.std.proofs.lemmas.List.Elements.{All-append, All-cons, All-nil}
use Rattle.chc_sorts.specs.declared.sort.Sort.{Sort}
use Rattle.chc_sorts.specs.declared.sort.Sort.TheVariants as sort
use Rattle.chc_sorts.specs.declared.op.Op.TheVariants as op
use Rattle.chc_sorts.specs.Names.{look_up}
use Rattle.chc_sorts.specs.Signature.{Signature}
use Rattle.chc_sorts.specs.Sorts.{sort_fits, sort_depth, same_sorts}
use Rattle.chc_sorts.proofs.SameSort.{both_true, test_from_same}
use Rattle.chc_sexpr.specs.declared.tree.Tree.{Tree}
use Rattle.chc_terms.specs.declared.fun_sort.FunSort.{FunSort}
use Rattle.chc_terms.specs.declared.term.Kind.{Kind}
use Rattle.chc_terms.specs.declared.term.Term.{Term}
use Rattle.chc_terms.specs.declared.term.Term.TheVariants as term
use Rattle.chc_terms.specs.Shifted.{shifted}
use Rattle.chc_terms.specs.Sorted.{Context, sort_of, is_declared, are_declared, quantifier_sort, declared_quantifier_sort, fields_of, element_of, when, truth_at, result_at}
use Rattle.chc_terms.proofs.ForOthers.{shift_keeps_sort}
use Rattle.chc_terms.proofs.SortLaws.{sort_of-Var, sort_of-Num, sort_of-Lit, sort_of-App, sort_of-Pred, sort_of-Quant, sort_of-Call}
use Rattle.chc_terms.proofs.SortTests.{fits_declared}
use Rattle.chc_elab.specs.declared.symbols.Symbol.{Symbol}
use Rattle.chc_elab.specs.declared.symbols.Symbol.TheVariants as symbol
use Rattle.chc_elab.specs.declared.typed.Typed.{Typed}
use Rattle.chc_elab.specs.declared.head.Head.{Head}
use Rattle.chc_elab.specs.Sites.{Local, Site, Setting, ◌>>>◌, moved_under}
use Rattle.chc_elab.specs.Heads.{sort_tree}
use Rattle.chc_elab.specs.Building.{head_takes, head_sort}
use Rattle.chc_elab.specs.Binders.{locals_of, sorts_of_trees, variables_from, with_terms, with_variables, outer_site}
use Rattle.chc_elab.specs.Stands.{Stands, StandAll, IsRead, IsWithin, AreFew, Applies, IsHead, IsOfSort, Names}
use Rattle.chc_elab.specs.Stands as stands
use Rattle.chc_elab.specs.WellRead.{Declares}
use Rattle.chc_elab.proofs.FormSorts.{Sorted, EachSorted, IsThere, HeadIsThere, head_sorted}
use Rattle.chc_elab.proofs.LoneSymbols.{HoldsAlone, lone_holds}
use Rattle.chc_elab.proofs.Readings.{ok_same, bind_ok}
use Rattle.chc_elab.proofs.SpelledSorts.{spelled_fits, element_fits}

-- the sorts that trees spell all fit
pub all_spelled_fit : (setting : Setting) (ts : List Tree) (sorts : List Sort) → sorts_of_trees setting ts ≡ Ok sorts → list_all (sort_fits setting.sig) sorts ≡ true
all_spelled_fit setting [] sorts e = ap (list_all (sort_fits setting.sig)) (sym (ok_same [] sorts e))
all_spelled_fit setting (t ∷ ts) sorts e =
    let (s, first, others) = bind_ok (sort_tree setting t) (λ s. sorts_of_trees setting ts >>> (λ rest. Ok (s ∷ rest))) sorts e in
    let (rest, more, same) = bind_ok (sorts_of_trees setting ts) (λ rest. Ok (s ∷ rest)) sorts others in
    ap (list_all (sort_fits setting.sig)) (sym (ok_same (s ∷ rest) sorts same))
    ∙ (λ i. spelled_fits setting t s first i && all_spelled_fit setting ts rest more i)

-- the last of the values
last_there : (done : List Sort) (s : Sort) → slice_get (done ++ s ∷ []) (length done) ≡ Some s
last_there [] s = refl
last_there (x ∷ done) s = last_there done s

module _ (cx : Context) where
  -- a local's term is well sorted under the first of these variables
  record LocalSorted (vars : List Sort) (l : Local) : Type 0 where
    before : List Sort
    new : List Sort
    all : vars ≡ before ++ new
    under : length before ≡ l.under
    sorted : sort_of cx l.value.term before ≡ Some l.value.sort

  record SiteSorted (vars : List Sort) (site : Site) : Type 0 where
    variables : length vars ≡ site.variables
    locals : All (LocalSorted vars) site.locals

  moved_sorted : (vars : List Sort) (variables : ℕ) (l : Local) → length vars ≡ variables → LocalSorted vars l → Sorted cx vars (moved_under variables l).term l.value.sort
  moved_sorted vars variables l many h =
      let up = variables - l.under in
      let long = ap (λ (ss : List Sort). length ss) h.all ∙ length-append h.before h.new in
      let under = h.under in
      let as_many : length h.new ≡ up = omega arith in
      ap (sort_of cx (shifted l.value.term l.under up)) (h.all ∙ sym (append-nil (h.before ++ h.new)))
      ∙ shift_keeps_sort cx l.value.term l.under up h.before h.new [] h.under as_many
      ∙ ap (sort_of cx l.value.term) (append-nil h.before)
      ∙ h.sorted

  -- under more variables
  longer : (vars sorts : List Sort) (l : Local) → LocalSorted vars l → LocalSorted (vars ++ sorts) l
  longer vars sorts l h = record {
    before = h.before;
    new = h.new ++ sorts;
    all = ap (λ ss. ss ++ sorts) h.all ∙ append_assoc h.before h.new sorts;
    under = h.under;
    sorted = h.sorted;
  }

  all_longer : (vars sorts : List Sort) (ls : List Local) → All (LocalSorted vars) ls → All (LocalSorted (vars ++ sorts)) ls
  all_longer vars sorts ls h = λ i d lt. longer vars sorts (get_or ls i d) (h i d lt)

  terms_sorted : (vars : List Sort) (site : Site) (names : List (List ℕ)) (vs : List Typed) → length vars ≡ site.variables → EachSorted cx vars vs → All (LocalSorted vars) (locals_of site names vs)
  terms_sorted vars site [] vs many h = All-nil (LocalSorted vars)
  terms_sorted vars site (name ∷ names) [] many h = All-nil (LocalSorted vars)
  terms_sorted vars site (name ∷ names) (v ∷ vs) many h =
      let l : Local = record { name = name; value = v; under = site.variables } in
      All-cons (LocalSorted vars) l (locals_of site names vs)
      (record { before = vars; new = []; all = sym (append-nil vars); under = many; sorted = h.0 })
      (terms_sorted vars site names vs many h.1)

  variables_sorted : (vars done : List Sort) (n : ℕ) (names : List (List ℕ)) (sorts : List Sort) → vars ≡ done ++ sorts → length done ≡ n → All (LocalSorted vars) (variables_from n names sorts)
  variables_sorted vars done n [] sorts all here = All-nil (LocalSorted vars)
  variables_sorted vars done n (name ∷ names) [] all here = All-nil (LocalSorted vars)
  variables_sorted vars done n (name ∷ names) (s ∷ sorts) all here =
      let l : Local = record { name = name; value = record { term = term.Var n; sort = s }; under = n + 1 } in
      let both : vars ≡ (done ++ s ∷ []) ++ sorts = all ∙ sym (append_assoc done (s ∷ []) sorts) in
      let long = length-append done (s ∷ []) in
      let next : length (done ++ s ∷ []) ≡ n + 1 = omega arith in
      All-cons (LocalSorted vars) l (variables_from (n + 1) names sorts)
      (record {
        before = done ++ s ∷ [];
        new = sorts;
        all = both;
        under = next;
        sorted = sort_of-Var cx n (done ++ s ∷ []) ∙ ap (slice_get (done ++ s ∷ [])) (sym here) ∙ last_there done s;
      })
      (variables_sorted vars (done ++ s ∷ []) (n + 1) names sorts both next)

  with_terms_sorted : (vars : List Sort) (site : Site) (names : List (List ℕ)) (vs : List Typed) → SiteSorted vars site → EachSorted cx vars vs → SiteSorted vars (with_terms site names vs)
  with_terms_sorted vars site names vs h k = record {
    variables = h.variables;
    locals = All-append (LocalSorted vars) site.locals (locals_of site names vs) h.locals (terms_sorted vars site names vs h.variables k);
  }

  with_variables_sorted : (vars : List Sort) (site : Site) (names : List (List ℕ)) (sorts : List Sort) → SiteSorted vars site → SiteSorted (vars ++ sorts) (with_variables site names sorts)
  with_variables_sorted vars site names sorts h =
      let long = length-append vars sorts in
      let many = h.variables in
      record {
        variables = omega arith;
        locals =
            All-append (LocalSorted (vars ++ sorts)) site.locals (variables_from site.variables names sorts) (all_longer vars sorts site.locals h.locals)
            (variables_sorted (vars ++ sorts) vars site.variables names sorts refl h.variables);
      }

  outer_sorted : (names : List (List ℕ)) (sorts : List Sort) → SiteSorted sorts (outer_site names sorts)
  outer_sorted names sorts = with_variables_sorted [] (record { locals = []; variables = 0 }) names sorts (record { variables = refl; locals = All-nil (LocalSorted []) })

module _ (cx : Context) (setting : Setting) (declares : Declares cx setting) where
  there : (P : Signature → Type 0) → P setting.sig → P cx.sig
  there P h = subst P (sym declares.sig) h

  alone_sorted : (vars : List Sort) → HoldsAlone setting (λ (t : Typed). Sorted cx vars t.term t.sort)
  alone_sorted vars = record {
    literal = λ b. sort_of-Lit cx b vars;
    constructor = λ d c none. sort_of-App cx (op.Make d c) [] vars
        ∙ ap (option_and_then (λ fields. when (same_sorts [] fields) (sort.Data d))) (there (λ sig. fields_of sig d c ≡ Some []) none);
    predicate = λ name p sorts is none. sort_of-Pred cx p [] vars ∙ ap (truth_at []) (declares.preds name p sorts is ∙ ap (λ ss. Some ss) none);
    definition = λ name k f is none. sort_of-Call cx k [] vars ∙ ap (result_at []) (declares.defs name k f is) ∙ ap (λ ss. when (same_sorts [] ss) f.result) none;
  }

  -- the context has what heads name
  symbol_there : (vars : List Sort) (name : List ℕ) (y : Symbol) → look_up setting.symbols name ≡ Some y → IsThere cx vars y
  symbol_there vars name (symbol.Pred p sorts) is = declares.preds name p sorts is
  symbol_there vars name (symbol.Def k f) is = declares.defs name k f is

  name_there : (vars : List Sort) (name : List ℕ) (h : Head) → Names setting name h → HeadIsThere cx vars h
  name_there vars name h (stands.operator o is) = tt
  name_there vars name h (stands.constructor d c new is) = tt
  name_there vars name h (stands.selector d c i new is) = tt
  name_there vars name h (stands.declared y new unmet is) = symbol_there vars name y is
  name_there vars name h (stands.tester tested d c new unmet unsaid is made) = tt

  of_sort_there : (vars : List Sort) (name : List ℕ) (spelled : Tree) (h : Head) → IsOfSort setting name spelled h → HeadIsThere cx vars h
  of_sort_there vars name spelled h (stands.of_sort d c s is spells) = tt

  element_there : (spelled : Tree) (s a : Sort) → sort_tree setting spelled ≡ Ok s → element_of s ≡ Some a → is_declared cx.sig a ≡ true
  element_there spelled s a is element =
      let fits = element_fits setting.sig s a (spelled_fits setting spelled s is) element in
      there (λ sig. is_declared sig a ≡ true) (both_true (is_declared setting.sig a) (nat_lt (sort_depth a) 17) fits).0

  head_there : (vars : List Sort) (t : Tree) (h : Head) → IsHead setting t h → HeadIsThere cx vars h
  head_there vars t h (stands.named_head at name h' names) = name_there vars name h names
  head_there vars t h (stands.tester_head place at i j name d c is) = tt
  head_there vars t h (stands.divisible_head place at i j n is) = tt
  head_there vars t h (stands.constant_head place at i spelled s array is) = λ a element. element_there spelled s a is element
  head_there vars t h (stands.of_sort_head place at i name spelled h' other made) = of_sort_there vars name spelled h made

  applied_sorted : (vars : List Sort) (h : Head) (vs : List Typed) (v : Typed) → HeadIsThere cx vars h → EachSorted cx vars vs → Applies setting.sig h vs v → Sorted cx vars v.term v.sort
  applied_sorted vars h vs v known each applies =
      ap (λ t. sort_of cx t vars) applies.term
      ∙ head_sorted cx vars h vs v.sort known each
      (there (λ sig. IsTrue (head_takes sig h (length vs))) applies.takes)
      (there (λ sig. head_sort sig h (map (λ (a : Typed). a.sort) vs) ≡ Some v.sort) applies.sorted)

  quantified_sorted : (vars : List Sort) (k : Kind) (seconds : List Tree) (s : Sort) (sorts : List Sort) (u : Typed) → sorts_of_trees setting seconds ≡ Ok (s ∷ sorts) → u.sort ≡ sort.Bool
      → Sorted cx (vars ++ s ∷ sorts) u.term u.sort → Sorted cx vars (term.Quant k (s ∷ sorts) u.term) sort.Bool
  quantified_sorted vars k seconds s sorts u spelled truth h =
      let fits = all_spelled_fit setting seconds (s ∷ sorts) spelled in
      let declared = there (λ sig. are_declared sig (s ∷ sorts) ≡ true) (fits_declared setting.sig (s ∷ sorts) fits) in
      sort_of-Quant cx k (s ∷ sorts) u.term vars
      ∙ (λ i. cond (declared i) (quantifier_sort (s ∷ sorts) (h i)) None)
      ∙ ap (λ b. when b sort.Bool) (test_from_same u.sort sort.Bool truth)

  mutual
    sorted_reads : (site : Site) (t : Tree) (v : Typed) → Stands setting IsWithin AreFew site t v → (vars : List Sort) → SiteSorted cx vars site → Sorted cx vars v.term v.sort
    sorted_reads site t v (stands.numeral site' place n) vars at = sort_of-Num cx n vars
    sorted_reads site t v (stands.negative site' place i j minus n is above) vars at = sort_of-Num cx (neg_ℤ n) vars
    sorted_reads site t v (stands.lone site' place name v' is) vars at =
        lone_holds setting (λ (t : Typed). Sorted cx vars t.term t.sort) (alone_sorted vars) site
        (λ i d lt. moved_sorted cx vars site.variables (get_or site.locals i d) at.variables (at.locals i d lt)) name v is
    sorted_reads site t v (stands.application site' place first args h vs v' is other each small applies within) vars at =
        applied_sorted vars h vs v (head_there vars first h is) (all_sorted_reads site args vs each vars at) applies
    sorted_reads site t v (stands.qualified site' place i j name spelled h v' made applies within) vars at =
        applied_sorted vars h [] v (of_sort_there vars name spelled h made) tt applies
    sorted_reads site t v (stands.let_names site' place i pairs body names seconds vs v' bound each is) vars at =
        sorted_reads (with_terms site names vs) body v is vars (with_terms_sorted cx vars site names vs at (all_sorted_reads site seconds vs each vars at))
    sorted_reads site t v (stands.annotated site' place i body attributes v' is) vars at = sorted_reads site body v is vars at
    sorted_reads site t v (stands.quantifier site' place i k pairs body names seconds s sorts u bound spelled is truth within) vars at =
        quantified_sorted vars k seconds s sorts u spelled truth
        (sorted_reads (with_variables site names (s ∷ sorts)) body u is (vars ++ s ∷ sorts) (with_variables_sorted cx vars site names (s ∷ sorts) at))
    sorted_reads site t v (stands.unquantified site' place i j k body v' is) vars at = sorted_reads site body v is vars at

    all_sorted_reads : (site : Site) (ts : List Tree) (vs : List Typed) → StandAll setting IsWithin AreFew site ts vs → (vars : List Sort) → SiteSorted cx vars site → EachSorted cx vars vs
    all_sorted_reads site ts vs (stands.no_tree site') vars at = tt
    all_sorted_reads site ts vs (stands.tree_before site' first trees v values is each) vars at =
        (sorted_reads site first v is vars at, all_sorted_reads site trees values each vars at)

  -- a term that is read under variables of these sorts has its sort
  pub read_sorted : (names : List (List ℕ)) (sorts : List Sort) (t : Tree) (v : Typed) → IsRead setting (outer_site names sorts) t v → sort_of cx v.term sorts ≡ Some v.sort
  read_sorted names sorts t v h = sorted_reads (outer_site names sorts) t v h sorts (outer_sorted cx names sorts)
