-- Terms are written as trees that stand for them.
use Rattle.std.proofs.Common.{◌≡◌, ◌∙◌, sym, ap, refl, subst, ℕ, ◌+◌, ◌≤◌, ◌^◌, ℤ, Bool, true, false, List, [], ◌∷◌, ◌++◌, length, map, Option, Some, None, slice_get, arith}
use Rattle.std.specs.List.{list_all, AllByRecursion}
use Rattle.std.proofs.lemmas.Bool.{and_parts}
use Rattle.std.proofs.lemmas.List.{length-append}
use Rattle.chc_sorts.specs.declared.sort.Sort.{Sort}
use Rattle.chc_sorts.specs.declared.sort.Sort.TheVariants as sort
use Rattle.chc_sorts.specs.declared.op.Op.{Op}
use Rattle.chc_sorts.specs.Signature.{Signature}
use Rattle.chc_sorts.specs.Sorts.{sort_fits}
use Rattle.chc_sexpr.specs.Symbols.{symbol_text}
use Rattle.chc_sexpr.specs.Writing.{spaced}
use Rattle.chc_sexpr.specs.declared.tree.Tree.{Tree}
use Rattle.chc_sexpr.proofs.Written.{TreesAt, Writes, no_more_at, next_at}
use Rattle.chc_terms.specs.declared.fun_sort.FunSort.{FunSort}
use Rattle.chc_terms.specs.declared.term.Kind.{Kind}
use Rattle.chc_terms.specs.declared.term.Term.{Term}
use Rattle.chc_terms.specs.declared.term.Term.TheVariants.{Var, Num, Lit, App, Pred, Quant, Call}
use Rattle.chc_terms.specs.Counts.{depth, depth_all, greatest}
use Rattle.chc_terms.specs.Numbers.{numbers_fit}
use Rattle.chc_terms.specs.Sorted.{Context, sort_of, sorts_of, op_sort, op_fits, truth_at, result_at, sorts_fit}
use Rattle.chc_terms.proofs.CountLaws.{depth-App, depth-Pred, depth-Quant, depth-Call}
use Rattle.chc_terms.proofs.Induction.{term_ind}
use Rattle.chc_terms.proofs.NumberLaws.{numbers_fit-Num, numbers_fit-App, numbers_fit-Pred, numbers_fit-Quant, numbers_fit-Call}
use Rattle.chc_terms.proofs.SortLaws.{sort_of-Var, sort_of-Num, sort_of-Lit, sort_of-App, sort_of-Pred, sort_of-Quant, sort_of-Call, sorts_fit-App, sorts_fit-Pred, sorts_fit-Quant, sorts_fit-Call}
use Rattle.chc_print.specs.Prefix.{marked}
use Rattle.chc_print.specs.Texts.{Names, name_at, applied, number_text, truth_text, op_text, variable_text, quantified, term_text, term_texts}
use Rattle.chc_elab.specs.declared.typed.Typed.{Typed}
use Rattle.chc_elab.specs.declared.symbols.Symbol.{Symbol}
use Rattle.chc_elab.specs.declared.symbols.Symbol.TheVariants as symbol
use Rattle.chc_elab.specs.Building.{declared_sort, declared_term}
use Rattle.chc_elab.specs.Sites.{Setting}
use Rattle.chc_elab.specs.Stands.{StandAll}
use Rattle.term_again.specs.Bound.{most_bound}
use Rattle.term_again.specs.Naming.{NamesAreRead, NamesSymbol, NamesPredicate, NamesCall, numbered_site}
use Rattle.term_again.specs.Terms.{CanBeWritten, CanAllBeWritten}
use Rattle.term_again.proofs.TermBinders.{quantified_written}
use Rattle.term_again.proofs.TermCounts.{some_depth}
use Rattle.term_again.proofs.TermHeads.{led_on}
use Rattle.term_again.proofs.TermLaws.{text-Var, text-Num, text-Lit, text-App, text-Pred, text-Quant, text-Call, bound-App, bound-Pred, bound-Quant, bound-Call}
use Rattle.term_again.proofs.TermLeaves.{var_writes, lit_writes, number_writes}
use Rattle.term_again.proofs.TermLimits.{AreLimits}
use Rattle.term_again.proofs.TermOperators.{operator_alone_written, operator_written}
use Rattle.term_again.proofs.TermOptions.{some_same, both_some, all_mapped}
use Rattle.term_again.proofs.TermQuantifiers.{quantified_body}
use Rattle.term_again.proofs.TermSymbols.{alone_written, on_arguments_written}
use Rattle.term_again.proofs.TermTrees.{writes_wider, text_writes, spaced_parted}
use Rattle.term_again.proofs.TermTyped.{Reads, ReadAll, one_more_read}

-- each predicate and definition of the context stands under the name that the text has for it
pub record AreCalled (names : Names) (setting : Setting) (cx : Context) : Type 0 where
  pub predicate : (p : ℕ) (sorts : List Sort) → slice_get cx.preds p ≡ Some sorts → NamesPredicate setting names.prefix p sorts (name_at names.preds p)
  pub definition : (k : ℕ) (f : FunSort) → slice_get cx.defs k ≡ Some f → NamesCall setting names.prefix k f (name_at names.calls k)

-- what is there, where it takes these sorts
taken : {A : Type 0} (f : List Sort → Option A → Option Sort) → ((ss : List Sort) → f ss None ≡ None) → (o : Option A) (ss : List Sort) (s : Sort) → f ss o ≡ Some s → (a : A) × (o ≡ Some a)
taken f none None ss s h = absurd (nothing s (sym (none ss) ∙ h))
  where
    nothing : (s : Sort) → ◌≡◌ {A = Option Sort} None (Some s) → ⊥
    nothing s e = cc
taken f none (Some a) ss s h = (a, refl)

module _ (names : Names) (setting : Setting) (cx : Context) (same : cx.sig ≡ setting.sig) (marks : ℕ) (form : names.prefix ≡ marked marks)
    (read : NamesAreRead names.sig setting.sig names.prefix) (called : AreCalled names setting cx)
    (Fits : Typed → Type 0) (Few : List Typed → Type 0) (Allowed : Term → Type 0) (limits : AreLimits Fits Few Allowed) where
  -- the tree stands for the term of that sort under variables of these sorts
  abbrev pub Stood : List Sort → Term → Sort → Tree → Type 0
  Stood = Reads setting names.prefix Fits Few

  -- the trees stand for the terms of those sorts
  abbrev pub AllStood : List Sort → List Term → List Sort → List Tree → Type 0
  AllStood = ReadAll setting names.prefix Fits Few

  -- wherever the term can be written and is allowed, its text is a tree that stands for it, not much deeper than the term
  abbrev pub IsWritten : Term → Type 0
  IsWritten t =
      (vars : List Sort) (s : Sort) → CanBeWritten cx vars t s → Allowed t → length vars + most_bound t ≤ 2 ^ 64
      → Writes (Stood vars t s) (depth t + 17) (term_text names t (length vars))

  -- a text that is written as a tree that stands for a term of a sort is so for the term of the same sort
  of_sort : (vars : List Sort) (t : Term) (s of : Sort) (deep deeper : ℕ) (text same : List ℕ) → s ≡ of → deep ≤ deeper → text ≡ same → Writes (Stood vars t s) deep text → Writes (Stood vars t of) deeper same
  of_sort vars t s of deep deeper text same is low e writes =
      text_writes (Stood vars t of) deeper text same e
      (writes_wider (Stood vars t s) (Stood vars t of) deep deeper low (λ tree at. subst (λ (u : Sort). Stood vars t u tree) is at) text writes)

  -- ---- variables, numbers and truth values

  var_written : (i : ℕ) → IsWritten (Var i)
  var_written i vars s can allowed small =
      of_sort vars (Var i) s s 0 (depth (Var i) + 17) (variable_text names i) (term_text names (Var i) (length vars)) refl (omega arith) (sym (text-Var names i (length vars)))
      (var_writes names setting marks form Fits Few vars i s (sym (sort_of-Var cx i vars) ∙ can.sorted) (omega (arith, small)))

  num_written : (n : ℤ) → IsWritten (Num n)
  num_written n vars s can allowed small =
      of_sort vars (Num n) sort.Int s 1 (depth (Num n) + 17) (number_text n) (term_text names (Num n) (length vars))
      (some_same sort.Int s (sym (sort_of-Num cx n vars) ∙ can.sorted)) (omega arith) (sym (text-Num names n (length vars)))
      (number_writes names setting marks form Fits Few vars n (sym (numbers_fit-Num n) ∙ can.numbers))

  lit_written : (b : Bool) → IsWritten (Lit b)
  lit_written b vars s can allowed small =
      of_sort vars (Lit b) sort.Bool s 0 (depth (Lit b) + 17) (truth_text b) (term_text names (Lit b) (length vars))
      (some_same sort.Bool s (sym (sort_of-Lit cx b vars) ∙ can.sorted)) (omega arith) (sym (text-Lit names b (length vars)))
      (lit_writes names setting marks form Fits Few vars b)

  -- ---- arguments

  args_written : (ts : List Term) → AllByRecursion IsWritten ts → (vars ss : List Sort) (deep : ℕ) → depth_all ts + 17 ≤ deep
      → CanAllBeWritten cx vars ts ss → AllByRecursion Allowed ts → length vars + greatest (map most_bound ts) ≤ 2 ^ 64
      → (place : ℕ) → TreesAt (AllStood vars ts ss) deep false place (spaced (term_texts names (length vars) ts))
  args_written [] ih vars ss deep low can allowed small place =
      no_more_at (AllStood vars [] ss) deep false place [] refl (refl, [], StandAll.no_tree (numbered_site names.prefix vars), refl, some_same [] ss can.sorted)
  args_written (t ∷ ts) ih vars ss deep low can allowed small place =
      let found = both_some (sort_of cx t vars) (sorts_of cx ts vars) ss can.sorted in
      let fits = and_parts (sorts_fit cx.sig t) (list_all (sorts_fit cx.sig) ts) can.fitting in
      let ranges = and_parts (numbers_fit t) (list_all numbers_fit ts) can.numbers in
      let text : List ℕ = term_text names t (length vars) in
      let rest : List ℕ = spaced (term_texts names (length vars) ts) in
      let one : CanBeWritten cx vars t found.0 = record { sorted = found.2; fitting = fits.0; numbers = ranges.0 } in
      let others : CanAllBeWritten cx vars ts found.1 = record { sorted = found.3; fitting = fits.1; numbers = ranges.1 } in
      next_at (Stood vars t found.0) (AllStood vars ts found.1) (AllStood vars (t ∷ ts) ss) deep false place (32 ∷ []) text rest refl
      (writes_wider (Stood vars t found.0) (Stood vars t found.0) (depth t + 17) deep (omega arith) (λ tree is. is) text (ih.0 vars found.0 one allowed.0 (omega (arith, small)))
      (place + 1) rest (spaced_parted (term_texts names (length vars) ts)))
      (args_written ts ih.1 vars found.1 deep (omega arith) others allowed.1 (omega (arith, small)) (place + 1 + length text))
      (one_more_read setting names.prefix Fits Few vars t found.0 ts found.1 ss found.4)

  -- ---- operators

  app_written : (o : Op) (ts : List Term) → AllByRecursion IsWritten ts → IsWritten (App o ts)
  app_written o [] ih vars s can allowed small =
      let sorted : op_sort setting.sig o [] ≡ Some s = subst (λ (sig : Signature). op_sort sig o [] ≡ Some s) same (sym (sort_of-App cx o [] vars) ∙ can.sorted) in
      text_writes (Stood vars (App o []) s) (depth (App o []) + 17) (applied (op_text names.sig o) []) (term_text names (App o []) (length vars)) (sym (text-App names o [] (length vars)))
      (operator_alone_written names setting read Fits Few vars o s (depth (App o []) + 17) sorted (omega (arith, small)))
  app_written o (t ∷ more) ih vars s can allowed small =
      let ts : List Term = t ∷ more in
      let found = led_on (op_sort cx.sig o) (sorts_of cx ts vars) s (sym (sort_of-App cx o ts vars) ∙ can.sorted) in
      let sorted : op_sort setting.sig o found.0 ≡ Some s = subst (λ (sig : Signature). op_sort sig o found.0 ≡ Some s) same found.2 in
      let fits = and_parts (op_fits cx.sig o) (list_all (λ b. b) (map (sorts_fit cx.sig) ts)) (sym (sorts_fit-App cx.sig o ts) ∙ can.fitting) in
      let written : op_fits setting.sig o ≡ true = subst (λ (sig : Signature). op_fits sig o ≡ true) same fits.0 in
      let deep : ℕ = depth_all ts + 17 in
      let all : CanAllBeWritten cx vars ts found.0 = record {
        sorted = found.1;
        fitting = all_mapped (sorts_fit cx.sig) ts fits.1;
        numbers = all_mapped numbers_fit ts (sym (numbers_fit-App o ts) ∙ can.numbers);
      } in
      of_sort vars (App o ts) s s (deep + 1) (depth (App o ts) + 17) (applied (op_text names.sig o) (term_texts names (length vars) ts)) (term_text names (App o ts) (length vars)) refl
      (omega (arith, depth-App o ts)) (sym (text-App names o ts (length vars)))
      (operator_written names setting read Fits Few vars o ts found.0 s (term_text names t (length vars)) (term_texts names (length vars) more) deep (omega arith) sorted written (limits.fits (App o ts) s allowed)
      (λ values terms. limits.few o values (subst (λ (us : List Term). Allowed (App o us)) (sym terms) allowed))
      (args_written ts ih vars found.0 deep (omega arith) all (limits.parts o ts allowed) (omega (arith, small, bound-App o ts))))

  -- ---- predicates and definitions

  -- a declared name on terms of the sorts that it takes is written as a tree that stands for what it gives on them
  named_written : (what : Symbol) (name : List ℕ) → NamesSymbol setting names.prefix what name → (ts : List Term) → AllByRecursion IsWritten ts → (vars ss : List Sort) (s : Sort) → declared_sort what ss ≡ Some s
      → CanAllBeWritten cx vars ts ss → Allowed (declared_term what ts) → length vars + greatest (map most_bound ts) ≤ 2 ^ 64
      → Writes (Stood vars (declared_term what ts) s) (depth_all ts + 18) (applied (symbol_text name) (term_texts names (length vars) ts))
  named_written what name named [] ih vars ss s sorted can allowed small =
      let none : ss ≡ [] = sym (some_same [] ss can.sorted) in
      alone_written setting names.prefix Fits Few what name named vars s 18 (ap (declared_sort what) (sym none) ∙ sorted) (omega (arith, small))
  named_written what name named (t ∷ more) ih vars ss s sorted can allowed small =
      let ts : List Term = t ∷ more in
      let deep : ℕ = depth_all ts + 17 in
      of_sort vars (declared_term what ts) s s (deep + 1) (depth_all ts + 18) (applied (symbol_text name) (term_texts names (length vars) ts)) (applied (symbol_text name) (term_texts names (length vars) ts)) refl (omega arith) refl
      (on_arguments_written setting names.prefix Fits Few what name named vars ts ss s (term_text names t (length vars)) (term_texts names (length vars) more) deep sorted (limits.fits (declared_term what ts) s allowed)
      (λ values terms. limits.few_of_symbol what values (subst (λ (us : List Term). Allowed (declared_term what us)) (sym terms) allowed))
      (args_written ts ih vars ss deep (omega arith) can (limits.parts_of_symbol what ts allowed) small))

  pred_written : (p : ℕ) (ts : List Term) → AllByRecursion IsWritten ts → IsWritten (Pred p ts)
  pred_written p ts ih vars s can allowed small =
      let found = led_on (λ sorts. truth_at sorts (slice_get cx.preds p)) (sorts_of cx ts vars) s (sym (sort_of-Pred cx p ts vars) ∙ can.sorted) in
      let there = taken truth_at (λ ss. refl) (slice_get cx.preds p) found.0 s found.2 in
      let sorted : declared_sort (symbol.Pred p there.0) found.0 ≡ Some s = ap (truth_at found.0) (sym there.1) ∙ found.2 in
      let all : CanAllBeWritten cx vars ts found.0 = record {
        sorted = found.1;
        fitting = all_mapped (sorts_fit cx.sig) ts (sym (sorts_fit-Pred cx.sig p ts) ∙ can.fitting);
        numbers = all_mapped numbers_fit ts (sym (numbers_fit-Pred p ts) ∙ can.numbers);
      } in
      of_sort vars (Pred p ts) s s (depth_all ts + 18) (depth (Pred p ts) + 17) (applied (symbol_text (name_at names.preds p)) (term_texts names (length vars) ts)) (term_text names (Pred p ts) (length vars)) refl
      (omega (arith, depth-Pred p ts)) (sym (text-Pred names p ts (length vars)))
      (named_written (symbol.Pred p there.0) (name_at names.preds p) (called.predicate p there.0 there.1) ts ih vars found.0 s sorted all allowed (omega (arith, small, bound-Pred p ts)))

  call_written : (k : ℕ) (ts : List Term) → AllByRecursion IsWritten ts → IsWritten (Call k ts)
  call_written k ts ih vars s can allowed small =
      let found = led_on (λ sorts. result_at sorts (slice_get cx.defs k)) (sorts_of cx ts vars) s (sym (sort_of-Call cx k ts vars) ∙ can.sorted) in
      let there = taken result_at (λ ss. refl) (slice_get cx.defs k) found.0 s found.2 in
      let sorted : declared_sort (symbol.Def k there.0) found.0 ≡ Some s = ap (result_at found.0) (sym there.1) ∙ found.2 in
      let all : CanAllBeWritten cx vars ts found.0 = record {
        sorted = found.1;
        fitting = all_mapped (sorts_fit cx.sig) ts (sym (sorts_fit-Call cx.sig k ts) ∙ can.fitting);
        numbers = all_mapped numbers_fit ts (sym (numbers_fit-Call k ts) ∙ can.numbers);
      } in
      of_sort vars (Call k ts) s s (depth_all ts + 18) (depth (Call k ts) + 17) (applied (symbol_text (name_at names.calls k)) (term_texts names (length vars) ts)) (term_text names (Call k ts) (length vars)) refl
      (omega (arith, depth-Call k ts)) (sym (text-Call names k ts (length vars)))
      (named_written (symbol.Def k there.0) (name_at names.calls k) (called.definition k there.0 there.1) ts ih vars found.0 s sorted all allowed (omega (arith, small, bound-Call k ts)))

  -- ---- quantifiers

  quant_written : (k : Kind) (sorts : List Sort) (t : Term) → IsWritten t → IsWritten (Quant k sorts t)
  quant_written k [] t ih vars s can allowed small = absurd (no_sort s (sym (sort_of-Quant cx k [] t vars) ∙ can.sorted))
    where
      no_sort : (s : Sort) → ◌≡◌ {A = Option Sort} None (Some s) → ⊥
      no_sort s e = cc
  quant_written k (x ∷ others) t ih vars s can allowed small =
      let sorts : List Sort = x ∷ others in
      let body = quantified_body cx.sig sorts (sort_of cx t (vars ++ sorts)) s (sym (sort_of-Quant cx k sorts t vars) ∙ can.sorted) in
      let fits = and_parts (list_all (sort_fits cx.sig) sorts) (sorts_fit cx.sig t) (sym (sorts_fit-Quant cx.sig k sorts t) ∙ can.fitting) in
      let inner : CanBeWritten cx (vars ++ sorts) t sort.Bool = record { sorted = body.body; fitting = fits.1; numbers = sym (numbers_fit-Quant k sorts t) ∙ can.numbers } in
      let under : length (vars ++ sorts) ≡ length vars + length sorts = length-append vars sorts in
      let text : List ℕ = term_text names t (length vars + length sorts) in
      of_sort vars (Quant k sorts t) sort.Bool s (depth t + 17 + 1) (depth (Quant k sorts t) + 17) (quantified names k (length vars) sorts text) (term_text names (Quant k sorts t) (length vars)) body.whole
      (omega (arith, depth-Quant k sorts t)) (sym (text-Quant names k sorts t (length vars)))
      (quantified_written names setting marks form read Fits Few k vars x others t (depth t + 17) text (omega (arith, small, bound-Quant k sorts t))
      (subst (λ (sig : Signature). list_all (sort_fits sig) sorts ≡ true) same fits.0) (omega (arith, some_depth t)) (limits.fits (Quant k sorts t) sort.Bool allowed)
      (text_writes (Stood (vars ++ sorts) t sort.Bool) (depth t + 17) (term_text names t (length (vars ++ sorts))) text (ap (term_text names t) under)
      (ih (vars ++ sorts) sort.Bool inner (limits.part_of_quantifier k sorts t allowed) (omega (arith, small, under, bound-Quant k sorts t)))))

  -- ---- all terms

  -- a term that can be written is written as a tree that stands for it
  pub term_written : (t : Term) → IsWritten t
  term_written = term_ind IsWritten (record {
    of_var = var_written;
    of_num = num_written;
    of_lit = lit_written;
    of_app = app_written;
    of_pred = pred_written;
    of_quant = quant_written;
    of_call = call_written;
  })

  every_written : (ts : List Term) → AllByRecursion IsWritten ts
  every_written [] = tt
  every_written (t ∷ ts) = (term_written t, every_written ts)

  -- and so are such terms, with a space before each
  pub terms_written : (ts : List Term) (vars ss : List Sort) (deep : ℕ) → depth_all ts + 17 ≤ deep → CanAllBeWritten cx vars ts ss → AllByRecursion Allowed ts → length vars + greatest (map most_bound ts) ≤ 2 ^ 64
      → (place : ℕ) → TreesAt (AllStood vars ts ss) deep false place (spaced (term_texts names (length vars) ts))
  terms_written ts = args_written ts (every_written ts)

  -- and what a declared name gives on such terms
  pub symbol_written : (what : Symbol) (name : List ℕ) → NamesSymbol setting names.prefix what name → (ts : List Term) (vars ss : List Sort) (s : Sort) → declared_sort what ss ≡ Some s
      → CanAllBeWritten cx vars ts ss → Allowed (declared_term what ts) → length vars + greatest (map most_bound ts) ≤ 2 ^ 64
      → Writes (Stood vars (declared_term what ts) s) (depth_all ts + 18) (applied (symbol_text name) (term_texts names (length vars) ts))
  symbol_written what name named ts = named_written what name named ts (every_written ts)
