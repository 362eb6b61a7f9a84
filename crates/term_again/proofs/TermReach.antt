-- Terms that name the first datatypes of a signature alone have their sorts by these.
use Rattle.std.proofs.Common.{◌≡◌, ◌∙◌, sym, ap, refl, ℕ, ℤ, zero, suc, ◌+◌, ◌≤◌, ◌<◌, max, Bool, true, false, ◌&&◌, nat_lt, cond, List, [], ◌∷◌, ◌++◌, length, map, Option, Some, None, slice_get, option_map, option_and_then, arith}
use Rattle.std.specs.Prelude.{is_some}
use Rattle.std.specs.List.{list_all, AllByRecursion}
use Rattle.std.proofs.lemmas.Bool.{and_parts, and_from, lt-ltb}
use Rattle.chc_sorts.specs.declared.data.Data.{Data}
use Rattle.chc_sorts.specs.declared.data.Ctor.{Ctor}
use Rattle.chc_sorts.specs.declared.data.Field.{Field}
use Rattle.chc_sorts.specs.declared.sort.Sort.{Sort, Sort-F, fold-roll-Sort}
use Rattle.chc_sorts.specs.declared.sort.Sort.TheVariants as sort
use Rattle.chc_sorts.specs.declared.op.Op.{Op}
use Rattle.chc_sorts.specs.declared.op.Op.TheVariants as op
use Rattle.chc_sorts.specs.Signature.{Signature}
use Rattle.chc_sorts.specs.Sorts.{same_sorts, sort_depth, sort_fits}
use Rattle.chc_sorts.proofs.SameSort.{sort_ind}
use Rattle.chc_terms.specs.declared.term.Term.{Term, Term-F, fold-roll-Term}
use Rattle.chc_terms.specs.declared.term.Kind.{Kind}
use Rattle.chc_terms.specs.declared.term.Term.TheVariants.{Var, Num, Lit, App, Pred, Quant, Call, rolls-Var, rolls-Num, rolls-Lit, rolls-App, rolls-Pred, rolls-Quant, rolls-Call}
use Rattle.chc_terms.specs.Sorted.{Context, sort_of, sorts_of, op_sort, op_fits, fields_of, is_declared, are_declared, when, truth_at, result_at, quantifier_sort, declared_quantifier_sort, sorts_fit}
use Rattle.chc_terms.proofs.Induction.{term_ind}
use Rattle.chc_terms.proofs.SortLaws.{sort_of-Var, sort_of-Num, sort_of-Lit, sort_of-App, sort_of-Pred, sort_of-Quant, sort_of-Call, sorts_fit-Var, sorts_fit-Num, sorts_fit-Lit, sorts_fit-App, sorts_fit-Pred, sorts_fit-Quant, sorts_fit-Call}
use Rattle.chc_terms.proofs.SortTests.{is_declared-Bool, is_declared-Int, is_declared-Data, is_declared-Array}
use Rattle.chc_print.specs.Reach.{sort_reach_step, sort_reach, sorts_reach, op_reach, term_reach_step, term_reach, terms_reach}
use Rattle.term_again.specs.Terms.{CanBeWritten, CanAllBeWritten}
use Rattle.term_again.proofs.TermHeads.{led_on}
use Rattle.term_again.proofs.TermOptions.{both_some}

front_is : {A : Type 0} (xs ys : List A) (i : ℕ) → i < length xs → slice_get (xs ++ ys) i ≡ slice_get xs i
front_is [] ys i low = absurd (omega arith)
front_is (x ∷ xs) ys zero low = refl
front_is (x ∷ xs) ys (suc i) low = front_is xs ys i (omega arith)

pub reach-Bool : sort_reach sort.Bool ≡ 0
reach-Bool = ap sort_reach (sym sort.rolls-Bool) ∙ fold-roll-Sort ℕ sort_reach_step Sort-F.Bool

pub reach-Int : sort_reach sort.Int ≡ 0
reach-Int = ap sort_reach (sym sort.rolls-Int) ∙ fold-roll-Sort ℕ sort_reach_step Sort-F.Int

pub reach-Data : (d : ℕ) → sort_reach (sort.Data d) ≡ d + 1
reach-Data d = ap sort_reach (sym (sort.rolls-Data d)) ∙ fold-roll-Sort ℕ sort_reach_step (Sort-F.Data d)

pub reach-Array : (s : Sort) → sort_reach (sort.Array s) ≡ sort_reach s
reach-Array s = ap sort_reach (sym (sort.rolls-Array s)) ∙ fold-roll-Sort ℕ sort_reach_step (Sort-F.Array s)

pub reach-Var : (i : ℕ) → term_reach (Var i) ≡ 0
reach-Var i = ap term_reach (sym (rolls-Var i)) ∙ fold-roll-Term ℕ term_reach_step (Term-F.Var i)

pub reach-Num : (n : ℤ) → term_reach (Num n) ≡ 0
reach-Num n = ap term_reach (sym (rolls-Num n)) ∙ fold-roll-Term ℕ term_reach_step (Term-F.Num n)

pub reach-Lit : (b : Bool) → term_reach (Lit b) ≡ 0
reach-Lit b = ap term_reach (sym (rolls-Lit b)) ∙ fold-roll-Term ℕ term_reach_step (Term-F.Lit b)

pub reach-App : (o : Op) (ts : List Term) → term_reach (App o ts) ≡ max (op_reach o) (terms_reach ts)
reach-App o ts = ap term_reach (sym (rolls-App o ts)) ∙ fold-roll-Term ℕ term_reach_step (Term-F.App o ts)

pub reach-Pred : (p : ℕ) (ts : List Term) → term_reach (Pred p ts) ≡ terms_reach ts
reach-Pred p ts = ap term_reach (sym (rolls-Pred p ts)) ∙ fold-roll-Term ℕ term_reach_step (Term-F.Pred p ts)

pub reach-Quant : (k : Kind) (sorts : List Sort) (t : Term) → term_reach (Quant k sorts t) ≡ max (sorts_reach sorts) (term_reach t)
reach-Quant k sorts t = ap term_reach (sym (rolls-Quant k sorts t)) ∙ fold-roll-Term ℕ term_reach_step (Term-F.Quant k sorts t)

pub reach-Call : (k : ℕ) (ts : List Term) → term_reach (Call k ts) ≡ terms_reach ts
reach-Call k ts = ap term_reach (sym (rolls-Call k ts)) ∙ fold-roll-Term ℕ term_reach_step (Term-F.Call k ts)

module _ (written read : Signature) (more : List Data) (front : written.datatypes ≡ read.datatypes ++ more) where
  -- ---- sorts

  abbrev StaysDeclared : Sort → Type 0
  StaysDeclared s = sort_reach s ≤ length read.datatypes → is_declared written s ≡ true → is_declared read s ≡ true

  pub declared_front : (s : Sort) → StaysDeclared s
  declared_front = sort_ind StaysDeclared (record {
    of_bool = λ low h. is_declared-Bool read;
    of_int = λ low h. is_declared-Int read;
    of_data = λ d low h. is_declared-Data read d ∙ lt-ltb d (length read.datatypes) (let is = reach-Data d in omega arith);
    of_array = λ s ih low h. is_declared-Array read s ∙ ih (let is = reach-Array s in omega arith) (sym (is_declared-Array written s) ∙ h);
  })

  -- a sort that fits and names the first datatypes alone fits these
  pub sort_fits_front : (s : Sort) → sort_reach s ≤ length read.datatypes → sort_fits written s ≡ true → sort_fits read s ≡ true
  sort_fits_front s low h =
      let parts = and_parts (is_declared written s) (nat_lt (sort_depth s) 17) h in
      ap (λ b. b && nat_lt (sort_depth s) 17) (declared_front s low parts.0) ∙ parts.1

  fields_front : (d c : ℕ) → d < length read.datatypes → fields_of written d c ≡ fields_of read d c
  fields_front d c low =
      ap (λ o. option_and_then (λ (t : Data). option_map (λ (k : Ctor). map (λ (f : Field). f.sort) k.fields) (slice_get t.ctors c)) o)
      (ap (λ ds. slice_get ds d) front ∙ front_is read.datatypes more d low)

  -- ---- operators

  const_front : (element : Sort) (ss : List Sort) (s : Sort) → sort_reach element ≤ length read.datatypes → op_sort written (op.Const element) ss ≡ Some s → op_sort read (op.Const element) ss ≡ Some s
  const_front element ss s low h = by (is_declared written element) refl h
    where
      by : (b : Bool) → is_declared written element ≡ b → when (b && same_sorts ss (element ∷ [])) (sort.Array element) ≡ Some s → op_sort read (op.Const element) ss ≡ Some s
      by true e h = ap (λ b. when (b && same_sorts ss (element ∷ [])) (sort.Array element)) (declared_front element low e) ∙ h
      by false e h = cc

  make_front : (d c : ℕ) (ss : List Sort) → d < length read.datatypes → op_sort read (op.Make d c) ss ≡ op_sort written (op.Make d c) ss
  make_front d c ss low = ap (option_and_then (λ fields. when (same_sorts ss fields) (sort.Data d))) (sym (fields_front d c low))

  get_front : (d c i : ℕ) (ss : List Sort) → d < length read.datatypes → op_sort read (op.Get d c i) ss ≡ op_sort written (op.Get d c i) ss
  get_front d c i ss low =
      ap (option_and_then (λ (fields : List Sort). option_and_then (λ (s : Sort). when (same_sorts ss (sort.Data d ∷ [])) s) (slice_get fields i))) (sym (fields_front d c low))

  is_front : (d c : ℕ) (ss : List Sort) → d < length read.datatypes → op_sort read (op.Is d c) ss ≡ op_sort written (op.Is d c) ss
  is_front d c ss low = ap (λ o. when (is_some o && same_sorts ss (sort.Data d ∷ [])) sort.Bool) (sym (fields_front d c low))

  op_front : (o : Op) (ss : List Sort) (s : Sort) → op_reach o ≤ length read.datatypes → op_sort written o ss ≡ Some s → op_sort read o ss ≡ Some s
  op_front (op.Const element) ss s low h = const_front element ss s low h
  op_front (op.Make d c) ss s low h = make_front d c ss (omega arith) ∙ h
  op_front (op.Get d c i) ss s low h = get_front d c i ss (omega arith) ∙ h
  op_front (op.Is d c) ss s low h = is_front d c ss (omega arith) ∙ h
  op_front op.Not ss s low h = h
  op_front op.And ss s low h = h
  op_front op.Or ss s low h = h
  op_front op.Eq ss s low h = h
  op_front op.Ite ss s low h = h
  op_front op.Add ss s low h = h
  op_front op.Sub ss s low h = h
  op_front op.Mul ss s low h = h
  op_front op.Div ss s low h = h
  op_front op.Mod ss s low h = h
  op_front op.Le ss s low h = h
  op_front op.Lt ss s low h = h
  op_front op.Select ss s low h = h
  op_front op.Store ss s low h = h

  fits_front : (o : Op) → op_reach o ≤ length read.datatypes → op_fits written o ≡ true → op_fits read o ≡ true
  fits_front (op.Const element) low h = sort_fits_front (sort.Array element) (let is = reach-Array element in omega arith) h
  fits_front (op.Make d c) low h = refl
  fits_front (op.Get d c i) low h = refl
  fits_front (op.Is d c) low h = refl
  fits_front op.Not low h = refl
  fits_front op.And low h = refl
  fits_front op.Or low h = refl
  fits_front op.Eq low h = refl
  fits_front op.Ite low h = refl
  fits_front op.Add low h = refl
  fits_front op.Sub low h = refl
  fits_front op.Mul low h = refl
  fits_front op.Div low h = refl
  fits_front op.Mod low h = refl
  fits_front op.Le low h = refl
  fits_front op.Lt low h = refl
  fits_front op.Select low h = refl
  fits_front op.Store low h = refl

  -- sorts that fit and name the first datatypes alone fit these
  pub sorts_fit_front : (ss : List Sort) → sorts_reach ss ≤ length read.datatypes → list_all (sort_fits written) ss ≡ true → list_all (sort_fits read) ss ≡ true
  sorts_fit_front [] low h = refl
  sorts_fit_front (s ∷ ss) low h =
      let parts = and_parts (sort_fits written s) (list_all (sort_fits written) ss) h in
      and_from (sort_fits read s) (list_all (sort_fits read) ss) (sort_fits_front s (omega (arith, low)) parts.0) (sorts_fit_front ss (omega (arith, low)) parts.1)

  -- and so do sorts that are declared
  pub all_declared_front : (ss : List Sort) → sorts_reach ss ≤ length read.datatypes → are_declared written ss ≡ true → are_declared read ss ≡ true
  all_declared_front [] low h = refl
  all_declared_front (s ∷ ss) low h =
      let parts = and_parts (is_declared written s) (are_declared written ss) h in
      and_from (is_declared read s) (are_declared read ss) (declared_front s (omega (arith, low)) parts.0) (all_declared_front ss (omega (arith, low)) parts.1)

  -- a quantifier that has a sort has it by the first datatypes, where its body does
  quantifier_front : (ss : List Sort) (body over : Option Sort) (s : Sort) → sorts_reach ss ≤ length read.datatypes → ((t : Sort) → body ≡ Some t → over ≡ Some t)
      → declared_quantifier_sort written ss body ≡ Some s → declared_quantifier_sort read ss over ≡ Some s
  quantifier_front ss body over s low stays h =
      let first = declared_first (are_declared written ss) (quantifier_sort ss body) h in
      ap (λ b. cond b (quantifier_sort ss over) None) (all_declared_front ss low first.0) ∙ same_body ss body refl first.1
    where
      declared_first : (b : Bool) (o : Option Sort) → cond b o None ≡ Some s → (b ≡ true) × (o ≡ Some s)
      declared_first true o h = (refl, h)
      declared_first false o h = cc

      same_body : (ss : List Sort) (given : Option Sort) → body ≡ given → quantifier_sort ss given ≡ Some s → quantifier_sort ss over ≡ Some s
      same_body [] given e h = h
      same_body (x ∷ ss) None e h = cc
      same_body (x ∷ ss) (Some t) e h = ap (quantifier_sort (x ∷ ss)) (stays t e) ∙ h

-- the context over another signature
abbrev pub over : Signature → Context → Context
over read cx = record { sig = read; preds = cx.preds; defs = cx.defs }

module _ (cx : Context) (read : Signature) (more : List Data) (front : cx.sig.datatypes ≡ read.datatypes ++ more) where
  abbrev StaysSorted : Term → Type 0
  StaysSorted t =
      term_reach t ≤ length read.datatypes
      → ((vars : List Sort) (s : Sort) → sort_of cx t vars ≡ Some s → sort_of (over read cx) t vars ≡ Some s)
      × (sorts_fit cx.sig t ≡ true → sorts_fit read t ≡ true)

  var_front : (i : ℕ) → StaysSorted (Var i)
  var_front i low = (
    (λ vars s h. sort_of-Var (over read cx) i vars ∙ sym (sort_of-Var cx i vars) ∙ h),
    (λ h. sorts_fit-Var read i),
  )

  num_front : (n : ℤ) → StaysSorted (Num n)
  num_front n low = (
    (λ vars s h. sort_of-Num (over read cx) n vars ∙ sym (sort_of-Num cx n vars) ∙ h),
    (λ h. sorts_fit-Num read n),
  )

  lit_front : (b : Bool) → StaysSorted (Lit b)
  lit_front b low = (
    (λ vars s h. sort_of-Lit (over read cx) b vars ∙ sym (sort_of-Lit cx b vars) ∙ h),
    (λ h. sorts_fit-Lit read b),
  )

  all_sorted : (ts : List Term) → AllByRecursion StaysSorted ts → terms_reach ts ≤ length read.datatypes
      → (vars ss : List Sort) → sorts_of cx ts vars ≡ Some ss → sorts_of (over read cx) ts vars ≡ Some ss
  all_sorted [] ih low vars ss h = h
  all_sorted (t ∷ ts) ih low vars ss h =
      let found = both_some (sort_of cx t vars) (sorts_of cx ts vars) ss h in
      (λ j. option_and_then (λ s. option_map (λ (ss : List Sort). s ∷ ss) (all_sorted ts ih.1 (omega arith) vars found.1 found.3 j)) ((ih.0 (omega arith)).0 vars found.0 found.2 j))
      ∙ ap (λ (all : List Sort). Some all) found.4

  all_fit : (ts : List Term) → AllByRecursion StaysSorted ts → terms_reach ts ≤ length read.datatypes
      → list_all (λ b. b) (map (sorts_fit cx.sig) ts) ≡ true → list_all (λ b. b) (map (sorts_fit read) ts) ≡ true
  all_fit [] ih low h = refl
  all_fit (t ∷ ts) ih low h =
      let fits = and_parts (sorts_fit cx.sig t) (list_all (λ b. b) (map (sorts_fit cx.sig) ts)) h in
      and_from (sorts_fit read t) (list_all (λ b. b) (map (sorts_fit read) ts)) ((ih.0 (omega arith)).1 fits.0) (all_fit ts ih.1 (omega arith) fits.1)

  app_front : (o : Op) (ts : List Term) → AllByRecursion StaysSorted ts → StaysSorted (App o ts)
  app_front o ts ih low =
      let reach = reach-App o ts in (
        (λ vars s h.
            let found = led_on (op_sort cx.sig o) (sorts_of cx ts vars) s (sym (sort_of-App cx o ts vars) ∙ h) in
            sort_of-App (over read cx) o ts vars
            ∙ ap (option_and_then (op_sort read o)) (all_sorted ts ih (omega arith) vars found.0 found.1)
            ∙ op_front cx.sig read more front o found.0 s (omega arith) found.2),
        (λ h.
            let parts = and_parts (op_fits cx.sig o) (list_all (λ b. b) (map (sorts_fit cx.sig) ts)) (sym (sorts_fit-App cx.sig o ts) ∙ h) in
            sorts_fit-App read o ts ∙ and_from (op_fits read o) (list_all (λ b. b) (map (sorts_fit read) ts)) (fits_front cx.sig read more front o (omega arith) parts.0) (all_fit ts ih (omega arith) parts.1)),
      )

  pred_front : (p : ℕ) (ts : List Term) → AllByRecursion StaysSorted ts → StaysSorted (Pred p ts)
  pred_front p ts ih low =
      let reach = reach-Pred p ts in (
        (λ vars s h.
            let found = led_on (λ sorts. truth_at sorts (slice_get cx.preds p)) (sorts_of cx ts vars) s (sym (sort_of-Pred cx p ts vars) ∙ h) in
            sort_of-Pred (over read cx) p ts vars ∙ ap (option_and_then (λ sorts. truth_at sorts (slice_get cx.preds p))) (all_sorted ts ih (omega arith) vars found.0 found.1) ∙ found.2),
        (λ h. sorts_fit-Pred read p ts ∙ all_fit ts ih (omega arith) (sym (sorts_fit-Pred cx.sig p ts) ∙ h)),
      )

  call_front : (k : ℕ) (ts : List Term) → AllByRecursion StaysSorted ts → StaysSorted (Call k ts)
  call_front k ts ih low =
      let reach = reach-Call k ts in (
        (λ vars s h.
            let found = led_on (λ sorts. result_at sorts (slice_get cx.defs k)) (sorts_of cx ts vars) s (sym (sort_of-Call cx k ts vars) ∙ h) in
            sort_of-Call (over read cx) k ts vars ∙ ap (option_and_then (λ sorts. result_at sorts (slice_get cx.defs k))) (all_sorted ts ih (omega arith) vars found.0 found.1) ∙ found.2),
        (λ h. sorts_fit-Call read k ts ∙ all_fit ts ih (omega arith) (sym (sorts_fit-Call cx.sig k ts) ∙ h)),
      )

  quant_front : (k : Kind) (sorts : List Sort) (t : Term) → StaysSorted t → StaysSorted (Quant k sorts t)
  quant_front k sorts t ih low =
      let reach = reach-Quant k sorts t in
      let inner = ih (omega arith) in (
        (λ vars s h.
            sort_of-Quant (over read cx) k sorts t vars
            ∙ quantifier_front cx.sig read more front sorts (sort_of cx t (vars ++ sorts)) (sort_of (over read cx) t (vars ++ sorts)) s (omega arith) (inner.0 (vars ++ sorts)) (sym (sort_of-Quant cx k sorts t vars) ∙ h)),
        (λ h.
            let parts = and_parts (list_all (sort_fits cx.sig) sorts) (sorts_fit cx.sig t) (sym (sorts_fit-Quant cx.sig k sorts t) ∙ h) in
            sorts_fit-Quant read k sorts t ∙ and_from (list_all (sort_fits read) sorts) (sorts_fit read t) (sorts_fit_front cx.sig read more front sorts (omega arith) parts.0) (inner.1 parts.1)),
      )

  term_front : (t : Term) → StaysSorted t
  term_front = term_ind StaysSorted (record {
    of_var = var_front;
    of_num = num_front;
    of_lit = lit_front;
    of_app = app_front;
    of_pred = pred_front;
    of_quant = quant_front;
    of_call = call_front;
  })

  every_front : (ts : List Term) → AllByRecursion StaysSorted ts
  every_front [] = tt
  every_front (t ∷ ts) = (term_front t, every_front ts)

  -- a term that can be written over a signature can be written over its first datatypes, where it names these alone
  pub can_be_written_front : (vars : List Sort) (t : Term) (s : Sort) → term_reach t ≤ length read.datatypes → CanBeWritten cx vars t s → CanBeWritten (over read cx) vars t s
  can_be_written_front vars t s low can =
      let stays = term_front t low in
      record { sorted = stays.0 vars s can.sorted; fitting = stays.1 can.fitting; numbers = can.numbers }

  fitting_front : (ts : List Term) → terms_reach ts ≤ length read.datatypes → list_all (sorts_fit cx.sig) ts ≡ true → list_all (sorts_fit read) ts ≡ true
  fitting_front [] low h = refl
  fitting_front (t ∷ ts) low h =
      let fits = and_parts (sorts_fit cx.sig t) (list_all (sorts_fit cx.sig) ts) h in
      and_from (sorts_fit read t) (list_all (sorts_fit read) ts) ((term_front t (omega arith)).1 fits.0) (fitting_front ts (omega arith) fits.1)

  -- and so can such terms
  pub can_all_be_written_front : (vars : List Sort) (ts : List Term) (ss : List Sort) → terms_reach ts ≤ length read.datatypes → CanAllBeWritten cx vars ts ss → CanAllBeWritten (over read cx) vars ts ss
  can_all_be_written_front vars ts ss low can =
      record { sorted = all_sorted ts (every_front ts) low vars ss can.sorted; fitting = fitting_front ts low can.fitting; numbers = can.numbers }
