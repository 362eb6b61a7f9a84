-- What is asked of every node of a term, and holds of a term that is formed or moved where it holds of the parts.
use Rattle.std.proofs.Common.{◌≡◌, ◌∙◌, sym, ap, subst, refl, ℕ, ℤ, pos, Bool, true, false, ◌&&◌, List, [], ◌∷◌, ◌++◌, map, Option, Some, None}
use Rattle.std.specs.List.{AllByRecursion, list_all}
use Rattle.chc_sorts.specs.declared.sort.Sort.{Sort}
use Rattle.chc_sorts.specs.declared.op.Op.{Op}
use Rattle.chc_sorts.specs.declared.op.Op.TheVariants as op
use Rattle.chc_sorts.specs.declared.op_table.ReadOp.{ReadOp}
use Rattle.chc_sorts.specs.declared.op_table.ReadOp.TheVariants as read
use Rattle.chc_terms.specs.declared.term.Kind.{Kind}
use Rattle.chc_terms.specs.declared.term.Term.{Term, Term-F, fold-Term, fold-roll-Term}
use Rattle.chc_terms.specs.declared.term.Term.TheVariants.{Var, Num, Lit, App, Pred, Quant, Call, rolls-Var, rolls-Num, rolls-Lit, rolls-App, rolls-Pred, rolls-Quant, rolls-Call}
use Rattle.chc_terms.specs.Shifted.{moved, shifted, shifted_all}
use Rattle.chc_terms.specs.Sorted.{element_of}
use Rattle.chc_terms.proofs.Induction.{term_ind}
use Rattle.chc_terms.proofs.ShiftedLaws.{shifted-Var, shifted-Num, shifted-Lit, shifted-App, shifted-Pred, shifted-Quant, shifted-Call}
use Rattle.chc_elab.specs.declared.symbols.Symbol.{Symbol}
use Rattle.chc_elab.specs.declared.symbols.Symbol.TheVariants as symbol
use Rattle.chc_elab.specs.declared.head.Head.{Head}
use Rattle.chc_elab.specs.declared.head.Head.TheVariants as head
use Rattle.chc_elab.specs.Building.{pair, negated, differ, joined_from, joined_left, sole, neighbours, all_pairs, negated_before_last, opposite, difference, absolute, of_one, turned, operation, divisible, constant, declared_term, head_term}

-- what is asked of numbers, of the sorts of constant arrays' elements and of bound variables, and of calls
pub record Asks : Type 0 where
  pub number : ℤ → Bool
  pub element : Sort → Bool
  pub bound : Sort → Bool
  pub call : ℕ → Bool

abbrev pub asked_of_op : Asks → Op → Bool
asked_of_op a (op.Const s) = a.element s
asked_of_op a o = true

abbrev pub every_step : Asks → Term-F Bool → Bool
every_step a (Term-F.Var i) = true
every_step a (Term-F.Num n) = a.number n
every_step a (Term-F.Lit b) = true
every_step a (Term-F.App o parts) = asked_of_op a o && list_all (λ b. b) parts
every_step a (Term-F.Pred p parts) = list_all (λ b. b) parts
every_step a (Term-F.Quant k sorts part) = list_all a.bound sorts && part
every_step a (Term-F.Call k parts) = a.call k && list_all (λ b. b) parts

module _ (a : Asks) where
  -- whether it holds of every node
  abbrev pub every : Term → Bool
  every = fold-Term Bool (every_step a)

  abbrev pub Holds : Term → Type 0
  Holds t = every t ≡ true

  abbrev pub AllHold : List Term → Type 0
  AllHold ts = AllByRecursion Holds ts

  every-Var : (i : ℕ) → every (Var i) ≡ true
  every-Var i = ap every (sym (rolls-Var i)) ∙ fold-roll-Term Bool (every_step a) (Term-F.Var i)

  every-Num : (n : ℤ) → every (Num n) ≡ a.number n
  every-Num n = ap every (sym (rolls-Num n)) ∙ fold-roll-Term Bool (every_step a) (Term-F.Num n)

  every-Lit : (b : Bool) → every (Lit b) ≡ true
  every-Lit b = ap every (sym (rolls-Lit b)) ∙ fold-roll-Term Bool (every_step a) (Term-F.Lit b)

  every-App : (o : Op) (ts : List Term) → every (App o ts) ≡ (asked_of_op a o && list_all (λ b. b) (map every ts))
  every-App o ts = ap every (sym (rolls-App o ts)) ∙ fold-roll-Term Bool (every_step a) (Term-F.App o ts)

  every-Pred : (p : ℕ) (ts : List Term) → every (Pred p ts) ≡ list_all (λ b. b) (map every ts)
  every-Pred p ts = ap every (sym (rolls-Pred p ts)) ∙ fold-roll-Term Bool (every_step a) (Term-F.Pred p ts)

  every-Quant : (k : Kind) (sorts : List Sort) (t : Term) → every (Quant k sorts t) ≡ (list_all a.bound sorts && every t)
  every-Quant k sorts t = ap every (sym (rolls-Quant k sorts t)) ∙ fold-roll-Term Bool (every_step a) (Term-F.Quant k sorts t)

  every-Call : (k : ℕ) (ts : List Term) → every (Call k ts) ≡ (a.call k && list_all (λ b. b) (map every ts))
  every-Call k ts = ap every (sym (rolls-Call k ts)) ∙ fold-roll-Term Bool (every_step a) (Term-F.Call k ts)

  all_true : (ts : List Term) → AllHold ts → list_all (λ b. b) (map every ts) ≡ true
  all_true [] h = refl
  all_true (t ∷ ts) h = λ i. h.0 i && all_true ts h.1 i

  pub var_holds : (i : ℕ) → Holds (Var i)
  var_holds i = every-Var i

  pub num_holds : (n : ℤ) → a.number n ≡ true → Holds (Num n)
  num_holds n h = every-Num n ∙ h

  pub lit_holds : (b : Bool) → Holds (Lit b)
  lit_holds b = every-Lit b

  pub app_holds : (o : Op) (ts : List Term) → asked_of_op a o ≡ true → AllHold ts → Holds (App o ts)
  app_holds o ts h k = every-App o ts ∙ (λ i. h i && all_true ts k i)

  pub pred_holds : (p : ℕ) (ts : List Term) → AllHold ts → Holds (Pred p ts)
  pred_holds p ts k = every-Pred p ts ∙ all_true ts k

  pub quant_holds : (k : Kind) (sorts : List Sort) (t : Term) → list_all a.bound sorts ≡ true → Holds t → Holds (Quant k sorts t)
  quant_holds k sorts t h j = every-Quant k sorts t ∙ (λ i. h i && j i)

  pub call_holds : (k : ℕ) (ts : List Term) → a.call k ≡ true → AllHold ts → Holds (Call k ts)
  call_holds k ts h j = every-Call k ts ∙ (λ i. h i && all_true ts j i)

  -- a term that is moved asks the same
  module _ (from up : ℕ) where
    abbrev Same : Term → Type 0
    Same t = every (shifted t from up) ≡ every t

    all_same : (ts : List Term) → AllByRecursion Same ts → list_all (λ b. b) (map every (shifted_all ts from up)) ≡ list_all (λ b. b) (map every ts)
    all_same [] f = refl
    all_same (t ∷ ts) f = λ i. f.0 i && all_same ts f.1 i

    pub shifted_same : (t : Term) → Same t
    shifted_same = term_ind Same (record {
      of_var = λ i. ap every (shifted-Var from up i) ∙ every-Var (moved from up i) ∙ sym (every-Var i);
      of_num = λ n. ap every (shifted-Num from up n);
      of_lit = λ b. ap every (shifted-Lit from up b);
      of_app = λ o ts f.
          ap every (shifted-App from up o ts) ∙ every-App o (shifted_all ts from up) ∙ ap (λ b. asked_of_op a o && b) (all_same ts f) ∙ sym (every-App o ts);
      of_pred = λ p ts f. ap every (shifted-Pred from up p ts) ∙ every-Pred p (shifted_all ts from up) ∙ all_same ts f ∙ sym (every-Pred p ts);
      of_quant = λ k sorts t f.
          ap every (shifted-Quant from up k sorts t) ∙ every-Quant k sorts (shifted t from up) ∙ ap (λ b. list_all a.bound sorts && b) f ∙ sym (every-Quant k sorts t);
      of_call = λ k ts f.
          ap every (shifted-Call from up k ts) ∙ every-Call k (shifted_all ts from up) ∙ ap (λ b. a.call k && b) (all_same ts f) ∙ sym (every-Call k ts);
    })

  -- terms that are joined
  abbrev Keeps : (Term → Term → Term) → Type 0
  Keeps join = (t u : Term) → Holds t → Holds u → Holds (join t u)

  pair_keeps : (o : Op) → asked_of_op a o ≡ true → Keeps (pair o)
  pair_keeps o e t u h k = app_holds o (t ∷ u ∷ []) e (h, (k, tt))

  negated_holds : (t : Term) → Holds t → Holds (negated t)
  negated_holds t h = app_holds op.Not (t ∷ []) refl (h, tt)

  differ_keeps : Keeps differ
  differ_keeps t u h k = negated_holds (pair op.Eq t u) (pair_keeps op.Eq refl t u h k)

  turned_keeps : (join : Term → Term → Term) → Keeps join → Keeps (turned join)
  turned_keeps join keeps t u h k = keeps u t k h

  joined_from_holds : (join : Term → Term → Term) → Keeps join → (t : Term) (ts : List Term) → Holds t → AllHold ts → Holds (joined_from join t ts)
  joined_from_holds join keeps t [] h k = h
  joined_from_holds join keeps t (u ∷ us) h k = joined_from_holds join keeps (join t u) us (keeps t u h k.0) k.1

  joined_left_holds : (join : Term → Term → Term) → Keeps join → (ts : List Term) → AllHold ts → Holds (joined_left join ts)
  joined_left_holds join keeps [] h = lit_holds true
  joined_left_holds join keeps (t ∷ ts) h = joined_from_holds join keeps t ts h.0 h.1

  sole_holds : (o : Op) → asked_of_op a o ≡ true → (ts : List Term) → AllHold ts → Holds (sole o ts)
  sole_holds o e [] h = app_holds o [] e tt
  sole_holds o e (t ∷ []) h = h.0
  sole_holds o e (t ∷ u ∷ more) h = app_holds o (t ∷ u ∷ more) e h

  neighbours_hold : (join : Term → Term → Term) → Keeps join → (ts : List Term) → AllHold ts → AllHold (neighbours join ts)
  neighbours_hold join keeps [] h = tt
  neighbours_hold join keeps (t ∷ []) h = tt
  neighbours_hold join keeps (t ∷ u ∷ more) h = (keeps t u h.0 h.1.0, neighbours_hold join keeps (u ∷ more) h.1)

  with_each_hold : (join : Term → Term → Term) → Keeps join → (t : Term) (ts : List Term) → Holds t → AllHold ts → AllHold (map (join t) ts)
  with_each_hold join keeps t [] h k = tt
  with_each_hold join keeps t (u ∷ us) h k = (keeps t u h k.0, with_each_hold join keeps t us h k.1)

  both_hold : (ts us : List Term) → AllHold ts → AllHold us → AllHold (ts ++ us)
  both_hold [] us h k = k
  both_hold (t ∷ ts) us h k = (h.0, both_hold ts us h.1 k)

  all_pairs_hold : (join : Term → Term → Term) → Keeps join → (ts : List Term) → AllHold ts → AllHold (all_pairs join ts)
  all_pairs_hold join keeps [] h = tt
  all_pairs_hold join keeps (t ∷ ts) h = both_hold (map (join t) ts) (all_pairs join ts) (with_each_hold join keeps t ts h.0 h.1) (all_pairs_hold join keeps ts h.1)

  negated_before_last_hold : (ts : List Term) → AllHold ts → AllHold (negated_before_last ts)
  negated_before_last_hold [] h = tt
  negated_before_last_hold (t ∷ []) h = h
  negated_before_last_hold (t ∷ u ∷ more) h = (negated_holds t h.0, negated_before_last_hold (u ∷ more) h.1)

  of_one_holds : (f : Term → Term) → ((t : Term) → Holds t → Holds (f t)) → (ts : List Term) → AllHold ts → Holds (of_one f ts)
  of_one_holds f keeps [] h = lit_holds true
  of_one_holds f keeps (t ∷ []) h = keeps t h.0
  of_one_holds f keeps (t ∷ u ∷ more) h = lit_holds true

  chained_holds : (join : Term → Term → Term) → Keeps join → (ts : List Term) → AllHold ts → Holds (sole op.And (neighbours join ts))
  chained_holds join keeps ts h = sole_holds op.And refl (neighbours join ts) (neighbours_hold join keeps ts h)

  -- the forms with 0 in them
  module _ (zero_asked : a.number (pos 0) ≡ true) where
    opposite_holds : (t : Term) → Holds t → Holds (opposite t)
    opposite_holds t h = pair_keeps op.Sub refl (Num (pos 0)) t (num_holds (pos 0) zero_asked) h

    difference_holds : (ts : List Term) → AllHold ts → Holds (difference ts)
    difference_holds [] h = lit_holds true
    difference_holds (t ∷ []) h = opposite_holds t h.0
    difference_holds (t ∷ u ∷ more) h = joined_left_holds (pair op.Sub) (pair_keeps op.Sub refl) (t ∷ u ∷ more) h

    absolute_holds : (t : Term) → Holds t → Holds (absolute t)
    absolute_holds t h =
        app_holds op.Ite (pair op.Lt t (Num (pos 0)) ∷ opposite t ∷ t ∷ []) refl
        (pair_keeps op.Lt refl t (Num (pos 0)) h (num_holds (pos 0) zero_asked), (opposite_holds t h, (h, tt)))

    divisible_holds : (n : ℤ) → a.number n ≡ true → (t : Term) → Holds t → Holds (divisible n t)
    divisible_holds n e t h =
        pair_keeps op.Eq refl (pair op.Mod t (Num n)) (Num (pos 0)) (pair_keeps op.Mod refl t (Num n) h (num_holds n e)) (num_holds (pos 0) zero_asked)

    operation_holds : (o : ReadOp) (ts : List Term) → AllHold ts → Holds (operation o ts)
    operation_holds read.Not ts h = app_holds op.Not ts refl h
    operation_holds read.Implies ts h = app_holds op.Or (negated_before_last ts) refl (negated_before_last_hold ts h)
    operation_holds read.And ts h = sole_holds op.And refl ts h
    operation_holds read.Or ts h = sole_holds op.Or refl ts h
    operation_holds read.Xor ts h = joined_left_holds differ differ_keeps ts h
    operation_holds read.Eq ts h = chained_holds (pair op.Eq) (pair_keeps op.Eq refl) ts h
    operation_holds read.Distinct ts h = sole_holds op.And refl (all_pairs differ ts) (all_pairs_hold differ differ_keeps ts h)
    operation_holds read.Ite ts h = app_holds op.Ite ts refl h
    operation_holds read.Sub ts h = difference_holds ts h
    operation_holds read.Add ts h = joined_left_holds (pair op.Add) (pair_keeps op.Add refl) ts h
    operation_holds read.Mul ts h = joined_left_holds (pair op.Mul) (pair_keeps op.Mul refl) ts h
    operation_holds read.Div ts h = joined_left_holds (pair op.Div) (pair_keeps op.Div refl) ts h
    operation_holds read.Mod ts h = app_holds op.Mod ts refl h
    operation_holds read.Abs ts h = of_one_holds absolute absolute_holds ts h
    operation_holds read.Le ts h = chained_holds (pair op.Le) (pair_keeps op.Le refl) ts h
    operation_holds read.Lt ts h = chained_holds (pair op.Lt) (pair_keeps op.Lt refl) ts h
    operation_holds read.Ge ts h = chained_holds (turned (pair op.Le)) (turned_keeps (pair op.Le) (pair_keeps op.Le refl)) ts h
    operation_holds read.Gt ts h = chained_holds (turned (pair op.Lt)) (turned_keeps (pair op.Lt) (pair_keeps op.Lt refl)) ts h
    operation_holds read.Select ts h = app_holds op.Select ts refl h
    operation_holds read.Store ts h = app_holds op.Store ts refl h

    -- what is asked of a symbol and of a head
    abbrev pub SymbolAsked : Symbol → Type 0
    SymbolAsked (symbol.Pred p sorts) = Unit {0}
    SymbolAsked (symbol.Def k f) = a.call k ≡ true

    abbrev pub HeadAsked : Head → Type 0
    HeadAsked (head.Divisible n) = a.number n ≡ true
    HeadAsked (head.Constant s) = (e : Sort) → element_of s ≡ Some e → a.element e ≡ true
    HeadAsked (head.Declared y) = SymbolAsked y
    HeadAsked h = Unit {0}

    constant_holds : (element : Option Sort) (ts : List Term) → ((e : Sort) → element ≡ Some e → a.element e ≡ true) → AllHold ts → Holds (constant element ts)
    constant_holds None ts f h = lit_holds true
    constant_holds (Some e) ts f h = app_holds (op.Const e) ts (f e refl) h

    symbol_holds : (y : Symbol) (ts : List Term) → SymbolAsked y → AllHold ts → Holds (declared_term y ts)
    symbol_holds (symbol.Pred p sorts) ts f h = pred_holds p ts h
    symbol_holds (symbol.Def k g) ts f h = call_holds k ts f h

    pub head_holds : (g : Head) (ts : List Term) → HeadAsked g → AllHold ts → Holds (head_term g ts)
    head_holds (head.Operator o) ts f h = operation_holds o ts h
    head_holds (head.Make d c) ts f h = app_holds (op.Make d c) ts refl h
    head_holds (head.OfSort d c s) ts f h = app_holds (op.Make d c) ts refl h
    head_holds (head.Get d c i) ts f h = app_holds (op.Get d c i) ts refl h
    head_holds (head.Is d c) ts f h = app_holds (op.Is d c) ts refl h
    head_holds (head.Divisible n) ts f h = of_one_holds (divisible n) (divisible_holds n f) ts h
    head_holds (head.Constant s) ts f h = constant_holds (element_of s) ts f h
    head_holds (head.Declared y) ts f h = symbol_holds y ts f h
