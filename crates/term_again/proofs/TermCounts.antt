-- The number of variables that a term binds, and the bytes of its text.
use Rattle.std.proofs.Common.{◌≡◌, ◌∙◌, sym, ap, refl, ℕ, ◌+◌, ◌≤◌, true, List, [], ◌∷◌, ◌++◌, length, map, codes, arith}
use Rattle.std.specs.List.{list_all, AllByRecursion}
use Rattle.std.proofs.lemmas.Bool.{and_parts, false≢true}
use Rattle.std.proofs.lemmas.List.{length-append}
use Rattle.chc_sorts.specs.declared.sort.Sort.{Sort}
use Rattle.chc_sexpr.specs.Writing.{spaced, joined}
use Rattle.chc_terms.specs.declared.term.Kind.{Kind}
use Rattle.chc_terms.specs.declared.term.Term.{Term}
use Rattle.chc_terms.specs.declared.term.Term.TheVariants.{App, Pred, Quant, Call}
use Rattle.chc_terms.specs.Counts.{depth, greatest}
use Rattle.chc_terms.specs.Sorted.{is_plain}
use Rattle.chc_terms.proofs.CountLaws.{depths}
use Rattle.chc_terms.proofs.Induction.{term_ind}
use Rattle.chc_terms.proofs.SortLaws.{is_plain-App, is_plain-Pred, is_plain-Quant, is_plain-Call}
use Rattle.chc_sexpr.specs.Symbols.{symbol_text}
use Rattle.chc_print.specs.Texts.{Names, name_at, applied, op_text, kind_text, quantifier_text, quantified, binder_text, binder_texts, term_text, term_texts}
use Rattle.term_again.specs.Bound.{most_bound, PlainBindsNone, TextHoldsBound, BindersHoldTheirs}
use Rattle.term_again.proofs.TermLaws.{text-App, text-Pred, text-Quant, text-Call, bound-Var, bound-Num, bound-Lit, bound-App, bound-Pred, bound-Quant, bound-Call}

-- a term has a level at least
pub some_depth : (t : Term) → 1 ≤ depth t
some_depth = term_ind (λ t. 1 ≤ depth t) (record {
  of_var = λ i. omega (arith, depths);
  of_num = λ n. omega (arith, depths);
  of_lit = λ b. omega (arith, depths);
  of_app = λ o ts ih. omega (arith, depths);
  of_pred = λ p ts ih. omega (arith, depths);
  of_quant = λ k sorts t ih. omega (arith, depths);
  of_call = λ k ts ih. omega (arith, depths);
})

-- ---- plain terms

abbrev BindsNone : Term → Type 0
BindsNone t = is_plain t ≡ true → most_bound t ≡ 0

none_in_parts : (ts : List Term) → AllByRecursion BindsNone ts → list_all (λ b. b) (map is_plain ts) ≡ true → greatest (map most_bound ts) ≡ 0
none_in_parts [] ih h = refl
none_in_parts (t ∷ ts) ih h =
    let parts = and_parts (is_plain t) (list_all (λ b. b) (map is_plain ts)) h in
    let one = ih.0 parts.0 in
    let more = none_in_parts ts ih.1 parts.1 in
    omega arith

pub plain_binds_none : PlainBindsNone
plain_binds_none = term_ind BindsNone (record {
  of_var = λ i h. bound-Var i;
  of_num = λ n h. bound-Num n;
  of_lit = λ b h. bound-Lit b;
  of_app = λ o ts ih h. bound-App o ts ∙ none_in_parts ts ih (sym (is_plain-App o ts) ∙ h);
  of_pred = λ p ts ih h. absurd (false≢true (sym (is_plain-Pred p ts) ∙ h));
  of_quant = λ k sorts t ih h. absurd (false≢true (sym (is_plain-Quant k sorts t) ∙ h));
  of_call = λ k ts ih h. absurd (false≢true (sym (is_plain-Call k ts) ∙ h));
})

-- such terms bind none together
pub plain_terms_bind_none : (ts : List Term) → list_all is_plain ts ≡ true → greatest (map most_bound ts) ≡ 0
plain_terms_bind_none [] h = refl
plain_terms_bind_none (t ∷ ts) h =
    let parts = and_parts (is_plain t) (list_all is_plain ts) h in
    let one = plain_binds_none t parts.0 in
    let more = plain_terms_bind_none ts parts.1 in
    omega arith

-- ---- binders

module _ (names : Names) where
  spaced_hold : (i : ℕ) (sorts : List Sort) → length sorts ≤ length (spaced (binder_texts names i sorts))
  spaced_hold i [] = omega arith
  spaced_hold i (s ∷ sorts) =
      let one = length-append (binder_text names i s) (spaced (binder_texts names (i + 1) sorts)) in
      let more = spaced_hold (i + 1) sorts in
      omega arith

  binder_holds : (i : ℕ) (s : Sort) → 1 ≤ length (binder_text names i s)
  binder_holds i s = omega arith

  pub joined_hold : (i : ℕ) (sorts : List Sort) → length sorts ≤ length (joined (binder_texts names i sorts))
  joined_hold i [] = omega arith
  joined_hold i (s ∷ sorts) =
      let one = length-append (binder_text names i s) (spaced (binder_texts names (i + 1) sorts)) in
      let first = binder_holds i s in
      let more = spaced_hold (i + 1) sorts in
      omega arith

  -- ---- terms

  abbrev HoldsBound : Term → Type 0
  HoldsBound t = (under : ℕ) → most_bound t ≤ length (term_text names t under)

  parts_hold : (ts : List Term) → AllByRecursion HoldsBound ts → (under : ℕ) → greatest (map most_bound ts) ≤ length (spaced (term_texts names under ts))
  parts_hold [] ih under = omega arith
  parts_hold (t ∷ ts) ih under =
      let one = ih.0 under in
      let more = parts_hold ts ih.1 under in
      let both = length-append (term_text names t under) (spaced (term_texts names under ts)) in
      omega arith

  applied_holds : (head : List ℕ) (texts : List (List ℕ)) → length (spaced texts) ≤ length (applied head texts)
  applied_holds head [] = omega arith
  applied_holds head (t ∷ ts) =
      let first = length-append head (spaced (t ∷ ts)) in
      let all = length-append (head ++ spaced (t ∷ ts)) (41 ∷ []) in
      omega arith

  quantified_holds : (k : Kind) (i : ℕ) (sorts : List Sort) (body : List ℕ) → length sorts + length body ≤ length (quantified names k i sorts body)
  quantified_holds k i sorts body =
      let before : List ℕ = codes "(" ++ kind_text k ++ codes " (" in
      let list : List ℕ = joined (binder_texts names i sorts) in
      let start : List ℕ = quantifier_text names k i sorts in
      let whole : length (quantified names k i sorts body) ≡ length (start ++ body) + 1 = length-append (start ++ body) (codes ")") in
      let both : length (start ++ body) ≡ length start + length body = length-append start body in
      let first : length start ≡ length (before ++ list) + 2 = length-append (before ++ list) (codes ") ") in
      let second : length (before ++ list) ≡ length before + length list = length-append before list in
      omega (arith, joined_hold i sorts)

  app_holds : (ts : List Term) → AllByRecursion HoldsBound ts → (head : List ℕ) (under n : ℕ) (text : List ℕ) → n ≡ greatest (map most_bound ts) → text ≡ applied head (term_texts names under ts) → n ≤ length text
  app_holds ts ih head under n text count is = omega (arith, count, ap length is, applied_holds head (term_texts names under ts), parts_hold ts ih under)

  quant_holds : (k : Kind) (sorts : List Sort) (t : Term) → HoldsBound t → HoldsBound (Quant k sorts t)
  quant_holds k sorts t ih under =
      omega (
        arith,
        bound-Quant k sorts t,
        ap length (text-Quant names k sorts t under),
        quantified_holds k under sorts (term_text names t (under + length sorts)),
        ih (under + length sorts),
      )

  term_holds : (t : Term) → HoldsBound t
  term_holds = term_ind HoldsBound (record {
    of_var = λ i under. omega (arith, bound-Var i);
    of_num = λ n under. omega (arith, bound-Num n);
    of_lit = λ b under. omega (arith, bound-Lit b);
    of_app = λ o ts ih under. app_holds ts ih (op_text names.sig o) under (most_bound (App o ts)) (term_text names (App o ts) under) (bound-App o ts) (text-App names o ts under);
    of_pred = λ p ts ih under. app_holds ts ih (symbol_text (name_at names.preds p)) under (most_bound (Pred p ts)) (term_text names (Pred p ts) under) (bound-Pred p ts) (text-Pred names p ts under);
    of_quant = quant_holds;
    of_call = λ k ts ih under. app_holds ts ih (symbol_text (name_at names.calls k)) under (most_bound (Call k ts)) (term_text names (Call k ts) under) (bound-Call k ts) (text-Call names k ts under);
  })

pub text_holds_bound : TextHoldsBound
text_holds_bound names t = term_holds names t

pub binders_hold_theirs : BindersHoldTheirs
binders_hold_theirs names i sorts = joined_hold names i sorts
