-- Variables whose names are a prefix and their number: each name stands for its own variable, and no other name does.
use Rattle.std.proofs.Common.{◌≡◌, ◌≢◌, ◌∙◌, sym, ap, refl, ℕ, zero, suc, ◌+◌, ◌-◌, ◌≤◌, ◌<◌, ◌^◌, ◌==◌, Bool, true, false, cond, List, [], ◌∷◌, ◌++◌, length, Option, Some, None, slice_get, option_map, arith}
use Rattle.std.specs.Prelude.{decimal}
use Rattle.std.specs.Option.{option_or}
use Rattle.std.specs.Str.{bytes_eq}
use Rattle.std.specs.Str.Parse.{AllDigits}
use Rattle.std.proofs.lemmas.Bool.{and_from, le-leb, lt-ltb, eq-eqb, false≢true}
use Rattle.std.proofs.lemmas.Fmt.{decimal_injective, decimal_is_IsNumeral_wide}
use Rattle.std.proofs.lemmas.List.{append_cancel_left, length-append}
use Rattle.std.proofs.lemmas.Slice.Eq.{bytes_eq-Decides}
use Rattle.std.proofs.lemmas.Str.Parse.{digit_from_value}
use Rattle.chc_sorts.specs.declared.sort.Sort.{Sort}
use Rattle.chc_terms.specs.declared.term.Term.{Term, Term-F, fold-roll-Term}
use Rattle.chc_terms.specs.declared.term.Term.TheVariants as term
use Rattle.chc_terms.specs.Shifted.{moved, shift_step, shifted}
use Rattle.chc_print.specs.Prefix.{begins_numbered}
use Rattle.chc_elab.specs.declared.typed.Typed.{Typed}
use Rattle.chc_elab.specs.Sites.{Local, Setting, local_named, moved_under, literal_named, constant_named, lone_symbol}
use Rattle.chc_elab.specs.Binders.{variables_from, with_variables}
use Rattle.term_again.specs.Naming.{variable_names, numbered_site}

refuted : (b : Bool) → (b ≡ true → ⊥) → b ≡ false
refuted true h = absurd (h refl)
refuted false h = refl

pub bytes_eq_itself : (bs : List ℕ) → bytes_eq bs bs ≡ true
bytes_eq_itself bs = (bytes_eq-Decides bs bs).1 refl

bytes_eq_apart : (xs ys : List ℕ) → xs ≢ ys → bytes_eq xs ys ≡ false
bytes_eq_apart xs ys apart = refuted (bytes_eq xs ys) (λ h. apart ((bytes_eq-Decides xs ys).0 h))

module _ (prefix : List ℕ) where
  -- the name of a variable
  abbrev pub variable_name : ℕ → List ℕ
  variable_name i = prefix ++ decimal i

  -- variables of these sorts, numbered from a number on
  abbrev pub numbered : ℕ → List Sort → List Local
  numbered n ss = variables_from n (variable_names prefix n ss) ss

  pub names_apart : (i j : ℕ) → i < 2 ^ 64 → j < 2 ^ 64 → i ≢ j → bytes_eq (variable_name i) (variable_name j) ≡ false
  names_apart i j low high apart =
      bytes_eq_apart (variable_name i) (variable_name j) (λ same. apart (decimal_injective i j low high (append_cancel_left prefix (decimal i) (decimal j) same)))

  -- the name is none of the numbers from n on, so many
  abbrev pub IsForeign : ℕ → ℕ → List ℕ → Type 0
  IsForeign n count name = (i : ℕ) → n ≤ i → i < n + count → bytes_eq (variable_name i) name ≡ false

  foreign_rest : (n : ℕ) (s : Sort) (ss : List Sort) (name : List ℕ) → IsForeign n (length (s ∷ ss)) name → IsForeign (n + 1) (length ss) name
  foreign_rest n s ss name h = λ i low high. h i (omega arith) (omega arith)

  none_of_two : (first : Option Local) (test : Bool) (l : Local) → first ≡ None → test ≡ false → option_or first (cond test (Some l) None) ≡ None
  none_of_two first test l e f = rw (e, f) refl

  -- a foreign name stands for none of the variables
  pub variable_none : (n : ℕ) (ss : List Sort) (name : List ℕ) → IsForeign n (length ss) name → local_named (numbered n ss) name ≡ None
  variable_none n [] name h = refl
  variable_none n (s ∷ ss) name h =
      none_of_two (local_named (numbered (n + 1) ss) name) (bytes_eq (variable_name n) name) (record { name = variable_name n; value = record { term = term.Var n; sort = s }; under = n + 1 })
      (variable_none (n + 1) ss name (foreign_rest n s ss name h)) (h n (omega arith) (omega arith))

  -- an earlier number's name is foreign
  earlier_foreign : (n m : ℕ) (ss : List Sort) → m < n → n + length ss ≤ 2 ^ 64 → IsForeign n (length ss) (variable_name m)
  earlier_foreign n m ss before small = λ i low high. names_apart i m (omega arith) (omega arith) (λ same. absurd (omega arith))

  found_first : (first : Option Local) (test : Bool) (l : Local) → first ≡ None → test ≡ true → option_or first (cond test (Some l) None) ≡ Some l
  found_first first test l e f = rw (e, f) refl

  found_later : (first rest : Option Local) (l : Local) → first ≡ Some l → option_or first rest ≡ Some l
  found_later first rest l e = rw e refl

  -- a variable's name stands for it
  pub variable_found : (n j : ℕ) (ss : List Sort) (s : Sort) → slice_get ss j ≡ Some s → n + length ss ≤ 2 ^ 64
      → local_named (numbered n ss) (variable_name (n + j)) ≡ Some (record { name = variable_name (n + j); value = record { term = term.Var (n + j); sort = s }; under = n + j + 1 })
  variable_found n j [] s h small = absurd (nothing h)
    where
      nothing : slice_get {X = Sort} [] j ≡ Some s → ⊥
      nothing e = cc
  variable_found n zero (t ∷ ss) s h small =
      let here : n + 0 ≡ n = omega arith in
      let is : t ≡ s = cc in
      rw (here, ← is)
      (found_first (local_named (numbered (n + 1) ss) (variable_name n)) (bytes_eq (variable_name n) (variable_name n)) (record { name = variable_name n; value = record { term = term.Var n; sort = t }; under = n + 1 })
      (variable_none (n + 1) ss (variable_name n) (earlier_foreign (n + 1) n ss (omega arith) (omega arith))) (bytes_eq_itself (variable_name n)))
  variable_found n (suc j) (t ∷ ss) s h small =
      let there : n + suc j ≡ n + 1 + j = omega arith in
      rw there
      (found_later (local_named (numbered (n + 1) ss) (variable_name (n + 1 + j)))
      (cond (bytes_eq (variable_name n) (variable_name (n + 1 + j))) (Some (record { name = variable_name n; value = record { term = term.Var n; sort = t }; under = n + 1 })) None)
      (record { name = variable_name (n + 1 + j); value = record { term = term.Var (n + 1 + j); sort = s }; under = n + 1 + j + 1 }) (variable_found (n + 1) j ss s h (omega arith)))

  -- ---- at the site

  shifted-Var : (i from up : ℕ) → shifted (term.Var i) from up ≡ term.Var (moved from up i)
  shifted-Var i from up = ap (λ t. shifted t from up) (sym (term.rolls-Var i)) ∙ fold-roll-Term Term (shift_step from up) (Term-F.Var i)

  unmoved : (i up : ℕ) → moved (i + 1) up i ≡ i
  unmoved i up = ap (λ b. cond b i (i + up)) (lt-ltb i (i + 1) (omega arith))

  -- a variable's name stands for it at the site of all variables
  pub variable_stands : (setting : Setting) (vars : List Sort) (i : ℕ) (s : Sort) → slice_get vars i ≡ Some s → length vars ≤ 2 ^ 64
      → lone_symbol setting (numbered_site prefix vars) (variable_name i) ≡ Some (record { term = term.Var i; sort = s })
  variable_stands setting vars i s h small =
      let zero_left : 0 + i ≡ i = omega arith in
      let found : local_named (numbered 0 vars) (variable_name i) ≡ Some (record { name = variable_name i; value = record { term = term.Var i; sort = s }; under = i + 1 }) = rw zero_left at (variable_found 0 i vars s h (omega arith)) in
      let site = numbered_site prefix vars in
      let name = variable_name i in
      ap (λ o. option_or (option_map (moved_under site.variables) o) (option_or (literal_named name) (constant_named setting name))) found
      ∙ ap (λ t. Some (record { term = t; sort = s })) (shifted-Var i (i + 1) (site.variables - (i + 1)) ∙ ap term.Var (unmoved i (site.variables - (i + 1))))

  numbered_more : (n : ℕ) (vars ss : List Sort) → numbered n vars ++ numbered (n + length vars) ss ≡ numbered n (vars ++ ss)
  numbered_more n [] ss = ap (λ m. numbered m ss) (omega arith)
  numbered_more n (v ∷ vars) ss =
      let next : n + length (v ∷ vars) ≡ n + 1 + length vars = omega arith in
      ap (λ m. numbered n (v ∷ vars) ++ numbered m ss) next ∙ ap (λ l. record { name = variable_name n; value = record { term = term.Var n; sort = v }; under = n + 1 } ∷ l) (numbered_more (n + 1) vars ss)

  -- the site of variables with more under them is the site of all
  pub site_under : (vars ss : List Sort) → with_variables (numbered_site prefix vars) (variable_names prefix (length vars) ss) ss ≡ numbered_site prefix (vars ++ ss)
  site_under vars ss =
      let start : 0 + length vars ≡ length vars = omega arith in
      let all : variables_from 0 (variable_names prefix 0 vars) vars ++ variables_from (0 + length vars) (variable_names prefix (length vars) ss) ss ≡ numbered 0 (vars ++ ss) =
      ap (λ m. numbered 0 vars ++ variables_from (0 + length vars) (variable_names prefix m ss) ss) (sym start) ∙ numbered_more 0 vars ss in
      let count : 0 + length vars + length ss ≡ 0 + length (vars ++ ss) = omega (arith, length-append vars ss) in
      λ i. record { locals = all i; variables = count i }

  -- another name stands at that site for what it stands for without variables
  pub other_stands : (setting : Setting) (vars : List Sort) (name : List ℕ) (t : Typed) → ((i : ℕ) → i < length vars → bytes_eq (variable_name i) name ≡ false)
      → option_or (literal_named name) (constant_named setting name) ≡ Some t → lone_symbol setting (numbered_site prefix vars) name ≡ Some t
  other_stands setting vars name t foreign h =
      let site = numbered_site prefix vars in
      ap (λ o. option_or (option_map (moved_under site.variables) o) (option_or (literal_named name) (constant_named setting name))) (variable_none 0 vars name (λ i low high. foreign i (omega arith)))
      ∙ h

-- ---- names that don't begin like variables

digit_first : (ds : List ℕ) → AllDigits 10 ds → 0 < length ds → begins_numbered [] ds ≡ true
digit_first [] all some = absurd (omega arith)
digit_first (d ∷ ds) all some = let range = digit_from_value d all.0 in and_from _ _ (le-leb 48 d range.0) (le-leb d 57 range.1)

begins_with : (prefix ds : List ℕ) → begins_numbered [] ds ≡ true → begins_numbered prefix (prefix ++ ds) ≡ true
begins_with [] ds h = h
begins_with (p ∷ ps) ds h = and_from (p == p) (begins_numbered ps (ps ++ ds)) (eq-eqb p p refl) (begins_with ps ds h)

-- the name of no variable, where it doesn't begin with the prefix and a digit
pub unnumbered_foreign : (prefix name : List ℕ) → begins_numbered prefix name ≡ false → (i : ℕ) → i < 2 ^ 64 → bytes_eq (prefix ++ decimal i) name ≡ false
unnumbered_foreign prefix name h i small =
    let form = (decimal_is_IsNumeral_wide i (omega arith)).0 in
    bytes_eq_apart (prefix ++ decimal i) name
    (λ same. false≢true (sym h ∙ ap (begins_numbered prefix) (sym same) ∙ begins_with prefix (decimal i) (digit_first (decimal i) form.1 form.0)))
