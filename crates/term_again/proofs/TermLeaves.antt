-- Variables, numbers and truth values are written as trees that stand for them.
use Rattle.std.proofs.Common.{◌≡◌, sym, ap, refl, subst, ℕ, suc, ◌+◌, ◌-◌, ◌≤◌, ◌<◌, ◌^◌, ℤ, pos, negsuc, Bool, true, false, List, [], ◌∷◌, ◌++◌, length, Some, slice_get, codes, arith}
use Rattle.std.specs.Prelude.{decimal, int_lt}
use Rattle.std.specs.Option.{option_or}
use Rattle.std.specs.Str.{bytes_eq}
use Rattle.std.proofs.lemmas.Bool.{leb-true}
use Rattle.std.proofs.lemmas.Bool.Decides.{nat_tests}
use Rattle.std.proofs.lemmas.Option.{slice_get_within}
use Rattle.chc_sorts.specs.declared.sort.Sort.{Sort}
use Rattle.chc_sorts.specs.declared.sort.Sort.TheVariants as sort
use Rattle.chc_values.specs.Ranges.{is_int_in_range}
use Rattle.chc_sexpr.specs.declared.tree.Tree.{Tree}
use Rattle.chc_sexpr.specs.declared.tree.Tree.TheVariants.{Group}
use Rattle.chc_sexpr.proofs.Written.{Writes}
use Rattle.chc_terms.specs.declared.term.Term.TheVariants.{Var, Num, Lit}
use Rattle.chc_print.specs.Prefix.{marked}
use Rattle.chc_print.specs.Texts.{Names, number_text, truth_text, variable_text}
use Rattle.chc_elab.specs.declared.typed.Typed.{Typed}
use Rattle.chc_elab.specs.Sites.{Setting, literal_named, constant_named}
use Rattle.chc_elab.specs.Stands.{Stands}
use Rattle.term_again.specs.Naming.{numbered_site}
use Rattle.term_again.proofs.TermTrees.{IsNone, Begins, IsSymbolOf, IsNumeralOf, writes_wider, begin_at, last_at, group_writes, bare_writes, numeral_writes, variable_writes}
use Rattle.term_again.proofs.TermTyped.{typed, Reads, lone_read}
use Rattle.term_again.proofs.TermVariables.{variable_name, variable_stands, other_stands}

not_below : (n : ℕ) → int_lt (pos (suc n)) (pos 0) ≡ false
not_below n = grind (arith, nat_tests)

module _ (names : Names) (setting : Setting) (marks : ℕ) (form : names.prefix ≡ marked marks) (Fits : Typed → Type 0) (Few : List Typed → Type 0) (vars : List Sort) where
  -- ---- variables

  symbol_in_writes : (i : ℕ) → i < 2 ^ 64 → Writes (IsSymbolOf (variable_name names.prefix i)) 0 (variable_text names i)
  symbol_in_writes i small = subst (λ (p : List ℕ). Writes (IsSymbolOf (p ++ decimal i)) 0 (p ++ decimal i)) (sym form) (variable_writes 0 marks i small)

  pub var_writes : (i : ℕ) (s : Sort) → slice_get vars i ≡ Some s → length vars ≤ 2 ^ 64 → Writes (Reads setting names.prefix Fits Few vars (Var i) s) 0 (variable_text names i)
  var_writes i s h small =
      let low : i < length vars = slice_get_within vars i s h in
      let name = variable_name names.prefix i in
      writes_wider (IsSymbolOf name) (Reads setting names.prefix Fits Few vars (Var i) s) 0 0 (omega arith)
      (lone_read setting names.prefix Fits Few vars name (Var i) s (variable_stands names.prefix setting vars i s h small)) (variable_text names i) (symbol_in_writes i (omega arith))

  -- ---- truth values

  literal_foreign : (b : Bool) (i : ℕ) → bytes_eq (variable_name names.prefix i) (truth_text b) ≡ false
  literal_foreign true i = subst (λ (p : List ℕ). bytes_eq (variable_name p i) (codes "true") ≡ false) (sym form) refl
  literal_foreign false i = subst (λ (p : List ℕ). bytes_eq (variable_name p i) (codes "false") ≡ false) (sym form) refl

  literal_is : (b : Bool) → literal_named (truth_text b) ≡ Some (typed (Lit b) sort.Bool)
  literal_is true = refl
  literal_is false = refl

  literal_writes : (b : Bool) → Writes (IsSymbolOf (truth_text b)) 0 (truth_text b)
  literal_writes true = bare_writes 0 (codes "true") refl refl
  literal_writes false = bare_writes 0 (codes "false") refl refl

  pub lit_writes : (b : Bool) → Writes (Reads setting names.prefix Fits Few vars (Lit b) sort.Bool) 0 (truth_text b)
  lit_writes b =
      let stands = other_stands names.prefix setting vars (truth_text b) (typed (Lit b) sort.Bool) (λ i low. literal_foreign b i) (ap (λ o. option_or o (constant_named setting (truth_text b))) (literal_is b)) in
      writes_wider (IsSymbolOf (truth_text b)) (Reads setting names.prefix Fits Few vars (Lit b) sort.Bool) 0 0 (omega arith)
      (lone_read setting names.prefix Fits Few vars (truth_text b) (Lit b) sort.Bool stands) (truth_text b) (literal_writes b)

  -- ---- numbers

  abbrev IsMinus : ℕ → List Tree → Type 0
  IsMinus n = Begins (IsSymbolOf (codes "-")) (Begins (IsNumeralOf n) IsNone)

  minus_read : (n : ℕ) (place : ℕ) (ts : List Tree) → IsMinus (suc n) ts → Reads setting names.prefix Fits Few vars (Num (negsuc n)) sort.Int (Group place ts)
  minus_read n place [] h = absurd h
  minus_read n place (a ∷ []) h = absurd h.1
  minus_read n place (a ∷ b ∷ []) h =
      subst (λ ts. Reads setting names.prefix Fits Few vars (Num (negsuc n)) sort.Int (Group place ts)) (sym (λ j. h.0.1 j ∷ h.1.0.1 j ∷ []))
      (Stands.negative (numbered_site names.prefix vars) place h.0.0 h.1.0.0 (codes "-") (pos (suc n)) refl (not_below n))
  minus_read n place (a ∷ b ∷ c ∷ more) h = absurd h.1.1

  pub number_writes : (n : ℤ) → is_int_in_range n ≡ true → Writes (Reads setting names.prefix Fits Few vars (Num n) sort.Int) 1 (number_text n)
  number_writes (pos n) h =
      let small = leb-true n (2 ^ 127 - 1) h in
      writes_wider (IsNumeralOf n) (Reads setting names.prefix Fits Few vars (Num (pos n)) sort.Int) 1 1 (omega arith)
      (λ tree is. subst (λ u. Reads setting names.prefix Fits Few vars (Num (pos n)) sort.Int u) (sym is.1) (Stands.numeral (numbered_site names.prefix vars) is.0 (pos n))) (decimal n) (numeral_writes 1 n (omega arith))
  number_writes (negsuc n) h =
      let small = leb-true (suc n) (2 ^ 127 - 1) h in
      let digits : List ℕ = decimal (suc n) in
      group_writes (IsMinus (suc n)) (Reads setting names.prefix Fits Few vars (Num (negsuc n)) sort.Int) 0 (45 ∷ 32 ∷ digits)
      (λ place. begin_at 0 false (IsSymbolOf (codes "-")) (Begins (IsNumeralOf (suc n)) IsNone) place [] (codes "-") (32 ∷ digits) refl
      (bare_writes 0 (codes "-") refl refl (place + 0) (32 ∷ digits) refl)
      (last_at 0 false (IsNumeralOf (suc n)) (place + 0 + 1) (32 ∷ []) digits refl (numeral_writes 0 (suc n) (omega arith))))
      (minus_read n)
