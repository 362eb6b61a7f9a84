-- The texts of definitions: their lines, and that there is one.
use Rattle.std.proofs.Common.{◌≡◌, ◌∙◌, ◌⊎◌, inl, inr, sym, ap, subst, refl, ℕ, set, length-set, suc, ◌+◌, ◌<◌, List, [], ◌∷◌, ◌++◌, length, get_or, drop, append_assoc, drop-cons, add-one, Option, Some, None, slice_get, arith}
use Rattle.std.specs.Prelude.{codes, count_by, is_none}
use Rattle.std.proofs.lemmas.Bool.{cases_eq}
use Rattle.std.proofs.lemmas.Option.{slice_get_within}
use Rattle.chc_state.specs.declared.defs.Def.{Def}
use Rattle.chc_state.specs.declared.defs.Defs.{Defs}
use Rattle.chc_state.specs.States.{StateView}
use Rattle.chc_state.proofs.Places.{at-changed, at-unchanged, element-at, same_element, one_element}
use Rattle.chc_print.specs.Prefix.{used_names}
use Rattle.chc_print.specs.Script.{names_over}
use Rattle.chc_print.specs.Texts.{Names, name_at}
use Rattle.chc_print.proofs.HelperLaws.{one_list, one_naming}
use Rattle.chc_print.proofs.OneText.{one_prefix}
use Rattle.ans_model.specs.Texts.{AreOwners, IsDefsText, NamesDefinitions, called, definition_text, definitions_text, lines_of_defs}

-- a text with one more line, and the lines that are left
pub next_line : (names : Names) (k : ℕ) (defs : List Def) (d : Def) (out new whole : List ℕ)
    → k < length defs → d ≡ get_or defs k d
    → out ++ definitions_text names k (drop k defs) ≡ whole
    → new ≡ out ++ definition_text names (name_at names.calls k) d
    → new ++ definitions_text names (k + 1) (drop (k + 1) defs) ≡ whole
next_line names k defs d out new whole low is before grown =
    let line : List ℕ = definition_text names (name_at names.calls k) d in
    let rest : List ℕ = definitions_text names (k + 1) (drop (k + 1) defs) in
    let left : drop k defs ≡ d ∷ drop (k + 1) defs = drop-cons defs k d low ∙ (λ i. sym is i ∷ drop (sym (add-one k) i) defs) in
    ap (λ (text : List ℕ). text ++ rest) grown ∙ append_assoc out line rest
    ∙ ap (λ (ds : List Def). out ++ definitions_text names k ds) (sym left) ∙ before

-- lists of one length with the same elements are the same
same_lists : {X : Type 0} (xs ys : List X) → length xs ≡ length ys → ((k : ℕ) (x : X) → slice_get xs k ≡ Some x → slice_get ys k ≡ Some x) → xs ≡ ys
same_lists [] [] long same = refl
same_lists [] (y ∷ ys) long same = absurd (omega arith)
same_lists (x ∷ xs) [] long same = absurd (omega arith)
same_lists (x ∷ xs) (y ∷ ys) long same =
    let first : y ≡ x = same_element y x (same 0 x refl) in
    let rest : length xs ≡ length ys = omega arith in
    ap (λ z. z ∷ xs) (sym first) ∙ ap (λ zs. y ∷ zs) (same_lists xs ys rest (λ k z at. same (suc k) z at))

module _ (d : Defs) (one two : List (Option ℕ)) (p : AreOwners d one) (q : AreOwners d two) where
  owner_same : (k : ℕ) (o : Option ℕ) → slice_get one k ≡ Some o → slice_get two k ≡ Some o
  owner_same k (Some n) at = q.owned n k (p.only n k at)
  owner_same k None at = by (element-at two k inside)
    where
      inside : k < length two
      inside = let low = slice_get_within one k None at in let same = p.count in let other = q.count in omega arith

      by : (o : Option ℕ) × (slice_get two k ≡ Some o) → slice_get two k ≡ Some None
      by (None, there) = there
      by (Some n, there) = absurd (different n (one_element None (Some n) at (p.owned n k (q.only n k there))))
        where
          different : (n : ℕ) → None ≡ Some n → ⊥
          different n e = cc

  -- there is one list of owners
  one_owners : one ≡ two
  one_owners = let long : length one ≡ length two = (let p = p.count in let q = q.count in omega arith) in same_lists one two long owner_same

one_calling : (s : StateView) (names preds : List (List ℕ)) (d : Defs) (a b : List (List ℕ)) → NamesDefinitions s names preds d a → NamesDefinitions s names preds d b → a ≡ b
one_calling s names preds d a b p q =
    let owners = one_owners d p.owners q.owners p.owned q.owned in
    let counts : length p.lifts ≡ length q.lifts = p.count ∙ ap (count_by is_none) owners ∙ sym q.count in
    p.whole ∙ ap (λ os. called preds p.lifts 0 os) owners
    ∙ ap (λ ls. called preds ls 0 q.owners) (one_list (used_names s.sig names) (codes "lift!") p.lifts q.lifts p.are_next q.are_next counts) ∙ sym q.whole

-- the text of definitions is the only one
pub only_text : (d : Defs) (s : StateView) (names : List (List ℕ)) (text : List ℕ) → IsDefsText d s names text → (other : List ℕ) → IsDefsText d s names other → other ≡ text
only_text d s names text (p, m, c, is_p, is_m, is_c, e) other (q, n, b, is_q, is_n, is_b, f) =
    let prefixes = one_prefix (used_names s.sig names) q p is_q is_p in
    let namings = one_naming s names n m is_n is_m in
    let callings = one_calling s names m d b c (subst (λ x. NamesDefinitions s names x d b) namings is_b) is_c in
    f ∙ ap (λ x. lines_of_defs (names_over s n b x) d.list) prefixes
    ∙ ap (λ x. lines_of_defs (names_over s x b p) d.list) namings
    ∙ ap (λ x. lines_of_defs (names_over s m x p) d.list) callings ∙ sym e

-- the definitions of the predicates up to number n have their owners, and no others have
pub record AreOwned (d : Defs) (n : ℕ) (owners : List (Option ℕ)) : Type 0 where
  pub count : length owners ≡ length d.list
  pub owned : (q k : ℕ) → q < n → slice_get d.of q ≡ Some (Some k) → slice_get owners k ≡ Some (Some q)
  pub only : (q k : ℕ) → slice_get owners k ≡ Some (Some q) → slice_get d.of q ≡ Some (Some k)

up_to : (q n : ℕ) → q < n + 1 → (q < n) ⊎ (q ≡ n)
up_to q n low = elim (cases_eq q n) [ inl same ↦ inr same | inr ne ↦ (let less : q < n = omega arith in inl less) ]

module _ (d : Defs) (n : ℕ) (owners : List (Option ℕ)) (held : AreOwned d n owners) where
  -- the next predicate defines that definition, and no other predicate does
  pub owner_entered : (k : ℕ) → slice_get d.of n ≡ Some (Some k) → k < length d.list
      → ((p q j : ℕ) → slice_get d.of p ≡ Some (Some j) → slice_get d.of q ≡ Some (Some j) → p ≡ q)
      → AreOwned d (n + 1) (set owners k (Some n))
  owner_entered k here low apart = record { count = length-set owners k (Some n) ∙ held.count; owned = owned; only = only }
    where
      inside : k < length owners
      inside = (let count = held.count in omega arith)

      owned : (q j : ℕ) → q < n + 1 → slice_get d.of q ≡ Some (Some j) → slice_get (set owners k (Some n)) j ≡ Some (Some q)
      owned q j less at = elim (cases_eq j k) [
        | inl same ↦
            let is : q ≡ n = apart q n j at (here ∙ ap (λ m. Some (Some m)) (sym same)) in
            ap (slice_get (set owners k (Some n))) same ∙ at-changed owners k (Some n) inside ∙ ap (λ m. Some (Some m)) (sym is)
        | inr ne ↦ at-unchanged owners k j (Some n) ne ∙ elim (up_to q n less) [
          | inl before ↦ held.owned q j before at
          | inr is ↦ absurd (ne (same_element j k (same_element (Some j) (Some k) (sym at ∙ ap (slice_get d.of) is ∙ here))))
        ]
      ]

      only : (q j : ℕ) → slice_get (set owners k (Some n)) j ≡ Some (Some q) → slice_get d.of q ≡ Some (Some j)
      only q j at = elim (cases_eq j k) [
        | inl same ↦
            let is : n ≡ q =
            same_element n q (same_element (Some n) (Some q) (sym (at-changed owners k (Some n) inside) ∙ ap (slice_get (set owners k (Some n))) (sym same) ∙ at)) in
            ap (slice_get d.of) (sym is) ∙ here ∙ ap (λ m. Some (Some m)) (sym same)
        | inr ne ↦ held.only q j (sym (at-unchanged owners k j (Some n) ne) ∙ at)
      ]

  -- the next predicate has no definition
  pub owner_passed : slice_get d.of n ≡ Some None → AreOwned d (n + 1) owners
  owner_passed none = record {
    count = held.count;
    owned = λ q k less at. elim (up_to q n less) [
      | inl before ↦ held.owned q k before at
      | inr is ↦ absurd (different k (same_element None (Some k) (sym none ∙ ap (slice_get d.of) (sym is) ∙ at)))
    ];
    only = held.only;
  }
    where
      different : (k : ℕ) → None ≡ Some k → ⊥
      different k e = cc
