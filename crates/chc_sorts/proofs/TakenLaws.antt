-- Names that are taken, and names that are declared.
use Rattle.std.proofs.Common.{◌≡◌, ℕ, Bool, true, false, ◌||◌, cond, List, [], ◌∷◌, ◌++◌, map, Option, Some, option_map, codes, refl, ap, sym, ◌∙◌}
use Rattle.std.specs.Prelude.{is_some}
use Rattle.std.specs.Str.{bytes_eq}
use Rattle.std.proofs.lemmas.List.Folds.{list_any-append}
use Rattle.chc_sorts.specs.declared.op_table.ReadOp.{ReadOp}
use Rattle.chc_sorts.specs.declared.taken.NameSpaces.{NameSpaces}
use Rattle.chc_sorts.specs.declared.refusal.SigErr.TheVariants as refusal
use Rattle.chc_sorts.specs.Signature.{Signature}
use Rattle.chc_sorts.specs.Names.{has_name, look_up}
use Rattle.chc_sorts.specs.Operators.{operator_rows, op_named}
use Rattle.chc_sorts.specs.Groups.{Declared, first_taken, fixed_functions}
use Rattle.chc_sorts.specs.Checks.{HaveSameNames, taken_with, name_found}
use Rattle.std.proofs.lemmas.Slice.Eq.{bytes_eq-Decides}
use Rattle.chc_sorts.proofs.Rows.{bytes_eq-sym}

-- a name has a row where something stands under it
has_row : {X : Type 0} (rows : List (List ℕ × X)) (name : List ℕ) → is_some (look_up rows name) ≡ has_name (map (λ (row : List ℕ × X). row.0) rows) name
has_row [] name = refl
has_row {X} (row ∷ rows) name = ap (λ b. is_some (cond b (Some row.1) (look_up rows name))) (bytes_eq-sym row.0 name) ∙ by (bytes_eq name row.0) (has_row rows name)
  where
    by : (b : Bool) → is_some (look_up rows name) ≡ has_name (map (λ (row : List ℕ × X). row.0) rows) name
        → is_some (cond b (Some row.1) (look_up rows name)) ≡ (b || has_name (map (λ (row : List ℕ × X). row.0) rows) name)
    by true e = refl
    by false e = e

behind_two : (a b d : Bool) → a ≡ false → b ≡ false → d ≡ (a || (b || d))
behind_two a b d p q = sym (ap (λ x. x || (b || d)) p ∙ ap (λ x. x || d) q)

-- the fixed names of functions
pub fixed_is_true : (name : List ℕ) → bytes_eq name (codes "true") ≡ true → true ≡ has_name fixed_functions name
unfolding fixed_functions
fixed_is_true name e = sym (ap (λ b. b || has_name (codes "false" ∷ map (λ (row : List ℕ × ReadOp). row.0) operator_rows) name) e)

pub fixed_is_false : (name : List ℕ) → bytes_eq name (codes "true") ≡ false → bytes_eq name (codes "false") ≡ true → true ≡ has_name fixed_functions name
unfolding fixed_functions
fixed_is_false name p e =
    sym (ap (λ b. b || has_name (codes "false" ∷ map (λ (row : List ℕ × ReadOp). row.0) operator_rows) name) p
    ∙ ap (λ b. b || has_name (map (λ (row : List ℕ × ReadOp). row.0) operator_rows) name) e)

pub fixed_is_operator : (name : List ℕ) → bytes_eq name (codes "true") ≡ false → bytes_eq name (codes "false") ≡ false → is_some (op_named name) ≡ has_name fixed_functions name
unfolding fixed_functions
fixed_is_operator name p q = has_row operator_rows name ∙ behind_two (bytes_eq name (codes "true")) (bytes_eq name (codes "false")) (has_name (map (λ (row : List ℕ × ReadOp). row.0) operator_rows) name) p q

-- a name of two lists, of three, or of four
pub has_two : (xs ys : List (List ℕ)) (name : List ℕ) → has_name (xs ++ ys) name ≡ (has_name xs name || has_name ys name)
has_two xs ys name = list_any-append (bytes_eq name) xs ys

pub has_three : (xs ys zs : List (List ℕ)) (name : List ℕ) → has_name (xs ++ ys ++ zs) name ≡ (has_name xs name || has_name ys name || has_name zs name)
has_three xs ys zs name = list_any-append (bytes_eq name) (xs ++ ys) zs ∙ ap (λ b. b || has_name zs name) (list_any-append (bytes_eq name) xs ys)

pub has_four : (xs ys zs us : List (List ℕ)) (name : List ℕ) → has_name (xs ++ ys ++ zs ++ us) name ≡ (has_name xs name || has_name ys name || has_name zs name || has_name us name)
has_four xs ys zs us name = list_any-append (bytes_eq name) (xs ++ ys ++ zs) us ∙ ap (λ b. b || has_name us name) (has_three xs ys zs name)

rejoin : {X : Type 0} (xs ys zs : List X) → (xs ++ ys) ++ zs ≡ xs ++ (ys ++ zs)
rejoin [] ys zs = refl
rejoin (x ∷ xs) ys zs = ap (λ l. x ∷ l) (rejoin xs ys zs)

-- what is found at a name that is taken, and at one that is free
module _ (sig : Signature) (preds : List (List ℕ)) (own : NameSpaces) (name : List ℕ) (more : List Declared) where
  pub sort_taken : has_name (taken_with sig preds own).sorts name ≡ true → name_found sig preds own (Declared.of_sort name ∷ more) ≡ Some (refusal.NameTaken name)
  sort_taken e = ap (λ b. option_map (λ n. refusal.NameTaken n) (cond b (Some name) (first_taken (record { sorts = (taken_with sig preds own).sorts ++ name ∷ []; functions = (taken_with sig preds own).functions }) more))) e

  pub function_taken : has_name (taken_with sig preds own).functions name ≡ true → name_found sig preds own (Declared.of_function name ∷ more) ≡ Some (refusal.NameTaken name)
  function_taken e = ap (λ b. option_map (λ n. refusal.NameTaken n) (cond b (Some name) (first_taken (record { sorts = (taken_with sig preds own).sorts; functions = (taken_with sig preds own).functions ++ name ∷ [] }) more))) e

  pub sort_free : (new : NameSpaces) → new.sorts ≡ own.sorts ++ name ∷ [] → new.functions ≡ own.functions → has_name (taken_with sig preds own).sorts name ≡ false
      → name_found sig preds own (Declared.of_sort name ∷ more) ≡ name_found sig preds new more
  sort_free new s f e =
      ap (λ b. option_map (λ n. refusal.NameTaken n) (cond b (Some name) (first_taken (record { sorts = (taken_with sig preds own).sorts ++ name ∷ []; functions = (taken_with sig preds own).functions }) more))) e
      ∙ ap (λ (l : List (List ℕ)). option_map (λ n. refusal.NameTaken n) (first_taken (record { sorts = l; functions = (taken_with sig preds own).functions }) more)) (rejoin _ own.sorts (name ∷ []))
      ∙ ap (λ (o : NameSpaces). name_found sig preds o more) (λ i. record { sorts = sym s i; functions = sym f i })

  pub function_free : (new : NameSpaces) → new.functions ≡ own.functions ++ name ∷ [] → new.sorts ≡ own.sorts → has_name (taken_with sig preds own).functions name ≡ false
      → name_found sig preds own (Declared.of_function name ∷ more) ≡ name_found sig preds new more
  function_free new f s e =
      ap (λ b. option_map (λ n. refusal.NameTaken n) (cond b (Some name) (first_taken (record { sorts = (taken_with sig preds own).sorts; functions = (taken_with sig preds own).functions ++ name ∷ [] }) more))) e
      ∙ ap (λ (l : List (List ℕ)). option_map (λ n. refusal.NameTaken n) (first_taken (record { sorts = (taken_with sig preds own).sorts; functions = l }) more)) (rejoin _ own.functions (name ∷ []))
      ∙ ap (λ (o : NameSpaces). name_found sig preds o more) (λ i. record { sorts = sym s i; functions = sym f i })

or_true : {a : Bool} → a ≡ true → a ≡ (a || true)
or_true e = e ∙ sym (ap (λ b. b || true) e)

or_false : (a : Bool) → a ≡ (a || false)
or_false true = refl
or_false false = refl

-- a name that is there already adds none
pub same_with : (names : List (List ℕ)) (name : List ℕ) → has_name names name ≡ true → HaveSameNames names (names ++ name ∷ [])
same_with names name h other = by (bytes_eq other name) refl ∙ sym (list_any-append (bytes_eq other) names (name ∷ []))
  where
    by : (b : Bool) → bytes_eq other name ≡ b → has_name names other ≡ (has_name names other || (b || false))
    by true e = or_true (ap (has_name names) ((bytes_eq-Decides other name).0 e) ∙ h)
    by false e = or_false (has_name names other)

-- one more name on either side
pub same_more : (xs ys : List (List ℕ)) (name : List ℕ) → HaveSameNames xs ys → HaveSameNames (xs ++ name ∷ []) (ys ++ name ∷ [])
same_more xs ys name h other = has_two xs (name ∷ []) other ∙ ap (λ b. b || has_name (name ∷ []) other) (h other) ∙ sym (has_two ys (name ∷ []) other)

-- what is taken hangs on the names alone
pub first_taken_same : (xs : List Declared) (a b : NameSpaces) → HaveSameNames a.sorts b.sorts → HaveSameNames a.functions b.functions → first_taken a xs ≡ first_taken b xs
first_taken_same [] a b s f = refl
first_taken_same (Declared.of_sort name ∷ xs) a b s f =
    ap (λ t. cond t (Some name) (first_taken (record { sorts = a.sorts ++ name ∷ []; functions = a.functions }) xs)) (s name)
    ∙ ap (λ (o : Option (List ℕ)). cond (has_name b.sorts name) (Some name) o) (first_taken_same xs (record { sorts = a.sorts ++ name ∷ []; functions = a.functions }) (record { sorts = b.sorts ++ name ∷ []; functions = b.functions }) (same_more a.sorts b.sorts name s) f)
first_taken_same (Declared.of_function name ∷ xs) a b s f =
    ap (λ t. cond t (Some name) (first_taken (record { sorts = a.sorts; functions = a.functions ++ name ∷ [] }) xs)) (f name)
    ∙ ap (λ (o : Option (List ℕ)). cond (has_name b.functions name) (Some name) o) (first_taken_same xs (record { sorts = a.sorts; functions = a.functions ++ name ∷ [] }) (record { sorts = b.sorts; functions = b.functions ++ name ∷ [] }) s (same_more a.functions b.functions name f))
