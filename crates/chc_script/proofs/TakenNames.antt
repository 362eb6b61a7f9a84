-- Names that functions have.
use Rattle.std.proofs.Common.{◌≡◌, ℕ, Bool, true, false, ◌||◌, cond, List, [], ◌∷◌, ◌++◌, map, Some, codes, refl, ap, sym, ◌∙◌}
use Rattle.std.specs.Prelude.{is_some}
use Rattle.std.specs.Str.{bytes_eq}
use Rattle.std.proofs.lemmas.List.Folds.{list_any-append}
use Rattle.std.proofs.lemmas.Slice.Eq.{bytes_eq-Decides}
use Rattle.chc_sorts.specs.declared.op_table.ReadOp.{ReadOp}
use Rattle.chc_sorts.specs.Signature.{Signature}
use Rattle.chc_sorts.specs.Names.{has_name, look_up}
use Rattle.chc_sorts.specs.Operators.{operator_rows, op_named}
use Rattle.chc_sorts.specs.Functions.{functions, function_names, meaning_of}
use Rattle.chc_sorts.specs.Groups.{fixed_functions}

-- bytes compare the same in either order
bytes_eq-sym : (xs ys : List ℕ) → bytes_eq xs ys ≡ bytes_eq ys xs
bytes_eq-sym xs ys = by (bytes_eq xs ys) (bytes_eq ys xs) refl refl
  where
    by : (b d : Bool) → bytes_eq xs ys ≡ b → bytes_eq ys xs ≡ d → b ≡ d
    by true true p q = refl
    by true false p q = sym ((bytes_eq-Decides ys xs).1 (sym ((bytes_eq-Decides xs ys).0 p))) ∙ q
    by false true p q = sym p ∙ (bytes_eq-Decides xs ys).1 (sym ((bytes_eq-Decides ys xs).0 q))
    by false false p q = refl

-- a name has a row where something stands under it
pub has_row : {X : Type 0} (rows : List (List ℕ × X)) (name : List ℕ) → is_some (look_up rows name) ≡ has_name (map (λ (row : List ℕ × X). row.0) rows) name
has_row [] name = refl
has_row {X} (row ∷ rows) name = ap (λ b. is_some (cond b (Some row.1) (look_up rows name))) (bytes_eq-sym row.0 name) ∙ by (bytes_eq name row.0) (has_row rows name)
  where
    by : (b : Bool) → is_some (look_up rows name) ≡ has_name (map (λ (row : List ℕ × X). row.0) rows) name
        → is_some (cond b (Some row.1) (look_up rows name)) ≡ (b || has_name (map (λ (row : List ℕ × X). row.0) rows) name)
    by true e = refl
    by false e = e

-- the fixed names
pub fixed_is_true : (name : List ℕ) → bytes_eq name (codes "true") ≡ true → true ≡ has_name fixed_functions name
unfolding fixed_functions
fixed_is_true name e = sym (ap (λ b. b || has_name (codes "false" ∷ map (λ (row : List ℕ × ReadOp). row.0) operator_rows) name) e)

pub fixed_is_false : (name : List ℕ) → bytes_eq name (codes "true") ≡ false → bytes_eq name (codes "false") ≡ true → true ≡ has_name fixed_functions name
unfolding fixed_functions
fixed_is_false name p e =
    sym (ap (λ b. b || has_name (codes "false" ∷ map (λ (row : List ℕ × ReadOp). row.0) operator_rows) name) p
    ∙ ap (λ b. b || has_name (map (λ (row : List ℕ × ReadOp). row.0) operator_rows) name) e)

behind_two : (a b d : Bool) → a ≡ false → b ≡ false → d ≡ (a || (b || d))
behind_two a b d p q = sym (ap (λ x. x || (b || d)) p ∙ ap (λ x. x || d) q)

pub fixed_is_operator : (name : List ℕ) → bytes_eq name (codes "true") ≡ false → bytes_eq name (codes "false") ≡ false → is_some (op_named name) ≡ has_name fixed_functions name
unfolding fixed_functions
fixed_is_operator name p q = has_row operator_rows name ∙ behind_two (bytes_eq name (codes "true")) (bytes_eq name (codes "false")) (has_name (map (λ (row : List ℕ × ReadOp). row.0) operator_rows) name) p q

-- a name of a function: a fixed one, one of the signature, or a predicate's
pub taken_by : (sig : Signature) (names : List (List ℕ)) (name : List ℕ)
    → has_name (fixed_functions ++ function_names sig ++ names) name ≡ (has_name fixed_functions name || is_some (meaning_of sig name) || has_name names name)
taken_by sig names name =
    list_any-append (bytes_eq name) (fixed_functions ++ function_names sig) names
    ∙ ap (λ b. b || has_name names name) (list_any-append (bytes_eq name) fixed_functions (function_names sig) ∙ ap (λ b. has_name fixed_functions name || b) (sym (has_row (functions sig) name)))
