-- The laws of all operators, from those of the operators on datatypes, and these where there is no datatype.
use Rattle.std.proofs.Common.{◌≡◌, ℕ, List, [], Some, None, sym, ◌∙◌}
use Rattle.std.proofs.lemmas.Option.{none-some}
use Rattle.chc_sorts.specs.declared.sort.Sort.{Sort}
use Rattle.chc_sorts.specs.declared.op.Op.TheVariants as op
use Rattle.chc_sorts.specs.Signature.{Signature}
use Rattle.chc_values.specs.declared.world.WorldEntry.{WorldEntry}
use Rattle.chc_values.specs.Worlds.{KeysOnce}
use Rattle.chc_terms.specs.Sorted.{op_sort, fields_of}
use Rattle.chc_terms.proofs.OperatorShapes.{OperatorFits, OperatorAnswers, OperatorsFit, OperatorsAnswer, led_on}
use Rattle.chc_terms.proofs.PlainOperators.{not_fits, not_answers, eq_fits, eq_answers, add_fits, add_answers, sub_fits, sub_answers, mul_fits, mul_answers, div_fits, div_answers, mod_fits, mod_answers, le_fits, le_answers, lt_fits, lt_answers}
use Rattle.chc_terms.proofs.ArrayOperators.{select_fits, select_answers, store_fits, store_answers, const_fits, const_answers}

-- the laws of the operators on datatypes
pub record DatatypesFit (sig : Signature) (w : List WorldEntry) : Type 0 where
  pub make_fits : (d c : ℕ) → OperatorFits sig w (op.Make d c)
  pub get_fits : (d c i : ℕ) → OperatorFits sig w (op.Get d c i)
  pub is_fits : (d c : ℕ) → OperatorFits sig w (op.Is d c)

pub record DatatypesAnswer (sig : Signature) (w : List WorldEntry) : Type 0 where
  pub make_answers : (d c : ℕ) → OperatorAnswers sig w (op.Make d c)
  pub get_answers : (d c i : ℕ) → OperatorAnswers sig w (op.Get d c i)
  pub is_answers : (d c : ℕ) → OperatorAnswers sig w (op.Is d c)

module _ (sig : Signature) (w : List WorldEntry) where
  pub operators_fit : KeysOnce w → DatatypesFit sig w → OperatorsFit sig w
  operators_fit k d op.Not = not_fits sig w
  operators_fit k d op.And = record { one = λ sorts s h vs a u v x y. absurd x; of = λ sorts s h vs a v x. absurd x }
  operators_fit k d op.Or = record { one = λ sorts s h vs a u v x y. absurd x; of = λ sorts s h vs a v x. absurd x }
  operators_fit k d op.Eq = eq_fits sig w
  operators_fit k d op.Ite = record { one = λ sorts s h vs a u v x y. absurd x; of = λ sorts s h vs a v x. absurd x }
  operators_fit k d op.Add = add_fits sig w
  operators_fit k d op.Sub = sub_fits sig w
  operators_fit k d op.Mul = mul_fits sig w
  operators_fit k d op.Div = div_fits sig w k
  operators_fit k d op.Mod = mod_fits sig w k
  operators_fit k d op.Le = le_fits sig w
  operators_fit k d op.Lt = lt_fits sig w
  operators_fit k d op.Select = select_fits sig w
  operators_fit k d op.Store = store_fits sig w
  operators_fit k d (op.Const element) = const_fits sig w element
  operators_fit k d (op.Make e c) = d.make_fits e c
  operators_fit k d (op.Get e c i) = d.get_fits e c i
  operators_fit k d (op.Is e c) = d.is_fits e c

  pub operators_answer : DatatypesAnswer sig w → OperatorsAnswer sig w
  operators_answer d op.Not s = not_answers sig w
  operators_answer d op.And s = absurd s
  operators_answer d op.Or s = absurd s
  operators_answer d op.Eq s = eq_answers sig w
  operators_answer d op.Ite s = absurd s
  operators_answer d op.Add s = add_answers sig w
  operators_answer d op.Sub s = sub_answers sig w
  operators_answer d op.Mul s = mul_answers sig w
  operators_answer d op.Div s = div_answers sig w
  operators_answer d op.Mod s = mod_answers sig w
  operators_answer d op.Le s = le_answers sig w
  operators_answer d op.Lt s = lt_answers sig w
  operators_answer d op.Select s = select_answers sig w
  operators_answer d op.Store s = store_answers sig w
  operators_answer d (op.Const element) s = const_answers sig w element
  operators_answer d (op.Make e c) s = d.make_answers e c
  operators_answer d (op.Get e c i) s = d.get_answers e c i
  operators_answer d (op.Is e c) s = d.is_answers e c

  -- no operator on datatypes has a sort where there is no datatype
  module _ (none : sig.datatypes ≡ []) where
    no_fields : (d c : ℕ) → fields_of sig d c ≡ None
    no_fields d c = rw none

    no_make : (d c : ℕ) (sorts : List Sort) (s : Sort) → op_sort sig (op.Make d c) sorts ≡ Some s → ⊥
    no_make d c sorts s h = let t = led_on _ (fields_of sig d c) s h in none-some t.0 (sym (no_fields d c) ∙ t.1)

    no_get : (d c i : ℕ) (sorts : List Sort) (s : Sort) → op_sort sig (op.Get d c i) sorts ≡ Some s → ⊥
    no_get d c i sorts s h = let t = led_on _ (fields_of sig d c) s h in none-some t.0 (sym (no_fields d c) ∙ t.1)

    no_is : (d c : ℕ) (sorts : List Sort) (s : Sort) → op_sort sig (op.Is d c) sorts ≡ Some s → ⊥
    no_is d c sorts s h = none-some s (let e : op_sort sig (op.Is d c) sorts ≡ None = rw none in sym e ∙ h)

    pub no_datatypes_answer : DatatypesAnswer sig w
    no_datatypes_answer = record {
      make_answers = λ d c sorts s h vs a. absurd (no_make d c sorts s h);
      get_answers = λ d c i sorts s h vs a. absurd (no_get d c i sorts s h);
      is_answers = λ d c sorts s h vs a. absurd (no_is d c sorts s h);
    }
