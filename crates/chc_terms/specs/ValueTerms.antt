-- Which terms are value terms.
use Rattle.std.specs.Prelude.{Bool, true, false, ◌&&◌}
use Rattle.std.specs.List.{list_all}
use Rattle.chc_sorts.specs.declared.op.Op.{Op}
use Rattle.chc_sorts.specs.declared.op.Op.TheVariants as op
use Rattle.chc_terms.specs.declared.term.Term.{Term, Term-F, fold-Term}

-- whether the operator makes a datatype's value
abbrev pub is_make : Op → Bool
is_make (op.Make d c) = true
is_make o = false

abbrev pub is_value_step : Term-F Bool → Bool
is_value_step (Term-F.Var i) = false
is_value_step (Term-F.Num n) = true
is_value_step (Term-F.Lit b) = true
is_value_step (Term-F.App o parts) = is_make o && list_all (λ b. b) parts
is_value_step (Term-F.Pred p parts) = false
is_value_step (Term-F.Quant k sorts part) = false
is_value_step (Term-F.Call k parts) = false

-- whether the term is a number, a truth value, or a constructor over value terms
abbrev pub is_value_term : Term → Bool
is_value_term = fold-Term Bool is_value_step
