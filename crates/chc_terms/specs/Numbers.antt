-- The numbers in a term.
use Rattle.std.specs.Prelude.{Bool, true, List}
use Rattle.std.specs.List.{list_all}
use Rattle.chc_values.specs.Ranges.{is_int_in_range}
use Rattle.chc_terms.specs.declared.term.Term.{Term, Term-F, fold-Term}

abbrev pub numbers_fit_step : Term-F Bool → Bool
numbers_fit_step (Term-F.Var i) = true
numbers_fit_step (Term-F.Num n) = is_int_in_range n
numbers_fit_step (Term-F.Lit b) = true
numbers_fit_step (Term-F.App o fits) = list_all (λ b. b) fits
numbers_fit_step (Term-F.Pred p fits) = list_all (λ b. b) fits
numbers_fit_step (Term-F.Quant k sorts fits) = fits
numbers_fit_step (Term-F.Call k fits) = list_all (λ b. b) fits

-- whether every number in the term is in range
abbrev pub numbers_fit : Term → Bool
numbers_fit = fold-Term Bool numbers_fit_step
