-- The equations of `is_unquantified`, for the proof of the test of it.
use Rattle.chc_terms.proofs.SortLaws.{is_unquantified-Var, is_unquantified-Num, is_unquantified-Lit, is_unquantified-App, is_unquantified-Pred, is_unquantified-Quant, is_unquantified-Call}

pub ruleset unquantified_equations = (is_unquantified-Var, is_unquantified-Num, is_unquantified-Lit, is_unquantified-App, is_unquantified-Pred, is_unquantified-Quant, is_unquantified-Call)
