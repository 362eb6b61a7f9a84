-- The names of helpers can be written: a stem and digits.
use Rattle.std.proofs.Common.{◌≡◌, ◌∙◌, ap, refl, ℕ, true, List, [], ◌∷◌, ◌++◌, codes}
use Rattle.std.specs.Prelude.{decimal}
use Rattle.std.specs.List.{list_all}
use Rattle.std.proofs.lemmas.Bool.{and_from}
use Rattle.std.proofs.lemmas.List.Folds.{list_all-append}
use Rattle.chc_sexpr.specs.Spelling.{is_quotable}
use Rattle.chc_state.specs.Names.{is_writable_name}
use Rattle.chc_print.specs.Helpers.{AreHelpers}
use Rattle.term_again.proofs.Decimals.{decimal_quotable}
use Rattle.read_again.proofs.WrittenSorts.{quotable_name}

pub helpers_spelt : (used helpers : List (List ℕ)) → AreHelpers used (codes "goal!") helpers → list_all is_writable_name helpers ≡ true
helpers_spelt used [] h = refl
helpers_spelt used (name ∷ names) h =
    and_from (is_writable_name name) (list_all is_writable_name names)
    (quotable_name name ∙ ap (list_all is_quotable) h.0.form ∙ list_all-append is_quotable (codes "goal!") (decimal h.0.number) ∙ decimal_quotable h.0.number)
    (helpers_spelt (used ++ name ∷ []) names h.1)
