-- How many variables the quantifiers of a term bind.
use Rattle.std.specs.Prelude.{◌≡◌, ℕ, ◌+◌, ◌≤◌, true, List, length}
use Rattle.chc_sorts.specs.declared.sort.Sort.{Sort}
use Rattle.chc_terms.specs.declared.term.Term.{Term, Term-F, fold-Term}
use Rattle.chc_terms.specs.Counts.{greatest}
use Rattle.chc_terms.specs.Sorted.{is_plain}
use Rattle.chc_sexpr.specs.Writing.{joined}
use Rattle.chc_print.specs.Texts.{Names, binder_texts, term_text}

abbrev pub bound_step : Term-F ℕ → ℕ
bound_step (Term-F.Var i) = 0
bound_step (Term-F.Num n) = 0
bound_step (Term-F.Lit b) = 0
bound_step (Term-F.App o parts) = greatest parts
bound_step (Term-F.Pred p parts) = greatest parts
bound_step (Term-F.Quant k sorts part) = length sorts + part
bound_step (Term-F.Call k parts) = greatest parts

-- how many variables the quantifiers of the term bind at one place in it, at most
abbrev pub most_bound : Term → ℕ
most_bound = fold-Term ℕ bound_step

-- a plain term binds none
abbrev pub PlainBindsNone : Type 0
PlainBindsNone = (t : Term) → is_plain t ≡ true → most_bound t ≡ 0

-- the text of a term has a byte at least for each of these variables
abbrev pub TextHoldsBound : Type 0
TextHoldsBound = (names : Names) (t : Term) (under : ℕ) → most_bound t ≤ length (term_text names t under)

-- the text of binders has a byte at least for each of their variables
abbrev pub BindersHoldTheirs : Type 0
BindersHoldTheirs = (names : Names) (i : ℕ) (sorts : List Sort) → length sorts ≤ length (joined (binder_texts names i sorts))
