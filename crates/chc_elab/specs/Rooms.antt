-- How far variable numbers reach.
use Rattle.std.specs.Prelude.{ℕ, ◌+◌, ◌-◌, ◌<◌, ◌≤◌, ◌^◌, max, List, map, All}
use Rattle.chc_terms.specs.declared.term.Term.{Term, Term-F, fold-Term}
use Rattle.chc_terms.specs.Counts.{greatest}
use Rattle.chc_elab.specs.declared.typed.Typed.{Typed}
use Rattle.chc_elab.specs.Sites.{Local, Site}

abbrev pub reach_step : Term-F ℕ → ℕ
reach_step (Term-F.Var i) = i + 1
reach_step (Term-F.Num n) = 0
reach_step (Term-F.Lit b) = 0
reach_step (Term-F.App o ns) = greatest ns
reach_step (Term-F.Pred p ns) = greatest ns
reach_step (Term-F.Quant k sorts n) = n
reach_step (Term-F.Call k ns) = greatest ns

-- 1 more than the greatest number of a variable in the term
unfoldable pub reach : Term → ℕ
reach = fold-Term ℕ reach_step

-- how far a local reaches, once it is moved under so many variables
abbrev pub local_reach : ℕ → Local → ℕ
local_reach variables l = reach l.value.term + (variables - l.under)

-- how far the variables of a site and its locals reach
abbrev pub site_reach : Site → ℕ
site_reach site = max site.variables (greatest (map (local_reach site.variables) site.locals))

-- the locals stand under variables of the site, and with so many variables more, all numbers are below 2^32
pub record HasRoom (site : Site) (more : ℕ) : Type 0 where
  pub under : All (λ (l : Local). l.under ≤ site.variables) site.locals
  pub fits : site_reach site + more < 2 ^ 32
