-- Which definitions are read again where they are written.
use Rattle.std.specs.Prelude.{◌≡◌, ◌≤◌, ℕ, IsTrue, length, Some, slice_get}
use Rattle.chc_terms.specs.Counts.{size, depth}
use Rattle.chc_terms.specs.Numbers.{numbers_fit}
use Rattle.chc_elab.specs.Limits.{most_nodes, most_levels}
use Rattle.chc_state.specs.declared.defs.Def.{Def}
use Rattle.chc_state.specs.declared.defs.Defs.{Defs}
use Rattle.ans_model.specs.Drafts.{most_definitions}

-- the body is no larger and no deeper than a term may be, and its numbers are in range
pub record IsReadable (d : Def) : Type 0 where
  pub few_nodes : size d.body ≤ most_nodes
  pub few_levels : depth d.body ≤ most_levels
  pub numbers : IsTrue (numbers_fit d.body)

-- no more definitions than an answer may have, each of them readable
pub record AreReadable (d : Defs) : Type 0 where
  pub few : length d.list ≤ most_definitions
  pub each : (k : ℕ) (def : Def) → slice_get d.list k ≡ Some def → IsReadable def
