-- How large terms may be.
use Rattle.std.specs.Prelude.{ℕ}

-- how many nodes a term may have
abbrev pub most_nodes : ℕ
most_nodes = 262144

-- how deep a term may be
abbrev pub most_levels : ℕ
most_levels = 900
