-- The names of the limits.
use Rattle.std.specs.Prelude.{ℕ, List, codes}
use Rattle.chc_sorts.specs.declared.limit.Limit.{Limit}
use Rattle.chc_sorts.specs.declared.limit.Limit.TheVariants.{L1, L2, L3, L4, L5, L6, L7, L8, L9, L10, L11, L12, L13, L14, L15, L16}

-- the name of a limit, as a fault that tells of it has it
abbrev pub limit_name : Limit → List ℕ
limit_name L1 = codes "L1"
limit_name L2 = codes "L2"
limit_name L3 = codes "L3"
limit_name L4 = codes "L4"
limit_name L5 = codes "L5"
limit_name L6 = codes "L6"
limit_name L7 = codes "L7"
limit_name L8 = codes "L8"
limit_name L9 = codes "L9"
limit_name L10 = codes "L10"
limit_name L11 = codes "L11"
limit_name L12 = codes "L12"
limit_name L13 = codes "L13"
limit_name L14 = codes "L14"
limit_name L15 = codes "L15"
limit_name L16 = codes "L16"
