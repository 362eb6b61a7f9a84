-- Terms whose variables make room for others.
use Rattle.std.specs.Prelude.{ℕ, ◌+◌, ◌^◌, Bool, true, cond, nat_lt, List, map}
use Rattle.std.specs.List.{list_all}
use Rattle.chc_terms.specs.declared.term.Term.{Term, Term-F, fold-Term}
use Rattle.chc_terms.specs.declared.term.Term.TheVariants.{Var, Num, Lit, App, Pred, Quant, Call}

-- the number that a variable has once `up` others stand before the number `from`
abbrev pub moved : ℕ → ℕ → ℕ → ℕ
moved from up i = cond (nat_lt i from) i (i + up)

abbrev pub shift_step : ℕ → ℕ → Term-F Term → Term
shift_step from up (Term-F.Var i) = Var (moved from up i)
shift_step from up (Term-F.Num n) = Num n
shift_step from up (Term-F.Lit b) = Lit b
shift_step from up (Term-F.App o ts) = App o ts
shift_step from up (Term-F.Pred p ts) = Pred p ts
shift_step from up (Term-F.Quant k sorts t) = Quant k sorts t
shift_step from up (Term-F.Call k ts) = Call k ts

-- the term with `up` added to every variable's number from `from` on, bound ones too
abbrev pub shifted : Term → ℕ → ℕ → Term
shifted t from up = fold-Term Term (shift_step from up) t

abbrev pub shifted_all : List Term → ℕ → ℕ → List Term
shifted_all ts from up = map (λ t. shifted t from up) ts

abbrev pub can_shift_step : ℕ → ℕ → Term-F Bool → Bool
can_shift_step from up (Term-F.Var i) = nat_lt (moved from up i) (2 ^ 32)
can_shift_step from up (Term-F.Num n) = true
can_shift_step from up (Term-F.Lit b) = true
can_shift_step from up (Term-F.App o parts) = list_all (λ b. b) parts
can_shift_step from up (Term-F.Pred p parts) = list_all (λ b. b) parts
can_shift_step from up (Term-F.Quant k sorts part) = part
can_shift_step from up (Term-F.Call k parts) = list_all (λ b. b) parts

-- whether every variable's number is below 2^32 still once it has moved
abbrev pub can_shift : Term → ℕ → ℕ → Bool
can_shift t from up = fold-Term Bool (can_shift_step from up) t

abbrev pub can_shift_all : List Term → ℕ → ℕ → Bool
can_shift_all ts from up = list_all (λ b. b) (map (λ t. can_shift t from up) ts)
