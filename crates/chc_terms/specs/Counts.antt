-- What is counted of a term. Leaves have size and depth 1, and every other node adds 1.
use Rattle.std.specs.Prelude.{ℕ, ◌+◌, max, cond, nat_eq, List, [], ◌∷◌, map, sum}
use Rattle.chc_terms.specs.declared.term.Term.{Term, Term-F, fold-Term}

-- the greatest of the numbers, or 0
abbrev pub greatest : List ℕ → ℕ
greatest [] = 0
greatest (n ∷ ns) = max n (greatest ns)

abbrev pub size_step : Term-F ℕ → ℕ
size_step (Term-F.Var i) = 1
size_step (Term-F.Num n) = 1
size_step (Term-F.Lit b) = 1
size_step (Term-F.App o ns) = sum ns + 1
size_step (Term-F.Pred p ns) = sum ns + 1
size_step (Term-F.Quant k sorts n) = n + 1
size_step (Term-F.Call k ns) = sum ns + 1

-- how many nodes the term has
abbrev pub size : Term → ℕ
size = fold-Term ℕ size_step

abbrev pub depth_step : Term-F ℕ → ℕ
depth_step (Term-F.Var i) = 1
depth_step (Term-F.Num n) = 1
depth_step (Term-F.Lit b) = 1
depth_step (Term-F.App o ns) = greatest ns + 1
depth_step (Term-F.Pred p ns) = greatest ns + 1
depth_step (Term-F.Quant k sorts n) = n + 1
depth_step (Term-F.Call k ns) = greatest ns + 1

-- how many nodes a longest branch has
abbrev pub depth : Term → ℕ
depth = fold-Term ℕ depth_step

abbrev pub size_all : List Term → ℕ
size_all ts = sum (map size ts)

abbrev pub depth_all : List Term → ℕ
depth_all ts = greatest (map depth ts)

abbrev pub occurrences_step : ℕ → Term-F ℕ → ℕ
occurrences_step var (Term-F.Var i) = cond (nat_eq i var) 1 0
occurrences_step var (Term-F.Num n) = 0
occurrences_step var (Term-F.Lit b) = 0
occurrences_step var (Term-F.App o ns) = sum ns
occurrences_step var (Term-F.Pred p ns) = sum ns
occurrences_step var (Term-F.Quant k sorts n) = n
occurrences_step var (Term-F.Call k ns) = sum ns

-- how many nodes of the term are the variable of that number
abbrev pub occurrences : ℕ → Term → ℕ
occurrences var = fold-Term ℕ (occurrences_step var)

abbrev pub occurrences_all : ℕ → List Term → ℕ
occurrences_all var ts = sum (map (occurrences var) ts)
