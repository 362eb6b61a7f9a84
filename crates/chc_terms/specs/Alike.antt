-- Tests of equal operators and terms.
use Rattle.std.specs.Prelude.{Bool, true, false, ◌&&◌, nat_eq, List, [], ◌∷◌, map}
use Rattle.std.specs.Ordering.{int_eq}
use Rattle.std.proofs.Math.Bool.{beq}
use Rattle.chc_sorts.specs.declared.op.Op.{Op}
use Rattle.chc_sorts.specs.declared.op.Op.TheVariants as op
use Rattle.chc_sorts.specs.Sorts.{same_sort, same_sorts}
use Rattle.chc_terms.specs.declared.term.Kind.{Kind}
use Rattle.chc_terms.specs.declared.term.Kind.TheVariants as kind
use Rattle.chc_terms.specs.declared.term.Term.{Term, Term-F, fold-Term, out-Term}

-- whether the two are the same quantifier
abbrev pub same_kind : Kind → Kind → Bool
same_kind kind.Forall kind.Forall = true
same_kind kind.Exists kind.Exists = true
same_kind k l = false

-- whether the two are the same operator
abbrev pub same_op : Op → Op → Bool
same_op op.Not op.Not = true
same_op op.And op.And = true
same_op op.Or op.Or = true
same_op op.Eq op.Eq = true
same_op op.Ite op.Ite = true
same_op op.Add op.Add = true
same_op op.Sub op.Sub = true
same_op op.Mul op.Mul = true
same_op op.Div op.Div = true
same_op op.Mod op.Mod = true
same_op op.Le op.Le = true
same_op op.Lt op.Lt = true
same_op op.Select op.Select = true
same_op op.Store op.Store = true
same_op (op.Const s) (op.Const t) = same_sort s t
same_op (op.Make d c) (op.Make e b) = nat_eq d e && nat_eq c b
same_op (op.Get d c i) (op.Get e b j) = nat_eq d e && nat_eq c b && nat_eq i j
same_op (op.Is d c) (op.Is e b) = nat_eq d e && nat_eq c b
same_op o p = false

-- whether each of the terms is the one at its place, and there are as many
abbrev pub same_each : List (Term → Bool) → List Term → Bool
same_each [] [] = true
same_each [] (u ∷ us) = false
same_each (same ∷ more) [] = false
same_each (same ∷ more) (u ∷ us) = same u && same_each more us

-- one level of `same_term`
abbrev pub same_level : Term-F (Term → Bool) → Term-F Term → Bool
same_level (Term-F.Var i) (Term-F.Var j) = nat_eq i j
same_level (Term-F.Num m) (Term-F.Num n) = int_eq m n
same_level (Term-F.Lit a) (Term-F.Lit b) = beq a b
same_level (Term-F.App o same) (Term-F.App p us) = same_op o p && same_each same us
same_level (Term-F.Pred p same) (Term-F.Pred q us) = nat_eq p q && same_each same us
same_level (Term-F.Quant k sorts same) (Term-F.Quant l others u) = same_kind k l && same_sorts sorts others && same u
same_level (Term-F.Call k same) (Term-F.Call l us) = nat_eq k l && same_each same us
same_level x y = false

-- whether the two are the same term
abbrev pub same_term : Term → Term → Bool
same_term = fold-Term (Term → Bool) (λ level t. same_level level (out-Term t))

-- whether the two lists have the same terms in order
abbrev pub same_terms : List Term → List Term → Bool
same_terms ts = same_each (map same_term ts)
