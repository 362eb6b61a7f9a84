-- Sizes of lists of terms.
use Rattle.std.proofs.Common.{◌≡◌, ◌≤◌, ◌+◌, max, [], ◌∷◌, ◌++◌, List, map, arith}
use Rattle.std.proofs.lemmas.List.Sums.{sum_by-append}
use Rattle.chc_terms.specs.declared.term.Term.{Term}
use Rattle.chc_terms.specs.Counts.{size, size_all, depth, depth_all}
use Rattle.chc_terms.proofs.CountLaws.{size_all-cons}

pub size_all-append : (ts us : List Term) → size_all (ts ++ us) ≡ size_all ts + size_all us
size_all-append [] us = omega arith
size_all-append (t ∷ ts) us =
    let whole = size_all-cons t (ts ++ us) in
    let part = size_all-cons t ts in
    let rest = size_all-append ts us in
    omega arith

pub size_all-one : (t : Term) → size_all (t ∷ []) ≡ size t
size_all-one t = let e = size_all-cons t [] in omega arith

-- one term more
pub size_all-push : (ts : List Term) (t : Term) → size_all (ts ++ t ∷ []) ≡ size_all ts + size t
size_all-push ts t = let e = size_all-append ts (t ∷ []) in let one = size_all-one t in omega arith

pub depth_all-push : (ts : List Term) (t : Term) → depth_all (ts ++ t ∷ []) ≡ max (depth_all ts) (depth t)
depth_all-push [] t = omega arith
depth_all-push (u ∷ us) t = let rest = depth_all-push us t in omega arith

-- a front has no more nodes
pub size_all-front : (ts us : List Term) → size_all ts ≤ size_all (ts ++ us)
size_all-front ts us = let e = size_all-append ts us in omega arith
