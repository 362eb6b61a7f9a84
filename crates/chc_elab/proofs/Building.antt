-- Steps of the terms that operators stand for, and refusals that a part hands on to the whole.
use Rattle.std.proofs.Common.{◌≡◌, ◌<◌, ◌≤◌, ◌+◌, ℕ, [], ◌∷◌, ◌++◌, List, length, map, drop, get_or, Err, ap, refl, zero, suc, arith}
use Rattle.chc_sorts.specs.declared.op.Op.{Op}
use Rattle.chc_sorts.specs.declared.op.Op.TheVariants as op
use Rattle.chc_terms.specs.declared.term.Term.{Term}
use Rattle.chc_terms.specs.declared.term.Term.TheVariants.{App}
use Rattle.chc_terms.specs.Counts.{size, size_all}
use Rattle.chc_terms.proofs.CountLaws.{size-App, size_all-cons}
use Rattle.chc_elab.specs.declared.build_err.BuildErr.{BuildErr}
use Rattle.chc_elab.specs.declared.build_err.BuildErr.TheVariants as build
use Rattle.chc_elab.specs.declared.joint.Joint.{Joint}
use Rattle.chc_elab.specs.declared.joint.Joint.TheVariants as joint
use Rattle.chc_elab.specs.Building.{pair, negated, joined_from, sole, neighbours, all_pairs, negated_before_last}
use Rattle.chc_elab.specs.Builds.{Builds, Refused, joins}
use Rattle.chc_elab.proofs.Sizes.{size_all-append, size_all-one, size_all-push, size_all-front}

-- what is refused for a part's nodes is refused for the whole
pub refused_of : (e : BuildErr) (n : ℕ) (wanted : Term) → Refused {A = Unit {0}} (Err e) n → n ≤ size wanted → Builds (Err e) wanted
refused_of build.TooLarge n wanted large part = omega arith
refused_of build.NoMemory n wanted large part = tt

-- what isn't built as a part isn't built as the whole
pub refused_in : (e : BuildErr) (part whole : Term) → Builds (Err e) part → size part ≤ size whole → Builds (Err e) whole
refused_in build.TooLarge part whole large within = omega arith
refused_in build.NoMemory part whole large within = tt

-- a front, and one more, are no more nodes than the whole
pub front_within : (front rest whole : List Term) → front ++ rest ≡ whole → size_all front ≤ size_all whole
front_within front rest whole same = let e = size_all-front front rest in omega (arith, ap size_all same)

pub push_within : (front : List Term) (t : Term) (rest whole : List Term) → front ++ (t ∷ rest) ≡ whole → size_all (front ++ t ∷ []) ≤ size_all whole
push_within front t rest whole same =
    let e = size_all-append front (t ∷ rest) in
    let c = size_all-cons t rest in
    let p = size_all-push front t in
    omega (arith, ap size_all same)

pub next_within : (front : List Term) (t : Term) (rest whole : List Term) → front ++ (t ∷ rest) ≡ whole → size t ≤ size_all whole
next_within front t rest whole same =
    let p = push_within front t rest whole same in
    let e = size_all-push front t in
    omega arith

pub size-under : (o : Op) (ts : List Term) → size_all ts ≤ size (App o ts)
size-under o ts = let e = size-App o ts in omega arith

pub size-sole : (o : Op) (ts : List Term) → size_all ts ≤ size (sole o ts)
size-sole o [] = size-under o []
size-sole o (t ∷ []) = let e = size_all-one t in omega arith
size-sole o (t ∷ u ∷ more) = size-under o (t ∷ u ∷ more)

-- terms that are parts
pub size-left : (o : Op) (a b : Term) → size a ≤ size (pair o a b)
size-left o a b = omega (arith, size-App o (a ∷ b ∷ []), size_all-cons a (b ∷ []))

pub size-right : (o : Op) (a b : Term) → size b ≤ size (pair o a b)
size-right o a b = omega (arith, size-App o (a ∷ b ∷ []), size_all-cons a (b ∷ []), size_all-one b)

pub size-negated : (t : Term) → size t ≤ size (negated t)
size-negated t = omega (arith, size-App op.Not (t ∷ []), size_all-one t)

pub size-joined : (j : Joint) (a b : Term) → size a ≤ size (joins j a b)
size-joined (joint.Pair o) a b = size-left o a b
size-joined (joint.Turned o) a b = size-right o b a
size-joined joint.Differ a b = let l = size-left op.Eq a b in let n = size-negated (pair op.Eq a b) in omega arith

pub size-joined_from : (j : Joint) (t : Term) (us : List Term) → size t ≤ size (joined_from (joins j) t us)
size-joined_from j t [] = omega arith
size-joined_from j t (u ∷ us) = let one = size-joined j t u in let rest = size-joined_from j (joins j t u) us in omega arith

-- the next of the neighbours
neighbours-suc : (join : Term → Term → Term) (ts : List Term) (i : ℕ) (a b : Term) → suc i < length ts → a ≡ get_or ts i a → b ≡ get_or ts (suc i) b → neighbours join (drop i ts) ≡ join a b ∷ neighbours join (drop (suc i) ts)
neighbours-suc join [] i a b within left right = absurd (omega arith)
neighbours-suc join (t ∷ []) i a b within left right = absurd (omega arith)
neighbours-suc join (t ∷ u ∷ more) zero a b within left right = cc
neighbours-suc join (t ∷ u ∷ more) (suc i) a b within left right = neighbours-suc join (u ∷ more) i a b (omega arith) left right

pub neighbours-step : (join : Term → Term → Term) (ts : List Term) (i k : ℕ) (a b : Term) → k ≡ suc i → k < length ts → a ≡ get_or ts i a → b ≡ get_or ts k b → neighbours join (drop i ts) ≡ join a b ∷ neighbours join (drop k ts)
neighbours-step join ts i k a b next within left right = rw next (neighbours-suc join ts i a b (omega arith) left (rw next at right))

pub neighbours-end : (join : Term → Term → Term) (ts : List Term) (i : ℕ) → length ts ≤ i + 1 → neighbours join (drop i ts) ≡ []
neighbours-end join [] zero past = refl
neighbours-end join [] (suc i) past = refl
neighbours-end join (t ∷ []) zero past = refl
neighbours-end join (t ∷ u ∷ more) zero past = absurd (omega arith)
neighbours-end join (t ∷ ts) (suc i) past = neighbours-end join ts i (omega arith)

-- the next of the pairs
all_pairs-suc : (join : Term → Term → Term) (ts : List Term) (i : ℕ) (t : Term) → i < length ts → t ≡ get_or ts i t → all_pairs join (drop i ts) ≡ map (join t) (drop (suc i) ts) ++ all_pairs join (drop (suc i) ts)
all_pairs-suc join [] i t within is = absurd (omega arith)
all_pairs-suc join (u ∷ us) zero t within is = cc
all_pairs-suc join (u ∷ us) (suc i) t within is = all_pairs-suc join us i t (omega arith) is

pub all_pairs-step : (join : Term → Term → Term) (ts : List Term) (i k : ℕ) (t : Term) → k ≡ suc i → i < length ts → t ≡ get_or ts i t → all_pairs join (drop i ts) ≡ map (join t) (drop k ts) ++ all_pairs join (drop k ts)
all_pairs-step join ts i k t next within is = rw next (all_pairs-suc join ts i t within is)

-- a term before the last
pub before_last-next : (t : Term) (rest : List Term) → 0 < length rest → negated_before_last (t ∷ rest) ≡ negated t ∷ negated_before_last rest
before_last-next t [] some = absurd (omega arith)
before_last-next t (u ∷ more) some = refl
