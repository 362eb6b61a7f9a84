use Rattle.std.proofs.Common.{rules, arith, ◌≡◌, ◌≤◌, ◌-◌, ◌∷◌, ◌++◌, [], List, drop, get_or, ap, sym, ◌∙◌, append-nil}
use Rattle.chc_sorts.specs.declared.op.Op.TheVariants as op
use Rattle.chc_terms.specs.declared.term.Term.{Term}
use Rattle.chc_terms.specs.Counts.{size, size_all}
use Rattle.chc_elab.specs.Building.{sole, neighbours}
use Rattle.chc_elab.specs.Builds.{joins}
use Rattle.chc_elab.proofs.Building.{refused_in, refused_of, next_within, push_within, size-sole, neighbours-step, neighbours-end}
use Rattle.chc_elab.proofs.operation.chained.Goals as goal

pub returns-in_err-join : goal.returns-in_err-join
returns-in_err-join c =
    let j = joins c.args.joint.now in
    let ts = c.args.terms.now in
    let all = neighbours j ts in
    let i = c.loop-i.i in
    let a = c.in_ok-left.left in
    let b = c.in_ok-right.right in
    let left : a ≡ get_or ts (i - 1) a = rw c.in_ok-left.ensures c.index-terms-i.is in
    let right : b ≡ get_or ts i b = rw c.in_ok-right.ensures c.index-terms-i-in-loop-i.is in
    let next : neighbours j (drop (i - 1) ts) ≡ j a b ∷ neighbours j (drop i ts) = neighbours-step j ts (i - 1) i a b (omega arith) (omega arith) left right in
    let same : c.loop-i.pile ++ (j a b ∷ neighbours j (drop i ts)) ≡ all = sym (ap (λ (us : List Term). c.loop-i.pile ++ us) next) ∙ c.loop-i.invariant in
    let part : size (j a b) ≤ size (sole op.And all) = omega (arith, next_within c.loop-i.pile (j a b) (neighbours j (drop i ts)) all same, size-sole op.And all) in
    let whole = refused_in c.in_err-join.field-0.0 (j a b) (sole op.And all) c.in_err-join.ensures part in
    search (rules, whole)

pub returns-in_err-push : goal.returns-in_err-push
returns-in_err-push c =
    let j = joins c.args.joint.now in
    let ts = c.args.terms.now in
    let all = neighbours j ts in
    let i = c.loop-i.i in
    let a = c.in_ok-left.left in
    let b = c.in_ok-right.right in
    let left : a ≡ get_or ts (i - 1) a = rw c.in_ok-left.ensures c.index-terms-i.is in
    let right : b ≡ get_or ts i b = rw c.in_ok-right.ensures c.index-terms-i-in-loop-i.is in
    let next : neighbours j (drop (i - 1) ts) ≡ j a b ∷ neighbours j (drop i ts) = neighbours-step j ts (i - 1) i a b (omega arith) (omega arith) left right in
    let same : c.loop-i.pile ++ (j a b ∷ neighbours j (drop i ts)) ≡ all = sym (ap (λ (us : List Term). c.loop-i.pile ++ us) next) ∙ c.loop-i.invariant in
    let part : size_all (c.loop-i.pile ++ j a b ∷ []) ≤ size (sole op.And all) = omega (arith, push_within c.loop-i.pile (j a b) (neighbours j (drop i ts)) all same, size-sole op.And all) in
    let is : c.in_ok-join.field-0 ≡ j a b = c.in_ok-join.ensures in
    let large = rw is at c.in_err-push.ensures.large in
    let whole = refused_of c.in_err-push.field-0.0 (size_all (c.loop-i.pile ++ j a b ∷ [])) (sole op.And all) large part in
    search (rules, whole)

pub returns : goal.returns
returns c =
    let j = joins c.args.joint.now in
    let ts = c.args.terms.now in
    let end : neighbours j (drop (c.loop-i.i - 1) ts) ≡ [] = neighbours-end j ts (c.loop-i.i - 1) (omega arith) in
    let whole : c.loop-i.pile ≡ neighbours j ts = sym (append-nil c.loop-i.pile) ∙ sym (ap (λ (us : List Term). c.loop-i.pile ++ us) end) ∙ c.loop-i.invariant in
    rw (sym whole) c.alone_or_under.ensures
