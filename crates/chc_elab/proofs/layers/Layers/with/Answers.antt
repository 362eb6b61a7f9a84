use Rattle.std.proofs.Common.{rules, ◌≡◌, ◌++◌, ◌∷◌, ◌+◌, [], List, ℕ, length, ap, sym, ◌∙◌, arith}
use Rattle.std.proofs.lemmas.List.{length-append, append_assoc}
use Rattle.chc_elab.specs.declared.bound.Bound.{Bound}
use Rattle.chc_elab.specs.Apart.{are_apart}
use Rattle.chc_elab.specs.Settings.{flat, locals_with}
use Rattle.chc_elab.specs.Sites.{Local}
use Rattle.chc_elab.proofs.Locals.{apart_push, flat-push, local_of, with_push}
use Rattle.chc_elab.proofs.Results.{if_ok-same}
use Rattle.chc_elab.proofs.layers.Layers.with.Goals as goal

pub returns-then-has : goal.returns-then-has
returns-then-has c =
    let frames = c.self.inside.frames in
    let view : flat frames ++ locals_with c.self.inside.names c.self.inside.bounds ≡ c.args.self = search rules in
    let more : c.push.new.self ≡ frames ++ locals_with c.self.inside.names c.self.inside.bounds ∷ [] = search rules in
    let whole : flat c.push.new.self ≡ c.args.self = ap flat more ∙ flat-push frames (locals_with c.self.inside.names c.self.inside.bounds) ∙ view in
    if_ok-same c.begun.result (flat c.push.new.self ++ local_of c.args.name.now c.args.bound ∷ []) (c.args.self ++ local_of c.args.name.now c.args.bound ∷ [])
    (ap (λ (l : List Local). l ++ local_of c.args.name.now c.args.bound ∷ []) whole) c.begun.ensures

pub invariant_of-result : goal.invariant_of-result
invariant_of-result c =
    let names = c.self.inside.names in
    let bounds = c.self.inside.bounds in
    let more : c.add.new.self ≡ names ++ c.args.name.now ∷ [] = c.in_ok-add.ensures.added in
    let longer : c.push-2.new.self ≡ bounds ++ c.args.bound ∷ [] = c.in_ok-push-2.ensures.added in
    let even = c.self.invariant.0 in
    let m = ap (λ (l : List (List ℕ)). length l) more ∙ length-append names (c.args.name.now ∷ []) in
    let n = ap (λ (l : List Bound). length l) longer ∙ length-append bounds (c.args.bound ∷ []) in
    (omega arith, ap are_apart more ∙ apart_push names c.args.name.now c.self.invariant.1 (sym (sym c.if-has.false ∙ c.has.ensures)))

pub returns : goal.returns
returns c =
    let frames = c.self.inside.frames in
    let names = c.self.inside.names in
    let bounds = c.self.inside.bounds in
    let view : flat frames ++ locals_with names bounds ≡ c.args.self = search rules in
    let more : c.add.new.self ≡ names ++ c.args.name.now ∷ [] = c.in_ok-add.ensures.added in
    let longer : c.push-2.new.self ≡ bounds ++ c.args.bound ∷ [] = c.in_ok-push-2.ensures.added in
    let last = local_of c.args.name.now c.args.bound ∷ [] in
    ap (λ (l : List (List ℕ)). flat frames ++ locals_with l c.push-2.new.self) more
    ∙ ap (λ (l : List Bound). flat frames ++ locals_with (names ++ c.args.name.now ∷ []) l) longer
    ∙ ap (λ (l : List Local). flat frames ++ l) (with_push names bounds c.args.name.now c.args.bound c.self.invariant.0)
    ∙ sym (append_assoc (flat frames) (locals_with names bounds) last)
    ∙ ap (λ (l : List Local). l ++ last) view
