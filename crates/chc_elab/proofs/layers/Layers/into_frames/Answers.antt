use Rattle.std.proofs.Common.{rules, ◌≡◌, ◌++◌, ◌∷◌, [], ap, ◌∙◌}
use Rattle.chc_elab.specs.Settings.{flat, locals_with}
use Rattle.chc_elab.proofs.Locals.{flat-push}
use Rattle.chc_elab.proofs.layers.Layers.into_frames.Goals as goal

pub returns : goal.returns
returns c =
    let frames = c.self.inside.frames in
    let view : flat frames ++ locals_with c.self.inside.names c.self.inside.bounds ≡ c.args.self = search rules in
    let more : c.push.new.self ≡ frames ++ locals_with c.self.inside.names c.self.inside.bounds ∷ [] = search rules in
    ap flat more ∙ flat-push frames (locals_with c.self.inside.names c.self.inside.bounds) ∙ view
