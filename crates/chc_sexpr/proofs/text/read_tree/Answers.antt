use Rattle.std.proofs.Common.{get_or, refl}
use Rattle.std.proofs.lemmas.Result.{err_from_is_err_and}
use Rattle.chc_sexpr.proofs.Steps.{token_step, token_error, first_byte}
use Rattle.chc_sexpr.proofs.text.read_tree.Goals as goal

pub returns-in_err-tree : goal.returns-in_err-tree
returns-in_err-tree c =
    let rest = c.args.rest.now in
    let b = get_or rest 0 0 in
    let p = err_from_is_err_and c.from_residual.result c.from_residual.ensures.1 in
    rw (p.1, p.2) (token_error c.args.draft.now c.args.draft.now c.args.place b rest (first_byte rest b c.requires.some refl) c.requires.start c.in_err-tree.field-0.0 c.in_err-tree.ensures)

pub returns : goal.returns
returns c =
    token_step c.args.draft.now c.add.new.self c.args.place c.args.rest.now c.in_ok-tree.field-0 c.in_ok-tree.ensures c.in_ok-add.ensures.groups c.in_ok-add.ensures.trees
