use Rattle.std.proofs.Common.{arith, ap, subst, List, length}
use Rattle.std.proofs.lemmas.Result.{err_from_is_err_and}
use Rattle.chc_sexpr.specs.Counts.{count_all}
use Rattle.chc_sexpr.specs.declared.tree.Tree.{Tree}
use Rattle.chc_elab.specs.Sites.{Tells}
use Rattle.chc_script.specs.WholeScripts.{script_of}
use Rattle.chc_script.proofs.ScriptFaults.{spelled_reading, unspelled_fault}
use Rattle.chc_script.proofs.SpelledTrees.{trees_within, trees_spellable}
use Rattle.chc_script.proofs.whole.script.read_script.Goals as goal

pub read_commands-requires-clause-few : goal.read_commands-requires-clause-few
read_commands-requires-clause-few c =
    let few = trees_within c.args.bytes.now c.in_ok-trees.trees c.in_ok-trees.ensures.0 in
    let same = ap count_all c.as_slice.ensures in
    omega (arith, few, same, c.requires)

pub read_commands-requires-clause-spellable : goal.read_commands-requires-clause-spellable
read_commands-requires-clause-spellable c = rw c.as_slice.ensures (trees_spellable c.args.bytes.now c.in_ok-trees.trees c.in_ok-trees.ensures.0)

pub returns-in_err-trees-clause-reading : goal.returns-in_err-trees-clause-reading
returns-in_err-trees-clause-reading c =
    let p = err_from_is_err_and c.from_residual.result c.from_residual.ensures.1 in
    rw (p.1, p.2) (unspelled_fault c.args.bytes.now c.first_fault_is_one.ensures c.in_err-trees.field-0.0 c.in_err-trees.ensures)

pub returns-clause-reading : goal.returns-clause-reading
returns-clause-reading c =
    let bytes = c.args.bytes.now in
    let result = c.read_commands.result in
    let told = subst (λ (l : List Tree). Tells result (script_of l (length bytes))) c.as_slice.ensures c.read_commands.ensures.value in
    spelled_reading bytes c.in_ok-trees.trees c.in_ok-trees.ensures result told
