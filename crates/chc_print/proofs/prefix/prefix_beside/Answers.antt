use Rattle.std.proofs.Common.{◌≡◌, ◌≤◌, ◌<◌, false, length, get_or, ap, arith}
use Rattle.std.proofs.lemmas.Result.{IfOk-weaker}
use Rattle.chc_print.specs.Prefix.{IsVariablePrefix, marked}
use Rattle.chc_print.proofs.Marks.{prefix_found}
use Rattle.chc_print.proofs.prefix.prefix_beside.Goals as goal

pub returns : goal.returns
returns c =
    let count = c.longest-count.result in
    let first = c.first_free.result in
    let taken = c.in_ok-taken.taken.items in
    let size : length taken ≡ count = c.in_ok-taken.ensures.size in
    let same = c.as_slice.ensures.value in
    let first_is = rw same at c.first_free.ensures.before in
    let found_is = rw same at c.first_free.ensures.found in
    let within : first ≤ count = omega (arith, ap length same) in
    let found : first < count → get_or taken first false ≡ false = λ low. found_is (omega arith) in
    IfOk-weaker c.marked_prefix.result (λ prefix. prefix ≡ marked first) (IsVariablePrefix c.args.names.now)
    (λ prefix form. prefix_found c.args.names.now taken count first prefix c.longest-count.ensures c.in_ok-taken.ensures.value within first_is found form)
    c.marked_prefix.ensures
