use Rattle.std.proofs.Common.{rules, ◌≡◌, List, ap, sym, ◌∙◌, false}
use Rattle.chc_sorts.specs.Names.{has_name}
use Rattle.chc_elab.specs.Settings.{locals_with}
use Rattle.chc_elab.specs.Sites.{Local, local_named}
use Rattle.chc_elab.proofs.Locals.{bound, past, place_of, unbound}
use Rattle.chc_elab.proofs.frame.Frame.find.Goals as goal

pub returns : goal.returns
returns c =
    let names = c.self.inside.names in
    let bounds = c.self.inside.bounds in
    let name = c.args.name.now in
    let view : locals_with names bounds ≡ c.args.self.now = search rules in
    let at = place_of names name c.in_ok-number.number (sym c.in_ok-number.ensures.value) in
    ap (λ (l : List Local). local_named l name) (sym view)
    ∙ bound names bounds name c.in_ok-bound.bound.now c.in_ok-number.number c.self.invariant at (sym c.in_ok-bound.ensures.value)

pub returns-in_err-number : goal.returns-in_err-number
returns-in_err-number c =
    let names = c.self.inside.names in
    let bounds = c.self.inside.bounds in
    let name = c.args.name.now in
    let view : locals_with names bounds ≡ c.args.self.now = search rules in
    let none : has_name names name ≡ false = sym c.in_err-number.ensures.found in
    rw c.from_residual.ensures (ap (λ (l : List Local). local_named l name) (sym view) ∙ unbound names bounds name none)

pub returns-in_err-bound : goal.returns-in_err-bound
returns-in_err-bound c =
    let names = c.self.inside.names in
    let bounds = c.self.inside.bounds in
    let name = c.args.name.now in
    let view : locals_with names bounds ≡ c.args.self.now = search rules in
    let at = place_of names name c.in_ok-number.number (sym c.in_ok-number.ensures.value) in
    rw c.from_residual-in_err-bound.ensures (ap (λ (l : List Local). local_named l name) (sym view) ∙ past names bounds name c.in_ok-number.number c.self.invariant at (sym c.in_err-bound.ensures.value))
