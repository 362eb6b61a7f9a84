use Rattle.std.proofs.Common.{◌≢◌, refl, sym, subst}
use Rattle.std.proofs.lemmas.Bool.{false≢true}
use Rattle.std.proofs.lemmas.Int.{to_z-of_z}
use Rattle.std.proofs.lemmas.Result.{IfOk-weaker}
use Rattle.chc_values.specs.declared.value.Value.{Value}
use Rattle.chc_values.specs.Values.{IsCanonical}
use Rattle.chc_values.specs.Arrays.{Stores}
use Rattle.chc_values.proofs.array.stored.Goals as goal

pub returns-then-same : goal.returns-then-same
returns-then-same c =
    let fits = c.ranges.i in
    let stores = simp to_z-of_z at (c.without.ensures c.args.default.now c.requires) in
    subst (λ (v : Value). Stores c.args.default.now c.args.exceptions c.args.i v c.without.result) (sym (c.if-same.ensures.0 refl)) stores

pub returns-else-same : goal.returns-else-same
returns-else-same c =
    let fits = c.ranges.i in
    let differs : c.args.v ≢ c.args.default.now = λ e. false≢true (c.if-same.ensures.1 e) in
    IfOk-weaker c.with.result
    (λ l. (default : Value) → c.args.v ≢ default → IsCanonical default c.args.exceptions → Stores default c.args.exceptions c.args.i c.args.v l) _
    (λ l f. f c.args.default.now differs c.requires) (simp to_z-of_z at c.with.ensures)
