use Rattle.std.proofs.Common.{◌≡◌, ℕ, List, Option, Some, None, slice_get, option_copied, Bor, OnSome, subst, sym}
use Rattle.std.proofs.Math.Logic.{∥∥₁_map}
use Rattle.chc_sorts.specs.declared.data.Data.{Data}
use Rattle.chc_sorts.specs.declared.sort.Sort.TheVariants as sort
use Rattle.chc_sorts.specs.Signature.{Signature, IsInhabited, AllInhabited}
use Rattle.chc_sorts.proofs.sig.Sig.datatype.Goals as goal

-- the datatype that is found has a value
found : (ds : List Data) (d : ℕ) → AllInhabited ds → (r : Option (Bor Data)) → option_copied r ≡ slice_get ds d → OnSome r (∥ IsInhabited ds (sort.Data d) ∥₁)
found ds d all None e = tt
found ds d all (Some t) e = ∥∥₁_map all (λ each. each d t.now (sym e))

pub returns-clause-inhabited : goal.returns-clause-inhabited
returns-clause-inhabited c =
    subst (λ (s : Signature). OnSome c.get.result (∥ IsInhabited s.datatypes (sort.Data c.args.d) ∥₁)) c.self.view_is
    (found c.self.inside.datatypes c.args.d c.self.invariant.inhabited c.get.result c.get.ensures.value)
