-- What stands within limits stands within wider ones.
use Rattle.std.proofs.Common.{List, ◌∷◌}
use Rattle.chc_sexpr.specs.declared.tree.Tree.{Tree}
use Rattle.chc_elab.specs.declared.typed.Typed.{Typed}
use Rattle.chc_elab.specs.Sites.{Site, Setting}
use Rattle.chc_elab.specs.Binders.{with_terms, with_variables}
use Rattle.chc_elab.specs.Stands.{Stands, StandAll, ReadIsSaid, IsWithin, AreFew}
use Rattle.chc_elab.specs.Stands as stands

module _ (setting : Setting) (Fits Fits' : Typed → Type 0) (Few Few' : List Typed → Type 0) (fits : (t : Typed) → Fits t → Fits' t) (few : (vs : List Typed) → Few vs → Few' vs) where
  mutual
    pub wider : (site : Site) (t : Tree) (v : Typed) → Stands setting Fits Few site t v → Stands setting Fits' Few' site t v
    wider site t v (stands.numeral site' place n) = stands.numeral site place n
    wider site t v (stands.negative site' place at i minus n is above) = stands.negative site place at i minus n is above
    wider site t v (stands.lone site' place name v' is) = stands.lone site place name v is
    wider site t v (stands.application site' place first args h vs v' is other each small applies within) =
        stands.application site place first args h vs v is other (all_wider site args vs each) (few vs small) applies (fits v within)
    wider site t v (stands.qualified site' place at i name spelled h v' made applies within) = stands.qualified site place at i name spelled h v made applies (fits v within)
    wider site t v (stands.let_names site' place at pairs body names seconds vs v' bound each is) =
        stands.let_names site place at pairs body names seconds vs v bound (all_wider site seconds vs each) (wider (with_terms site names vs) body v is)
    wider site t v (stands.annotated site' place at body attributes v' is) = stands.annotated site place at body attributes v (wider site body v is)
    wider site t v (stands.quantifier site' place at k pairs body names seconds s sorts u bound sorted is truth within) =
        stands.quantifier site place at k pairs body names seconds s sorts u bound sorted (wider (with_variables site names (s ∷ sorts)) body u is) truth (fits v within)
    wider site t v (stands.unquantified site' place at i k body v' is) = stands.unquantified site place at i k body v (wider site body v is)

    pub all_wider : (site : Site) (ts : List Tree) (vs : List Typed) → StandAll setting Fits Few site ts vs → StandAll setting Fits' Few' site ts vs
    all_wider site ts vs (stands.no_tree site') = stands.no_tree site
    all_wider site ts vs (stands.tree_before site' first trees v values is each) =
        stands.tree_before site first trees v values (wider site first v is) (all_wider site trees values each)

pub read_is_said : ReadIsSaid
read_is_said setting site t v h = wider setting IsWithin (λ t. Unit) AreFew (λ vs. Unit) (λ t within. tt) (λ vs small. tt) site t v h
