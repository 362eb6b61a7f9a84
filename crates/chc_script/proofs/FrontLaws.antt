-- Negations in front of an assertion: whether what they negate is read further.
use Rattle.std.proofs.Common.{◌≡◌, true, List, [], ◌∷◌, map, length, get_or, refl, ap, sym, subst, ◌∙◌, arith}
use Rattle.std.proofs.lemmas.Bool.{false≢true}
use Rattle.chc_sorts.specs.declared.sort.Sort.{Sort}
use Rattle.chc_sorts.specs.declared.op.Op.{Op}
use Rattle.chc_sorts.specs.declared.op.Op.TheVariants as op
use Rattle.chc_terms.specs.declared.term.Term.{Term}
use Rattle.chc_terms.specs.declared.term.Term.TheVariants.{App}
use Rattle.chc_script.specs.Fronts.{negates}
use Rattle.chc_script.specs.Horn.{stripping, prefix_of, left, operator_stripped}
use Rattle.chc_script.specs.declared.horn.side.Side.{Side}
use Rattle.chc_script.specs.declared.horn.side.Side.TheVariants as side
use Rattle.chc_script.proofs.PrefixLaws.{prefix-App}

-- a list of one item
pub only_item : (ts : List Term) (t : Term) → length ts ≡ 1 → t ≡ get_or ts 0 t → ts ≡ t ∷ []
only_item [] t h at = absurd (omega (arith, h))
only_item (u ∷ []) t h at = ap (λ (v : Term). v ∷ []) (sym at)
only_item (u ∷ v ∷ ts) t h at = absurd (omega (arith, h))

-- a negation of one term
pub prefix-one : (o : Op) (u : Term) (s : Side) (vars : List Sort) → negates o s ≡ true → prefix_of u side.Assumed vars ≡ prefix_of (App o (u ∷ [])) s vars
prefix-one op.Not u side.Concluded vars h = sym (prefix-App side.Concluded vars op.Not (u ∷ []))
prefix-one o u s vars h = absurd (false≢true h)

many : (o : Op) (s : Side) (ts : List Term) (t : Term) (vars : List Sort) → (length ts ≡ 1 → ⊥) → operator_stripped o s (map (λ u. (u, stripping u)) ts) t s vars ≡ left t s vars
many op.Not side.Concluded [] t vars h = refl
many op.Not side.Concluded (u ∷ []) t vars h = absurd (h refl)
many op.Not side.Concluded (u ∷ v ∷ ts) t vars h = refl
many o s ts t vars h = refl

-- an operator on other than one term
pub prefix-many : (t : Term) (o : Op) (ts : List Term) (s : Side) (vars : List Sort) → t ≡ App o ts → (length ts ≡ 1 → ⊥) → left t s vars ≡ prefix_of t s vars
prefix-many t o ts s vars is h =
    subst (λ (term : Term). left term s vars ≡ prefix_of term s vars) (sym is)
    (sym (prefix-App s vars o ts ∙ many o s ts (App o ts) vars h))
