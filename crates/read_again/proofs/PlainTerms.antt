-- Terms without predicates, quantifiers and calls.
use Rattle.std.proofs.Common.{◌≡◌, Bool, true, false, List, [], ◌∷◌, map, Ok, refl, sym, ap, ◌∙◌}
use Rattle.std.specs.List.{AllByRecursion, list_all, list_any}
use Rattle.std.proofs.lemmas.Bool.{and_parts, and_from, or_from, false≢true}
use Rattle.chc_sorts.specs.declared.op.Op.{Op}
use Rattle.chc_sorts.specs.declared.op.Op.TheVariants as op
use Rattle.chc_terms.specs.declared.term.Term.{Term, Term-F}
use Rattle.chc_terms.specs.declared.term.Term.TheVariants as term
use Rattle.chc_terms.specs.Sorted.{is_plain, is_unquantified}
use Rattle.chc_terms.proofs.Induction.{term_ind}
use Rattle.chc_terms.proofs.SortLaws.{is_plain-App, is_plain-Pred, is_plain-Quant, is_plain-Call, is_unquantified-Var, is_unquantified-Num, is_unquantified-Lit, is_unquantified-App}
use Rattle.chc_state.specs.WellFormed.{is_part, is_part_level}
use Rattle.chc_script.specs.Marks.{mentions}
use Rattle.chc_script.specs.Horn.{collected, readings, way_of, way_read, whole_read, literal_read, with_condition}
use Rattle.chc_script.specs.declared.horn.parts.Parts.{Parts}
use Rattle.chc_script.specs.declared.horn.side.Side.TheVariants as side
use Rattle.chc_script.proofs.Collected.{collected-Var, collected-Num, collected-Lit, collected-App}
use Rattle.chc_script.proofs.MarkLaws.{mentions-Var, mentions-Num, mentions-Lit, mentions-App}

-- no predicate and no quantifier stands in it
pub record Bare (t : Term) : Type 0 where
  pub unmentioned : mentions t ≡ false
  pub unquantified : is_unquantified t ≡ true

abbrev PlainIsBare : Term → Type 0
PlainIsBare t = is_plain t ≡ true → Bare t

record AllBare (ts : List Term) : Type 0 where
  unmentioned : list_any (λ b. b) (map mentions ts) ≡ false
  unquantified : list_all (λ b. b) (map is_unquantified ts) ≡ true

all_bare : (ts : List Term) → AllByRecursion PlainIsBare ts → list_all (λ b. b) (map is_plain ts) ≡ true → AllBare ts
all_bare [] f h = record { unmentioned = refl; unquantified = refl }
all_bare (t ∷ ts) f h =
    let p = and_parts (is_plain t) (list_all (λ b. b) (map is_plain ts)) h in
    let first = f.0 p.0 in
    let rest = all_bare ts f.1 p.1 in
    record {
      unmentioned = or_from (mentions t) (list_any (λ b. b) (map mentions ts)) first.unmentioned rest.unmentioned;
      unquantified = and_from (is_unquantified t) (list_all (λ b. b) (map is_unquantified ts)) first.unquantified rest.unquantified;
    }

pub plain_is_bare : (t : Term) → is_plain t ≡ true → Bare t
plain_is_bare = term_ind PlainIsBare (record {
  of_var = λ i h. record { unmentioned = mentions-Var i; unquantified = is_unquantified-Var i };
  of_num = λ n h. record { unmentioned = mentions-Num n; unquantified = is_unquantified-Num n };
  of_lit = λ b h. record { unmentioned = mentions-Lit b; unquantified = is_unquantified-Lit b };
  of_app = λ o ts f h.
      let all = all_bare ts f (sym (is_plain-App o ts) ∙ h) in
      record { unmentioned = mentions-App o ts ∙ all.unmentioned; unquantified = is_unquantified-App o ts ∙ all.unquantified };
  of_pred = λ p ts f h. absurd (false≢true (sym (is_plain-Pred p ts) ∙ h));
  of_quant = λ k sorts t f h. absurd (false≢true (sym (is_plain-Quant k sorts t) ∙ h));
  of_call = λ k ts f h. absurd (false≢true (sym (is_plain-Call k ts) ∙ h));
})

-- no predicate stands in plain terms
pub none_mentioned : (ts : List Term) → list_all is_plain ts ≡ true → list_any mentions ts ≡ false
none_mentioned [] h = refl
none_mentioned (t ∷ ts) h =
    let p = and_parts (is_plain t) (list_all is_plain ts) h in
    or_from (mentions t) (list_any mentions ts) (plain_is_bare t p.0).unmentioned (none_mentioned ts p.1)

-- and no quantifier
pub all_unquantified : (ts : List Term) → list_all is_plain ts ≡ true → list_all (λ b. b) (map is_unquantified ts) ≡ true
all_unquantified [] h = refl
all_unquantified (t ∷ ts) h =
    let p = and_parts (is_plain t) (list_all is_plain ts) h in
    and_from (is_unquantified t) (list_all (λ b. b) (map is_unquantified ts)) (plain_is_bare t p.0).unquantified (all_unquantified ts p.1)

-- a plain part that is assumed is a condition as it stands
abbrev IsCondition : Term → Type 0
IsCondition t = (found : Parts) → is_plain t ≡ true → is_part t ≡ true → collected t side.Assumed found ≡ Ok (with_condition side.Assumed t found)

operator_is_condition : (o : Op) (ts : List Term) (found : Parts) → is_part_level (Term-F.App o ts) ≡ true
    → way_read (way_of o side.Assumed false) (readings ts) (term.App o ts) side.Assumed found ≡ Ok (with_condition side.Assumed (term.App o ts) found)
operator_is_condition op.And ts found h = absurd (false≢true h)
operator_is_condition o ts found h = refl

literal_is_condition : (b : Bool) (found : Parts) → is_part_level (Term-F.Lit b) ≡ true → literal_read b side.Assumed found ≡ Ok (with_condition side.Assumed (term.Lit b) found)
literal_is_condition true found h = absurd (false≢true h)
literal_is_condition false found h = refl

pub plain_is_condition : (t : Term) → IsCondition t
plain_is_condition = term_ind IsCondition (record {
  of_var = λ i found p h. collected-Var side.Assumed found i ∙ ap (λ b. whole_read b (term.Var i) side.Assumed found) (mentions-Var i);
  of_num = λ n found p h. collected-Num side.Assumed found n ∙ ap (λ b. whole_read b (term.Num n) side.Assumed found) (mentions-Num n);
  of_lit = λ b found p h. collected-Lit side.Assumed found b ∙ literal_is_condition b found (ap is_part_level (sym (term.outs-Lit b)) ∙ h);
  of_app = λ o ts f found p h.
      collected-App side.Assumed found o ts
      ∙ ap (λ b. way_read (way_of o side.Assumed b) (readings ts) (term.App o ts) side.Assumed found) (plain_is_bare (term.App o ts) p).unmentioned
      ∙ operator_is_condition o ts found (ap is_part_level (sym (term.outs-App o ts)) ∙ h);
  of_pred = λ p ts f found h k. absurd (false≢true (sym (is_plain-Pred p ts) ∙ h));
  of_quant = λ q sorts t f found h k. absurd (false≢true (sym (is_plain-Quant q sorts t) ∙ h));
  of_call = λ q ts f found h k. absurd (false≢true (sym (is_plain-Call q ts) ∙ h));
})
