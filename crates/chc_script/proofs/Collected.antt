-- What a term adds to the parts of a clause, at each variant.
use Rattle.std.proofs.Common.{◌≡◌, ℕ, ℤ, List, [], ◌∷◌, map, Bool, refl, ap, sym, ◌∙◌}
use Rattle.std.specs.List.{list_any}
use Rattle.chc_sorts.specs.declared.sort.Sort.{Sort}
use Rattle.chc_sorts.specs.declared.op.Op.{Op}
use Rattle.chc_terms.specs.declared.term.Kind.{Kind}
use Rattle.chc_terms.specs.declared.term.Term.{Term, Term-F, para-roll-Term}
use Rattle.chc_terms.specs.declared.term.Term.TheVariants.{Var, Num, Lit, App, Pred, Quant, Call, rolls-Var, rolls-Num, rolls-Lit, rolls-App, rolls-Pred, rolls-Quant, rolls-Call}
use Rattle.chc_script.specs.Marks.{mentions}
use Rattle.chc_script.specs.Horn.{Reading, reading, collect_step, collected, readings, whole_read, literal_read, atom_read, way_of, way_read}
use Rattle.chc_script.specs.declared.horn.parts.Parts.{Parts}
use Rattle.chc_script.specs.declared.horn.side.Side.{Side}
use Rattle.chc_script.proofs.MarkLaws.{within-marked, below-marked}

-- the terms of readings
firsts : (ts : List Term) → map (λ part. part.0) (readings ts) ≡ ts
firsts [] = refl
firsts (t ∷ ts) = ap (λ us. t ∷ us) (firsts ts)

module _ (s : Side) (found : Parts) where
  pub collected-Var : (i : ℕ) → collected (Var i) s found ≡ whole_read (mentions (Var i)) (Var i) s found
  unfolding reading
  collected-Var i = λ j. (ap reading (sym (rolls-Var i)) ∙ para-roll-Term Reading collect_step (Term-F.Var i)) j (Var i) s found

  pub collected-Num : (n : ℤ) → collected (Num n) s found ≡ whole_read (mentions (Num n)) (Num n) s found
  unfolding reading
  collected-Num n = λ j. (ap reading (sym (rolls-Num n)) ∙ para-roll-Term Reading collect_step (Term-F.Num n)) j (Num n) s found

  pub collected-Lit : (b : Bool) → collected (Lit b) s found ≡ literal_read b s found
  unfolding reading
  collected-Lit b = λ j. (ap reading (sym (rolls-Lit b)) ∙ para-roll-Term Reading collect_step (Term-F.Lit b)) j (Lit b) s found

  pub collected-App : (o : Op) (ts : List Term) → collected (App o ts) s found ≡ way_read (way_of o s (mentions (App o ts))) (readings ts) (App o ts) s found
  unfolding reading
  collected-App o ts = λ j. (ap reading (sym (rolls-App o ts)) ∙ para-roll-Term Reading collect_step (Term-F.App o ts)) j (App o ts) s found

  pub collected-Pred : (p : ℕ) (ts : List Term) → collected (Pred p ts) s found ≡ atom_read (list_any mentions ts) p ts s found
  unfolding reading
  collected-Pred p ts =
      (λ j. (ap reading (sym (rolls-Pred p ts)) ∙ para-roll-Term Reading collect_step (Term-F.Pred p ts)) j (Pred p ts) s found)
      ∙ ap (λ (us : List Term). atom_read (list_any mentions us) p us s found) (firsts ts)

  pub collected-Quant : (k : Kind) (sorts : List Sort) (t : Term) → collected (Quant k sorts t) s found ≡ whole_read (mentions (Quant k sorts t)) (Quant k sorts t) s found
  unfolding reading
  collected-Quant k sorts t = λ j. (ap reading (sym (rolls-Quant k sorts t)) ∙ para-roll-Term Reading collect_step (Term-F.Quant k sorts t)) j (Quant k sorts t) s found

  pub collected-Call : (k : ℕ) (ts : List Term) → collected (Call k ts) s found ≡ whole_read (mentions (Call k ts)) (Call k ts) s found
  unfolding reading
  collected-Call k ts = λ j. (ap reading (sym (rolls-Call k ts)) ∙ para-roll-Term Reading collect_step (Term-F.Call k ts)) j (Call k ts) s found

-- the equations of readings, and what marks say
pub ruleset reading_equations = (collected-Var, collected-Num, collected-Lit, collected-App, collected-Pred, collected-Quant, collected-Call, within-marked, below-marked)
