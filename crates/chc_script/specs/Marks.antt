-- Where predicates stand in a term.
use Rattle.std.specs.Prelude.{ℕ, Bool, true, false, cond, List, Option, Some, None, slice_get}
use Rattle.std.specs.List.{list_any}
use Rattle.chc_terms.specs.declared.term.Term.{Term, Term-F, fold-Term}
use Rattle.chc_script.specs.declared.horn.mark.Mark.{Mark, Mark-F, out-Mark}
use Rattle.chc_script.specs.declared.horn.mark.Mark.TheVariants as mark

abbrev pub mentions_step : Term-F Bool → Bool
mentions_step (Term-F.Var i) = false
mentions_step (Term-F.Num n) = false
mentions_step (Term-F.Lit b) = false
mentions_step (Term-F.App o parts) = list_any (λ b. b) parts
mentions_step (Term-F.Pred p parts) = true
mentions_step (Term-F.Quant k sorts part) = part
mentions_step (Term-F.Call k parts) = list_any (λ b. b) parts

-- whether a predicate stands in the term
unfoldable pub mentions : Term → Bool
mentions = fold-Term Bool mentions_step

abbrev pub within_level : Mark-F Mark → Bool
within_level Mark-F.Without = false
within_level (Mark-F.Within parts) = true

-- whether the mark is that of a term in which a predicate stands
abbrev pub is_within : Mark → Bool
is_within m = within_level (out-Mark m)

abbrev pub below_level : Mark-F Mark → Bool
below_level Mark-F.Without = false
below_level (Mark-F.Within parts) = list_any is_within parts

-- whether a predicate stands in a part of the term
abbrev pub is_below : Mark → Bool
is_below m = below_level (out-Mark m)

-- the mark, or another where there is none
abbrev pub mark_or : Mark → Option Mark → Mark
mark_or m None = m
mark_or m (Some part) = part

abbrev pub part_level : Mark → ℕ → Mark-F Mark → Mark
part_level m i Mark-F.Without = m
part_level m i (Mark-F.Within parts) = mark_or m (slice_get parts i)

-- the mark of the part of that number; where no predicate stands in the term, its own
abbrev pub mark_at : Mark → ℕ → Mark
mark_at m i = part_level m i (out-Mark m)

-- the mark of a term that isn't an atom, by those of its parts
abbrev pub node_of : List Mark → Mark
node_of parts = cond (list_any is_within parts) (mark.Within parts) mark.Without

abbrev pub marked_step : Term-F Mark → Mark
marked_step (Term-F.Var i) = mark.Without
marked_step (Term-F.Num n) = mark.Without
marked_step (Term-F.Lit b) = mark.Without
marked_step (Term-F.App o parts) = node_of parts
marked_step (Term-F.Pred p parts) = mark.Within parts
marked_step (Term-F.Quant k sorts part) = part
marked_step (Term-F.Call k parts) = node_of parts

-- the mark of a term
unfoldable pub marked : Term → Mark
marked = fold-Term Mark marked_step
