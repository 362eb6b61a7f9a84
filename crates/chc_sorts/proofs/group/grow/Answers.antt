use Rattle.std.proofs.Common.{◌≡◌, ◌++◌, ◌∷◌, [], ℕ, List, length, take, ap, sym, subst, ◌∙◌}
use Rattle.std.proofs.Math.Seq.{take-append_seam}
use Rattle.chc_sorts.specs.declared.data.Data.{Data}
use Rattle.chc_sorts.specs.Signature.{AllInhabited}
use Rattle.chc_sorts.specs.Names.{each_from}
use Rattle.chc_sorts.specs.Listing.{rows_of}
use Rattle.chc_sorts.proofs.group.grow.Goals as goal

pub check_inhabited-requires-clause-inhabited : goal.check_inhabited-requires-clause-inhabited
check_inhabited-requires-clause-inhabited c =
    let old = c.args.datatypes.now in
    let whole = c.as_slice-2.ensures ∙ c.in_ok-append.ensures.added in
    let front : take c.len-known.result c.as_slice-2.result.now ≡ old = ap (λ (n : ℕ). take n c.as_slice-2.result.now) c.len-known.ensures ∙ ap (take (length old)) whole ∙ take-append_seam old c.args.made in
    subst AllInhabited (sym front) c.requires.inhabited

pub returns-clause-grows : goal.returns-clause-grows
returns-clause-grows c = (
  subst AllInhabited (c.as_slice-2.ensures ∙ c.in_ok-append.ensures.added) c.in_ok-check_inhabited.ensures,
  c.in_ok-append.ensures.added,
  c.in_ok-add_size.ensures.added ∙ ap (λ (n : ℕ). c.args.groups.now ++ n ∷ []) c.len.ensures,
  c.in_ok-add_functions.ensures.added
      ∙ ap (λ (n : ℕ). c.args.functions.now ++ each_from rows_of n c.as_slice.result.now) c.len-known.ensures
      ∙ ap (λ (l : List Data). c.args.functions.now ++ each_from rows_of (length c.args.datatypes.now) l) c.as_slice.ensures,
)
