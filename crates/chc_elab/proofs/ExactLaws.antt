-- A tree is read as a term exactly where it stands for it.
use Rattle.std.proofs.Common.{◌≡◌, ◌∙◌, ap, subst, Ok}
use Rattle.chc_elab.specs.declared.typed.Typed.{Typed}
use Rattle.chc_elab.specs.declared.sorted_term.SortedTerm.{SortedTerm}
use Rattle.chc_elab.specs.Sites.{◌>>>◌}
use Rattle.chc_elab.specs.Binders.{outer_site}
use Rattle.chc_elab.specs.Reads.{read_at, elaborated_with_sort}
use Rattle.chc_elab.specs.Stands.{IsRead, ReadWhereStands}
use Rattle.chc_elab.proofs.Readings.{bind_ok, ok_same}
use Rattle.chc_elab.proofs.ReadStands.{read_stands}
use Rattle.chc_elab.proofs.StandsRead.{stands_read}

-- what is read, as callers see it
abbrev with_sort : Typed → SortedTerm
with_sort t = record { term = t.term; sort = t.sort }

pub read_where_stands : ReadWhereStands
read_where_stands setting names sorts t v =
    let site = outer_site names sorts in (
      (λ e.
          let (w, given, same) = bind_ok (elaborated_with_sort setting names sorts t) (λ (w : SortedTerm). Ok w.term) v e in
          let (u, read, whole) = bind_ok (read_at setting t site) (λ (u : Typed). Ok (with_sort u)) w given in
          let term : u.term ≡ v = ap (λ (w : SortedTerm). w.term) (ok_same (with_sort u) w whole) ∙ ok_same w.term v same in
          (u.sort, subst (λ w. IsRead setting site t (record { term = w; sort = u.sort })) term (read_stands setting site t u read))),
      (λ h.
          ap (λ r. r >>> (λ (u : Typed). Ok (with_sort u)) >>> (λ (w : SortedTerm). Ok w.term))
          (stands_read setting site t (record { term = v; sort = h.0 }) h.1)),
    )
