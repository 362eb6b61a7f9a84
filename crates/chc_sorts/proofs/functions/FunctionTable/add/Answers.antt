use Rattle.std.proofs.Common.{rules, ◌≡◌, ℕ, List, [], ◌∷◌, ◌++◌, map, false, ap, ◌∙◌}
use Rattle.std.specs.List.{list_any}
use Rattle.std.specs.Str.{bytes_eq}
use Rattle.std.specs.Map.{keys_of}
use Rattle.chc_sorts.proofs.Tables.{list_any-map}
use Rattle.chc_sorts.proofs.Rows.{row_of, names-map, rows-insert}
use Rattle.chc_sorts.proofs.functions.FunctionTable.add.Goals as goal

pub returns-clause-added : goal.returns-clause-added
returns-clause-added c =
    let es = c.self.inside.rows.entries in
    let made = c.extend_from_slice.new.self in
    let items : made.items ≡ c.args.name.now = search rules in
    let absent : list_any (λ k. bytes_eq made.items k.items) (keys_of es) ≡ false =
    list_any-map (λ k. k.items) (bytes_eq made.items) (keys_of es)
    ∙ ap (list_any (bytes_eq made.items)) (names-map (λ k. k.items) es)
    ∙ ap (λ (l : List ℕ). list_any (bytes_eq l) (map (λ r. r.0) (map (row_of (λ k. k.items)) es))) items
    ∙ search rules in
    ap (map (row_of (λ k. k.items))) c.in_ok-insert.ensures.entries
    ∙ rows-insert (λ k. k.items) (λ j k. bytes_eq j.items k.items) es made c.args.meaning absent
    ∙ ap (λ (l : List ℕ). map (row_of (λ k. k.items)) es ++ (l, c.args.meaning) ∷ []) items
    ∙ search rules
