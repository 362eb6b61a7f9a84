use Rattle.std.proofs.Common.{rules, ◌≡◌, ℕ, List, [], ◌∷◌, ◌++◌, map, None, ap, ◌∙◌}
use Rattle.std.specs.Str.{bytes_eq}
use Rattle.chc_sorts.specs.Names.{look_up}
use Rattle.chc_elab.proofs.SymbolRows.{row_of, absent-key, rows-insert}
use Rattle.chc_elab.proofs.symbols.Symbols.add.Goals as goal

pub returns-clause-added : goal.returns-clause-added
returns-clause-added c =
    let es = c.self.inside.rows.entries in
    let key = c.into_vec.result in
    let items : key.items ≡ c.args.name = search rules in
    let free : look_up (map (row_of (λ k. k.items)) es) key.items ≡ None = ap (look_up (map (row_of (λ k. k.items)) es)) items ∙ search rules in
    ap (map (row_of (λ k. k.items))) c.in_ok-insert.ensures.entries
    ∙ rows-insert (λ k. k.items) (λ j k. bytes_eq j.items k.items) es key c.args.symbol (absent-key (λ k. k.items) es key.items free)
    ∙ ap (λ (l : List ℕ). map (row_of (λ k. k.items)) es ++ (l, c.args.symbol) ∷ []) items
    ∙ search rules
