use Rattle.std.proofs.Common.{rules, to_z-of_z}
use Rattle.std.proofs.lemmas.List.Sorted.{answers_always}
use Rattle.chc_values.proofs.Places.{searched}
use Rattle.chc_values.proofs.array.place_of.Goals as goal

pub returns-clause-found : goal.returns-clause-found
returns-clause-found c =
    let facts = c.binary_search_by_key.ensures in
    let by_key = facts.position (λ entry. entry.0) (answers_always _ _ _ (λ f a r g called. search rules)) in
    (searched c.args.entries.now c.args.i c.requires _ _ facts.bound by_key (search (rules, to_z-of_z))).found

pub returns-clause-absent : goal.returns-clause-absent
returns-clause-absent c =
    let facts = c.binary_search_by_key.ensures in
    let by_key = facts.position (λ entry. entry.0) (answers_always _ _ _ (λ f a r g called. search rules)) in
    (searched c.args.entries.now c.args.i c.requires _ _ facts.bound by_key (search (rules, to_z-of_z))).absent
