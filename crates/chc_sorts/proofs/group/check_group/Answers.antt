use Rattle.std.proofs.Common.{◌≡◌, ℕ, List, Option, Result, Err, option_map, sym, ap, ◌∙◌, subst, false, ◌++◌, map}
use Rattle.std.proofs.lemmas.Result.{err_from_is_err_and}
use Rattle.chc_sorts.specs.declared.taken.NameSpaces.{NameSpaces}
use Rattle.chc_sorts.specs.declared.refusal.SigErr.{SigErr}
use Rattle.chc_sorts.specs.declared.refusal.SigErr.TheVariants as refusal
use Rattle.chc_sorts.specs.declared.spec.DataSpec.{DataSpec}
use Rattle.chc_sorts.specs.Groups.{declared_by, first_taken, taken_names, sort_refusal, limit_passed, first_refusal, names_with, field_specs}
use Rattle.chc_sorts.specs.Checks.{Checks, ChecksFor, name_found, sort_found}
use Rattle.chc_sorts.proofs.PassLaws.{checks_err, checks_first, checks_next, found_behind}
use Rattle.chc_sorts.proofs.FieldLaws.{found_is_refusal}
use Rattle.chc_sorts.proofs.GroupLaws.{found_at_start, by_limit}
use Rattle.chc_sorts.proofs.group.check_group.Goals as goal

pub returns-in_err-declare_all : goal.returns-in_err-declare_all
returns-in_err-declare_all c =
    let sig = c.args.sig.now in let preds = c.args.preds.now in let group = c.args.group.now in
    let own : NameSpaces = record { sorts = c.in_ok-copy.field-0; functions = c.new.result } in
    let e = c.in_err-declare_all.field-0.0 in
    let p = err_from_is_err_and c.from_residual-in_err-declare_all.result c.from_residual-in_err-declare_all.ensures.1 in
    let start = found_at_start sig preds own (declared_by group) (c.in_ok-copy.ensures ∙ c.names.ensures) c.new.ensures in
    let found : Checks (Err e) (name_found sig preds own (declared_by group)) = checks_err (name_found sig preds) own (declared_by group) c.declare_all.new.own e c.in_err-declare_all.ensures.passes in
    let first : Checks (Err e) (option_map (λ name. refusal.NameTaken name) (first_taken (taken_names sig preds) (declared_by group))) = subst (λ (o : Option SigErr). Checks (Err e) o) start found in
    subst (λ (r : Result (List (List ℕ)) SigErr). ChecksFor (names_with sig group) r (first_refusal sig group preds)) (sym (p.1 ∙ ap Err p.2))
    (checks_first e _ _ first)

pub returns-in_err-check_sorts : goal.returns-in_err-check_sorts
returns-in_err-check_sorts c =
    let sig = c.args.sig.now in let preds = c.args.preds.now in let group = c.args.group.now in
    let own : NameSpaces = record { sorts = c.in_ok-copy.field-0; functions = c.new.result } in
    let free = sym (found_at_start sig preds own (declared_by group) (c.in_ok-copy.ensures ∙ c.names.ensures) c.new.ensures)
    ∙ found_behind (name_found sig preds) own (declared_by group) c.declare_all.new.own tt c.in_ok-declare_all.ensures.passes in
    let names : c.declare_all.new.own.sorts ≡ names_with sig group = c.in_ok-declare_all.ensures.added ∙ ap (λ (l : List (List ℕ)). l ++ map (λ (t : DataSpec). t.name) group) (c.in_ok-copy.ensures ∙ c.names.ensures) in
    let found = ap (λ (l : List (List ℕ)). sort_found l (record { misindexed = false; deep = false }) (field_specs group)) names ∙ found_is_refusal (names_with sig group) (field_specs group) in
    let e = c.in_err-check_sorts.field-0.0 in
    let p = err_from_is_err_and c.from_residual-in_err-check_sorts.result c.from_residual-in_err-check_sorts.ensures.1 in
    let first : Checks (Err e) (sort_refusal (names_with sig group) (field_specs group)) = subst (λ (o : Option SigErr). Checks (Err e) o) found c.in_err-check_sorts.ensures in
    subst (λ (r : Result (List (List ℕ)) SigErr). ChecksFor (names_with sig group) r (first_refusal sig group preds)) (sym (p.1 ∙ ap Err p.2))
    (checks_next (Err e) _ _ free (checks_first e _ (option_map (λ l. refusal.TooMany l) (limit_passed sig group)) first))

pub returns-in-Some : goal.returns-in-Some
returns-in-Some c =
    let sig = c.args.sig.now in let preds = c.args.preds.now in let group = c.args.group.now in
    let own : NameSpaces = record { sorts = c.in_ok-copy.field-0; functions = c.new.result } in
    let free = sym (found_at_start sig preds own (declared_by group) (c.in_ok-copy.ensures ∙ c.names.ensures) c.new.ensures)
    ∙ found_behind (name_found sig preds) own (declared_by group) c.declare_all.new.own tt c.in_ok-declare_all.ensures.passes in
    let names : c.declare_all.new.own.sorts ≡ names_with sig group = c.in_ok-declare_all.ensures.added ∙ ap (λ (l : List (List ℕ)). l ++ map (λ (t : DataSpec). t.name) group) (c.in_ok-copy.ensures ∙ c.names.ensures) in
    let found = ap (λ (l : List (List ℕ)). sort_found l (record { misindexed = false; deep = false }) (field_specs group)) names ∙ found_is_refusal (names_with sig group) (field_specs group) in
    by_limit _ _ (limit_passed sig group) free (sym found ∙ c.in_ok-check_sorts.ensures) ∙ ap (option_map (λ l. refusal.TooMany l)) (sym c.limit_passed.ensures ∙ c.in-Some.is)

pub returns : goal.returns
returns c =
    let sig = c.args.sig.now in let preds = c.args.preds.now in let group = c.args.group.now in
    let own : NameSpaces = record { sorts = c.in_ok-copy.field-0; functions = c.new.result } in
    let free = sym (found_at_start sig preds own (declared_by group) (c.in_ok-copy.ensures ∙ c.names.ensures) c.new.ensures)
    ∙ found_behind (name_found sig preds) own (declared_by group) c.declare_all.new.own tt c.in_ok-declare_all.ensures.passes in
    let names : c.declare_all.new.own.sorts ≡ names_with sig group = c.in_ok-declare_all.ensures.added ∙ ap (λ (l : List (List ℕ)). l ++ map (λ (t : DataSpec). t.name) group) (c.in_ok-copy.ensures ∙ c.names.ensures) in
    let found = ap (λ (l : List (List ℕ)). sort_found l (record { misindexed = false; deep = false }) (field_specs group)) names ∙ found_is_refusal (names_with sig group) (field_specs group) in
    (by_limit _ _ (limit_passed sig group) free (sym found ∙ c.in_ok-check_sorts.ensures) ∙ ap (option_map (λ l. refusal.TooMany l)) (sym c.limit_passed.ensures ∙ c.in_default.is), names)
