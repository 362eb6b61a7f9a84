use Rattle.std.proofs.Common.{◌≡◌, ℕ, List, [], ◌∷◌, Err, Option, Result, map, length, sym, ap, ◌∙◌, subst, ◌++◌, arith}
use Rattle.std.specs.List.{flat_map, list_all}
use Rattle.std.proofs.lemmas.List.{length-map}
use Rattle.chc_sorts.specs.declared.data.Data.{Data}
use Rattle.chc_sorts.specs.Signature.{Signature, AllInhabited}
use Rattle.chc_sorts.specs.Names.{each_from}
use Rattle.chc_sorts.specs.Functions.{function_names}
use Rattle.chc_sorts.specs.Listing.{AreFresh, names_of, data_names, rows_of, is_narrow}
use Rattle.std.specs.Prelude.{⊤}
use Rattle.std.proofs.lemmas.Result.{err_from_is_err_and}
use Rattle.chc_sorts.specs.declared.refusal.SigErr.{SigErr}
use Rattle.chc_sorts.specs.Groups.{first_refusal, names_with, data_declared, with_group, AddsGroup}
use Rattle.chc_sorts.specs.Checks.{Checks, HaveSameNames}
use Rattle.chc_sorts.specs.Made.{IsMade, CanBeMade}
use Rattle.std.proofs.Math.Logic.{∥∥₁_map}
use Rattle.chc_sorts.proofs.AddLaws.{kept_along, kept_after, refusal_same, refused_by_check, refused_late, no_refusal, few_datatypes, length_names_with, narrow_datatypes, fresh_functions}
use Rattle.chc_sorts.proofs.sig.Sig.add_group.Goals as goal

pub returns-in_err-names : goal.returns-in_err-names
returns-in_err-names c =
    let sig = c.args.self.now in let preds = c.args.preds.now in let group = c.args.group.now in
    let e = c.in_err-names.field-0.0 in
    let same : HaveSameNames c.in_ok-preds.preds preds = subst (λ (l : List (List ℕ)). HaveSameNames c.in_ok-preds.preds l) c.as_slice.ensures c.in_ok-preds.ensures in
    let p = err_from_is_err_and c.from_residual-in_err-names.result c.from_residual-in_err-names.ensures.1 in
    let why : Checks (Err e) (first_refusal sig group preds) = subst (λ (o : Option SigErr). Checks (Err e) o) (refusal_same sig group preds c.in_ok-preds.preds same) c.in_err-names.ensures in
    subst (λ (r : Result ⊤ SigErr). AddsGroup sig group preds r sig) (sym (p.1 ∙ ap Err p.2)) (refused_by_check sig group preds e why)

pub invariant_of-self : goal.invariant_of-self
invariant_of-self c =
    let s = c.in_err-extend.ensures.same in
    kept_along c.self.inside.datatypes c.extend.new.datatypes c.self.inside.groups c.extend.new.groups c.self.inside.names c.self.inside.functions c.extend.new.functions s.0 s.1 s.2 c.self.invariant

pub extend-requires-clause-few : goal.extend-requires-clause-few
extend-requires-clause-few c =
    let old = c.self.inside in
    let sig = c.args.self.now in let preds = c.args.preds.now in let group = c.args.group.now in
    let none = c.in_ok-names.ensures.0 in
    let made : c.in_ok-made.made ≡ map (data_declared (names_with sig group)) group = c.in_ok-made.ensures ∙ ap (λ (l : List (List ℕ)). map (data_declared l) group) c.in_ok-names.ensures.1 in
    let few = few_datatypes sig group (no_refusal sig group c.in_ok-preds.preds none).1 in
    let count = ap length made ∙ length-map group (data_declared (names_with sig group)) in
    let same : length old.datatypes ≡ length sig.datatypes = ap (λ (s : Signature). length s.datatypes) c.self.view_is in
    omega arith

pub extend-requires-clause-narrow : goal.extend-requires-clause-narrow
extend-requires-clause-narrow c =
    let old = c.self.inside in
    let sig = c.args.self.now in let preds = c.args.preds.now in let group = c.args.group.now in
    let none = c.in_ok-names.ensures.0 in
    let made : c.in_ok-made.made ≡ map (data_declared (names_with sig group)) group = c.in_ok-made.ensures ∙ ap (λ (l : List (List ℕ)). map (data_declared l) group) c.in_ok-names.ensures.1 in
    ap (list_all is_narrow) made ∙ narrow_datatypes sig group (names_with sig group) (no_refusal sig group c.in_ok-preds.preds none).1

pub extend-requires-clause-fresh : goal.extend-requires-clause-fresh
extend-requires-clause-fresh c =
    let old = c.self.inside in
    let sig = c.args.self.now in let preds = c.args.preds.now in let group = c.args.group.now in
    let none = c.in_ok-names.ensures.0 in
    let made : c.in_ok-made.made ≡ map (data_declared (names_with sig group)) group = c.in_ok-made.ensures ∙ ap (λ (l : List (List ℕ)). map (data_declared l) group) c.in_ok-names.ensures.1 in
    let fresh = fresh_functions sig group c.in_ok-preds.preds (names_with sig group) (no_refusal sig group c.in_ok-preds.preds none).0 in
    let rows : names_of old.functions ≡ function_names sig = ap names_of c.self.invariant.tabled ∙ ap function_names c.self.view_is in
    subst (λ (l : List (List ℕ)). AreFresh l (flat_map data_names c.in_ok-made.made)) (sym rows)
    (subst (λ (l : List Data). AreFresh (function_names sig) (flat_map data_names l)) (sym made) fresh)

pub returns-in_err-extend : goal.returns-in_err-extend
returns-in_err-extend c =
    let old = c.self.inside in
    let sig = c.args.self.now in let preds = c.args.preds.now in let group = c.args.group.now in
    let none = c.in_ok-names.ensures.0 in
    let made : c.in_ok-made.made ≡ map (data_declared (names_with sig group)) group = c.in_ok-made.ensures ∙ ap (λ (l : List (List ℕ)). map (data_declared l) group) c.in_ok-names.ensures.1 in
    let e = c.in_err-extend.field-0.0 in
    let s = c.in_err-extend.ensures.same in
    let p = err_from_is_err_and c.from_residual-in_err-extend.result c.from_residual-in_err-extend.ensures.1 in
    let new : Signature = record { datatypes = c.extend.new.datatypes; groups = c.extend.new.groups } in
    let back : new ≡ sig = (λ i. record { datatypes = s.0 i; groups = s.1 i }) ∙ c.self.view_is in
    let same : HaveSameNames c.in_ok-preds.preds preds = subst (λ (l : List (List ℕ)). HaveSameNames c.in_ok-preds.preds l) c.as_slice.ensures c.in_ok-preds.ensures in
    let free = sym (refusal_same sig group preds c.in_ok-preds.preds same) ∙ none in
    let joined = ap (λ (l : List Data). old.datatypes ++ l) made ∙ ap (λ (q : Signature). q.datatypes ++ map (data_declared (names_with sig group)) group) c.self.view_is in
    subst (λ (r : Result ⊤ SigErr). AddsGroup sig group preds r new) (sym (p.1 ∙ ap Err p.2))
    (refused_late sig new group preds e old.datatypes c.extend.new.datatypes c.in_ok-made.made old.groups c.extend.new.groups old.functions c.extend.new.functions back free joined c.in_err-extend.ensures.grows)

pub invariant_of-self-2 : goal.invariant_of-self-2
invariant_of-self-2 c =
    let old = c.self.inside in
    let sig = c.args.self.now in let preds = c.args.preds.now in let group = c.args.group.now in
    let none = c.in_ok-names.ensures.0 in
    let made : c.in_ok-made.made ≡ map (data_declared (names_with sig group)) group = c.in_ok-made.ensures ∙ ap (λ (l : List (List ℕ)). map (data_declared l) group) c.in_ok-names.ensures.1 in
    let g = c.in_ok-extend.ensures.grows in
    let few = few_datatypes sig group (no_refusal sig group c.in_ok-preds.preds none).1 in
    let same : length old.datatypes ≡ length sig.datatypes = ap (λ (s : Signature). length s.datatypes) c.self.view_is in
    let preds_same : HaveSameNames c.in_ok-preds.preds preds = subst (λ (l : List (List ℕ)). HaveSameNames c.in_ok-preds.preds l) c.as_slice.ensures c.in_ok-preds.ensures in
    let free = sym (refusal_same sig group preds c.in_ok-preds.preds preds_same) ∙ none in
    let joined = ap (λ (l : List Data). old.datatypes ++ l) made ∙ ap (λ (q : Signature). q.datatypes ++ map (data_declared (names_with sig group)) group) c.self.view_is in
    let sizes = g.2 ∙ ap (λ (n : ℕ). old.groups ++ n ∷ []) (ap length made ∙ length-map group (data_declared (names_with sig group))) ∙ ap (λ (q : Signature). q.groups ++ length group ∷ []) c.self.view_is in
    let whole = g.1 ∙ joined in
    let step : CanBeMade (with_group sig group) = ∥∥₁_map (subst CanBeMade c.self.view_is c.self.invariant.made) (λ (m : IsMade sig). IsMade.more sig group preds m free (subst AllInhabited joined g.0)) in
    kept_after old.datatypes c.extend.new.datatypes old.groups c.extend.new.groups old.functions c.extend.new.functions group (names_with sig group) c.in_ok-names.names (omega arith)
    (subst (λ (l : List Data). AllInhabited (old.datatypes ++ l)) made g.0) (g.1 ∙ ap (λ (l : List Data). old.datatypes ++ l) made) (g.3 ∙ ap (λ (l : List Data). old.functions ++ each_from rows_of (length old.datatypes) l) made)
    c.self.invariant.tabled (c.in_ok-names.ensures.1 ∙ ap (λ (q : Signature). names_with q group) (sym c.self.view_is))
    c.self.invariant.narrow (narrow_datatypes sig group (names_with sig group) (no_refusal sig group c.in_ok-preds.preds none).1)
    c.self.invariant.known (let n = length_names_with sig group in omega arith)
    (subst CanBeMade (sym (λ i. record { datatypes = whole i; groups = sizes i })) step)

pub returns : goal.returns
returns c =
    let old = c.self.inside in
    let sig = c.args.self.now in let preds = c.args.preds.now in let group = c.args.group.now in
    let none = c.in_ok-names.ensures.0 in
    let made : c.in_ok-made.made ≡ map (data_declared (names_with sig group)) group = c.in_ok-made.ensures ∙ ap (λ (l : List (List ℕ)). map (data_declared l) group) c.in_ok-names.ensures.1 in
    let g = c.in_ok-extend.ensures.grows in
    let same : HaveSameNames c.in_ok-preds.preds preds = subst (λ (l : List (List ℕ)). HaveSameNames c.in_ok-preds.preds l) c.as_slice.ensures c.in_ok-preds.ensures in
    let free = sym (refusal_same sig group preds c.in_ok-preds.preds same) ∙ none in
    let joined = ap (λ (l : List Data). old.datatypes ++ l) made ∙ ap (λ (q : Signature). q.datatypes ++ map (data_declared (names_with sig group)) group) c.self.view_is in
    let count = ap length made ∙ length-map group (data_declared (names_with sig group)) in
    let sizes = g.2 ∙ ap (λ (n : ℕ). old.groups ++ n ∷ []) count ∙ ap (λ (q : Signature). q.groups ++ length group ∷ []) c.self.view_is in
    let whole = g.1 ∙ joined in
    (free, subst AllInhabited joined g.0, λ i. record { datatypes = whole i; groups = sizes i })
