use Rattle.std.proofs.Common.{◌≡◌, ◌≤◌, ◌+◌, ◌∷◌, [], List, None, Some, ap, arith, cond, drop, length, subst, sym, ◌∙◌}
use Rattle.std.proofs.lemmas.List.{drop_all}
use Rattle.chc_state.specs.declared.clause.PredDecl.{PredDecl}
use Rattle.std.specs.Option.{option_or}
use Rattle.std.specs.Str.{bytes_eq}
use Rattle.chc_sorts.specs.Names.{look_up}
use Rattle.ans_model.specs.Drafts.{ArePreds, owner_from, pred_number}
use Rattle.ans_model.proofs.FormLaws.{from_item}
use Rattle.ans_model.proofs.TargetLaws.{dead_found, decls_end, from_here, live_found, names_end, none_here}
use Rattle.ans_model.proofs.target.live_by_name.Goals as goal
use Rattle.ans_model.proofs.target.live_by_name.Goals.{then-decl+in_ok-add_once, else-decl}

pub returns-in_default : goal.returns-in_default
returns-in_default c =
    let none : drop c.loop-p.p c.args.names.now ≡ [] = none_here c.args.names.now c.loop-p.p (sym c.in_default.ensures.value) in
    names_end c.args.names.now c.args.preds.now c.loop-p.p c.loop-p.table (owner_from 0 c.args.names.now c.args.preds.now) c.loop-p.invariant.found none

pub loop-p-preserved : goal.loop-p-preserved
loop-p-preserved c =
    let p = c.loop-p.p in
    let items = c.as_slice-decl-items.result.now in
    let decl = c.decl-item.result in
    let named : drop p c.args.names.now ≡ c.in-Some.name.now ∷ drop (p + 1) c.args.names.now = from_here c.args.names.now p c.in-Some.name.now (sym c.in-Some.ensures.value) in
    let there : drop p c.args.preds.now ≡ decl ∷ drop (p + 1) c.args.preds.now =
    subst (λ (l : List PredDecl). drop p l ≡ decl ∷ drop (p + 1) l) c.as_slice-decl-items.ensures (from_item items p decl c.loop-p-test.true c.decl-item.is) in
    elim c.if-decl.branch [
      | then-decl+in_ok-add_once w ↦ record {
        preds = subst ArePreds (sym w.table-is) w.in_ok-add_once.ensures.preds;
        found =
            live_found c.args.names.now c.args.preds.now p c.loop-p.table (owner_from 0 c.args.names.now c.args.preds.now) c.in-Some.name.now decl named there
            c.loop-p.invariant.found c.if-decl.table w.if-decl.true
            (λ other. ap (λ t. pred_number (look_up t other)) w.table-is ∙ w.in_ok-add_once.ensures.added other
            ∙ ap (λ n. option_or (pred_number (look_up c.loop-p.table other)) (cond (bytes_eq n other) (Some p) None)) w.as_slice.ensures);
      }
      | else-decl w ↦ record {
        preds = subst ArePreds (sym w.table-is) c.loop-p.invariant.preds;
        found =
            dead_found c.args.names.now c.args.preds.now p c.loop-p.table (owner_from 0 c.args.names.now c.args.preds.now) c.in-Some.name.now decl named there
            c.loop-p.invariant.found c.if-decl.table w.table-is w.if-decl.false;
      }
    ]

pub returns : goal.returns
returns c =
    let whole = ap length c.as_slice-decl-items.ensures in
    let past : length c.args.preds.now ≤ c.loop-p.p = omega (arith, whole, c.loop-p-test.false) in
    let none : drop c.loop-p.p c.args.preds.now ≡ [] = drop_all c.loop-p.p c.args.preds.now past in
    decls_end c.args.names.now c.args.preds.now c.loop-p.p c.loop-p.table (owner_from 0 c.args.names.now c.args.preds.now) c.loop-p.invariant.found none
