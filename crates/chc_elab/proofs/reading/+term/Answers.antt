use Rattle.std.proofs.Common.{rules, ◌≡◌, ◌≤◌, ◌+◌, ◌-◌, ◌++◌, ◌∷◌, [], ℕ, pos, neg_ℤ, true, false, List, length, drop, refl, ap, sym, subst, ◌∙◌, None, Some, Ok, Err, option_copied, arith}
use Rattle.std.proofs.lemmas.List.{at_drop_more, drop_all, length-drop}
use Rattle.chc_sexpr.specs.Counts.{count, count_all}
use Rattle.chc_sexpr.specs.Shapes.{group_of}
use Rattle.chc_sexpr.specs.declared.tree.Tree.{Tree}
use Rattle.chc_sexpr.specs.declared.tree.Tree.TheVariants.{Group}
use Rattle.chc_terms.specs.Counts.{size}
use Rattle.chc_elab.specs.declared.typed.Typed.{Typed}
use Rattle.chc_elab.specs.Binders.{variables_from, with_variables}
use Rattle.chc_elab.specs.Building.{head_takes, joined}
use Rattle.chc_elab.specs.Forms.{form_of}
use Rattle.chc_elab.specs.Limits.{most_nodes}
use Rattle.chc_elab.specs.Reads.{arguments, beside, counted, formed, let_read, number, on_two, quantified, quantifier_read, read_at, roles_of}
use Rattle.chc_elab.specs.Rooms.{HasRoom}
use Rattle.chc_elab.specs.Settings.{setting_of, site_at}
use Rattle.chc_elab.specs.Sites.{Local, Reading, Site, Tells}
use Rattle.chc_elab.proofs.ReadSoFar.{args_and_more, values_and_more}
use Rattle.chc_elab.proofs.ReadSteps.{applied_by, args_begin, args_done, args_next, arguments_many, count_second, counted_right, counted_wrong, form_some, group_form, group_tells, let_body, parts, quantifier_body, read_next, second_or, seconds_or, takes_beside, tells_next, three, values_done, values_tells, within_limit}
use Rattle.chc_elab.proofs.RoleLaws.{whole-Group}
use Rattle.chc_elab.proofs.Room.{room_group, room_kept, room_less, room_one, room_sorts, room_terms, room_variables, site_terms, site_variables}
use Rattle.chc_elab.proofs.TreeCounts.{count-Group, count_at, count_inner, count_two}
use Rattle.chc_elab.proofs.reading.+term.Goals as goal

pub read_term-returns-in_err-form-in-Group-clause-value : goal.read_term-returns-in_err-form-in-Group-clause-value
read_term-returns-in_err-form-in-Group-clause-value t c =
    let setting = setting_of c.args.declared.now in
    let site = site_at c.args.frames.now c.args.variables in
    let trees = c.as_slice-in-Group.result.now in
    let place = c.in-Group.place in
    let grouped : c.args.tree.now ≡ Group place trees = c.in-Group.is ∙ ap (λ l. Group place l) (sym c.as_slice-in-Group.ensures) in
    let told : Tells {A = Typed} (Err c.in_err-form-in-Group.field-0.0) (read_at setting c.args.tree.now site) =
    subst (λ (r : Reading Typed). Tells {A = Typed} (Err c.in_err-form-in-Group.field-0.0) r)
    (sym (ap (λ t. read_at setting t site) grouped ∙ whole-Group setting place trees site))
    (group_tells setting place trees site c.in_err-form-in-Group.field-0.0 (c.in_err-form-in-Group.ensures place grouped)) in
    search rules

pub read_term-read_form-requires : goal.read_term-read_form-requires
read_term-read_form-requires t c =
    let setting = setting_of c.args.declared.now in
    let trees = c.in-Group.trees in
    let place = c.in-Group.place in
    let grouped : c.args.tree.now ≡ Group place c.as_slice-in-Group.result.now = c.in-Group.is ∙ ap (λ l. Group place l) (sym c.as_slice-in-Group.ensures) in
    let counted = ap count c.in-Group.is ∙ count-Group place trees in
    let same : count_all c.as_slice-in-Group-2.result.now ≡ count_all trees = ap (λ l. count_all l) c.as_slice-in-Group-2.ensures in
    let long : length c.as_slice-in-Group-2.result.now ≡ length trees = ap (λ (l : List Tree). length l) c.as_slice-in-Group-2.ensures in
    let some = form_some setting place trees c.in_ok-form-in-Group.form (c.in_ok-form-in-Group.ensures place grouped ∙ ap (form_of setting place) c.as_slice-in-Group.ensures) in
    let falls = c.decreases in
    (omega arith, (room_group (site_at c.args.frames.now c.args.variables) c.args.tree.now place trees c.as_slice-in-Group-2.result.now c.requires.room c.in-Group.is c.as_slice-in-Group-2.ensures, omega arith))

pub read_term-returns-in_ok-form-in-Group-clause-value : goal.read_term-returns-in_ok-form-in-Group-clause-value
read_term-returns-in_ok-form-in-Group-clause-value t c =
    let setting = setting_of c.args.declared.now in
    let site = site_at c.args.frames.now c.args.variables in
    let trees = c.in-Group.trees in
    let place = c.in-Group.place in
    let form = c.in_ok-form-in-Group.form in
    let grouped : c.args.tree.now ≡ Group place c.as_slice-in-Group.result.now = c.in-Group.is ∙ ap (λ l. Group place l) (sym c.as_slice-in-Group.ensures) in
    let formed_so : Ok form ≡ form_of setting place trees = c.in_ok-form-in-Group.ensures place grouped ∙ ap (form_of setting place) c.as_slice-in-Group.ensures in
    let same : formed setting place (beside setting (drop 1 c.as_slice-in-Group-2.result.now)) site form ≡ read_at setting c.args.tree.now site =
    ap (λ (l : List Tree). formed setting place (beside setting (drop 1 l)) site form) c.as_slice-in-Group-2.ensures
    ∙ group_form setting place trees site form formed_so
    ∙ sym (ap (λ t. read_at setting t site) c.in-Group.is ∙ whole-Group setting place trees site) in
    subst (λ (r : Reading Typed). Tells c.read_form.result r) same c.read_form.ensures.value

pub read_form-returns-in-Some-clause-value : goal.read_form-returns-in-Some-clause-value
read_form-returns-in-Some-clause-value t c =
    let setting = setting_of c.args.declared.now in
    let site = site_at c.args.frames.now c.args.variables in
    let ts = drop 1 c.args.trees.now in
    let same : Ok (number (neg_ℤ c.in-Some.n)) ≡ formed setting c.args.place (beside setting ts) site c.args.form =
    applied_by setting c.args.place ts site c.in-Applied.head (Some c.in-Some.n) (sym c.in-Some.is ∙ c.negative.ensures.value)
    ∙ ap (λ f. formed setting c.args.place (beside setting ts) site f) (sym c.in-Applied.is) in
    search rules

pub read_application-returns-then-not-head_takes-clause-value : goal.read_application-returns-then-not-head_takes-clause-value
read_application-returns-then-not-head_takes-clause-value t c =
    let setting = setting_of c.args.declared.now in
    let site = site_at c.args.frames.now c.args.variables in
    let ts = drop 1 c.args.trees.now in
    let wrong : c.head_takes.result ≡ false = search rules in
    subst (λ (r : Reading Typed). Tells c.fault.result r)
    (counted_wrong setting c.args.place c.args.head ts site
    (takes_beside setting c.args.head ts false (length c.args.trees.now - 1) (length-drop 1 c.args.trees.now) (sym wrong ∙ c.head_takes.ensures)))
    c.fault.ensures

pub read_application-returns-in_err-args-clause-value : goal.read_application-returns-in_err-args-clause-value
read_application-returns-in_err-args-clause-value t c =
    let setting = setting_of c.args.declared.now in
    let site = site_at c.args.frames.now c.args.variables in
    let ts = drop 1 c.args.trees.now in
    let right : c.head_takes.result ≡ true = search rules in
    let takes = takes_beside setting c.args.head ts true (length c.args.trees.now - 1) (length-drop 1 c.args.trees.now) (sym right ∙ c.head_takes.ensures) in
    let told : Tells {A = Typed} (Err c.in_err-args.field-0.0) (counted setting c.args.place c.args.head (beside setting ts) site) =
    subst (λ (r : Reading Typed). Tells {A = Typed} (Err c.in_err-args.field-0.0) r) (counted_right setting c.args.place c.args.head ts site takes)
    (tells_next c.in_err-args.field-0.0 (arguments c.args.place site 1 (beside setting ts)) (joined setting.sig c.args.place c.args.head) c.in_err-args.ensures.value) in
    search rules

pub read_application-joined-requires : goal.read_application-joined-requires
read_application-joined-requires t c =
    let setting = setting_of c.args.declared.now in
    let site = site_at c.args.frames.now c.args.variables in
    let ts = drop 1 c.args.trees.now in
    let right : c.head_takes.result ≡ true = search rules in
    let many = arguments_many setting ts c.args.place 1 site c.in_ok-args.args c.in_ok-args.ensures.value in
    ap (head_takes c.args.declared.now.sig.now c.args.head) (many ∙ length-drop 1 c.args.trees.now) ∙ sym c.head_takes.ensures ∙ right

pub read_application-returns-clause-value : goal.read_application-returns-clause-value
read_application-returns-clause-value t c =
    let setting = setting_of c.args.declared.now in
    let site = site_at c.args.frames.now c.args.variables in
    let ts = drop 1 c.args.trees.now in
    let right : c.head_takes.result ≡ true = search rules in
    let takes = takes_beside setting c.args.head ts true (length c.args.trees.now - 1) (length-drop 1 c.args.trees.now) (sym right ∙ c.head_takes.ensures) in
    subst (λ (r : Reading Typed). Tells c.joined.result r)
    (read_next (arguments c.args.place site 1 (beside setting ts)) (joined setting.sig c.args.place c.args.head) c.in_ok-args.args c.in_ok-args.ensures.value
    ∙ counted_right setting c.args.place c.args.head ts site takes)
    c.joined.ensures

pub read_arguments-read_term-requires : goal.read_arguments-read_term-requires
read_arguments-read_term-requires t c =
    let one = count_at c.args.trees.now c.loop-i.i c.index-trees-i.result c.loop-i-test.true c.index-trees-i.is in
    (omega arith, room_one c.loop-i.frames c.args.frames.now c.args.variables c.args.trees.now c.loop-i.i c.index-trees-i.result c.requires.room c.loop-i.invariant.kept c.loop-i-test.true c.index-trees-i.is)

pub read_arguments-loop-i-init : goal.read_arguments-loop-i-init
read_arguments-loop-i-init t c =
    let setting = setting_of c.args.declared.now in
    let site = site_at c.args.frames.now c.args.variables in
    let ts = drop 1 c.args.trees.now in
    record {
      kept = refl;
      few = omega arith;
      same = ap (λ (l : List Typed). args_and_more setting c.args.place site 1 l ts) c.new-args.ensures ∙ args_begin setting c.args.place 1 site ts;
    }

pub read_arguments-loop-i-preserved : goal.read_arguments-loop-i-preserved
read_arguments-loop-i-preserved t c =
    let setting = setting_of c.args.declared.now in
    let site = site_at c.args.frames.now c.args.variables in
    let trees = c.args.trees.now in
    let i = c.loop-i.i in
    let place = c.args.place in
    let nodes = c.loop-i.nodes in
    let args = c.loop-i.args in
    let tree = c.index-trees-i.result in
    let arg = c.in_ok-arg.arg in
    let rest = drop (i + 1) trees in
    let small : nodes + c.size-nodes.result ≤ most_nodes = search rules in
    let sized = c.size-nodes.ensures.value in
    let read : Ok arg ≡ read_at setting tree site = c.in_ok-arg.ensures.value ∙ ap (λ fs. read_at setting tree (site_at fs c.args.variables)) c.loop-i.invariant.kept in
    let added : c.push.new.self ≡ args ++ arg ∷ [] = c.in_ok-push.ensures.added in
    let limit = within_limit (nodes + size arg.term) (omega arith) in
    record {
      kept = c.in_ok-arg.ensures.kept ∙ c.loop-i.invariant.kept;
      few = small;
      same =
          ap (λ (m : ℕ). args_and_more setting place site (nodes + m) c.push.new.self rest) sized
          ∙ ap (λ (l : List Typed). args_and_more setting place site (nodes + size arg.term) l rest) added
          ∙ sym (args_next setting place nodes site args tree rest arg read limit)
          ∙ ap (λ (u : Tree). args_and_more setting place site nodes args (u ∷ rest)) c.index-trees-i.is
          ∙ sym (at_drop_more (λ ts. args_and_more setting place site nodes args ts) trees i tree c.loop-i-test.true)
          ∙ c.loop-i.invariant.same;
    }

pub read_arguments-returns-clause-value : goal.read_arguments-returns-clause-value
read_arguments-returns-clause-value t c =
    let setting = setting_of c.args.declared.now in
    let site = site_at c.args.frames.now c.args.variables in
    let at_end = c.loop-i-test.false in
    args_done setting c.args.place c.loop-i.nodes site c.loop-i.args (drop c.loop-i.i c.args.trees.now) (drop_all c.loop-i.i c.args.trees.now (omega arith)) ∙ c.loop-i.invariant.same

pub read_let-read_term-requires : goal.read_let-read_term-requires
read_let-read_term-requires t c =
    let setting = setting_of c.args.declared.now in
    let frames = c.args.frames.now in
    let site = site_at frames c.args.variables in
    let trees = c.args.trees.now in
    let a = c.pairs-item.result in
    let b = c.body-item.result in
    let names = c.in_ok-names-in-len3.names in
    let values = c.in_ok-values-in-len3.values in
    let frame = c.in_ok-terms_bound-in-len3.field-0 in
    let long = c.in-len3.len_at_least in
    let two = count_two trees a b (omega arith) c.pairs-item.is c.body-item.is in
    let more : c.push.new.self ≡ frames ++ frame ∷ [] = c.in_ok-push-in-len3.ensures.added ∙ ap (λ (fs : List (List Local)). fs ++ frame ∷ []) c.in_ok-values-in-len3.ensures.kept in
    let there = site_terms c.push.new.self frames c.args.variables frame names values more (c.in_ok-terms_bound-in-len3.ensures site refl) in
    let room = room_terms setting site trees a b names values c.requires.room (omega arith) c.pairs-item.is c.body-item.is c.in_ok-values-in-len3.ensures.value in
    (omega arith, subst (λ (s : Site). HasRoom s (count b)) (sym there) room)

pub read_let-returns-in_err-term-in-len3-clause-value : goal.read_let-returns-in_err-term-in-len3-clause-value
read_let-returns-in_err-term-in-len3-clause-value t c =
    let setting = setting_of c.args.declared.now in
    let frames = c.args.frames.now in
    let site = site_at frames c.args.variables in
    let trees = c.args.trees.now in
    let a = c.pairs-item.result in
    let b = c.body-item.result in
    let names = c.in_ok-names-in-len3.names in
    let values = c.in_ok-values-in-len3.values in
    let frame = c.in_ok-terms_bound-in-len3.field-0 in
    let long = c.in-len3.len_at_least in
    let short = c.in-len3.len_below in
    let more : c.push.new.self ≡ frames ++ frame ∷ [] = c.in_ok-push-in-len3.ensures.added ∙ ap (λ (fs : List (List Local)). fs ++ frame ∷ []) c.in_ok-values-in-len3.ensures.kept in
    let there = site_terms c.push.new.self frames c.args.variables frame names values more (c.in_ok-terms_bound-in-len3.ensures site refl) in
    let parts_are = three trees a b (omega arith) (omega arith) c.pairs-item.is c.body-item.is in
    let told : Tells {A = Typed} (Err c.in_err-term-in-len3.field-0.0) (on_two c.args.place (let_read setting c.args.place) (beside setting (drop 1 trees)) site) =
    subst (λ (r : Reading Typed). Tells {A = Typed} (Err c.in_err-term-in-len3.field-0.0) r)
    (ap (λ (s : Site). read_at setting b s) there ∙ let_body setting c.args.place trees a b site names values parts_are c.in_ok-names-in-len3.ensures.value c.in_ok-values-in-len3.ensures.value)
    c.in_err-term-in-len3.ensures.value in
    search rules

pub read_let-returns-in_ok-term-in-len3-clause-value : goal.read_let-returns-in_ok-term-in-len3-clause-value
read_let-returns-in_ok-term-in-len3-clause-value t c =
    let setting = setting_of c.args.declared.now in
    let frames = c.args.frames.now in
    let site = site_at frames c.args.variables in
    let trees = c.args.trees.now in
    let a = c.pairs-item.result in
    let b = c.body-item.result in
    let names = c.in_ok-names-in-len3.names in
    let values = c.in_ok-values-in-len3.values in
    let frame = c.in_ok-terms_bound-in-len3.field-0 in
    let long = c.in-len3.len_at_least in
    let short = c.in-len3.len_below in
    let more : c.push.new.self ≡ frames ++ frame ∷ [] = c.in_ok-push-in-len3.ensures.added ∙ ap (λ (fs : List (List Local)). fs ++ frame ∷ []) c.in_ok-values-in-len3.ensures.kept in
    let there = site_terms c.push.new.self frames c.args.variables frame names values more (c.in_ok-terms_bound-in-len3.ensures site refl) in
    let parts_are = three trees a b (omega arith) (omega arith) c.pairs-item.is c.body-item.is in
    c.in_ok-term-in-len3.ensures.value ∙ ap (λ (s : Site). read_at setting b s) there
    ∙ let_body setting c.args.place trees a b site names values parts_are c.in_ok-names-in-len3.ensures.value c.in_ok-values-in-len3.ensures.value

pub read_quantifier-overflow_cast-under : goal.read_quantifier-overflow_cast-under
read_quantifier-overflow_cast-under t c =
    let room = room_sorts (setting_of c.args.declared.now) (site_at c.args.frames.now c.args.variables) c.args.trees.now c.pairs-item.result c.in_ok-sorts-in-len3.sorts
    c.requires.room (omega arith) c.pairs-item.is c.in_ok-sorts-in-len3.ensures in
    let many = c.len.ensures in
    search rules

pub read_quantifier-overflow_add-under : goal.read_quantifier-overflow_add-under
read_quantifier-overflow_add-under t c =
    let room = room_sorts (setting_of c.args.declared.now) (site_at c.args.frames.now c.args.variables) c.args.trees.now c.pairs-item.result c.in_ok-sorts-in-len3.sorts
    c.requires.room (omega arith) c.pairs-item.is c.in_ok-sorts-in-len3.ensures in
    let many = c.len.ensures in
    search rules

pub read_quantifier-variables_bound-requires-clause-room : goal.read_quantifier-variables_bound-requires-clause-room
read_quantifier-variables_bound-requires-clause-room t c =
    let room = room_sorts (setting_of c.args.declared.now) (site_at c.args.frames.now c.args.variables) c.args.trees.now c.pairs-item.result c.in_ok-sorts-in-len3.sorts
    c.requires.room (omega arith) c.pairs-item.is c.in_ok-sorts-in-len3.ensures in
    let many = ap (λ l. length l) c.as_slice.ensures in
    omega arith

pub read_quantifier-read_term-requires : goal.read_quantifier-read_term-requires
read_quantifier-read_term-requires t c =
    let setting = setting_of c.args.declared.now in
    let frames = c.args.frames.now in
    let site = site_at frames c.args.variables in
    let trees = c.args.trees.now in
    let a = c.pairs-item.result in
    let b = c.body-item.result in
    let names = c.in_ok-names-in-len3.names in
    let sorts = c.in_ok-sorts-in-len3.sorts in
    let frame = c.in_ok-variables_bound-in-len3.field-0 in
    let under = c.args.variables + c.len.result in
    let long = c.in-len3.len_at_least in
    let two = count_two trees a b (omega arith) c.pairs-item.is c.body-item.is in
    let more : c.push.new.self ≡ frames ++ frame ∷ [] = c.in_ok-push-in-len3.ensures.added in
    let deeper : under ≡ c.args.variables + length sorts = ap (λ n. c.args.variables + n) c.len.ensures in
    let there = site_variables c.push.new.self frames c.args.variables under frame names sorts more
    (c.in_ok-variables_bound-in-len3.ensures ∙ ap (variables_from c.args.variables names) c.as_slice.ensures) deeper in
    let room = room_variables setting site trees a b names sorts c.requires.room (omega arith) c.pairs-item.is c.body-item.is c.in_ok-sorts-in-len3.ensures in
    (omega arith, subst (λ (s : Site). HasRoom s (count b)) (sym there) room)

pub read_quantifier-returns-in_err-term-in-len3-clause-value : goal.read_quantifier-returns-in_err-term-in-len3-clause-value
read_quantifier-returns-in_err-term-in-len3-clause-value t c =
    let setting = setting_of c.args.declared.now in
    let frames = c.args.frames.now in
    let site = site_at frames c.args.variables in
    let trees = c.args.trees.now in
    let a = c.pairs-item.result in
    let b = c.body-item.result in
    let names = c.in_ok-names-in-len3.names in
    let sorts = c.in_ok-sorts-in-len3.sorts in
    let frame = c.in_ok-variables_bound-in-len3.field-0 in
    let under = c.args.variables + c.len.result in
    let long = c.in-len3.len_at_least in
    let short = c.in-len3.len_below in
    let more : c.push.new.self ≡ frames ++ frame ∷ [] = c.in_ok-push-in-len3.ensures.added in
    let deeper : under ≡ c.args.variables + length sorts = ap (λ n. c.args.variables + n) c.len.ensures in
    let there = site_variables c.push.new.self frames c.args.variables under frame names sorts more
    (c.in_ok-variables_bound-in-len3.ensures ∙ ap (variables_from c.args.variables names) c.as_slice.ensures) deeper in
    let parts_are = three trees a b (omega arith) (omega arith) c.pairs-item.is c.body-item.is in
    let within : Tells {A = Typed} (Err c.in_err-term-in-len3.field-0.0) (read_at setting b (with_variables site names sorts)) =
    subst (λ (s : Site). Tells {A = Typed} (Err c.in_err-term-in-len3.field-0.0) (read_at setting b s)) there c.in_err-term-in-len3.ensures.value in
    let told : Tells {A = Typed} (Err c.in_err-term-in-len3.field-0.0) (on_two c.args.place (quantifier_read setting c.args.place c.args.kind) (beside setting (drop 1 trees)) site) =
    subst (λ (r : Reading Typed). Tells {A = Typed} (Err c.in_err-term-in-len3.field-0.0) r)
    (quantifier_body setting c.args.place c.args.kind trees a b site names sorts parts_are c.in_ok-names-in-len3.ensures.value c.in_ok-sorts-in-len3.ensures)
    (tells_next c.in_err-term-in-len3.field-0.0 (read_at setting b (with_variables site names sorts)) (quantified c.args.place c.args.kind sorts) within) in
    search rules

pub read_quantifier-returns-in_ok-term-in-len3-clause-value : goal.read_quantifier-returns-in_ok-term-in-len3-clause-value
read_quantifier-returns-in_ok-term-in-len3-clause-value t c =
    let setting = setting_of c.args.declared.now in
    let frames = c.args.frames.now in
    let site = site_at frames c.args.variables in
    let trees = c.args.trees.now in
    let a = c.pairs-item.result in
    let b = c.body-item.result in
    let names = c.in_ok-names-in-len3.names in
    let sorts = c.in_ok-sorts-in-len3.sorts in
    let frame = c.in_ok-variables_bound-in-len3.field-0 in
    let under = c.args.variables + c.len.result in
    let long = c.in-len3.len_at_least in
    let short = c.in-len3.len_below in
    let more : c.push.new.self ≡ frames ++ frame ∷ [] = c.in_ok-push-in-len3.ensures.added in
    let deeper : under ≡ c.args.variables + length sorts = ap (λ n. c.args.variables + n) c.len.ensures in
    let there = site_variables c.push.new.self frames c.args.variables under frame names sorts more
    (c.in_ok-variables_bound-in-len3.ensures ∙ ap (variables_from c.args.variables names) c.as_slice.ensures) deeper in
    let parts_are = three trees a b (omega arith) (omega arith) c.pairs-item.is c.body-item.is in
    let read : Ok c.in_ok-term-in-len3.term ≡ read_at setting b (with_variables site names sorts) = c.in_ok-term-in-len3.ensures.value ∙ ap (λ (s : Site). read_at setting b s) there in
    subst (λ (r : Reading Typed). Tells c.quantified.result r)
    (read_next (read_at setting b (with_variables site names sorts)) (quantified c.args.place c.args.kind sorts) c.in_ok-term-in-len3.term read
    ∙ quantifier_body setting c.args.place c.args.kind trees a b site names sorts parts_are c.in_ok-names-in-len3.ensures.value c.in_ok-sorts-in-len3.ensures)
    c.quantified.ensures

pub read_second-read_term-requires : goal.read_second-read_term-requires
read_second-read_term-requires t c =
    let fewer = count_second c.args.pair.now c.in-Some.second.now c.in-Some.ensures in
    (omega arith, room_less (site_at c.args.frames.now c.args.variables) (count c.args.pair.now) (count c.in-Some.second.now) (omega arith) c.requires.room)

pub read_second-returns-in-Some-clause-value : goal.read_second-returns-in-Some-clause-value
read_second-returns-in-Some-clause-value t c =
    let setting = setting_of c.args.declared.now in
    let site = site_at c.args.frames.now c.args.variables in
    subst (λ (r : Reading Typed). Tells c.read_term.result r) (sym ((parts setting c.args.pair.now).second site ∙ ap (second_or setting site) c.in-Some.ensures)) c.read_term.ensures.value

pub read_second-returns-in-None-clause-value : goal.read_second-returns-in-None-clause-value
read_second-returns-in-None-clause-value t c =
    let setting = setting_of c.args.declared.now in
    let site = site_at c.args.frames.now c.args.variables in
    let zero : (roles_of setting c.args.pair.now).second site ≡ Ok (number (pos 0)) = (parts setting c.args.pair.now).second site ∙ ap (second_or setting site) c.in-None.ensures in
    search rules

pub read_seconds-read_second-requires : goal.read_seconds-read_second-requires
read_seconds-read_second-requires t c =
    let trees = c.in-Some.trees.now in
    let grouped : group_of c.args.pairs.now ≡ Some trees = sym c.group_of.ensures ∙ ap option_copied c.in-Some.is in
    let inner = count_inner c.args.pairs.now trees grouped in
    let one = count_at trees c.loop-pair.pair-index c.pair-item.result c.loop-pair-test.true c.pair-item.is in
    (omega arith, room_kept c.loop-pair.frames c.args.frames.now c.args.variables (count c.args.pairs.now) (count c.pair-item.result) c.requires.room (omega arith) c.loop-pair.invariant.kept)

pub read_seconds-returns-in_default-clause-value : goal.read_seconds-returns-in_default-clause-value
read_seconds-returns-in_default-clause-value t c =
    let setting = setting_of c.args.declared.now in
    let site = site_at c.args.frames.now c.args.variables in
    let none : group_of c.args.pairs.now ≡ None = search rules in
    ap Ok c.new-values.ensures ∙ sym ((parts setting c.args.pairs.now).seconds site ∙ ap (seconds_or setting site) none)

pub read_seconds-returns-in_err-read_second-clause-value : goal.read_seconds-returns-in_err-read_second-clause-value
read_seconds-returns-in_err-read_second-clause-value t c =
    let setting = setting_of c.args.declared.now in
    let site = site_at c.args.frames.now c.args.variables in
    let trees = c.in-Some.trees.now in
    let i = c.loop-pair.pair-index in
    let pair = c.pair-item.result in
    let rest = drop (i + 1) trees in
    let e = c.in_err-read_second.field-0.0 in
    let grouped : group_of c.args.pairs.now ≡ Some trees = sym c.group_of.ensures ∙ ap option_copied c.in-Some.is in
    let here : Tells {A = Typed} (Err e) ((roles_of setting pair).second site) =
    subst (λ (fs : List (List Local)). Tells {A = Typed} (Err e) ((roles_of setting pair).second (site_at fs c.args.variables))) c.loop-pair.invariant.kept c.in_err-read_second.ensures.value in
    let whole : values_and_more setting site c.loop-pair.values (pair ∷ rest) ≡ (roles_of setting c.args.pairs.now).seconds site =
    ap (λ (u : Tree). values_and_more setting site c.loop-pair.values (u ∷ rest)) c.pair-item.is
    ∙ sym (at_drop_more (λ ts. values_and_more setting site c.loop-pair.values ts) trees i pair c.loop-pair-test.true)
    ∙ c.loop-pair.invariant.same
    ∙ sym ((parts setting c.args.pairs.now).seconds site ∙ ap (seconds_or setting site) grouped) in
    let told : Tells {A = List Typed} (Err e) ((roles_of setting c.args.pairs.now).seconds site) =
    subst (λ (r : Reading (List Typed)). Tells {A = List Typed} (Err e) r) whole (values_tells setting site c.loop-pair.values pair rest e here) in
    search rules

pub read_seconds-returns-clause-value : goal.read_seconds-returns-clause-value
read_seconds-returns-clause-value t c =
    let setting = setting_of c.args.declared.now in
    let site = site_at c.args.frames.now c.args.variables in
    let trees = c.in-Some.trees.now in
    let grouped : group_of c.args.pairs.now ≡ Some trees = sym c.group_of.ensures ∙ ap option_copied c.in-Some.is in
    let at_end = c.loop-pair-test.false in
    values_done setting site c.loop-pair.values (drop c.loop-pair.pair-index trees) (drop_all c.loop-pair.pair-index trees (omega arith))
    ∙ c.loop-pair.invariant.same
    ∙ sym ((parts setting c.args.pairs.now).seconds site ∙ ap (seconds_or setting site) grouped)
