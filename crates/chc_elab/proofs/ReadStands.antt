-- What is read stands.
use Rattle.std.proofs.Common.{◌≡◌, ◌∙◌, sym, ap, subst, refl, arith, ℕ, ℤ, pos, neg_ℤ, Bool, true, false, cond, ltb, List, [], ◌∷◌, length, map, Option, Some, None, Ok, codes}
use Rattle.std.specs.Prelude.{IsTrue}
use Rattle.std.specs.List.{AllByRecursion}
use Rattle.std.specs.Str.{bytes_eq}
use Rattle.std.proofs.lemmas.Bool.{ltb-false}
use Rattle.chc_sorts.specs.declared.sort.Sort.{Sort}
use Rattle.chc_sorts.specs.declared.sort.Sort.TheVariants as sort
use Rattle.chc_sorts.specs.declared.op_table.ReadOp.{ReadOp}
use Rattle.chc_sorts.specs.declared.op_table.ReadOp.TheVariants as read
use Rattle.chc_sorts.specs.Operators.{op_named}
use Rattle.chc_sorts.specs.Sorts.{same_sort}
use Rattle.chc_sorts.proofs.SameSort.{same_from_test}
use Rattle.chc_sexpr.specs.declared.tree.Tree.{Tree, out-Tree}
use Rattle.chc_sexpr.specs.declared.tree.Tree.TheVariants as tree
use Rattle.chc_sexpr.specs.declared.fault.Fault.{Fault}
use Rattle.chc_sexpr.specs.declared.fault.TextFault.{TextFault}
use Rattle.chc_sexpr.specs.declared.fault.Fault.TheVariants.{BadCommand, UnknownName, NotSupported, WrongCount, WrongSort, TooLarge, TooDeep}
use Rattle.chc_sexpr.specs.Shapes.{group_at, group_of}
use Rattle.chc_sexpr.specs.Writing.{tree_text}
use Rattle.chc_sexpr.proofs.Folds.{TreeCases, tree_ind}
use Rattle.chc_terms.specs.declared.term.Kind.{Kind}
use Rattle.chc_terms.specs.declared.term.Term.TheVariants as term
use Rattle.chc_terms.specs.Counts.{size, depth}
use Rattle.chc_terms.specs.Sorted.{when, quantifier_sort}
use Rattle.chc_elab.specs.declared.typed.Typed.{Typed}
use Rattle.chc_elab.specs.declared.head.Head.{Head}
use Rattle.chc_elab.specs.declared.head.Head.TheVariants as head
use Rattle.chc_elab.specs.declared.form.Form.{Form}
use Rattle.chc_elab.specs.declared.form.Form.TheVariants as form
use Rattle.chc_elab.specs.Apart.{are_apart}
use Rattle.chc_elab.specs.Limits.{most_nodes, most_levels}
use Rattle.chc_elab.specs.Sites.{Site, Setting, Reading, faulty, or_fault, ◌>>>◌, lone_symbol}
use Rattle.chc_elab.specs.SortTrees.{place_at}
use Rattle.chc_elab.specs.Heads.{sort_tree}
use Rattle.chc_elab.specs.Building.{head_takes, head_sort, head_term, held, joined}
use Rattle.chc_elab.specs.Binders.{binder_names, binder_sorts, second_tree, sorts_of_trees, with_terms, with_variables}
use Rattle.chc_elab.specs.Forms.{form_of}
use Rattle.chc_elab.specs.Reads.{roles_of, read_at, beside, trees_of, number, negative, number_or, arguments, quantified, on_two, annotated, second_read, counted, applied, let_read, quantifier_read, formed}
use Rattle.chc_elab.specs.Stands.{Stands, StandAll, ReadStands, IsRead, IsWithin, AreFew, Applies, IsHead, IsNegative, Names, Pairs, Binds, kind_word}
use Rattle.chc_elab.specs.Stands as stands
use Rattle.chc_elab.proofs.Readings.{some_same, none_some, ok_same, err_ok, bind_ok, or_fault_ok, cond_ok, cond_else_ok}
use Rattle.chc_elab.proofs.RoleLaws.{whole-Symbol, whole-Word, whole-Keyword, whole-Numeral, whole-Text, whole-Other, whole-Group, second-Group, seconds-Group}
use Rattle.chc_elab.proofs.ShapeLaws.{group_of-Group, numeral_of-Numeral}
use Rattle.chc_elab.proofs.PairLaws.{pairs_told, bound_names}
use Rattle.chc_elab.proofs.FormsTold.{FormSays, form_told}
use Rattle.chc_elab.proofs.ArgumentLaws.{terms_of, trees_of-beside, length-beside}
use Rattle.chc_elab.proofs.ArgumentsTold.{Told, AllStand, as_long, arguments_told, seconds_told}
use Rattle.chc_elab.proofs.StandsRead.{negative_told, no_variables}

-- a fault without a name
abbrev fault_of : ℕ → Fault → TextFault
fault_of place fault = record { place = place; fault = fault; name = [] }

-- what is within the limits is the term itself
held_told : (place : ℕ) (t v : Typed) → held place t ≡ Ok v → (t ≡ v) × IsWithin t
held_told place t v e =
    let (few, rest) = cond_else_ok (ltb most_nodes (size t.term)) (cond (ltb most_levels (depth t.term)) (faulty place TooDeep []) (Ok t)) (fault_of place TooLarge) v e in
    let (low, same) = cond_else_ok (ltb most_levels (depth t.term)) (Ok t) (fault_of place TooDeep) v rest in
    (ok_same t v same, (ltb-false most_nodes (size t.term) few, ltb-false most_levels (depth t.term) low))

-- no minus on a numeral, where none is told
none_negative : (h : Head) (args : List Tree) → negative h args ≡ None → IsNegative h args → ⊥
none_negative h args none (at, n, above, sub, one) =
    none_some n (sym none ∙ (λ i. negative (sub i) (one i)) ∙ numeral_of-Numeral at n above)

when_told : (b : Bool) (s r : Sort) → when b s ≡ Some r → (b ≡ true) × (s ≡ r)
when_told true s r e = (refl, some_same s r e)
when_told false s r e = absurd (none_some r e)

nothing_same : (t : Tree) (ts : List Tree) → t ∷ ts ≡ [] → ⊥
nothing_same t ts e = cc

no_sorts : (s : Sort) (ss : List Sort) → ◌≡◌ {A = Reading (List Sort)} (Ok (s ∷ ss)) (Ok []) → ⊥
no_sorts s ss e = cc

-- pairs without second trees
pub no_pairs : (ps : List Tree) (names : List (List ℕ)) (seconds : List Tree) → Pairs ps names seconds → seconds ≡ [] → (ps ≡ []) × (names ≡ [])
no_pairs ps names seconds stands.no_pair none = (refl, refl)
no_pairs ps names seconds (stands.pair_before place at name t pairs names' seconds' rest) none = absurd (nothing_same t seconds' none)

-- a quantifier as a term of that sort
abbrev pub quantified_as : Kind → List Sort → Typed → Sort → Typed
quantified_as k sorts u r = record { term = term.Quant k sorts u.term; sort = r }

abbrev quantified_by : ℕ → Kind → List Sort → Typed → Sort → Reading Typed
quantified_by place k sorts u r = held place (quantified_as k sorts u r)

module _ (setting : Setting) where
  -- the head that is a minus is its symbol
  minus_named : (name : List ℕ) (h : Head) → Names setting name h → h ≡ head.Operator read.Sub → op_named name ≡ Some read.Sub
  minus_named name h (stands.operator o is) e = is ∙ same o e
    where
      same : (o : ReadOp) → head.Operator o ≡ head.Operator read.Sub → Some o ≡ Some read.Sub
      same o e = cc
  minus_named name h (stands.constructor d c new is) e = cc
  minus_named name h (stands.selector d c i new is) e = cc
  minus_named name h (stands.declared s new unmet is) e = cc
  minus_named name h (stands.tester tested d c new unmet unsaid is made) e = cc

  minus_told : (first : Tree) (h : Head) → IsHead setting first h → h ≡ head.Operator read.Sub → (at : ℕ) × (minus : List ℕ) × (first ≡ tree.Symbol at minus) × (op_named minus ≡ Some read.Sub)
  minus_told first h (stands.named_head at name h' names) e = (at, name, refl, minus_named name h names e)
  minus_told first h (stands.tester_head place at i j name d c is) e = absurd (other e)
    where
      other : head.Is d c ≡ head.Operator read.Sub → ⊥
      other e = cc
  minus_told first h (stands.divisible_head place at i j n is) e = absurd (other e)
    where
      other : head.Divisible (pos n) ≡ head.Operator read.Sub → ⊥
      other e = cc
  minus_told first h (stands.constant_head place at i spelled s array is) e = absurd (other e)
    where
      other : head.Constant s ≡ head.Operator read.Sub → ⊥
      other e = cc
  minus_told first h (stands.of_sort_head place at i name spelled h' other made) e = absurd (of_sort h made e)
    where
      of_sort : (h : Head) → stands.IsOfSort setting name spelled h → h ≡ head.Operator read.Sub → ⊥
      of_sort h (stands.of_sort d c s is spells) e = cc

  -- the term of a head on these arguments
  abbrev made_of : Head → List Typed → Sort → Typed
  made_of h vs s = record { term = head_term h (terms_of vs); sort = s }

  joined_told : (place : ℕ) (h : Head) (vs : List Typed) (v : Typed) → IsTrue (head_takes setting.sig h (length vs)) → joined setting.sig place h vs ≡ Ok v
      → Applies setting.sig h vs v × IsWithin v
  joined_told place h vs v takes e =
      let sorts = map (λ (t : Typed). t.sort) vs in
      let (s, found, rest) = bind_ok (or_fault (faulty place WrongSort []) (head_sort setting.sig h sorts)) (λ s. held place (made_of h vs s)) v e in
      let (same, within) = held_told place (made_of h vs s) v rest in
      let sorted : head_sort setting.sig h sorts ≡ Some s = or_fault_ok (fault_of place WrongSort) (head_sort setting.sig h sorts) s found in
      let applies : Applies setting.sig h vs (made_of h vs s) = record { takes = takes; sorted = sorted; term = refl } in
      (subst (Applies setting.sig h vs) same applies, subst IsWithin same within)

  -- what a head on arguments that were read says
  pub record Counted (site : Site) (h : Head) (args : List Tree) (v : Typed) : Type 0 where
    pub values : List Typed
    pub each : AllStand setting site args values
    pub few : AreFew values
    pub applies : Applies setting.sig h values v
    pub within : IsWithin v

  counted_told : (place : ℕ) (site : Site) (h : Head) (args : List Tree) (v : Typed) → AllByRecursion (Told setting) args
      → counted setting place h (beside setting args) site ≡ Ok v → Counted site h args v
  counted_told place site h args v told e =
      let (takes, rest) = cond_ok (head_takes setting.sig h (length (beside setting args))) (arguments place site 1 (beside setting args) >>> joined setting.sig place h) (fault_of place WrongCount) v e in
      let (values, read, result) = bind_ok (arguments place site 1 (beside setting args)) (joined setting.sig place h) v rest in
      let (each, few) = arguments_told setting place site args values 1 (omega arith) told read in
      let count = length-beside setting args ∙ as_long setting site args values each in
      let (applies, within) = joined_told place h values v (sym (ap (head_takes setting.sig h) count) ∙ takes) result in
      record { values = values; each = each; few = few; applies = applies; within = within }

  applied_told : (place : ℕ) (site : Site) (first : Tree) (args : List Tree) (h : Head) (v : Typed) → AllByRecursion (Told setting) args → IsHead setting first h
      → applied setting place (beside setting args) site h ≡ Ok v → IsRead setting site (tree.Group place (first ∷ args)) v
  applied_told place site first args h v told is e =
      way (negative h args) refl (sym (ap (λ us. number_or (negative h us) (counted setting place h (beside setting args) site)) (trees_of-beside setting args)) ∙ e)
    where
      way : (o : Option ℤ) → negative h args ≡ o → number_or o (counted setting place h (beside setting args) site) ≡ Ok v → IsRead setting site (tree.Group place (first ∷ args)) v
      way None none e =
          let c = counted_told place site h args v told e in
          stands.application site place first args h c.values v is (none_negative h args none) c.each c.few c.applies c.within
      way (Some n) some e =
          let (i, m, above, sub, one) = negative_told h args n some in
          let (at, minus, symbol, named) = minus_told first h is sub in
          let told_number : negative h args ≡ Some m = (λ k. negative (sub k) (one k)) ∙ numeral_of-Numeral i m above in
          let same : m ≡ n = some_same m n (sym told_number ∙ some) in
          let value : number (neg_ℤ m) ≡ v = ap (λ z. number (neg_ℤ z)) same ∙ ok_same (number (neg_ℤ n)) v e in
          subst (λ us. IsRead setting site (tree.Group place us) v) (λ k. sym symbol k ∷ sym one k)
          (subst (IsRead setting site (tree.Group place (tree.Symbol at minus ∷ tree.Numeral i m ∷ []))) value (stands.negative site place at i minus m named above))

  qualified_told : (place : ℕ) (site : Site) (h : Head) (v : Typed) (first : Tree) (args : List Tree) → FormSays setting first args (form.Alone h)
      → counted setting place h [] site ≡ Ok v → IsRead setting site (tree.Group place (first ∷ args)) v
  qualified_told place site h v first args (at, i, name, spelled, word, pair, made) e =
      let (takes, rest) = cond_ok (head_takes setting.sig h 0) (joined setting.sig place h []) (fault_of place WrongCount) v e in
      let (applies, within) = joined_told place h [] v takes rest in
      subst (λ us. IsRead setting site (tree.Group place us) v) (λ k. sym word k ∷ sym pair k) (stands.qualified site place at i name spelled h v made applies within)

  let_told : (place at : ℕ) (site : Site) (v : Typed) (first : Tree) (args : List Tree) → AllByRecursion (Told setting) args → first ≡ tree.Word at (codes "let")
      → on_two place (let_read setting place) (beside setting args) site ≡ Ok v → IsRead setting site (tree.Group place (first ∷ args)) v
  let_told place at site v first [] told word e = absurd (err_ok (fault_of place BadCommand) v e)
  let_told place at site v first (a ∷ []) told word e = absurd (err_ok (fault_of place BadCommand) v e)
  let_told place at site v first (a ∷ b ∷ []) told word e =
      let (names, named, rest) =
      bind_ok (binder_names place (group_of a)) (λ names. (roles_of setting a).seconds site >>> (λ values. read_at setting b (with_terms site names values))) v e in
      let (values, read, result) = bind_ok ((roles_of setting a).seconds site) (λ values. read_at setting b (with_terms site names values)) v rest in
      let (i, ps, seconds, group, pairs, apart) = bound_names place a (group_of a) names refl named in
      let bound : Binds a names seconds = subst (λ u. Binds u names seconds) (sym group) (stands.binds i ps names seconds pairs apart) in
      let each = told.0.seconds site ps names seconds values (ap group_of group ∙ group_of-Group i ps) pairs read in
      subst (λ u. IsRead setting site (tree.Group place (u ∷ a ∷ b ∷ [])) v) (sym word)
      (stands.let_names site place at a b names seconds values v bound each (told.1.0.whole (with_terms site names values) v result))
  let_told place at site v first (a ∷ b ∷ c ∷ more) told word e = absurd (err_ok (fault_of place BadCommand) v e)

  no_trees : (ts : List Tree) → sorts_of_trees setting ts ≡ Ok [] → ts ≡ []
  no_trees [] e = refl
  no_trees (t ∷ ts) e =
      let (s, spells, rest) = bind_ok (sort_tree setting t) (λ s. sorts_of_trees setting ts >>> (λ rest. Ok (s ∷ rest))) [] e in
      let (ss, others, same) = bind_ok (sorts_of_trees setting ts) (λ rest. Ok (s ∷ rest)) [] rest in
      absurd (no_sorts s ss same)

  -- a quantifier with its body and its binder list
  quantified_told : (place at i : ℕ) (site : Site) (k : Kind) (a b : Tree) (ps : List Tree) (names : List (List ℕ)) (seconds : List Tree) (sorts : List Sort) (u v : Typed)
      → a ≡ tree.Group i ps → Pairs ps names seconds → IsTrue (are_apart names) → sorts_of_trees setting seconds ≡ Ok sorts
      → IsRead setting (with_variables site names sorts) b u → quantified place k sorts u ≡ Ok v
      → IsRead setting site (tree.Group place (tree.Word at (kind_word k) ∷ a ∷ b ∷ [])) v
  quantified_told place at i site k a b ps names seconds [] u v group pairs apart sorted is e =
      let (empty, unnamed) = no_pairs ps names seconds pairs (no_trees seconds sorted) in
      let bare : with_variables site names [] ≡ site = ap (λ ns. with_variables site ns []) unnamed ∙ no_variables setting site in
      let body : IsRead setting site b u = subst (λ s. IsRead setting s b u) bare is in
      subst (λ g. IsRead setting site (tree.Group place (tree.Word at (kind_word k) ∷ g ∷ b ∷ [])) v) (ap (tree.Group i) (sym empty) ∙ sym group)
      (stands.unquantified site place at i k b v (subst (IsRead setting site b) (ok_same u v e) body))
  quantified_told place at i site k a b ps names seconds (s ∷ sorts) u v group pairs apart sorted is e =
      let (r, found, rest) = bind_ok (or_fault (faulty place WrongSort []) (quantifier_sort (s ∷ sorts) (Some u.sort))) (quantified_by place k (s ∷ sorts) u) v e in
      let (truth, bool) = when_told (same_sort u.sort sort.Bool) sort.Bool r (or_fault_ok (fault_of place WrongSort) (quantifier_sort (s ∷ sorts) (Some u.sort)) r found) in
      let (same, within) = held_told place (quantified_as k (s ∷ sorts) u r) v rest in
      let bound : Binds a names seconds = subst (λ g. Binds g names seconds) (sym group) (stands.binds i ps names seconds pairs apart) in
      subst (IsRead setting site (tree.Group place (tree.Word at (kind_word k) ∷ a ∷ b ∷ []))) (ap (quantified_as k (s ∷ sorts) u) bool ∙ same)
      (stands.quantifier site place at k a b names seconds s sorts u bound sorted is (same_from_test u.sort sort.Bool truth)
      (subst (λ r. IsWithin (quantified_as k (s ∷ sorts) u r)) (sym bool) within))

  quantifier_told : (place at : ℕ) (site : Site) (k : Kind) (v : Typed) (first : Tree) (args : List Tree) → AllByRecursion (Told setting) args → first ≡ tree.Word at (kind_word k)
      → on_two place (quantifier_read setting place k) (beside setting args) site ≡ Ok v → IsRead setting site (tree.Group place (first ∷ args)) v
  quantifier_told place at site k v first [] told word e = absurd (err_ok (fault_of place BadCommand) v e)
  quantifier_told place at site k v first (a ∷ []) told word e = absurd (err_ok (fault_of place BadCommand) v e)
  quantifier_told place at site k v first (a ∷ b ∷ []) told word e =
      let (names, named, rest) =
      bind_ok (binder_names place (group_of a))
      (λ names. binder_sorts setting (group_of a) >>> (λ sorts. read_at setting b (with_variables site names sorts) >>> quantified place k sorts)) v e in
      let (sorts, sorted, after) = bind_ok (binder_sorts setting (group_of a)) (λ sorts. read_at setting b (with_variables site names sorts) >>> quantified place k sorts) v rest in
      let (u, read, result) = bind_ok (read_at setting b (with_variables site names sorts)) (quantified place k sorts) v after in
      let (i, ps, seconds, group, pairs, apart) = bound_names place a (group_of a) names refl named in
      let told_group : group_of a ≡ Some ps = ap group_of group ∙ group_of-Group i ps in
      let spelled : sorts_of_trees setting seconds ≡ Ok sorts =
      ap (sorts_of_trees setting) (sym (pairs_told ps names seconds pairs).behind) ∙ ap (binder_sorts setting) (sym told_group) ∙ sorted in
      subst (λ w. IsRead setting site (tree.Group place (w ∷ a ∷ b ∷ [])) v) (sym word)
      (quantified_told place at i site k a b ps names seconds sorts u v group pairs apart spelled (told.1.0.whole (with_variables site names sorts) u read) result)
  quantifier_told place at site k v first (a ∷ b ∷ c ∷ more) told word e = absurd (err_ok (fault_of place BadCommand) v e)

  annotated_told : (place at : ℕ) (site : Site) (v : Typed) (first : Tree) (args : List Tree) → AllByRecursion (Told setting) args → first ≡ tree.Word at (codes "!")
      → annotated place (beside setting args) site ≡ Ok v → IsRead setting site (tree.Group place (first ∷ args)) v
  annotated_told place at site v first [] told word e = absurd (err_ok (fault_of place BadCommand) v e)
  annotated_told place at site v first (t ∷ attributes) told word e =
      subst (λ u. IsRead setting site (tree.Group place (u ∷ t ∷ attributes)) v) (sym word) (stands.annotated site place at t attributes v (told.0.whole site v e))

  formed_told : (place : ℕ) (site : Site) (first : Tree) (args : List Tree) (v : Typed) (f : Form) → AllByRecursion (Told setting) args → FormSays setting first args f
      → formed setting place (beside setting args) site f ≡ Ok v → IsRead setting site (tree.Group place (first ∷ args)) v
  formed_told place site first args v (form.Applied h) told says e = applied_told place site first args h v told says e
  formed_told place site first args v (form.Alone h) told says e = qualified_told place site h v first args says e
  formed_told place site first args v form.Let told says e = let_told place says.0 site v first args told says.1 e
  formed_told place site first args v (form.Quantifier k) told says e = quantifier_told place says.0 site k v first args told says.1 e
  formed_told place site first args v form.Annotated told says e = annotated_told place says.0 site v first args told says.1 e

  group_told : (place : ℕ) (site : Site) (trees : List Tree) (v : Typed) → AllByRecursion (Told setting) trees → read_at setting (tree.Group place trees) site ≡ Ok v
      → IsRead setting site (tree.Group place trees) v
  group_told place site [] v told e = absurd (err_ok (fault_of place BadCommand) v (sym (whole-Group setting place [] site) ∙ e))
  group_told place site (first ∷ args) v told e =
      let formed_by = sym (whole-Group setting place (first ∷ args) site) ∙ e in
      let (f, is, result) = bind_ok (form_of setting place (first ∷ trees_of (beside setting args))) (formed setting place (beside setting args) site) v formed_by in
      let says = form_told setting place first args f (sym (ap (λ us. form_of setting place (first ∷ us)) (trees_of-beside setting args)) ∙ is) in
      formed_told place site first args v f told.1 says result

  -- a tree that is no group
  leaf_told : (t : Tree) → group_of t ≡ None → ((site : Site) (v : Typed) → read_at setting t site ≡ Ok v → IsRead setting site t v) → Told setting t
  leaf_told t none whole = record {
    whole = whole;
    second = λ site s v e read. absurd (none_some s (sym (ap second_tree none) ∙ e));
    seconds = λ site ps names trees vs e pairs read. absurd (none_some ps (sym none ∙ e));
  }

  told_group : (place : ℕ) (inner : List Tree) → AllByRecursion (Told setting) inner → Told setting (tree.Group place inner)
  told_group place inner told = record {
    whole = λ site v e. group_told place site inner v told e;
    second = λ site s v e read. second site s v inner told (sym (ap second_tree (group_of-Group place inner)) ∙ e) (sym (second-Group setting place inner site) ∙ read);
    seconds = λ site ps names trees vs e pairs read.
        let same : ps ≡ inner = some_same ps inner (sym e ∙ group_of-Group place inner) in
        seconds_told setting site inner names trees vs (subst (λ us. Pairs us names trees) same pairs) told (sym (seconds-Group setting place inner site) ∙ read);
  }
    where
      second : (site : Site) (s : Tree) (v : Typed) (inner : List Tree) → AllByRecursion (Told setting) inner → second_tree (Some inner) ≡ Some s
          → second_read (beside setting inner) site ≡ Ok v → IsRead setting site s v
      second site s v [] told e read = absurd (none_some s e)
      second site s v (x ∷ []) told e read = absurd (none_some s e)
      second site s v (x ∷ t ∷ more) told e read = subst (λ u. IsRead setting site u v) (some_same t s e) (told.1.0.whole site v read)

  unsupported_told : (t : Tree) (place : ℕ) (text : List ℕ) (site : Site) (v : Typed) → read_at setting t site ≡ faulty place NotSupported text → read_at setting t site ≡ Ok v → IsRead setting site t v
  unsupported_told t place text site v fault e = absurd (err_ok (record { place = place; fault = NotSupported; name = text }) v (sym fault ∙ e))

  word_told : (place : ℕ) (word : List ℕ) (v : Typed) (b : Bool) → cond b (faulty place NotSupported word) (faulty place BadCommand []) ≡ Ok v → ⊥
  word_told place word v true e = err_ok (record { place = place; fault = NotSupported; name = word }) v e
  word_told place word v false e = err_ok (fault_of place BadCommand) v e

  told_cases : TreeCases (Told setting)
  told_cases = record {
    symbol = λ place name. leaf_told (tree.Symbol place name) (ap group_at (tree.outs-Symbol place name)) (λ site v e.
        stands.lone site place name v
        (or_fault_ok (record { place = place; fault = UnknownName; name = name }) (lone_symbol setting site name) v (sym (whole-Symbol setting place name site) ∙ e)));
    word = λ place word. leaf_told (tree.Word place word) (ap group_at (tree.outs-Word place word)) (λ site v e.
        absurd (word_told place word v (bytes_eq word (codes "match")) (sym (whole-Word setting place word site) ∙ e)));
    keyword = λ place word. leaf_told (tree.Keyword place word) (ap group_at (tree.outs-Keyword place word)) (λ site v e.
        absurd (err_ok (fault_of place BadCommand) v (sym (whole-Keyword setting place word site) ∙ e)));
    numeral = λ place n. leaf_told (tree.Numeral place n) (ap group_at (tree.outs-Numeral place n)) (λ site v e.
        subst (IsRead setting site (tree.Numeral place n)) (ok_same (number n) v (sym (whole-Numeral setting place n site) ∙ e)) (stands.numeral site place n));
    text = λ place bytes. leaf_told (tree.Text place bytes) (ap group_at (tree.outs-Text place bytes)) (λ site v e.
        unsupported_told (tree.Text place bytes) (place_at (out-Tree (tree.Text place bytes))) (tree_text (tree.Text place bytes)) site v (whole-Text setting place bytes site) e);
    other = λ place token. leaf_told (tree.Other place token) (ap group_at (tree.outs-Other place token)) (λ site v e.
        unsupported_told (tree.Other place token) (place_at (out-Tree (tree.Other place token))) (tree_text (tree.Other place token)) site v (whole-Other setting place token site) e);
    group = told_group;
  }

pub read_stands : ReadStands
read_stands setting site t v e = (tree_ind (Told setting) (told_cases setting) t).whole site v e
