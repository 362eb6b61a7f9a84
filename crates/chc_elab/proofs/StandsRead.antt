-- What stands is read.
use Rattle.std.proofs.Common.{◌≡◌, ◌∙◌, sym, ap, refl, arith, ℕ, ℤ, neg_ℤ, ◌+◌, cond, ltb, List, [], ◌∷◌, Option, Some, None, Ok, codes, append-nil, int_lt, pos, false}
use Rattle.std.proofs.lemmas.Bool.{le-ltb}
use Rattle.chc_sorts.specs.declared.sort.Sort.{Sort}
use Rattle.chc_sorts.specs.declared.sort.Sort.TheVariants as sort
use Rattle.chc_sorts.specs.declared.op_table.ReadOp.TheVariants as read
use Rattle.chc_sorts.specs.Operators.{op_named}
use Rattle.chc_sorts.proofs.SameSort.{test_from_same}
use Rattle.chc_sexpr.specs.declared.tree.Tree.{Tree}
use Rattle.chc_sexpr.specs.declared.tree.Tree.TheVariants as tree
use Rattle.chc_sexpr.specs.declared.fault.Fault.TheVariants.{UnknownName, WrongCount, WrongSort, TooLarge, TooDeep}
use Rattle.chc_sexpr.specs.Shapes.{group_of}
use Rattle.chc_terms.specs.declared.term.Kind.{Kind}
use Rattle.chc_terms.specs.declared.term.Term.TheVariants as term
use Rattle.chc_terms.specs.Counts.{size, depth}
use Rattle.chc_terms.specs.Sorted.{when}
use Rattle.chc_elab.specs.declared.typed.Typed.{Typed}
use Rattle.chc_elab.specs.declared.head.Head.{Head}
use Rattle.chc_elab.specs.declared.head.Head.TheVariants as head
use Rattle.chc_elab.specs.declared.form.Form.{Form}
use Rattle.chc_elab.specs.declared.form.Form.TheVariants as form
use Rattle.chc_elab.specs.Limits.{most_nodes, most_levels}
use Rattle.chc_elab.specs.Sites.{Site, Setting, Reading, faulty, or_fault, ◌>>>◌}
use Rattle.chc_elab.specs.Building.{head_takes, head_term, held, joined}
use Rattle.chc_elab.specs.Binders.{binder_names, binder_sorts, sorts_of_trees, with_terms, with_variables}
use Rattle.chc_elab.specs.Forms.{form_of}
use Rattle.chc_elab.specs.Reads.{roles_of, read_at, beside, number, negative, number_or, arguments, quantified, counted, formed}
use Rattle.chc_elab.specs.Stands.{Stands, StandAll, StandsIsRead, IsRead, IsWithin, AreFew, Applies, IsNegative, Pairs, Binds, kind_word}
use Rattle.chc_elab.specs.Stands as stands
use Rattle.chc_elab.proofs.Readings.{bind_of, none_some}
use Rattle.chc_elab.proofs.RoleLaws.{whole-Symbol, whole-Numeral, whole-Group, seconds-Group}
use Rattle.chc_elab.proofs.ShapeLaws.{group_of-Group, numeral_of-Numeral, is_Numeral}
use Rattle.chc_elab.proofs.FormLaws.{head_is, worded, quantifier_form, alone_form}
use Rattle.chc_elab.proofs.PairLaws.{pairs_told, names_bound}
use Rattle.chc_elab.proofs.ArgumentLaws.{terms_of, AreRead, trees_of-beside, length-beside, as_many, arguments_of, seconds_of}

-- a minus on a numeral is told
pub negative_told : (h : Head) (args : List Tree) (n : ℤ) → negative h args ≡ Some n → IsNegative h args
negative_told (head.Operator read.Sub) (t ∷ []) n e =
    let (at, above, is) = is_Numeral t n e in
    (at, n, above, refl, ap (λ u. u ∷ []) is)
negative_told h args n e = absurd (none_some n e)

not_negative : (h : Head) (args : List Tree) (otherwise : Reading Typed) → (IsNegative h args → ⊥) → number_or (negative h args) otherwise ≡ otherwise
not_negative h args otherwise other = by (negative h args) refl
  where
    by : (o : Option ℤ) → negative h args ≡ o → number_or o otherwise ≡ otherwise
    by None e = refl
    by (Some n) e = absurd (other (negative_told h args n e))

held_is : (place : ℕ) (t : Typed) → IsWithin t → held place t ≡ Ok t
held_is place t within =
    ap (λ b. cond b (faulty place TooLarge []) (cond (ltb most_levels (depth t.term)) (faulty place TooDeep []) (Ok t))) (le-ltb most_nodes (size t.term) within.0)
    ∙ ap (λ b. cond b (faulty place TooDeep []) (Ok t)) (le-ltb most_levels (depth t.term) within.1)

module _ (setting : Setting) where
  joined_is : (place : ℕ) (h : Head) (vs : List Typed) (t : Typed) → Applies setting.sig h vs t → IsWithin t → joined setting.sig place h vs ≡ Ok t
  joined_is place h vs t applies within =
      ap (λ o. or_fault (faulty place WrongSort []) o >>> (λ s. held place (record { term = head_term h (terms_of vs); sort = s }))) applies.sorted
      ∙ ap (λ u. held place (record { term = u; sort = t.sort })) (sym applies.term)
      ∙ held_is place t within

  counted_is : (place : ℕ) (site : Site) (h : Head) (args : List Tree) (vs : List Typed) (t : Typed) → AreRead setting site args vs → AreFew vs
      → Applies setting.sig h vs t → IsWithin t → counted setting place h (beside setting args) site ≡ Ok t
  counted_is place site h args vs t reads few applies within =
      ap (λ b. cond b (arguments place site 1 (beside setting args) >>> joined setting.sig place h) (faulty place WrongCount []))
      (ap (head_takes setting.sig h) (length-beside setting args ∙ as_many setting site args vs reads) ∙ applies.takes)
      ∙ bind_of (arguments place site 1 (beside setting args)) (joined setting.sig place h) vs (arguments_of setting place site args vs 1 reads few)
      ∙ joined_is place h vs t applies within

  -- a group of that form
  pub group_formed : (place : ℕ) (site : Site) (first : Tree) (args : List Tree) (f : Form) → form_of setting place (first ∷ args) ≡ Ok f
      → read_at setting (tree.Group place (first ∷ args)) site ≡ formed setting place (beside setting args) site f
  group_formed place site first args f is =
      whole-Group setting place (first ∷ args) site
      ∙ ap (λ r. r >>> formed setting place (beside setting args) site) (ap (λ us. form_of setting place (first ∷ us)) (trees_of-beside setting args) ∙ is)

  application_read : (place : ℕ) (site : Site) (first : Tree) (args : List Tree) (h : Head) (vs : List Typed) (t : Typed)
      → stands.IsHead setting first h → (IsNegative h args → ⊥) → AreRead setting site args vs → AreFew vs → Applies setting.sig h vs t → IsWithin t
      → read_at setting (tree.Group place (first ∷ args)) site ≡ Ok t
  application_read place site first args h vs t is other reads few applies within =
      group_formed place site first args (form.Applied h) (head_is setting place first args h is)
      ∙ ap (λ us. number_or (negative h us) (counted setting place h (beside setting args) site)) (trees_of-beside setting args)
      ∙ not_negative h args (counted setting place h (beside setting args) site) other
      ∙ counted_is place site h args vs t reads few applies within

  negative_read : (place at i : ℕ) (site : Site) (minus : List ℕ) (n : ℤ) → op_named minus ≡ Some read.Sub → int_lt n (pos 0) ≡ false
      → read_at setting (tree.Group place (tree.Symbol at minus ∷ tree.Numeral i n ∷ [])) site ≡ Ok (number (neg_ℤ n))
  negative_read place at i site minus n is above =
      let args = tree.Numeral i n ∷ [] in
      let sub = head.Operator read.Sub in
      group_formed place site (tree.Symbol at minus) args (form.Applied sub)
      (head_is setting place (tree.Symbol at minus) args sub (stands.named_head at minus sub (stands.operator read.Sub is)))
      ∙ ap (λ o. number_or o (counted setting place sub (beside setting args) site)) (numeral_of-Numeral i n above)

  qualified_read : (place at i : ℕ) (site : Site) (name : List ℕ) (spelled : Tree) (h : Head) (t : Typed) → stands.IsOfSort setting name spelled h
      → Applies setting.sig h [] t → IsWithin t → read_at setting (tree.Group place (tree.Word at (codes "as") ∷ tree.Symbol i name ∷ spelled ∷ [])) site ≡ Ok t
  qualified_read place at i site name spelled h t made applies within =
      group_formed place site (tree.Word at (codes "as")) (tree.Symbol i name ∷ spelled ∷ []) (form.Alone h) (alone_form setting place at i name spelled h made)
      ∙ counted_is place site h [] [] t tt (omega arith) applies within

  annotated_read : (place at : ℕ) (site : Site) (body : Tree) (attributes : List Tree) (t : Typed) → read_at setting body site ≡ Ok t
      → read_at setting (tree.Group place (tree.Word at (codes "!") ∷ body ∷ attributes)) site ≡ Ok t
  annotated_read place at site body attributes t is =
      group_formed place site (tree.Word at (codes "!")) (body ∷ attributes) form.Annotated (worded setting place at (codes "!") (body ∷ attributes)) ∙ is

  -- a binder list gives its names
  names_given : (place : ℕ) (pairs : Tree) (names : List (List ℕ)) (seconds : List Tree) → Binds pairs names seconds → binder_names place (group_of pairs) ≡ Ok names
  names_given place pairs names seconds (stands.binds at ps names' seconds' each apart) =
      ap (binder_names place) (group_of-Group at ps) ∙ names_bound place ps names seconds each apart

  seconds_given : (site : Site) (pairs : Tree) (names : List (List ℕ)) (seconds : List Tree) (vs : List Typed) → Binds pairs names seconds
      → AreRead setting site seconds vs → (roles_of setting pairs).seconds site ≡ Ok vs
  seconds_given site pairs names seconds vs (stands.binds at ps names' seconds' each apart) reads =
      seconds-Group setting at ps site ∙ seconds_of setting site ps names seconds vs each reads

  sorts_given : (pairs : Tree) (names : List (List ℕ)) (seconds : List Tree) → Binds pairs names seconds → binder_sorts setting (group_of pairs) ≡ sorts_of_trees setting seconds
  sorts_given pairs names seconds (stands.binds at ps names' seconds' each apart) =
      ap (binder_sorts setting) (group_of-Group at ps) ∙ ap (sorts_of_trees setting) (pairs_told ps names seconds each).behind

  let_is : (place at : ℕ) (site : Site) (pairs body : Tree) (names : List (List ℕ)) (seconds : List Tree) (vs : List Typed) (t : Typed) → Binds pairs names seconds
      → AreRead setting site seconds vs → read_at setting body (with_terms site names vs) ≡ Ok t
      → read_at setting (tree.Group place (tree.Word at (codes "let") ∷ pairs ∷ body ∷ [])) site ≡ Ok t
  let_is place at site pairs body names seconds vs t bound reads is =
      group_formed place site (tree.Word at (codes "let")) (pairs ∷ body ∷ []) form.Let (worded setting place at (codes "let") (pairs ∷ body ∷ []))
      ∙ ap (λ r. r >>> (λ names. (roles_of setting pairs).seconds site >>> (λ values. read_at setting body (with_terms site names values)))) (names_given place pairs names seconds bound)
      ∙ ap (λ r. r >>> (λ values. read_at setting body (with_terms site names values))) (seconds_given site pairs names seconds vs bound reads)
      ∙ is

  quantifier_is : (place at : ℕ) (site : Site) (k : Kind) (pairs body : Tree) (names : List (List ℕ)) (sorts : List Sort) (t v : Typed)
      → binder_names place (group_of pairs) ≡ Ok names → binder_sorts setting (group_of pairs) ≡ Ok sorts
      → read_at setting body (with_variables site names sorts) ≡ Ok t → quantified place k sorts t ≡ Ok v
      → read_at setting (tree.Group place (tree.Word at (kind_word k) ∷ pairs ∷ body ∷ [])) site ≡ Ok v
  quantifier_is place at site k pairs body names sorts t v named sorted is result =
      group_formed place site (tree.Word at (kind_word k)) (pairs ∷ body ∷ []) (form.Quantifier k) (quantifier_form setting place at k (pairs ∷ body ∷ []))
      ∙ ap (λ r. r >>> (λ names. binder_sorts setting (group_of pairs) >>> (λ sorts. read_at setting body (with_variables site names sorts) >>> quantified place k sorts))) named
      ∙ ap (λ r. r >>> (λ sorts. read_at setting body (with_variables site names sorts) >>> quantified place k sorts)) sorted
      ∙ ap (λ r. r >>> quantified place k sorts) is
      ∙ result

  quantified_is : (place : ℕ) (k : Kind) (s : Sort) (sorts : List Sort) (t : Typed) → t.sort ≡ sort.Bool
      → IsWithin (record { term = term.Quant k (s ∷ sorts) t.term; sort = sort.Bool })
      → quantified place k (s ∷ sorts) t ≡ Ok (record { term = term.Quant k (s ∷ sorts) t.term; sort = sort.Bool })
  quantified_is place k s sorts t truth within =
      ap (λ b. or_fault (faulty place WrongSort []) (when b sort.Bool) >>> (λ result. held place (record { term = term.Quant k (s ∷ sorts) t.term; sort = result }))) (test_from_same t.sort sort.Bool truth)
      ∙ held_is place (record { term = term.Quant k (s ∷ sorts) t.term; sort = sort.Bool }) within

  pub no_variables : (site : Site) → with_variables site [] [] ≡ site
  no_variables site = let none : site.variables + 0 ≡ site.variables = omega arith in λ i. record { locals = append-nil site.locals i; variables = none i }

  unquantified_is : (place at i : ℕ) (site : Site) (k : Kind) (body : Tree) (t : Typed) → read_at setting body site ≡ Ok t
      → read_at setting (tree.Group place (tree.Word at (kind_word k) ∷ tree.Group i [] ∷ body ∷ [])) site ≡ Ok t
  unquantified_is place at i site k body t is =
      quantifier_is place at site k (tree.Group i []) body [] [] t t (ap (binder_names place) (group_of-Group i [])) (ap (binder_sorts setting) (group_of-Group i []))
      (ap (read_at setting body) (no_variables site) ∙ is) refl

  mutual
    one_read : (site : Site) (t : Tree) (v : Typed) → Stands setting IsWithin AreFew site t v → read_at setting t site ≡ Ok v
    one_read site t v (stands.numeral site' place n) = whole-Numeral setting place n site
    one_read site t v (stands.negative site' place at i minus n is above) = negative_read place at i site minus n is above
    one_read site t v (stands.lone site' place name v' is) = whole-Symbol setting place name site ∙ ap (or_fault (faulty place UnknownName name)) is
    one_read site t v (stands.application site' place first args h vs v' is other each few applies within) =
        application_read place site first args h vs v is other (all_read site args vs each) few applies within
    one_read site t v (stands.qualified site' place at i name spelled h v' made applies within) = qualified_read place at i site name spelled h v made applies within
    one_read site t v (stands.let_names site' place at pairs body names seconds vs v' bound each is) =
        let_is place at site pairs body names seconds vs v bound (all_read site seconds vs each) (one_read (with_terms site names vs) body v is)
    one_read site t v (stands.annotated site' place at body attributes v' is) = annotated_read place at site body attributes v (one_read site body v is)
    one_read site t v (stands.quantifier site' place at k pairs body names seconds s sorts u bound sorted is truth within) =
        quantifier_is place at site k pairs body names (s ∷ sorts) u v (names_given place pairs names seconds bound) (sorts_given pairs names seconds bound ∙ sorted)
        (one_read (with_variables site names (s ∷ sorts)) body u is) (quantified_is place k s sorts u truth within)
    one_read site t v (stands.unquantified site' place at i k body v' is) = unquantified_is place at i site k body v (one_read site body v is)

    all_read : (site : Site) (ts : List Tree) (vs : List Typed) → StandAll setting IsWithin AreFew site ts vs → AreRead setting site ts vs
    all_read site ts vs (stands.no_tree site') = tt
    all_read site ts vs (stands.tree_before site' first trees v values is each) = (one_read site first v is, all_read site trees values each)

pub stands_read : StandsIsRead
stands_read setting site t v h = one_read setting site t v h
