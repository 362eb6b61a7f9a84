-- A tree stands for one term at most, without limits.
use Rattle.std.proofs.Common.{◌≡◌, ◌∙◌, ◌⊎◌, inl, inr, sym, ap, subst, refl, ℕ, ℤ, neg_ℤ, List, [], ◌∷◌, Some, Ok, codes, int_lt, pos, false}
use Rattle.std.specs.Option.{option_map}
use Rattle.chc_sorts.specs.declared.sort.Sort.{Sort}
use Rattle.chc_sorts.specs.declared.sort.Sort.TheVariants as sort
use Rattle.chc_sorts.specs.declared.op_table.ReadOp.TheVariants as read
use Rattle.chc_sorts.specs.Signature.{Signature}
use Rattle.chc_sexpr.specs.declared.tree.Tree.{Tree, out-Tree}
use Rattle.chc_sexpr.specs.declared.tree.Tree.TheOpen.{Tree-F}
use Rattle.chc_sexpr.specs.declared.tree.Tree.TheVariants as tree
use Rattle.chc_sexpr.specs.Shapes.{group_of}
use Rattle.chc_terms.specs.declared.term.Kind.{Kind}
use Rattle.chc_elab.specs.declared.typed.Typed.{Typed}
use Rattle.chc_elab.specs.declared.head.Head.{Head}
use Rattle.chc_elab.specs.declared.head.Head.TheVariants as head
use Rattle.chc_elab.specs.declared.form.Form.{Form}
use Rattle.chc_elab.specs.declared.form.Form.TheVariants as form
use Rattle.chc_elab.specs.Sites.{Site, Setting, lone_symbol}
use Rattle.chc_elab.specs.Binders.{binder_names, sorts_of_trees, second_trees, with_terms, with_variables}
use Rattle.chc_elab.specs.Forms.{form_of}
use Rattle.chc_elab.specs.Reads.{number, negative}
use Rattle.chc_elab.specs.Stands.{Stands, StandAll, StandsForOne, IsSaid, Applies, IsNegative, Pairs, Binds, kind_word}
use Rattle.chc_elab.specs.Stands as stands
use Rattle.chc_elab.proofs.Readings.{some_same, ok_same}
use Rattle.chc_elab.proofs.ShapeLaws.{group_of-Group, numeral_of-Numeral}
use Rattle.chc_elab.proofs.FormLaws.{head_is, worded, quantifier_form, alone_form}
use Rattle.chc_elab.proofs.PairLaws.{pairs_told, names_bound}
use Rattle.chc_elab.proofs.StandsRead.{negative_told, no_variables}
use Rattle.chc_elab.proofs.ReadStands.{quantified_as}

-- the same head on the same arguments is one term
one_applied : (sig : Signature) (h : Head) (vs : List Typed) (v w : Typed) → Applies sig h vs v → Applies sig h vs w → v ≡ w
one_applied sig h vs v w first second =
    let same_sort : v.sort ≡ w.sort = some_same v.sort w.sort (sym first.sorted ∙ second.sorted) in
    let same_term : v.term ≡ w.term = first.term ∙ sym second.term in
    λ i. record { term = same_term i; sort = same_sort i }

-- a binder list binds one list of names, to one list of trees
bound_names_of : (t : Tree) (names : List (List ℕ)) (seconds : List Tree) → Binds t names seconds → binder_names 0 (group_of t) ≡ Ok names
bound_names_of t names seconds (stands.binds at ps names' seconds' each apart) = ap (binder_names 0) (group_of-Group at ps) ∙ names_bound 0 ps names seconds each apart

bound_trees_of : (t : Tree) (names : List (List ℕ)) (seconds : List Tree) → Binds t names seconds → option_map second_trees (group_of t) ≡ Some seconds
bound_trees_of t names seconds (stands.binds at ps names' seconds' each apart) =
    ap (option_map second_trees) (group_of-Group at ps) ∙ ap (λ ts. Some ts) (pairs_told ps names seconds each).behind

one_binding : (t : Tree) (names names' : List (List ℕ)) (seconds seconds' : List Tree) → Binds t names seconds → Binds t names' seconds' → (names ≡ names') × (seconds ≡ seconds')
one_binding t names names' seconds seconds' first second = (
  ok_same names names' (sym (bound_names_of t names seconds first) ∙ bound_names_of t names' seconds' second),
  some_same seconds seconds' (sym (bound_trees_of t names seconds first) ∙ bound_trees_of t names' seconds' second),
)

module _ (setting : Setting) where
  -- each tree stands for its term
  abbrev AllSaid : Site → List Tree → List Typed → Type 0
  AllSaid = StandAll setting (λ t. Unit) (λ args. Unit)

  -- what stands under a quantifier, with its variables or without
  abbrev IsQuantified : Kind → List Sort → Typed → Typed → Type 0
  IsQuantified k [] u w = u ≡ w
  IsQuantified k (s ∷ sorts) u w = quantified_as k (s ∷ sorts) u sort.Bool ≡ w

  abbrev LetSays : Site → List Tree → Typed → Type 0
  LetSays site [] w = ⊥
  LetSays site (a ∷ []) w = ⊥
  LetSays site (a ∷ b ∷ []) w =
      (names : List (List ℕ)) × (seconds : List Tree) × (values : List Typed) × Binds a names seconds × AllSaid site seconds values × IsSaid setting (with_terms site names values) b w
  LetSays site (a ∷ b ∷ c ∷ more) w = ⊥

  abbrev QuantifierSays : Kind → Site → List Tree → Typed → Type 0
  QuantifierSays k site [] w = ⊥
  QuantifierSays k site (a ∷ []) w = ⊥
  QuantifierSays k site (a ∷ b ∷ []) w =
      (names : List (List ℕ)) × (seconds : List Tree) × (sorts : List Sort) × (u : Typed) × Binds a names seconds × (sorts_of_trees setting seconds ≡ Ok sorts)
      × IsSaid setting (with_variables site names sorts) b u × IsQuantified k sorts u w
  QuantifierSays k site (a ∷ b ∷ c ∷ more) w = ⊥

  abbrev FirstSaid : Site → List Tree → Typed → Type 0
  FirstSaid site [] w = ⊥
  FirstSaid site (t ∷ more) w = IsSaid setting site t w

  -- what a group of that form says
  abbrev FormSaid : Site → List Tree → Typed → Form → Type 0
  FormSaid site args w (form.Applied h) =
      ((n : ℤ) × (negative h args ≡ Some n) × (number (neg_ℤ n) ≡ w)) ⊎ ((IsNegative h args → ⊥) × (values : List Typed) × AllSaid site args values × Applies setting.sig h values w)
  FormSaid site args w (form.Alone h) = Applies setting.sig h [] w
  FormSaid site args w form.Let = LetSays site args w
  FormSaid site args w (form.Quantifier k) = QuantifierSays k site args w
  FormSaid site args w form.Annotated = FirstSaid site args w

  abbrev GroupSaid : Site → ℕ → List Tree → Typed → Type 0
  GroupSaid site place [] w = ⊥
  GroupSaid site place (first ∷ args) w = (f : Form) × (form_of setting place (first ∷ args) ≡ Ok f) × FormSaid site args w f

  -- what a level says
  abbrev LevelSaid : Site → Typed → Tree-F Tree → Type 0
  LevelSaid site w (Tree-F.Symbol place name) = lone_symbol setting site name ≡ Some w
  LevelSaid site w (Tree-F.Word place word) = ⊥
  LevelSaid site w (Tree-F.Keyword place word) = ⊥
  LevelSaid site w (Tree-F.Numeral place n) = number n ≡ w
  LevelSaid site w (Tree-F.Text place bytes) = ⊥
  LevelSaid site w (Tree-F.Other place token) = ⊥
  LevelSaid site w (Tree-F.Group place trees) = GroupSaid site place trees w

  grouped : (site : Site) (w : Typed) (place : ℕ) (trees : List Tree) → GroupSaid site place trees w → LevelSaid site w (out-Tree (tree.Group place trees))
  grouped site w place trees says = subst (LevelSaid site w) (sym (tree.outs-Group place trees)) says

  said_level : (site : Site) (t : Tree) (w : Typed) → IsSaid setting site t w → LevelSaid site w (out-Tree t)
  said_level site t w (stands.numeral site' place n) = subst (LevelSaid site w) (sym (tree.outs-Numeral place n)) refl
  said_level site t w (stands.negative site' place at i minus n is above) =
      let sub = head.Operator read.Sub in
      let args = tree.Numeral i n ∷ [] in
      grouped site w place (tree.Symbol at minus ∷ args)
      (form.Applied sub, head_is setting place (tree.Symbol at minus) args sub (stands.named_head at minus sub (stands.operator read.Sub is)), inl (n, numeral_of-Numeral i n above, refl))
  said_level site t w (stands.lone site' place name w' is) = subst (LevelSaid site w) (sym (tree.outs-Symbol place name)) is
  said_level site t w (stands.application site' place first args h vs w' is other each few applies fits) =
      grouped site w place (first ∷ args) (form.Applied h, head_is setting place first args h is, inr (other, vs, each, applies))
  said_level site t w (stands.qualified site' place at i name spelled h w' made applies fits) =
      grouped site w place (tree.Word at (codes "as") ∷ tree.Symbol i name ∷ spelled ∷ []) (form.Alone h, alone_form setting place at i name spelled h made, applies)
  said_level site t w (stands.let_names site' place at pairs body names seconds vs w' bound each is) =
      grouped site w place (tree.Word at (codes "let") ∷ pairs ∷ body ∷ [])
      (form.Let, worded setting place at (codes "let") (pairs ∷ body ∷ []), (names, seconds, vs, bound, each, is))
  said_level site t w (stands.annotated site' place at body attributes w' is) =
      grouped site w place (tree.Word at (codes "!") ∷ body ∷ attributes) (form.Annotated, worded setting place at (codes "!") (body ∷ attributes), is)
  said_level site t w (stands.quantifier site' place at k pairs body names seconds s sorts u bound sorted is truth fits) =
      grouped site w place (tree.Word at (kind_word k) ∷ pairs ∷ body ∷ [])
      (form.Quantifier k, quantifier_form setting place at k (pairs ∷ body ∷ []), (names, seconds, s ∷ sorts, u, bound, sorted, is, refl))
  said_level site t w (stands.unquantified site' place at i k body w' is) =
      grouped site w place (tree.Word at (kind_word k) ∷ tree.Group i [] ∷ body ∷ []) (
        form.Quantifier k,
        quantifier_form setting place at k (tree.Group i [] ∷ body ∷ []),
        ([], [], [], w, stands.binds i [] [] [] stands.no_pair refl, refl, subst (λ s. IsSaid setting s body w) (sym (no_variables setting site)) is, refl),
      )

  -- what a tree that stands for a term says of its form
  of_form : (site : Site) (place : ℕ) (first : Tree) (args : List Tree) (f : Form) (w : Typed) → form_of setting place (first ∷ args) ≡ Ok f
      → IsSaid setting site (tree.Group place (first ∷ args)) w → FormSaid site args w f
  of_form site place first args f w is stands =
      let says : GroupSaid site place (first ∷ args) w =
      subst (LevelSaid site w) (tree.outs-Group place (first ∷ args)) (said_level site (tree.Group place (first ∷ args)) w stands) in
      subst (FormSaid site args w) (ok_same says.0 f (sym says.1 ∙ is)) says.2

  -- what trees that stand for terms say, one by one
  abbrev EachSaid : Site → List Tree → List Typed → Type 0
  EachSaid site [] ws = [] ≡ ws
  EachSaid site (t ∷ ts) ws = (w : Typed) × (others : List Typed) × IsSaid setting site t w × AllSaid site ts others × (w ∷ others ≡ ws)

  each_said : (site : Site) (ts : List Tree) (ws : List Typed) → AllSaid site ts ws → EachSaid site ts ws
  each_said site ts ws (stands.no_tree site') = refl
  each_said site ts ws (stands.tree_before site' first trees w others is each) = (w, others, is, each, refl)

  one_negative : (site : Site) (i : ℕ) (n : ℤ) (w : Typed) → int_lt n (pos 0) ≡ false → FormSaid site (tree.Numeral i n ∷ []) w (form.Applied (head.Operator read.Sub)) → number (neg_ℤ n) ≡ w
  one_negative site i n w above (inl (m, some, same)) = ap (λ z. number (neg_ℤ z)) (some_same n m (sym (numeral_of-Numeral i n above) ∙ some)) ∙ same
  one_negative site i n w above (inr (other, values, each, applies)) = absurd (other (i, n, above, refl, refl))

  one_application : (site : Site) (args : List Tree) (h : Head) (vs : List Typed) (v w : Typed) → (IsNegative h args → ⊥) → Applies setting.sig h vs v
      → ((ws : List Typed) → AllSaid site args ws → vs ≡ ws) → FormSaid site args w (form.Applied h) → v ≡ w
  one_application site args h vs v w other applies all (inl (n, some, same)) = absurd (other (negative_told h args n some))
  one_application site args h vs v w other applies all (inr (other', ws, each, applies')) =
      one_applied setting.sig h vs v w applies (subst (λ us. Applies setting.sig h us w) (sym (all ws each)) applies')

  one_let : (site : Site) (pairs body : Tree) (names : List (List ℕ)) (seconds : List Tree) (vs : List Typed) (v w : Typed) → Binds pairs names seconds
      → ((ws : List Typed) → AllSaid site seconds ws → vs ≡ ws) → ((u : Typed) → IsSaid setting (with_terms site names vs) body u → v ≡ u)
      → LetSays site (pairs ∷ body ∷ []) w → v ≡ w
  one_let site pairs body names seconds vs v w bound all rest (names', seconds', ws, bound', each, is) =
      let (same_names, same_trees) = one_binding pairs names names' seconds seconds' bound bound' in
      let same : vs ≡ ws = all ws (subst (λ ts. AllSaid site ts ws) (sym same_trees) each) in
      rest w (subst (λ s. IsSaid setting s body w) (λ i. with_terms site (sym same_names i) (sym same i)) is)

  one_quantifier : (site : Site) (k : Kind) (pairs body : Tree) (names : List (List ℕ)) (seconds : List Tree) (sorts : List Sort) (u w : Typed) → Binds pairs names seconds
      → sorts_of_trees setting seconds ≡ Ok sorts → ((x : Typed) → IsSaid setting (with_variables site names sorts) body x → u ≡ x)
      → QuantifierSays k site (pairs ∷ body ∷ []) w → IsQuantified k sorts u w
  one_quantifier site k pairs body names seconds sorts u w bound sorted rest (names', seconds', sorts', x, bound', sorted', is, result) =
      let (same_names, same_trees) = one_binding pairs names names' seconds seconds' bound bound' in
      let same_sorts : sorts ≡ sorts' = ok_same sorts sorts' (sym sorted ∙ ap (sorts_of_trees setting) same_trees ∙ sorted') in
      let same : u ≡ x = rest x (subst (λ s. IsSaid setting s body x) (λ i. with_variables site (sym same_names i) (sym same_sorts i)) is) in
      subst (λ y. IsQuantified k sorts y w) (sym same) (subst (λ ss. IsQuantified k ss x w) (sym same_sorts) result)

  mutual
    one : (site : Site) (t : Tree) (v w : Typed) → IsSaid setting site t v → IsSaid setting site t w → v ≡ w
    one site t v w (stands.numeral site' place n) second = subst (LevelSaid site w) (tree.outs-Numeral place n) (said_level site t w second)
    one site t v w (stands.negative site' place at i minus n is above) second =
        one_negative site i n w above (of_form site place (tree.Symbol at minus) (tree.Numeral i n ∷ []) (form.Applied (head.Operator read.Sub)) w
        (head_is setting place (tree.Symbol at minus) (tree.Numeral i n ∷ []) (head.Operator read.Sub) (stands.named_head at minus (head.Operator read.Sub) (stands.operator read.Sub is))) second)
    one site t v w (stands.lone site' place name v' is) second =
        some_same v w (sym is ∙ subst (LevelSaid site w) (tree.outs-Symbol place name) (said_level site t w second))
    one site t v w (stands.application site' place first args h vs v' is other each few applies fits) second =
        one_application site args h vs v w other applies (λ ws each'. all_one site args vs ws each each')
        (of_form site place first args (form.Applied h) w (head_is setting place first args h is) second)
    one site t v w (stands.qualified site' place at i name spelled h v' made applies fits) second =
        one_applied setting.sig h [] v w applies
        (of_form site place (tree.Word at (codes "as")) (tree.Symbol i name ∷ spelled ∷ []) (form.Alone h) w (alone_form setting place at i name spelled h made) second)
    one site t v w (stands.let_names site' place at pairs body names seconds vs v' bound each is) second =
        one_let site pairs body names seconds vs v w bound (λ ws each'. all_one site seconds vs ws each each') (λ u is'. one (with_terms site names vs) body v u is is')
        (of_form site place (tree.Word at (codes "let")) (pairs ∷ body ∷ []) form.Let w (worded setting place at (codes "let") (pairs ∷ body ∷ [])) second)
    one site t v w (stands.annotated site' place at body attributes v' is) second =
        one site body v w is
        (of_form site place (tree.Word at (codes "!")) (body ∷ attributes) form.Annotated w (worded setting place at (codes "!") (body ∷ attributes)) second)
    one site t v w (stands.quantifier site' place at k pairs body names seconds s sorts u bound sorted is truth fits) second =
        one_quantifier site k pairs body names seconds (s ∷ sorts) u w bound sorted (λ x is'. one (with_variables site names (s ∷ sorts)) body u x is is')
        (of_form site place (tree.Word at (kind_word k)) (pairs ∷ body ∷ []) (form.Quantifier k) w (quantifier_form setting place at k (pairs ∷ body ∷ [])) second)
    one site t v w (stands.unquantified site' place at i k body v' is) second =
        one_quantifier site k (tree.Group i []) body [] [] [] v w (stands.binds i [] [] [] stands.no_pair refl) refl
        (λ x is'. one site body v x is (subst (λ s. IsSaid setting s body x) (no_variables setting site) is'))
        (of_form site place (tree.Word at (kind_word k)) (tree.Group i [] ∷ body ∷ []) (form.Quantifier k) w (quantifier_form setting place at k (tree.Group i [] ∷ body ∷ [])) second)

    all_one : (site : Site) (ts : List Tree) (vs ws : List Typed) → AllSaid site ts vs → AllSaid site ts ws → vs ≡ ws
    all_one site ts vs ws (stands.no_tree site') second = each_said site [] ws second
    all_one site ts vs ws (stands.tree_before site' first trees v values is each) second =
        let (w, others, is', each', same) = each_said site (first ∷ trees) ws second in
        let head_same : v ≡ w = one site first v w is is' in
        let rest_same : values ≡ others = all_one site trees values others each each' in
        (λ i. head_same i ∷ rest_same i) ∙ same

pub stands_for_one : StandsForOne
stands_for_one setting site t v w first second = one setting site t v w first second
