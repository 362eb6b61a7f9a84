-- Steps of the reading of terms.
use Rattle.std.proofs.Common.{◌≡◌, ◌<◌, ◌≤◌, ◌+◌, ◌++◌, ◌∷◌, [], ℕ, ℤ, pos, suc, Bool, true, false, cond, nat_lt, List, length, drop, get_or, refl, ap, sym, ◌∙◌, Option, Some, None, Ok, Err, arith}
use Rattle.std.proofs.lemmas.Bool.{ltb-true}
use Rattle.std.proofs.lemmas.List.{append_assoc, append-nil}
use Rattle.chc_sorts.specs.declared.sort.Sort.{Sort}
use Rattle.chc_sexpr.specs.declared.fault.Fault.TheVariants.{BadCommand, TooLarge, WrongCount}
use Rattle.chc_sexpr.specs.declared.fault.TextErr.{TextErr}
use Rattle.chc_sexpr.specs.declared.fault.TextErr.TheVariants as text_err
use Rattle.chc_sexpr.specs.declared.fault.TextFault.{TextFault}
use Rattle.chc_sexpr.specs.declared.tree.Tree.{Tree}
use Rattle.chc_sexpr.specs.declared.tree.Tree.TheVariants as tree
use Rattle.chc_sexpr.specs.declared.tree.Tree.TheVariants.{outs-Symbol, outs-Word, outs-Keyword, outs-Numeral, outs-Text, outs-Other, outs-Group}
use Rattle.chc_sexpr.proofs.Folds.{tree_ind}
use Rattle.chc_sexpr.specs.Counts.{count}
use Rattle.chc_sexpr.specs.Shapes.{group_at, group_of}
use Rattle.chc_terms.specs.declared.term.Kind.{Kind}
use Rattle.chc_terms.specs.Counts.{size}
use Rattle.chc_elab.specs.declared.typed.Typed.{Typed}
use Rattle.chc_elab.specs.declared.form.Form.{Form}
use Rattle.chc_elab.specs.declared.head.Head.{Head}
use Rattle.chc_elab.specs.Binders.{binder_names, binder_sorts, second_tree, with_terms, with_variables}
use Rattle.chc_elab.specs.Building.{head_takes, joined}
use Rattle.chc_elab.specs.Forms.{form_of}
use Rattle.chc_elab.specs.Heads.{unsupported}
use Rattle.chc_elab.specs.Limits.{most_nodes}
use Rattle.chc_elab.specs.Reads.{Roles, alone, arguments, beside, counted, formed, group_read, let_read, lone_word, negative, number, number_or, on_two, quantified, quantifier_read, read_at, roles_of, second_read, seconds_read, symbol_read, trees_of}
use Rattle.chc_elab.specs.Sites.{Site, Setting, Reading, Tells, faulty, ◌>>>◌}
use Rattle.chc_elab.proofs.TreeCounts.{count_inner}
use Rattle.chc_elab.proofs.ReadSoFar.{args_and_more, values_and_more}
use Rattle.chc_elab.proofs.RoleLaws.{roles-Symbol, roles-Word, roles-Keyword, roles-Numeral, roles-Text, roles-Other, roles-Group}

-- the two trees behind the first of three
pub three : (trees : List Tree) (a b : Tree) → 3 ≤ length trees → length trees < 4 → a ≡ get_or trees 1 a → b ≡ get_or trees 2 b → drop 1 trees ≡ a ∷ b ∷ []
three [] a b long short e f = absurd (omega arith)
three (x ∷ []) a b long short e f = absurd (omega arith)
three (x ∷ y ∷ []) a b long short e f = absurd (omega arith)
three (x ∷ y ∷ z ∷ []) a b long short e f = cc
three (x ∷ y ∷ z ∷ w ∷ more) a b long short e f = absurd (omega arith)

-- a first fault, or refused memory, goes on
pub tells_next : {A B : Type 0} (e : TextErr) (r : Reading A) (f : A → Reading B) → Tells {A = A} (Err e) r → Tells {A = B} (Err e) (r >>> f)
tells_next (text_err.At fault) r f h = ap (λ r. r >>> f) h
tells_next text_err.NoMemory r f h = tt

-- what is read next
pub read_next : {A B : Type 0} (r : Reading A) (f : A → Reading B) (a : A) → Ok a ≡ r → f a ≡ (r >>> f)
read_next r f a e = ap (λ r. r >>> f) e

-- a size within the limit
pub within_limit : (n : ℕ) → n ≤ most_nodes → nat_lt most_nodes n ≡ false
within_limit n le = by (nat_lt most_nodes n) (ltb-true most_nodes n)
  where
    by : (b : Bool) → (b ≡ true → most_nodes < n) → b ≡ false
    by false f = refl
    by true f = let more = f refl in absurd (omega arith)

module _ (setting : Setting) where
  pub trees_beside : (ts : List Tree) → trees_of (beside setting ts) ≡ ts
  trees_beside [] = refl
  trees_beside (t ∷ ts) = ap (λ l. t ∷ l) (trees_beside ts)

  -- a group by its form
  pub group_form : (place : ℕ) (trees : List Tree) (site : Site) (f : Form) → Ok f ≡ form_of setting place trees
      → formed setting place (beside setting (drop 1 trees)) site f ≡ group_read setting place (beside setting trees) site
  group_form place [] site f e = cc
  group_form place (t ∷ ts) site f e =
      ap (λ (r : Reading Form). r >>> formed setting place (beside setting ts) site) (e ∙ ap (λ us. form_of setting place (t ∷ us)) (sym (trees_beside ts)))

  pub group_fault : (place : ℕ) (trees : List Tree) (site : Site) (fault : TextFault) → Err fault ≡ form_of setting place trees
      → Err fault ≡ group_read setting place (beside setting trees) site
  group_fault place [] site fault e = ap (λ (r : Reading Form). r >>> formed setting place [] site) e
  group_fault place (t ∷ ts) site fault e =
      ap (λ (r : Reading Form). r >>> formed setting place (beside setting ts) site) (e ∙ ap (λ us. form_of setting place (t ∷ us)) (sym (trees_beside ts)))

  pub group_tells : (place : ℕ) (trees : List Tree) (site : Site) (e : TextErr) → Tells {A = Form} (Err e) (form_of setting place trees)
      → Tells {A = Typed} (Err e) (group_read setting place (beside setting trees) site)
  group_tells place trees site (text_err.At fault) h = group_fault place trees site fault h
  group_tells place trees site text_err.NoMemory h = tt

  -- only a group of some trees has a form
  pub form_some : (place : ℕ) (trees : List Tree) (f : Form) → Ok f ≡ form_of setting place trees → 0 < length trees
  form_some place [] f e = cc
  form_some place (t ∷ ts) f e = omega arith

  -- an application by its numeral
  pub applied_by : (place : ℕ) (trees : List Tree) (site : Site) (h : Head) (o : Option ℤ) → o ≡ negative h trees
      → number_or o (counted setting place h (beside setting trees) site) ≡ number_or (negative h (trees_of (beside setting trees))) (counted setting place h (beside setting trees) site)
  applied_by place trees site h o e =
      ap (λ (p : Option ℤ). number_or p (counted setting place h (beside setting trees) site)) (e ∙ ap (negative h) (sym (trees_beside trees)))

  -- the number of arguments
  pub length-beside : (ts : List Tree) → length (beside setting ts) ≡ length ts
  length-beside [] = refl
  length-beside (t ∷ ts) = ap (λ n. suc n) (length-beside ts)

  pub takes_beside : (h : Head) (ts : List Tree) (b : Bool) (n : ℕ) → length ts ≡ n → b ≡ head_takes setting.sig h n → b ≡ head_takes setting.sig h (length (beside setting ts))
  takes_beside h ts b n long e = e ∙ ap (head_takes setting.sig h) (sym long ∙ sym (length-beside ts))

  pub counted_wrong : (place : ℕ) (h : Head) (ts : List Tree) (site : Site) → false ≡ head_takes setting.sig h (length (beside setting ts)) → faulty place WrongCount [] ≡ counted setting place h (beside setting ts) site
  counted_wrong place h ts site e =
      ap (λ (b : Bool). cond b (arguments place site 1 (beside setting ts) >>> joined setting.sig place h) (faulty place WrongCount [])) e

  pub counted_right : (place : ℕ) (h : Head) (ts : List Tree) (site : Site) → true ≡ head_takes setting.sig h (length (beside setting ts))
      → (arguments place site 1 (beside setting ts) >>> joined setting.sig place h) ≡ counted setting place h (beside setting ts) site
  counted_right place h ts site e =
      ap (λ (b : Bool). cond b (arguments place site 1 (beside setting ts) >>> joined setting.sig place h) (faulty place WrongCount [])) e

  -- the arguments are as many as the trees
  pub arguments_many : (ts : List Tree) (place before : ℕ) (site : Site) (args : List Typed) → Ok args ≡ arguments place site before (beside setting ts) → length args ≡ length ts
  arguments_many [] place before site args e = let same : args ≡ [] = cc in ap (λ (l : List Typed). length l) same
  arguments_many (t ∷ ts) place before site args e = by ((roles_of setting t).whole site) (λ m rest is. arguments_many ts place m site rest is) e
    where
      last : (first : Typed) (r : Reading (List Typed)) → ((rest : List Typed) → Ok rest ≡ r → length rest ≡ length ts) → Ok args ≡ (r >>> (λ rest. Ok (first ∷ rest))) → length args ≡ suc (length ts)
      last first (Ok rest) many e =
          let same : args ≡ first ∷ rest = cc in
          ap (λ (l : List Typed). length l) same ∙ ap (λ n. suc n) (many rest refl)
      last first (Err fault) many e = cc

      limited : (first : Typed) (b : Bool) (r : Reading (List Typed)) → ((rest : List Typed) → Ok rest ≡ r → length rest ≡ length ts)
          → Ok args ≡ cond b (faulty place TooLarge []) (r >>> (λ rest. Ok (first ∷ rest))) → length args ≡ suc (length ts)
      limited first true r many e = cc
      limited first false r many e = last first r many e

      by : (r : Reading Typed) → ((m : ℕ) (rest : List Typed) → Ok rest ≡ arguments place site m (beside setting ts) → length rest ≡ length ts)
          → Ok args ≡ (r >>> (λ first.
          cond (nat_lt most_nodes (before + size first.term)) (faulty place TooLarge [])
          (arguments place site (before + size first.term) (beside setting ts) >>> (λ rest. Ok (first ∷ rest))))) → length args ≡ suc (length ts)
      by (Ok first) many e =
          limited first (nat_lt most_nodes (before + size first.term)) (arguments place site (before + size first.term) (beside setting ts)) (many (before + size first.term)) e
      by (Err fault) many e = cc

  -- the body of a let
  pub let_body : (place : ℕ) (trees : List Tree) (a b : Tree) (site : Site) (names : List (List ℕ)) (values : List Typed)
      → drop 1 trees ≡ a ∷ b ∷ [] → Ok names ≡ binder_names place (group_of a) → Ok values ≡ (roles_of setting a).seconds site
      → read_at setting b (with_terms site names values) ≡ on_two place (let_read setting place) (beside setting (drop 1 trees)) site
  let_body place trees a b site names values parts named read =
      ap (λ (r : Reading (List Typed)). r >>> (λ values. read_at setting b (with_terms site names values))) read
      ∙ ap (λ (r : Reading (List (List ℕ))). r >>> (λ names. (roles_of setting a).seconds site >>> (λ values. read_at setting b (with_terms site names values)))) named
      ∙ ap (λ (ts : List Tree). on_two place (let_read setting place) (beside setting ts) site) (sym parts)

  -- the body of a quantifier
  pub quantifier_body : (place : ℕ) (k : Kind) (trees : List Tree) (a b : Tree) (site : Site) (names : List (List ℕ)) (sorts : List Sort)
      → drop 1 trees ≡ a ∷ b ∷ [] → Ok names ≡ binder_names place (group_of a) → Ok sorts ≡ binder_sorts setting (group_of a)
      → (read_at setting b (with_variables site names sorts) >>> quantified place k sorts) ≡ on_two place (quantifier_read setting place k) (beside setting (drop 1 trees)) site
  quantifier_body place k trees a b site names sorts parts named read =
      ap (λ (r : Reading (List Sort)). r >>> (λ sorts. read_at setting b (with_variables site names sorts) >>> quantified place k sorts)) read
      ∙ ap (λ (r : Reading (List (List ℕ))). r >>> (λ names. binder_sorts setting (group_of a) >>> (λ sorts. read_at setting b (with_variables site names sorts) >>> quantified place k sorts))) named
      ∙ ap (λ (ts : List Tree). on_two place (quantifier_read setting place k) (beside setting ts) site) (sym parts)

  pub args_begin : (place before : ℕ) (site : Site) (ts : List Tree) → args_and_more setting place site before [] ts ≡ arguments place site before (beside setting ts)
  args_begin place before site ts = by (arguments place site before (beside setting ts))
    where
      by : (r : Reading (List Typed)) → (r >>> (λ rest. Ok ([] ++ rest))) ≡ r
      by (Ok rest) = refl
      by (Err fault) = refl

  pub args_next : (place before : ℕ) (site : Site) (args : List Typed) (t : Tree) (ts : List Tree) (first : Typed)
      → Ok first ≡ read_at setting t site → nat_lt most_nodes (before + size first.term) ≡ false
      → args_and_more setting place site before args (t ∷ ts) ≡ args_and_more setting place site (before + size first.term) (args ++ first ∷ []) ts
  args_next place before site args t ts first read few =
      let more : Reading (List Typed) = arguments place site (before + size first.term) (beside setting ts) in
      ap (λ (r : Reading Typed). r >>> (λ first.
      cond (nat_lt most_nodes (before + size first.term)) (faulty place TooLarge [])
      (arguments place site (before + size first.term) (beside setting ts) >>> (λ rest. Ok (first ∷ rest)))) >>> (λ rest. Ok (args ++ rest))) (sym read)
      ∙ ap (λ (b : Bool). cond b (faulty place TooLarge []) (more >>> (λ rest. Ok (first ∷ rest))) >>> (λ rest. Ok (args ++ rest))) few
      ∙ by more
    where
      by : (r : Reading (List Typed)) → (r >>> (λ rest. Ok (first ∷ rest)) >>> (λ rest. Ok (args ++ rest))) ≡ (r >>> (λ rest. Ok ((args ++ first ∷ []) ++ rest)))
      by (Ok rest) = ap Ok (sym (append_assoc args (first ∷ []) rest))
      by (Err fault) = refl

  pub args_large : (place before : ℕ) (site : Site) (args : List Typed) (t : Tree) (ts : List Tree) (first : Typed)
      → Ok first ≡ read_at setting t site → nat_lt most_nodes (before + size first.term) ≡ true
      → faulty place TooLarge [] ≡ args_and_more setting place site before args (t ∷ ts)
  args_large place before site args t ts first read large =
      sym (ap (λ (r : Reading Typed). r >>> (λ first.
      cond (nat_lt most_nodes (before + size first.term)) (faulty place TooLarge [])
      (arguments place site (before + size first.term) (beside setting ts) >>> (λ rest. Ok (first ∷ rest)))) >>> (λ rest. Ok (args ++ rest))) (sym read)
      ∙ ap (λ (b : Bool). cond b (faulty place TooLarge []) (arguments place site (before + size first.term) (beside setting ts) >>> (λ rest. Ok (first ∷ rest))) >>> (λ rest. Ok (args ++ rest))) large)

  pub args_fault : (place before : ℕ) (site : Site) (args : List Typed) (t : Tree) (ts : List Tree) (fault : TextFault)
      → Err fault ≡ read_at setting t site → Err fault ≡ args_and_more setting place site before args (t ∷ ts)
  args_fault place before site args t ts fault read =
      ap (λ (r : Reading Typed). r >>> (λ first.
      cond (nat_lt most_nodes (before + size first.term)) (faulty place TooLarge [])
      (arguments place site (before + size first.term) (beside setting ts) >>> (λ rest. Ok (first ∷ rest)))) >>> (λ rest. Ok (args ++ rest))) read

  pub args_done : (place before : ℕ) (site : Site) (args : List Typed) (ts : List Tree) → ts ≡ [] → Ok args ≡ args_and_more setting place site before args ts
  args_done place before site args ts none =
      ap Ok (sym (append-nil args)) ∙ sym (ap (args_and_more setting place site before args) none)

  -- pairs and lists of pairs by the trees in them
  abbrev pub second_or : Site → Option Tree → Reading Typed
  second_or site None = Ok (number (pos 0))
  second_or site (Some t) = read_at setting t site

  abbrev pub seconds_or : Site → Option (List Tree) → Reading (List Typed)
  seconds_or site None = Ok []
  seconds_or site (Some ts) = seconds_read (beside setting ts) site

  pub record Parts (t : Tree) : Type 0 where
    pub second : (site : Site) → (roles_of setting t).second site ≡ second_or site (second_tree (group_of t))
    pub seconds : (site : Site) → (roles_of setting t).seconds site ≡ seconds_or site (group_of t)

  parts_alone : (t : Tree) (whole : Site → Reading Typed) → roles_of setting t ≡ alone whole → group_of t ≡ None → Parts t
  parts_alone t whole e none = record {
    second = λ site. ap (λ (r : Roles). r.second site) e ∙ sym (ap (λ o. second_or site (second_tree o)) none);
    seconds = λ site. ap (λ (r : Roles). r.seconds site) e ∙ sym (ap (seconds_or site) none);
  }

  second_in : (ts : List Tree) (site : Site) → second_read (beside setting ts) site ≡ second_or site (second_tree (Some ts))
  second_in [] site = refl
  second_in (x ∷ []) site = refl
  second_in (x ∷ t ∷ more) site = refl

  parts_group : (place : ℕ) (ts : List Tree) → Parts (tree.Group place ts)
  parts_group place ts = record {
    second = λ site. ap (λ (r : Roles). r.second site) (roles-Group setting place ts) ∙ second_in ts site ∙ sym (ap (λ o. second_or site (second_tree (group_at o))) (outs-Group place ts));
    seconds = λ site. ap (λ (r : Roles). r.seconds site) (roles-Group setting place ts) ∙ sym (ap (λ o. seconds_or site (group_at o)) (outs-Group place ts));
  }

  pub parts : (t : Tree) → Parts t
  parts = tree_ind Parts (record {
    symbol = λ place name. parts_alone (tree.Symbol place name) (symbol_read setting place name) (roles-Symbol setting place name) (ap group_at (outs-Symbol place name));
    word = λ place word. parts_alone (tree.Word place word) (λ site. lone_word place word) (roles-Word setting place word) (ap group_at (outs-Word place word));
    keyword = λ place word. parts_alone (tree.Keyword place word) (λ site. faulty place BadCommand []) (roles-Keyword setting place word) (ap group_at (outs-Keyword place word));
    numeral = λ place n. parts_alone (tree.Numeral place n) (λ site. Ok (number n)) (roles-Numeral setting place n) (ap group_at (outs-Numeral place n));
    text = λ place bytes. parts_alone (tree.Text place bytes) (λ site. unsupported (tree.Text place bytes)) (roles-Text setting place bytes) (ap group_at (outs-Text place bytes));
    other = λ place token. parts_alone (tree.Other place token) (λ site. unsupported (tree.Other place token)) (roles-Other setting place token) (ap group_at (outs-Other place token));
    group = λ place ts all. parts_group place ts;
  })

  pub values_begin : (site : Site) (ts : List Tree) → values_and_more setting site [] ts ≡ seconds_read (beside setting ts) site
  values_begin site ts = by (seconds_read (beside setting ts) site)
    where
      by : (r : Reading (List Typed)) → (r >>> (λ rest. Ok ([] ++ rest))) ≡ r
      by (Ok rest) = refl
      by (Err fault) = refl

  pub values_next : (site : Site) (values : List Typed) (t : Tree) (ts : List Tree) (first : Typed)
      → Ok first ≡ (roles_of setting t).second site → values_and_more setting site values (t ∷ ts) ≡ values_and_more setting site (values ++ first ∷ []) ts
  values_next site values t ts first read =
      ap (λ (r : Reading Typed). r >>> (λ first. seconds_read (beside setting ts) site >>> (λ rest. Ok (first ∷ rest))) >>> (λ rest. Ok (values ++ rest))) (sym read)
      ∙ by (seconds_read (beside setting ts) site)
    where
      by : (r : Reading (List Typed)) → (r >>> (λ rest. Ok (first ∷ rest)) >>> (λ rest. Ok (values ++ rest))) ≡ (r >>> (λ rest. Ok ((values ++ first ∷ []) ++ rest)))
      by (Ok rest) = ap Ok (sym (append_assoc values (first ∷ []) rest))
      by (Err fault) = refl

  pub values_fault : (site : Site) (values : List Typed) (t : Tree) (ts : List Tree) (fault : TextFault)
      → Err fault ≡ (roles_of setting t).second site → Err fault ≡ values_and_more setting site values (t ∷ ts)
  values_fault site values t ts fault read =
      ap (λ (r : Reading Typed). r >>> (λ first. seconds_read (beside setting ts) site >>> (λ rest. Ok (first ∷ rest))) >>> (λ rest. Ok (values ++ rest))) read

  pub values_tells : (site : Site) (values : List Typed) (t : Tree) (ts : List Tree) (e : TextErr)
      → Tells {A = Typed} (Err e) ((roles_of setting t).second site) → Tells {A = List Typed} (Err e) (values_and_more setting site values (t ∷ ts))
  values_tells site values t ts (text_err.At fault) h = values_fault site values t ts fault h
  values_tells site values t ts text_err.NoMemory h = tt

  pub values_done : (site : Site) (values : List Typed) (ts : List Tree) → ts ≡ [] → Ok values ≡ values_and_more setting site values ts
  values_done site values ts none = ap Ok (sym (append-nil values)) ∙ sym (ap (values_and_more setting site values) none)

-- the second tree of a pair is made of fewer trees
pub count_second : (t u : Tree) → second_tree (group_of t) ≡ Some u → count u + 1 ≤ count t
count_second t u e = by (group_of t) refl e
  where
    by : (o : Option (List Tree)) → group_of t ≡ o → second_tree o ≡ Some u → count u + 1 ≤ count t
    by None is e = cc
    by (Some []) is e = cc
    by (Some (x ∷ [])) is e = cc
    by (Some (x ∷ v ∷ more)) is e =
        let same : v ≡ u = cc in
        let counted = ap count same in
        let inner = count_inner t (x ∷ v ∷ more) is in
        omega arith
