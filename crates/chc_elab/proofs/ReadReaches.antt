-- How far the variables of what is read reach: no farther than the site and as many more as there are trees.
use Rattle.std.proofs.Common.{◌≡◌, ◌≤◌, ◌+◌, ◌-◌, max, cond, nat_lt, codes, suc, ℕ, ℤ, pos, neg_ℤ, Bool, true, false, List, [], ◌∷◌, ◌++◌, length, map, Option, Some, None, Ok, Err, ap, sym, subst, refl, arith}
use Rattle.std.specs.List.{AllByRecursion}
use Rattle.std.specs.Option.{option_map, option_or, option_and_then}
use Rattle.chc_sorts.specs.declared.meaning.Meaning.{Meaning}
use Rattle.chc_sorts.specs.declared.meaning.Meaning.TheVariants as meaning
use Rattle.chc_sorts.specs.declared.op.Op.TheVariants as op
use Rattle.chc_sorts.specs.declared.sort.Sort.{Sort}
use Rattle.chc_sorts.specs.declared.sort.Sort.TheVariants as sort
use Rattle.chc_sorts.specs.Functions.{meaning_of}
use Rattle.chc_sorts.specs.Names.{look_up}
use Rattle.std.specs.Str.{bytes_eq}
use Rattle.chc_sexpr.proofs.Folds.{tree_ind}
use Rattle.chc_sexpr.specs.Counts.{count, count_all}
use Rattle.chc_sexpr.specs.Shapes.{group_of}
use Rattle.chc_sexpr.specs.declared.fault.Fault.TheVariants.{BadCommand, NotSupported, TooDeep, TooLarge, UnknownName, WrongCount, WrongSort}
use Rattle.chc_sexpr.specs.declared.tree.Tree.{Tree}
use Rattle.chc_sexpr.specs.declared.tree.Tree.TheVariants as tree
use Rattle.chc_terms.specs.Counts.{greatest, size, depth}
use Rattle.chc_terms.specs.Sorted.{fields_of, quantifier_sort}
use Rattle.chc_terms.specs.declared.term.Kind.{Kind}
use Rattle.chc_terms.specs.declared.term.Term.TheVariants as term
use Rattle.chc_elab.specs.declared.typed.Typed.{Typed}
use Rattle.chc_elab.specs.declared.form.Form.{Form}
use Rattle.chc_elab.specs.declared.form.Form.TheVariants as form
use Rattle.chc_elab.specs.declared.head.Head.{Head}
use Rattle.chc_elab.specs.declared.symbols.Symbol.{Symbol}
use Rattle.chc_elab.specs.declared.symbols.Symbol.TheVariants as symbol
use Rattle.chc_elab.specs.Binders.{before_others, binder_names, binder_sorts, locals_of, second_tree, second_trees, sorts_of_trees, variables_from, with_terms, with_variables}
use Rattle.chc_elab.specs.Building.{head_sort, head_takes, head_term, held, joined}
use Rattle.chc_elab.specs.Forms.{form_of}
use Rattle.chc_elab.specs.Heads.{sort_tree, unsupported}
use Rattle.chc_elab.specs.Limits.{most_nodes, most_levels}
use Rattle.chc_elab.specs.Reads.{Roles, roles_of, beside, trees_of, alone, number, negative, number_or, arguments, quantified, on_two, annotated, lone_word, second_read, seconds_read, counted, let_read, quantifier_read, formed, group_read, symbol_read}
use Rattle.chc_elab.specs.Rooms.{reach, local_reach, site_reach}
use Rattle.chc_elab.specs.Sites.{Local, Site, Setting, Reading, faulty, or_fault, ◌>>>◌, local_named, moved_under, literal_named, constant_named, constant_meant, bare_constructor, constant_declared, without_parameters, lone_symbol}
use Rattle.chc_elab.proofs.TreeCounts.{count-Group, count_length, count_inner}
use Rattle.chc_elab.proofs.Outcomes.{read_first}
use Rattle.chc_elab.proofs.Reaches.{reach_all, reach-Num, reach-Lit, reach-App, reach-Pred, reach-Call, reach-Quant, reach-Var, head_reach, shifted_reach}
use Rattle.chc_elab.proofs.RoleLaws.{roles-Symbol, roles-Word, roles-Keyword, roles-Numeral, roles-Text, roles-Other, roles-Group}

-- how far terms with their sorts reach
abbrev pub typed_reach : List Typed → ℕ
typed_reach ts = greatest (map (λ (t : Typed). reach t.term) ts)

-- what is read reaches no farther than that
abbrev pub Within : ℕ → Reading Typed → Type 0
Within n (Ok t) = reach t.term ≤ n
Within n (Err fault) = Unit {0}

abbrev pub AllWithin : ℕ → Reading (List Typed) → Type 0
AllWithin n (Ok ts) = typed_reach ts ≤ n
AllWithin n (Err fault) = Unit {0}

abbrev pub MayBeWithin : ℕ → Option Typed → Type 0
MayBeWithin n None = Unit {0}
MayBeWithin n (Some t) = reach t.term ≤ n

wider : (m n : ℕ) (r : Reading Typed) → m ≤ n → Within m r → Within n r
wider m n (Ok t) le h = omega arith
wider m n (Err fault) le h = tt

next : {A : Type 0} (n : ℕ) (r : Reading A) (f : A → Reading Typed) → ((a : A) → r ≡ Ok a → Within n (f a)) → Within n (r >>> f)
next n (Ok a) f h = h a refl
next n (Err fault) f h = tt

either : (n : ℕ) (b : Bool) (r s : Reading Typed) → Within n r → Within n s → Within n (cond b r s)
either n true r s h k = h
either n false r s h k = k

pub is_within : (n : ℕ) (r : Reading Typed) (t : Typed) → Within n r → r ≡ Ok t → reach t.term ≤ n
is_within n (Ok u) t h e = let same : u ≡ t = cc in let reached = ap (λ (x : Typed). reach x.term) same in omega arith
is_within n (Err fault) t h e = cc

pub are_within : (n : ℕ) (r : Reading (List Typed)) (ts : List Typed) → AllWithin n r → r ≡ Ok ts → typed_reach ts ≤ n
are_within n (Ok us) ts h e = let same : us ≡ ts = cc in let reached = ap typed_reach same in omega arith
are_within n (Err fault) ts h e = cc

-- lone symbols

option_within : (n : ℕ) (o p : Option Typed) → MayBeWithin n o → MayBeWithin n p → MayBeWithin n (option_or o p)
option_within n None p h k = k
option_within n (Some t) p h k = h

read_within : (n : ℕ) (r : Reading Typed) (o : Option Typed) → Within n r → MayBeWithin n o → Within n (or_fault r o)
read_within n r None h k = h
read_within n r (Some t) h k = k

pub local_within : (ls : List Local) (variables : ℕ) (name : List ℕ) (l : Local) → local_named ls name ≡ Some l → local_reach variables l ≤ greatest (map (local_reach variables) ls)
local_within [] variables name l e = cc
local_within (x ∷ ls) variables name l e = by (local_named ls name) (bytes_eq x.name name) (local_within ls variables name l) e
  where
    by : (o : Option Local) (b : Bool) → (o ≡ Some l → local_reach variables l ≤ greatest (map (local_reach variables) ls)) → option_or o (cond b (Some x) None) ≡ Some l
        → local_reach variables l ≤ max (local_reach variables x) (greatest (map (local_reach variables) ls))
    by (Some y) b more e = let rest = more e in omega arith
    by None true more e = let same : x ≡ l = cc in let reached = ap (local_reach variables) same in omega arith
    by None false more e = cc

moved_within : (site : Site) (name : List ℕ) (o : Option Local) → local_named site.locals name ≡ o → MayBeWithin (site_reach site) (option_map (moved_under site.variables) o)
moved_within site name None is = tt
moved_within site name (Some l) is =
    let far = shifted_reach l.value.term l.under (site.variables - l.under) in
    let within = local_within site.locals site.variables name l is in
    omega arith

literal_within : (n : ℕ) (name : List ℕ) → MayBeWithin n (literal_named name)
literal_within n name = by (bytes_eq name (codes "true")) (bytes_eq name (codes "false"))
  where
    by : (b c : Bool) → MayBeWithin n (cond b (Some (record { term = term.Lit true; sort = sort.Bool })) (cond c (Some (record { term = term.Lit false; sort = sort.Bool })) None))
    by true c = let e = reach-Lit true in omega arith
    by false true = let e = reach-Lit false in omega arith
    by false false = tt

bare_within : (n d c : ℕ) (o : Option (List Sort)) → MayBeWithin n (bare_constructor d c o)
bare_within n d c None = tt
bare_within n d c (Some []) = let e = reach-App (op.Make d c) [] in omega arith
bare_within n d c (Some (s ∷ ss)) = tt

meant_within : (setting : Setting) (n : ℕ) (o : Option Meaning) → MayBeWithin n (option_and_then (constant_meant setting.sig) o)
meant_within setting n None = tt
meant_within setting n (Some (meaning.Make d c)) = bare_within n d c (fields_of setting.sig d c)
meant_within setting n (Some (meaning.Get d c i)) = tt

without_within : (n : ℕ) (sorts : List Sort) (t : Typed) → reach t.term ≤ n → MayBeWithin n (without_parameters sorts t)
without_within n [] t h = h
without_within n (s ∷ ss) t h = tt

declared_within : (n : ℕ) (o : Option Symbol) → MayBeWithin n (option_and_then constant_declared o)
declared_within n None = tt
declared_within n (Some (symbol.Pred p sorts)) = without_within n sorts (record { term = term.Pred p []; sort = sort.Bool }) (let e = reach-Pred p [] in omega arith)
declared_within n (Some (symbol.Def k f)) = without_within n f.params (record { term = term.Call k []; sort = f.result }) (let e = reach-Call k [] in omega arith)

symbol_within : (setting : Setting) (place : ℕ) (name : List ℕ) (site : Site) → Within (site_reach site) (symbol_read setting place name site)
symbol_within setting place name site =
    read_within (site_reach site) (faulty place UnknownName name) (lone_symbol setting site name) tt
    (option_within (site_reach site) (option_map (moved_under site.variables) (local_named site.locals name)) (option_or (literal_named name) (constant_named setting name))
    (moved_within site name (local_named site.locals name) refl)
    (option_within (site_reach site) (literal_named name) (constant_named setting name)
    (literal_within (site_reach site) name)
    (option_within (site_reach site) (option_and_then (constant_meant setting.sig) (meaning_of setting.sig name)) (option_and_then constant_declared (look_up setting.symbols name))
    (meant_within setting (site_reach site) (meaning_of setting.sig name))
    (declared_within (site_reach site) (look_up setting.symbols name)))))

-- built terms

held_within : (n place : ℕ) (t : Typed) → reach t.term ≤ n → Within n (held place t)
held_within n place t h =
    either n (nat_lt most_nodes (size t.term)) (faulty place TooLarge []) (cond (nat_lt most_levels (depth t.term)) (faulty place TooDeep []) (Ok t)) tt
    (either n (nat_lt most_levels (depth t.term)) (faulty place TooDeep []) (Ok t) tt h)

terms_reach : (args : List Typed) → reach_all (map (λ (t : Typed). t.term) args) ≡ typed_reach args
terms_reach [] = refl
terms_reach (t ∷ ts) = ap (λ n. max (reach t.term) n) (terms_reach ts)

joined_within : (setting : Setting) (n place : ℕ) (h : Head) (args : List Typed) → typed_reach args ≤ n → Within n (joined setting.sig place h args)
joined_within setting n place h args within = by (head_sort setting.sig h (map (λ (t : Typed). t.sort) args))
  where
    by : (o : Option Sort) → Within n (or_fault (faulty place WrongSort []) o >>> (λ s. held place (record { term = head_term h (map (λ (t : Typed). t.term) args); sort = s })))
    by None = tt
    by (Some s) =
        held_within n place (record { term = head_term h (map (λ (t : Typed). t.term) args); sort = s })
        (let far = head_reach h (map (λ (t : Typed). t.term) args) in let same = terms_reach args in omega arith)

quantified_within : (n place : ℕ) (k : Kind) (sorts : List Sort) (body : Typed) → reach body.term ≤ n → Within n (quantified place k sorts body)
quantified_within n place k [] body h = h
quantified_within n place k (s ∷ sorts) body h = by (quantifier_sort (s ∷ sorts) (Some body.sort))
  where
    by : (o : Option Sort) → Within n (or_fault (faulty place WrongSort []) o >>> (λ result. held place (record { term = term.Quant k (s ∷ sorts) body.term; sort = result })))
    by None = tt
    by (Some result) =
        held_within n place (record { term = term.Quant k (s ∷ sorts) body.term; sort = result })
        (let e = reach-Quant k (s ∷ sorts) body.term in omega arith)

number_within : (n : ℕ) (m : ℤ) → Within n (Ok (number m))
number_within n m = let e = reach-Num m in omega arith

number_or_within : (n : ℕ) (o : Option ℤ) (r : Reading Typed) → Within n r → Within n (number_or o r)
number_or_within n None r h = h
number_or_within n (Some m) r h = number_within n (neg_ℤ m)

-- sites within binders

greatest-append : (ms ns : List ℕ) → greatest (ms ++ ns) ≡ max (greatest ms) (greatest ns)
greatest-append [] ns = omega arith
greatest-append (m ∷ ms) ns = let rest = greatest-append ms ns in omega arith

locals_reach : (variables : ℕ) (ls ms : List Local) → greatest (map (local_reach variables) (ls ++ ms)) ≡ max (greatest (map (local_reach variables) ls)) (greatest (map (local_reach variables) ms))
locals_reach variables [] ms = omega arith
locals_reach variables (l ∷ ls) ms = let rest = locals_reach variables ls ms in omega arith

values_reach : (site : Site) (names : List (List ℕ)) (values : List Typed) → greatest (map (local_reach site.variables) (locals_of site names values)) ≤ typed_reach values
values_reach site [] values = omega arith
values_reach site (x ∷ names) [] = omega arith
values_reach site (x ∷ names) (v ∷ values) = let rest = values_reach site names values in omega arith

-- under names for terms a site reaches as far as these do
pub terms_site_reach : (site : Site) (names : List (List ℕ)) (values : List Typed) → site_reach (with_terms site names values) ≤ max (site_reach site) (typed_reach values)
terms_site_reach site names values =
    let both = locals_reach site.variables site.locals (locals_of site names values) in
    let more = values_reach site names values in
    omega arith

farther : (n more : ℕ) (ls : List Local) → greatest (map (local_reach (n + more)) ls) ≤ greatest (map (local_reach n) ls) + more
farther n more [] = omega arith
farther n more (l ∷ ls) = let rest = farther n more ls in omega arith

variables_reach : (n all : ℕ) (names : List (List ℕ)) (sorts : List Sort) → n + length sorts ≤ all → greatest (map (local_reach all) (variables_from n names sorts)) ≤ all
variables_reach n all [] sorts h = omega arith
variables_reach n all (x ∷ names) [] h = omega arith
variables_reach n all (x ∷ names) (s ∷ sorts) h =
    let here = reach-Var n in
    let rest = variables_reach (n + 1) all names sorts (omega arith) in
    omega arith

-- under variables a site reaches farther by their number
pub variables_site_reach : (site : Site) (names : List (List ℕ)) (sorts : List Sort) → site_reach (with_variables site names sorts) ≤ site_reach site + length sorts
variables_site_reach site names sorts =
    let all = site.variables + length sorts in
    let both = locals_reach all site.locals (variables_from site.variables names sorts) in
    let old = farther site.variables (length sorts) site.locals in
    let new = variables_reach site.variables all names sorts (omega arith) in
    omega arith

-- binders have no more sorts than trees
seconds_few : (ts : List Tree) → length (second_trees ts) ≤ length ts
seconds_few [] = omega arith
seconds_few (t ∷ ts) = let rest = seconds_few ts in by (second_tree (group_of t)) rest
  where
    by : (o : Option Tree) → length (second_trees ts) ≤ length ts → length (before_others o (second_trees ts)) ≤ suc (length ts)
    by None h = omega arith
    by (Some u) h = omega arith

sorts_as_many : (setting : Setting) (ts : List Tree) (sorts : List Sort) → sorts_of_trees setting ts ≡ Ok sorts → length sorts ≡ length ts
sorts_as_many setting [] sorts e = let same : [] ≡ sorts = cc in sym (ap (λ (l : List Sort). length l) same)
sorts_as_many setting (t ∷ ts) sorts e =
    let first = read_first (sort_tree setting t) (λ s. sorts_of_trees setting ts >>> (λ rest. Ok (s ∷ rest))) sorts e in
    let rest = read_first (sorts_of_trees setting ts) (λ rest. Ok (first.0 ∷ rest)) sorts first.2 in
    let more = sorts_as_many setting ts rest.0 rest.1 in
    let all : first.0 ∷ rest.0 ≡ sorts = cc in
    let long = ap (λ (l : List Sort). length l) all in
    omega arith

pub sorts_few : (setting : Setting) (t : Tree) (sorts : List Sort) → binder_sorts setting (group_of t) ≡ Ok sorts → length sorts ≤ count t
sorts_few setting t sorts e = by (group_of t) refl e
  where
    by : (o : Option (List Tree)) → group_of t ≡ o → binder_sorts setting o ≡ Ok sorts → length sorts ≤ count t
    by None is e = let same : [] ≡ sorts = cc in let long = ap (λ (l : List Sort). length l) same in omega arith
    by (Some inner) is e =
        let as_many = sorts_as_many setting (second_trees inner) sorts e in
        let few = seconds_few inner in
        let all = count_length inner in
        let within = count_inner t inner is in
        omega arith

module _ (setting : Setting) where
  -- what a tree is read as, in each way, reaches no farther than the site and as many more as there are trees
  pub record Reaches (t : Tree) : Type 0 where
    pub whole : (site : Site) → Within (site_reach site + count t) ((roles_of setting t).whole site)
    pub second : (site : Site) → Within (site_reach site + count t) ((roles_of setting t).second site)
    pub seconds : (site : Site) → AllWithin (site_reach site + count t) ((roles_of setting t).seconds site)

  -- the same of ways in which trees are read
  record ReachesSo (n : ℕ) (r : Roles) : Type 0 where
    whole : (site : Site) → Within (site_reach site + n) (r.whole site)
    second : (site : Site) → Within (site_reach site + n) (r.second site)
    seconds : (site : Site) → AllWithin (site_reach site + n) (r.seconds site)

  of_roles : (t : Tree) (r : Roles) → roles_of setting t ≡ r → ReachesSo (count t) r → Reaches t
  of_roles t r e so =
      let here = subst (ReachesSo (count t)) (sym e) so in
      record { whole = here.whole; second = here.second; seconds = here.seconds }

  of_alone : (n : ℕ) (whole : Site → Reading Typed) → ((site : Site) → Within (site_reach site + n) (whole site)) → ReachesSo n (alone whole)
  of_alone n whole h = record { whole = h; second = λ site. number_within (site_reach site + n) (pos 0); seconds = λ site. omega arith }

  -- the next argument and the others
  rest_within : (n : ℕ) (first : Typed) → reach first.term ≤ n → (r : Reading (List Typed)) → AllWithin n r → AllWithin n (r >>> (λ rest. Ok (first ∷ rest)))
  rest_within n first one (Ok rest) all = omega arith
  rest_within n first one (Err fault) all = tt

  limited : (n place : ℕ) (b : Bool) (r : Reading (List Typed)) → AllWithin n r → AllWithin n (cond b (faulty place TooLarge []) r)
  limited n place true r all = tt
  limited n place false r all = all

  all_wider : (m n : ℕ) (r : Reading (List Typed)) → m ≤ n → AllWithin m r → AllWithin n r
  all_wider m n (Ok ts) le h = omega arith
  all_wider m n (Err fault) le h = tt

  arguments_within : (ts : List Tree) → AllByRecursion Reaches ts → (place before : ℕ) (site : Site) → AllWithin (site_reach site + count_all ts) (arguments place site before (beside setting ts))
  arguments_within [] h place before site = omega arith
  arguments_within (t ∷ ts) h place before site = by ((roles_of setting t).whole site) (h.0.whole site) (λ m. arguments_within ts h.1 place m site)
    where
      by : (r : Reading Typed) → Within (site_reach site + count t) r
          → ((m : ℕ) → AllWithin (site_reach site + count_all ts) (arguments place site m (beside setting ts)))
          → AllWithin (site_reach site + (count t + count_all ts)) (r >>> (λ first.
          cond (nat_lt most_nodes (before + size first.term)) (faulty place TooLarge [])
          (arguments place site (before + size first.term) (beside setting ts) >>> (λ rest. Ok (first ∷ rest)))))
      by (Ok first) one more =
          let n = site_reach site + (count t + count_all ts) in
          let others = arguments place site (before + size first.term) (beside setting ts) in
          limited n place (nat_lt most_nodes (before + size first.term)) (others >>> (λ rest. Ok (first ∷ rest)))
          (rest_within n first (omega arith) others (all_wider (site_reach site + count_all ts) n others (omega arith) (more (before + size first.term))))
      by (Err fault) one more = tt

  counted_within : (ts : List Tree) → AllByRecursion Reaches ts → (n place : ℕ) (h : Head) (site : Site) → site_reach site + count_all ts ≤ n
      → Within n (counted setting place h (beside setting ts) site)
  counted_within ts all n place h site le =
      either n (head_takes setting.sig h (length (beside setting ts))) (arguments place site 1 (beside setting ts) >>> joined setting.sig place h) (faulty place WrongCount [])
      (next n (arguments place site 1 (beside setting ts)) (joined setting.sig place h) (λ args is.
      joined_within setting n place h args (let far = are_within (site_reach site + count_all ts) (arguments place site 1 (beside setting ts)) args (arguments_within ts all place 1 site) is in omega arith)))
      tt

  let_within : (ts : List Tree) → AllByRecursion Reaches ts → (n place : ℕ) (site : Site) → site_reach site + count_all ts ≤ n
      → Within n (on_two place (let_read setting place) (beside setting ts) site)
  let_within [] all n place site le = tt
  let_within (a ∷ []) all n place site le = tt
  let_within (a ∷ b ∷ []) all n place site le =
      next n (binder_names place (group_of a)) (λ names. (roles_of setting a).seconds site >>> (λ values. (roles_of setting b).whole (with_terms site names values))) (λ names named.
      next n ((roles_of setting a).seconds site) (λ values. (roles_of setting b).whole (with_terms site names values)) (λ values read.
      let far = are_within (site_reach site + count a) ((roles_of setting a).seconds site) values (all.0.seconds site) read in
      let under = terms_site_reach site names values in
      wider (site_reach (with_terms site names values) + count b) n ((roles_of setting b).whole (with_terms site names values)) (omega arith) (all.1.0.whole (with_terms site names values))))
  let_within (a ∷ b ∷ c ∷ more) all n place site le = tt

  quantifier_within : (ts : List Tree) → AllByRecursion Reaches ts → (n place : ℕ) (k : Kind) (site : Site) → site_reach site + count_all ts ≤ n
      → Within n (on_two place (quantifier_read setting place k) (beside setting ts) site)
  quantifier_within [] all n place k site le = tt
  quantifier_within (a ∷ []) all n place k site le = tt
  quantifier_within (a ∷ b ∷ []) all n place k site le =
      next n (binder_names place (group_of a)) (λ names. binder_sorts setting (group_of a) >>> (λ sorts. (roles_of setting b).whole (with_variables site names sorts) >>> quantified place k sorts)) (λ names named.
      next n (binder_sorts setting (group_of a)) (λ sorts. (roles_of setting b).whole (with_variables site names sorts) >>> quantified place k sorts) (λ sorts read.
      next n ((roles_of setting b).whole (with_variables site names sorts)) (quantified place k sorts) (λ body is.
      let few = sorts_few setting a sorts read in
      let under = variables_site_reach site names sorts in
      let far = is_within (site_reach (with_variables site names sorts) + count b) ((roles_of setting b).whole (with_variables site names sorts)) body (all.1.0.whole (with_variables site names sorts)) is in
      quantified_within n place k sorts body (omega arith))))
  quantifier_within (a ∷ b ∷ c ∷ more) all n place k site le = tt

  annotated_within : (ts : List Tree) → AllByRecursion Reaches ts → (n place : ℕ) (site : Site) → site_reach site + count_all ts ≤ n
      → Within n (annotated place (beside setting ts) site)
  annotated_within [] all n place site le = tt
  annotated_within (t ∷ more) all n place site le = wider (site_reach site + count t) n ((roles_of setting t).whole site) (omega arith) (all.0.whole site)

  formed_within : (ts : List Tree) → AllByRecursion Reaches ts → (n place : ℕ) (site : Site) (f : Form) → site_reach site + count_all ts ≤ n
      → Within n (formed setting place (beside setting ts) site f)
  formed_within ts all n place site (form.Applied h) le =
      number_or_within n (negative h (trees_of (beside setting ts))) (counted setting place h (beside setting ts) site) (counted_within ts all n place h site le)
  formed_within ts all n place site (form.Alone h) le = counted_within [] tt n place h site (omega arith)
  formed_within ts all n place site form.Let le = let_within ts all n place site le
  formed_within ts all n place site (form.Quantifier k) le = quantifier_within ts all n place k site le
  formed_within ts all n place site form.Annotated le = annotated_within ts all n place site le

  group_within : (ts : List Tree) → AllByRecursion Reaches ts → (n place : ℕ) (site : Site) → site_reach site + count_all ts ≤ n
      → Within n (group_read setting place (beside setting ts) site)
  group_within [] all n place site le = tt
  group_within (t ∷ ts) all n place site le =
      next n (form_of setting place (t ∷ trees_of (beside setting ts))) (formed setting place (beside setting ts) site) (λ f is. formed_within ts all.1 n place site f (omega arith))

  second_within : (ts : List Tree) → AllByRecursion Reaches ts → (n : ℕ) (site : Site) → site_reach site + count_all ts ≤ n → Within n (second_read (beside setting ts) site)
  second_within [] all n site le = number_within n (pos 0)
  second_within (x ∷ []) all n site le = number_within n (pos 0)
  second_within (x ∷ t ∷ more) all n site le = wider (site_reach site + count t) n ((roles_of setting t).whole site) (omega arith) (all.1.0.whole site)

  seconds_within : (ts : List Tree) → AllByRecursion Reaches ts → (n : ℕ) (site : Site) → site_reach site + count_all ts ≤ n → AllWithin n (seconds_read (beside setting ts) site)
  seconds_within [] all n site le = omega arith
  seconds_within (t ∷ ts) all n site le = by ((roles_of setting t).second site) (all.0.second site) (seconds_read (beside setting ts) site) (seconds_within ts all.1 n site (omega arith))
    where
      by : (r : Reading Typed) → Within (site_reach site + count t) r → (rs : Reading (List Typed)) → AllWithin n rs → AllWithin n (r >>> (λ first. rs >>> (λ rest. Ok (first ∷ rest))))
      by (Ok first) one (Ok rest) more = omega arith
      by (Ok first) one (Err fault) more = tt
      by (Err fault) one rs more = tt

  of_group : (place : ℕ) (ts : List Tree) → AllByRecursion Reaches ts → ReachesSo (count (tree.Group place ts)) (record {
    whole = group_read setting place (beside setting ts);
    second = second_read (beside setting ts);
    seconds = seconds_read (beside setting ts);
  })
  of_group place ts all =
      let counts = count-Group place ts in
      record {
        whole = λ site. group_within ts all (site_reach site + count (tree.Group place ts)) place site (omega arith);
        second = λ site. second_within ts all (site_reach site + count (tree.Group place ts)) site (omega arith);
        seconds = λ site. seconds_within ts all (site_reach site + count (tree.Group place ts)) site (omega arith);
      }

  pub reaches : (t : Tree) → Reaches t
  reaches = tree_ind Reaches (record {
    symbol = λ place name.
        let n = count (tree.Symbol place name) in
        of_roles (tree.Symbol place name) (alone (symbol_read setting place name)) (roles-Symbol setting place name)
        (of_alone n (symbol_read setting place name) (λ site.
        wider (site_reach site) (site_reach site + n) (symbol_read setting place name site) (omega arith) (symbol_within setting place name site)));
    word = λ place word.
        let n = count (tree.Word place word) in
        of_roles (tree.Word place word) (alone (λ site. lone_word place word)) (roles-Word setting place word)
        (of_alone n (λ site. lone_word place word) (λ site.
        either (site_reach site + n) (bytes_eq word (codes "match")) (faulty place NotSupported word) (faulty place BadCommand []) tt tt));
    keyword = λ place word.
        of_roles (tree.Keyword place word) (alone (λ site. faulty place BadCommand [])) (roles-Keyword setting place word)
        (of_alone (count (tree.Keyword place word)) (λ site. faulty place BadCommand []) (λ site. tt));
    numeral = λ place m.
        let n = count (tree.Numeral place m) in
        of_roles (tree.Numeral place m) (alone (λ site. Ok (number m))) (roles-Numeral setting place m)
        (of_alone n (λ site. Ok (number m)) (λ site. number_within (site_reach site + n) m));
    text = λ place bytes.
        of_roles (tree.Text place bytes) (alone (λ site. unsupported (tree.Text place bytes))) (roles-Text setting place bytes)
        (of_alone (count (tree.Text place bytes)) (λ site. unsupported (tree.Text place bytes)) (λ site. tt));
    other = λ place token.
        of_roles (tree.Other place token) (alone (λ site. unsupported (tree.Other place token))) (roles-Other setting place token)
        (of_alone (count (tree.Other place token)) (λ site. unsupported (tree.Other place token)) (λ site. tt));
    group = λ place ts all. of_roles (tree.Group place ts) (record {
      whole = group_read setting place (beside setting ts);
      second = second_read (beside setting ts);
      seconds = seconds_read (beside setting ts);
    }) (roles-Group setting place ts) (of_group place ts all);
  })
