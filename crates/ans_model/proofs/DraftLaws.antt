-- What is kept while definitions are added, and what it comes to at the end.
use Rattle.std.proofs.Common.{◌≡◌, ◌≢◌, ◌⊎◌, inl, inr, ◌≤◌, ◌<◌, ◌+◌, ◌&&◌, not, ℕ, zero, suc, Bool, true, false, nat_lt, List, [], ◌∷◌, ◌++◌, length, map, take, drop, get_or, set, slice_get, Option, Some, None, Result, Ok, Err, refl, ap, sym, subst, ◌∙◌, arith, length-set, codes}
use Rattle.std.specs.Prelude.{IfOk}
use Rattle.std.specs.List.{list_all}
use Rattle.std.specs.Str.{bytes_eq}
use Rattle.std.proofs.lemmas.Bool.{cases_eq, and_parts}
use Rattle.std.proofs.lemmas.List.{length-map, map_push, take_all}
use Rattle.std.proofs.lemmas.Option.{slice_get_within}
use Rattle.chc_sorts.specs.declared.sort.Sort.{Sort}
use Rattle.chc_sorts.specs.declared.sort.Sort.TheVariants as sort
use Rattle.chc_sorts.specs.Names.{look_up}
use Rattle.chc_sorts.specs.Sorts.{same_sort, same_sorts, sort_fits}
use Rattle.chc_sorts.proofs.SameSort.{same_from_test, same_sorts_from_test}
use Rattle.chc_sexpr.specs.declared.tree.Tree.{Tree, out-Tree}
use Rattle.chc_sexpr.specs.declared.fault.TextErr.{TextErr}
use Rattle.chc_sexpr.specs.declared.fault.Fault.TheVariants.{BadForm, TooMany, WrongParams, WrongSort}
use Rattle.chc_terms.specs.declared.fun_sort.FunSort.{FunSort}
use Rattle.chc_terms.specs.Sorted.{Context, sort_of, sorts_fit}
use Rattle.chc_elab.specs.declared.symbols.Symbol.{Symbol}
use Rattle.chc_elab.specs.declared.symbols.Symbol.TheVariants as symbol
use Rattle.chc_elab.specs.declared.sorted_term.SortedTerm.{SortedTerm}
use Rattle.chc_elab.specs.Binders.{apart_after, pair_names, second_trees, sorts_of_trees}
use Rattle.chc_elab.specs.Heads.{sort_tree}
use Rattle.chc_elab.specs.Reads.{elaborated_with_sort}
use Rattle.chc_elab.specs.Sites.{Setting, Tells, ◌>>>◌}
use Rattle.chc_elab.specs.SortTrees.{place_at}
use Rattle.chc_elab.specs.WellRead.{Declares}
use Rattle.chc_elab.proofs.Readings.{bind_ok, chosen, cond_else_ok, cond_ok, err_ok, none_some, ok_same, some_same}
use Rattle.chc_elab.proofs.ReadsWell.{reads_well}
use Rattle.chc_elab.proofs.SortedReads.{all_spelled_fit}
use Rattle.chc_elab.proofs.SpelledSorts.{spelled_fits}
use Rattle.chc_state.specs.declared.clause.PredDecl.{PredDecl}
use Rattle.chc_state.specs.declared.defs.Def.{Def}
use Rattle.chc_state.specs.declared.defs.Defs.{Defs}
use Rattle.chc_state.specs.Definitions.{DefinedAs, Defines, IsDefinition, IsPredicateOf, context_before, fun_sort}
use Rattle.chc_state.specs.States.{StateView}
use Rattle.chc_state.proofs.Appended.{IsDefinition-longer}
use Rattle.chc_state.proofs.Places.{at-changed, at-end, at-longer, at-map, at-unchanged, beside-at, end-at, mapped-at, one_element, same_element}
use Rattle.ans_model.specs.declared.draft.Draft.{Draft}
use Rattle.ans_model.specs.Answers.{all_defined, defined, defined_by}
use Rattle.ans_model.specs.Defining.{closed, definition, new_name}
use Rattle.ans_model.specs.Drafted.{IsDrafted, IsEntry, symbols_from}
use Rattle.ans_model.specs.Drafts.{TargetView, fresh, held, is_defined, missing_from, most_definitions, no_entries, owner, owner_from, placed, setting, suits, with_definition, with_entry}
use Rattle.ans_model.specs.Forms.{FormView, definition_form}
use Rattle.ans_model.proofs.FormLaws.{from_item}

-- a definition that is read: its sorts fit, and its body is of its sort wherever what it calls is there
pub record IsReadIn (in_setting : Setting) (def : Def) : Type 0 where
  pub params_fit : list_all (sort_fits in_setting.sig) def.params ≡ true
  pub result_fits : sort_fits in_setting.sig def.result ≡ true
  pub body_fits : sorts_fit in_setting.sig def.body ≡ true
  pub sorted : (cx : Context) → Declares cx in_setting → sort_of cx def.body def.params ≡ Some def.result

closed_read : (in_setting : Setting) (place : ℕ) (names : List (List ℕ)) (params : List Sort) (values : Sort) (tree : Tree) (body : SortedTerm) (def : Def)
    → list_all (sort_fits in_setting.sig) params ≡ true → sort_fits in_setting.sig values ≡ true → elaborated_with_sort in_setting names params tree ≡ Ok body
    → closed place params values body ≡ Ok def → IsReadIn in_setting def
closed_read in_setting place names params values tree body def fit fits read h =
    let made = cond_ok (same_sort body.sort values) (Ok (record { params = params; result = values; body = body.term })) (record { place = place; fault = WrongSort; name = [] }) def h in
    let well = reads_well in_setting names params tree body read in
    subst (IsReadIn in_setting) (ok_same (record { params = params; result = values; body = body.term }) def made.1) (record {
      params_fit = fit;
      result_fits = fits;
      body_fits = well.fitting_sorts;
      sorted = λ cx declares. well.well_sorted cx declares ∙ ap (λ s. Some s) (same_from_test body.sort values made.0);
    })

definition_read : (in_setting : Setting) (place : ℕ) (f : FormView) (def : Def) → definition in_setting place f ≡ Ok def → IsReadIn in_setting def
definition_read in_setting place f def h =
    let (names, _, named) = bind_ok (apart_after [] (pair_names f.params)) _ def h in
    let (params, spelled, more) = bind_ok (sorts_of_trees in_setting (second_trees f.params)) _ def named in
    let (values, valued, rest) = bind_ok (sort_tree in_setting f.values) _ def more in
    let (body, read, last) = bind_ok (elaborated_with_sort in_setting names params f.body) _ def rest in
    closed_read in_setting place names params values f.body body def (all_spelled_fit in_setting (second_trees f.params) params spelled) (spelled_fits in_setting f.values values valued) read last

-- a name that is found stands for the definition of its row
first_same : {X : Type 0} (x y : X) (xs ys : List X) → x ∷ xs ≡ y ∷ ys → x ≡ y
first_same x y xs ys e = cc

rest_same : {X : Type 0} (x y : X) (xs ys : List X) → x ∷ xs ≡ y ∷ ys → xs ≡ ys
rest_same x y xs ys e = cc

some_none : {X : Type 0} (x : X) (xs : List X) → x ∷ xs ≡ [] → ⊥
some_none x xs e = cc

row_found : (rows : List (List ℕ × Symbol)) (n : ℕ) (defs : List Def) (name : List ℕ) (s : Symbol) → map (λ (row : List ℕ × Symbol). row.1) rows ≡ symbols_from n defs
    → look_up rows name ≡ Some s → (k : ℕ) × (def : Def) × (slice_get defs k ≡ Some def) × (symbol.Def (n + k) (fun_sort def) ≡ s)
row_found [] n defs name s tabled h = absurd (none_some s h)
row_found (row ∷ rows) n [] name s tabled h = absurd (some_none row.1 _ tabled)
row_found (row ∷ rows) n (def ∷ defs) name s tabled h =
    by (row_found rows (n + 1) defs name s (rest_same row.1 (symbol.Def n (fun_sort def)) _ _ tabled)) (chosen (bytes_eq row.0 name) (Some row.1) (look_up rows name) (Some s) h)
  where
    later : (k : ℕ) × (e : Def) × (slice_get defs k ≡ Some e) × (symbol.Def (n + 1 + k) (fun_sort e) ≡ s)
        → (k : ℕ) × (e : Def) × (slice_get (def ∷ defs) k ≡ Some e) × (symbol.Def (n + k) (fun_sort e) ≡ s)
    later (k, e, at, is) = let same : n + suc k ≡ n + 1 + k = omega arith in (suc k, e, at, ap (λ j. symbol.Def j (fun_sort e)) same ∙ is)

    by : (look_up rows name ≡ Some s → (k : ℕ) × (e : Def) × (slice_get defs k ≡ Some e) × (symbol.Def (n + 1 + k) (fun_sort e) ≡ s))
        → ((bytes_eq row.0 name ≡ true) × (Some row.1 ≡ Some s)) ⊎ ((bytes_eq row.0 name ≡ false) × (look_up rows name ≡ Some s))
        → (k : ℕ) × (e : Def) × (slice_get (def ∷ defs) k ≡ Some e) × (symbol.Def (n + k) (fun_sort e) ≡ s)
    by rest (inl (is, same)) =
        let none : n + 0 ≡ n = omega arith in
        (0, def, refl, ap (λ j. symbol.Def j (fun_sort def)) none ∙ sym (first_same row.1 (symbol.Def n (fun_sort def)) _ _ tabled) ∙ some_same row.1 s same)
    by rest (inr (is, found)) = later (rest found)

no_pred : (k p : ℕ) (f : FunSort) (sorts : List Sort) → symbol.Def k f ≡ symbol.Pred p sorts → ⊥
no_pred k p f sorts e = cc

same_def : (k j : ℕ) (f g : FunSort) → symbol.Def k f ≡ symbol.Def j g → (k ≡ j) × (f ≡ g)
same_def k j f g e = (cc, cc)

-- what a body calls are the definitions before it
draft_declares : (t : TargetView) (d : Draft) → IsDrafted t.state d → Declares (context_before t.state.sig d.defs.list (length d.defs.list)) (setting t d)
draft_declares t d drafted =
    record {
      sig = refl;
      preds = λ name p sorts h.
          let (k, def, at, is) = row_found d.symbols 0 d.defs.list name (symbol.Pred p sorts) drafted.tabled h in
          absurd (no_pred (0 + k) p (fun_sort def) sorts is);
      defs = λ name j f h.
          let (k, def, at, is) = row_found d.symbols 0 d.defs.list name (symbol.Def j f) drafted.tabled h in
          let (number, sorts) = same_def (0 + k) j (fun_sort def) f is in
          let same : k ≡ j = omega arith in
          let low : length d.defs.list ≤ length d.defs.list = omega arith in
          ap (slice_get (map fun_sort (take (length d.defs.list) d.defs.list))) (sym same)
          ∙ ap (λ (l : List Def). slice_get (map fun_sort l) k) (take_all (length d.defs.list) d.defs.list low)
          ∙ at-map fun_sort d.defs.list k def at
          ∙ ap (λ g. Some g) sorts;
    }

-- and so a definition that is read behind them is one of the list
next_definition : (t : TargetView) (d : Draft) (def : Def) → IsDrafted t.state d → IsReadIn (setting t d) def
    → IsDefinition t.state.sig (d.defs.list ++ def ∷ []) (length d.defs.list) def
next_definition t d def drafted read =
    let low : length d.defs.list ≤ length d.defs.list = omega arith in
    IsDefinition-longer t.state.sig d.defs.list (def ∷ []) (length d.defs.list) def low (record {
      params_fit = read.params_fit;
      result_fits = read.result_fits;
      body_fits = read.body_fits;
      sorted = read.sorted (context_before t.state.sig d.defs.list (length d.defs.list)) (draft_declares t d drafted);
    })

symbols_more : (n : ℕ) (defs : List Def) (def : Def) → symbols_from n (defs ++ def ∷ []) ≡ symbols_from n defs ++ symbol.Def (n + length defs) (fun_sort def) ∷ []
symbols_more n [] def = let none : n ≡ n + 0 = omega arith in ap (λ j. symbol.Def j (fun_sort def) ∷ []) none
symbols_more n (e ∷ defs) def =
    let same : n + 1 + length defs ≡ n + length (e ∷ defs) = omega arith in
    ap (λ l. symbol.Def n (fun_sort e) ∷ l)
    (symbols_more (n + 1) defs def ∙ ap (λ j. symbols_from (n + 1) defs ++ symbol.Def j (fun_sort def) ∷ []) same)

zero_more : (n : ℕ) → n ≡ 0 + n
zero_more n = omega arith

entry_longer : (defs : List Def) (def : Def) (decl : PredDecl) (o : Option ℕ) → IsEntry defs decl o → IsEntry (defs ++ def ∷ []) decl o
entry_longer defs def decl None h = tt
entry_longer defs def decl (Some k) (live, e, at, is) = (live, e, at-longer defs (def ∷ []) k e at, is)

module _ (s : StateView) (d : Draft) (name : List ℕ) (def : Def) (drafted : IsDrafted s d) (next : IsDefinition s.sig (d.defs.list ++ def ∷ []) (length d.defs.list) def) where
  -- with one more definition, which is no predicate's
  helper_kept : IsDrafted s (with_definition d name def)
  helper_kept =
      record {
        tabled =
            map_push (λ (row : List ℕ × Symbol). row.1) d.symbols (name, symbol.Def (length d.defs.list) (fun_sort def))
            ∙ ap (λ l. l ++ symbol.Def (length d.defs.list) (fun_sort def) ∷ []) drafted.tabled
            ∙ ap (λ j. symbols_from 0 d.defs.list ++ symbol.Def j (fun_sort def) ∷ []) (zero_more (length d.defs.list))
            ∙ sym (symbols_more 0 d.defs.list def);
        entries = drafted.entries;
        each = λ p decl o at entry. entry_longer d.defs.list def decl o (drafted.each p decl o at entry);
        apart = drafted.apart;
        definitions = λ k e at. elim (end-at d.defs.list def k e at) [
          | inl h ↦ (let below : k ≤ length d.defs.list = omega (arith, h.0) in IsDefinition-longer s.sig d.defs.list (def ∷ []) k e below (drafted.definitions k e h.1))
          | inr h ↦
              subst (λ (x : Def). IsDefinition s.sig (d.defs.list ++ def ∷ []) k x) h.1 (subst (λ j. IsDefinition s.sig (d.defs.list ++ def ∷ []) j def) (sym h.0) next)
        ];
      }

  module _ (p : ℕ) (decl : PredDecl) (here : slice_get s.preds p ≡ Some decl) (live : decl.live ≡ true) (of_decl : IsPredicateOf decl.sorts def) where
    abbrev number : ℕ
    number = length d.defs.list

    abbrev changed : List (Option ℕ)
    changed = set d.defs.of p (Some (length d.defs.list))

    inside : p < length d.defs.of
    inside = let at = slice_get_within s.preds p decl here in omega (arith, drafted.entries)

    now : slice_get changed p ≡ Some (Some number)
    now = at-changed d.defs.of p (Some (length d.defs.list)) inside

    old : (q : ℕ) (o : Option ℕ) → q ≢ p → slice_get changed q ≡ Some o → slice_get d.defs.of q ≡ Some o
    old q o ne at = sym (at-unchanged d.defs.of p q (Some (length d.defs.list)) ne) ∙ at

    -- an entry before is that of an earlier definition
    below : (q k : ℕ) → slice_get d.defs.of q ≡ Some (Some k) → k < number
    below q k at =
        let (decl', there) = beside-at d.defs.of s.preds q (Some k) (sym drafted.entries) at in
        let (alive, e, is, of_e) = drafted.each q decl' (Some k) there at in
        slice_get_within d.defs.list k e is

    last : (q k : ℕ) → q ≡ p → slice_get changed q ≡ Some (Some k) → k ≡ number
    last q k same at = same_element k number (one_element (Some k) (Some number) (ap (slice_get changed) (sym same) ∙ at) now)

    -- with one more definition, which is that of the predicate
    predicate_kept : IsDrafted s (with_definition (with_entry d p) name def)
    predicate_kept =
        record {
          tabled = helper_kept.tabled;
          entries = length-set d.defs.of p (Some (length d.defs.list)) ∙ drafted.entries;
          each = each;
          apart = apart;
          definitions = helper_kept.definitions;
        }
      where
        each : (q : ℕ) (decl' : PredDecl) (o : Option ℕ) → slice_get s.preds q ≡ Some decl' → slice_get changed q ≡ Some o → IsEntry (d.defs.list ++ def ∷ []) decl' o
        each q decl' o at entry = elim (cases_eq q p) [
          | inl same ↦
              let is : decl ≡ decl' = one_element decl decl' here (ap (slice_get s.preds) (sym same) ∙ at) in
              let is_last : Some number ≡ o = one_element (Some number) o now (ap (slice_get changed) (sym same) ∙ entry) in
              let made : IsEntry (d.defs.list ++ def ∷ []) decl (Some number) = (live, def, at-end d.defs.list def, of_decl) in
              subst (λ (x : PredDecl). IsEntry (d.defs.list ++ def ∷ []) x o) is (subst (λ (x : Option ℕ). IsEntry (d.defs.list ++ def ∷ []) decl x) is_last made)
          | inr ne ↦ entry_longer d.defs.list def decl' o (drafted.each q decl' o at (old q o ne entry))
        ]

        apart : (q r k : ℕ) → slice_get changed q ≡ Some (Some k) → slice_get changed r ≡ Some (Some k) → q ≡ r
        apart q r k f g = elim (cases_eq q p) [
          | inl same ↦ elim (cases_eq r p) [
            | inl too ↦ same ∙ sym too
            | inr ne ↦ (let is_last = last q k same f in let low = below r k (old r (Some k) ne g) in absurd (omega arith))
          ]
          | inr ne ↦ elim (cases_eq r p) [
            | inl same ↦ (let is_last = last r k same g in let low = below q k (old q (Some k) ne f) in absurd (omega arith))
            | inr too ↦ drafted.apart q r k (old q (Some k) ne f) (old r (Some k) too g)
          ]
        ]

-- the predicate of a name is live
owner_live : (n : ℕ) (names : List (List ℕ)) (decls : List PredDecl) (name : List ℕ) (p : ℕ) → owner_from n names decls name ≡ Some p
    → (k : ℕ) × (decl : PredDecl) × (p ≡ n + k) × (slice_get decls k ≡ Some decl) × (decl.live ≡ true)
owner_live n [] decls name p h = absurd (none_some p h)
owner_live n (first ∷ names) [] name p h = absurd (none_some p h)
owner_live n (first ∷ names) (decl ∷ decls) name p h =
    by (owner_live (n + 1) names decls name p) (chosen (decl.live && bytes_eq first name) (Some n) (owner_from (n + 1) names decls name) (Some p) h)
  where
    later : (k : ℕ) × (e : PredDecl) × (p ≡ n + 1 + k) × (slice_get decls k ≡ Some e) × (e.live ≡ true)
        → (k : ℕ) × (e : PredDecl) × (p ≡ n + k) × (slice_get (decl ∷ decls) k ≡ Some e) × (e.live ≡ true)
    later (k, e, is, at, alive) = let same : p ≡ n + suc k = omega (arith, is) in (suc k, e, same, at, alive)

    by : (owner_from (n + 1) names decls name ≡ Some p → (k : ℕ) × (e : PredDecl) × (p ≡ n + 1 + k) × (slice_get decls k ≡ Some e) × (e.live ≡ true))
        → (((decl.live && bytes_eq first name) ≡ true) × (Some n ≡ Some p)) ⊎ (((decl.live && bytes_eq first name) ≡ false) × (owner_from (n + 1) names decls name ≡ Some p))
        → (k : ℕ) × (e : PredDecl) × (p ≡ n + k) × (slice_get (decl ∷ decls) k ≡ Some e) × (e.live ≡ true)
    by rest (inl (both, same)) = let is = some_same n p same in let number : p ≡ n + 0 = omega (arith, is) in (0, decl, number, refl, (and_parts decl.live (bytes_eq first name) both).0)
    by rest (inr (other, found)) = later (rest found)

suits_decl : (decl : PredDecl) (def : Def) → suits (Some decl) def ≡ true → IsPredicateOf decl.sorts def
suits_decl decl def h =
    let tests = and_parts (same_sorts def.params decl.sorts) (same_sort def.result sort.Bool) h in
    record { params = same_sorts_from_test def.params decl.sorts tests.0; result = same_from_test def.result sort.Bool tests.1 }

placed_kept : (t : TargetView) (d : Draft) (place : ℕ) (name : List ℕ) (def : Def) (o : Option ℕ) (e : Draft) → IsDrafted t.state d
    → IsDefinition t.state.sig (d.defs.list ++ def ∷ []) (length d.defs.list) def → owner t name ≡ o → placed t d place name def o ≡ Ok e → IsDrafted t.state e
placed_kept t d place name def None e drafted next owned h = subst (IsDrafted t.state) (ok_same (with_definition d name def) e h) (helper_kept t.state d name def drafted next)
placed_kept t d place name def (Some p) e drafted next owned h =
    let (k, decl, is, at, live) = owner_live 0 t.names t.state.preds name p owned in
    let same : p ≡ k = omega arith in
    let here : slice_get t.state.preds p ≡ Some decl = ap (slice_get t.state.preds) same ∙ at in
    let made =
    cond_ok (suits (slice_get t.state.preds p) def) (Ok (with_definition (with_entry d p) name def)) (record { place = place; fault = WrongParams; name = name }) e h in
    let test = sym (ap (λ (x : Option PredDecl). suits x def) here) ∙ made.0 in
    subst (IsDrafted t.state) (ok_same (with_definition (with_entry d p) name def) e made.1) (predicate_kept t.state d name def drafted next p decl here live (suits_decl decl def test))

defined_kept : (t : TargetView) (d : Draft) (place : ℕ) (f : FormView) (e : Draft) → IsDrafted t.state d → defined t d place f ≡ Ok e → IsDrafted t.state e
defined_kept t d place f e drafted h =
    let (_, _, more) = bind_ok (new_name (setting t d) place f.name) _ e h in
    let (def, read, rest) = bind_ok (definition (setting t d) place f) _ e more in
    placed_kept t d place f.name def (owner t f.name) e drafted (next_definition t d def drafted (definition_read (setting t d) place f def read)) refl rest

-- what is kept is kept with the definition of one more tree
pub next_kept : (t : TargetView) (d : Draft) (tree : Tree) (o : Option FormView) (e : Draft) → IsDrafted t.state d → defined_by t d tree o ≡ Ok e → IsDrafted t.state e
next_kept t d tree None e drafted h = absurd (err_ok (record { place = place_at (out-Tree tree); fault = BadForm; name = [] }) e h)
next_kept t d tree (Some f) e drafted h = defined_kept t d (place_at (out-Tree tree)) f e drafted h

-- before the first definition
no_entry : (preds : List PredDecl) (p : ℕ) (o : Option ℕ) → slice_get (no_entries preds) p ≡ Some o → None ≡ o
no_entry preds p o h = let (decl, at, is) = mapped-at (λ (x : PredDecl). None) preds p o h in is

fresh_kept : (t : TargetView) → IsDrafted t.state (fresh t)
fresh_kept t = record {
  tabled = refl;
  entries = length-map t.state.preds (λ (x : PredDecl). None);
  each = λ p decl o at entry. subst (IsEntry [] decl) (no_entry t.state.preds p o entry) tt;
  apart = λ p q k at there. absurd (none_some k (no_entry t.state.preds p (Some k) at));
  definitions = λ k def at. absurd (none_some def at);
}

-- where no live predicate is missing, each has a definition
none_missing : (of : List (Option ℕ)) (n : ℕ) (decls : List PredDecl) (k : ℕ) (decl : PredDecl) → missing_from of n decls ≡ None → slice_get decls k ≡ Some decl
    → (decl.live && not (is_defined (slice_get of (n + k)))) ≡ false
none_missing of n [] k decl h at = absurd (none_some decl at)
none_missing of n (first ∷ decls) k decl h at =
    by (λ j e g. none_missing of (n + 1) decls j decl e g) (chosen (first.live && not (is_defined (slice_get of n))) (Some n) (missing_from of (n + 1) decls) None h) k at
  where
    here : {X : Type 0} (x : X) → Some x ≡ None → ⊥
    here x e = cc

    by : ((j : ℕ) → missing_from of (n + 1) decls ≡ None → slice_get decls j ≡ Some decl → (decl.live && not (is_defined (slice_get of (n + 1 + j)))) ≡ false)
        → (((first.live && not (is_defined (slice_get of n))) ≡ true) × (Some n ≡ None)) ⊎ (((first.live && not (is_defined (slice_get of n))) ≡ false) × (missing_from of (n + 1) decls ≡ None))
        → (k : ℕ) → slice_get (first ∷ decls) k ≡ Some decl → (decl.live && not (is_defined (slice_get of (n + k)))) ≡ false
    by later (inl (is, e)) k at = absurd (here n e)
    by later (inr (is, rest)) zero at =
        let none : n + 0 ≡ n = omega arith in
        ap (λ (x : PredDecl). x.live && not (is_defined (slice_get of (n + 0)))) (sym (some_same first decl at)) ∙ ap (λ j. first.live && not (is_defined (slice_get of j))) none ∙ is
    by later (inr (is, rest)) (suc k) at =
        let same : n + suc k ≡ n + 1 + k = omega arith in
        ap (λ j. decl.live && not (is_defined (slice_get of j))) same ∙ later k rest at

not_live : (b : Bool) (e : Option ℕ) (o : Option (Option ℕ)) → o ≡ Some e → e ≡ None → (b && not (is_defined o)) ≡ false → b ≡ false
not_live true e o at none h = sym (ap (λ x. not (is_defined x)) (at ∙ ap (λ y. Some y) none)) ∙ h
not_live false e o at none h = refl

as_defined : (defs : List Def) (decl : PredDecl) (o : Option ℕ) → (o ≡ None → decl.live ≡ false) → IsEntry defs decl o → DefinedAs defs decl o
as_defined defs decl None dead h = dead refl
as_defined defs decl (Some k) dead h = h

drafted_defines : (t : TargetView) (d : Draft) → IsDrafted t.state d → missing_from d.defs.of 0 t.state.preds ≡ None → Defines d.defs t.state
drafted_defines t d drafted h = record {
  entries = drafted.entries;
  each = λ p decl o at entry.
      as_defined d.defs.list decl o
      (λ none. not_live decl.live o (slice_get d.defs.of p) entry none (ap (λ j. decl.live && not (is_defined (slice_get d.defs.of j))) (zero_more p) ∙ none_missing d.defs.of 0 t.state.preds p decl h at))
      (drafted.each p decl o at entry);
  apart = drafted.apart;
  definitions = drafted.definitions;
}

held_defines : (t : TargetView) (place : ℕ) (d : Draft) (e : Defs) → IsDrafted t.state d → missing_from d.defs.of 0 t.state.preds ≡ None → held place d.defs ≡ Ok e → Defines e t.state
held_defines t place d e drafted none h =
    let made = cond_else_ok (nat_lt most_definitions (length d.defs.list)) (Ok d.defs) (record { place = place; fault = TooMany; name = codes "L7" }) e h in
    subst (λ (x : Defs). Defines x t.state) (ok_same d.defs e made.1) (drafted_defines t d drafted none)

-- what an answer comes to at its end, where it comes to definitions, defines the live predicates
pub told_defines : (t : TargetView) (place : ℕ) (d : Draft) (r : Result Defs TextErr) → IsDrafted t.state d → missing_from d.defs.of 0 t.state.preds ≡ None
    → Tells r (held place d.defs) → IfOk r (λ e. Defines e t.state)
told_defines t place d (Ok e) drafted none h = held_defines t place d e drafted none (sym h)
told_defines t place d (Err why) drafted none h = tt

-- before the first definition, by its parts
pub fresh_from : (t : TargetView) (symbols : List (List ℕ × Symbol)) (list : List Def) (of : List (Option ℕ)) → symbols ≡ [] → list ≡ [] → of ≡ no_entries t.state.preds
    → IsDrafted t.state (record { symbols = symbols; defs = record { list = list; of = of } })
fresh_from t symbols list of e f g = subst (IsDrafted t.state) (λ i. record { symbols = sym e i; defs = record { list = sym f i; of = sym g i } }) (fresh_kept t)

-- the definitions of trees from a place on, with that of the tree there
pub defined_next : (t : TargetView) (d next : Draft) (trees : List Tree) (i : ℕ) (tree : Tree) → i < length trees → tree ≡ get_or trees i tree
    → Ok next ≡ defined_by t d tree (definition_form tree) → all_defined t next (drop (i + 1) trees) ≡ all_defined t d (drop i trees)
defined_next t d next trees i tree low is made =
    ap (λ r. r >>> (λ e. all_defined t e (drop (i + 1) trees))) made ∙ ap (all_defined t d) (sym (from_item trees i tree low is))
