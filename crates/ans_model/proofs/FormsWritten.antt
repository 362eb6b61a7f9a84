-- The line of a definition is written as a tree that is read as the definition.
use Rattle.std.proofs.Common.{◌≡◌, ◌∙◌, sym, ap, refl, ℕ, ◌+◌, ◌≤◌, ◌^◌, true, false, cond, List, [], ◌∷◌, ◌++◌, length, Some, None, Ok, codes, append_assoc, arith}
use Rattle.std.specs.List.{list_all}
use Rattle.chc_sorts.specs.declared.sort.Sort.{Sort}
use Rattle.chc_sorts.specs.Sorts.{sort_fits}
use Rattle.chc_sorts.proofs.SameSort.{same_itself}
use Rattle.chc_sexpr.specs.Shapes.{symbol_of, group_of, is_name}
use Rattle.chc_sexpr.specs.Spelling.{is_quotable}
use Rattle.chc_sexpr.specs.Symbols.{symbol_text}
use Rattle.chc_sexpr.specs.Writing.{joined}
use Rattle.chc_sexpr.specs.declared.fault.Fault.TheVariants.{BadCommand, WrongSort}
use Rattle.chc_sexpr.specs.declared.tree.Tree.{Tree}
use Rattle.chc_sexpr.specs.declared.tree.Tree.TheVariants.{Group}
use Rattle.chc_sexpr.proofs.Written.{Writes, no_more_at}
use Rattle.chc_elab.specs.Binders.{apart_after, are_pairs, pair_names, second_trees, sorts_of_trees}
use Rattle.chc_elab.specs.Heads.{sort_tree}
use Rattle.chc_elab.specs.Reads.{elaborated_with_sort}
use Rattle.chc_elab.specs.Sites.{Setting, faulty, ◌>>>◌}
use Rattle.chc_elab.specs.Stands.{Binds}
use Rattle.chc_elab.specs.Stands as stands
use Rattle.chc_elab.proofs.PairLaws.{names_bound, pairs_told}
use Rattle.chc_elab.proofs.Readings.{cond_ok}
use Rattle.chc_elab.proofs.ShapeLaws.{symbol_of-Symbol, group_of-Group}
use Rattle.chc_print.specs.Prefix.{marked}
use Rattle.chc_print.specs.Texts.{Names, binder_texts, sort_text, term_text}
use Rattle.chc_state.specs.declared.defs.Def.{Def}
use Rattle.term_again.specs.Naming.{NamesAreRead, variable_names}
use Rattle.term_again.proofs.TermBinders.{binders_write}
use Rattle.term_again.proofs.TermSorts.{fitting_sort_written}
use Rattle.term_again.proofs.TermTrees.{Begins, IsNone, IsSymbolOf, bare_writes, begin_at, group_writes, last_at, name_writes, writes_wider}
use Rattle.ans_model.specs.Defining.{closed, definition}
use Rattle.ans_model.specs.Forms.{FormView, definition_form, form_of_group, form_with_name, form_with_params}
use Rattle.ans_model.specs.Texts.{definition_text}

-- ---- the form of a tree

-- the tree has the form of a definition of that name, whose body is of the kind
pub record IsDefinitionTree (over : Setting) (prefix name : List ℕ) (def : Def) (Body : Tree → Type 0) (tree : Tree) : Type 0 where
  pub form : FormView
  pub is : definition_form tree ≡ Some form
  pub named : form.name ≡ name
  pub params_named : apart_after [] (pair_names form.params) ≡ Ok (variable_names prefix 0 def.params)
  pub params : sorts_of_trees over (second_trees form.params) ≡ Ok def.params
  pub values : sort_tree over form.values ≡ Ok def.result
  pub body : Body form.body

symbol_named : (name : List ℕ) (tree : Tree) → IsSymbolOf name tree → symbol_of tree ≡ Some name
symbol_named name tree is = ap symbol_of is.1 ∙ symbol_of-Symbol is.0 name

form_is : (place : ℕ) (a b c d e : Tree) (name : List ℕ) (ps : List Tree) → IsSymbolOf (codes "define-fun") a → IsSymbolOf name b → group_of c ≡ Some ps → are_pairs ps ≡ true
    → definition_form (Group place (a ∷ b ∷ c ∷ d ∷ e ∷ [])) ≡ Some (record { name = name; params = ps; values = d; body = e })
form_is place a b c d e name ps word named group pairs =
    ap form_of_group (group_of-Group place (a ∷ b ∷ c ∷ d ∷ e ∷ []))
    ∙ ap (λ o. cond (is_name (codes "define-fun") o) (form_with_name c d e (symbol_of b)) None) (symbol_named (codes "define-fun") a word)
    ∙ ap (form_with_name c d e) (symbol_named name b named)
    ∙ ap (form_with_params name d e) group
    ∙ ap (λ t. cond t (Some (record { name = name; params = ps; values = d; body = e })) None) pairs

-- ---- parameters

-- what is told of a list of parameters
record ParamsTold (names : List (List ℕ)) (seconds : List Tree) (tree : Tree) : Type 0 where
  pairs : List Tree
  group : group_of tree ≡ Some pairs
  are : are_pairs pairs ≡ true
  named : apart_after [] (pair_names pairs) ≡ Ok names
  behind : second_trees pairs ≡ seconds

params_told : (names : List (List ℕ)) (seconds : List Tree) (tree : Tree) → Binds tree names seconds → ParamsTold names seconds tree
params_told names seconds tree (stands.binds place pairs names' seconds' are apart) =
    let told = pairs_told pairs names' seconds' are in
    record {
      pairs = pairs;
      group = group_of-Group place pairs;
      are = told.pairs;
      named = (cond_ok (are_pairs pairs) (apart_after [] (pair_names pairs)) (record { place = place; fault = BadCommand; name = [] }) names' (names_bound place pairs names' seconds' are apart)).1;
      behind = told.behind;
    }

-- the tree is a list of parameters of these sorts
abbrev pub AreParamsOf : Setting → List ℕ → List Sort → Tree → Type 0
AreParamsOf over prefix params tree = (seconds : List Tree) × Binds tree (variable_names prefix 0 params) seconds × (sorts_of_trees over seconds ≡ Ok params)

no_params : (over : Setting) (prefix : List ℕ) (place : ℕ) (trees : List Tree) → IsNone trees → AreParamsOf over prefix [] (Group place trees)
no_params over prefix place [] h = ([], stands.binds place [] [] [] stands.no_pair refl, refl)
no_params over prefix place (t ∷ ts) h = absurd h

-- ---- what a form is read as

closed_is : (place : ℕ) (def : Def) → closed place def.params def.result (record { term = def.body; sort = def.result }) ≡ Ok def
closed_is place def = ap (λ b. cond b (Ok def) (faulty place WrongSort [])) (same_itself def.result)

module _ (over : Setting) (prefix : List ℕ) (def : Def) where
  -- the tree is read as the body, under the parameters
  abbrev pub IsBody : Tree → Type 0
  IsBody tree = elaborated_with_sort over (variable_names prefix 0 def.params) def.params tree ≡ Ok (record { term = def.body; sort = def.result })

  -- the form is read as the definition, whatever its place
  pub form_reads : (name : List ℕ) (tree : Tree) (t : IsDefinitionTree over prefix name def IsBody tree) (place : ℕ) → definition over place t.form ≡ Ok def
  form_reads name tree t place =
      let f = t.form in
      let names : List (List ℕ) = variable_names prefix 0 def.params in
      ap (λ r. r >>> (λ ns. sorts_of_trees over (second_trees f.params) >>> (λ ss. sort_tree over f.values >>> (λ s. elaborated_with_sort over ns ss f.body >>> closed place ss s)))) t.params_named
      ∙ ap (λ r. r >>> (λ ss. sort_tree over f.values >>> (λ s. elaborated_with_sort over names ss f.body >>> closed place ss s))) t.params
      ∙ ap (λ r. r >>> (λ s. elaborated_with_sort over names def.params f.body >>> closed place def.params s)) t.values
      ∙ ap (λ r. r >>> closed place def.params def.result) t.body
      ∙ closed_is place def

  -- the tree spells the sort of the values
  abbrev pub IsResult : Tree → Type 0
  IsResult tree = sort_tree over tree ≡ Ok def.result

  module _ (Body : Tree → Type 0) where
    abbrev pub ArePartsOf : List ℕ → List Tree → Type 0
    ArePartsOf name = Begins (IsSymbolOf (codes "define-fun")) (Begins (IsSymbolOf name) (Begins (AreParamsOf over prefix def.params) (Begins IsResult (Begins Body IsNone))))

    parts_are : (name : List ℕ) (place : ℕ) (trees : List Tree) → ArePartsOf name trees → IsDefinitionTree over prefix name def Body (Group place trees)
    parts_are name place [] h = absurd h
    parts_are name place (a ∷ []) h = absurd h.1
    parts_are name place (a ∷ b ∷ []) h = absurd h.1.1
    parts_are name place (a ∷ b ∷ c ∷ []) h = absurd h.1.1.1
    parts_are name place (a ∷ b ∷ c ∷ d ∷ []) h = absurd h.1.1.1.1
    parts_are name place (a ∷ b ∷ c ∷ d ∷ e ∷ []) h =
        let params = h.1.1.0 in
        let told = params_told (variable_names prefix 0 def.params) params.0 c params.1 in
        record {
          form = record { name = name; params = told.pairs; values = d; body = e };
          is = form_is place a b c d e name told.pairs h.0 h.1.0 told.group told.are;
          named = refl;
          params_named = told.named;
          params = ap (sorts_of_trees over) told.behind ∙ params.2;
          values = h.1.1.1.0;
          body = h.1.1.1.1.0;
        }
    parts_are name place (a ∷ b ∷ c ∷ d ∷ e ∷ f ∷ more) h = absurd h.1.1.1.1.1

-- ---- the text

-- the line without its end
abbrev pub line_of : List ℕ → List ℕ → List ℕ → List ℕ → List ℕ
line_of name binders sort body = 40 ∷ (codes "define-fun" ++ (32 ∷ name ++ (32 ∷ (40 ∷ binders ++ 41 ∷ []) ++ (32 ∷ sort ++ (32 ∷ body))))) ++ 41 ∷ []

text_in_order : (name binders sort body : List ℕ)
    → codes "(define-fun " ++ name ++ codes " (" ++ binders ++ codes ") " ++ sort ++ codes " " ++ body ++ codes ")\n"
    ≡ 40 ∷ (codes "define-fun" ++ (32 ∷ (name ++ (32 ∷ 40 ∷ (binders ++ (41 ∷ 32 ∷ (sort ++ (32 ∷ (body ++ (41 ∷ 10 ∷ []))))))))))
text_in_order name binders sort body = simp append_assoc refl

parts_in_order : (name binders sort body : List ℕ)
    → 40 ∷ (codes "define-fun" ++ (32 ∷ (name ++ (32 ∷ 40 ∷ (binders ++ (41 ∷ 32 ∷ (sort ++ (32 ∷ (body ++ (41 ∷ 10 ∷ [])))))))))) ≡ line_of name binders sort body ++ 10 ∷ []
parts_in_order name binders sort body =
    let end : List ℕ = 41 ∷ 10 ∷ [] in
    let last : List ℕ = 32 ∷ (sort ++ (32 ∷ body)) in
    let second : List ℕ = 32 ∷ 40 ∷ ((binders ++ 41 ∷ []) ++ last) in
    let first : List ℕ = codes "define-fun" ++ (32 ∷ (name ++ second)) in
    let behind_sort : (sort ++ (32 ∷ body)) ++ end ≡ sort ++ (32 ∷ (body ++ end)) = append_assoc sort (32 ∷ body) end in
    let behind_binders : ((binders ++ 41 ∷ []) ++ last) ++ end ≡ binders ++ (41 ∷ 32 ∷ (sort ++ (32 ∷ (body ++ end)))) =
    append_assoc (binders ++ 41 ∷ []) last end ∙ append_assoc binders (41 ∷ []) (last ++ end) ∙ ap (λ (l : List ℕ). binders ++ (41 ∷ 32 ∷ l)) behind_sort in
    let behind_name : (name ++ second) ++ end ≡ name ++ (32 ∷ 40 ∷ (binders ++ (41 ∷ 32 ∷ (sort ++ (32 ∷ (body ++ end)))))) =
    append_assoc name second end ∙ ap (λ (l : List ℕ). name ++ (32 ∷ 40 ∷ l)) behind_binders in
    let whole : (first ++ 41 ∷ []) ++ 10 ∷ [] ≡ codes "define-fun" ++ (32 ∷ (name ++ (32 ∷ 40 ∷ (binders ++ (41 ∷ 32 ∷ (sort ++ (32 ∷ (body ++ end)))))))) =
    append_assoc first (41 ∷ []) (10 ∷ []) ∙ ap (λ (l : List ℕ). codes "define-fun" ++ (32 ∷ l)) behind_name in
    ap (λ (l : List ℕ). 40 ∷ l) (sym whole)

text_of_parts : (name binders sort body : List ℕ)
    → codes "(define-fun " ++ name ++ codes " (" ++ binders ++ codes ") " ++ sort ++ codes " " ++ body ++ codes ")\n" ≡ line_of name binders sort body ++ 10 ∷ []
text_of_parts name binders sort body = text_in_order name binders sort body ∙ parts_in_order name binders sort body

-- the line of the definition of a name, without its end
abbrev pub definition_line : Names → List ℕ → Def → List ℕ
definition_line names name def =
    line_of (symbol_text name) (joined (binder_texts names 0 def.params)) (sort_text names.sig def.result) (term_text names def.body (length def.params))

pub line_is : (names : Names) (name : List ℕ) (def : Def) → definition_text names name def ≡ definition_line names name def ++ 10 ∷ []
line_is names name def = text_of_parts (symbol_text name) (joined (binder_texts names 0 def.params)) (sort_text names.sig def.result) (term_text names def.body (length def.params))

module _ (names : Names) (over : Setting) (marks : ℕ) (form : names.prefix ≡ marked marks) (read : NamesAreRead names.sig over.sig names.prefix) (name : List ℕ) (def : Def) where
  abbrev binders : List ℕ
  binders = 40 ∷ joined (binder_texts names 0 def.params) ++ 41 ∷ []

  abbrev AreBound : Tree → Type 0
  AreBound = AreParamsOf over names.prefix def.params

  params_write : (params : List Sort) → length params ≤ 2 ^ 64 → list_all (sort_fits over.sig) params ≡ true
      → Writes (AreParamsOf over names.prefix params) 18 (40 ∷ joined (binder_texts names 0 params) ++ 41 ∷ [])
  params_write [] small fits = group_writes IsNone (AreParamsOf over names.prefix []) 17 [] (λ place. no_more_at IsNone 17 false place [] refl tt) (no_params over names.prefix)
  params_write (s ∷ ss) small fits = binders_write names over marks form read 0 s ss (omega (arith, small)) fits

  -- the line is written as a tree of the form, where the body's text is a tree of the kind
  pub line_writes : (Body : Tree → Type 0) (deep : ℕ) → 18 ≤ deep → list_all is_quotable name ≡ true → length def.params ≤ 2 ^ 64 → list_all (sort_fits over.sig) def.params ≡ true → sort_fits over.sig def.result ≡ true
      → Writes Body deep (term_text names def.body (length def.params)) → Writes (IsDefinitionTree over names.prefix name def Body) (deep + 1) (definition_line names name def)
  line_writes Body deep enough quotable small params result body =
      let word : List ℕ = codes "define-fun" in
      let symbol : List ℕ = symbol_text name in
      let sort : List ℕ = sort_text names.sig def.result in
      let last : List ℕ = term_text names def.body (length def.params) in
      let is_result : Tree → Type 0 = IsResult over names.prefix def in
      let fourth : List Tree → Type 0 = Begins is_result (Begins Body IsNone) in
      let third : List Tree → Type 0 = Begins AreBound fourth in
      group_writes (ArePartsOf over names.prefix def Body name) (IsDefinitionTree over names.prefix name def Body) deep (word ++ (32 ∷ symbol ++ (32 ∷ binders ++ (32 ∷ sort ++ (32 ∷ last)))))
      (λ place. begin_at deep false (IsSymbolOf word) (Begins (IsSymbolOf name) third) place [] word (32 ∷ symbol ++ (32 ∷ binders ++ (32 ∷ sort ++ (32 ∷ last)))) refl
      (bare_writes deep word refl refl (place + 0) (32 ∷ symbol ++ (32 ∷ binders ++ (32 ∷ sort ++ (32 ∷ last)))) refl)
      (begin_at deep false (IsSymbolOf name) third (place + 0 + 10) (32 ∷ []) symbol (32 ∷ binders ++ (32 ∷ sort ++ (32 ∷ last))) refl
      (name_writes deep name quotable (place + 0 + 10 + 1) (32 ∷ binders ++ (32 ∷ sort ++ (32 ∷ last))) refl)
      (begin_at deep false AreBound fourth (place + 0 + 10 + 1 + length symbol) (32 ∷ []) binders (32 ∷ sort ++ (32 ∷ last)) refl
      (writes_wider AreBound AreBound 18 deep enough (λ tree is. is) binders (params_write def.params small params) (place + 0 + 10 + 1 + length symbol + 1) (32 ∷ sort ++ (32 ∷ last)) refl)
      (begin_at deep false is_result (Begins Body IsNone) (place + 0 + 10 + 1 + length symbol + 1 + length binders) (32 ∷ []) sort (32 ∷ last) refl
      (writes_wider is_result is_result 16 deep (omega (arith, enough)) (λ tree is. is) sort
      (fitting_sort_written names.sig over.sig names.prefix read over refl def.result result) (place + 0 + 10 + 1 + length symbol + 1 + length binders + 1) (32 ∷ last) refl)
      (last_at deep false Body (place + 0 + 10 + 1 + length symbol + 1 + length binders + 1 + length sort) (32 ∷ []) last refl body)))))
      (parts_are over names.prefix def Body name)
