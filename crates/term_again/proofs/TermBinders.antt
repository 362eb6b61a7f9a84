-- A quantifier is written as a tree that binds its variables.
use Rattle.std.proofs.Common.{◌≡◌, ◌∙◌, sym, ap, refl, subst, ℕ, ◌+◌, ◌≤◌, ◌<◌, ◌^◌, true, false, not, ◌||◌, List, [], ◌∷◌, ◌++◌, length, Ok, append_assoc, arith}
use Rattle.std.specs.Prelude.{IsTrue, decimal}
use Rattle.std.specs.List.{list_all}
use Rattle.std.proofs.lemmas.Bool.{and_parts, and_from}
use Rattle.chc_sorts.specs.declared.sort.Sort.{Sort}
use Rattle.chc_sorts.specs.declared.sort.Sort.TheVariants as sort
use Rattle.chc_sorts.specs.Names.{has_name}
use Rattle.chc_sorts.specs.Sorts.{sort_fits}
use Rattle.chc_sexpr.specs.Tokens.{is_reserved}
use Rattle.chc_sexpr.specs.Writing.{spaced, joined}
use Rattle.chc_sexpr.specs.declared.tree.Tree.{Tree}
use Rattle.chc_sexpr.specs.declared.tree.Tree.TheVariants.{Symbol, Group}
use Rattle.chc_sexpr.proofs.Written.{TreesAt, Writes, no_more_at, next_at}
use Rattle.chc_terms.specs.declared.term.Kind.{Kind}
use Rattle.chc_terms.specs.declared.term.Kind.TheVariants as kind
use Rattle.chc_terms.specs.declared.term.Term.{Term}
use Rattle.chc_terms.specs.declared.term.Term.TheVariants as term
use Rattle.chc_print.specs.Prefix.{marked}
use Rattle.chc_print.specs.Texts.{Names, sort_text, variable_text, binder_text, binder_texts, kind_text, quantified}
use Rattle.chc_elab.specs.declared.typed.Typed.{Typed}
use Rattle.chc_elab.specs.Apart.{are_apart}
use Rattle.chc_elab.specs.Sites.{Setting, Site, ◌>>>◌}
use Rattle.chc_elab.specs.Heads.{sort_tree}
use Rattle.chc_elab.specs.Binders.{sorts_of_trees, with_variables}
use Rattle.chc_elab.specs.Stands.{Stands, Pairs, Binds, kind_word}
use Rattle.term_again.specs.Naming.{NamesAreRead, variable_names, numbered_site}
use Rattle.term_again.proofs.TermTrees.{IsNone, Begins, IsSymbolOf, IsWordOf, writes_wider, text_writes, begin_at, last_at, group_writes, word_writes, spaced_parted, variable_writes}
use Rattle.term_again.proofs.TermSorts.{fitting_sort_written}
use Rattle.term_again.proofs.TermTyped.{typed, Reads}
use Rattle.term_again.proofs.TermVariables.{variable_name, names_apart, site_under}

module _ (prefix : List ℕ) where
  absent_from : (i n : ℕ) (ss : List Sort) → i < n → n + length ss ≤ 2 ^ 64 → has_name (variable_names prefix n ss) (variable_name prefix i) ≡ false
  absent_from i n [] before small = refl
  absent_from i n (s ∷ ss) before small =
      ap (λ b. b || has_name (variable_names prefix (n + 1) ss) (variable_name prefix i)) (names_apart prefix i n (omega arith) (omega arith) (λ same. absurd (omega arith)))
      ∙ absent_from i (n + 1) ss (omega arith) (omega arith)

  -- the names of variables differ
  pub variables_apart : (n : ℕ) (ss : List Sort) → n + length ss ≤ 2 ^ 64 → are_apart (variable_names prefix n ss) ≡ true
  variables_apart n [] small = refl
  variables_apart n (s ∷ ss) small =
      and_from (not (has_name (variable_names prefix (n + 1) ss) (variable_name prefix n))) (are_apart (variable_names prefix (n + 1) ss))
      (ap not (absent_from n (n + 1) ss (omega arith) (omega arith))) (variables_apart (n + 1) ss (omega arith))

module _ (names : Names) (setting : Setting) (marks : ℕ) (form : names.prefix ≡ marked marks) (read : NamesAreRead names.sig setting.sig names.prefix) where
  -- the tree spells the sort
  abbrev pub SaysSort : Sort → Tree → Type 0
  SaysSort s tree = sort_tree setting tree ≡ Ok s

  -- the tree is a pair of the variable's name and the sort
  abbrev pub IsBinder : ℕ → Sort → Tree → Type 0
  IsBinder n s tree = (place : ℕ) × (at : ℕ) × (second : Tree) × (tree ≡ Group place (Symbol at (variable_name names.prefix n) ∷ second ∷ [])) × SaysSort s second

  binder_stands : (n : ℕ) (s : Sort) (place : ℕ) (ts : List Tree) → Begins (IsSymbolOf (variable_name names.prefix n)) (Begins (SaysSort s) IsNone) ts → IsBinder n s (Group place ts)
  binder_stands n s place [] h = absurd h
  binder_stands n s place (a ∷ []) h = absurd h.1
  binder_stands n s place (a ∷ b ∷ []) h = (place, h.0.0, b, ap (λ t. Group place (t ∷ b ∷ [])) h.0.1, h.1.0)
  binder_stands n s place (a ∷ b ∷ c ∷ more) h = absurd h.1.1

  binder_writes : (n : ℕ) (s : Sort) → n < 2 ^ 64 → sort_fits setting.sig s ≡ true → Writes (IsBinder n s) 17 (binder_text names n s)
  binder_writes n s small fits =
      let name = variable_text names n in
      let last = sort_text names.sig s in
      text_writes (IsBinder n s) 17 (40 ∷ (name ++ 32 ∷ last) ++ 41 ∷ []) (binder_text names n s) (simp append_assoc)
      (group_writes (Begins (IsSymbolOf (variable_name names.prefix n)) (Begins (SaysSort s) IsNone)) (IsBinder n s) 16 (name ++ 32 ∷ last)
      (λ place. begin_at 16 false (IsSymbolOf (variable_name names.prefix n)) (Begins (SaysSort s) IsNone) place [] name (32 ∷ last) refl
      (subst (λ (p : List ℕ). Writes (IsSymbolOf (p ++ decimal n)) 16 (p ++ decimal n)) (sym form) (variable_writes 16 marks n small) (place + 0) (32 ∷ last) refl)
      (last_at 16 false (SaysSort s) (place + 0 + length name) (32 ∷ []) last refl (fitting_sort_written names.sig setting.sig names.prefix read setting refl s fits)))
      (binder_stands n s))

  -- the trees are pairs of the variables' names and sorts
  abbrev pub AreBinders : ℕ → List Sort → List Tree → Type 0
  AreBinders n ss trees = (seconds : List Tree) × Pairs trees (variable_names names.prefix n ss) seconds × (sorts_of_trees setting seconds ≡ Ok ss)

  more_binders : (n : ℕ) (s : Sort) (ss : List Sort) (t : Tree) (ts : List Tree) → IsBinder n s t → AreBinders (n + 1) ss ts → AreBinders n (s ∷ ss) (t ∷ ts)
  more_binders n s ss t ts one more = (
    one.2 ∷ more.0,
    subst (λ u. Pairs (u ∷ ts) (variable_names names.prefix n (s ∷ ss)) (one.2 ∷ more.0)) (sym one.3)
        (Pairs.pair_before one.0 one.1 (variable_name names.prefix n) one.2 ts (variable_names names.prefix (n + 1) ss) more.0 more.1),
    (λ j. one.4 j >>> (λ s. more.2 j >>> (λ rest. Ok (s ∷ rest)))),
  )

  -- binders with a space before each
  pub spaced_binders : (n : ℕ) (ss : List Sort) → n + length ss ≤ 2 ^ 64 → list_all (sort_fits setting.sig) ss ≡ true → (place : ℕ) → TreesAt (AreBinders n ss) 17 false place (spaced (binder_texts names n ss))
  spaced_binders n [] small fits place = no_more_at (AreBinders n []) 17 false place [] refl ([], Pairs.no_pair, refl)
  spaced_binders n (s ∷ ss) small fits place =
      let parts = and_parts (sort_fits setting.sig s) (list_all (sort_fits setting.sig) ss) fits in
      let text = binder_text names n s in
      let rest = spaced (binder_texts names (n + 1) ss) in
      next_at (IsBinder n s) (AreBinders (n + 1) ss) (AreBinders n (s ∷ ss)) 17 false place (32 ∷ []) text rest refl
      (binder_writes n s (omega arith) parts.0 (place + 1) rest (spaced_parted (binder_texts names (n + 1) ss)))
      (spaced_binders (n + 1) ss (omega arith) parts.1 (place + 1 + length text))
      (more_binders n s ss)

  -- binders with a space between each two
  pub joined_binders : (n : ℕ) (s : Sort) (ss : List Sort) → n + length (s ∷ ss) ≤ 2 ^ 64 → list_all (sort_fits setting.sig) (s ∷ ss) ≡ true → (place : ℕ) → TreesAt (AreBinders n (s ∷ ss)) 17 false place (joined (binder_texts names n (s ∷ ss)))
  joined_binders n s ss small fits place =
      let parts = and_parts (sort_fits setting.sig s) (list_all (sort_fits setting.sig) ss) fits in
      let text = binder_text names n s in
      let rest = spaced (binder_texts names (n + 1) ss) in
      next_at (IsBinder n s) (AreBinders (n + 1) ss) (AreBinders n (s ∷ ss)) 17 false place [] text rest refl
      (binder_writes n s (omega arith) parts.0 (place + 0) rest (spaced_parted (binder_texts names (n + 1) ss)))
      (spaced_binders (n + 1) ss (omega arith) parts.1 (place + 0 + length text))
      (more_binders n s ss)

  -- the tree binds the variables from a number on
  abbrev pub BindsAll : ℕ → List Sort → Tree → Type 0
  BindsAll n ss tree = (seconds : List Tree) × Binds tree (variable_names names.prefix n ss) seconds × (sorts_of_trees setting seconds ≡ Ok ss)

  -- a list of binders is written as a tree that binds their variables
  pub binders_write : (n : ℕ) (s : Sort) (ss : List Sort) → n + length (s ∷ ss) ≤ 2 ^ 64 → list_all (sort_fits setting.sig) (s ∷ ss) ≡ true → Writes (BindsAll n (s ∷ ss)) 18 (40 ∷ joined (binder_texts names n (s ∷ ss)) ++ 41 ∷ [])
  binders_write n s ss small fits =
      group_writes (AreBinders n (s ∷ ss)) (BindsAll n (s ∷ ss)) 17 (joined (binder_texts names n (s ∷ ss))) (joined_binders n s ss small fits)
      (λ place ts h. (h.0, Binds.binds place ts (variable_names names.prefix n (s ∷ ss)) h.0 h.1 (variables_apart names.prefix n (s ∷ ss) small), h.2))

  -- ---- the quantifier

  kind_reserved : (k : Kind) → IsTrue (is_reserved (kind_text k))
  kind_reserved kind.Forall = refl
  kind_reserved kind.Exists = refl

  same_word : (k : Kind) → kind_text k ≡ kind_word k
  same_word kind.Forall = refl
  same_word kind.Exists = refl

  kind_writes : (k : Kind) (deep : ℕ) → Writes (IsWordOf (kind_word k)) deep (kind_text k)
  kind_writes k deep = subst (λ (word : List ℕ). Writes (IsWordOf word) deep (kind_text k)) (same_word k) (word_writes deep (kind_text k) (kind_reserved k))

  module _ (Fits : Typed → Type 0) (Few : List Typed → Type 0) (k : Kind) (vars : List Sort) where
    -- the tree stands for the condition under the variables before and those that are bound
    abbrev StandsUnder : List Sort → Term → Tree → Type 0
    StandsUnder ss t = Reads setting names.prefix Fits Few (vars ++ ss) t sort.Bool

    abbrev IsQuantified : List Sort → Term → List Tree → Type 0
    IsQuantified ss t = Begins (IsWordOf (kind_word k)) (Begins (BindsAll (length vars) ss) (Begins (StandsUnder ss t) IsNone))

    -- the tree stands for the quantifier over the variables that are bound
    abbrev StandsAround : List Sort → Term → Tree → Type 0
    StandsAround ss t = Reads setting names.prefix Fits Few vars (term.Quant k ss t) sort.Bool

    quantifier_stands : (s : Sort) (ss : List Sort) (t : Term) → Fits (typed (term.Quant k (s ∷ ss) t) sort.Bool)
        → (place : ℕ) (trees : List Tree) → IsQuantified (s ∷ ss) t trees → StandsAround (s ∷ ss) t (Group place trees)
    quantifier_stands s ss t fits place [] h = absurd h
    quantifier_stands s ss t fits place (a ∷ []) h = absurd h.1
    quantifier_stands s ss t fits place (a ∷ b ∷ []) h = absurd h.1.1
    quantifier_stands s ss t fits place (a ∷ b ∷ c ∷ []) h =
        let inner : Stands setting Fits Few (with_variables (numbered_site names.prefix vars) (variable_names names.prefix (length vars) (s ∷ ss)) (s ∷ ss)) c (typed t sort.Bool) =
        subst (λ (site : Site). Stands setting Fits Few site c (typed t sort.Bool)) (sym (site_under names.prefix vars (s ∷ ss))) h.1.1.0 in
        subst (λ u. StandsAround (s ∷ ss) t (Group place (u ∷ b ∷ c ∷ []))) (sym h.0.1)
        (Stands.quantifier (numbered_site names.prefix vars) place h.0.0 k b c (variable_names names.prefix (length vars) (s ∷ ss)) h.1.0.0 s ss (typed t sort.Bool) h.1.0.1 h.1.0.2 inner refl fits)
    quantifier_stands s ss t fits place (a ∷ b ∷ c ∷ d ∷ more) h = absurd h.1.1.1

    quantifier_is : (under : ℕ) (ss : List Sort) (text : List ℕ)
        → 40 ∷ (kind_text k ++ (32 ∷ (40 ∷ joined (binder_texts names under ss) ++ 41 ∷ []) ++ 32 ∷ text)) ++ 41 ∷ [] ≡ quantified names k under ss text
    quantifier_is under ss text = simp append_assoc

    -- a condition under more variables, quantified over these, is written as a tree that stands for the quantifier
    pub quantified_written : (s : Sort) (ss : List Sort) (t : Term) (deep : ℕ) (text : List ℕ) → length vars + length (s ∷ ss) ≤ 2 ^ 64 → list_all (sort_fits setting.sig) (s ∷ ss) ≡ true → 18 ≤ deep
        → Fits (typed (term.Quant k (s ∷ ss) t) sort.Bool) → Writes (StandsUnder (s ∷ ss) t) deep text → Writes (StandsAround (s ∷ ss) t) (deep + 1) (quantified names k (length vars) (s ∷ ss) text)
    quantified_written s ss t deep text small sorts enough fits writes =
        let bound : List Sort = s ∷ ss in
        let word : List ℕ = kind_text k in
        let list : List ℕ = 40 ∷ joined (binder_texts names (length vars) bound) ++ 41 ∷ [] in
        let is_list : Tree → Type 0 = BindsAll (length vars) bound in
        text_writes (StandsAround bound t) (deep + 1) (40 ∷ (word ++ (32 ∷ list ++ 32 ∷ text)) ++ 41 ∷ []) (quantified names k (length vars) bound text) (quantifier_is (length vars) bound text)
        (group_writes (IsQuantified bound t) (StandsAround bound t) deep (word ++ (32 ∷ list ++ 32 ∷ text))
        (λ place. begin_at deep false (IsWordOf (kind_word k)) (Begins is_list (Begins (StandsUnder bound t) IsNone)) place [] word (32 ∷ list ++ 32 ∷ text) refl
        (kind_writes k deep (place + 0) (32 ∷ list ++ 32 ∷ text) refl)
        (begin_at deep false is_list (Begins (StandsUnder bound t) IsNone) (place + 0 + length word) (32 ∷ []) list (32 ∷ text) refl
        (writes_wider is_list is_list 18 deep enough (λ tree is. is) list (binders_write (length vars) s ss small sorts) (place + 0 + length word + 1) (32 ∷ text) refl)
        (last_at deep false (StandsUnder bound t) (place + 0 + length word + 1 + length list) (32 ∷ []) text refl writes)))
        (quantifier_stands s ss t fits))
