-- The lines of live predicates declare them.
use Rattle.std.proofs.Common.{◌≡◌, ◌∙◌, sym, ap, refl, subst, ℕ, ◌+◌, ◌≤◌, Bool, true, false, cond, nat_lt, List, [], ◌∷◌, ◌++◌, length, map, Some, None, Ok, codes, append_assoc, arith}
use Rattle.std.specs.Prelude.{if◌then◌else◌}
use Rattle.std.specs.List.{list_all, list_any, AllByRecursion}
use Rattle.std.proofs.lemmas.Bool.{and_parts, or_parts}
use Rattle.std.proofs.lemmas.Bool.Decides.{nat_tests}
use Rattle.std.proofs.lemmas.List.{append-nil}
use Rattle.std.proofs.lemmas.List.Sums.{sum_by-append, sum_by-cons}
use Rattle.chc_sorts.specs.declared.sort.Sort.{Sort, fold-Sort}
use Rattle.chc_sorts.specs.declared.limit.Limit.TheVariants as limit
use Rattle.chc_sorts.specs.Signature.{Signature}
use Rattle.chc_sorts.specs.Sorts.{sort_depth, sort_fits, is_declared_step}
use Rattle.chc_sorts.specs.Names.{has_name}
use Rattle.chc_sorts.specs.Functions.{function_names}
use Rattle.chc_sorts.specs.Groups.{fixed_functions}
use Rattle.chc_sorts.specs.Listing.{AreFresh}
use Rattle.chc_sexpr.specs.declared.tree.Tree.{Tree, out-Tree}
use Rattle.chc_sexpr.specs.declared.tree.Tree.TheVariants.{Group}
use Rattle.chc_sexpr.specs.Shapes.{symbol_of, group_of, form_of, is_name}
use Rattle.chc_sexpr.specs.Symbols.{symbol_text}
use Rattle.chc_sexpr.specs.Writing.{joined}
use Rattle.chc_sexpr.proofs.Written.{Writes}
use Rattle.chc_sexpr.specs.declared.fault.Fault.TheVariants.{NotPredicate, NameTaken}
use Rattle.chc_elab.specs.Sites.{Reading, faulty, ◌>>>◌}
use Rattle.chc_elab.specs.SortTrees.{place_at}
use Rattle.chc_state.specs.declared.clause.PredDecl.{PredDecl}
use Rattle.chc_state.specs.Limits.{live_count, first_true}
use Rattle.chc_state.specs.Names.{is_writable_name}
use Rattle.chc_script.specs.declared.whole.progress.Progress.{Progress}
use Rattle.chc_script.specs.declared.whole.progress.Progress.TheVariants as progress
use Rattle.chc_script.specs.Drafts.{DraftView, PredicatesView, with_preds, with_predicate, declaration, held_to, passed_by_predicate, none_asserted}
use Rattle.chc_script.specs.Commands.{sorts_after, truth_values, predicate_added, fun_parts}
use Rattle.chc_script.specs.WholeScripts.{command_at}
use Rattle.chc_print.specs.Texts.{Names, name_at, sort_text}
use Rattle.chc_print.specs.Script.{declaration_text, declarations_text}
use Rattle.read_again.specs.FirstGroups.{written_sort, HasOwnNames}
use Rattle.read_again.specs.LivePredicates.{live_names, live_preds}
use Rattle.term_again.proofs.TermTrees.{Begins, IsNone, writes_wider, last_at, group_writes}
use Rattle.read_again.proofs.TreesInOrder.{EachIs, first_at, each_joined}
use Rattle.read_again.proofs.WrittenSorts.{IsNamed, writes_name, writes_word, named_symbol, group_of-Group, SpellsSort, AreWritable, sort_written}
use Rattle.read_again.proofs.ReadSorts.{AreNumbered, tree_read_again}
use Rattle.read_again.proofs.WrittenGroups.{form_of-Group, shallow_sort}
use Rattle.read_again.proofs.Lines.{Turns, Runs, runs_same, runs_line}

-- ---- the tree of a line

-- the tree is `(declare-fun p (S ..) Bool)`
pub record DeclarationIs (sig : Signature) (name : List ℕ) (sorts : List Sort) (tree : Tree) : Type 0 where
  pub symbol : Tree
  pub positions : Tree
  pub values : Tree
  pub form : form_of tree ≡ Some (codes "declare-fun", symbol ∷ positions ∷ values ∷ [])
  pub named : symbol_of symbol ≡ Some name
  pub trees : List Tree
  pub group : group_of positions ≡ Some trees
  pub spelled : EachIs (λ s. SpellsSort (written_sort sig s)) sorts trees
  pub truth : symbol_of values ≡ Some (codes "Bool")

module _ (sig : Signature) (writable : AreWritable sig) where
  sorts_write : (new : Signature) (ss : List Sort) → list_all (sort_fits new) ss ≡ true → AllByRecursion (λ s. Writes (SpellsSort (written_sort sig s)) 16 (sort_text sig s)) ss
  sorts_write new [] fits = tt
  sorts_write new (s ∷ ss) fits =
      let parts = and_parts (sort_fits new s) (list_all (sort_fits new) ss) fits in
      let shallow = shallow_sort (sort_depth s) (and_parts (fold-Sort Bool (is_declared_step new) s) (nat_lt (sort_depth s) 17) parts.0).1 in
      (sort_written sig writable s 16 shallow, sorts_write new ss parts.1)

  abbrev sorts_group : List Sort → List ℕ
  sorts_group ss = 40 ∷ joined (map (sort_text sig) ss) ++ 41 ∷ []

  -- a predicate's line, without its end
  abbrev pub declaration_line : List ℕ → List Sort → List ℕ
  declaration_line name ss = 40 ∷ (codes "declare-fun" ++ (32 ∷ symbol_text name ++ (32 ∷ sorts_group ss ++ (32 ∷ codes "Bool")))) ++ 41 ∷ []

  abbrev SortsAre : List Sort → Tree → Type 0
  SortsAre ss tree = (trees : List Tree) × (group_of tree ≡ Some trees) × EachIs (λ s. SpellsSort (written_sort sig s)) ss trees

  abbrev PartsAre : List ℕ → List Sort → List Tree → Type 0
  PartsAre name ss = Begins (IsNamed (codes "declare-fun")) (Begins (IsNamed name) (Begins (SortsAre ss) (Begins (IsNamed (codes "Bool")) IsNone)))

  declaration_is : (name : List ℕ) (ss : List Sort) (place : ℕ) (trees : List Tree) → PartsAre name ss trees → DeclarationIs sig name ss (Group place trees)
  declaration_is name ss place [] h = absurd h
  declaration_is name ss place (a ∷ []) h = absurd h.1
  declaration_is name ss place (a ∷ b ∷ []) h = absurd h.1.1
  declaration_is name ss place (a ∷ b ∷ c ∷ []) h = absurd h.1.1.1
  declaration_is name ss place (a ∷ b ∷ c ∷ d ∷ []) h = record {
    symbol = b;
    positions = c;
    values = d;
    form = form_of-Group place (codes "declare-fun") a (b ∷ c ∷ d ∷ []) h.0;
    named = named_symbol name b h.1.0;
    trees = h.1.1.0.0;
    group = h.1.1.0.1;
    spelled = h.1.1.0.2;
    truth = named_symbol (codes "Bool") d h.1.1.1.0;
  }
  declaration_is name ss place (a ∷ b ∷ c ∷ d ∷ e ∷ more) h = absurd h.1.1.1.1

  pub declaration_writes : (new : Signature) (name : List ℕ) (ss : List Sort) → is_writable_name name ≡ true → list_all (sort_fits new) ss ≡ true
      → Writes (DeclarationIs sig name ss) 18 (declaration_line name ss)
  declaration_writes new name ss named fits =
      group_writes (PartsAre name ss) (DeclarationIs sig name ss) 17 (codes "declare-fun" ++ (32 ∷ symbol_text name ++ (32 ∷ sorts_group ss ++ (32 ∷ codes "Bool"))))
      (λ place. first_at 17 false (IsNamed (codes "declare-fun")) (Begins (IsNamed name) (Begins (SortsAre ss) (Begins (IsNamed (codes "Bool")) IsNone))) place [] (codes "declare-fun")
      (32 ∷ symbol_text name ++ (32 ∷ sorts_group ss ++ (32 ∷ codes "Bool"))) refl refl (writes_word 17 (codes "declare-fun") refl refl)
      (λ next. first_at 17 false (IsNamed name) (Begins (SortsAre ss) (Begins (IsNamed (codes "Bool")) IsNone)) next (32 ∷ []) (symbol_text name) (32 ∷ sorts_group ss ++ (32 ∷ codes "Bool")) refl refl
      (writes_name 17 name named)
      (λ there. first_at 17 false (SortsAre ss) (Begins (IsNamed (codes "Bool")) IsNone) there (32 ∷ []) (sorts_group ss) (32 ∷ codes "Bool") refl refl
      (group_writes (EachIs (λ s. SpellsSort (written_sort sig s)) ss) (SortsAre ss) 16 (joined (map (sort_text sig) ss))
      (each_joined (λ s. SpellsSort (written_sort sig s)) (sort_text sig) 16 false ss (sorts_write new ss fits)) (λ at trees h. (trees, group_of-Group at trees, h)))
      (λ last. last_at 17 false (IsNamed (codes "Bool")) last (32 ∷ []) (codes "Bool") refl (writes_word 17 (codes "Bool") refl refl)))))
      (declaration_is name ss)

-- whether the sorts of the predicate's positions fit the signature, where it is live
abbrev pub is_fitting : Signature → PredDecl → Bool
is_fitting sig d = if d.live then list_all (sort_fits sig) d.sorts else true

-- a live predicate is as it is declared
declared_live : (d : PredDecl) → d.live ≡ true → declaration d.sorts ≡ d
declared_live d live = λ i. record { sorts = d.sorts; live = sym live i }

-- ---- what the command makes

module _ (sig new : Signature) (own : HasOwnNames new) (same : AreNumbered sig new) where
  sorts_read : (made ss : List Sort) (trees : List Tree) → list_all (sort_fits new) ss ≡ true → EachIs (λ s. SpellsSort (written_sort sig s)) ss trees
      → sorts_after new made trees ≡ Ok (made ++ ss)
  sorts_read made [] [] fits h = ap Ok (sym (append-nil made))
  sorts_read made [] (t ∷ ts) fits h = absurd h
  sorts_read made (s ∷ ss) [] fits h = absurd h
  sorts_read made (s ∷ ss) (t ∷ ts) fits h =
      let parts = and_parts (sort_fits new s) (list_all (sort_fits new) ss) fits in
      ap (λ r. r >>> (λ z. sorts_after new (made ++ z ∷ []) ts)) (tree_read_again sig new own same s parts.0 t h.0 (place_at (out-Tree t)))
      ∙ sorts_read (made ++ s ∷ []) ss ts parts.1 h.1
      ∙ ap Ok (append_assoc made (s ∷ []) ss)

  -- what the lines of datatypes and of some predicates make
  abbrev pub declaring : PredicatesView → DraftView
  declaring p = record { logic = true; sig = new; preds = p; asserted = none_asserted }

  -- there is room for one more predicate
  pub record HasRoom (p : PredicatesView) (sorts : List Sort) : Type 0 where
    pub short : nat_lt 1024 (length sorts) ≡ false
    pub few : nat_lt 65536 (live_count (p.decls ++ declaration sorts ∷ [])) ≡ false

  room_is : (p : PredicatesView) (sorts : List Sort) → HasRoom p sorts → passed_by_predicate p.decls sorts ≡ None
  room_is p sorts h =
      ap (λ b. first_true ((b, limit.L8) ∷ (nat_lt 65536 (live_count (p.decls ++ declaration sorts ∷ [])), limit.L7) ∷ [])) h.short
      ∙ ap (λ b. first_true ((false, limit.L8) ∷ (b, limit.L7) ∷ [])) h.few

  declaration_command : (p : PredicatesView) (name : List ℕ) (sorts : List Sort) → has_name (fixed_functions ++ function_names new ++ p.names) name ≡ false
      → list_all (sort_fits new) sorts ≡ true → HasRoom p sorts → (tree : Tree) → DeclarationIs sig name sorts tree
      → Turns (progress.Going (declaring p)) (progress.Going (declaring (with_predicate p name sorts))) tree
  declaration_command p name sorts free fits room tree d =
      let place : ℕ = place_at (out-Tree tree) in
      let going : DraftView → Reading Progress = λ e. Ok (progress.Going e) in
      let read : List Sort → Reading DraftView = λ ss. predicate_added (declaring p) place name ss in
      ap (command_at (declaring p) place) d.form
      ∙ (λ i. fun_parts (declaring p) place d.values (d.named i) (d.group i) >>> going)
      ∙ ap (λ b. cond b (faulty place NameTaken name) (Ok tt) >>> (λ _. truth_values place name d.values >>> (λ _. sorts_after new [] d.trees >>> read)) >>> going) free
      ∙ ap (λ o. cond (is_name (codes "Bool") o) (Ok tt) (faulty place NotPredicate name) >>> (λ _. sorts_after new [] d.trees >>> read) >>> going) d.truth
      ∙ ap (λ r. r >>> read >>> going) (sorts_read [] sorts d.trees fits d.spelled)
      ∙ ap (λ o. held_to place o >>> (λ _. Ok (with_preds (with_predicate p name sorts) (declaring p))) >>> going) (room_is p sorts room)

-- ---- the lines of all live predicates

line_of_five : (word name sorts : List ℕ) → 40 ∷ (word ++ (32 ∷ (name ++ (32 ∷ 40 ∷ (sorts ++ (41 ∷ 32 ∷ 66 ∷ 111 ∷ 111 ∷ 108 ∷ 41 ∷ 10 ∷ []))))))
    ≡ (40 ∷ (word ++ (32 ∷ name ++ (32 ∷ (40 ∷ sorts ++ 41 ∷ []) ++ (32 ∷ 66 ∷ 111 ∷ 111 ∷ 108 ∷ [])))) ++ 41 ∷ []) ++ 10 ∷ []
line_of_five word name sorts =
    let last : List ℕ = 32 ∷ 66 ∷ 111 ∷ 111 ∷ 108 ∷ [] in
    let third : List ℕ = 32 ∷ 40 ∷ ((sorts ++ 41 ∷ []) ++ last) in
    let second : List ℕ = 32 ∷ (name ++ third) in
    let end : List ℕ = 41 ∷ 10 ∷ [] in
    let inner : ((sorts ++ 41 ∷ []) ++ last) ++ end ≡ sorts ++ (41 ∷ 32 ∷ 66 ∷ 111 ∷ 111 ∷ 108 ∷ 41 ∷ 10 ∷ []) = append_assoc (sorts ++ 41 ∷ []) last end ∙ append_assoc sorts (41 ∷ []) (last ++ end) in
    let named : (name ++ third) ++ end ≡ name ++ (32 ∷ 40 ∷ (sorts ++ (41 ∷ 32 ∷ 66 ∷ 111 ∷ 111 ∷ 108 ∷ 41 ∷ 10 ∷ []))) = append_assoc name third end ∙ ap (λ (l : List ℕ). name ++ (32 ∷ 40 ∷ l)) inner in
    let whole : ((word ++ second) ++ 41 ∷ []) ++ 10 ∷ [] ≡ word ++ (32 ∷ (name ++ (32 ∷ 40 ∷ (sorts ++ (41 ∷ 32 ∷ 66 ∷ 111 ∷ 111 ∷ 108 ∷ 41 ∷ 10 ∷ []))))) =
    append_assoc (word ++ second) (41 ∷ []) (10 ∷ []) ∙ append_assoc word second end ∙ ap (λ (l : List ℕ). word ++ (32 ∷ l)) named in
    ap (λ (l : List ℕ). 40 ∷ l) (sym whole)

text_of_five : (name sorts : List ℕ) → codes "(declare-fun " ++ name ++ codes " (" ++ sorts ++ codes ") Bool)\n"
    ≡ 40 ∷ (codes "declare-fun" ++ (32 ∷ (name ++ (32 ∷ 40 ∷ (sorts ++ (41 ∷ 32 ∷ 66 ∷ 111 ∷ 111 ∷ 108 ∷ 41 ∷ 10 ∷ []))))))
text_of_five name sorts = simp append_assoc refl

counts_one : (ds : List PredDecl) (sorts : List Sort) → live_count (ds ++ declaration sorts ∷ []) ≡ live_count ds + 1
counts_one ds sorts = sum_by-append (λ (d : PredDecl). cond d.live 1 0) ds (declaration sorts ∷ [])

within_bound : (n m : ℕ) → n + 1 ≤ m → m ≤ 65536 → nat_lt 65536 (n + 1) ≡ false
within_bound n m low high = grind (arith, nat_tests)

module _ (names : Names) (writable : AreWritable names.sig) (new : Signature) (own : HasOwnNames new) (same : AreNumbered names.sig new) where
  abbrev seen_names : PredicatesView → List (List ℕ)
  seen_names p = fixed_functions ++ function_names new ++ p.names

  -- the predicates behind those that were declared
  abbrev pub with_live : PredicatesView → ℕ → List PredDecl → PredicatesView
  with_live p k ds = record { names = p.names ++ live_names names.preds k ds; decls = p.decls ++ live_preds ds }

  line_is : (k : ℕ) (d : PredDecl) → declaration_text names k d ≡ declaration_line names.sig writable (name_at names.preds k) d.sorts ++ 10 ∷ []
  line_is k d =
      text_of_five (symbol_text (name_at names.preds k)) (joined (map (sort_text names.sig) d.sorts))
      ∙ line_of_five (codes "declare-fun") (symbol_text (name_at names.preds k)) (joined (map (sort_text names.sig) d.sorts))

  -- what is asked of the predicates that are left
  pub record CanFollow (p : PredicatesView) (k : ℕ) (ds : List PredDecl) : Type 0 where
    pub fresh : AreFresh (seen_names p) (live_names names.preds k ds)
    pub spelt : list_all is_writable_name (live_names names.preds k ds) ≡ true
    pub fits : list_all (is_fitting new) ds ≡ true
    pub short : list_any (λ (d : PredDecl). nat_lt 1024 (length d.sorts)) ds ≡ false
    pub few : live_count p.decls + live_count ds ≤ 65536

  -- one that isn't live has no line
  skipped : (p : PredicatesView) (k : ℕ) (d : PredDecl) (ds : List PredDecl) → d.live ≡ false → CanFollow p k (d ∷ ds) → CanFollow p (k + 1) ds
  skipped p k d ds dead h = record {
    fresh = subst (λ b. AreFresh (seen_names p) (if b then name_at names.preds k ∷ live_names names.preds (k + 1) ds else live_names names.preds (k + 1) ds)) dead h.fresh;
    spelt = subst (λ b. list_all is_writable_name (if b then name_at names.preds k ∷ live_names names.preds (k + 1) ds else live_names names.preds (k + 1) ds) ≡ true) dead h.spelt;
    fits = (and_parts (is_fitting new d) (list_all (is_fitting new) ds) h.fits).1;
    short = (or_parts (nat_lt 1024 (length d.sorts)) (list_any (λ (e : PredDecl). nat_lt 1024 (length e.sorts)) ds) h.short).1;
    few = omega (arith, h.few, sum_by-cons (λ (e : PredDecl). cond e.live 1 0) d ds);
  }

  abbrev named_at : ℕ → List ℕ
  named_at k = name_at names.preds k

  abbrev one_more : PredicatesView → ℕ → PredDecl → PredicatesView
  one_more p k d = with_predicate p (named_at k) d.sorts

  -- what is asked of a live one, and of those behind it
  record CanCome (p : PredicatesView) (k : ℕ) (d : PredDecl) (ds : List PredDecl) : Type 0 where
    free : has_name (seen_names p) (named_at k) ≡ false
    spelt : is_writable_name (named_at k) ≡ true
    fits : list_all (sort_fits new) d.sorts ≡ true
    room : HasRoom names.sig new own same p d.sorts
    later : CanFollow (one_more p k d) (k + 1) ds

  can_come : (p : PredicatesView) (k : ℕ) (d : PredDecl) (ds : List PredDecl) → d.live ≡ true → CanFollow p k (d ∷ ds) → CanCome p k d ds
  can_come p k d ds live h =
      let fresh = subst (λ b. AreFresh (seen_names p) (if b then named_at k ∷ live_names names.preds (k + 1) ds else live_names names.preds (k + 1) ds)) live h.fresh in
      let spelt = subst (λ b. list_all is_writable_name (if b then named_at k ∷ live_names names.preds (k + 1) ds else live_names names.preds (k + 1) ds) ≡ true) live h.spelt in
      let named = and_parts (is_writable_name (named_at k)) (list_all is_writable_name (live_names names.preds (k + 1) ds)) spelt in
      let fits = and_parts (is_fitting new d) (list_all (is_fitting new) ds) h.fits in
      let short = or_parts (nat_lt 1024 (length d.sorts)) (list_any (λ (e : PredDecl). nat_lt 1024 (length e.sorts)) ds) h.short in
      let counted : live_count (d ∷ ds) ≡ 1 + live_count ds = sum_by-cons (λ (e : PredDecl). cond e.live 1 0) d ds ∙ ap (λ b. cond b 1 0 + live_count ds) live in
      let more = counts_one p.decls d.sorts in
      record {
        free = fresh.0;
        spelt = named.0;
        fits = subst (λ b. (if b then list_all (sort_fits new) d.sorts else true) ≡ true) live fits.0;
        room = record { short = short.0; few = ap (nat_lt 65536) more ∙ within_bound (live_count p.decls) (live_count p.decls + live_count (d ∷ ds)) (omega (arith, counted)) h.few };
        later = record {
          fresh = subst (λ seen. AreFresh seen (live_names names.preds (k + 1) ds)) (append_assoc (fixed_functions ++ function_names new) p.names (named_at k ∷ [])) fresh.1;
          spelt = named.1;
          fits = fits.1;
          short = short.1;
          few = omega (arith, h.few, counted, more);
        };
      }

  line_writes : (p : PredicatesView) (k : ℕ) (d : PredDecl) (ds : List PredDecl) → CanCome p k d ds
      → Writes (Turns (progress.Going (declaring names.sig new own same p)) (progress.Going (declaring names.sig new own same (one_more p k d)))) 1000 (declaration_line names.sig writable (named_at k) d.sorts)
  line_writes p k d ds h =
      writes_wider (DeclarationIs names.sig (named_at k) d.sorts) (Turns (progress.Going (declaring names.sig new own same p)) (progress.Going (declaring names.sig new own same (one_more p k d)))) 18 1000 (omega arith)
      (declaration_command names.sig new own same p (named_at k) d.sorts h.free h.fits h.room)
      (declaration_line names.sig writable (named_at k) d.sorts) (declaration_writes names.sig writable new (named_at k) d.sorts h.spelt h.fits)

  -- a draft with these predicates goes on
  abbrev pub RunsWith : PredicatesView → Progress → List ℕ → Type 0
  RunsWith p end bytes = Runs (progress.Going (declaring names.sig new own same p)) end bytes

  -- the same where the first of them is live or not
  abbrev Follows : PredicatesView → ℕ → PredDecl → List PredDecl → Progress → List ℕ → Bool → Type 0
  Follows p k d ds end rest b =
      RunsWith (record { names = p.names ++ (if b then named_at k ∷ live_names names.preds (k + 1) ds else live_names names.preds (k + 1) ds); decls = p.decls ++ (if b then d ∷ live_preds ds else live_preds ds) }) end rest
      → RunsWith p end (((if b then declaration_text names k d else []) ++ declarations_text names (k + 1) ds) ++ rest)

  live_follows : (p : PredicatesView) (k : ℕ) (d : PredDecl) (ds : List PredDecl) (end : Progress) (rest : List ℕ) → d.live ≡ true → CanCome p k d ds
      → (RunsWith (with_live (one_more p k d) (k + 1) ds) end rest → RunsWith (one_more p k d) end (declarations_text names (k + 1) ds ++ rest))
      → Follows p k d ds end rest true
  live_follows p k d ds end rest live h later runs =
      let lines : List ℕ = declarations_text names (k + 1) ds in
      let line : List ℕ = declaration_line names.sig writable (named_at k) d.sorts in
      let same_names = append_assoc p.names (named_at k ∷ []) (live_names names.preds (k + 1) ds) in
      let same_decls = append_assoc p.decls (declaration d.sorts ∷ []) (live_preds ds) ∙ ap (λ (e : PredDecl). p.decls ++ e ∷ live_preds ds) (declared_live d live) in
      let view : List (List ℕ) → List PredDecl → PredicatesView = λ ns es. record { names = ns; decls = es } in
      let text : (line ++ 10 ∷ []) ++ (lines ++ rest) ≡ (declaration_text names k d ++ lines) ++ rest =
      ap (λ (l : List ℕ). l ++ (lines ++ rest)) (sym (line_is k d)) ∙ sym (append_assoc (declaration_text names k d) lines rest) in
      runs_same (progress.Going (declaring names.sig new own same p)) end ((line ++ 10 ∷ []) ++ (lines ++ rest)) ((declaration_text names k d ++ lines) ++ rest) text
      (runs_line (progress.Going (declaring names.sig new own same p)) (progress.Going (declaring names.sig new own same (one_more p k d))) end line (lines ++ rest) (line_writes p k d ds h)
      (later (subst (λ q. RunsWith q end rest) (λ i. view (sym same_names i) (sym same_decls i)) runs)))

  -- the lines of the live predicates lead to the draft with them
  pub predicates_run : (ds : List PredDecl) (p : PredicatesView) (k : ℕ) (end : Progress) (rest : List ℕ) → CanFollow p k ds
      → RunsWith (with_live p k ds) end rest → RunsWith p end (declarations_text names k ds ++ rest)
  predicates_run [] p k end rest h runs =
      let same_names = append-nil p.names in
      let same_decls = append-nil p.decls in
      let view : List (List ℕ) → List PredDecl → PredicatesView = λ ns es. record { names = ns; decls = es } in
      let e : with_live p k [] ≡ p = λ i. view (same_names i) (same_decls i) in
      subst (λ q. RunsWith q end rest) e runs
  predicates_run (d ∷ ds) p k end rest h runs =
      by d.live refl
      (λ live. let come = can_come p k d ds live h in live_follows p k d ds end rest live come (predicates_run ds (one_more p k d) (k + 1) end rest come.later))
      (λ dead. predicates_run ds p (k + 1) end rest (skipped p k d ds dead h))
      runs
    where
      by : (b : Bool) → d.live ≡ b → (d.live ≡ true → Follows p k d ds end rest true) → (d.live ≡ false → Follows p k d ds end rest false) → Follows p k d ds end rest d.live
      by true e live dead = subst (Follows p k d ds end rest) (sym e) (live e)
      by false e live dead = subst (Follows p k d ds end rest) (sym e) (dead e)
