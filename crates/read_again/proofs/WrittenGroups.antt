-- The line of a group of datatypes is written as a tree from which the group is read.
use Rattle.std.proofs.Common.{◌≡◌, ◌∙◌, sym, ap, refl, ℕ, ◌+◌, ◌≤◌, pos, Bool, true, false, ◌&&◌, ◌||◌, cond, nat_eq, nat_lt, List, [], ◌∷◌, ◌++◌, length, map, Some, None, is_some, option_map, Ok, codes, append_assoc, arith}
use Rattle.std.specs.Prelude.{decimal}
use Rattle.std.specs.List.{list_all, list_any, AllByRecursion}
use Rattle.std.proofs.lemmas.Bool.{and_from, and_parts}
use Rattle.std.proofs.lemmas.Bool.Decides.{nat_tests}
use Rattle.std.proofs.lemmas.Fmt.{decimal_digit}
use Rattle.std.proofs.lemmas.List.{append-nil}
use Rattle.std.proofs.lemmas.Option.{none-some}
use Rattle.chc_sorts.specs.declared.sort.Sort.{fold-Sort}
use Rattle.chc_sorts.specs.declared.data.Data.{Data}
use Rattle.chc_sorts.specs.declared.data.Ctor.{Ctor}
use Rattle.chc_sorts.specs.declared.data.Field.{Field}
use Rattle.chc_sorts.specs.declared.spec.SortSpec.{SortSpec}
use Rattle.chc_sorts.specs.declared.spec.FieldSpec.{FieldSpec}
use Rattle.chc_sorts.specs.declared.spec.CtorSpec.{CtorSpec}
use Rattle.chc_sorts.specs.declared.spec.DataSpec.{DataSpec}
use Rattle.chc_sorts.specs.Signature.{Signature}
use Rattle.chc_sorts.specs.Sorts.{sort_depth, sort_fits, is_declared_step}
use Rattle.chc_sexpr.specs.declared.tree.Tree.{Tree, out-Tree}
use Rattle.chc_sexpr.specs.declared.tree.Tree.TheOpen.{Tree-F}
use Rattle.chc_sexpr.specs.declared.tree.Tree.TheVariants.{Group, outs-Numeral}
use Rattle.chc_sexpr.specs.Shapes.{symbol_of, group_of, form_of, form_at, word_of, word_at, is_name}
use Rattle.chc_sexpr.specs.Shapes as shapes
use Rattle.chc_sexpr.specs.Symbols.{symbol_text}
use Rattle.chc_sexpr.specs.Writing.{spaced, joined}
use Rattle.chc_sexpr.proofs.Written.{Writes, numeral_at as written_numeral}
use Rattle.chc_elab.specs.Sites.{Reading, faulty, ◌>>>◌}
use Rattle.chc_sexpr.specs.declared.fault.Fault.TheVariants.{NotSupported}
use Rattle.chc_state.specs.Names.{is_writable_name}
use Rattle.chc_script.specs.Datatypes.{numeral_at, numeral_of, pair_at, pair_of, has_arity, is_head, is_field, on_fields, is_ctor, begins_with_par, of_ctors, is_body, is_parametric, is_parametric_at, arities_read, head_read, arity_read, bodies_read, field_at, fields_after, ctor_at, ctors_after, data_at, datas_after, group_read, are_shaped}
use Rattle.chc_print.specs.Texts.{sort_text}
use Rattle.chc_print.specs.Datatypes.{field_text, ctor_text, ctors_text, arity_text, group_text}
use Rattle.read_again.specs.FirstGroups.{ctor_fits, data_fits, written_sort, field_again, ctor_again, data_again, group_again}
use Rattle.term_again.proofs.TermTrees.{Begins, IsNone, text_writes, last_at, group_writes, spaced_parted}
use Rattle.read_again.proofs.TreesInOrder.{EachIs, first_at, each_spaced, each_joined}
use Rattle.read_again.proofs.WrittenSorts.{IsNamed, writes_name, writes_word, named_symbol, group_of-Group, SpellsSort, AreWritable, sort_written}

-- ---- what the trees are

-- the tree is `(s S)`
pub record FieldIs (sig : Signature) (f : Field) (tree : Tree) : Type 0 where
  pub sort : Tree
  pub paired : pair_of tree ≡ Some (f.name, sort)
  pub spells : SpellsSort (written_sort sig f.sort) sort

-- the tree is `(c (s S) ..)`
pub record CtorIs (sig : Signature) (k : Ctor) (tree : Tree) : Type 0 where
  pub args : List Tree
  pub form : form_of tree ≡ Some (k.name, args)
  pub fields : EachIs (FieldIs sig) k.fields args

-- the tree is `((c (s S) ..) ..)`
pub record BodyIs (sig : Signature) (t : Data) (tree : Tree) : Type 0 where
  pub trees : List Tree
  pub group : group_of tree ≡ Some trees
  pub ctors : EachIs (CtorIs sig) t.ctors trees

-- the tree is `(T 0)`
pub record HeadIs (t : Data) (tree : Tree) : Type 0 where
  pub arity : Tree
  pub paired : pair_of tree ≡ Some (t.name, arity)
  pub zeroed : numeral_of arity ≡ Some (pos 0)

-- the tree is `(declare-datatypes ((T 0) ..) (((c (s S) ..) ..) ..))`
pub record GroupIs (sig : Signature) (ts : List Data) (tree : Tree) : Type 0 where
  pub heads : Tree
  pub bodies : Tree
  pub form : form_of tree ≡ Some (codes "declare-datatypes", heads ∷ bodies ∷ [])
  pub head_trees : List Tree
  pub head_group : group_of heads ≡ Some head_trees
  pub are_heads : EachIs HeadIs ts head_trees
  pub body_trees : List Tree
  pub body_group : group_of bodies ≡ Some body_trees
  pub are_bodies : EachIs (BodyIs sig) ts body_trees

-- ---- shapes of groups

pub form_of-Group : (place : ℕ) (name : List ℕ) (head : Tree) (args : List Tree) → IsNamed name head → form_of (Group place (head ∷ args)) ≡ Some (name, args)
form_of-Group place name head args is = ap form_at (group_of-Group place (head ∷ args)) ∙ ap (option_map (λ n. (n, args))) (named_symbol name head is)

pair_of-Group : (place : ℕ) (name : List ℕ) (head other : Tree) → IsNamed name head → pair_of (Group place (head ∷ other ∷ [])) ≡ Some (name, other)
pair_of-Group place name head other is = ap pair_at (group_of-Group place (head ∷ other ∷ [])) ∙ ap (option_map (λ n. (n, other))) (named_symbol name head is)

-- ---- they are written

pub shallow_sort : (n : ℕ) → nat_lt n 17 ≡ true → n ≤ 16 + 1
shallow_sort n h = grind (arith, nat_tests)

-- the names of a constructor and its selectors can be written
abbrev pub is_writable_ctor : Ctor → Bool
is_writable_ctor k = is_writable_name k.name && list_all (λ (f : Field). is_writable_name f.name) k.fields

abbrev pub is_writable_data : Data → Bool
is_writable_data t = is_writable_name t.name && list_all is_writable_ctor t.ctors

module _ (sig new : Signature) (writable : AreWritable sig) where
  field_is : (f : Field) (place : ℕ) (ts : List Tree) → Begins (IsNamed f.name) (Begins (SpellsSort (written_sort sig f.sort)) IsNone) ts → FieldIs sig f (Group place ts)
  field_is f place [] h = absurd h
  field_is f place (a ∷ []) h = absurd h.1
  field_is f place (a ∷ b ∷ []) h = record { sort = b; paired = pair_of-Group place f.name a b h.0; spells = h.1.0 }
  field_is f place (a ∷ b ∷ c ∷ more) h = absurd h.1.1

  field_writes : (f : Field) → sort_fits new f.sort ≡ true → is_writable_name f.name ≡ true → Writes (FieldIs sig f) 17 (field_text sig f)
  field_writes f shallow named =
      let name : List ℕ = symbol_text f.name in
      let last : List ℕ = sort_text sig f.sort in
      text_writes (FieldIs sig f) 17 (40 ∷ (name ++ 32 ∷ last) ++ 41 ∷ []) (field_text sig f) (simp append_assoc refl)
      (group_writes (Begins (IsNamed f.name) (Begins (SpellsSort (written_sort sig f.sort)) IsNone)) (FieldIs sig f) 16 (name ++ 32 ∷ last)
      (λ place. first_at 16 false (IsNamed f.name) (Begins (SpellsSort (written_sort sig f.sort)) IsNone) place [] name (32 ∷ last) refl refl (writes_name 16 f.name named)
      (λ next. last_at 16 false (SpellsSort (written_sort sig f.sort)) next (32 ∷ []) last refl (sort_written sig writable f.sort 16 (shallow_sort (sort_depth f.sort) (and_parts (fold-Sort Bool (is_declared_step new) f.sort) (nat_lt (sort_depth f.sort) 17) shallow).1))))
      (field_is f))

  fields_write : (fs : List Field) → list_all (λ (f : Field). sort_fits new f.sort) fs ≡ true → list_all (λ (f : Field). is_writable_name f.name) fs ≡ true
      → AllByRecursion (λ f. Writes (FieldIs sig f) 17 (field_text sig f)) fs
  fields_write [] shallow named = tt
  fields_write (f ∷ fs) shallow named =
      let parts = and_parts (is_writable_name f.name) (list_all (λ (g : Field). is_writable_name g.name) fs) named in
      let fit = and_parts (sort_fits new f.sort) (list_all (λ (g : Field). sort_fits new g.sort) fs) shallow in
      (field_writes f fit.0 parts.0, fields_write fs fit.1 parts.1)

  ctor_is : (k : Ctor) (place : ℕ) (ts : List Tree) → Begins (IsNamed k.name) (EachIs (FieldIs sig) k.fields) ts → CtorIs sig k (Group place ts)
  ctor_is k place [] h = absurd h
  ctor_is k place (head ∷ args) h = record { args = args; form = form_of-Group place k.name head args h.0; fields = h.1 }

  ctor_writes : (k : Ctor) → ctor_fits new k ≡ true → is_writable_ctor k ≡ true → Writes (CtorIs sig k) 18 (ctor_text sig k)
  ctor_writes k shallow named =
      let parts = and_parts (is_writable_name k.name) (list_all (λ (f : Field). is_writable_name f.name) k.fields) named in
      let name : List ℕ = symbol_text k.name in
      let fields : List ℕ = spaced (map (field_text sig) k.fields) in
      text_writes (CtorIs sig k) 18 (40 ∷ (name ++ fields) ++ 41 ∷ []) (ctor_text sig k) (simp append_assoc refl)
      (group_writes (Begins (IsNamed k.name) (EachIs (FieldIs sig) k.fields)) (CtorIs sig k) 17 (name ++ fields)
      (λ place. first_at 17 false (IsNamed k.name) (EachIs (FieldIs sig) k.fields) place [] name fields refl (spaced_parted (map (field_text sig) k.fields)) (writes_name 17 k.name parts.0)
      (each_spaced (FieldIs sig) (field_text sig) 17 false k.fields (fields_write k.fields shallow parts.1)))
      (ctor_is k))

  ctors_write : (ks : List Ctor) → list_all (ctor_fits new) ks ≡ true → list_all is_writable_ctor ks ≡ true → AllByRecursion (λ k. Writes (CtorIs sig k) 18 (ctor_text sig k)) ks
  ctors_write [] shallow named = tt
  ctors_write (k ∷ ks) shallow named =
      let parts = and_parts (is_writable_ctor k) (list_all is_writable_ctor ks) named in
      let fit = and_parts (ctor_fits new k) (list_all (ctor_fits new) ks) shallow in
      (ctor_writes k fit.0 parts.0, ctors_write ks fit.1 parts.1)

  body_writes : (t : Data) → data_fits new t ≡ true → is_writable_data t ≡ true → Writes (BodyIs sig t) 19 (ctors_text sig t)
  body_writes t shallow named =
      let parts = and_parts (is_writable_name t.name) (list_all is_writable_ctor t.ctors) named in
      group_writes (EachIs (CtorIs sig) t.ctors) (BodyIs sig t) 18 (joined (map (ctor_text sig) t.ctors))
      (each_joined (CtorIs sig) (ctor_text sig) 18 false t.ctors (ctors_write t.ctors shallow parts.1))
      (λ place ts h. record { trees = ts; group = group_of-Group place ts; ctors = h })

  bodies_write : (ts : List Data) → list_all (data_fits new) ts ≡ true → list_all is_writable_data ts ≡ true → AllByRecursion (λ t. Writes (BodyIs sig t) 19 (ctors_text sig t)) ts
  bodies_write [] shallow named = tt
  bodies_write (t ∷ ts) shallow named =
      let parts = and_parts (is_writable_data t) (list_all is_writable_data ts) named in
      let fit = and_parts (data_fits new t) (list_all (data_fits new) ts) shallow in
      (body_writes t fit.0 parts.0, bodies_write ts fit.1 parts.1)

-- the numeral 0
abbrev IsZero : Tree → Type 0
IsZero tree = numeral_of tree ≡ Some (pos 0)

zero_writes : (deep : ℕ) → Writes IsZero deep (codes "0")
zero_writes deep = text_writes IsZero deep (decimal 0) (codes "0") (decimal_digit 0 (omega arith)) (λ place after parted. written_numeral IsZero deep place 0 after parted (omega arith) (ap numeral_at (outs-Numeral place (pos 0))))

head_is : (t : Data) (place : ℕ) (ts : List Tree) → Begins (IsNamed t.name) (Begins IsZero IsNone) ts → HeadIs t (Group place ts)
head_is t place [] h = absurd h
head_is t place (a ∷ []) h = absurd h.1
head_is t place (a ∷ b ∷ []) h = record { arity = b; paired = pair_of-Group place t.name a b h.0; zeroed = h.1.0 }
head_is t place (a ∷ b ∷ c ∷ more) h = absurd h.1.1

head_writes : (t : Data) → is_writable_name t.name ≡ true → Writes (HeadIs t) 19 (arity_text t)
head_writes t named =
    let name : List ℕ = symbol_text t.name in
    text_writes (HeadIs t) 19 (40 ∷ (name ++ 32 ∷ codes "0") ++ 41 ∷ []) (arity_text t) (simp append_assoc refl)
    (group_writes (Begins (IsNamed t.name) (Begins IsZero IsNone)) (HeadIs t) 18 (name ++ 32 ∷ codes "0")
    (λ place. first_at 18 false (IsNamed t.name) (Begins IsZero IsNone) place [] name (32 ∷ codes "0") refl refl (writes_name 18 t.name named)
    (λ next. last_at 18 false IsZero next (32 ∷ []) (codes "0") refl (zero_writes 18)))
    (head_is t))

heads_write : (ts : List Data) → list_all is_writable_data ts ≡ true → AllByRecursion (λ t. Writes (HeadIs t) 19 (arity_text t)) ts
heads_write [] named = tt
heads_write (t ∷ ts) named =
    let parts = and_parts (is_writable_data t) (list_all is_writable_data ts) named in
    (head_writes t (and_parts (is_writable_name t.name) (list_all is_writable_ctor t.ctors) parts.0).0, heads_write ts parts.1)

-- the parts of a line side by side
two_groups : (word p q : List ℕ) → 40 ∷ (word ++ (32 ∷ 40 ∷ (p ++ (41 ∷ 32 ∷ 40 ∷ (q ++ (41 ∷ 41 ∷ 10 ∷ []))))))
    ≡ (40 ∷ (word ++ (32 ∷ (40 ∷ p ++ 41 ∷ []) ++ (32 ∷ (40 ∷ q ++ 41 ∷ [])))) ++ 41 ∷ []) ++ 10 ∷ []
two_groups word p q =
    let second : List ℕ = 32 ∷ 40 ∷ (q ++ 41 ∷ []) in
    let both : List ℕ = 32 ∷ 40 ∷ ((p ++ 41 ∷ []) ++ second) in
    let last : (q ++ 41 ∷ []) ++ 41 ∷ 10 ∷ [] ≡ q ++ (41 ∷ 41 ∷ 10 ∷ []) = append_assoc q (41 ∷ []) (41 ∷ 10 ∷ []) in
    let first : ((p ++ 41 ∷ []) ++ second) ++ 41 ∷ 10 ∷ [] ≡ p ++ (41 ∷ 32 ∷ 40 ∷ (q ++ (41 ∷ 41 ∷ 10 ∷ []))) =
    append_assoc (p ++ 41 ∷ []) second (41 ∷ 10 ∷ []) ∙ append_assoc p (41 ∷ []) (second ++ 41 ∷ 10 ∷ []) ∙ ap (λ (l : List ℕ). p ++ (41 ∷ 32 ∷ 40 ∷ l)) last in
    let whole : ((word ++ both) ++ 41 ∷ []) ++ 10 ∷ [] ≡ word ++ (32 ∷ 40 ∷ (p ++ (41 ∷ 32 ∷ 40 ∷ (q ++ (41 ∷ 41 ∷ 10 ∷ []))))) =
    append_assoc (word ++ both) (41 ∷ []) (10 ∷ []) ∙ append_assoc word both (41 ∷ 10 ∷ []) ∙ ap (λ (l : List ℕ). word ++ (32 ∷ 40 ∷ l)) first in
    ap (λ (l : List ℕ). 40 ∷ l) (sym whole)

text_of_two : (p q : List ℕ) → codes "(declare-datatypes (" ++ p ++ codes ") (" ++ q ++ codes "))\n" ≡ 40 ∷ (codes "declare-datatypes" ++ (32 ∷ 40 ∷ (p ++ (41 ∷ 32 ∷ 40 ∷ (q ++ (41 ∷ 41 ∷ 10 ∷ []))))))
text_of_two p q = simp append_assoc refl

module _ (sig : Signature) (ts : List Data) where
  abbrev heads_text : List ℕ
  heads_text = 40 ∷ joined (map arity_text ts) ++ 41 ∷ []

  abbrev bodies_text : List ℕ
  bodies_text = 40 ∷ joined (map (ctors_text sig) ts) ++ 41 ∷ []

  -- a group's line, without its end
  abbrev pub group_line : List ℕ
  group_line = 40 ∷ (codes "declare-datatypes" ++ (32 ∷ heads_text ++ (32 ∷ bodies_text))) ++ 41 ∷ []

  pub group_line_ends : group_text sig ts ≡ group_line ++ 10 ∷ []
  group_line_ends = text_of_two (joined (map arity_text ts)) (joined (map (ctors_text sig) ts)) ∙ two_groups (codes "declare-datatypes") (joined (map arity_text ts)) (joined (map (ctors_text sig) ts))

  abbrev HeadsAre : Tree → Type 0
  HeadsAre tree = (trees : List Tree) × (group_of tree ≡ Some trees) × EachIs HeadIs ts trees

  abbrev BodiesAre : Tree → Type 0
  BodiesAre tree = (trees : List Tree) × (group_of tree ≡ Some trees) × EachIs (BodyIs sig) ts trees

  group_is : (place : ℕ) (trees : List Tree) → Begins (IsNamed (codes "declare-datatypes")) (Begins HeadsAre (Begins BodiesAre IsNone)) trees → GroupIs sig ts (Group place trees)
  group_is place [] h = absurd h
  group_is place (a ∷ []) h = absurd h.1
  group_is place (a ∷ b ∷ []) h = absurd h.1.1
  group_is place (a ∷ b ∷ c ∷ []) h = record {
    heads = b;
    bodies = c;
    form = form_of-Group place (codes "declare-datatypes") a (b ∷ c ∷ []) h.0;
    head_trees = h.1.0.0;
    head_group = h.1.0.1;
    are_heads = h.1.0.2;
    body_trees = h.1.1.0.0;
    body_group = h.1.1.0.1;
    are_bodies = h.1.1.0.2;
  }
  group_is place (a ∷ b ∷ c ∷ d ∷ more) h = absurd h.1.1.1

  -- a group's line is written as its tree
  pub group_written : (new : Signature) → AreWritable sig → list_all (data_fits new) ts ≡ true → list_all is_writable_data ts ≡ true → Writes (GroupIs sig ts) 21 group_line
  group_written new writable shallow named =
      group_writes (Begins (IsNamed (codes "declare-datatypes")) (Begins HeadsAre (Begins BodiesAre IsNone))) (GroupIs sig ts) 20 (codes "declare-datatypes" ++ (32 ∷ heads_text ++ (32 ∷ bodies_text)))
      (λ place. first_at 20 false (IsNamed (codes "declare-datatypes")) (Begins HeadsAre (Begins BodiesAre IsNone)) place [] (codes "declare-datatypes") (32 ∷ heads_text ++ (32 ∷ bodies_text)) refl refl
      (writes_word 20 (codes "declare-datatypes") refl refl)
      (λ next. first_at 20 false HeadsAre (Begins BodiesAre IsNone) next (32 ∷ []) heads_text (32 ∷ bodies_text) refl refl
      (group_writes (EachIs HeadIs ts) HeadsAre 19 (joined (map arity_text ts)) (each_joined HeadIs arity_text 19 false ts (heads_write ts named)) (λ there trees h. (trees, group_of-Group there trees, h)))
      (λ last. last_at 20 false BodiesAre last (32 ∷ []) bodies_text refl
      (group_writes (EachIs (BodyIs sig) ts) BodiesAre 19 (joined (map (ctors_text sig) ts)) (each_joined (BodyIs sig) (ctors_text sig) 19 false ts (bodies_write sig new writable ts shallow named)) (λ there trees h. (trees, group_of-Group there trees, h))))))
      group_is

-- ---- they are read

module _ (sig : Signature) (place : ℕ) where
  fields_shaped : (fs : List Field) (ts : List Tree) → EachIs (FieldIs sig) fs ts → list_all is_field ts ≡ true
  fields_shaped [] [] h = refl
  fields_shaped [] (t ∷ ts) h = absurd h
  fields_shaped (f ∷ fs) [] h = absurd h
  fields_shaped (f ∷ fs) (t ∷ ts) h = and_from (is_field t) (list_all is_field ts) (ap is_some h.0.paired) (fields_shaped fs ts h.1)

  fields_read : (made : List FieldSpec) (fs : List Field) (ts : List Tree) → EachIs (FieldIs sig) fs ts → fields_after place made ts ≡ Ok (made ++ map (field_again sig) fs)
  fields_read made [] [] h = ap Ok (sym (append-nil made))
  fields_read made [] (t ∷ ts) h = absurd h
  fields_read made (f ∷ fs) [] h = absurd h
  fields_read made (f ∷ fs) (t ∷ ts) h =
      ap (λ o. field_at place o >>> (λ g. fields_after place (made ++ g ∷ []) ts)) h.0.paired
      ∙ ap (λ r. r >>> (λ s. Ok (field_of s)) >>> (λ g. fields_after place (made ++ g ∷ []) ts)) h.0.spells
      ∙ fields_read (made ++ field_again sig f ∷ []) fs ts h.1
      ∙ ap Ok (append_assoc made (field_again sig f ∷ []) (map (field_again sig) fs))
    where
      field_of : SortSpec → FieldSpec
      field_of s = record { name = f.name; sort = s }

  ctors_shaped : (ks : List Ctor) (ts : List Tree) → EachIs (CtorIs sig) ks ts → list_all is_ctor ts ≡ true
  ctors_shaped [] [] h = refl
  ctors_shaped [] (t ∷ ts) h = absurd h
  ctors_shaped (k ∷ ks) [] h = absurd h
  ctors_shaped (k ∷ ks) (t ∷ ts) h = and_from (is_ctor t) (list_all is_ctor ts) (ap on_fields h.0.form ∙ fields_shaped k.fields h.0.args h.0.fields) (ctors_shaped ks ts h.1)

  ctors_read : (made : List CtorSpec) (ks : List Ctor) (ts : List Tree) → EachIs (CtorIs sig) ks ts → ctors_after place made ts ≡ Ok (made ++ map (ctor_again sig) ks)
  ctors_read made [] [] h = ap Ok (sym (append-nil made))
  ctors_read made [] (t ∷ ts) h = absurd h
  ctors_read made (k ∷ ks) [] h = absurd h
  ctors_read made (k ∷ ks) (t ∷ ts) h =
      ap (λ o. ctor_at place o >>> (λ c. ctors_after place (made ++ c ∷ []) ts)) h.0.form
      ∙ ap (λ r. r >>> (λ fields. Ok (ctor_of fields)) >>> (λ c. ctors_after place (made ++ c ∷ []) ts)) (fields_read [] k.fields h.0.args h.0.fields)
      ∙ ctors_read (made ++ ctor_again sig k ∷ []) ks ts h.1
      ∙ ap Ok (append_assoc made (ctor_again sig k ∷ []) (map (ctor_again sig) ks))
    where
      ctor_of : List FieldSpec → CtorSpec
      ctor_of fields = record { name = k.name; fields = fields }

  -- no tree of a constructor is the word `par`
  no_word : (l : Tree-F Tree) (x : List ℕ × List Tree) → form_at (shapes.group_at l) ≡ Some x → word_at l ≡ None
  no_word (Tree-F.Symbol at name) x h = refl
  no_word (Tree-F.Word at word) x h = absurd (none-some x h)
  no_word (Tree-F.Keyword at word) x h = refl
  no_word (Tree-F.Numeral at number) x h = refl
  no_word (Tree-F.Text at bytes) x h = refl
  no_word (Tree-F.Other at token) x h = refl
  no_word (Tree-F.Group at trees) x h = refl

  without_par : (ks : List Ctor) (ts : List Tree) → EachIs (CtorIs sig) ks ts → begins_with_par ts ≡ false
  without_par [] [] h = refl
  without_par [] (t ∷ ts) h = absurd h
  without_par (k ∷ ks) [] h = absurd h
  without_par (k ∷ ks) (t ∷ ts) h = ap (is_name (codes "par")) (no_word (out-Tree t) (k.name, h.0.args) h.0.form)

  bodies_shaped : (ds : List Data) (ts : List Tree) → EachIs (BodyIs sig) ds ts → list_all is_body ts ≡ true
  bodies_shaped [] [] h = refl
  bodies_shaped [] (t ∷ ts) h = absurd h
  bodies_shaped (d ∷ ds) [] h = absurd h
  bodies_shaped (d ∷ ds) (t ∷ ts) h =
      and_from (is_body t) (list_all is_body ts)
      (ap of_ctors h.0.group ∙ (λ i. without_par d.ctors h.0.trees h.0.ctors i || ctors_shaped d.ctors h.0.trees h.0.ctors i)) (bodies_shaped ds ts h.1)

  none_parametric : (ds : List Data) (ts : List Tree) → EachIs (BodyIs sig) ds ts → list_any is_parametric ts ≡ false
  none_parametric [] [] h = refl
  none_parametric [] (t ∷ ts) h = absurd h
  none_parametric (d ∷ ds) [] h = absurd h
  none_parametric (d ∷ ds) (t ∷ ts) h = ap (λ o. is_parametric_at o || list_any is_parametric ts) h.0.group ∙ ap (λ b. b || list_any is_parametric ts) (without_par d.ctors h.0.trees h.0.ctors) ∙ none_parametric ds ts h.1

  heads_shaped : (ds : List Data) (ts : List Tree) → EachIs HeadIs ds ts → list_all is_head ts ≡ true
  heads_shaped [] [] h = refl
  heads_shaped [] (t ∷ ts) h = absurd h
  heads_shaped (d ∷ ds) [] h = absurd h
  heads_shaped (d ∷ ds) (t ∷ ts) h = and_from (is_head t) (list_all is_head ts) (ap has_arity h.0.paired ∙ ap is_some h.0.zeroed) (heads_shaped ds ts h.1)

  zero_arities : (ds : List Data) (ts : List Tree) → EachIs HeadIs ds ts → arities_read place ts ≡ Ok tt
  zero_arities [] [] h = refl
  zero_arities [] (t ∷ ts) h = absurd h
  zero_arities (d ∷ ds) [] h = absurd h
  zero_arities (d ∷ ds) (t ∷ ts) h =
      ap (λ o. head_read place o >>> (λ _. arities_read place ts)) h.0.paired
      ∙ ap (λ o. arity_read place h.0.arity o >>> (λ _. arities_read place ts)) h.0.zeroed
      ∙ zero_arities ds ts h.1

  counted : {X : Type 0} (kind : X → Tree → Type 0) (xs : List X) (ts : List Tree) → EachIs kind xs ts → length ts ≡ length xs
  counted kind [] [] h = refl
  counted kind [] (t ∷ ts) h = absurd h
  counted kind (x ∷ xs) [] h = absurd h
  counted kind (x ∷ xs) (t ∷ ts) h = omega (arith, counted kind xs ts h.1)

  datas_read : (made : List DataSpec) (ds : List Data) (heads bodies : List Tree) → EachIs HeadIs ds heads → EachIs (BodyIs sig) ds bodies
      → datas_after place made heads bodies ≡ Ok (made ++ group_again sig ds)
  datas_read made [] [] bodies h b = ap Ok (sym (append-nil made))
  datas_read made [] (t ∷ ts) bodies h b = absurd h
  datas_read made (d ∷ ds) [] bodies h b = absurd h
  datas_read made (d ∷ ds) (t ∷ ts) [] h b = absurd b
  datas_read made (d ∷ ds) (t ∷ ts) (u ∷ us) h b =
      (λ i. data_at place (option_map (λ p. p.0) (h.0.paired i)) (b.0.group i) >>> (λ s. datas_after place (made ++ s ∷ []) ts us))
      ∙ ap (λ r. r >>> (λ ctors. Ok (data_of ctors)) >>> (λ s. datas_after place (made ++ s ∷ []) ts us)) (ctors_read [] d.ctors b.0.trees b.0.ctors)
      ∙ datas_read (made ++ data_again sig d ∷ []) ds ts us h.1 b.1
      ∙ ap Ok (append_assoc made (data_again sig d ∷ []) (group_again sig ds))
    where
      data_of : List CtorSpec → DataSpec
      data_of ctors = record { name = d.name; ctors = ctors }

  same_number : (m n k : ℕ) → m ≡ k → n ≡ k → nat_eq m n ≡ true
  same_number m n k p q = grind (arith, nat_tests)

  -- the trees of a group are shaped as such, and the group is read from them
  pub group_shaped : (ds : List Data) (tree : Tree) (g : GroupIs sig ds tree) → are_shaped g.head_trees g.body_trees ≡ true
  group_shaped ds tree g =
      and_from (list_all is_head g.head_trees && list_all is_body g.body_trees) (nat_eq (length g.head_trees) (length g.body_trees))
      (and_from (list_all is_head g.head_trees) (list_all is_body g.body_trees) (heads_shaped ds g.head_trees g.are_heads) (bodies_shaped ds g.body_trees g.are_bodies))
      (same_number (length g.head_trees) (length g.body_trees) (length ds) (counted HeadIs ds g.head_trees g.are_heads) (counted (BodyIs sig) ds g.body_trees g.are_bodies))

  pub group_is_read : (ds : List Data) (tree : Tree) (g : GroupIs sig ds tree) → group_read place g.head_trees g.body_trees ≡ Ok (group_again sig ds)
  group_is_read ds tree g =
      ap (λ r. r >>> (λ _. bodies_read place g.body_trees >>> (λ _. datas_after place [] g.head_trees g.body_trees))) (zero_arities ds g.head_trees g.are_heads)
      ∙ ap (λ b. cond b (bodies_fault) (Ok tt) >>> (λ _. datas_after place [] g.head_trees g.body_trees)) (none_parametric ds g.body_trees g.are_bodies)
      ∙ datas_read [] ds g.head_trees g.body_trees g.are_heads g.are_bodies
    where
      bodies_fault : Reading (Unit {0})
      bodies_fault = faulty place NotSupported (codes "par")
