-- Operators are written as heads that are read again.
use Rattle.std.proofs.Common.{◌≡◌, ◌∙◌, sym, ap, refl, subst, ℕ, zero, suc, ◌+◌, true, false, not, ◌&&◌, List, [], ◌∷◌, ◌++◌, map, Option, Some, None, Ok, slice_get, option_map, option_and_then, codes, append_assoc, arith}
use Rattle.std.specs.Prelude.{IsTrue, is_some}
use Rattle.std.specs.List.{list_all}
use Rattle.chc_sexpr.specs.Spelling.{is_quotable}
use Rattle.std.proofs.lemmas.Bool.{false≢true, and_parts}
use Rattle.chc_sorts.specs.declared.data.Data.{Data}
use Rattle.chc_sorts.specs.declared.data.Ctor.{Ctor}
use Rattle.chc_sorts.specs.declared.data.Field.{Field}
use Rattle.chc_sorts.specs.declared.sort.Sort.{Sort}
use Rattle.chc_sorts.specs.declared.sort.Sort.TheVariants as sort
use Rattle.chc_sorts.specs.declared.op.Op.{Op}
use Rattle.chc_sorts.specs.declared.op.Op.TheVariants as op
use Rattle.chc_sorts.specs.declared.op_table.ReadOp.{ReadOp}
use Rattle.chc_sorts.specs.declared.op_table.ReadOp.TheVariants as read_op
use Rattle.chc_sorts.specs.declared.meaning.Meaning.TheVariants as meaning
use Rattle.chc_sorts.specs.Signature.{Signature}
use Rattle.chc_sorts.specs.Operators.{op_named}
use Rattle.chc_sorts.specs.Functions.{meaning_of}
use Rattle.chc_sexpr.specs.Symbols.{symbol_text}
use Rattle.chc_sexpr.specs.Tokens.{is_simple_symbol, is_reserved}
use Rattle.chc_sexpr.specs.declared.tree.Tree.{Tree}
use Rattle.chc_sexpr.specs.declared.tree.Tree.TheVariants.{Group}
use Rattle.chc_sexpr.proofs.Written.{Writes}
use Rattle.chc_sorts.specs.Sorts.{same_sorts}
use Rattle.chc_terms.specs.Sorted.{op_sort, op_fits, fields_of, when}
use Rattle.chc_terms.proofs.OperatorShapes.{when_some}
use Rattle.chc_print.specs.Texts.{op_text, sort_text, data_ctors, ctor_fields, name_of_ctor, name_of_field, ctor_name, field_name}
use Rattle.chc_elab.specs.declared.head.Head.{Head}
use Rattle.chc_elab.specs.declared.head.Head.TheVariants as head
use Rattle.chc_elab.specs.Sites.{Setting}
use Rattle.chc_elab.specs.Heads.{sort_tree}
use Rattle.chc_elab.specs.Stands.{Names, IsHead, IsArrayForm}
use Rattle.term_again.specs.Naming.{NamesAreRead}
use Rattle.term_again.proofs.TermTrees.{IsNone, Begins, IsSymbolOf, IsWordOf, writes_wider, text_writes, begin_at, last_at, group_writes, bare_writes, word_writes, name_writes}
use Rattle.term_again.proofs.TermSorts.{text-Array, array_sort_written}

-- the head that an operator is written as
abbrev pub head_for : Op → Head
head_for op.Not = head.Operator read_op.Not
head_for op.And = head.Operator read_op.And
head_for op.Or = head.Operator read_op.Or
head_for op.Eq = head.Operator read_op.Eq
head_for op.Ite = head.Operator read_op.Ite
head_for op.Add = head.Operator read_op.Add
head_for op.Sub = head.Operator read_op.Sub
head_for op.Mul = head.Operator read_op.Mul
head_for op.Div = head.Operator read_op.Div
head_for op.Mod = head.Operator read_op.Mod
head_for op.Le = head.Operator read_op.Le
head_for op.Lt = head.Operator read_op.Lt
head_for op.Select = head.Operator read_op.Select
head_for op.Store = head.Operator read_op.Store
head_for (op.Const element) = head.Constant (sort.Array element)
head_for (op.Make d c) = head.Make d c
head_for (op.Get d c i) = head.Get d c i
head_for (op.Is d c) = head.Is d c

-- ---- what stands in a signature

nothing_some : {A : Type 0} (x : A) → ◌≡◌ {A = Option A} None (Some x) → ⊥
nothing_some x e = cc

some_same : {A : Type 0} (x y : A) → ◌≡◌ {A = Option A} (Some x) (Some y) → x ≡ y
some_same x y e = cc

pub led_on : {A B : Type 0} (f : A → Option B) (o : Option A) (y : B) → option_and_then f o ≡ Some y → (x : A) × (o ≡ Some x) × (f x ≡ Some y)
led_on f None y h = absurd (nothing_some y h)
led_on f (Some x) y h = (x, refl, h)

mapped_from : {A B : Type 0} (f : A → B) (o : Option A) (y : B) → option_map f o ≡ Some y → (x : A) × (o ≡ Some x) × (f x ≡ y)
mapped_from f None y h = absurd (nothing_some y h)
mapped_from f (Some x) y h = (x, refl, some_same (f x) y h)

pub some_from : {A : Type 0} (o : Option A) → is_some o ≡ true → (x : A) × (o ≡ Some x)
some_from None h = absurd (false≢true h)
some_from (Some x) h = (x, refl)

-- the constructor of that number, which stands in the signature
pub record IsConstructor (sig : Signature) (d c : ℕ) (sorts : List Sort) : Type 0 where
  pub of : Data
  pub there : slice_get sig.datatypes d ≡ Some of
  pub is : Ctor
  pub at : slice_get of.ctors c ≡ Some is
  pub fields : map (λ (f : Field). f.sort) is.fields ≡ sorts

pub constructor_from : (sig : Signature) (d c : ℕ) (sorts : List Sort) → fields_of sig d c ≡ Some sorts → IsConstructor sig d c sorts
constructor_from sig d c sorts h =
    let first = led_on (λ (t : Data). option_map (λ (k : Ctor). map (λ (f : Field). f.sort) k.fields) (slice_get t.ctors c)) (slice_get sig.datatypes d) sorts h in
    let second = mapped_from (λ (k : Ctor). map (λ (f : Field). f.sort) k.fields) (slice_get first.0.ctors c) sorts first.2 in
    record { of = first.0; there = first.1; is = second.0; at = second.1; fields = second.2 }

field_from : (fs : List Field) (i : ℕ) (s : Sort) → slice_get (map (λ (f : Field). f.sort) fs) i ≡ Some s → (f : Field) × (slice_get fs i ≡ Some f)
field_from [] i s h = cc
field_from (f ∷ fs) zero s h = (f, refl)
field_from (f ∷ fs) (suc i) s h = field_from fs i s h

-- ---- heads

module _ (written : Signature) (setting : Setting) (prefix : List ℕ) (names : NamesAreRead written setting.sig prefix) where
  named_writes : (name : List ℕ) (h : Head) (deep : ℕ) → IsTrue (is_simple_symbol name) → IsTrue (not (is_reserved name)) → Names setting name h → Writes (λ tree. IsHead setting tree h) deep name
  named_writes name h deep simple free named =
      writes_wider (IsSymbolOf name) (λ tree. IsHead setting tree h) deep deep (omega arith)
      (λ tree is. subst (λ t. IsHead setting t h) (sym is.1) (IsHead.named_head is.0 name h named)) name (bare_writes deep name simple free)

  operator_writes : (name : List ℕ) (o : ReadOp) → IsTrue (is_simple_symbol name) → IsTrue (not (is_reserved name)) → op_named name ≡ Some o → Writes (λ tree. IsHead setting tree (head.Operator o)) 16 name
  operator_writes name o simple free named = named_writes name (head.Operator o) 16 simple free (Names.operator o named)

  symbol_writes : (name : List ℕ) (h : Head) → IsTrue (list_all is_quotable name) → Names setting name h → Writes (λ tree. IsHead setting tree h) 16 (symbol_text name)
  symbol_writes name h quotable named =
      writes_wider (IsSymbolOf name) (λ tree. IsHead setting tree h) 16 16 (omega arith)
      (λ tree is. subst (λ t. IsHead setting t h) (sym is.1) (IsHead.named_head is.0 name h named)) (symbol_text name) (name_writes 16 name quotable)

  -- the name of a constructor that stands there
  pub constructor_name : (d c : ℕ) (sorts : List Sort) (k : IsConstructor setting.sig d c sorts) → ctor_name written d c ≡ k.is.name
  constructor_name d c sorts k =
      ap (λ o. name_of_ctor (slice_get (data_ctors o) c)) (names.same d k.of k.there) ∙ ap name_of_ctor k.at

  make_writes : (d c : ℕ) (sorts : List Sort) → IsConstructor setting.sig d c sorts → Writes (λ tree. IsHead setting tree (head.Make d c)) 16 (symbol_text (ctor_name written d c))
  make_writes d c sorts k =
      let meant = names.constructor d c k.of k.is k.there k.at in
      text_writes (λ tree. IsHead setting tree (head.Make d c)) 16 (symbol_text k.is.name) (symbol_text (ctor_name written d c)) (ap symbol_text (sym (constructor_name d c sorts k)))
      (symbol_writes k.is.name (head.Make d c) meant.quotable (Names.constructor d c meant.plain meant.found))

  get_writes : (d c i : ℕ) (sorts : List Sort) (s : Sort) → IsConstructor setting.sig d c sorts → slice_get sorts i ≡ Some s
      → Writes (λ tree. IsHead setting tree (head.Get d c i)) 16 (symbol_text (field_name written d c i))
  get_writes d c i sorts s k at =
      let field = field_from k.is.fields i s (ap (λ (ss : List Sort). slice_get ss i) k.fields ∙ at) in
      let meant = names.selector d c i k.of k.is field.0 k.there k.at field.1 in
      let is : field_name written d c i ≡ field.0.name =
      ap (λ o. name_of_field (slice_get (ctor_fields (slice_get (data_ctors o) c)) i)) (names.same d k.of k.there) ∙ ap (λ o. name_of_field (slice_get (ctor_fields o) i)) k.at ∙ ap name_of_field field.1 in
      text_writes (λ tree. IsHead setting tree (head.Get d c i)) 16 (symbol_text field.0.name) (symbol_text (field_name written d c i)) (ap symbol_text (sym is))
      (symbol_writes field.0.name (head.Get d c i) meant.quotable (Names.selector d c i meant.plain meant.found))

  -- ---- `(_ is c)`

  abbrev IsTester : List ℕ → List Tree → Type 0
  IsTester name = Begins (IsWordOf (codes "_")) (Begins (IsSymbolOf (codes "is")) (Begins (IsSymbolOf name) IsNone))

  tester_stands : (name : List ℕ) (d c : ℕ) → meaning_of setting.sig name ≡ Some (meaning.Make d c) → (place : ℕ) (ts : List Tree) → IsTester name ts → IsHead setting (Group place ts) (head.Is d c)
  tester_stands name d c meant place [] h = absurd h
  tester_stands name d c meant place (a ∷ []) h = absurd h.1
  tester_stands name d c meant place (a ∷ b ∷ []) h = absurd h.1.1
  tester_stands name d c meant place (a ∷ b ∷ x ∷ []) h =
      subst (λ ts. IsHead setting (Group place ts) (head.Is d c)) (sym (λ j. h.0.1 j ∷ h.1.0.1 j ∷ h.1.1.0.1 j ∷ []))
      (IsHead.tester_head place h.0.0 h.1.0.0 h.1.1.0.0 name d c meant)
  tester_stands name d c meant place (a ∷ b ∷ x ∷ y ∷ more) h = absurd h.1.1.1

  tester_text : (text : List ℕ) → 40 ∷ (codes "_" ++ (codes " is" ++ (32 ∷ text))) ++ 41 ∷ [] ≡ codes "(_ is " ++ text ++ codes ")"
  tester_text text = refl

  is_writes : (d c : ℕ) (sorts : List Sort) → IsConstructor setting.sig d c sorts → Writes (λ tree. IsHead setting tree (head.Is d c)) 16 (codes "(_ is " ++ symbol_text (ctor_name written d c) ++ codes ")")
  is_writes d c sorts k =
      let meant = names.constructor d c k.of k.is k.there k.at in
      let name = k.is.name in
      let text = symbol_text name in
      text_writes (λ tree. IsHead setting tree (head.Is d c)) 16 (40 ∷ (codes "_" ++ (codes " is" ++ (32 ∷ text))) ++ 41 ∷ []) (codes "(_ is " ++ symbol_text (ctor_name written d c) ++ codes ")")
      (ap (λ n. codes "(_ is " ++ symbol_text n ++ codes ")") (sym (constructor_name d c sorts k)))
      (group_writes (IsTester name) (λ tree. IsHead setting tree (head.Is d c)) 15 (codes "_" ++ (codes " is" ++ (32 ∷ text)))
      (λ place. begin_at 15 false (IsWordOf (codes "_")) (Begins (IsSymbolOf (codes "is")) (Begins (IsSymbolOf name) IsNone)) place [] (codes "_") (codes " is" ++ (32 ∷ text)) refl
      (word_writes 15 (codes "_") refl (place + 0) (codes " is" ++ (32 ∷ text)) refl)
      (begin_at 15 false (IsSymbolOf (codes "is")) (Begins (IsSymbolOf name) IsNone) (place + 0 + 1) (32 ∷ []) (codes "is") (32 ∷ text) refl
      (bare_writes 15 (codes "is") refl refl (place + 0 + 1 + 1) (32 ∷ text) refl)
      (last_at 15 false (IsSymbolOf name) (place + 0 + 1 + 1 + 2) (32 ∷ []) text refl (name_writes 15 name meant.quotable))))
      (tester_stands name d c meant.found))

  -- ---- `(as const (Array Int S))`

  abbrev SpellsArray : Sort → Tree → Type 0
  SpellsArray s tree = (sort_tree setting tree ≡ Ok (sort.Array s)) × IsArrayForm tree

  abbrev IsConstant : Sort → List Tree → Type 0
  IsConstant s = Begins (IsWordOf (codes "as")) (Begins (IsSymbolOf (codes "const")) (Begins (SpellsArray s) IsNone))

  constant_stands : (s : Sort) (place : ℕ) (ts : List Tree) → IsConstant s ts → IsHead setting (Group place ts) (head.Constant (sort.Array s))
  constant_stands s place [] h = absurd h
  constant_stands s place (a ∷ []) h = absurd h.1
  constant_stands s place (a ∷ b ∷ []) h = absurd h.1.1
  constant_stands s place (a ∷ b ∷ x ∷ []) h =
      subst (λ ts. IsHead setting (Group place ts) (head.Constant (sort.Array s))) (sym (λ j. h.0.1 j ∷ h.1.0.1 j ∷ x ∷ []))
      (IsHead.constant_head place h.0.0 h.1.0.0 x (sort.Array s) h.1.1.0.1 h.1.1.0.0)
  constant_stands s place (a ∷ b ∷ x ∷ y ∷ more) h = absurd h.1.1.1

  constant_writes : (s : Sort) → op_fits setting.sig (op.Const s) ≡ true → Writes (λ tree. IsHead setting tree (head.Constant (sort.Array s))) 17 (op_text written (op.Const s))
  constant_writes s fits =
      let text = sort_text written (sort.Array s) in
      text_writes (λ tree. IsHead setting tree (head.Constant (sort.Array s))) 17 (40 ∷ (codes "as" ++ (codes " const" ++ (32 ∷ text))) ++ 41 ∷ []) (op_text written (op.Const s)) (constant_text s)
      (group_writes (IsConstant s) (λ tree. IsHead setting tree (head.Constant (sort.Array s))) 16 (codes "as" ++ (codes " const" ++ (32 ∷ text)))
      (λ place. begin_at 16 false (IsWordOf (codes "as")) (Begins (IsSymbolOf (codes "const")) (Begins (SpellsArray s) IsNone)) place [] (codes "as") (codes " const" ++ (32 ∷ text)) refl
      (word_writes 16 (codes "as") refl (place + 0) (codes " const" ++ (32 ∷ text)) refl)
      (begin_at 16 false (IsSymbolOf (codes "const")) (Begins (SpellsArray s) IsNone) (place + 0 + 2) (32 ∷ []) (codes "const") (32 ∷ text) refl
      (bare_writes 16 (codes "const") refl refl (place + 0 + 2 + 1) (32 ∷ text) refl)
      (last_at 16 false (SpellsArray s) (place + 0 + 2 + 1 + 5) (32 ∷ []) text refl (array_sort_written written setting.sig prefix names setting refl s fits))))
      (constant_stands s))
    where
      constant_text : (s : Sort) → 40 ∷ (codes "as" ++ (codes " const" ++ (32 ∷ sort_text written (sort.Array s)))) ++ 41 ∷ [] ≡ op_text written (op.Const s)
      constant_text s = ap (λ t. codes "(as const " ++ t ++ codes ")") (text-Array written setting.sig prefix names s) ∙ simp append_assoc

  -- ---- every operator

  headed_wider : (h : Head) (text : List ℕ) → Writes (λ tree. IsHead setting tree h) 16 text → Writes (λ tree. IsHead setting tree h) 17 text
  headed_wider h text = writes_wider (λ tree. IsHead setting tree h) (λ tree. IsHead setting tree h) 16 17 (omega arith) (λ tree is. is) text

  operator_at : (name : List ℕ) (o : ReadOp) → IsTrue (is_simple_symbol name) → IsTrue (not (is_reserved name)) → op_named name ≡ Some o → Writes (λ tree. IsHead setting tree (head.Operator o)) 17 name
  operator_at name o simple free named = headed_wider (head.Operator o) name (operator_writes name o simple free named)

  -- an operator that takes some arguments is written as its head
  pub head_writes : (o : Op) (ss : List Sort) (s : Sort) → op_sort setting.sig o ss ≡ Some s → op_fits setting.sig o ≡ true → Writes (λ tree. IsHead setting tree (head_for o)) 17 (op_text written o)
  head_writes op.Not ss s sorted fits = operator_at (codes "not") read_op.Not refl refl refl
  head_writes op.And ss s sorted fits = operator_at (codes "and") read_op.And refl refl refl
  head_writes op.Or ss s sorted fits = operator_at (codes "or") read_op.Or refl refl refl
  head_writes op.Eq ss s sorted fits = operator_at (codes "=") read_op.Eq refl refl refl
  head_writes op.Ite ss s sorted fits = operator_at (codes "ite") read_op.Ite refl refl refl
  head_writes op.Add ss s sorted fits = operator_at (codes "+") read_op.Add refl refl refl
  head_writes op.Sub ss s sorted fits = operator_at (codes "-") read_op.Sub refl refl refl
  head_writes op.Mul ss s sorted fits = operator_at (codes "*") read_op.Mul refl refl refl
  head_writes op.Div ss s sorted fits = operator_at (codes "div") read_op.Div refl refl refl
  head_writes op.Mod ss s sorted fits = operator_at (codes "mod") read_op.Mod refl refl refl
  head_writes op.Le ss s sorted fits = operator_at (codes "<=") read_op.Le refl refl refl
  head_writes op.Lt ss s sorted fits = operator_at (codes "<") read_op.Lt refl refl refl
  head_writes op.Select ss s sorted fits = operator_at (codes "select") read_op.Select refl refl refl
  head_writes op.Store ss s sorted fits = operator_at (codes "store") read_op.Store refl refl refl
  head_writes (op.Const element) ss s sorted fits = constant_writes element fits
  head_writes (op.Make d c) ss s sorted fits =
      let fields = led_on (λ (fields : List Sort). when (same_sorts ss fields) (sort.Data d)) (fields_of setting.sig d c) s sorted in
      headed_wider (head.Make d c) (op_text written (op.Make d c)) (make_writes d c fields.0 (constructor_from setting.sig d c fields.0 fields.1))
  head_writes (op.Get d c i) ss s sorted fits =
      let fields = led_on (λ (fields : List Sort). option_and_then (λ (s : Sort). when (same_sorts ss (sort.Data d ∷ [])) s) (slice_get fields i)) (fields_of setting.sig d c) s sorted in
      let field = led_on (λ (s : Sort). when (same_sorts ss (sort.Data d ∷ [])) s) (slice_get fields.0 i) s fields.2 in
      headed_wider (head.Get d c i) (op_text written (op.Get d c i)) (get_writes d c i fields.0 field.0 (constructor_from setting.sig d c fields.0 fields.1) field.1)
  head_writes (op.Is d c) ss s sorted fits =
      let test = when_some (is_some (fields_of setting.sig d c) && same_sorts ss (sort.Data d ∷ [])) sort.Bool s sorted in
      let fields = some_from (fields_of setting.sig d c) (and_parts (is_some (fields_of setting.sig d c)) (same_sorts ss (sort.Data d ∷ [])) test.0).0 in
      headed_wider (head.Is d c) (op_text written (op.Is d c)) (is_writes d c fields.0 (constructor_from setting.sig d c fields.0 fields.1))
