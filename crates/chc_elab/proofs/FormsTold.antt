-- Heads and forms that are read are those of their trees.
use Rattle.std.proofs.Common.{◌≡◌, ◌∙◌, ◌⊎◌, inl, inr, sym, ap, subst, refl, ℕ, ℤ, pos, negsuc, ◌<◌, Bool, true, false, cond, ltb, int_lt, List, [], ◌∷◌, ◌++◌, take, drop, Option, Some, None, Ok, codes}
use Rattle.std.specs.Option.{option_map, option_and_then}
use Rattle.std.specs.Str.{bytes_eq}
use Rattle.std.proofs.lemmas.Bool.{ltb-true}
use Rattle.std.proofs.lemmas.List.{take-append-drop}
use Rattle.std.proofs.lemmas.Slice.Eq.{bytes_eq-Decides}
use Rattle.chc_sorts.specs.declared.sort.Sort.{Sort}
use Rattle.chc_sorts.specs.declared.meaning.Meaning.{Meaning}
use Rattle.chc_sorts.specs.declared.meaning.Meaning.TheVariants as meaning
use Rattle.chc_sorts.specs.declared.op_table.ReadOp.{ReadOp}
use Rattle.chc_sorts.specs.Names.{look_up}
use Rattle.chc_sorts.specs.Operators.{op_named}
use Rattle.chc_sorts.specs.Functions.{meaning_of}
use Rattle.chc_sexpr.specs.declared.tree.Tree.{Tree, out-Tree, roll-Tree, roll-out-Tree}
use Rattle.chc_sexpr.specs.declared.tree.Tree.TheOpen.{Tree-F}
use Rattle.chc_sexpr.specs.declared.tree.Tree.TheVariants as tree
use Rattle.chc_sexpr.specs.declared.fault.TextFault.{TextFault}
use Rattle.chc_sexpr.specs.declared.fault.Fault.TheVariants.{BadCommand, UnknownName, NotSupported}
use Rattle.chc_sexpr.specs.Writing.{tree_text}
use Rattle.chc_sexpr.specs.Shapes.{symbol_of, word_of, is_name, is_symbol, pair_of}
use Rattle.chc_terms.specs.declared.term.Kind.TheVariants as kind
use Rattle.chc_elab.specs.declared.symbols.Symbol.{Symbol}
use Rattle.chc_elab.specs.declared.head.Head.{Head}
use Rattle.chc_elab.specs.declared.head.Head.TheVariants as head
use Rattle.chc_elab.specs.declared.form.Form.{Form}
use Rattle.chc_elab.specs.declared.form.Form.TheVariants as form
use Rattle.chc_elab.specs.Sites.{Setting, Reading, faulty, or_fault, ◌>>>◌}
use Rattle.chc_elab.specs.SortTrees.{place_at}
use Rattle.chc_elab.specs.Heads.{symbol_head, constructor_meant, constructor_named, constructor_at, tester, tested_name, head_named, unsupported, positive_at, tester_head, divisible_head, indexed_head, sort_tree, of_sort, const_constructor, named_constructor, const_head, const_in_head, qualified, qualified_head, worded_head, group_head, lone_qualified}
use Rattle.chc_elab.specs.Forms.{word_form, form_of}
use Rattle.chc_elab.specs.Forms as forms
use Rattle.chc_elab.specs.Stands as stands
use Rattle.chc_elab.specs.Stands.{Names, IsHead, IsOfSort, IsArrayForm, kind_word}
use Rattle.chc_elab.proofs.Readings.{some_same, none_some, ok_same, err_ok, bind_ok, or_fault_ok, cond_some}
use Rattle.chc_elab.proofs.ShapeLaws.{is_Symbol, is_Word}
use Rattle.chc_elab.proofs.FormLaws.{by_order, tests, array_told, array_form}

map_some : {A B : Type 0} (f : A → B) (o : Option A) (y : B) → option_map f o ≡ Some y → (x : A) × (o ≡ Some x) × (f x ≡ y)
map_some f None y h = absurd (none_some y h)
map_some f (Some x) y h = (x, refl, some_same (f x) y h)

then_some : {A B : Type 0} (f : A → Option B) (o : Option A) (y : B) → option_and_then f o ≡ Some y → (x : A) × (o ≡ Some x) × (f x ≡ Some y)
then_some f None y h = absurd (none_some y h)
then_some f (Some x) y h = (x, refl, h)

false_true : false ≡ true → ⊥
false_true h = cc

-- the fault of a form that isn't read
abbrev unsupported_fault : Tree → TextFault
unsupported_fault t = record { place = place_at (out-Tree t); fault = NotSupported; name = tree_text t }

tested_told : (name tested : List ℕ) → tested_name name ≡ Some tested → name ≡ codes "is-" ++ tested
tested_told name tested h =
    let parts = cond_some (bytes_eq (take 3 name) (codes "is-")) (drop 3 name) tested h in
    let front = (bytes_eq-Decides (take 3 name) (codes "is-")).0 parts.0 in
    sym (take-append-drop 3 name) ∙ (λ i. front i ++ parts.1 i)

symbol_told : (name : List ℕ) (s : Tree) → is_symbol name s ≡ true → (i : ℕ) × (s ≡ tree.Symbol i name)
symbol_told name s h = by (symbol_of s) refl h
  where
    by : (o : Option (List ℕ)) → symbol_of s ≡ o → is_name name o ≡ true → (i : ℕ) × (s ≡ tree.Symbol i name)
    by None e h = absurd (false_true h)
    by (Some other) e h =
        let symbol = is_Symbol s other e in
        (symbol.0, symbol.1 ∙ ap (tree.Symbol symbol.0) ((bytes_eq-Decides other name).0 h))

-- a numeral above 0
abbrev IsPositive : Tree → ℤ → Type 0
IsPositive t m = (j : ℕ) × (n : ℕ) × (t ≡ tree.Numeral j (pos n)) × (0 < n) × (pos n ≡ m)

positive_number : (j : ℕ) (t : Tree) (z m : ℤ) → t ≡ tree.Numeral j z → cond (int_lt (pos 0) z) (Some z) None ≡ Some m → IsPositive t m
positive_number j t (pos n) m is h =
    let parts = cond_some (ltb 0 n) (pos n) m h in
    (j, n, is, ltb-true 0 n parts.0, parts.1)
positive_number j t (negsuc n) m is h = absurd (none_some m h)

positive_level : (t : Tree) (y : Tree-F Tree) (m : ℤ) → roll-Tree y ≡ t → positive_at y ≡ Some m → IsPositive t m
positive_level t (Tree-F.Symbol place name) m is h = absurd (none_some m h)
positive_level t (Tree-F.Word place word) m is h = absurd (none_some m h)
positive_level t (Tree-F.Keyword place word) m is h = absurd (none_some m h)
positive_level t (Tree-F.Numeral place z) m is h = positive_number place t z m (sym is ∙ tree.rolls-Numeral place z) h
positive_level t (Tree-F.Text place bytes) m is h = absurd (none_some m h)
positive_level t (Tree-F.Other place token) m is h = absurd (none_some m h)
positive_level t (Tree-F.Group place trees) m is h = absurd (none_some m h)

module _ (setting : Setting) where
  constructor_told : (name : List ℕ) (k : ℕ × ℕ) → constructor_named setting.sig name ≡ Some k → meaning_of setting.sig name ≡ Some (meaning.Make k.0 k.1)
  constructor_told name k h = by (meaning_of setting.sig name) refl h
    where
      by : (m : Option Meaning) → meaning_of setting.sig name ≡ m → option_and_then constructor_meant m ≡ Some k → meaning_of setting.sig name ≡ Some (meaning.Make k.0 k.1)
      by None is e = absurd (none_some k e)
      by (Some (meaning.Make d c)) is e = is ∙ ap (λ (p : ℕ × ℕ). Some (meaning.Make p.0 p.1)) (some_same (d, c) k e)
      by (Some (meaning.Get d c i)) is e = absurd (none_some k e)

  named_by : (name : List ℕ) (h : Head) (o : Option ReadOp) (m : Option Meaning) (s : Option Symbol) → op_named name ≡ o → meaning_of setting.sig name ≡ m
      → look_up setting.symbols name ≡ s → by_order o m s (tests setting name) ≡ Some h → Names setting name h
  named_by name h (Some o) m s is meant said e = subst (Names setting name) (some_same (head.Operator o) h e) (stands.operator o is)
  named_by name h None (Some (meaning.Make d c)) s is meant said e = subst (Names setting name) (some_same (head.Make d c) h e) (stands.constructor d c is meant)
  named_by name h None (Some (meaning.Get d c i)) s is meant said e = subst (Names setting name) (some_same (head.Get d c i) h e) (stands.selector d c i is meant)
  named_by name h None None (Some s) is meant said e = subst (Names setting name) (some_same (head.Declared s) h e) (stands.declared s is meant said)
  named_by name h None None None is meant said e =
      let (k, made, same) = map_some tester (option_and_then (constructor_named setting.sig) (tested_name name)) h e in
      let (tested, front, found) = then_some (constructor_named setting.sig) (tested_name name) k made in
      subst (Names setting name) same (stands.tester tested k.0 k.1 is meant said (tested_told name tested front) (constructor_told tested k found))

  name_told : (name : List ℕ) (h : Head) → head_named setting name ≡ Some h → Names setting name h
  name_told name h e = named_by name h (op_named name) (meaning_of setting.sig name) (look_up setting.symbols name) refl refl refl e

  sorted_told : (spelled : Tree) (name : List ℕ) (k : ℕ × ℕ) (h : Head) → constructor_named setting.sig name ≡ Some k → of_sort setting spelled k ≡ Ok h → IsOfSort setting name spelled h
  sorted_told spelled name k h made e =
      let (s, spells, same) = bind_ok (sort_tree setting spelled) (λ s. Ok (head.OfSort k.0 k.1 s)) h e in
      subst (IsOfSort setting name spelled) (ok_same (head.OfSort k.0 k.1 s) h same) (stands.of_sort k.0 k.1 s (constructor_told name k made) spells)

  named_told : (c spelled : Tree) (name : List ℕ) (h : Head) → named_constructor setting c name spelled ≡ Ok h → IsOfSort setting name spelled h
  named_told c spelled name h e =
      let fault : TextFault = record { place = place_at (out-Tree c); fault = UnknownName; name = name } in
      let (k, made, rest) = bind_ok (constructor_at setting.sig c name) (of_sort setting spelled) h e in
      sorted_told spelled name k h (or_fault_ok fault (constructor_named setting.sig name) k made) rest

  const_told : (whole spelled : Tree) (h : Head) → const_constructor setting whole spelled ≡ Ok h → IsOfSort setting (codes "const") spelled h
  const_told whole spelled h e =
      let (k, made, rest) = bind_ok (or_fault (unsupported whole) (constructor_named setting.sig (codes "const"))) (of_sort setting spelled) h e in
      sorted_told spelled (codes "const") k h (or_fault_ok (unsupported_fault whole) (constructor_named setting.sig (codes "const")) k made) rest

  -- what the two trees of a form `(as c s)` say
  abbrev pub Qualifies : (Tree → Reading Head) → List Tree → Head → Type 0
  Qualifies on_const args h =
      (i : ℕ) × (name : List ℕ) × (spelled : Tree) × (args ≡ tree.Symbol i name ∷ spelled ∷ [])
      × (((name ≡ codes "const") × (on_const spelled ≡ Ok h)) ⊎ ((name ≡ codes "const" → ⊥) × IsOfSort setting name spelled h))

  qualified_told : (whole : Tree) (on_const : Tree → Reading Head) (args : List Tree) (h : Head) → qualified_head setting whole on_const args ≡ Ok h → Qualifies on_const args h
  qualified_told whole on_const [] h e = absurd (err_ok (unsupported_fault whole) h e)
  qualified_told whole on_const (c ∷ []) h e = absurd (err_ok (unsupported_fault whole) h e)
  qualified_told whole on_const (c ∷ spelled ∷ []) h e = by (symbol_of c) refl e
    where
      by_name : (name : List ℕ) → symbol_of c ≡ Some name → (b : Bool) → bytes_eq name (codes "const") ≡ b
          → cond b (on_const spelled) (named_constructor setting c name spelled) ≡ Ok h → Qualifies on_const (c ∷ spelled ∷ []) h
      by_name name is true test e =
          let symbol = is_Symbol c name is in
          (symbol.0, name, spelled, ap (λ u. u ∷ spelled ∷ []) symbol.1, inl ((bytes_eq-Decides name (codes "const")).0 test, e))
      by_name name is false test e =
          let symbol = is_Symbol c name is in (
            symbol.0,
            name,
            spelled,
            ap (λ u. u ∷ spelled ∷ []) symbol.1,
            inr ((λ same. false_true (sym test ∙ (bytes_eq-Decides name (codes "const")).1 same)), named_told c spelled name h e),
          )

      by : (o : Option (List ℕ)) → symbol_of c ≡ o → qualified setting whole on_const c spelled o ≡ Ok h → Qualifies on_const (c ∷ spelled ∷ []) h
      by None is e = absurd (err_ok (unsupported_fault whole) h e)
      by (Some name) is e = by_name name is (bytes_eq name (codes "const")) refl e
  qualified_told whole on_const (c ∷ s ∷ u ∷ more) h e = absurd (err_ok (unsupported_fault whole) h e)

  const_in_head_told : (whole spelled : Tree) (h : Head) → const_in_head setting whole spelled ≡ Ok h
      → (IsArrayForm spelled × (s : Sort) × (sort_tree setting spelled ≡ Ok s) × (head.Constant s ≡ h)) ⊎ ((IsArrayForm spelled → ⊥) × IsOfSort setting (codes "const") spelled h)
  const_in_head_told whole spelled h e = by (pair_of (codes "Array") spelled) refl e
    where
      by : (o : Option (Tree × Tree)) → pair_of (codes "Array") spelled ≡ o → const_head setting whole spelled o ≡ Ok h
          → (IsArrayForm spelled × (s : Sort) × (sort_tree setting spelled ≡ Ok s) × (head.Constant s ≡ h)) ⊎ ((IsArrayForm spelled → ⊥) × IsOfSort setting (codes "const") spelled h)
      by None is e =
          inr ((λ array. let parts = array_form setting spelled array in none_some parts.0 (sym is ∙ parts.1)), const_told whole spelled h e)
      by (Some parts) is e =
          let (s, spells, same) = bind_ok (sort_tree setting spelled) (λ s. Ok (head.Constant s)) h e in
          inl (array_told spelled parts is, s, spells, ok_same (head.Constant s) h same)

  -- the head of a form `(as c s)` at the head of a group
  as_head_told : (at by i : ℕ) (name : List ℕ) (spelled whole : Tree) (h : Head)
      → ((name ≡ codes "const") × (const_in_head setting whole spelled ≡ Ok h)) ⊎ ((name ≡ codes "const" → ⊥) × IsOfSort setting name spelled h)
      → IsHead setting (tree.Group at (tree.Word by (codes "as") ∷ tree.Symbol i name ∷ spelled ∷ [])) h
  as_head_told at by i name spelled whole h (inr (other, made)) = stands.of_sort_head at by i name spelled h (λ both. other both.0) made
  as_head_told at by i name spelled whole h (inl (const, e)) =
      subst (λ n. IsHead setting (tree.Group at (tree.Word by (codes "as") ∷ tree.Symbol i n ∷ spelled ∷ [])) h) (sym const) (way (const_in_head_told whole spelled h e))
    where
      way : (IsArrayForm spelled × (s : Sort) × (sort_tree setting spelled ≡ Ok s) × (head.Constant s ≡ h)) ⊎ ((IsArrayForm spelled → ⊥) × IsOfSort setting (codes "const") spelled h)
          → IsHead setting (tree.Group at (tree.Word by (codes "as") ∷ tree.Symbol i (codes "const") ∷ spelled ∷ [])) h
      way (inl (array, s, spells, same)) =
          subst (IsHead setting (tree.Group at (tree.Word by (codes "as") ∷ tree.Symbol i (codes "const") ∷ spelled ∷ []))) same (stands.constant_head at by i spelled s array spells)
      way (inr (other, made)) = stands.of_sort_head at by i (codes "const") spelled h (λ both. other both.1) made

  is_told : (at by : ℕ) (whole s t : Tree) (h : Head) → is_symbol (codes "is") s ≡ true → tester_head setting whole t (symbol_of t) ≡ Ok h
      → IsHead setting (tree.Group at (tree.Word by (codes "_") ∷ s ∷ t ∷ [])) h
  is_told at by whole s t h symbol e = way (symbol_of t) refl e
    where
      way : (o : Option (List ℕ)) → symbol_of t ≡ o → tester_head setting whole t o ≡ Ok h → IsHead setting (tree.Group at (tree.Word by (codes "_") ∷ s ∷ t ∷ [])) h
      way None named e = absurd (err_ok (unsupported_fault whole) h e)
      way (Some name) named e =
          let fault : TextFault = record { place = place_at (out-Tree t); fault = UnknownName; name = name } in
          let (k, made, same) = bind_ok (constructor_at setting.sig t name) (λ k. Ok (tester k)) h e in
          let (i, is) = symbol_told (codes "is") s symbol in
          let (j, tested) = is_Symbol t name named in
          let found = constructor_told name k (or_fault_ok fault (constructor_named setting.sig name) k made) in
          let group = λ (a b : Tree). tree.Group at (tree.Word by (codes "_") ∷ a ∷ b ∷ []) in
          subst (IsHead setting (group s t)) (ok_same (tester k) h same)
          (subst (λ u. IsHead setting u (tester k)) (λ l. group (sym is l) (sym tested l)) (stands.tester_head at by i j name k.0 k.1 found))

  divisible_told : (at by : ℕ) (whole s t : Tree) (h : Head) → is_symbol (codes "divisible") s ≡ true → divisible_head whole (positive_at (out-Tree t)) ≡ Ok h
      → IsHead setting (tree.Group at (tree.Word by (codes "_") ∷ s ∷ t ∷ [])) h
  divisible_told at by whole s t h symbol e =
      let o = or_fault_ok (unsupported_fault whole) (option_map (λ n. head.Divisible n) (positive_at (out-Tree t))) h e in
      let (m, number, same) = map_some (λ n. head.Divisible n) (positive_at (out-Tree t)) h o in
      let (j, n, is, more, equal) = positive_level t (out-Tree t) m (roll-out-Tree t) number in
      let (i, named) = symbol_told (codes "divisible") s symbol in
      let group = λ (a b : Tree). tree.Group at (tree.Word by (codes "_") ∷ a ∷ b ∷ []) in
      subst (IsHead setting (group s t)) (ap (λ z. head.Divisible z) equal ∙ same)
      (subst (λ u. IsHead setting u (head.Divisible (pos n))) (λ l. group (sym named l) (sym is l)) (stands.divisible_head at by i j n more))

  indexed_told : (at by : ℕ) (whole : Tree) (args : List Tree) (h : Head) → indexed_head setting whole args ≡ Ok h → IsHead setting (tree.Group at (tree.Word by (codes "_") ∷ args)) h
  indexed_told at by whole [] h e = absurd (err_ok (unsupported_fault whole) h e)
  indexed_told at by whole (s ∷ []) h e = absurd (err_ok (unsupported_fault whole) h e)
  indexed_told at by whole (s ∷ t ∷ []) h e = first (is_symbol (codes "is") s) refl e
    where
      second : (b : Bool) → is_symbol (codes "divisible") s ≡ b → cond b (divisible_head whole (positive_at (out-Tree t))) (unsupported whole) ≡ Ok h
          → IsHead setting (tree.Group at (tree.Word by (codes "_") ∷ s ∷ t ∷ [])) h
      second true is e = divisible_told at by whole s t h is e
      second false is e = absurd (err_ok (unsupported_fault whole) h e)

      first : (b : Bool) → is_symbol (codes "is") s ≡ b
          → cond b (tester_head setting whole t (symbol_of t)) (cond (is_symbol (codes "divisible") s) (divisible_head whole (positive_at (out-Tree t))) (unsupported whole)) ≡ Ok h
          → IsHead setting (tree.Group at (tree.Word by (codes "_") ∷ s ∷ t ∷ [])) h
      first true is e = is_told at by whole s t h is e
      first false is e = second (is_symbol (codes "divisible") s) refl e
  indexed_told at by whole (s ∷ t ∷ u ∷ more) h e = absurd (err_ok (unsupported_fault whole) h e)

  as_told : (at by : ℕ) (whole : Tree) (args : List Tree) (h : Head) → qualified_head setting whole (const_in_head setting whole) args ≡ Ok h
      → IsHead setting (tree.Group at (tree.Word by (codes "as") ∷ args)) h
  as_told at by whole args h e =
      let (i, name, spelled, is, way) = qualified_told whole (const_in_head setting whole) args h e in
      subst (λ us. IsHead setting (tree.Group at (tree.Word by (codes "as") ∷ us)) h) (sym is) (as_head_told at by i name spelled whole h way)

  worded_told : (place at by : ℕ) (whole w : Tree) (args : List Tree) (word : List ℕ) (h : Head) → w ≡ tree.Word by word → worded_head setting place whole (Some word) args ≡ Ok h
      → IsHead setting (tree.Group at (w ∷ args)) h
  worded_told place at by whole w args word h is e = first (bytes_eq word (codes "_")) refl e
    where
      at_word : (other : List ℕ) → bytes_eq word other ≡ true → IsHead setting (tree.Group at (tree.Word by other ∷ args)) h → IsHead setting (tree.Group at (w ∷ args)) h
      at_word other same holds =
          subst (λ u. IsHead setting (tree.Group at (u ∷ args)) h) (sym (is ∙ ap (tree.Word by) ((bytes_eq-Decides word other).0 same))) holds

      second : (b : Bool) → bytes_eq word (codes "as") ≡ b → cond b (qualified_head setting whole (const_in_head setting whole) args) (faulty place BadCommand []) ≡ Ok h
          → IsHead setting (tree.Group at (w ∷ args)) h
      second true same e = at_word (codes "as") same (as_told at by whole args h e)
      second false same e = absurd (err_ok _ h e)

      first : (b : Bool) → bytes_eq word (codes "_") ≡ b
          → cond b (indexed_head setting whole args) (cond (bytes_eq word (codes "as")) (qualified_head setting whole (const_in_head setting whole) args) (faulty place BadCommand [])) ≡ Ok h
          → IsHead setting (tree.Group at (w ∷ args)) h
      first true same e = at_word (codes "_") same (indexed_told at by whole args h e)
      first false same e = second (bytes_eq word (codes "as")) refl e

  group_told : (place at : ℕ) (whole : Tree) (trees : List Tree) (h : Head) → group_head setting place whole trees ≡ Ok h → IsHead setting (tree.Group at trees) h
  group_told place at whole [] h e = absurd (err_ok _ h e)
  group_told place at whole (w ∷ args) h e = by (word_of w) refl e
    where
      by : (o : Option (List ℕ)) → word_of w ≡ o → worded_head setting place whole o args ≡ Ok h → IsHead setting (tree.Group at (w ∷ args)) h
      by None is e = absurd (err_ok _ h e)
      by (Some word) is e = let r = is_Word w word is in worded_told place at r.0 whole w args word h r.1 e

  -- what a form says of the trees of its group
  abbrev pub FormSays : Tree → List Tree → Form → Type 0
  FormSays first args (form.Applied h) = IsHead setting first h
  FormSays first args (form.Alone h) =
      (at : ℕ) × (i : ℕ) × (name : List ℕ) × (spelled : Tree) × (first ≡ tree.Word at (codes "as")) × (args ≡ tree.Symbol i name ∷ spelled ∷ []) × IsOfSort setting name spelled h
  FormSays first args form.Let = (at : ℕ) × (first ≡ tree.Word at (codes "let"))
  FormSays first args (form.Quantifier k) = (at : ℕ) × (first ≡ tree.Word at (kind_word k))
  FormSays first args form.Annotated = (at : ℕ) × (first ≡ tree.Word at (codes "!"))

  lone_told : (whole : Tree) (args : List Tree) (h : Head) → lone_qualified setting whole args ≡ Ok h
      → (i : ℕ) × (name : List ℕ) × (spelled : Tree) × (args ≡ tree.Symbol i name ∷ spelled ∷ []) × IsOfSort setting name spelled h
  lone_told whole args h e =
      let (i, name, spelled, is, way) = qualified_told whole (const_constructor setting whole) args h e in
      (i, name, spelled, is, either name spelled way)
    where
      either : (name : List ℕ) (spelled : Tree) → ((name ≡ codes "const") × (const_constructor setting whole spelled ≡ Ok h)) ⊎ ((name ≡ codes "const" → ⊥) × IsOfSort setting name spelled h)
          → IsOfSort setting name spelled h
      either name spelled (inl (const, e)) = subst (λ n. IsOfSort setting n spelled h) (sym const) (const_told whole spelled h e)
      either name spelled (inr (other, made)) = made

  word_told : (place at : ℕ) (first : Tree) (word : List ℕ) (args : List Tree) (f : Form) → first ≡ tree.Word at word → word_form setting place first word args ≡ Ok f
      → FormSays first args f
  word_told place at first word args f is e = at_let (bytes_eq word (codes "let")) refl e
    where
      of_word : (other : List ℕ) → bytes_eq word other ≡ true → first ≡ tree.Word at other
      of_word other same = is ∙ ap (tree.Word at) ((bytes_eq-Decides word other).0 same)

      whole : Tree
      whole = tree.Group place (first ∷ args)

      at_match : (b : Bool) → cond b (unsupported first) (faulty place BadCommand []) ≡ Ok f → FormSays first args f
      at_match true e = absurd (err_ok (unsupported_fault first) f e)
      at_match false e = absurd (err_ok _ f e)

      at_index : (b : Bool) → cond b (unsupported whole) (cond (bytes_eq word (codes "match")) (unsupported first) (faulty place BadCommand [])) ≡ Ok f → FormSays first args f
      at_index true e = absurd (err_ok (unsupported_fault whole) f e)
      at_index false e = at_match (bytes_eq word (codes "match")) e

      after_as : Reading Form
      after_as = cond (bytes_eq word (codes "_")) (unsupported whole) (cond (bytes_eq word (codes "match")) (unsupported first) (faulty place BadCommand []))

      at_as : (b : Bool) → bytes_eq word (codes "as") ≡ b → cond b (lone_qualified setting whole args >>> (λ h. Ok (form.Alone h))) after_as ≡ Ok f → FormSays first args f
      at_as true same e =
          let (h, made, alone) = bind_ok (lone_qualified setting whole args) (λ h. Ok (form.Alone h)) f e in
          let (i, name, spelled, pair, sorted) = lone_told whole args h made in
          subst (FormSays first args) (ok_same (form.Alone h) f alone) (at, i, name, spelled, of_word (codes "as") same, pair, sorted)
      at_as false same e = at_index (bytes_eq word (codes "_")) e

      after_note : Reading Form
      after_note = cond (bytes_eq word (codes "as")) (lone_qualified setting whole args >>> (λ h. Ok (form.Alone h))) after_as

      at_note : (b : Bool) → bytes_eq word (codes "!") ≡ b → cond b (Ok form.Annotated) after_note ≡ Ok f → FormSays first args f
      at_note true same e = subst (FormSays first args) (ok_same form.Annotated f e) (at, of_word (codes "!") same)
      at_note false same e = at_as (bytes_eq word (codes "as")) refl e

      after_exists : Reading Form
      after_exists = cond (bytes_eq word (codes "!")) (Ok form.Annotated) after_note

      at_exists : (b : Bool) → bytes_eq word (codes "exists") ≡ b → cond b (Ok (form.Quantifier kind.Exists)) after_exists ≡ Ok f → FormSays first args f
      at_exists true same e = subst (FormSays first args) (ok_same (form.Quantifier kind.Exists) f e) (at, of_word (codes "exists") same)
      at_exists false same e = at_note (bytes_eq word (codes "!")) refl e

      after_forall : Reading Form
      after_forall = cond (bytes_eq word (codes "exists")) (Ok (form.Quantifier kind.Exists)) after_exists

      at_forall : (b : Bool) → bytes_eq word (codes "forall") ≡ b → cond b (Ok (form.Quantifier kind.Forall)) after_forall ≡ Ok f → FormSays first args f
      at_forall true same e = subst (FormSays first args) (ok_same (form.Quantifier kind.Forall) f e) (at, of_word (codes "forall") same)
      at_forall false same e = at_exists (bytes_eq word (codes "exists")) refl e

      after_let : Reading Form
      after_let = cond (bytes_eq word (codes "forall")) (Ok (form.Quantifier kind.Forall)) after_forall

      at_let : (b : Bool) → bytes_eq word (codes "let") ≡ b → cond b (Ok form.Let) after_let ≡ Ok f → FormSays first args f
      at_let true same e = subst (FormSays first args) (ok_same form.Let f e) (at, of_word (codes "let") same)
      at_let false same e = at_forall (bytes_eq word (codes "forall")) refl e

  form_level : (place : ℕ) (first : Tree) (args : List Tree) (f : Form) (y : Tree-F Tree) → roll-Tree y ≡ first → forms.form_at setting place first args y ≡ Ok f → FormSays first args f
  form_level place first args f (Tree-F.Symbol at name) is e =
      let fault : TextFault = record { place = at; fault = UnknownName; name = name } in
      let (h, named, same) = bind_ok (symbol_head setting at name) (λ h. Ok (form.Applied h)) f e in
      let names = name_told name h (or_fault_ok fault (head_named setting name) h named) in
      subst (FormSays first args) (ok_same (form.Applied h) f same)
      (subst (λ u. IsHead setting u h) (sym (tree.rolls-Symbol at name) ∙ is) (stands.named_head at name h names))
  form_level place first args f (Tree-F.Word at word) is e = word_told place at first word args f (sym is ∙ tree.rolls-Word at word) e
  form_level place first args f (Tree-F.Keyword at word) is e = absurd (err_ok _ f e)
  form_level place first args f (Tree-F.Numeral at n) is e = absurd (err_ok _ f e)
  form_level place first args f (Tree-F.Text at bytes) is e = absurd (err_ok (unsupported_fault first) f e)
  form_level place first args f (Tree-F.Other at token) is e = absurd (err_ok (unsupported_fault first) f e)
  form_level place first args f (Tree-F.Group at trees) is e =
      let (h, headed, same) = bind_ok (group_head setting place first trees) (λ h. Ok (form.Applied h)) f e in
      subst (FormSays first args) (ok_same (form.Applied h) f same)
      (subst (λ u. IsHead setting u h) (sym (tree.rolls-Group at trees) ∙ is) (group_told place at first trees h headed))

  pub form_told : (place : ℕ) (first : Tree) (args : List Tree) (f : Form) → form_of setting place (first ∷ args) ≡ Ok f → FormSays first args f
  form_told place first args f e = form_level place first args f (out-Tree first) (roll-out-Tree first) e
