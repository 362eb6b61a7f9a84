-- Heads and forms that stand are read.
use Rattle.std.proofs.Common.{◌≡◌, ◌∙◌, ap, subst, refl, ℕ, ℤ, pos, ◌<◌, Bool, true, false, cond, List, [], ◌∷◌, ◌++◌, Option, Some, None, Ok, codes}
use Rattle.std.specs.Option.{option_map, option_or, option_and_then}
use Rattle.std.specs.Str.{bytes_eq}
use Rattle.std.proofs.lemmas.Bool.{lt-ltb}
use Rattle.std.proofs.lemmas.Slice.Eq.{bytes_eq-Decides}
use Rattle.chc_sorts.specs.declared.sort.Sort.{Sort}
use Rattle.chc_sorts.specs.declared.meaning.Meaning.{Meaning}
use Rattle.chc_sorts.specs.declared.meaning.Meaning.TheVariants as meaning
use Rattle.chc_sorts.specs.declared.op_table.ReadOp.{ReadOp}
use Rattle.chc_sorts.specs.Names.{look_up}
use Rattle.chc_sorts.specs.Functions.{meaning_of}
use Rattle.chc_sexpr.specs.declared.tree.Tree.{Tree, out-Tree}
use Rattle.chc_sexpr.specs.declared.tree.Tree.TheVariants as tree
use Rattle.chc_sexpr.specs.Shapes.{symbol_at, symbol_of, word_of, group_of, is_name, pair_at, pair_of}
use Rattle.chc_terms.specs.declared.term.Kind.{Kind}
use Rattle.chc_terms.specs.declared.term.Kind.TheVariants as kind
use Rattle.chc_elab.specs.declared.symbols.Symbol.{Symbol}
use Rattle.chc_elab.specs.declared.head.Head.{Head}
use Rattle.chc_elab.specs.declared.head.Head.TheVariants as head
use Rattle.chc_elab.specs.declared.form.Form.TheVariants as form
use Rattle.chc_elab.specs.Sites.{Setting, Reading, faulty, or_fault, ◌>>>◌}
use Rattle.chc_elab.specs.SortTrees.{place_at}
use Rattle.chc_sexpr.specs.declared.fault.Fault.TheVariants.{UnknownName}
use Rattle.chc_sexpr.specs.Shapes as shape
use Rattle.chc_elab.specs.Heads.{constructor_meant, constructor_named, head_meant, tester, tested_name, head_named, unsupported, positive_at, tester_head, divisible_head, indexed_head, sort_tree, of_sort, const_constructor, named_constructor, const_head, const_in_head, qualified, qualified_head, worded_head, lone_qualified}
use Rattle.chc_elab.specs.Forms.{word_form, form_of}
use Rattle.chc_elab.specs.Forms as forms
use Rattle.chc_elab.specs.Stands as stands
use Rattle.chc_elab.specs.Stands.{Names, IsHead, IsOfSort, IsArrayForm, kind_word}
use Rattle.chc_elab.proofs.ShapeLaws.{symbol_of-Symbol, word_of-Word, group_of-Group, is_Symbol, is_Group}
use Rattle.chc_elab.proofs.Readings.{none_some, cond_some}

-- a head by what its name is among operators, functions, and declared names, else by the constructor that it tests
abbrev pub by_order : Option ReadOp → Option Meaning → Option Symbol → Option Head → Option Head
by_order o m s t = option_or (option_map (λ o. head.Operator o) o) (option_or (option_map head_meant m) (option_or (option_map (λ s. head.Declared s) s) t))

tested_of : (tested : List ℕ) → tested_name (codes "is-" ++ tested) ≡ Some tested
tested_of tested = refl

-- trees that begin with a symbol, of which two stand behind it
array_args : (place : ℕ) (t first : Tree) (args : List Tree) (n : List ℕ) (parts : Tree × Tree) → t ≡ tree.Group place (first ∷ args) → symbol_of first ≡ Some n
    → pair_at (codes "Array") (Some (n, args)) ≡ Some parts → IsArrayForm t
array_args place t first [] n parts is named h = absurd (none_some parts h)
array_args place t first (a ∷ []) n parts is named h = absurd (none_some parts h)
array_args place t first (a ∷ b ∷ []) n parts is named h =
    let array = (bytes_eq-Decides n (codes "Array")).0 (cond_some (bytes_eq n (codes "Array")) (a, b) parts h).0 in
    let symbol = is_Symbol first n named in
    (place, symbol.0, a, b, is ∙ ap (λ f. tree.Group place (f ∷ a ∷ b ∷ [])) (symbol.1 ∙ ap (tree.Symbol symbol.0) array))
array_args place t first (a ∷ b ∷ c ∷ more) n parts is named h = absurd (none_some parts h)

array_first : (place : ℕ) (t first : Tree) (args : List Tree) (o : Option (List ℕ)) (parts : Tree × Tree) → t ≡ tree.Group place (first ∷ args) → symbol_of first ≡ o
    → pair_at (codes "Array") (option_map (λ name. (name, args)) o) ≡ Some parts → IsArrayForm t
array_first place t first args None parts is named h = absurd (none_some parts h)
array_first place t first args (Some n) parts is named h = array_args place t first args n parts is named h

array_group : (t : Tree) (g : Option (List Tree)) (parts : Tree × Tree) → group_of t ≡ g → pair_at (codes "Array") (shape.form_at g) ≡ Some parts → IsArrayForm t
array_group t None parts is h = absurd (none_some parts h)
array_group t (Some []) parts is h = absurd (none_some parts h)
array_group t (Some (first ∷ args)) parts is h =
    let group = is_Group t (first ∷ args) is in
    array_first group.0 t first args (symbol_of first) parts group.1 refl h

pub array_told : (t : Tree) (parts : Tree × Tree) → pair_of (codes "Array") t ≡ Some parts → IsArrayForm t
array_told t parts h = array_group t (group_of t) parts refl h

module _ (setting : Setting) where
  abbrev pub tests : List ℕ → Option Head
  tests name = option_map tester (option_and_then (constructor_named setting.sig) (tested_name name))

  pub constructor_is : (name : List ℕ) (d c : ℕ) → meaning_of setting.sig name ≡ Some (meaning.Make d c) → constructor_named setting.sig name ≡ Some (d, c)
  constructor_is name d c h = ap (option_and_then constructor_meant) h

  pub head_of_name : (name : List ℕ) (h : Head) → Names setting name h → head_named setting name ≡ Some h
  head_of_name name h (stands.operator o is) = ap (λ o. by_order o (meaning_of setting.sig name) (look_up setting.symbols name) (tests name)) is
  head_of_name name h (stands.constructor d c new is) = λ i. by_order (new i) (is i) (look_up setting.symbols name) (tests name)
  head_of_name name h (stands.selector d c f new is) = λ i. by_order (new i) (is i) (look_up setting.symbols name) (tests name)
  head_of_name name h (stands.declared s new unmet is) = λ i. by_order (new i) (unmet i) (is i) (tests name)
  head_of_name name h (stands.tester tested d c new unmet unsaid is made) =
      (λ i. by_order (new i) (unmet i) (unsaid i) (tests name))
      ∙ ap (λ t. option_map tester (option_and_then (constructor_named setting.sig) t)) (ap tested_name is ∙ tested_of tested)
      ∙ ap (option_map tester) (constructor_is tested d c made)

  -- the head of a sort that is spelled, for a constructor
  of_sort_is : (spelled : Tree) (d c : ℕ) (s : Sort) → sort_tree setting spelled ≡ Ok s → of_sort setting spelled (d, c) ≡ Ok (head.OfSort d c s)
  of_sort_is spelled d c s is = ap (λ r. r >>> (λ s. Ok (head.OfSort d c s))) is

  -- an indexed head by its symbol, and by what stands behind it
  abbrev pub indexed_by : Tree → Tree → Option (List ℕ) → Option (List ℕ) → Option ℤ → Reading Head
  indexed_by whole t by name n =
      cond (is_name (codes "is") by) (tester_head setting whole t name) (cond (is_name (codes "divisible") by) (divisible_head whole n) (unsupported whole))

  indexed_tester : (whole : Tree) (i j : ℕ) (name : List ℕ) (d c : ℕ) → meaning_of setting.sig name ≡ Some (meaning.Make d c)
      → indexed_head setting whole (tree.Symbol i (codes "is") ∷ tree.Symbol j name ∷ []) ≡ Ok (head.Is d c)
  indexed_tester whole i j name d c is =
      let t = tree.Symbol j name in
      (λ k. indexed_by whole t (symbol_of-Symbol i (codes "is") k) (symbol_of-Symbol j name k) (positive_at (out-Tree t)))
      ∙ ap (λ o. or_fault (faulty (place_at (out-Tree t)) UnknownName name) o >>> (λ k. Ok (tester k))) (constructor_is name d c is)

  positive_is : (j n : ℕ) → 0 < n → positive_at (out-Tree (tree.Numeral j (pos n))) ≡ Some (pos n)
  positive_is j n h = ap positive_at (tree.outs-Numeral j (pos n)) ∙ ap (λ b. cond b (Some (pos n)) None) (lt-ltb 0 n h)

  indexed_divisible : (whole : Tree) (i j n : ℕ) → 0 < n
      → indexed_head setting whole (tree.Symbol i (codes "divisible") ∷ tree.Numeral j (pos n) ∷ []) ≡ Ok (head.Divisible (pos n))
  indexed_divisible whole i j n h =
      let t = tree.Numeral j (pos n) in
      λ k. indexed_by whole t (symbol_of-Symbol i (codes "divisible") k) (symbol_of t) (positive_is j n h k)

  -- the head of a form `(as c s)` by its symbol
  named_is : (c spelled : Tree) (name : List ℕ) (h : Head) → IsOfSort setting name spelled h → named_constructor setting c name spelled ≡ Ok h
  named_is c spelled name h (stands.of_sort d k s is spells) =
      ap (λ o. or_fault (faulty (place_at (out-Tree c)) UnknownName name) o >>> of_sort setting spelled) (constructor_is name d k is)
      ∙ of_sort_is spelled d k s spells

  const_is : (whole spelled : Tree) (h : Head) → IsOfSort setting (codes "const") spelled h → const_constructor setting whole spelled ≡ Ok h
  const_is whole spelled h (stands.of_sort d k s is spells) =
      ap (λ o. or_fault (unsupported whole) o >>> of_sort setting spelled) (constructor_is (codes "const") d k is)
      ∙ of_sort_is spelled d k s spells

  qualified_by : (whole : Tree) (on_const : Tree → Reading Head) (c spelled : Tree) (name : List ℕ) (h : Head)
      → (name ≡ codes "const" → on_const spelled ≡ Ok h) → IsOfSort setting name spelled h → qualified setting whole on_const c spelled (Some name) ≡ Ok h
  qualified_by whole on_const c spelled name h const made = by (bytes_eq name (codes "const")) (bytes_eq-Decides name (codes "const")).0
    where
      by : (b : Bool) → (b ≡ true → name ≡ codes "const") → cond b (on_const spelled) (named_constructor setting c name spelled) ≡ Ok h
      by true is = const (is refl)
      by false is = named_is c spelled name h made

  pub lone_is : (whole : Tree) (i : ℕ) (name : List ℕ) (spelled : Tree) (h : Head) → IsOfSort setting name spelled h
      → lone_qualified setting whole (tree.Symbol i name ∷ spelled ∷ []) ≡ Ok h
  lone_is whole i name spelled h made =
      ap (qualified setting whole (const_constructor setting whole) (tree.Symbol i name) spelled) (symbol_of-Symbol i name)
      ∙ qualified_by whole (const_constructor setting whole) (tree.Symbol i name) spelled name h
      (λ is. const_is whole spelled h (subst (λ (n : List ℕ). IsOfSort setting n spelled h) is made)) made

  pub array_form : (t : Tree) → IsArrayForm t → (parts : Tree × Tree) × (pair_of (codes "Array") t ≡ Some parts)
  array_form t (place, at, index, element, is) = (
    (index, element),
    ap (pair_of (codes "Array")) is
        ∙ ap (λ g. pair_at (codes "Array") (shape.form_at g)) (group_of-Group place (tree.Symbol at (codes "Array") ∷ index ∷ element ∷ []))
        ∙ ap (λ n. pair_at (codes "Array") (option_map (λ name. (name, index ∷ element ∷ [])) n)) (symbol_of-Symbol at (codes "Array")),
  )

  const_head_is : (whole spelled : Tree) (h : Head) → (IsArrayForm spelled → ⊥) → IsOfSort setting (codes "const") spelled h
      → const_in_head setting whole spelled ≡ Ok h
  const_head_is whole spelled h other made = by (pair_of (codes "Array") spelled) (λ parts is. other (array_told spelled parts is))
    where
      by : (o : Option (Tree × Tree)) → ((parts : Tree × Tree) → o ≡ Some parts → ⊥) → const_head setting whole spelled o ≡ Ok h
      by None not = const_is whole spelled h made
      by (Some parts) not = absurd (not parts refl)

  headed_is : (whole : Tree) (i : ℕ) (name : List ℕ) (spelled : Tree) (h : Head) → ((name ≡ codes "const") × IsArrayForm spelled → ⊥)
      → IsOfSort setting name spelled h → qualified_head setting whole (const_in_head setting whole) (tree.Symbol i name ∷ spelled ∷ []) ≡ Ok h
  headed_is whole i name spelled h other made =
      ap (qualified setting whole (const_in_head setting whole) (tree.Symbol i name) spelled) (symbol_of-Symbol i name)
      ∙ qualified_by whole (const_in_head setting whole) (tree.Symbol i name) spelled name h
      (λ is. const_head_is whole spelled h (λ array. other (is, array)) (subst (λ (n : List ℕ). IsOfSort setting n spelled h) is made)) made

  constant_is : (whole : Tree) (i : ℕ) (spelled : Tree) (s : Sort) → IsArrayForm spelled → sort_tree setting spelled ≡ Ok s
      → qualified_head setting whole (const_in_head setting whole) (tree.Symbol i (codes "const") ∷ spelled ∷ []) ≡ Ok (head.Constant s)
  constant_is whole i spelled s array is =
      let parts = array_form spelled array in
      ap (qualified setting whole (const_in_head setting whole) (tree.Symbol i (codes "const")) spelled) (symbol_of-Symbol i (codes "const"))
      ∙ ap (const_head setting whole spelled) parts.1
      ∙ ap (λ r. r >>> (λ s. Ok (head.Constant s))) is

  -- a form whose first tree is a group with that head
  grouped : (place at by : ℕ) (word : List ℕ) (inner args : List Tree) (h : Head)
      → worded_head setting place (tree.Group at (tree.Word by word ∷ inner)) (Some word) inner ≡ Ok h
      → form_of setting place (tree.Group at (tree.Word by word ∷ inner) ∷ args) ≡ Ok (form.Applied h)
  grouped place at by word inner args h is =
      let first = tree.Group at (tree.Word by word ∷ inner) in
      ap (forms.form_at setting place first args) (tree.outs-Group at (tree.Word by word ∷ inner))
      ∙ ap (λ w. worded_head setting place first w inner >>> (λ h. Ok (form.Applied h))) (word_of-Word by word)
      ∙ ap (λ r. r >>> (λ h. Ok (form.Applied h))) is

  pub head_is : (place : ℕ) (first : Tree) (args : List Tree) (h : Head) → IsHead setting first h → form_of setting place (first ∷ args) ≡ Ok (form.Applied h)
  head_is place first args h (stands.named_head at name h' names) =
      ap (forms.form_at setting place first args) (tree.outs-Symbol at name)
      ∙ ap (λ o. or_fault (faulty at UnknownName name) o >>> (λ h. Ok (form.Applied h))) (head_of_name name h names)
  head_is place first args h (stands.tester_head at by i j name d c is) =
      let inner = tree.Symbol i (codes "is") ∷ tree.Symbol j name ∷ [] in
      grouped place at by (codes "_") inner args (head.Is d c) (indexed_tester (tree.Group at (tree.Word by (codes "_") ∷ inner)) i j name d c is)
  head_is place first args h (stands.divisible_head at by i j n is) =
      let inner = tree.Symbol i (codes "divisible") ∷ tree.Numeral j (pos n) ∷ [] in
      grouped place at by (codes "_") inner args (head.Divisible (pos n)) (indexed_divisible (tree.Group at (tree.Word by (codes "_") ∷ inner)) i j n is)
  head_is place first args h (stands.constant_head at by i spelled s array is) =
      let inner = tree.Symbol i (codes "const") ∷ spelled ∷ [] in
      grouped place at by (codes "as") inner args (head.Constant s) (constant_is (tree.Group at (tree.Word by (codes "as") ∷ inner)) i spelled s array is)
  head_is place first args h (stands.of_sort_head at by i name spelled h' other is) =
      let inner = tree.Symbol i name ∷ spelled ∷ [] in
      grouped place at by (codes "as") inner args h (headed_is (tree.Group at (tree.Word by (codes "as") ∷ inner)) i name spelled h other is)

  -- a form that begins with a reserved word
  pub worded : (place at : ℕ) (word : List ℕ) (args : List Tree)
      → form_of setting place (tree.Word at word ∷ args) ≡ word_form setting place (tree.Word at word) word args
  worded place at word args = ap (forms.form_at setting place (tree.Word at word) args) (tree.outs-Word at word)

  pub quantifier_form : (place at : ℕ) (k : Kind) (args : List Tree) → form_of setting place (tree.Word at (kind_word k) ∷ args) ≡ Ok (form.Quantifier k)
  quantifier_form place at kind.Forall args = worded place at (codes "forall") args
  quantifier_form place at kind.Exists args = worded place at (codes "exists") args

  pub alone_form : (place at i : ℕ) (name : List ℕ) (spelled : Tree) (h : Head) → IsOfSort setting name spelled h
      → form_of setting place (tree.Word at (codes "as") ∷ tree.Symbol i name ∷ spelled ∷ []) ≡ Ok (form.Alone h)
  alone_form place at i name spelled h made =
      let args = tree.Symbol i name ∷ spelled ∷ [] in
      worded place at (codes "as") args
      ∙ ap (λ r. r >>> (λ h. Ok (form.Alone h))) (lone_is (tree.Group place (tree.Word at (codes "as") ∷ args)) i name spelled h made)
