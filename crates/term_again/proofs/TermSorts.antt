-- Sorts are written as trees that spell them.
use Rattle.std.proofs.Common.{◌≡◌, ◌∙◌, sym, ap, refl, subst, ℕ, zero, suc, ◌+◌, ◌≤◌, ◌<◌, true, false, cond, nat_lt, List, [], ◌∷◌, ◌++◌, length, Option, Some, None, Ok, Err, slice_get, codes, arith}
use Rattle.std.specs.Prelude.{IsTrue, not}
use Rattle.std.specs.Str.{bytes_eq}
use Rattle.std.proofs.lemmas.Bool.{ltb-true, and_parts}
use Rattle.std.proofs.lemmas.Bool.Decides.{nat_tests}
use Rattle.chc_sorts.specs.declared.refusal.SigErr.TheVariants as refusal
use Rattle.chc_sorts.specs.declared.sort.Sort.{Sort, Sort-F, fold-roll-Sort}
use Rattle.chc_sorts.specs.declared.sort.Sort.TheVariants as sort
use Rattle.chc_sorts.specs.declared.spec.SortSpec.{SortSpec, SortSpec-F, fold-roll-SortSpec}
use Rattle.chc_sorts.specs.declared.spec.SortSpec.TheVariants as spec
use Rattle.chc_sorts.specs.Named.{datatype_names, sort_named, names_step, names_in, first_unknown, unless_known, array_over, meant_step, sort_meant, most_depth, where_known, sort_read}
use Rattle.chc_sorts.specs.Signature.{Signature}
use Rattle.chc_sorts.specs.Sorts.{sort_depth, sort_fits}
use Rattle.chc_sorts.proofs.SameSort.{sort_ind, same_itself, sort_depth-Array}
use Rattle.chc_sexpr.specs.Shapes.{is_symbol, is_name}
use Rattle.chc_sexpr.specs.Symbols.{symbol_text}
use Rattle.chc_sexpr.specs.Tokens.{is_simple_symbol, is_reserved}
use Rattle.chc_sexpr.specs.declared.fault.Fault.TheVariants.{BadCommand}
use Rattle.chc_sexpr.specs.declared.tree.Tree.{Tree, out-Tree}
use Rattle.chc_sexpr.specs.declared.tree.Tree.TheVariants.{Group}
use Rattle.chc_sexpr.proofs.Written.{Writes}
use Rattle.chc_terms.specs.Sorted.{is_declared}
use Rattle.chc_terms.proofs.SortTests.{is_declared-Data, is_declared-Array}
use Rattle.chc_print.specs.Texts.{sort_text, sort_step, data_name, name_of_data}
use Rattle.chc_elab.specs.Sites.{Setting, faulty, ◌>>>◌}
use Rattle.chc_elab.specs.SortTrees.{place_at, spec_of, sort_at}
use Rattle.chc_elab.specs.Heads.{sort_tree}
use Rattle.chc_elab.specs.Stands.{IsArrayForm}
use Rattle.chc_elab.proofs.SpecLaws.{spec-Symbol, spec-Group}
use Rattle.chc_elab.proofs.ShapeLaws.{symbol_of-Symbol}
use Rattle.term_again.specs.Naming.{NamesAreRead}
use Rattle.term_again.proofs.TermTrees.{IsNone, Begins, IsSymbolOf, writes_wider, text_writes, begin_at, last_at, group_writes, bare_writes, name_writes}

-- a written sort that stands for the sort, where the datatypes have these names
pub record IsSpecOf (names : List (List ℕ)) (s : Sort) (p : SortSpec) : Type 0 where
  pub known : first_unknown names (names_in p) ≡ None
  pub meant : sort_meant names p ≡ Some s

-- the tree spells the sort
abbrev pub SpellsSort : Signature → Sort → Tree → Type 0
SpellsSort sig s tree = (p : SortSpec) × (spec_of tree ≡ Ok p) × IsSpecOf (datatype_names sig) s p

-- a sort that isn't too deep is read from what spells it
pub spelled_read : (setting : Setting) (s : Sort) (tree : Tree) → sort_depth s ≤ 16 → SpellsSort setting.sig s tree → sort_tree setting tree ≡ Ok s
spelled_read setting s tree low h =
    let names = datatype_names setting.sig in
    let place = place_at (out-Tree tree) in
    (λ i. h.1 i >>> (λ p. sort_at place (sort_read names p)))
    ∙ (λ i. sort_at place (where_known (h.2.known i) (h.2.meant i)))
    ∙ ap (λ b. sort_at place (cond b (Err refusal.SortTooDeep) (Ok s))) (shallow (sort_depth s) low)
  where
    shallow : (n : ℕ) → n ≤ 16 → nat_lt most_depth n ≡ false
    shallow n h = grind (arith, nat_tests)

-- ---- names

named_meant : (names : List (List ℕ)) (name : List ℕ) (s : Sort) → sort_named names name ≡ Some s → IsSpecOf names s (spec.Named name)
named_meant names name s e =
    let inside : names_in (spec.Named name) ≡ name ∷ [] = ap names_in (sym (spec.rolls-Named name)) ∙ fold-roll-SortSpec (List (List ℕ)) names_step (SortSpec-F.Named name) in
    let is : sort_meant names (spec.Named name) ≡ sort_named names name = ap (sort_meant names) (sym (spec.rolls-Named name)) ∙ fold-roll-SortSpec (Option Sort) (meant_step names) (SortSpec-F.Named name) in
    record { known = ap (first_unknown names) inside ∙ ap (unless_known name None) e; meant = is ∙ e }

spells_named : (sig : Signature) (name : List ℕ) (s : Sort) → sort_named (datatype_names sig) name ≡ Some s → (tree : Tree) → IsSymbolOf name tree → SpellsSort sig s tree
spells_named sig name s e tree is = (spec.Named name, ap spec_of is.1 ∙ spec-Symbol is.0 name, named_meant (datatype_names sig) name s e)

-- ---- arrays

unknown_none : (names one other : List (List ℕ)) → first_unknown names one ≡ None → first_unknown names other ≡ None → first_unknown names (one ++ other) ≡ None
unknown_none names [] other h k = k
unknown_none names (name ∷ one) other h k = by (sort_named names name) h (λ g. unknown_none names one other g k)
  where
    by : (o : Option Sort) → unless_known name (first_unknown names one) o ≡ None → (first_unknown names one ≡ None → first_unknown names (one ++ other) ≡ None) → unless_known name (first_unknown names (one ++ other)) o ≡ None
    by None h more = cc
    by (Some s) h more = more h

array_meant : (names : List (List ℕ)) (s : Sort) (i e : SortSpec) → IsSpecOf names sort.Int i → IsSpecOf names s e → IsSpecOf names (sort.Array s) (spec.Array i e)
array_meant names s i e hi he =
    let inside : names_in (spec.Array i e) ≡ names_in i ++ names_in e = ap names_in (sym (spec.rolls-Array i e)) ∙ fold-roll-SortSpec (List (List ℕ)) names_step (SortSpec-F.Array i e) in
    let is : sort_meant names (spec.Array i e) ≡ array_over (sort_meant names i) (sort_meant names e) = ap (sort_meant names) (sym (spec.rolls-Array i e)) ∙ fold-roll-SortSpec (Option Sort) (meant_step names) (SortSpec-F.Array i e) in
    record {
      known = ap (first_unknown names) inside ∙ unknown_none names (names_in i) (names_in e) hi.known he.known;
      meant = is ∙ (λ j. array_over (hi.meant j) (he.meant j)) ∙ ap (λ b. cond b (Some (sort.Array s)) None) (same_itself sort.Int);
    }

is_symbol_of : (name : List ℕ) (tree : Tree) → IsSymbolOf name tree → bytes_eq name name ≡ true → is_symbol name tree ≡ true
is_symbol_of name tree is same = ap (is_symbol name) is.1 ∙ ap (is_name name) (symbol_of-Symbol is.0 name) ∙ same

abbrev IsArrayOf : Signature → Sort → List Tree → Type 0
IsArrayOf sig s = Begins (IsSymbolOf (codes "Array")) (Begins (SpellsSort sig sort.Int) (Begins (SpellsSort sig s) IsNone))

array_read : (sig : Signature) (s : Sort) (a b c : Tree) (place : ℕ) → IsSymbolOf (codes "Array") a → SpellsSort sig sort.Int b → SpellsSort sig s c → SpellsSort sig (sort.Array s) (Group place (a ∷ b ∷ c ∷ []))
array_read sig s a b c place is hb hc = (
  spec.Array hb.0 hc.0,
  spec-Group place (a ∷ b ∷ c ∷ [])
      ∙ ap (λ test. cond test (spec_of b >>> (λ index. spec_of c >>> (λ element. Ok (spec.Array index element)))) (faulty place BadCommand [])) (is_symbol_of (codes "Array") a is refl)
      ∙ (λ i. hb.1 i >>> (λ index. hc.1 i >>> (λ element. Ok (spec.Array index element)))),
  array_meant (datatype_names sig) s hb.0 hc.0 hb.2 hc.2,
)

-- a group of the word Array, an Int and a sort, which spells the array sort
abbrev pub IsArrayTree : Signature → Sort → Tree → Type 0
IsArrayTree sig s tree = SpellsSort sig (sort.Array s) tree × IsArrayForm tree

array_stands : (sig : Signature) (s : Sort) (place : ℕ) (ts : List Tree) → IsArrayOf sig s ts → IsArrayTree sig s (Group place ts)
array_stands sig s place [] h = absurd h
array_stands sig s place (a ∷ []) h = absurd h.1
array_stands sig s place (a ∷ b ∷ []) h = absurd h.1.1
array_stands sig s place (a ∷ b ∷ c ∷ []) h = (
  array_read sig s a b c place h.0 h.1.0 h.1.1.0,
  (place, h.0.0, b, c, ap (λ t. Group place (t ∷ b ∷ c ∷ [])) h.0.1),
)
array_stands sig s place (a ∷ b ∷ c ∷ d ∷ more) h = absurd h.1.1.1

-- ---- all sorts

some_at : {A : Type 0} (xs : List A) (i : ℕ) → i < length xs → (x : A) × (slice_get xs i ≡ Some x)
some_at [] i low = absurd (omega arith)
some_at (x ∷ xs) zero low = (x, refl)
some_at (x ∷ xs) (suc i) low = some_at xs i (omega arith)

module _ (written read : Signature) (prefix : List ℕ) (names : NamesAreRead written read prefix) where
  text-Bool : sort_text written sort.Bool ≡ codes "Bool"
  text-Bool = ap (sort_text written) (sym sort.rolls-Bool) ∙ fold-roll-Sort (List ℕ) (sort_step written) Sort-F.Bool

  text-Int : sort_text written sort.Int ≡ codes "Int"
  text-Int = ap (sort_text written) (sym sort.rolls-Int) ∙ fold-roll-Sort (List ℕ) (sort_step written) Sort-F.Int

  text-Data : (d : ℕ) → sort_text written (sort.Data d) ≡ symbol_text (data_name written d)
  text-Data d = ap (sort_text written) (sym (sort.rolls-Data d)) ∙ fold-roll-Sort (List ℕ) (sort_step written) (Sort-F.Data d)

  pub text-Array : (s : Sort) → sort_text written (sort.Array s) ≡ codes "(Array Int " ++ sort_text written s ++ codes ")"
  text-Array s = ap (sort_text written) (sym (sort.rolls-Array s)) ∙ fold-roll-Sort (List ℕ) (sort_step written) (Sort-F.Array s)

  abbrev IsWritten : Sort → Type 0
  IsWritten s = is_declared read s ≡ true → Writes (SpellsSort read s) (sort_depth s) (sort_text written s)

  bare_sort : (name : List ℕ) (s : Sort) (deep : ℕ) → IsTrue (is_simple_symbol name) → IsTrue (not (is_reserved name)) → sort_named (datatype_names read) name ≡ Some s → Writes (SpellsSort read s) deep name
  bare_sort name s deep simple free found =
      writes_wider (IsSymbolOf name) (SpellsSort read s) deep deep (omega arith) (spells_named read name s found) name (bare_writes deep name simple free)

  bool_written : IsWritten sort.Bool
  bool_written declared = text_writes (SpellsSort read sort.Bool) (sort_depth sort.Bool) (codes "Bool") (sort_text written sort.Bool) (sym text-Bool) (bare_sort (codes "Bool") sort.Bool (sort_depth sort.Bool) refl refl refl)

  int_writes : (deep : ℕ) → Writes (SpellsSort read sort.Int) deep (codes "Int")
  int_writes deep = bare_sort (codes "Int") sort.Int deep refl refl refl

  int_written : IsWritten sort.Int
  int_written declared = text_writes (SpellsSort read sort.Int) (sort_depth sort.Int) (codes "Int") (sort_text written sort.Int) (sym text-Int) (int_writes (sort_depth sort.Int))

  data_written : (d : ℕ) → IsWritten (sort.Data d)
  data_written d declared =
      let low : d < length read.datatypes = ltb-true d (length read.datatypes) (sym (is_declared-Data read d) ∙ declared) in
      let there = some_at read.datatypes d low in
      let names_it = names.datatype d there.0 there.1 in
      let named : name_of_data (slice_get written.datatypes d) ≡ there.0.name = ap name_of_data (names.same d there.0 there.1) in
      let deep = sort_depth (sort.Data d) in
      text_writes (SpellsSort read (sort.Data d)) deep (symbol_text there.0.name) (sort_text written (sort.Data d)) (ap symbol_text (sym named) ∙ sym (text-Data d))
      (writes_wider (IsSymbolOf there.0.name) (SpellsSort read (sort.Data d)) deep deep (omega arith) (spells_named read there.0.name (sort.Data d) names_it.found) (symbol_text there.0.name) (name_writes deep there.0.name names_it.quotable))

  array_parts : (deep : ℕ) (s : Sort) (text : List ℕ) → Writes (SpellsSort read s) deep text → Writes (IsArrayTree read s) (deep + 1) (40 ∷ (codes "Array" ++ (codes " Int" ++ (32 ∷ text))) ++ 41 ∷ [])
  array_parts deep s text writes =
      group_writes (IsArrayOf read s) (IsArrayTree read s) deep (codes "Array" ++ (codes " Int" ++ (32 ∷ text)))
      (λ place. begin_at deep false (IsSymbolOf (codes "Array")) (Begins (SpellsSort read sort.Int) (Begins (SpellsSort read s) IsNone)) place [] (codes "Array") (codes " Int" ++ (32 ∷ text)) refl
      (bare_writes deep (codes "Array") refl refl (place + 0) (codes " Int" ++ (32 ∷ text)) refl)
      (begin_at deep false (SpellsSort read sort.Int) (Begins (SpellsSort read s) IsNone) (place + 0 + 5) (32 ∷ []) (codes "Int") (32 ∷ text) refl
      (int_writes deep (place + 0 + 5 + 1) (32 ∷ text) refl)
      (last_at deep false (SpellsSort read s) (place + 0 + 5 + 1 + 3) (32 ∷ []) text refl writes)))
      (array_stands read s)

  array_tree : (s : Sort) → Writes (SpellsSort read s) (sort_depth s) (sort_text written s) → Writes (IsArrayTree read s) (sort_depth s + 1) (sort_text written (sort.Array s))
  array_tree s writes =
      text_writes (IsArrayTree read s) (sort_depth s + 1) (40 ∷ (codes "Array" ++ (codes " Int" ++ (32 ∷ sort_text written s))) ++ 41 ∷ []) (sort_text written (sort.Array s)) (sym (text-Array s))
      (array_parts (sort_depth s) s (sort_text written s) writes)

  array_written : (s : Sort) → IsWritten s → IsWritten (sort.Array s)
  array_written s ih declared =
      let deeper = sort_depth-Array s in
      writes_wider (IsArrayTree read s) (SpellsSort read (sort.Array s)) (sort_depth s + 1) (sort_depth (sort.Array s)) (omega arith) (λ tree is. is.0) (sort_text written (sort.Array s))
      (array_tree s (ih (sym (is_declared-Array read s) ∙ declared)))

  -- a sort that is declared is written as a tree that spells it
  pub sort_written : (s : Sort) → IsWritten s
  sort_written = sort_ind IsWritten (record { of_bool = bool_written; of_int = int_written; of_data = data_written; of_array = array_written })

  -- an array sort that fits is written as a form `(Array ..)` that is read as it
  pub array_sort_written : (setting : Setting) → setting.sig ≡ read → (s : Sort) → sort_fits read (sort.Array s) ≡ true
      → Writes (λ tree. (sort_tree setting tree ≡ Ok (sort.Array s)) × IsArrayForm tree) 16 (sort_text written (sort.Array s))
  array_sort_written setting e s fits =
      let parts = and_parts (is_declared read (sort.Array s)) (nat_lt (sort_depth (sort.Array s)) 17) fits in
      let low : sort_depth (sort.Array s) < 17 = ltb-true (sort_depth (sort.Array s)) 17 parts.1 in
      let deeper = sort_depth-Array s in
      writes_wider (IsArrayTree read s) (λ tree. (sort_tree setting tree ≡ Ok (sort.Array s)) × IsArrayForm tree) (sort_depth s + 1) 16 (omega arith)
      (λ tree is. (spelled_read setting (sort.Array s) tree (omega arith) (subst (λ (sig : Signature). SpellsSort sig (sort.Array s) tree) (sym e) is.0), is.1))
      (sort_text written (sort.Array s)) (array_tree s (sort_written s (sym (is_declared-Array read s) ∙ parts.0)))

  -- a sort that fits is written as a tree that is read as it
  pub fitting_sort_written : (setting : Setting) → setting.sig ≡ read → (s : Sort) → sort_fits read s ≡ true → Writes (λ tree. sort_tree setting tree ≡ Ok s) 16 (sort_text written s)
  fitting_sort_written setting e s fits =
      let parts = and_parts (is_declared read s) (nat_lt (sort_depth s) 17) fits in
      let low : sort_depth s < 17 = ltb-true (sort_depth s) 17 parts.1 in
      writes_wider (SpellsSort read s) (λ tree. sort_tree setting tree ≡ Ok s) (sort_depth s) 16 (omega arith)
      (λ tree is. spelled_read setting s tree (omega arith) (subst (λ (sig : Signature). SpellsSort sig s tree) (sym e) is)) (sort_text written s) (sort_written s parts.0)
