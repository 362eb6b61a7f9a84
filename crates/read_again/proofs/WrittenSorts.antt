-- Sorts are written as trees that spell them.
use Rattle.std.proofs.Common.{◌≡◌, ◌∙◌, sym, ap, refl, ℕ, zero, suc, ◌+◌, ◌≤◌, Bool, true, false, not, ◌&&◌, ◌||◌, cond, List, [], ◌∷◌, ◌++◌, Some, Ok, codes, append_assoc, arith}
use Rattle.std.specs.Prelude.{IsTrue, nat_eq}
use Rattle.std.specs.List.{list_all}
use Rattle.chc_sorts.specs.declared.sort.Sort.{Sort, Sort-F, fold-roll-Sort}
use Rattle.chc_sorts.specs.declared.sort.Sort.TheVariants as sort
use Rattle.chc_sorts.specs.declared.spec.SortSpec.{SortSpec}
use Rattle.chc_sorts.specs.declared.spec.SortSpec.TheVariants as spec
use Rattle.chc_sorts.specs.Signature.{Signature}
use Rattle.chc_sorts.specs.Sorts.{sort_depth}
use Rattle.chc_sorts.proofs.SameSort.{sort_ind, sort_depth-Bool, sort_depth-Int, sort_depth-Data, sort_depth-Array}
use Rattle.chc_sexpr.specs.declared.tree.Tree.{Tree}
use Rattle.chc_sexpr.specs.declared.tree.Tree.TheVariants.{Symbol, Group, outs-Symbol, outs-Group}
use Rattle.chc_sexpr.specs.Shapes.{symbol_at, symbol_of, group_of, is_symbol, is_name}
use Rattle.chc_sexpr.specs.Shapes as shapes
use Rattle.chc_sexpr.specs.Spelling.{is_quotable}
use Rattle.chc_sexpr.specs.Symbols.{symbol_text}
use Rattle.chc_sexpr.specs.Tokens.{is_simple_symbol, is_reserved}
use Rattle.chc_sexpr.proofs.Written.{Writes, symbol_at as written_symbol, name_writes}
use Rattle.chc_elab.specs.Sites.{◌>>>◌}
use Rattle.chc_elab.specs.SortTrees.{spec_of, beside_specs, array_spec}
use Rattle.chc_elab.proofs.SpecLaws.{spec-Symbol, spec-Group}
use Rattle.chc_state.specs.Names.{is_writable_name}
use Rattle.chc_print.specs.Texts.{sort_step, sort_text, data_name}
use Rattle.read_again.specs.FirstGroups.{written_sort, written_step}
use Rattle.term_again.proofs.TermTrees.{Begins, IsNone, writes_wider, text_writes, last_at, group_writes}
use Rattle.read_again.proofs.TreesInOrder.{first_at}

-- ---- names

quotable_byte : (b : ℕ) → (not (nat_eq b 124) && not (nat_eq b 92)) ≡ is_quotable b
quotable_byte b = by (nat_eq b 124) (nat_eq b 92)
  where
    by : (p q : Bool) → (not p && not q) ≡ not (p || q)
    by true q = refl
    by false q = refl

-- a name that can be written can stand between bars
pub quotable_name : (name : List ℕ) → is_writable_name name ≡ list_all is_quotable name
quotable_name [] = refl
quotable_name (b ∷ bs) = λ i. quotable_byte b i && quotable_name bs i

-- the tree is the symbol of that name
abbrev pub IsNamed : List ℕ → Tree → Type 0
IsNamed name tree = (place : ℕ) × (tree ≡ Symbol place name)

pub writes_name : (deep : ℕ) (name : List ℕ) → is_writable_name name ≡ true → Writes (IsNamed name) deep (symbol_text name)
writes_name deep name writable = name_writes (IsNamed name) deep name (sym (quotable_name name) ∙ writable) (λ place. (place, refl))

-- a simple symbol as it stands
pub writes_word : (deep : ℕ) (name : List ℕ) → IsTrue (is_simple_symbol name) → IsTrue (not (is_reserved name)) → Writes (IsNamed name) deep name
writes_word deep name simple free place after parted = written_symbol (IsNamed name) deep place name after parted simple free (place, refl)

pub symbol_of-Symbol : (place : ℕ) (name : List ℕ) → symbol_of (Symbol place name) ≡ Some name
symbol_of-Symbol place name = ap symbol_at (outs-Symbol place name)

pub named_symbol : (name : List ℕ) (tree : Tree) → IsNamed name tree → symbol_of tree ≡ Some name
named_symbol name tree is = ap symbol_of is.1 ∙ symbol_of-Symbol is.0 name

pub group_of-Group : (place : ℕ) (trees : List Tree) → group_of (Group place trees) ≡ Some trees
group_of-Group place trees = ap shapes.group_at (outs-Group place trees)

-- ---- the equations of a sort's text, and of the sort that is written

module _ (sig : Signature) where
  pub text-Bool : sort_text sig sort.Bool ≡ codes "Bool"
  text-Bool = ap (sort_text sig) (sym sort.rolls-Bool) ∙ fold-roll-Sort (List ℕ) (sort_step sig) Sort-F.Bool

  pub text-Int : sort_text sig sort.Int ≡ codes "Int"
  text-Int = ap (sort_text sig) (sym sort.rolls-Int) ∙ fold-roll-Sort (List ℕ) (sort_step sig) Sort-F.Int

  pub text-Data : (d : ℕ) → sort_text sig (sort.Data d) ≡ symbol_text (data_name sig d)
  text-Data d = ap (sort_text sig) (sym (sort.rolls-Data d)) ∙ fold-roll-Sort (List ℕ) (sort_step sig) (Sort-F.Data d)

  pub text-Array : (s : Sort) → sort_text sig (sort.Array s) ≡ codes "(Array Int " ++ sort_text sig s ++ codes ")"
  text-Array s = ap (sort_text sig) (sym (sort.rolls-Array s)) ∙ fold-roll-Sort (List ℕ) (sort_step sig) (Sort-F.Array s)

  pub written-Bool : written_sort sig sort.Bool ≡ spec.Named (codes "Bool")
  written-Bool = ap (written_sort sig) (sym sort.rolls-Bool) ∙ fold-roll-Sort SortSpec (written_step sig) Sort-F.Bool

  pub written-Int : written_sort sig sort.Int ≡ spec.Named (codes "Int")
  written-Int = ap (written_sort sig) (sym sort.rolls-Int) ∙ fold-roll-Sort SortSpec (written_step sig) Sort-F.Int

  pub written-Data : (d : ℕ) → written_sort sig (sort.Data d) ≡ spec.Named (data_name sig d)
  written-Data d = ap (written_sort sig) (sym (sort.rolls-Data d)) ∙ fold-roll-Sort SortSpec (written_step sig) (Sort-F.Data d)

  pub written-Array : (s : Sort) → written_sort sig (sort.Array s) ≡ spec.Array (spec.Named (codes "Int")) (written_sort sig s)
  written-Array s = ap (written_sort sig) (sym (sort.rolls-Array s)) ∙ fold-roll-Sort SortSpec (written_step sig) (Sort-F.Array s)

-- ---- trees of sorts

-- the tree spells that written sort
abbrev pub SpellsSort : SortSpec → Tree → Type 0
SpellsSort s tree = spec_of tree ≡ Ok s

named_spells : (name : List ℕ) (tree : Tree) → IsNamed name tree → SpellsSort (spec.Named name) tree
named_spells name tree is = ap spec_of is.1 ∙ spec-Symbol is.0 name

array_read : (place : ℕ) (a b c : Tree) (index element : SortSpec) → symbol_of a ≡ Some (codes "Array") → spec_of b ≡ Ok index → spec_of c ≡ Ok element
    → array_spec place (beside_specs (a ∷ b ∷ c ∷ [])) ≡ Ok (spec.Array index element)
array_read place a b c index element head i e =
    ap (λ o. cond (is_name (codes "Array") o) (spec_of b >>> (λ x. spec_of c >>> (λ y. Ok (spec.Array x y)))) (array_spec place [])) head
    ∙ (λ k. i k >>> (λ x. e k >>> (λ y. Ok (spec.Array x y))))

-- the trees of an array's group
abbrev IsArrayOf : SortSpec → List Tree → Type 0
IsArrayOf element = Begins (IsNamed (codes "Array")) (Begins (IsNamed (codes "Int")) (Begins (SpellsSort element) IsNone))

array_spells : (element : SortSpec) (place : ℕ) (ts : List Tree) → IsArrayOf element ts → SpellsSort (spec.Array (spec.Named (codes "Int")) element) (Group place ts)
array_spells element place [] h = absurd h
array_spells element place (a ∷ []) h = absurd h.1
array_spells element place (a ∷ b ∷ []) h = absurd h.1.1
array_spells element place (a ∷ b ∷ c ∷ []) h =
    spec-Group place (a ∷ b ∷ c ∷ [])
    ∙ array_read place a b c (spec.Named (codes "Int")) element (named_symbol (codes "Array") a h.0) (named_spells (codes "Int") b h.1.0) h.1.1.0
array_spells element place (a ∷ b ∷ c ∷ d ∷ more) h = absurd h.1.1.1

-- ---- sorts are written

-- each sort has a depth
some_depth : (s : Sort) → 1 ≤ sort_depth s
some_depth = sort_ind (λ s. 1 ≤ sort_depth s) (record {
  of_bool = omega (arith, sort_depth-Bool);
  of_int = omega (arith, sort_depth-Int);
  of_data = λ d. omega (arith, sort_depth-Data d);
  of_array = λ s ih. omega (arith, sort_depth-Array s);
})

-- all names of datatypes can be written
abbrev pub AreWritable : Signature → Type 0
AreWritable sig = (d : ℕ) → is_writable_name (data_name sig d) ≡ true

module _ (sig : Signature) (writable : AreWritable sig) where
  -- the text of the sort is written as a tree that spells it, and that is less deep than the sort
  abbrev IsWritten : Sort → Type 0
  IsWritten s = (deep : ℕ) → sort_depth s ≤ deep + 1 → Writes (SpellsSort (written_sort sig s)) deep (sort_text sig s)

  by_name : (s : Sort) (name : List ℕ) (deep : ℕ) (text : List ℕ) → spec.Named name ≡ written_sort sig s → text ≡ sort_text sig s → Writes (IsNamed name) deep text
      → Writes (SpellsSort (written_sort sig s)) deep (sort_text sig s)
  by_name s name deep text e same writes =
      text_writes (SpellsSort (written_sort sig s)) deep text (sort_text sig s) same
      (writes_wider (IsNamed name) (SpellsSort (written_sort sig s)) deep deep (omega arith) (λ t is. named_spells name t is ∙ ap Ok e) text writes)

  array_written : (s : Sort) → IsWritten s → IsWritten (sort.Array s)
  array_written s ih zero le = absurd (omega (arith, le, some_depth s, sort_depth-Array s))
  array_written s ih (suc deep) le =
      let inner : List ℕ = codes "Array" ++ (32 ∷ codes "Int" ++ (32 ∷ sort_text sig s)) in
      let element : SortSpec = written_sort sig s in
      let one : suc deep ≡ deep + 1 = omega arith in
      let depth = sort_depth-Array s in
      text_writes (SpellsSort (written_sort sig (sort.Array s))) (suc deep) (40 ∷ inner ++ 41 ∷ []) (sort_text sig (sort.Array s)) (simp append_assoc refl ∙ sym (text-Array sig s))
      (writes_wider (SpellsSort (spec.Array (spec.Named (codes "Int")) element)) (SpellsSort (written_sort sig (sort.Array s))) (deep + 1) (suc deep) (omega arith)
      (λ t is. is ∙ ap Ok (sym (written-Array sig s))) (40 ∷ inner ++ 41 ∷ [])
      (group_writes (IsArrayOf element) (SpellsSort (spec.Array (spec.Named (codes "Int")) element)) deep inner
      (λ place. first_at deep false (IsNamed (codes "Array")) (Begins (IsNamed (codes "Int")) (Begins (SpellsSort element) IsNone)) place [] (codes "Array") (32 ∷ codes "Int" ++ (32 ∷ sort_text sig s)) refl refl
      (writes_word deep (codes "Array") refl refl)
      (λ next. first_at deep false (IsNamed (codes "Int")) (Begins (SpellsSort element) IsNone) next (32 ∷ []) (codes "Int") (32 ∷ sort_text sig s) refl refl
      (writes_word deep (codes "Int") refl refl)
      (λ last. last_at deep false (SpellsSort element) last (32 ∷ []) (sort_text sig s) refl (ih deep (omega (arith, le, depth))))))
      (array_spells element)))

  -- each sort is written as a tree that spells it
  pub sort_written : (s : Sort) → IsWritten s
  sort_written = sort_ind IsWritten (record {
    of_bool = λ deep le. by_name sort.Bool (codes "Bool") deep (codes "Bool") (sym (written-Bool sig)) (sym (text-Bool sig)) (writes_word deep (codes "Bool") refl refl);
    of_int = λ deep le. by_name sort.Int (codes "Int") deep (codes "Int") (sym (written-Int sig)) (sym (text-Int sig)) (writes_word deep (codes "Int") refl refl);
    of_data = λ d deep le. by_name (sort.Data d) (data_name sig d) deep (symbol_text (data_name sig d)) (sym (written-Data sig d)) (sym (text-Data sig d)) (writes_name deep (data_name sig d) (writable d));
    of_array = array_written;
  })
