-- Trees whose numerals are in range and whose names can be written: what is known of their parts.
use Rattle.std.proofs.Common.{◌≡◌, ◌≤◌, ◌+◌, ℕ, ℤ, Bool, true, ◌&&◌, List, [], ◌∷◌, Option, Some, None, refl, ap, sym, ◌∙◌, arith}
use Rattle.std.specs.List.{AllByRecursion, list_all}
use Rattle.std.specs.Option.{option_map}
use Rattle.std.proofs.lemmas.Bool.{and_parts}
use Rattle.std.proofs.lemmas.List.Folds.{list_all-map}
use Rattle.chc_sexpr.specs.Counts.{count, count_all}
use Rattle.chc_sexpr.specs.Shapes.{symbol_of, group_of, form_at, form_of}
use Rattle.chc_sexpr.specs.declared.tree.Tree.{Tree, fold-Tree}
use Rattle.chc_sexpr.specs.declared.tree.Tree.TheVariants as tree
use Rattle.chc_sexpr.proofs.Folds.{fold-Symbol, fold-Word, fold-Keyword, fold-Numeral, fold-Text, fold-Other, fold-Group, tree_ind, TreeCases}
use Rattle.chc_values.specs.Ranges.{is_int_in_range}
use Rattle.chc_state.specs.Names.{is_writable_name}
use Rattle.chc_elab.specs.WellRead.{are_numerals_in_range, numerals_step}
use Rattle.chc_elab.proofs.Readings.{none_some, some_same}
use Rattle.chc_elab.proofs.ShapeLaws.{is_Symbol, is_Group}
use Rattle.chc_elab.proofs.TreeCounts.{count_inner, count_some}
use Rattle.chc_script.specs.Spellable.{spellable_step, is_spellable, are_spellable}

pub spellable-Symbol : (place : ℕ) (name : List ℕ) → is_spellable (tree.Symbol place name) ≡ is_writable_name name
unfolding is_spellable
spellable-Symbol place name = fold-Symbol Bool spellable_step place name

pub spellable-Word : (place : ℕ) (word : List ℕ) → is_spellable (tree.Word place word) ≡ true
unfolding is_spellable
spellable-Word place word = fold-Word Bool spellable_step place word

pub spellable-Keyword : (place : ℕ) (word : List ℕ) → is_spellable (tree.Keyword place word) ≡ true
unfolding is_spellable
spellable-Keyword place word = fold-Keyword Bool spellable_step place word

pub spellable-Numeral : (place : ℕ) (n : ℤ) → is_spellable (tree.Numeral place n) ≡ is_int_in_range n
unfolding is_spellable
spellable-Numeral place n = fold-Numeral Bool spellable_step place n

pub spellable-Text : (place : ℕ) (bytes : List ℕ) → is_spellable (tree.Text place bytes) ≡ true
unfolding is_spellable
spellable-Text place bytes = fold-Text Bool spellable_step place bytes

pub spellable-Other : (place : ℕ) (token : List ℕ) → is_spellable (tree.Other place token) ≡ true
unfolding is_spellable
spellable-Other place token = fold-Other Bool spellable_step place token

pub spellable-Group : (place : ℕ) (trees : List Tree) → is_spellable (tree.Group place trees) ≡ are_spellable trees
unfolding is_spellable
spellable-Group place trees = fold-Group Bool spellable_step place trees ∙ list_all-map (λ b. b) (fold-Tree Bool spellable_step) trees

-- the name of a symbol can be written
pub symbol_writable : (t : Tree) (name : List ℕ) → is_spellable t ≡ true → symbol_of t ≡ Some name → is_writable_name name ≡ true
symbol_writable t name h e = let (at, is) = is_Symbol t name e in sym (spellable-Symbol at name) ∙ ap is_spellable (sym is) ∙ h

-- the trees of a group
pub group_spellable : (t : Tree) (trees : List Tree) → is_spellable t ≡ true → group_of t ≡ Some trees → are_spellable trees ≡ true
group_spellable t trees h e = let (at, is) = is_Group t trees e in sym (spellable-Group at trees) ∙ ap is_spellable (sym is) ∙ h

-- the first tree of a list, and the others
pub first_spellable : (t : Tree) (ts : List Tree) → are_spellable (t ∷ ts) ≡ true → (is_spellable t ≡ true) × (are_spellable ts ≡ true)
first_spellable t ts h = and_parts (is_spellable t) (are_spellable ts) h

-- the head of a form
named : (head : Tree) (ts : List Tree) (name : List ℕ) (args : List Tree) (o : Option (List ℕ)) → option_map {U = List ℕ × List Tree} (λ n. (n, ts)) o ≡ Some (name, args) → (o ≡ Some name) × (ts ≡ args)
named head ts name args None h = absurd (none_some (name, args) h)
named head ts name args (Some n) h = let e = some_same (n, ts) (name, args) h in (ap (λ (p : List ℕ × List Tree). Some p.0) e, ap (λ (p : List ℕ × List Tree). p.1) e)

at_form : (o : Option (List Tree)) (name : List ℕ) (args : List Tree) → form_at o ≡ Some (name, args) → (head : Tree) × (symbol_of head ≡ Some name) × (o ≡ Some (head ∷ args))
at_form None name args h = absurd (none_some (name, args) h)
at_form (Some []) name args h = absurd (none_some (name, args) h)
at_form (Some (head ∷ ts)) name args h =
    let (is, same) = named head ts name args (symbol_of head) h in
    (head, is, ap (λ l. Some (head ∷ l)) same)

-- the name of a form can be written, and its arguments are like it
pub form_spellable : (t : Tree) (name : List ℕ) (args : List Tree) → is_spellable t ≡ true → form_of t ≡ Some (name, args)
    → (is_writable_name name ≡ true) × (are_spellable args ≡ true)
form_spellable t name args h e =
    let (head, is, group) = at_form (group_of t) name args e in
    let (first, rest) = first_spellable head args (group_spellable t (head ∷ args) h group) in
    (symbol_writable head name first is, rest)

-- the arguments of a form are fewer than the trees of which it is made
pub form_counted : (t : Tree) (name : List ℕ) (args : List Tree) → form_of t ≡ Some (name, args) → count_all args + 1 ≤ count t
form_counted t name args e =
    let (head, is, group) = at_form (group_of t) name args e in
    let inner = count_inner t (head ∷ args) group in
    omega (arith, inner)

-- the numerals are in range
abbrev InRange : Tree → Type 0
InRange t = is_spellable t ≡ true → are_numerals_in_range t ≡ true

each_in_range : (ts : List Tree) → AllByRecursion InRange ts → are_spellable ts ≡ true → list_all are_numerals_in_range ts ≡ true
each_in_range [] all h = refl
each_in_range (t ∷ ts) all h =
    let (first, rest) = first_spellable t ts h in
    ap (λ b. b && list_all are_numerals_in_range ts) (all.0 first) ∙ each_in_range ts all.1 rest

in_range : TreeCases InRange
in_range = record {
  symbol = λ at name h. fold-Symbol Bool numerals_step at name;
  word = λ at word h. fold-Word Bool numerals_step at word;
  keyword = λ at word h. fold-Keyword Bool numerals_step at word;
  numeral = λ at n h. fold-Numeral Bool numerals_step at n ∙ sym (spellable-Numeral at n) ∙ h;
  text = λ at bytes h. fold-Text Bool numerals_step at bytes;
  other = λ at token h. fold-Other Bool numerals_step at token;
  group = λ at ts all h. fold-Group Bool numerals_step at ts ∙ list_all-map (λ b. b) are_numerals_in_range ts ∙ each_in_range ts all (sym (spellable-Group at ts) ∙ h);
}

pub numerals_in_range : (t : Tree) → is_spellable t ≡ true → are_numerals_in_range t ≡ true
numerals_in_range = tree_ind InRange in_range
