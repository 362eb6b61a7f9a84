-- What is read of a tree is what the tree is but for its places.
use Rattle.std.proofs.Common.{◌≡◌, ◌∙◌, ◌<◌, ◌^◌, ℕ, pos, negsuc, nat_lt, Bool, cond, List, [], ◌∷◌, ◌++◌, map, Option, Some, None, ap, sym, refl, subst, append_assoc, append-nil, arith}
use Rattle.std.proofs.lemmas.List.Elements.{All-cons, All-head, All-tail}
use Rattle.std.specs.Option.{option_map, option_and_then}
use Rattle.std.specs.Str.{bytes_eq}
use Rattle.std.proofs.lemmas.Bool.{ltb-true, lt-ltb}
use Rattle.std.proofs.lemmas.Option.{cond_some, same_Some, option_and_then_some, some_pair_parts}
use Rattle.std.proofs.lemmas.Slice.Eq.{bytes_eq-Decides}
use Rattle.chc_sexpr.specs.declared.tree.Tree.{Tree, out-Tree, roll-Tree, roll-out-Tree, fold-roll-Tree}
use Rattle.chc_sexpr.specs.declared.tree.Tree.TheOpen.{Tree-F}
use Rattle.chc_sexpr.specs.declared.tree.Tree.TheVariants.{Symbol, Text, rolls-Symbol, rolls-Numeral, rolls-Text, rolls-Group, outs-Symbol, outs-Word, outs-Keyword, outs-Numeral, outs-Text, outs-Other, outs-Group}
use Rattle.chc_sexpr.specs.Readings.{◌>>=◌}
use Rattle.chc_sexpr.specs.Shapes.{symbol_at, symbol_of, group_at, form_at, form_of}
use Rattle.chc_sexpr.specs.Writing.{unplaced_step, unplaced}
use Rattle.chc_trace.specs.Numbers.{number, AreSmall, number_in, number_of, one_number, numbers_after, numbers_of}
use Rattle.chc_trace.specs.Readings.{string_in, only_string, behind, behind_name, string_behind}
use Rattle.chc_trace.specs.Traces.{form}

-- ---- exact readings

-- what is read is exactly that of which the claim holds
pub record Exact (A : Type 0) (read : Option A) (Is : A → Type 0) : Type 0 where
  pub from : (a : A) → read ≡ Some a → Is a
  pub to : (a : A) → Is a → read ≡ Some a

-- so for another claim that says the same
pub exact_as : (A : Type 0) (read : Option A) (Is Also : A → Type 0) → ((a : A) → Is a → Also a) → ((a : A) → Also a → Is a) → Exact A read Is → Exact A read Also
exact_as A read Is Also there back x = record { from = λ a e. there a (x.from a e); to = λ a h. x.to a (back a h) }

-- nothing is read, and the claim holds of nothing
exact_none : (A : Type 0) (Is : A → Type 0) → ((a : A) → Is a → ⊥) → Exact A None Is
exact_none A Is none = record { from = λ a e. cc; to = λ a h. absurd (none a h) }

-- what is made of what is read
pub exact_map : (A B : Type 0) (read : Option A) (Is : A → Type 0) (f : A → B) → Exact A read Is → Exact B (option_map f read) (λ b. (a : A) × Is a × (f a ≡ b))
exact_map A B (Some x) Is f e = record {
  from = λ b same. (x, e.from x refl, same_Some (f x) b same);
  to = λ b h. ap Some (ap f (same_Some x h.0 (e.to h.0 h.1)) ∙ h.2);
}
exact_map A B None Is f e = record { from = λ b same. cc; to = λ b h. (let none = e.to h.0 h.1 in cc) }

-- what is read of what was read first
pub exact_then : (A B : Type 0) (read : Option A) (Is : A → Type 0) (next : A → Option B) (Also : A → B → Type 0) → Exact A read Is → ((a : A) → Exact B (next a) (Also a))
    → Exact B (read >>= next) (λ b. (a : A) × Is a × Also a b)
exact_then A B (Some x) Is next Also e f = record {
  from = λ b same. (x, e.from x refl, (f x).from b same);
  to = λ b h. subst (λ (y : A). next y ≡ Some b) (sym (same_Some x h.0 (e.to h.0 h.1))) ((f h.0).to b h.2);
}
exact_then A B None Is next Also e f = record { from = λ b same. cc; to = λ b h. (let none = e.to h.0 h.1 in cc) }

-- ---- levels

-- a level with 0 for the places in it
bare : Tree-F Tree → Tree-F Tree
bare (Tree-F.Symbol place name) = Tree-F.Symbol 0 name
bare (Tree-F.Word place word) = Tree-F.Word 0 word
bare (Tree-F.Keyword place word) = Tree-F.Keyword 0 word
bare (Tree-F.Numeral place n) = Tree-F.Numeral 0 n
bare (Tree-F.Text place bytes) = Tree-F.Text 0 bytes
bare (Tree-F.Other place token) = Tree-F.Other 0 token
bare (Tree-F.Group place trees) = Tree-F.Group 0 (map unplaced trees)

level_bared : (level : Tree-F Tree) → out-Tree (unplaced (roll-Tree level)) ≡ bare level
unfolding bare
level_bared (Tree-F.Symbol place name) = ap out-Tree (fold-roll-Tree Tree unplaced_step (Tree-F.Symbol place name)) ∙ outs-Symbol 0 name
level_bared (Tree-F.Word place word) = ap out-Tree (fold-roll-Tree Tree unplaced_step (Tree-F.Word place word)) ∙ outs-Word 0 word
level_bared (Tree-F.Keyword place word) = ap out-Tree (fold-roll-Tree Tree unplaced_step (Tree-F.Keyword place word)) ∙ outs-Keyword 0 word
level_bared (Tree-F.Numeral place n) = ap out-Tree (fold-roll-Tree Tree unplaced_step (Tree-F.Numeral place n)) ∙ outs-Numeral 0 n
level_bared (Tree-F.Text place bytes) = ap out-Tree (fold-roll-Tree Tree unplaced_step (Tree-F.Text place bytes)) ∙ outs-Text 0 bytes
level_bared (Tree-F.Other place token) = ap out-Tree (fold-roll-Tree Tree unplaced_step (Tree-F.Other place token)) ∙ outs-Other 0 token
level_bared (Tree-F.Group place trees) = ap out-Tree (fold-roll-Tree Tree unplaced_step (Tree-F.Group place trees)) ∙ outs-Group 0 (map unplaced trees)

tree_bared : (t : Tree) → out-Tree (unplaced t) ≡ bare (out-Tree t)
tree_bared t = ap (λ (u : Tree). out-Tree (unplaced u)) (sym (roll-out-Tree t)) ∙ level_bared (out-Tree t)

-- what is exact on levels is so on trees
on_trees : (A : Type 0) (read : Tree-F Tree → Option A) (level : A → Tree-F Tree) (tree : A → Tree) (Is : A → Type 0)
    → ((a : A) → roll-Tree (level a) ≡ tree a) → ((a : A) → out-Tree (tree a) ≡ level a)
    → ((l : Tree-F Tree) → Exact A (read l) (λ a. (bare l ≡ level a) × Is a)) → (t : Tree) → Exact A (read (out-Tree t)) (λ a. (unplaced t ≡ tree a) × Is a)
on_trees A read level tree Is rolls outs on_levels t =
    let exact = on_levels (out-Tree t) in
    record {
      from = λ a e. (let h = exact.from a e in (sym (roll-out-Tree (unplaced t)) ∙ ap roll-Tree (tree_bared t ∙ h.0) ∙ rolls a, h.1));
      to = λ a h. exact.to a (sym (tree_bared t) ∙ ap out-Tree h.0 ∙ outs a, h.1);
    }

-- ---- numbers

-- a number that passes the test
exact_below : (level : ℕ → Tree-F Tree) (m : ℕ) → ((n : ℕ) → level m ≡ level n → m ≡ n)
    → Exact ℕ (cond (nat_lt m (2 ^ 32)) (Some m) None) (λ n. (level m ≡ level n) × (n < 2 ^ 32))
exact_below level m same = record {
  from = λ n e. (let h = cond_some (nat_lt m (2 ^ 32)) m n e in (ap level h.1, subst (λ (k : ℕ). k < 2 ^ 32) h.1 (ltb-true m (2 ^ 32) h.0)));
  to = λ n h. (
      let e = same n h.0 in
      ap (λ (b : Bool). cond b (Some m) None) (lt-ltb m (2 ^ 32) (subst (λ (k : ℕ). k < 2 ^ 32) (sym e) h.1)) ∙ ap Some e
      );
}

number_level : (l : Tree-F Tree) → Exact ℕ (number_in l) (λ n. (bare l ≡ Tree-F.Numeral 0 (pos n)) × (n < 2 ^ 32))
unfolding bare
number_level (Tree-F.Symbol place name) = exact_none ℕ _ (λ n h. cc)
number_level (Tree-F.Word place word) = exact_none ℕ _ (λ n h. cc)
number_level (Tree-F.Keyword place word) = exact_none ℕ _ (λ n h. cc)
number_level (Tree-F.Numeral place (pos m)) = exact_below (λ n. Tree-F.Numeral 0 (pos n)) m (λ n e. cc)
number_level (Tree-F.Numeral place (negsuc m)) = exact_none ℕ _ (λ n h. cc)
number_level (Tree-F.Text place bytes) = exact_none ℕ _ (λ n h. cc)
number_level (Tree-F.Other place token) = exact_none ℕ _ (λ n h. cc)
number_level (Tree-F.Group place trees) = exact_none ℕ _ (λ n h. cc)

pub number_exact : (t : Tree) → Exact ℕ (number_of t) (λ n. (unplaced t ≡ number n) × (n < 2 ^ 32))
number_exact = on_trees ℕ number_in (λ n. Tree-F.Numeral 0 (pos n)) number (λ n. n < 2 ^ 32) (λ n. rolls-Numeral 0 (pos n)) (λ n. outs-Numeral 0 (pos n)) number_level

-- one number alone
pub one_number_exact : (ts : List Tree) → Exact ℕ (one_number ts) (λ n. (map unplaced ts ≡ number n ∷ []) × (n < 2 ^ 32))
one_number_exact [] = exact_none ℕ _ (λ n h. cc)
one_number_exact (t ∷ []) = exact_as ℕ (number_of t) _ _ (λ n h. (ap (λ (u : Tree). u ∷ []) h.0, h.1)) (λ n h. ((let e = h.0 in cc), h.1)) (number_exact t)
one_number_exact (t ∷ u ∷ us) = exact_none ℕ _ (λ n h. cc)

none_behind : (made all ns : List ℕ) → all ≡ made ++ ns → [] ≡ map number ns → Some made ≡ Some all
none_behind made all [] is none = ap Some (sym (is ∙ append-nil made))
none_behind made all (n ∷ ns) is none = cc

first_behind : (made : List ℕ) (t : Tree) (ts : List Tree) (all ns : List ℕ) → all ≡ made ++ ns → unplaced t ∷ map unplaced ts ≡ map number ns → AreSmall ns
    → (n : ℕ) × ((unplaced t ≡ number n) × (n < 2 ^ 32)) × ((more : List ℕ) × (all ≡ made ++ n ∷ [] ++ more) × (map unplaced ts ≡ map number more) × AreSmall more)
first_behind made t ts all [] is alike small = cc
first_behind made t ts all (n ∷ ns) is alike small =
    let first : unplaced t ≡ number n = cc in
    let rest : map unplaced ts ≡ map number ns = cc in
    (n, (first, All-head (λ m. m < 2 ^ 32) n ns small), (ns, is ∙ sym (append_assoc made (n ∷ []) ns), rest, All-tail (λ m. m < 2 ^ 32) n ns small))

-- numbers behind others
numbers_after_exact : (made : List ℕ) (ts : List Tree)
    → Exact (List ℕ) (numbers_after made ts) (λ all. (ns : List ℕ) × (all ≡ made ++ ns) × (map unplaced ts ≡ map number ns) × AreSmall ns)
numbers_after_exact made [] = record {
  from = λ all e. ([], sym (same_Some made all e) ∙ sym (append-nil made), refl, λ k d below. absurd (omega arith));
  to = λ all h. none_behind made all h.0 h.1 h.2;
}
numbers_after_exact made (t ∷ ts) =
    exact_as (List ℕ) (number_of t >>= (λ n. numbers_after (made ++ n ∷ []) ts)) _ _
    (λ all h. (
      h.0 ∷ h.2.0,
      h.2.1 ∙ append_assoc made (h.0 ∷ []) h.2.0,
      (λ i. h.1.0 i ∷ h.2.2 i),
      All-cons (λ n. n < 2 ^ 32) h.0 h.2.0 h.1.1 h.2.3,
    ))
    (λ all h. first_behind made t ts all h.0 h.1 h.2 h.3)
    (exact_then ℕ (List ℕ) (number_of t) (λ n. (unplaced t ≡ number n) × (n < 2 ^ 32)) (λ n. numbers_after (made ++ n ∷ []) ts)
    (λ n all. (ns : List ℕ) × (all ≡ made ++ n ∷ [] ++ ns) × (map unplaced ts ≡ map number ns) × AreSmall ns) (number_exact t) (λ n. numbers_after_exact (made ++ n ∷ []) ts))

pub numbers_exact : (ts : List Tree) → Exact (List ℕ) (numbers_of ts) (λ ns. (map unplaced ts ≡ map number ns) × AreSmall ns)
numbers_exact ts =
    exact_as (List ℕ) (numbers_of ts) _ _
    (λ all h. (h.2 ∙ ap (map number) (sym h.1), subst AreSmall (sym h.1) h.3)) (λ all h. (all, refl, h.0, h.1)) (numbers_after_exact [] ts)

-- ---- strings

string_level : (l : Tree-F Tree) → Exact (List ℕ) (string_in l) (λ bytes. (bare l ≡ Tree-F.Text 0 bytes) × Unit {0})
unfolding bare
string_level (Tree-F.Symbol place name) = exact_none (List ℕ) _ (λ n h. cc)
string_level (Tree-F.Word place word) = exact_none (List ℕ) _ (λ n h. cc)
string_level (Tree-F.Keyword place word) = exact_none (List ℕ) _ (λ n h. cc)
string_level (Tree-F.Numeral place n) = exact_none (List ℕ) _ (λ n h. cc)
string_level (Tree-F.Text place bytes) = record { from = λ other e. ((let same = e in cc), tt); to = λ other h. (let same = h.0 in cc) }
string_level (Tree-F.Other place token) = exact_none (List ℕ) _ (λ n h. cc)
string_level (Tree-F.Group place trees) = exact_none (List ℕ) _ (λ n h. cc)

string_exact : (t : Tree) → Exact (List ℕ) (string_in (out-Tree t)) (λ bytes. (unplaced t ≡ Text 0 bytes) × Unit {0})
string_exact = on_trees (List ℕ) string_in (λ bytes. Tree-F.Text 0 bytes) (Text 0) (λ bytes. Unit {0}) (λ bytes. rolls-Text 0 bytes) (λ bytes. outs-Text 0 bytes) string_level

only_string_exact : (ts : List Tree) → Exact (List ℕ) (only_string ts) (λ bytes. map unplaced ts ≡ Text 0 bytes ∷ [])
only_string_exact [] = exact_none (List ℕ) _ (λ n h. cc)
only_string_exact (t ∷ []) = exact_as (List ℕ) (string_in (out-Tree t)) _ _ (λ n h. ap (λ (u : Tree). u ∷ []) h.0) (λ n h. ((let e = h in cc), tt)) (string_exact t)
only_string_exact (t ∷ u ∷ us) = exact_none (List ℕ) _ (λ n h. cc)

-- ---- symbols

symbol_level : (l : Tree-F Tree) → Exact (List ℕ) (symbol_at l) (λ name. (bare l ≡ Tree-F.Symbol 0 name) × Unit {0})
unfolding bare
symbol_level (Tree-F.Symbol place name) = record { from = λ other e. ((let same = e in cc), tt); to = λ other h. (let same = h.0 in cc) }
symbol_level (Tree-F.Word place word) = exact_none (List ℕ) _ (λ n h. cc)
symbol_level (Tree-F.Keyword place word) = exact_none (List ℕ) _ (λ n h. cc)
symbol_level (Tree-F.Numeral place n) = exact_none (List ℕ) _ (λ n h. cc)
symbol_level (Tree-F.Text place bytes) = exact_none (List ℕ) _ (λ n h. cc)
symbol_level (Tree-F.Other place token) = exact_none (List ℕ) _ (λ n h. cc)
symbol_level (Tree-F.Group place trees) = exact_none (List ℕ) _ (λ n h. cc)

pub symbol_exact : (t : Tree) → Exact (List ℕ) (symbol_of t) (λ name. (unplaced t ≡ Symbol 0 name) × Unit {0})
symbol_exact = on_trees (List ℕ) symbol_at (λ name. Tree-F.Symbol 0 name) (Symbol 0) (λ name. Unit {0}) (λ name. rolls-Symbol 0 name) (λ name. outs-Symbol 0 name) symbol_level

-- ---- forms

-- what is behind a name has that name
pub behind_is : (name : List ℕ) (o : Option (List ℕ × List Tree)) (more : List Tree) → behind name o ≡ Some more → o ≡ Some (name, more)
behind_is name None more e = cc
behind_is name (Some (head, trees)) more e =
    let h = cond_some (bytes_eq head name) trees more e in
    let same : head ≡ name = (bytes_eq-Decides head name).0 h.0 in
    λ i. Some (same i, h.1 i)

head_is : (name : List ℕ) (o : Option (List ℕ)) (args more : List Tree) → option_map {U = List ℕ × List Tree} (λ n. (n, args)) o ≡ Some (name, more) → (o ≡ Some name) × (args ≡ more)
head_is name None args more e = cc
head_is name (Some head) args more e = let h = some_pair_parts head name args more e in (ap Some h.0, h.1)

behind_level : (name : List ℕ) (l : Tree-F Tree) (more : List Tree) → behind name (form_at (group_at l)) ≡ Some more → bare l ≡ Tree-F.Group 0 (Symbol 0 name ∷ map unplaced more)
unfolding bare
behind_level name (Tree-F.Symbol place other) more e = cc
behind_level name (Tree-F.Word place word) more e = cc
behind_level name (Tree-F.Keyword place word) more e = cc
behind_level name (Tree-F.Numeral place n) more e = cc
behind_level name (Tree-F.Text place bytes) more e = cc
behind_level name (Tree-F.Other place token) more e = cc
behind_level name (Tree-F.Group place []) more e = cc
behind_level name (Tree-F.Group place (head ∷ args)) more e =
    let h = head_is name (symbol_of head) args more (behind_is name (option_map {U = List ℕ × List Tree} (λ n. (n, args)) (symbol_of head)) more e) in
    let symbol : unplaced head ≡ Symbol 0 name = ((symbol_exact head).from name h.0).0 in
    λ i. Tree-F.Group 0 (symbol i ∷ map unplaced (h.1 i))

behind_from : (name : List ℕ) (t : Tree) (more : List Tree) → behind_name name t ≡ Some more → unplaced t ≡ form name (map unplaced more)
behind_from name t more e =
    sym (roll-out-Tree (unplaced t)) ∙ ap roll-Tree (tree_bared t ∙ behind_level name (out-Tree t) more e) ∙ rolls-Group 0 (Symbol 0 name ∷ map unplaced more)

-- what stands behind the name, where it is these trees but for places
abbrev IsBehind : List ℕ → Option (List ℕ × List Tree) → List Tree → Type 0
IsBehind name o trees = (more : List Tree) × (behind name o ≡ Some more) × (map unplaced more ≡ trees)

behind_at : (name : List ℕ) (l : Tree-F Tree) (trees : List Tree) → bare l ≡ Tree-F.Group 0 (Symbol 0 name ∷ trees) → IsBehind name (form_at (group_at l)) trees
unfolding bare
behind_at name (Tree-F.Symbol place other) trees e = cc
behind_at name (Tree-F.Word place word) trees e = cc
behind_at name (Tree-F.Keyword place word) trees e = cc
behind_at name (Tree-F.Numeral place n) trees e = cc
behind_at name (Tree-F.Text place bytes) trees e = cc
behind_at name (Tree-F.Other place token) trees e = cc
behind_at name (Tree-F.Group place []) trees e = cc
behind_at name (Tree-F.Group place (head ∷ args)) trees e =
    let first : unplaced head ≡ Symbol 0 name = cc in
    let rest : map unplaced args ≡ trees = cc in (
      args,
      ap (λ (o : Option (List ℕ)). behind name (option_map {U = List ℕ × List Tree} (λ n. (n, args)) o)) ((symbol_exact head).to name (first, tt))
          ∙ ap (λ (b : Bool). cond b (Some args) None) ((bytes_eq-Decides name name).1 refl),
      rest,
    )

pub behind_to : (name : List ℕ) (t : Tree) (trees : List Tree) → unplaced t ≡ form name trees → IsBehind name (form_of t) trees
behind_to name t trees e = behind_at name (out-Tree t) trees (sym (tree_bared t) ∙ ap out-Tree e ∙ outs-Group 0 (Symbol 0 name ∷ trees))

-- what is read behind a name
pub form_exact : (A : Type 0) (name : List ℕ) (read : List Tree → Option A) (Is : A → List Tree → Type 0) → ((ts : List Tree) → Exact A (read ts) (λ a. Is a (map unplaced ts)))
    → (t : Tree) → Exact A (behind_name name t >>= read) (λ a. (trees : List Tree) × (unplaced t ≡ form name trees) × Is a trees)
form_exact A name read Is exact t = record {
  from = λ a e. option_and_then_some read (behind_name name t) a e (λ more first then. (map unplaced more, behind_from name t more first, (exact more).from a then));
  to = λ a h. (
      let b = behind_to name t h.0 h.1 in
      ap (option_and_then read) b.1 ∙ (exact b.0).to a (subst (Is a) (sym b.2) h.2)
      );
}

-- a string behind a name
pub string_behind_exact : (name : List ℕ) (t : Tree) → Exact (List ℕ) (string_behind name t) (λ bytes. unplaced t ≡ form name (Text 0 bytes ∷ []))
string_behind_exact name t =
    exact_as (List ℕ) (string_behind name t) _ _
    (λ bytes h. h.1 ∙ ap (form name) h.2) (λ bytes e. (Text 0 bytes ∷ [], e, refl)) (form_exact (List ℕ) name only_string (λ bytes trees. trees ≡ Text 0 bytes ∷ []) only_string_exact t)
