-- For which term a tree stands.
use Rattle.std.specs.Prelude.{◌≡◌, ◌↔◌, ℕ, ℤ, pos, neg_ℤ, ◌+◌, ◌≤◌, ◌<◌, IsTrue, List, [], ◌∷◌, ◌++◌, length, map, Some, None, Ok, codes, int_lt, false}
use Rattle.chc_sorts.specs.declared.sort.Sort.{Sort}
use Rattle.chc_sorts.specs.declared.sort.Sort.TheVariants as sort
use Rattle.chc_sorts.specs.declared.meaning.Meaning.TheVariants as meaning
use Rattle.chc_sorts.specs.declared.op_table.ReadOp.{ReadOp}
use Rattle.chc_sorts.specs.declared.op_table.ReadOp.TheVariants as read
use Rattle.chc_sorts.specs.Signature.{Signature}
use Rattle.chc_sorts.specs.Names.{look_up}
use Rattle.chc_sorts.specs.Operators.{op_named}
use Rattle.chc_sorts.specs.Functions.{meaning_of}
use Rattle.chc_sexpr.specs.declared.tree.Tree.{Tree}
use Rattle.chc_sexpr.specs.declared.tree.Tree.TheVariants as tree
use Rattle.chc_terms.specs.declared.term.Kind.{Kind}
use Rattle.chc_terms.specs.declared.term.Kind.TheVariants as kind
use Rattle.chc_terms.specs.declared.term.Term.{Term}
use Rattle.chc_terms.specs.declared.term.Term.TheVariants as term
use Rattle.chc_terms.specs.Counts.{size, depth, size_all}
use Rattle.chc_elab.specs.declared.typed.Typed.{Typed}
use Rattle.chc_elab.specs.declared.symbols.Symbol.{Symbol}
use Rattle.chc_elab.specs.declared.head.Head.{Head}
use Rattle.chc_elab.specs.declared.head.Head.TheVariants as head
use Rattle.chc_elab.specs.Apart.{are_apart}
use Rattle.chc_elab.specs.Limits.{most_nodes, most_levels}
use Rattle.chc_elab.specs.Sites.{Site, Setting, lone_symbol}
use Rattle.chc_elab.specs.Heads.{sort_tree}
use Rattle.chc_elab.specs.Building.{head_takes, head_sort, head_term}
use Rattle.chc_elab.specs.Binders.{sorts_of_trees, outer_site, with_terms, with_variables}
use Rattle.chc_elab.specs.Reads.{number, read_at, elaborated}

-- what a name is at the head of a group: an operator, else a constructor or selector, else a predicate or definition;
-- a name `is-c` that is none of these is the tester of a constructor c
pub data Names (setting : Setting) (name : List ℕ) : Head → Type 0 where
  operator : (o : ReadOp) → op_named name ≡ Some o → Names setting name (head.Operator o)
  constructor : (d c : ℕ) → op_named name ≡ None → meaning_of setting.sig name ≡ Some (meaning.Make d c) → Names setting name (head.Make d c)
  selector : (d c i : ℕ) → op_named name ≡ None → meaning_of setting.sig name ≡ Some (meaning.Get d c i) → Names setting name (head.Get d c i)
  declared : (s : Symbol) → op_named name ≡ None → meaning_of setting.sig name ≡ None → look_up setting.symbols name ≡ Some s
      → Names setting name (head.Declared s)
  tester : (tested : List ℕ) (d c : ℕ) → op_named name ≡ None → meaning_of setting.sig name ≡ None → look_up setting.symbols name ≡ None
      → name ≡ codes "is-" ++ tested → meaning_of setting.sig tested ≡ Some (meaning.Make d c) → Names setting name (head.Is d c)

-- a tree of the form `(Array S T)`
abbrev pub IsArrayForm : Tree → Type 0
IsArrayForm t = (place : ℕ) × (at : ℕ) × (index : Tree) × (element : Tree) × (t ≡ tree.Group place (tree.Symbol at (codes "Array") ∷ index ∷ element ∷ []))

-- the constructor of that name, with the sort that the tree spells
pub data IsOfSort (setting : Setting) (name : List ℕ) (spelled : Tree) : Head → Type 0 where
  of_sort : (d c : ℕ) (s : Sort) → meaning_of setting.sig name ≡ Some (meaning.Make d c) → sort_tree setting spelled ≡ Ok s
      → IsOfSort setting name spelled (head.OfSort d c s)

-- what a tree is at the head of a group
pub data IsHead (setting : Setting) : Tree → Head → Type 0 where
  -- a name
  named_head : (at : ℕ) (name : List ℕ) (h : Head) → Names setting name h → IsHead setting (tree.Symbol at name) h
  -- `(_ is c)`
  tester_head : (place at i j : ℕ) (name : List ℕ) (d c : ℕ) → meaning_of setting.sig name ≡ Some (meaning.Make d c)
      → IsHead setting (tree.Group place (tree.Word at (codes "_") ∷ tree.Symbol i (codes "is") ∷ tree.Symbol j name ∷ [])) (head.Is d c)
  -- `(_ divisible n)`
  divisible_head : (place at i j n : ℕ) → 0 < n
      → IsHead setting (tree.Group place (tree.Word at (codes "_") ∷ tree.Symbol i (codes "divisible") ∷ tree.Numeral j (pos n) ∷ [])) (head.Divisible (pos n))
  -- `(as const (Array S T))`
  constant_head : (place at i : ℕ) (spelled : Tree) (s : Sort) → IsArrayForm spelled → sort_tree setting spelled ≡ Ok s
      → IsHead setting (tree.Group place (tree.Word at (codes "as") ∷ tree.Symbol i (codes "const") ∷ spelled ∷ [])) (head.Constant s)
  -- another `(as c S)`
  of_sort_head : (place at i : ℕ) (name : List ℕ) (spelled : Tree) (h : Head) → ((name ≡ codes "const") × IsArrayForm spelled → ⊥)
      → IsOfSort setting name spelled h
      → IsHead setting (tree.Group place (tree.Word at (codes "as") ∷ tree.Symbol i name ∷ spelled ∷ [])) h

-- the term is what the head gives on these arguments, of which there are as many as it takes
pub record Applies (sig : Signature) (h : Head) (args : List Typed) (t : Typed) : Type 0 where
  pub takes : IsTrue (head_takes sig h (length args))
  pub sorted : head_sort sig h (map (λ (a : Typed). a.sort) args) ≡ Some t.sort
  pub term : t.term ≡ head_term h (map (λ (a : Typed). a.term) args)

-- a minus on one numeral
abbrev pub IsNegative : Head → List Tree → Type 0
IsNegative h args = (at : ℕ) × (n : ℤ) × (int_lt n (pos 0) ≡ false) × (h ≡ head.Operator read.Sub) × (args ≡ tree.Numeral at n ∷ [])

-- trees that are pairs `(x t)`, by their names and second trees
pub data Pairs : List Tree → List (List ℕ) → List Tree → Type 0 where
  no_pair : Pairs [] [] []
  pair_before : (place at : ℕ) (name : List ℕ) (t : Tree) (pairs : List Tree) (names : List (List ℕ)) (seconds : List Tree) → Pairs pairs names seconds
      → Pairs (tree.Group place (tree.Symbol at name ∷ t ∷ []) ∷ pairs) (name ∷ names) (t ∷ seconds)

-- a list of pairs `(x t)` whose names differ
pub data Binds : Tree → List (List ℕ) → List Tree → Type 0 where
  binds : (place : ℕ) (pairs : List Tree) (names : List (List ℕ)) (seconds : List Tree) → Pairs pairs names seconds → IsTrue (are_apart names)
      → Binds (tree.Group place pairs) names seconds

-- the word of a quantifier
abbrev pub kind_word : Kind → List ℕ
kind_word kind.Forall = codes "forall"
kind_word kind.Exists = codes "exists"

mutual
  -- the tree stands for the term at the site, where each term that is formed fits, and the arguments of each are few enough
  pub data Stands (setting : Setting) (Fits : Typed → Type 0) (Few : List Typed → Type 0) : Site → Tree → Typed → Type 0 where
    -- n
    numeral : (site : Site) (place : ℕ) (n : ℤ) → Stands setting Fits Few site (tree.Numeral place n) (number n)
    -- `(- n)`, where n isn't below 0, as no numeral of a text is
    negative : (site : Site) (place at i : ℕ) (minus : List ℕ) (n : ℤ) → op_named minus ≡ Some read.Sub → int_lt n (pos 0) ≡ false
        → Stands setting Fits Few site (tree.Group place (tree.Symbol at minus ∷ tree.Numeral i n ∷ [])) (number (neg_ℤ n))
    -- a lone symbol
    lone : (site : Site) (place : ℕ) (name : List ℕ) (t : Typed) → lone_symbol setting site name ≡ Some t
        → Stands setting Fits Few site (tree.Symbol place name) t
    -- a head on arguments, but for `(- n)`
    application : (site : Site) (place : ℕ) (first : Tree) (args : List Tree) (h : Head) (values : List Typed) (t : Typed)
        → IsHead setting first h → (IsNegative h args → ⊥) → StandAll setting Fits Few site args values → Few values → Applies setting.sig h values t → Fits t
        → Stands setting Fits Few site (tree.Group place (first ∷ args)) t
    -- `(as c S)`
    qualified : (site : Site) (place at i : ℕ) (name : List ℕ) (spelled : Tree) (h : Head) (t : Typed)
        → IsOfSort setting name spelled h → Applies setting.sig h [] t → Fits t
        → Stands setting Fits Few site (tree.Group place (tree.Word at (codes "as") ∷ tree.Symbol i name ∷ spelled ∷ [])) t
    -- `(let ((x t) ..) b)`
    let_names : (site : Site) (place at : ℕ) (pairs body : Tree) (names : List (List ℕ)) (seconds : List Tree) (values : List Typed) (t : Typed)
        → Binds pairs names seconds → StandAll setting Fits Few site seconds values → Stands setting Fits Few (with_terms site names values) body t
        → Stands setting Fits Few site (tree.Group place (tree.Word at (codes "let") ∷ pairs ∷ body ∷ [])) t
    -- `(! t ..)`
    annotated : (site : Site) (place at : ℕ) (body : Tree) (attributes : List Tree) (t : Typed) → Stands setting Fits Few site body t
        → Stands setting Fits Few site (tree.Group place (tree.Word at (codes "!") ∷ body ∷ attributes)) t
    -- `(forall ((x S) ..) b)`, `(exists ((x S) ..) b)`, with variables
    quantifier : (site : Site) (place at : ℕ) (k : Kind) (pairs body : Tree) (names : List (List ℕ)) (seconds : List Tree) (s : Sort) (sorts : List Sort) (t : Typed)
        → Binds pairs names seconds → sorts_of_trees setting seconds ≡ Ok (s ∷ sorts)
        → Stands setting Fits Few (with_variables site names (s ∷ sorts)) body t → t.sort ≡ sort.Bool
        → Fits (record { term = term.Quant k (s ∷ sorts) t.term; sort = sort.Bool })
        → Stands setting Fits Few site (tree.Group place (tree.Word at (kind_word k) ∷ pairs ∷ body ∷ [])) (record { term = term.Quant k (s ∷ sorts) t.term; sort = sort.Bool })
    -- and without
    unquantified : (site : Site) (place at i : ℕ) (k : Kind) (body : Tree) (t : Typed) → Stands setting Fits Few site body t
        → Stands setting Fits Few site (tree.Group place (tree.Word at (kind_word k) ∷ tree.Group i [] ∷ body ∷ [])) t

  -- each tree stands for its term
  pub data StandAll (setting : Setting) (Fits : Typed → Type 0) (Few : List Typed → Type 0) : Site → List Tree → List Typed → Type 0 where
    no_tree : (site : Site) → StandAll setting Fits Few site [] []
    tree_before : (site : Site) (first : Tree) (trees : List Tree) (t : Typed) (values : List Typed)
        → Stands setting Fits Few site first t → StandAll setting Fits Few site trees values
        → StandAll setting Fits Few site (first ∷ trees) (t ∷ values)

-- within the limits of nodes and depth
abbrev pub IsWithin : Typed → Type 0
IsWithin t = (size t.term ≤ most_nodes) × (depth t.term ≤ most_levels)

-- arguments whose sizes come, with 1, to no more nodes than a term may have; then those of each front of them do too
abbrev pub AreFew : List Typed → Type 0
AreFew args = 1 + size_all (map (λ (a : Typed). a.term) args) ≤ most_nodes

-- the tree stands for the term, and every term on the way is within the limits
abbrev pub IsRead : Setting → Site → Tree → Typed → Type 0
IsRead setting = Stands setting IsWithin AreFew

-- the tree stands for the term, whatever its size and depth
abbrev pub IsSaid : Setting → Site → Tree → Typed → Type 0
IsSaid setting = Stands setting (λ t. Unit) (λ args. Unit)

-- a tree that stands for a term within the limits is read as that term
abbrev pub StandsIsRead : Type 0
StandsIsRead = (setting : Setting) (site : Site) (t : Tree) (v : Typed) → IsRead setting site t v → read_at setting t site ≡ Ok v

-- a tree that is read as a term stands for it, within the limits
abbrev pub ReadStands : Type 0
ReadStands = (setting : Setting) (site : Site) (t : Tree) (v : Typed) → read_at setting t site ≡ Ok v → IsRead setting site t v

-- a tree that stands for a term within the limits stands for it without them
abbrev pub ReadIsSaid : Type 0
ReadIsSaid = (setting : Setting) (site : Site) (t : Tree) (v : Typed) → IsRead setting site t v → IsSaid setting site t v

-- a tree stands for one term at most, whatever its size and depth
abbrev pub StandsForOne : Type 0
StandsForOne = (setting : Setting) (site : Site) (t : Tree) (v w : Typed) → IsSaid setting site t v → IsSaid setting site t w → v ≡ w

-- the tree is read as the term exactly where it stands for it with some sort, under variables of these names and sorts
abbrev pub ReadWhereStands : Type 0
ReadWhereStands = (setting : Setting) (names : List (List ℕ)) (sorts : List Sort) (t : Tree) (v : Term)
    → (elaborated setting names sorts t ≡ Ok v) ↔ ((s : Sort) × IsRead setting (outer_site names sorts) t (record { term = v; sort = s }))
