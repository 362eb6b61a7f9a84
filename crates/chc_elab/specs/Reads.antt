-- What a tree is read as: its term, or the first fault.
use Rattle.std.specs.Prelude.{ℕ, ℤ, pos, neg_ℤ, ◌+◌, nat_lt, int_lt, cond, List, [], ◌∷◌, length, map, Option, Some, None, Ok, codes}
use Rattle.std.specs.Str.{bytes_eq}
use Rattle.chc_sorts.specs.declared.sort.Sort.{Sort}
use Rattle.chc_sorts.specs.declared.sort.Sort.TheVariants as sort
use Rattle.chc_sorts.specs.declared.op_table.ReadOp.TheVariants as read
use Rattle.chc_sexpr.specs.declared.tree.Tree.{Tree, para-Tree, out-Tree}
use Rattle.chc_sexpr.specs.declared.tree.Tree.TheOpen.{Tree-F}
use Rattle.chc_sexpr.specs.declared.tree.Tree.TheVariants as tree
use Rattle.chc_sexpr.specs.declared.fault.Fault.TheVariants.{BadCommand, UnknownName, NotSupported, WrongCount, WrongSort, TooLarge}
use Rattle.chc_sexpr.specs.Shapes.{group_of}
use Rattle.chc_terms.specs.declared.term.Kind.{Kind}
use Rattle.chc_terms.specs.declared.term.Term.{Term}
use Rattle.chc_terms.specs.declared.term.Term.TheVariants as term
use Rattle.chc_terms.specs.Counts.{size}
use Rattle.chc_terms.specs.Sorted.{quantifier_sort}
use Rattle.chc_elab.specs.declared.typed.Typed.{Typed}
use Rattle.chc_elab.specs.declared.sorted_term.SortedTerm.{SortedTerm}
use Rattle.chc_elab.specs.declared.head.Head.{Head}
use Rattle.chc_elab.specs.declared.head.Head.TheVariants as head
use Rattle.chc_elab.specs.declared.form.Form.{Form}
use Rattle.chc_elab.specs.declared.form.Form.TheVariants as form
use Rattle.chc_elab.specs.Limits.{most_nodes}
use Rattle.chc_elab.specs.Sites.{Site, Setting, Reading, faulty, or_fault, ◌>>>◌, lone_symbol}
use Rattle.chc_elab.specs.Heads.{unsupported}
use Rattle.chc_elab.specs.Building.{head_takes, joined, held}
use Rattle.chc_elab.specs.Binders.{binder_names, binder_sorts, outer_site, with_terms, with_variables}
use Rattle.chc_elab.specs.Forms.{form_of}

-- the ways in which a tree is read: as a term; as a pair `(x t)`, by its second tree; and as a list of such pairs
pub record Roles : Type 0 where
  pub whole : Site → Reading Typed
  pub second : Site → Reading Typed
  pub seconds : Site → Reading (List Typed)

-- a number
abbrev pub number : ℤ → Typed
number n = record { term = term.Num n; sort = sort.Int }

-- the trees without their readings
abbrev pub trees_of : List (Tree × Roles) → List Tree
trees_of ts = map (λ (t : Tree × Roles). t.0) ts

-- the arguments from left to right; behind each, 1 and the sizes so far are held to the limit
abbrev pub arguments : ℕ → Site → ℕ → List (Tree × Roles) → Reading (List Typed)
arguments place site before [] = Ok []
arguments place site before (t ∷ ts) =
    t.1.whole site >>> (λ first.
    cond (nat_lt most_nodes (before + size first.term)) (faulty place TooLarge [])
    (arguments place site (before + size first.term) ts >>> (λ rest. Ok (first ∷ rest))))

-- the number of a numeral, which is never below 0
abbrev pub numeral_at : Tree-F Tree → Option ℤ
numeral_at (Tree-F.Symbol place name) = None
numeral_at (Tree-F.Word place word) = None
numeral_at (Tree-F.Keyword place word) = None
numeral_at (Tree-F.Numeral place n) = cond (int_lt n (pos 0)) None (Some n)
numeral_at (Tree-F.Text place bytes) = None
numeral_at (Tree-F.Other place token) = None
numeral_at (Tree-F.Group place trees) = None

-- the numeral that is the one argument of `-`
abbrev pub negative : Head → List Tree → Option ℤ
negative (head.Operator read.Sub) (t ∷ []) = numeral_at (out-Tree t)
negative h ts = None

-- a number below 0, or a head on arguments
abbrev pub number_or : Option ℤ → Reading Typed → Reading Typed
number_or None otherwise = otherwise
number_or (Some n) otherwise = Ok (number (neg_ℤ n))

-- a quantifier over these sorts on a term of sort Bool
abbrev pub quantified : ℕ → Kind → List Sort → Typed → Reading Typed
quantified place k [] body = Ok body
quantified place k (s ∷ sorts) body =
    or_fault (faulty place WrongSort []) (quantifier_sort (s ∷ sorts) (Some body.sort))
    >>> (λ result. held place (record { term = term.Quant k (s ∷ sorts) body.term; sort = result }))

-- two trees behind a word
abbrev pub on_two : ℕ → (Tree × Roles → Tree × Roles → Site → Reading Typed) → List (Tree × Roles) → Site → Reading Typed
on_two place f [] site = faulty place BadCommand []
on_two place f (a ∷ []) site = faulty place BadCommand []
on_two place f (a ∷ b ∷ []) site = f a b site
on_two place f (a ∷ b ∷ c ∷ more) site = faulty place BadCommand []

-- `(! t ..)`
abbrev pub annotated : ℕ → List (Tree × Roles) → Site → Reading Typed
annotated place [] site = faulty place BadCommand []
annotated place (t ∷ attributes) site = t.1.whole site

-- the second of two trees
abbrev pub second_read : List (Tree × Roles) → Site → Reading Typed
second_read [] site = Ok (number (pos 0))
second_read (x ∷ []) site = Ok (number (pos 0))
second_read (x ∷ t ∷ more) site = t.1.whole site

-- the second trees of pairs, in order
abbrev pub seconds_read : List (Tree × Roles) → Site → Reading (List Typed)
seconds_read [] site = Ok []
seconds_read (t ∷ ts) site = t.1.second site >>> (λ first. seconds_read ts site >>> (λ rest. Ok (first ∷ rest)))

-- a tree that is no pair and no list of pairs
abbrev pub alone : (Site → Reading Typed) → Roles
alone whole = record { whole = whole; second = λ site. Ok (number (pos 0)); seconds = λ site. Ok [] }

-- a lone word: `match` isn't read, and no other word stands alone
abbrev pub lone_word : ℕ → List ℕ → Reading Typed
lone_word place word = cond (bytes_eq word (codes "match")) (faulty place NotSupported word) (faulty place BadCommand [])

module _ (setting : Setting) where
  -- a head on arguments: their number, then they themselves, then what they give
  abbrev pub counted : ℕ → Head → List (Tree × Roles) → Site → Reading Typed
  counted place h ts site =
      cond (head_takes setting.sig h (length ts)) (arguments place site 1 ts >>> joined setting.sig place h) (faulty place WrongCount [])

  abbrev pub applied : ℕ → List (Tree × Roles) → Site → Head → Reading Typed
  applied place ts site h = number_or (negative h (trees_of ts)) (counted place h ts site)

  -- `(let ((x t) ..) b)`: the names, then the terms where the let stands, then the body
  abbrev pub let_read : ℕ → Tree × Roles → Tree × Roles → Site → Reading Typed
  let_read place pairs body site =
      binder_names place (group_of pairs.0) >>> (λ names. pairs.1.seconds site >>> (λ values. body.1.whole (with_terms site names values)))

  -- `(forall ((x S) ..) b)`, `(exists ((x S) ..) b)`: the names, then the sorts, then the body under the variables
  abbrev pub quantifier_read : ℕ → Kind → Tree × Roles → Tree × Roles → Site → Reading Typed
  quantifier_read place k pairs body site =
      binder_names place (group_of pairs.0) >>> (λ names.
      binder_sorts setting (group_of pairs.0) >>> (λ sorts.
      body.1.whole (with_variables site names sorts) >>> quantified place k sorts))

  -- a form on the trees behind the first one
  abbrev pub formed : ℕ → List (Tree × Roles) → Site → Form → Reading Typed
  formed place ts site (form.Applied h) = applied place ts site h
  formed place ts site (form.Alone h) = counted place h [] site
  formed place ts site form.Let = on_two place (let_read place) ts site
  formed place ts site (form.Quantifier k) = on_two place (quantifier_read place k) ts site
  formed place ts site form.Annotated = annotated place ts site

  abbrev pub group_read : ℕ → List (Tree × Roles) → Site → Reading Typed
  group_read place [] site = faulty place BadCommand []
  group_read place (first ∷ ts) site = form_of setting place (first.0 ∷ trees_of ts) >>> formed place ts site

  -- a lone symbol at the place
  abbrev pub symbol_read : ℕ → List ℕ → Site → Reading Typed
  symbol_read place name site = or_fault (faulty place UnknownName name) (lone_symbol setting site name)

  abbrev pub roles_step : Tree-F (Tree × Roles) → Roles
  roles_step (Tree-F.Symbol place name) = alone (symbol_read place name)
  roles_step (Tree-F.Word place word) = alone (λ site. lone_word place word)
  roles_step (Tree-F.Keyword place word) = alone (λ site. faulty place BadCommand [])
  roles_step (Tree-F.Numeral place n) = alone (λ site. Ok (number n))
  roles_step (Tree-F.Text place bytes) = alone (λ site. unsupported (tree.Text place bytes))
  roles_step (Tree-F.Other place token) = alone (λ site. unsupported (tree.Other place token))
  roles_step (Tree-F.Group place trees) = record { whole = group_read place trees; second = second_read trees; seconds = seconds_read trees }

  -- the ways in which a tree is read
  unfoldable pub roles_of : Tree → Roles
  roles_of = para-Tree Roles roles_step

  -- trees beside the ways in which they are read
  abbrev pub beside : List Tree → List (Tree × Roles)
  beside trees = map (λ t. (t, roles_of t)) trees

  -- the term of a tree at a site, or its first fault
  abbrev pub read_at : Tree → Site → Reading Typed
  read_at tree site = (roles_of tree).whole site

  -- the term of a tree with its sort, under variables of these names and sorts, or its first fault
  abbrev pub elaborated_with_sort : List (List ℕ) → List Sort → Tree → Reading SortedTerm
  elaborated_with_sort names sorts tree = read_at tree (outer_site names sorts) >>> (λ t. Ok (record { term = t.term; sort = t.sort }))

  -- the term alone, or the first fault
  abbrev pub elaborated : List (List ℕ) → List Sort → Tree → Reading Term
  elaborated names sorts tree = elaborated_with_sort names sorts tree >>> (λ t. Ok t.term)
