-- The names of predicates and definitions on terms are written as trees that stand for these on them.
use Rattle.std.proofs.Common.{◌≡◌, ◌∙◌, sym, ap, refl, subst, ℕ, ◌+◌, ◌≤◌, ◌^◌, true, false, List, [], ◌∷◌, ◌++◌, length, map, Some, nat_eq, arith}
use Rattle.std.specs.Option.{option_or, option_and_then}
use Rattle.std.proofs.lemmas.Bool.Decides.{nat_tests}
use Rattle.std.proofs.lemmas.List.{length-map}
use Rattle.chc_sorts.specs.declared.sort.Sort.{Sort}
use Rattle.chc_sorts.specs.declared.sort.Sort.TheVariants as sort
use Rattle.chc_sorts.specs.Sorts.{same_sorts}
use Rattle.chc_sorts.proofs.SameSort.{same_sorts_from_test}
use Rattle.chc_sorts.specs.declared.op_table.ReadOp.TheVariants as read_op
use Rattle.chc_sexpr.specs.Symbols.{symbol_text}
use Rattle.chc_sexpr.specs.Writing.{spaced}
use Rattle.chc_sexpr.specs.declared.tree.Tree.{Tree}
use Rattle.chc_sexpr.specs.declared.tree.Tree.TheVariants.{Group}
use Rattle.chc_sexpr.proofs.Written.{TreesAt, Writes}
use Rattle.chc_terms.specs.declared.term.Term.{Term}
use Rattle.chc_terms.specs.declared.term.Term.TheVariants.{Pred, Call}
use Rattle.chc_terms.proofs.OperatorShapes.{when_some}
use Rattle.chc_print.specs.Texts.{applied}
use Rattle.chc_elab.specs.declared.typed.Typed.{Typed}
use Rattle.chc_elab.specs.declared.symbols.Symbol.{Symbol}
use Rattle.chc_elab.specs.declared.symbols.Symbol.TheVariants as symbol
use Rattle.chc_elab.specs.declared.head.Head.TheVariants as head
use Rattle.chc_elab.specs.Building.{parameters, declared_sort, declared_term, head_sort}
use Rattle.chc_elab.specs.Sites.{Setting, literal_named, constant_meant, constant_declared, without_parameters, constant_named, lone_symbol}
use Rattle.chc_elab.specs.Stands.{Names, Stands, IsHead, IsNegative}
use Rattle.term_again.specs.Naming.{NamesSymbol, numbered_site}
use Rattle.term_again.proofs.TermTrees.{Begins, IsSymbolOf, writes_wider, text_writes, begin_at, group_writes, name_writes, spaced_parted}
use Rattle.term_again.proofs.TermTyped.{typed, applied_alone, Reads, ReadAll, lone_read}
use Rattle.term_again.proofs.TermVariables.{other_stands, unnumbered_foreign}

-- ---- what a declared name takes and gives

-- what has a sort on arguments of these sorts has these parameters
params_are : (what : Symbol) (ss : List Sort) (s : Sort) → declared_sort what ss ≡ Some s → ss ≡ parameters what
params_are (symbol.Pred p params) ss s h = same_sorts_from_test ss params (when_some (same_sorts ss params) sort.Bool s h).0
params_are (symbol.Def k f) ss s h = same_sorts_from_test ss f.params (when_some (same_sorts ss f.params) f.result s h).0

-- what has a sort without arguments stands alone
constant_is : (what : Symbol) (s : Sort) → declared_sort what [] ≡ Some s → constant_declared what ≡ Some (typed (declared_term what []) s)
constant_is (symbol.Pred p params) s h =
    let passed = when_some (same_sorts [] params) sort.Bool s h in
    ap (λ (ss : List Sort). without_parameters ss (typed (Pred p []) sort.Bool)) (sym (same_sorts_from_test [] params passed.0)) ∙ ap (λ t. Some (typed (Pred p []) t)) passed.1
constant_is (symbol.Def k f) s h =
    let passed = when_some (same_sorts [] f.params) f.result s h in
    ap (λ (ss : List Sort). without_parameters ss (typed (Call k []) f.result)) (sym (same_sorts_from_test [] f.params passed.0)) ∙ ap (λ t. Some (typed (Call k []) t)) passed.1

eq_itself : (n : ℕ) → nat_eq n n ≡ true
eq_itself n = grind (arith, nat_tests)

module _ (setting : Setting) (prefix : List ℕ) (Fits : Typed → Type 0) (Few : List Typed → Type 0) (what : Symbol) (name : List ℕ) (named : NamesSymbol setting prefix what name) where
  -- its name alone
  pub alone_written : (vars : List Sort) (s : Sort) (deep : ℕ) → declared_sort what [] ≡ Some s → length vars ≤ 2 ^ 64
      → Writes (Reads setting prefix Fits Few vars (declared_term what []) s) deep (applied (symbol_text name) [])
  alone_written vars s deep sorted small =
      let t : Term = declared_term what [] in
      let kind : Tree → Type 0 = Reads setting prefix Fits Few vars t s in
      let alone : option_or (literal_named name) (constant_named setting name) ≡ Some (typed t s) =
      (λ j. option_or (named.untrue j) (option_or (option_and_then (constant_meant setting.sig) (named.meaningless j)) (option_and_then constant_declared (named.found j))))
      ∙ constant_is what s sorted in
      let stands : lone_symbol setting (numbered_site prefix vars) name ≡ Some (typed t s) =
      other_stands prefix setting vars name (typed t s) (λ i low. unnumbered_foreign prefix name named.unnumbered i (omega arith)) alone in
      text_writes kind deep (symbol_text name) (applied (symbol_text name) []) (sym (applied_alone (symbol_text name)))
      (writes_wider (IsSymbolOf name) kind deep deep (omega arith) (lone_read setting prefix Fits Few vars name t s stands) (symbol_text name) (name_writes deep name named.quotable))

  head_names : (tree : Tree) → IsSymbolOf name tree → IsHead setting tree (head.Declared what)
  head_names tree is =
      subst (λ u. IsHead setting u (head.Declared what)) (sym is.1) (IsHead.named_head is.0 name (head.Declared what) (Names.declared what named.plain named.meaningless named.found))

  no_minus : (args : List Tree) → IsNegative (head.Declared what) args → ⊥
  no_minus args is = differ is.3
    where
      differ : head.Declared what ≡ head.Operator read_op.Sub → ⊥
      differ e = cc

  -- its name on the trees of arguments stands for it on them, where that fits and they are few
  on_arguments : (vars : List Sort) (ts : List Term) (ss : List Sort) (s : Sort) → declared_sort what ss ≡ Some s → Fits (typed (declared_term what ts) s)
      → ((values : List Typed) → map (λ (a : Typed). a.term) values ≡ ts → Few values)
      → (place : ℕ) (trees : List Tree) → Begins (λ tree. IsHead setting tree (head.Declared what)) (ReadAll setting prefix Fits Few vars ts ss) trees
      → Reads setting prefix Fits Few vars (declared_term what ts) s (Group place trees)
  on_arguments vars ts ss s sorted fits few place [] h = absurd h
  on_arguments vars ts ss s sorted fits few place (first ∷ args) h =
      let values = h.1.1 in
      let terms : map (λ (a : Typed). a.term) values ≡ ts = h.1.3 in
      let sorts : map (λ (a : Typed). a.sort) values ≡ ss = h.1.4 in
      let many : length values ≡ length (parameters what) = sym (length-map values (λ (a : Typed). a.sort)) ∙ ap length (sorts ∙ params_are what ss s sorted) in
      Stands.application (numbered_site prefix vars) place first args (head.Declared what) values (typed (declared_term what ts) s) h.0 (no_minus args) h.1.2 (few values terms)
      (record {
        takes = ap (λ n. nat_eq n (length (parameters what))) many ∙ eq_itself (length (parameters what));
        sorted = ap (head_sort setting.sig (head.Declared what)) sorts ∙ sorted;
        term = ap (declared_term what) (sym terms);
      })
      fits

  -- its name on the texts of arguments
  pub on_arguments_written : (vars : List Sort) (ts : List Term) (ss : List Sort) (s : Sort) (text : List ℕ) (texts : List (List ℕ)) (deep : ℕ) → declared_sort what ss ≡ Some s
      → Fits (typed (declared_term what ts) s) → ((values : List Typed) → map (λ (a : Typed). a.term) values ≡ ts → Few values)
      → ((place : ℕ) → TreesAt (ReadAll setting prefix Fits Few vars ts ss) deep false place (spaced (text ∷ texts)))
      → Writes (Reads setting prefix Fits Few vars (declared_term what ts) s) (deep + 1) (applied (symbol_text name) (text ∷ texts))
  on_arguments_written vars ts ss s text texts deep sorted fits few trees =
      let head_text : List ℕ = symbol_text name in
      let args : List ℕ = spaced (text ∷ texts) in
      let is_head : Tree → Type 0 = λ tree. IsHead setting tree (head.Declared what) in
      let all : List Tree → Type 0 = ReadAll setting prefix Fits Few vars ts ss in
      group_writes (Begins is_head all) (Reads setting prefix Fits Few vars (declared_term what ts) s) deep (head_text ++ args)
      (λ place. begin_at deep false is_head all place [] head_text args refl
      (writes_wider (IsSymbolOf name) is_head deep deep (omega arith) head_names head_text (name_writes deep name named.quotable) (place + 0) args (spaced_parted (text ∷ texts)))
      (trees (place + 0 + length head_text)))
      (on_arguments vars ts ss s sorted fits few)
