-- Operators on terms are written as trees that stand for them.
use Rattle.std.proofs.Common.{◌≡◌, ◌∙◌, sym, ap, refl, subst, ℕ, ◌+◌, ◌≤◌, ◌^◌, ◌&&◌, true, false, List, [], ◌∷◌, ◌++◌, length, map, Some, slice_get, option_and_then, arith}
use Rattle.std.specs.Prelude.{is_some}
use Rattle.std.specs.Option.{option_or}
use Rattle.std.proofs.lemmas.Bool.{false≢true, and_parts}
use Rattle.std.proofs.lemmas.List.{length-map}
use Rattle.chc_sorts.specs.declared.sort.Sort.{Sort}
use Rattle.chc_sorts.specs.declared.sort.Sort.TheVariants as sort
use Rattle.chc_sorts.specs.declared.op.Op.{Op}
use Rattle.chc_sorts.specs.declared.op.Op.TheVariants as op
use Rattle.chc_sorts.specs.Names.{look_up}
use Rattle.chc_sorts.specs.Signature.{Signature}
use Rattle.chc_sorts.specs.Sorts.{same_sorts}
use Rattle.chc_sorts.proofs.SameSort.{same_sorts_from_test}
use Rattle.chc_sexpr.specs.Symbols.{symbol_text}
use Rattle.chc_sexpr.specs.Writing.{spaced}
use Rattle.chc_sexpr.specs.declared.tree.Tree.{Tree}
use Rattle.chc_sexpr.specs.declared.tree.Tree.TheVariants.{Group}
use Rattle.chc_sexpr.proofs.Written.{TreesAt, Writes}
use Rattle.chc_terms.specs.declared.term.Term.{Term}
use Rattle.chc_terms.specs.declared.term.Term.TheVariants.{App}
use Rattle.chc_terms.specs.Sorted.{op_sort, op_fits, fields_of, when, is_declared}
use Rattle.chc_terms.proofs.OperatorShapes.{when_some}
use Rattle.chc_print.specs.Texts.{Names, applied, op_text}
use Rattle.chc_elab.specs.declared.typed.Typed.{Typed}
use Rattle.chc_elab.specs.Building.{head_takes, head_sort, head_term}
use Rattle.chc_elab.specs.Sites.{Setting, literal_named, constant_meant, constant_declared, constant_named, bare_constructor, lone_symbol}
use Rattle.chc_elab.specs.Stands.{Stands, IsHead}
use Rattle.term_again.specs.Naming.{NamesAreRead, numbered_site}
use Rattle.term_again.proofs.TermHeads.{head_for, led_on, constructor_from, constructor_name, head_writes}
use Rattle.term_again.proofs.TermOps.{gives_back}
use Rattle.term_again.proofs.TermOptions.{nothing_some}
use Rattle.term_again.proofs.TermTrees.{Begins, IsSymbolOf, writes_wider, text_writes, begin_at, group_writes, name_writes, spaced_parted}
use Rattle.term_again.proofs.TermTyped.{typed, applied_alone, Reads, ReadAll, lone_read}
use Rattle.term_again.proofs.TermVariables.{other_stands, unnumbered_foreign}

-- an operator without arguments is a constructor
lone_maker : (sig : Signature) (o : Op) (s : Sort) → op_sort sig o [] ≡ Some s → (d : ℕ) × (c : ℕ) × (o ≡ op.Make d c)
lone_maker sig op.Not s h = absurd (nothing_some s h)
lone_maker sig op.And s h = absurd (nothing_some s h)
lone_maker sig op.Or s h = absurd (nothing_some s h)
lone_maker sig op.Eq s h = absurd (nothing_some s h)
lone_maker sig op.Ite s h = absurd (nothing_some s h)
lone_maker sig op.Add s h = absurd (nothing_some s h)
lone_maker sig op.Sub s h = absurd (nothing_some s h)
lone_maker sig op.Mul s h = absurd (nothing_some s h)
lone_maker sig op.Div s h = absurd (nothing_some s h)
lone_maker sig op.Mod s h = absurd (nothing_some s h)
lone_maker sig op.Le s h = absurd (nothing_some s h)
lone_maker sig op.Lt s h = absurd (nothing_some s h)
lone_maker sig op.Select s h = absurd (nothing_some s h)
lone_maker sig op.Store s h = absurd (nothing_some s h)
lone_maker sig (op.Const element) s h =
    absurd (false≢true (and_parts (is_declared sig element) false (when_some (is_declared sig element && false) (sort.Array element) s h).0).1)
lone_maker sig (op.Make d c) s h = (d, c, refl)
lone_maker sig (op.Get d c i) s h =
    let fields = led_on (λ (fields : List Sort). option_and_then (λ (s : Sort). when false s) (slice_get fields i)) (fields_of sig d c) s h in
    let field = led_on (λ (s : Sort). when false s) (slice_get fields.0 i) s fields.2 in
    absurd (nothing_some s field.2)
lone_maker sig (op.Is d c) s h = absurd (false≢true (and_parts (is_some (fields_of sig d c)) false (when_some (is_some (fields_of sig d c) && false) sort.Bool s h).0).1)

module _ (names : Names) (setting : Setting) (read : NamesAreRead names.sig setting.sig names.prefix) (Fits : Typed → Type 0) (Few : List Typed → Type 0) (vars : List Sort) where
  -- a constructor alone
  maker_written : (d c : ℕ) (s : Sort) (deep : ℕ) → op_sort setting.sig (op.Make d c) [] ≡ Some s → length vars ≤ 2 ^ 64
      → Writes (Reads setting names.prefix Fits Few vars (App (op.Make d c) []) s) deep (op_text names.sig (op.Make d c))
  maker_written d c s deep sorted small =
      let fields = led_on (λ (fields : List Sort). when (same_sorts [] fields) (sort.Data d)) (fields_of setting.sig d c) s sorted in
      let test = when_some (same_sorts [] fields.0) (sort.Data d) s fields.2 in
      let none : fields.0 ≡ [] = sym (same_sorts_from_test [] fields.0 test.0) in
      let k = constructor_from setting.sig d c fields.0 fields.1 in
      let name = k.is.name in
      let meant = read.constructor d c k.of k.is k.there k.at in
      let t : Term = App (op.Make d c) [] in
      let kind : Tree → Type 0 = Reads setting names.prefix Fits Few vars t s in
      let bare : fields_of setting.sig d c ≡ Some [] = fields.1 ∙ ap (λ (ss : List Sort). Some ss) none in
      let alone : option_or (literal_named name) (constant_named setting name) ≡ Some (typed t (sort.Data d)) =
      (λ j. option_or (read.untrue d c k.of k.is k.there k.at j) (option_or (option_and_then (constant_meant setting.sig) (meant.found j)) (option_and_then constant_declared (look_up setting.symbols name))))
      ∙ ap (λ o. option_or (bare_constructor d c o) (option_and_then constant_declared (look_up setting.symbols name))) bare in
      let stands : lone_symbol setting (numbered_site names.prefix vars) name ≡ Some (typed t s) =
      other_stands names.prefix setting vars name (typed t (sort.Data d)) (λ i low. unnumbered_foreign names.prefix name (read.unnumbered d c k.of k.is k.there k.at) i (omega arith)) alone
      ∙ ap (λ u. Some (typed t u)) test.1 in
      text_writes kind deep (symbol_text name) (op_text names.sig (op.Make d c)) (ap symbol_text (sym (constructor_name names.sig setting names.prefix read d c fields.0 k)))
      (writes_wider (IsSymbolOf name) kind deep deep (omega arith) (lone_read setting names.prefix Fits Few vars name t s stands) (symbol_text name) (name_writes deep name meant.quotable))

  -- an operator alone
  pub operator_alone_written : (o : Op) (s : Sort) (deep : ℕ) → op_sort setting.sig o [] ≡ Some s → length vars ≤ 2 ^ 64
      → Writes (Reads setting names.prefix Fits Few vars (App o []) s) deep (applied (op_text names.sig o) [])
  operator_alone_written o s deep sorted small =
      let maker = lone_maker setting.sig o s sorted in
      text_writes (Reads setting names.prefix Fits Few vars (App o []) s) deep (op_text names.sig o) (applied (op_text names.sig o) []) (sym (applied_alone (op_text names.sig o)))
      (subst (λ (p : Op). Writes (Reads setting names.prefix Fits Few vars (App p []) s) deep (op_text names.sig p)) (sym maker.2)
      (maker_written maker.0 maker.1 s deep (subst (λ (p : Op). op_sort setting.sig p [] ≡ Some s) maker.2 sorted) small))

  -- its head on the trees of arguments stands for it on them, where that fits and they are few
  on_arguments : (o : Op) (ts : List Term) (ss : List Sort) (s : Sort) → op_sort setting.sig o ss ≡ Some s → Fits (typed (App o ts) s)
      → ((values : List Typed) → map (λ (a : Typed). a.term) values ≡ ts → Few values)
      → (place : ℕ) (trees : List Tree) → Begins (λ tree. IsHead setting tree (head_for o)) (ReadAll setting names.prefix Fits Few vars ts ss) trees
      → Reads setting names.prefix Fits Few vars (App o ts) s (Group place trees)
  on_arguments o ts ss s sorted fits few place [] h = absurd h
  on_arguments o ts ss s sorted fits few place (first ∷ args) h =
      let values = h.1.1 in
      let terms : map (λ (a : Typed). a.term) values ≡ ts = h.1.3 in
      let sorts : map (λ (a : Typed). a.sort) values ≡ ss = h.1.4 in
      let many : length values ≡ length ts = sym (length-map values (λ (a : Typed). a.term)) ∙ ap length terms in
      let long : length ts ≡ length ss = sym many ∙ sym (length-map values (λ (a : Typed). a.sort)) ∙ ap length sorts in
      let back = gives_back setting.sig o ts ss s long sorted in
      Stands.application (numbered_site names.prefix vars) place first args (head_for o) values (typed (App o ts) s) h.0 (back.not_negative args h.1.0) h.1.2 (few values terms)
      (record {
        takes = ap (head_takes setting.sig (head_for o)) many ∙ back.takes;
        sorted = ap (head_sort setting.sig (head_for o)) sorts ∙ back.sorted;
        term = back.term ∙ ap (head_term (head_for o)) (sym terms);
      })
      fits

  -- an operator on the texts of arguments
  pub operator_written : (o : Op) (ts : List Term) (ss : List Sort) (s : Sort) (text : List ℕ) (texts : List (List ℕ)) (deep : ℕ) → 17 ≤ deep
      → op_sort setting.sig o ss ≡ Some s → op_fits setting.sig o ≡ true → Fits (typed (App o ts) s) → ((values : List Typed) → map (λ (a : Typed). a.term) values ≡ ts → Few values)
      → ((place : ℕ) → TreesAt (ReadAll setting names.prefix Fits Few vars ts ss) deep false place (spaced (text ∷ texts)))
      → Writes (Reads setting names.prefix Fits Few vars (App o ts) s) (deep + 1) (applied (op_text names.sig o) (text ∷ texts))
  operator_written o ts ss s text texts deep enough sorted written fits few trees =
      let head : List ℕ = op_text names.sig o in
      let args : List ℕ = spaced (text ∷ texts) in
      let is_head : Tree → Type 0 = λ tree. IsHead setting tree (head_for o) in
      let all : List Tree → Type 0 = ReadAll setting names.prefix Fits Few vars ts ss in
      group_writes (Begins is_head all) (Reads setting names.prefix Fits Few vars (App o ts) s) deep (head ++ args)
      (λ place. begin_at deep false is_head all place [] head args refl
      (writes_wider is_head is_head 17 deep enough (λ tree is. is) head (head_writes names.sig setting names.prefix read o ss s sorted written) (place + 0) args (spaced_parted (text ∷ texts)))
      (trees (place + 0 + length head)))
      (on_arguments o ts ss s sorted fits few)
