-- The names of a group of datatypes that trees declare are names of the trees, so they can be written.
use Rattle.std.proofs.Common.{◌≡◌, ℕ, ℤ, Bool, true, ◌&&◌, List, [], ◌∷◌, ◌++◌, Option, Some, None, Ok, refl, ap, sym, ◌∙◌}
use Rattle.std.specs.List.{list_all}
use Rattle.std.specs.Option.{option_map}
use Rattle.chc_sorts.specs.declared.spec.SortSpec.{SortSpec}
use Rattle.chc_sorts.specs.declared.spec.FieldSpec.{FieldSpec}
use Rattle.chc_sorts.specs.declared.spec.CtorSpec.{CtorSpec}
use Rattle.chc_sorts.specs.declared.spec.DataSpec.{DataSpec}
use Rattle.chc_sexpr.specs.declared.tree.Tree.{Tree}
use Rattle.chc_sexpr.specs.declared.fault.TextFault.{TextFault}
use Rattle.chc_sexpr.specs.Shapes.{symbol_of, group_of, form_of}
use Rattle.chc_state.specs.Names.{is_writable_name}
use Rattle.chc_elab.specs.Sites.{Reading, ◌>>>◌}
use Rattle.chc_elab.specs.SortTrees.{spec_of}
use Rattle.chc_elab.proofs.Readings.{bind_ok, cond_else_ok, err_ok, none_some, ok_same, some_same}
use Rattle.chc_script.specs.Datatypes.{arities_read, bodies_read, body_read, ctor_at, ctors_after, data_at, datas_after, field_at, fields_after, group_read, head_name, pair_at, pair_of, single_read}
use Rattle.chc_script.specs.Drafted.{is_writable_ctor, is_writable_spec, are_writable_specs}
use Rattle.chc_script.specs.Spellable.{is_spellable, are_spellable}
use Rattle.chc_script.proofs.PredicateLaws.{all_more}
use Rattle.chc_script.proofs.SpellableTrees.{first_spellable, form_spellable, group_spellable, symbol_writable}

abbrev is_writable_field : FieldSpec → Bool
is_writable_field f = is_writable_name f.name

-- the name of a pair
name_of_pair : (name other : Tree) (o : Option (List ℕ)) (n : List ℕ) (t : Tree) → option_map {U = List ℕ × Tree} (λ m. (m, other)) o ≡ Some (n, t) → o ≡ Some n
name_of_pair name other None n t h = absurd (none_some (n, t) h)
name_of_pair name other (Some m) n t h = ap (λ (p : List ℕ × Tree). Some p.0) (some_same (m, other) (n, t) h)

pair_named : (o : Option (List Tree)) (n : List ℕ) (t : Tree) → pair_at o ≡ Some (n, t) → (name other : Tree) × (o ≡ Some (name ∷ other ∷ [])) × (symbol_of name ≡ Some n)
pair_named None n t h = absurd (none_some (n, t) h)
pair_named (Some []) n t h = absurd (none_some (n, t) h)
pair_named (Some (a ∷ [])) n t h = absurd (none_some (n, t) h)
pair_named (Some (name ∷ other ∷ [])) n t h = (name, other, refl, name_of_pair name other (symbol_of name) n t h)
pair_named (Some (a ∷ b ∷ c ∷ more)) n t h = absurd (none_some (n, t) h)

pair_writable : (tree : Tree) (n : List ℕ) (t : Tree) → is_spellable tree ≡ true → pair_of tree ≡ Some (n, t) → is_writable_name n ≡ true
pair_writable tree n t h e =
    let (name, other, group, is) = pair_named (group_of tree) n t e in
    symbol_writable name n (first_spellable name (other ∷ []) (group_spellable tree (name ∷ other ∷ []) h group)).0 is

-- a field, and fields one after another
field_writable : (place : ℕ) (tree : Tree) (o : Option (List ℕ × Tree)) (f : FieldSpec) → is_spellable tree ≡ true → pair_of tree ≡ o → field_at place o ≡ Ok f → is_writable_field f ≡ true
field_writable place tree None f h is e = absurd (err_ok _ f e)
field_writable place tree (Some (name, s)) f h is e =
    let named : SortSpec → FieldSpec = λ made. record { name = name; sort = made } in
    let (made, read, same) = bind_ok (spec_of s) (λ made. Ok (named made)) f e in
    ap is_writable_field (sym (ok_same (named made) f same)) ∙ pair_writable tree name s h is

fields_writable : (place : ℕ) (made : List FieldSpec) (ts : List Tree) (all : List FieldSpec) → list_all is_writable_field made ≡ true → are_spellable ts ≡ true
    → fields_after place made ts ≡ Ok all → list_all is_writable_field all ≡ true
fields_writable place made [] all h spelled e = ap (list_all is_writable_field) (sym (ok_same made all e)) ∙ h
fields_writable place made (t ∷ ts) all h spelled e =
    let (first, rest) = first_spellable t ts spelled in
    let (f, read, more) = bind_ok (field_at place (pair_of t)) (λ f. fields_after place (made ++ f ∷ []) ts) all e in
    fields_writable place (made ++ f ∷ []) ts all (all_more is_writable_field made f h (field_writable place t (pair_of t) f first refl read)) rest more

both : (a b : Bool) → a ≡ true → b ≡ true → (a && b) ≡ true
both a b p q = ap (λ x. x && b) p ∙ q

-- a constructor, and constructors one after another
ctor_writable : (place : ℕ) (tree : Tree) (o : Option (List ℕ × List Tree)) (c : CtorSpec) → is_spellable tree ≡ true → form_of tree ≡ o → ctor_at place o ≡ Ok c → is_writable_ctor c ≡ true
ctor_writable place tree None c h is e = absurd (err_ok _ c e)
ctor_writable place tree (Some (name, fields)) c h is e =
    let (named, rest) = form_spellable tree name fields h is in
    let with_fields : List FieldSpec → CtorSpec = λ made. record { name = name; fields = made } in
    let (made, read, same) = bind_ok (fields_after place [] fields) (λ made. Ok (with_fields made)) c e in
    ap is_writable_ctor (sym (ok_same (with_fields made) c same))
    ∙ both (is_writable_name name) (list_all is_writable_field made) named (fields_writable place [] fields made refl rest read)

ctors_writable : (place : ℕ) (made : List CtorSpec) (ts : List Tree) (all : List CtorSpec) → list_all is_writable_ctor made ≡ true → are_spellable ts ≡ true
    → ctors_after place made ts ≡ Ok all → list_all is_writable_ctor all ≡ true
ctors_writable place made [] all h spelled e = ap (list_all is_writable_ctor) (sym (ok_same made all e)) ∙ h
ctors_writable place made (t ∷ ts) all h spelled e =
    let (first, rest) = first_spellable t ts spelled in
    let (c, read, more) = bind_ok (ctor_at place (form_of t)) (λ c. ctors_after place (made ++ c ∷ []) ts) all e in
    ctors_writable place (made ++ c ∷ []) ts all (all_more is_writable_ctor made c h (ctor_writable place t (form_of t) c first refl read)) rest more

-- a datatype of a name and a body
data_writable : (place : ℕ) (name : Option (List ℕ)) (body : Tree) (o : Option (List Tree)) (d : DataSpec) → ((n : List ℕ) → name ≡ Some n → is_writable_name n ≡ true)
    → is_spellable body ≡ true → group_of body ≡ o → data_at place name o ≡ Ok d → is_writable_spec d ≡ true
data_writable place None body o d named h is e = absurd (err_ok _ d e)
data_writable place (Some name) body None d named h is e = absurd (err_ok _ d e)
data_writable place (Some name) body (Some ctors) d named h is e =
    let with_ctors : List CtorSpec → DataSpec = λ made. record { name = name; ctors = made } in
    let (made, read, same) = bind_ok (ctors_after place [] ctors) (λ made. Ok (with_ctors made)) d e in
    ap is_writable_spec (sym (ok_same (with_ctors made) d same))
    ∙ both (is_writable_name name) (list_all is_writable_ctor made) (named name refl) (ctors_writable place [] ctors made refl (group_spellable body ctors h is) read)

head_writable : (tree : Tree) (o : Option (List ℕ × Tree)) (n : List ℕ) → is_spellable tree ≡ true → pair_of tree ≡ o → option_map (λ p. p.0) o ≡ Some n → is_writable_name n ≡ true
head_writable tree None n h is e = absurd (none_some n e)
head_writable tree (Some (name, t)) n h is e = ap is_writable_name (sym (some_same name n e)) ∙ pair_writable tree name t h is

datas_writable : (place : ℕ) (made : List DataSpec) (heads bodies : List Tree) (all : List DataSpec) → are_writable_specs made ≡ true → are_spellable heads ≡ true → are_spellable bodies ≡ true
    → datas_after place made heads bodies ≡ Ok all → are_writable_specs all ≡ true
datas_writable place made [] bodies all h spelled spelt e = ap are_writable_specs (sym (ok_same made all e)) ∙ h
datas_writable place made (head ∷ heads) [] all h spelled spelt e = ap are_writable_specs (sym (ok_same made all e)) ∙ h
datas_writable place made (head ∷ heads) (body ∷ bodies) all h spelled spelt e =
    let (first, more_heads) = first_spellable head heads spelled in
    let (second, more_bodies) = first_spellable body bodies spelt in
    let (d, read, more) = bind_ok (data_at place (head_name head) (group_of body)) (λ d. datas_after place (made ++ d ∷ []) heads bodies) all e in
    let one = data_writable place (head_name head) body (group_of body) d (λ n is. head_writable head (pair_of head) n first refl is) second refl read in
    datas_writable place (made ++ d ∷ []) heads bodies all (all_more is_writable_spec made d h one) more_heads more_bodies more

-- a group that is read
pub group_writable : (place : ℕ) (heads bodies : List Tree) (group : List DataSpec) → are_spellable heads ≡ true → are_spellable bodies ≡ true
    → group_read place heads bodies ≡ Ok group → are_writable_specs group ≡ true
group_writable place heads bodies group h spelt e =
    let (arities, read, rest) = bind_ok (arities_read place heads) (λ _. bodies_read place bodies >>> (λ _. datas_after place [] heads bodies)) group e in
    let (plain, are, more) = bind_ok (bodies_read place bodies) (λ _. datas_after place [] heads bodies) group rest in
    datas_writable place [] heads bodies group refl h spelt more

-- and one of a single datatype
pub single_writable : (place : ℕ) (name : List ℕ) (body : Tree) (group : List DataSpec) → is_writable_name name ≡ true → is_spellable body ≡ true
    → single_read place name body ≡ Ok group → are_writable_specs group ≡ true
single_writable place name body group named h e =
    let (plain, is, rest) = bind_ok (body_read place body) (λ _. data_at place (Some name) (group_of body) >>> (λ t. Ok (t ∷ []))) group e in
    let (d, read, same) = bind_ok (data_at place (Some name) (group_of body)) (λ t. Ok (t ∷ [])) group rest in
    ap are_writable_specs (sym (ok_same (d ∷ []) group same))
    ∙ both (is_writable_spec d) true (data_writable place (Some name) body (group_of body) d (λ n is. ap is_writable_name (sym (some_same name n is)) ∙ named) h refl read) refl
