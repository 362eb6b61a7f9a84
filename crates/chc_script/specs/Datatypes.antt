-- Groups of datatypes as trees declare them.
use Rattle.std.specs.Prelude.{◌≡◌, ℕ, ℤ, pos, Bool, false, ◌&&◌, ◌||◌, cond, nat_eq, is_some, List, [], ◌∷◌, ◌++◌, length, Option, Some, None, Result, Ok, Err, ⊤, codes}
use Rattle.std.specs.List.{list_all, list_any}
use Rattle.std.specs.Ordering.{int_eq}
use Rattle.std.specs.Option.{option_map}
use Rattle.chc_sorts.specs.declared.spec.FieldSpec.{FieldSpec}
use Rattle.chc_sorts.specs.declared.spec.CtorSpec.{CtorSpec}
use Rattle.chc_sorts.specs.declared.spec.DataSpec.{DataSpec}
use Rattle.chc_sorts.specs.declared.refusal.SigErr.{SigErr}
use Rattle.chc_sorts.specs.declared.refusal.SigErr.TheVariants as refusal
use Rattle.chc_sorts.specs.Signature.{Signature}
use Rattle.chc_sorts.specs.Groups.{first_refusal, with_group}
use Rattle.chc_sexpr.specs.declared.tree.Tree.{Tree, out-Tree}
use Rattle.chc_sexpr.specs.declared.tree.Tree.TheOpen.{Tree-F}
use Rattle.chc_sexpr.specs.declared.fault.Fault.TheVariants.{BadCommand, NotSupported, NameTaken, UnknownSort, ArrayIndex, SortTooDeep, TooMany, NotWellFounded}
use Rattle.chc_sexpr.specs.Shapes.{symbol_of, group_of, form_of, is_word}
use Rattle.chc_sexpr.specs.Writing.{tree_text}
use Rattle.chc_sexpr.specs.declared.fault.TextErr.{TextErr}
use Rattle.chc_sexpr.specs.declared.fault.TextErr.TheVariants as text_err
use Rattle.chc_elab.specs.Sites.{Reading, Tells, faulty, ◌>>>◌}
use Rattle.chc_elab.specs.SortTrees.{spec_of}
use Rattle.chc_script.specs.Inhabited.{first_without_value}
use Rattle.chc_script.specs.LimitNames.{limit_name}

-- the number of a numeral
abbrev pub numeral_at : Tree-F Tree → Option ℤ
numeral_at (Tree-F.Symbol place name) = None
numeral_at (Tree-F.Word place word) = None
numeral_at (Tree-F.Keyword place word) = None
numeral_at (Tree-F.Numeral place number) = Some number
numeral_at (Tree-F.Text place bytes) = None
numeral_at (Tree-F.Other place token) = None
numeral_at (Tree-F.Group place trees) = None

abbrev pub numeral_of : Tree → Option ℤ
numeral_of tree = numeral_at (out-Tree tree)

-- the name and the other tree of a pair `(x t)`
abbrev pub pair_at : Option (List Tree) → Option (List ℕ × Tree)
pair_at None = None
pair_at (Some []) = None
pair_at (Some (a ∷ [])) = None
pair_at (Some (name ∷ other ∷ [])) = option_map (λ n. (n, other)) (symbol_of name)
pair_at (Some (a ∷ b ∷ c ∷ more)) = None

abbrev pub pair_of : Tree → Option (List ℕ × Tree)
pair_of tree = pair_at (group_of tree)

-- whether the tree of an arity is a numeral
abbrev pub has_arity : Option (List ℕ × Tree) → Bool
has_arity None = false
has_arity (Some (name, arity)) = is_some (numeral_of arity)

-- whether the tree is `(T n)`
abbrev pub is_head : Tree → Bool
is_head tree = has_arity (pair_of tree)

-- whether the tree is `(s S)`
abbrev pub is_field : Tree → Bool
is_field tree = is_some (pair_of tree)

-- whether all arguments of a form are fields
abbrev pub on_fields : Option (List ℕ × List Tree) → Bool
on_fields None = false
on_fields (Some (name, args)) = list_all is_field args

-- whether the tree is `(c (s S) ..)`
abbrev pub is_ctor : Tree → Bool
is_ctor tree = on_fields (form_of tree)

-- whether the trees begin with the word `par`
abbrev pub begins_with_par : List Tree → Bool
begins_with_par [] = false
begins_with_par (t ∷ ts) = is_word (codes "par") t

-- whether the trees of a group are constructors, or begin with `par`
abbrev pub of_ctors : Option (List Tree) → Bool
of_ctors None = false
of_ctors (Some trees) = begins_with_par trees || list_all is_ctor trees

-- whether the tree is `((c (s S) ..) ..)` or `(par ..)`
abbrev pub is_body : Tree → Bool
is_body tree = of_ctors (group_of tree)

abbrev pub is_parametric_at : Option (List Tree) → Bool
is_parametric_at None = false
is_parametric_at (Some trees) = begins_with_par trees

-- whether the tree is `(par ..)`
abbrev pub is_parametric : Tree → Bool
is_parametric tree = is_parametric_at (group_of tree)

-- the fault at the place of a form that isn't read, about the text of the tree
abbrev pub unread : {A : Type 0} → ℕ → Tree → Reading A
unread place tree = faulty place NotSupported (tree_text tree)

-- an arity, which has to be 0, or the fault about the numeral
abbrev pub arity_read : ℕ → Tree → Option ℤ → Reading ⊤
arity_read place arity None = Ok tt
arity_read place arity (Some n) = cond (int_eq n (pos 0)) (Ok tt) (unread place arity)

abbrev pub head_read : ℕ → Option (List ℕ × Tree) → Reading ⊤
head_read place None = Ok tt
head_read place (Some (name, arity)) = arity_read place arity (numeral_of arity)

-- the arities of heads `(T n)`: the first other than 0 is a fault
abbrev pub arities_read : ℕ → List Tree → Reading ⊤
arities_read place [] = Ok tt
arities_read place (t ∷ ts) = head_read place (pair_of t) >>> (λ _. arities_read place ts)

-- a body, which doesn't begin with `par`
abbrev pub body_read : ℕ → Tree → Reading ⊤
body_read place body = cond (is_parametric body) (faulty place NotSupported (codes "par")) (Ok tt)

-- bodies, none of which begins with `par`
abbrev pub bodies_read : ℕ → List Tree → Reading ⊤
bodies_read place bodies = cond (list_any is_parametric bodies) (faulty place NotSupported (codes "par")) (Ok tt)

-- the field of a name and the tree of its sort
abbrev pub field_at : ℕ → Option (List ℕ × Tree) → Reading FieldSpec
field_at place None = faulty place BadCommand []
field_at place (Some (name, sort)) = spec_of sort >>> (λ s. Ok (record { name = name; sort = s }))

-- these fields, and after them those of the trees
abbrev pub fields_after : ℕ → List FieldSpec → List Tree → Reading (List FieldSpec)
fields_after place made [] = Ok made
fields_after place made (t ∷ ts) = field_at place (pair_of t) >>> (λ f. fields_after place (made ++ f ∷ []) ts)

-- the constructor of a name and the trees of its fields
abbrev pub ctor_at : ℕ → Option (List ℕ × List Tree) → Reading CtorSpec
ctor_at place None = faulty place BadCommand []
ctor_at place (Some (name, fields)) = fields_after place [] fields >>> (λ made. Ok (record { name = name; fields = made }))

-- these constructors, and after them those of the trees
abbrev pub ctors_after : ℕ → List CtorSpec → List Tree → Reading (List CtorSpec)
ctors_after place made [] = Ok made
ctors_after place made (t ∷ ts) = ctor_at place (form_of t) >>> (λ c. ctors_after place (made ++ c ∷ []) ts)

-- the datatype of a name and the trees of its constructors
abbrev pub data_at : ℕ → Option (List ℕ) → Option (List Tree) → Reading DataSpec
data_at place None ctors = faulty place BadCommand []
data_at place (Some name) None = faulty place BadCommand []
data_at place (Some name) (Some ctors) = ctors_after place [] ctors >>> (λ made. Ok (record { name = name; ctors = made }))

-- the name of `(T n)`
abbrev pub head_name : Tree → Option (List ℕ)
head_name tree = option_map (λ p. p.0) (pair_of tree)

-- these datatypes, and after them those of the heads and the bodies
abbrev pub datas_after : ℕ → List DataSpec → List Tree → List Tree → Reading (List DataSpec)
datas_after place made [] bodies = Ok made
datas_after place made (head ∷ heads) [] = Ok made
datas_after place made (head ∷ heads) (body ∷ bodies) =
    data_at place (head_name head) (group_of body) >>> (λ t. datas_after place (made ++ t ∷ []) heads bodies)

-- the group of datatypes of these heads `(T n)` and bodies, of which there are equally many
abbrev pub group_read : ℕ → List Tree → List Tree → Reading (List DataSpec)
group_read place heads bodies =
    arities_read place heads >>> (λ _. bodies_read place bodies >>> (λ _. datas_after place [] heads bodies))

-- the datatype of a name and a body, alone in its group
abbrev pub single_read : ℕ → List ℕ → Tree → Reading (List DataSpec)
single_read place name body =
    body_read place body >>> (λ _. data_at place (Some name) (group_of body) >>> (λ t. Ok (t ∷ [])))

-- whether heads and bodies are as they have to be
abbrev pub are_shaped : List Tree → List Tree → Bool
are_shaped heads bodies = list_all is_head heads && list_all is_body bodies && nat_eq (length heads) (length bodies)

-- what adding a group comes to: the signature with it, or why it is refused
abbrev pub verdict_at : Option SigErr → Option (List ℕ) → Signature → Result Signature SigErr
verdict_at (Some why) empty new = Err why
verdict_at None (Some name) new = Err (refusal.NotWellFounded name)
verdict_at None None new = Ok new

abbrev pub group_verdict : Signature → List DataSpec → List (List ℕ) → Result Signature SigErr
group_verdict sig group preds =
    verdict_at (first_refusal sig group preds) (first_without_value (with_group sig group).datatypes) (with_group sig group)

-- a signature, or the fault at the place of a group that is refused; no verdict is want of memory
abbrev pub added_at : ℕ → Result Signature SigErr → Reading Signature
added_at place (Ok new) = Ok new
added_at place (Err (refusal.NameTaken name)) = faulty place NameTaken name
added_at place (Err (refusal.UnknownSort name)) = faulty place UnknownSort name
added_at place (Err refusal.ArrayIndex) = faulty place ArrayIndex []
added_at place (Err refusal.SortTooDeep) = faulty place SortTooDeep []
added_at place (Err (refusal.TooMany limit)) = faulty place TooMany (limit_name limit)
added_at place (Err (refusal.NotWellFounded name)) = faulty place NotWellFounded name
added_at place (Err refusal.NoMemory) = faulty place BadCommand []

-- the answer is the fault of a group that is refused, or memory was
abbrev pub RefusesGroup : {A : Type 0} → Result A TextErr → ℕ → SigErr → Type 0
RefusesGroup result place refusal.NoMemory = result ≡ Err text_err.NoMemory
RefusesGroup result place (refusal.NameTaken name) = Tells result (faulty place NameTaken name)
RefusesGroup result place (refusal.UnknownSort name) = Tells result (faulty place UnknownSort name)
RefusesGroup result place refusal.ArrayIndex = Tells result (faulty place ArrayIndex [])
RefusesGroup result place refusal.SortTooDeep = Tells result (faulty place SortTooDeep [])
RefusesGroup result place (refusal.TooMany limit) = Tells result (faulty place TooMany (limit_name limit))
RefusesGroup result place (refusal.NotWellFounded name) = Tells result (faulty place NotWellFounded name)
