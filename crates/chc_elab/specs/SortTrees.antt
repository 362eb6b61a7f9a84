-- The sorts that trees spell.
use Rattle.std.specs.Prelude.{◌≡◌, ℕ, cond, List, [], ◌∷◌, map, Result, Ok, Err, codes}
use Rattle.std.specs.Str.{bytes_eq}
use Rattle.chc_sorts.specs.declared.sort.Sort.{Sort}
use Rattle.chc_sorts.specs.declared.spec.SortSpec.{SortSpec}
use Rattle.chc_sorts.specs.declared.spec.SortSpec.TheVariants as spec
use Rattle.chc_sorts.specs.declared.refusal.SigErr.{SigErr}
use Rattle.chc_sorts.specs.declared.refusal.SigErr.TheVariants as refusal
use Rattle.chc_sorts.specs.Signature.{Signature}
use Rattle.chc_sorts.specs.Named.{datatype_names, sort_read}
use Rattle.chc_sexpr.specs.declared.tree.Tree.{Tree, para-Tree}
use Rattle.chc_sexpr.specs.declared.tree.Tree.TheOpen.{Tree-F}
use Rattle.chc_sexpr.specs.declared.fault.Fault.TheVariants.{BadCommand, UnknownSort, ArrayIndex, SortTooDeep}
use Rattle.chc_sexpr.specs.declared.fault.TextErr.{TextErr}
use Rattle.chc_sexpr.specs.declared.fault.TextErr.TheVariants as text_err
use Rattle.chc_sexpr.specs.Shapes.{is_symbol}
use Rattle.chc_elab.specs.Sites.{Reading, Tells, faulty, ◌>>>◌}

-- the place of a level
abbrev pub place_at : {X : Type 0} → Tree-F X → ℕ
place_at (Tree-F.Symbol place name) = place
place_at (Tree-F.Word place word) = place
place_at (Tree-F.Keyword place word) = place
place_at (Tree-F.Numeral place number) = place
place_at (Tree-F.Text place bytes) = place
place_at (Tree-F.Other place token) = place
place_at (Tree-F.Group place trees) = place

-- the array sort of a group `(Array S T)`, whose trees stand beside their readings
abbrev pub array_spec : ℕ → List (Tree × Reading SortSpec) → Reading SortSpec
array_spec place [] = faulty place BadCommand []
array_spec place (a ∷ []) = faulty place BadCommand []
array_spec place (a ∷ b ∷ []) = faulty place BadCommand []
array_spec place (a ∷ b ∷ c ∷ []) =
    cond (is_symbol (codes "Array") a.0) (b.1 >>> (λ index. c.1 >>> (λ element. Ok (spec.Array index element)))) (faulty place BadCommand [])
array_spec place (a ∷ b ∷ c ∷ d ∷ more) = faulty place BadCommand []

abbrev pub spec_step : Tree-F (Tree × Reading SortSpec) → Reading SortSpec
spec_step (Tree-F.Symbol place name) = Ok (spec.Named name)
spec_step (Tree-F.Word place word) = faulty place BadCommand []
spec_step (Tree-F.Keyword place word) = faulty place BadCommand []
spec_step (Tree-F.Numeral place number) = faulty place BadCommand []
spec_step (Tree-F.Text place bytes) = faulty place BadCommand []
spec_step (Tree-F.Other place token) = faulty place BadCommand []
spec_step (Tree-F.Group place trees) = array_spec place trees

-- the written sort that a tree spells: a symbol, or `(Array S T)`
unfoldable pub spec_of : Tree → Reading SortSpec
spec_of = para-Tree (Reading SortSpec) spec_step

-- a sort, or its fault at the place
abbrev pub sort_at : ℕ → Result Sort SigErr → Reading Sort
sort_at place (Ok s) = Ok s
sort_at place (Err (refusal.UnknownSort name)) = faulty place UnknownSort name
sort_at place (Err refusal.ArrayIndex) = faulty place ArrayIndex []
sort_at place (Err refusal.SortTooDeep) = faulty place SortTooDeep []
sort_at place (Err (refusal.NameTaken name)) = faulty place BadCommand []
sort_at place (Err (refusal.TooMany limit)) = faulty place BadCommand []
sort_at place (Err (refusal.NotWellFounded name)) = faulty place BadCommand []
sort_at place (Err refusal.NoMemory) = faulty place BadCommand []

-- the sort that a tree at the place spells
abbrev pub sort_of_tree : Signature → ℕ → Tree → Reading Sort
sort_of_tree sig place tree = spec_of tree >>> (λ spec. sort_at place (sort_read (datatype_names sig) spec))

-- trees beside the written sorts that they spell
abbrev pub beside_specs : List Tree → List (Tree × Reading SortSpec)
beside_specs trees = map (λ t. (t, spec_of t)) trees

-- the answer is the fault of a sort that is refused, or memory was
abbrev pub Refuses : Result Sort TextErr → ℕ → SigErr → Type 0
Refuses result place refusal.NoMemory = result ≡ Err text_err.NoMemory
Refuses result place (refusal.UnknownSort name) = Tells result (sort_at place (Err (refusal.UnknownSort name)))
Refuses result place refusal.ArrayIndex = Tells result (sort_at place (Err refusal.ArrayIndex))
Refuses result place refusal.SortTooDeep = Tells result (sort_at place (Err refusal.SortTooDeep))
Refuses result place (refusal.NameTaken name) = Tells result (sort_at place (Err (refusal.NameTaken name)))
Refuses result place (refusal.TooMany limit) = Tells result (sort_at place (Err (refusal.TooMany limit)))
Refuses result place (refusal.NotWellFounded name) = Tells result (sort_at place (Err (refusal.NotWellFounded name)))
