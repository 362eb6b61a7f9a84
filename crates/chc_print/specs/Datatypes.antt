-- The lines that declare datatypes.
use Rattle.std.specs.Prelude.{ℕ, ◌+◌, nat_lt, List, [], ◌∷◌, ◌++◌, map, take, drop, if◌then◌else◌, codes}
use Rattle.chc_sorts.specs.declared.data.Data.{Data}
use Rattle.chc_sorts.specs.declared.data.Ctor.{Ctor}
use Rattle.chc_sorts.specs.declared.data.Field.{Field}
use Rattle.chc_sorts.specs.Signature.{Signature}
use Rattle.chc_sexpr.specs.Symbols.{symbol_text}
use Rattle.chc_sexpr.specs.Writing.{spaced, joined}
use Rattle.chc_print.specs.Texts.{sort_text}

-- a selector with its field's sort
abbrev pub field_text : Signature → Field → List ℕ
field_text sig f = codes "(" ++ symbol_text f.name ++ codes " " ++ sort_text sig f.sort ++ codes ")"

-- a constructor with its fields
abbrev pub ctor_text : Signature → Ctor → List ℕ
ctor_text sig k = codes "(" ++ symbol_text k.name ++ spaced (map (field_text sig) k.fields) ++ codes ")"

-- the constructors of a datatype
abbrev pub ctors_text : Signature → Data → List ℕ
ctors_text sig t = codes "(" ++ joined (map (ctor_text sig) t.ctors) ++ codes ")"

-- the name of a datatype, which has no parameters
abbrev pub arity_text : Data → List ℕ
arity_text t = codes "(" ++ symbol_text t.name ++ codes " 0)"

-- the line of a group: the names, then the constructors of each datatype
abbrev pub group_text : Signature → List Data → List ℕ
group_text sig ts = codes "(declare-datatypes (" ++ joined (map arity_text ts) ++ codes ") (" ++ joined (map (ctors_text sig) ts) ++ codes "))\n"

-- the lines of groups of these sizes, the first of which begins with the datatype of that number, up to the last one that
-- the reach goes into
abbrev pub groups_text : Signature → ℕ → ℕ → List ℕ → List ℕ
groups_text sig reach from [] = []
groups_text sig reach from (size ∷ sizes) =
    if nat_lt from reach then group_text sig (take size (drop from sig.datatypes)) ++ groups_text sig reach (from + size) sizes else []
