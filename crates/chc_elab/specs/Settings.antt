-- What the code's own types stand for.
use Rattle.std.specs.Prelude.{ℕ, List, [], ◌∷◌, ◌++◌, map, Option, Some, None, Ok}
use Rattle.chc_sexpr.specs.declared.tree.Tree.{Tree}
use Rattle.chc_elab.specs.declared.bound.Bound.{Bound}
use Rattle.chc_elab.specs.declared.typed.Typed.{Typed}
use Rattle.chc_elab.specs.declared.head.Head.{Head}
use Rattle.chc_elab.specs.declared.scope.Declared.{Declared}
use Rattle.chc_elab.specs.declared.scope.Scope.{Scope}
use Rattle.chc_elab.specs.declared.forming.Standing.{Standing}
use Rattle.chc_elab.specs.declared.forming.Standing.TheVariants as standing
use Rattle.chc_elab.specs.Heads.{const_constructor, const_in_head, qualified_head}
use Rattle.chc_elab.specs.Sites.{Local, Site, Setting, Reading}

-- the declarations as a setting
abbrev pub setting_of : Declared → Setting
setting_of d = record { sig = d.sig.now; symbols = d.symbols.now }

-- what is declared in a scope
abbrev pub scope_setting : Scope → Setting
scope_setting s = record { sig = s.sig.now; symbols = s.symbols.now }

-- the head of `(as c s)`, where a constant array may stand or may not
abbrev pub qualified_as : Setting → Tree → Standing → List Tree → Reading Head
qualified_as setting tree standing.Head args = qualified_head setting tree (const_in_head setting tree) args
qualified_as setting tree standing.Alone args = qualified_head setting tree (const_constructor setting tree) args

-- the locals of names and of what they stand for
abbrev pub locals_with : List (List ℕ) → List Bound → List Local
locals_with [] bounds = []
locals_with (name ∷ names) [] = []
locals_with (name ∷ names) (b ∷ bounds) = record { name = name; value = b.value; under = b.under } ∷ locals_with names bounds

-- a term under so many variables
abbrev pub bound_under : ℕ → Typed → Bound
bound_under variables value = record { value = value; under = variables }

-- all the locals of lists of them
abbrev pub flat : List (List Local) → List Local
flat [] = []
flat (f ∷ fs) = f ++ flat fs

-- the site of these lists of locals and so many variables
abbrev pub site_at : List (List Local) → ℕ → Site
site_at frames variables = record { locals = flat frames; variables = variables }
