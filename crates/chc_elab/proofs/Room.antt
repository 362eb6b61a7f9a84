-- All numbers of variables fit where trees are read within others.
use Rattle.std.proofs.Common.{◌≡◌, ◌<◌, ◌≤◌, ◌+◌, ◌^◌, ◌++◌, ◌∷◌, [], ℕ, suc, Bool, true, false, cond, List, length, get_or, ap, sym, subst, ◌∙◌, Option, Some, None, Ok, arith}
use Rattle.std.specs.List.{All}
use Rattle.std.specs.Option.{option_or}
use Rattle.std.specs.Str.{bytes_eq}
use Rattle.std.proofs.lemmas.List.Elements.{All-append, All-cons, All-nil}
use Rattle.chc_sorts.specs.declared.sort.Sort.{Sort}
use Rattle.chc_sexpr.specs.declared.tree.Tree.{Tree}
use Rattle.chc_sexpr.specs.declared.tree.Tree.TheVariants.{Group}
use Rattle.chc_sexpr.specs.Counts.{count, count_all}
use Rattle.chc_sexpr.specs.Shapes.{group_of}
use Rattle.chc_terms.specs.declared.term.Term.TheVariants as term
use Rattle.chc_elab.specs.declared.typed.Typed.{Typed}
use Rattle.chc_elab.specs.Binders.{binder_sorts, locals_of, outer_site, variables_from, with_terms, with_variables}
use Rattle.chc_elab.specs.Reads.{roles_of}
use Rattle.chc_elab.specs.Rooms.{HasRoom, local_reach, site_reach}
use Rattle.chc_elab.specs.Settings.{flat, site_at}
use Rattle.chc_elab.specs.Sites.{Local, Site, Setting, local_named}
use Rattle.chc_elab.proofs.TreeCounts.{count-Group, count_at, count_two}
use Rattle.chc_elab.proofs.Locals.{flat-push}
use Rattle.chc_elab.proofs.ReadReaches.{are_within, local_within, reaches, sorts_few, terms_site_reach, variables_site_reach}

-- what holds of all locals holds of the one that a name stands for
pub named_holds : (P : Local → Type 0) (ls : List Local) (name : List ℕ) (l : Local) → All P ls → local_named ls name ≡ Some l → P l
named_holds P [] name l all e = cc
named_holds P (x ∷ ls) name l all e = by (local_named ls name) (bytes_eq x.name name) (named_holds P ls name l (λ k d lt. all (suc k) d (omega arith))) e
  where
    by : (o : Option Local) (b : Bool) → (o ≡ Some l → P l) → option_or o (cond b (Some x) None) ≡ Some l → P l
    by (Some y) b more e = more e
    by None true more e = let same : x ≡ l = cc in subst P same (all 0 x (omega arith))
    by None false more e = cc

-- for a local that is moved under all variables
pub room_local : (site : Site) (name : List ℕ) (l : Local) → HasRoom site 0 → local_named site.locals name ≡ Some l → local_reach site.variables l < 2 ^ 32
room_local site name l room e = let within = local_within site.locals site.variables name l e in omega (arith, room.fits)

pub room_less : (site : Site) (m n : ℕ) → n ≤ m → HasRoom site m → HasRoom site n
room_less site m n le room = record { under = room.under; fits = omega (arith, room.fits) }

-- at the site where reading goes on
pub room_kept : (now frames : List (List Local)) (variables m n : ℕ) → HasRoom (site_at frames variables) m → n ≤ m → now ≡ frames → HasRoom (site_at now variables) n
room_kept now frames variables m n room le kept = subst (λ (fs : List (List Local)). HasRoom (site_at fs variables) n) (sym kept) (room_less (site_at frames variables) m n le room)

-- for the trees of a group
pub room_group : (site : Site) (t : Tree) (place : ℕ) (ts us : List Tree) → HasRoom site (count t) → t ≡ Group place ts → us ≡ ts → HasRoom site (count_all us)
room_group site t place ts us room e same =
    let counted = ap count e ∙ count-Group place ts in
    let all : count_all us ≡ count_all ts = ap (λ l. count_all l) same in
    room_less site (count t) (count_all us) (omega arith) room

-- for one of the trees
pub room_one : (now frames : List (List Local)) (variables : ℕ) (trees : List Tree) (i : ℕ) (t : Tree) → HasRoom (site_at frames variables) (count_all trees) → now ≡ frames → i < length trees → t ≡ get_or trees i t
    → HasRoom (site_at now variables) (count t)
room_one now frames variables trees i t room kept lt e =
    let one = count_at trees i t lt e in
    room_kept now frames variables (count_all trees) (count t) room one kept

locals_under : (site : Site) (names : List (List ℕ)) (values : List Typed) → All (λ (l : Local). l.under ≤ site.variables) (locals_of site names values)
locals_under site [] values = All-nil (λ (l : Local). l.under ≤ site.variables)
locals_under site (x ∷ names) [] = All-nil (λ (l : Local). l.under ≤ site.variables)
locals_under site (x ∷ names) (v ∷ values) =
    All-cons (λ (l : Local). l.under ≤ site.variables) (record { name = x; value = v; under = site.variables }) (locals_of site names values) (omega arith) (locals_under site names values)

variables_under : (n all : ℕ) (names : List (List ℕ)) (sorts : List Sort) → n + length sorts ≤ all → All (λ (l : Local). l.under ≤ all) (variables_from n names sorts)
variables_under n all [] sorts le = All-nil (λ (l : Local). l.under ≤ all)
variables_under n all (x ∷ names) [] le = All-nil (λ (l : Local). l.under ≤ all)
variables_under n all (x ∷ names) (s ∷ sorts) le =
    All-cons (λ (l : Local). l.under ≤ all) (record { name = x; value = record { term = term.Var n; sort = s }; under = n + 1 }) (variables_from (n + 1) names sorts) (omega arith) (variables_under (n + 1) all names sorts (omega arith))

abbrev site_of : List Local → ℕ → Site
site_of ls n = record { locals = ls; variables = n }

-- the site under one more list of names
pub site_terms : (pushed frames : List (List Local)) (variables : ℕ) (f : List Local) (names : List (List ℕ)) (values : List Typed)
    → pushed ≡ frames ++ f ∷ [] → f ≡ locals_of (site_at frames variables) names values
    → site_at pushed variables ≡ with_terms (site_at frames variables) names values
site_terms pushed frames variables f names values more is =
    ap (λ (ls : List Local). site_of ls variables) (ap flat more ∙ flat-push frames f ∙ ap (λ (g : List Local). flat frames ++ g) is)

pub site_variables : (pushed frames : List (List Local)) (variables under : ℕ) (f : List Local) (names : List (List ℕ)) (sorts : List Sort)
    → pushed ≡ frames ++ f ∷ [] → f ≡ variables_from variables names sorts → under ≡ variables + length sorts
    → site_at pushed under ≡ with_variables (site_at frames variables) names sorts
site_variables pushed frames variables under f names sorts more is deeper =
    ap (λ (ls : List Local). site_of ls under) (ap flat more ∙ flat-push frames f ∙ ap (λ (g : List Local). flat frames ++ g) is)
    ∙ ap (λ (n : ℕ). site_of (flat frames ++ variables_from variables names sorts) n) deeper

-- for the body of a let
pub room_terms : (setting : Setting) (site : Site) (trees : List Tree) (a b : Tree) (names : List (List ℕ)) (values : List Typed)
    → HasRoom site (count_all trees) → 2 < length trees → a ≡ get_or trees 1 a → b ≡ get_or trees 2 b → Ok values ≡ (roles_of setting a).seconds site
    → HasRoom (with_terms site names values) (count b)
room_terms setting site trees a b names values room long e f read =
    let two = count_two trees a b long e f in
    let far = are_within (site_reach site + count a) ((roles_of setting a).seconds site) values ((reaches setting a).seconds site) (sym read) in
    let under = terms_site_reach site names values in
    record {
      under = All-append (λ (l : Local). l.under ≤ site.variables) site.locals (locals_of site names values) room.under (locals_under site names values);
      fits = omega (arith, room.fits);
    }

-- for the variables of a quantifier
pub room_sorts : (setting : Setting) (site : Site) (trees : List Tree) (a : Tree) (sorts : List Sort)
    → HasRoom site (count_all trees) → 1 < length trees → a ≡ get_or trees 1 a → Ok sorts ≡ binder_sorts setting (group_of a)
    → site.variables + length sorts < 2 ^ 32
room_sorts setting site trees a sorts room long e read =
    let one = count_at trees 1 a long e in
    let few = sorts_few setting a sorts (sym read) in
    omega (arith, room.fits)

-- for the body of a quantifier
pub room_variables : (setting : Setting) (site : Site) (trees : List Tree) (a b : Tree) (names : List (List ℕ)) (sorts : List Sort)
    → HasRoom site (count_all trees) → 2 < length trees → a ≡ get_or trees 1 a → b ≡ get_or trees 2 b → Ok sorts ≡ binder_sorts setting (group_of a)
    → HasRoom (with_variables site names sorts) (count b)
room_variables setting site trees a b names sorts room long e f read =
    let two = count_two trees a b long e f in
    let few = sorts_few setting a sorts (sym read) in
    let under = variables_site_reach site names sorts in
    let all = site.variables + length sorts in
    record {
      under = All-append (λ (l : Local). l.under ≤ all) site.locals (variables_from site.variables names sorts)
          (λ k d lt. let h = room.under k d lt in omega arith) (variables_under site.variables all names sorts (omega arith));
      fits = omega (arith, room.fits);
    }

-- for a tree under the variables of a scope
pub room_outer : (frames : List (List Local)) (variables n : ℕ) (names : List (List ℕ)) (sorts : List Sort)
    → flat frames ≡ variables_from 0 names sorts → variables ≡ length sorts → length sorts + n < 2 ^ 32 → HasRoom (site_at frames variables) n
room_outer frames variables n names sorts is as_many fits =
    let under = variables_site_reach (site_of [] 0) names sorts in
    let outer : HasRoom (outer_site names sorts) n = record { under = variables_under 0 (0 + length sorts) names sorts (omega arith); fits = omega arith } in
    let long : variables ≡ 0 + length sorts = omega arith in
    let same : site_at frames variables ≡ outer_site names sorts =
    ap (λ (ls : List Local). site_of ls variables) is ∙ ap (λ (m : ℕ). site_of (variables_from 0 names sorts) m) long in
    subst (λ (s : Site). HasRoom s n) (sym same) outer
