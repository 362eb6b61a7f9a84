-- What is known of a tree of the form of a definition.
use Rattle.std.proofs.Common.{◌≡◌, ◌≤◌, ◌<◌, ◌+◌, drop, drop-cons, add-one, get_or, Bool, true, false, cond, List, [], ◌∷◌, ℕ, length, Option, Some, None, refl, ap, sym, ◌∙◌, codes, arith}
use Rattle.chc_sexpr.specs.Counts.{count, count_all}
use Rattle.chc_sexpr.specs.Shapes.{symbol_of, group_of, is_symbol}
use Rattle.chc_sexpr.specs.declared.tree.Tree.{Tree}
use Rattle.chc_elab.specs.Binders.{are_pairs}
use Rattle.chc_elab.proofs.Readings.{cond_some, none_some}
use Rattle.chc_elab.proofs.TreeCounts.{count_inner}
use Rattle.ans_model.specs.Forms.{FormView, form_with_params, form_with_name, form_of_group, definition_form, without_model}

-- its parameters are pairs, and it is made of more trees than they and its body are
pub record HasParts (n : ℕ) (f : FormView) : Type 0 where
  pub pairs : are_pairs f.params ≡ true
  pub room : count_all f.params + count f.body ≤ n

wider : (m n : ℕ) (f : FormView) → m ≤ n → HasParts m f → HasParts n f
wider m n f low h = record { pairs = h.pairs; room = (let room = h.room in omega arith) }

with_params : (name : List ℕ) (params values body : Tree) (o : Option (List Tree)) (f : FormView) → group_of params ≡ o → form_with_params name values body o ≡ Some f
    → HasParts (count params + count body) f
with_params name params values body None f is h = absurd (none_some f h)
with_params name params values body (Some ps) f is h =
    let made = cond_some (are_pairs ps) (record { name = name; params = ps; values = values; body = body }) f h in
    let inner = count_inner params ps is in
    let pairs_same : ps ≡ f.params = ap (λ (x : FormView). x.params) made.1 in
    let body_same : body ≡ f.body = ap (λ (x : FormView). x.body) made.1 in
    let all = ap count_all pairs_same in
    let one = ap count body_same in
    record { pairs = sym (ap are_pairs pairs_same) ∙ made.0; room = omega arith }

with_name : (params values body : Tree) (o : Option (List ℕ)) (f : FormView) → form_with_name params values body o ≡ Some f → HasParts (count params + count body) f
with_name params values body None f h = absurd (none_some f h)
with_name params values body (Some name) f h = with_params name params values body (group_of params) f refl h

chosen_some : {A : Type 0} (b : Bool) (o : Option A) (x : A) → cond b o None ≡ Some x → o ≡ Some x
chosen_some true o x h = h
chosen_some false o x h = absurd (none_some x h)

of_group : (tree : Tree) (o : Option (List Tree)) (f : FormView) → group_of tree ≡ o → form_of_group o ≡ Some f → HasParts (count tree) f
of_group tree None f is h = absurd (none_some f h)
of_group tree (Some []) f is h = absurd (none_some f h)
of_group tree (Some (a ∷ [])) f is h = absurd (none_some f h)
of_group tree (Some (a ∷ b ∷ [])) f is h = absurd (none_some f h)
of_group tree (Some (a ∷ b ∷ c ∷ [])) f is h = absurd (none_some f h)
of_group tree (Some (a ∷ b ∷ c ∷ d ∷ [])) f is h = absurd (none_some f h)
of_group tree (Some (head ∷ name ∷ params ∷ values ∷ body ∷ [])) f is h =
    let inner = count_inner tree (head ∷ name ∷ params ∷ values ∷ body ∷ []) is in
    let low : count params + count body ≤ count tree = omega arith in
    wider (count params + count body) (count tree) f low
    (with_name params values body (symbol_of name) f (chosen_some (is_symbol (codes "define-fun") head) (form_with_name params values body (symbol_of name)) f h))
of_group tree (Some (a ∷ b ∷ c ∷ d ∷ e ∷ g ∷ more)) f is h = absurd (none_some f h)

pub form_parts : (tree : Tree) (f : FormView) → definition_form tree ≡ Some f → HasParts (count tree) f
form_parts tree f h = of_group tree (group_of tree) f refl h

-- the list from a place on begins with the element there
pub from_item : {X : Type 0} (xs : List X) (i : ℕ) (x : X) → i < length xs → x ≡ get_or xs i x → drop i xs ≡ x ∷ drop (i + 1) xs
from_item xs i x low is = drop-cons xs i x low ∙ (λ j. sym is j ∷ drop (sym (add-one i) j) xs)

-- without `model` in front there are no more trees
pub without_fewer : (ts : List Tree) → count_all (without_model ts) ≤ count_all ts
without_fewer [] = omega arith
without_fewer (t ∷ ts) = by (is_symbol (codes "model") t)
  where
    by : (b : Bool) → count_all (cond b ts (t ∷ ts)) ≤ count_all (t ∷ ts)
    by true = omega arith
    by false = omega arith
