-- A text of definitions has a byte at least for each variable of one of them.
use Rattle.std.proofs.Common.{◌≡◌, ℕ, zero, suc, ◌+◌, ◌≤◌, List, [], ◌∷◌, ◌++◌, length, Some, slice_get, codes, subst, arith}
use Rattle.std.proofs.lemmas.List.{length-append}
use Rattle.chc_elab.proofs.Readings.{none_some}
use Rattle.chc_sexpr.specs.Symbols.{symbol_text}
use Rattle.chc_sexpr.specs.Writing.{joined}
use Rattle.chc_state.specs.declared.defs.Def.{Def}
use Rattle.chc_state.proofs.Places.{same_element}
use Rattle.chc_print.specs.Texts.{Names, binder_texts, name_at, sort_text, term_text}
use Rattle.term_again.specs.Bound.{BindersHoldTheirs, TextHoldsBound, most_bound}
use Rattle.ans_model.specs.Texts.{definition_text, definitions_text, lines_of_defs}

-- two parts of a text are no longer than it
parts_within : (a name b binders c sort space body end : List ℕ) → length binders + length body ≤ length (a ++ name ++ b ++ binders ++ c ++ sort ++ space ++ body ++ end)
parts_within a name b binders c sort space body end =
    let first = length-append (a ++ name ++ b) binders in
    let second = length-append (a ++ name ++ b ++ binders) c in
    let third = length-append (a ++ name ++ b ++ binders ++ c) sort in
    let fourth = length-append (a ++ name ++ b ++ binders ++ c ++ sort) space in
    let fifth = length-append (a ++ name ++ b ++ binders ++ c ++ sort ++ space) body in
    let last = length-append (a ++ name ++ b ++ binders ++ c ++ sort ++ space ++ body) end in
    omega arith

module _ (names : Names) (hold : TextHoldsBound) (binders_hold : BindersHoldTheirs) where
  line_room : (name : List ℕ) (def : Def) → length def.params + most_bound def.body ≤ length (definition_text names name def)
  line_room name def =
      let both = parts_within (codes "(define-fun ") (symbol_text name) (codes " (") (joined (binder_texts names 0 def.params)) (codes ") ") (sort_text names.sig def.result) (codes " ")
      (term_text names def.body (length def.params)) (codes ")\n") in
      let first = binders_hold names 0 def.params in
      let second = hold names def.body (length def.params) in
      omega (arith, both, first, second)

  lines_room : (n : ℕ) (defs : List Def) (k : ℕ) (def : Def) → slice_get defs k ≡ Some def → length def.params + most_bound def.body ≤ length (definitions_text names n defs)
  lines_room n [] k def at = absurd (none_some def at)
  lines_room n (e ∷ defs) zero def at =
      let whole = length-append (definition_text names (name_at names.calls n) e) (definitions_text names (n + 1) defs) in
      let line = line_room (name_at names.calls n) e in
      let within : length e.params + most_bound e.body ≤ length (definitions_text names n (e ∷ defs)) = omega (arith, whole, line) in
      subst (λ (d : Def). length d.params + most_bound d.body ≤ length (definitions_text names n (e ∷ defs))) (same_element e def at) within
  lines_room n (e ∷ defs) (suc k) def at =
      let whole = length-append (definition_text names (name_at names.calls n) e) (definitions_text names (n + 1) defs) in
      omega (arith, whole, lines_room (n + 1) defs k def at)

  pub text_room : (defs : List Def) (k : ℕ) (def : Def) → slice_get defs k ≡ Some def → length def.params + most_bound def.body ≤ length (lines_of_defs names defs)
  text_room defs k def at =
      let first = length-append (codes "sat\n(\n") (definitions_text names 0 defs) in
      let whole = length-append (codes "sat\n(\n" ++ definitions_text names 0 defs) (codes ")\n") in
      omega (arith, first, whole, lines_room 0 defs k def at)
