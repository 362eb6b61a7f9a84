-- The lines of the groups that a reach goes into lead to the signature of them.
use Rattle.std.proofs.Common.{◌≡◌, ◌∙◌, sym, ap, refl, subst, ℕ, zero, suc, ◌+◌, ◌<◌, Bool, true, false, nat_lt, List, [], ◌∷◌, ◌++◌, length, take, drop, get_or, append_assoc, arith}
use Rattle.std.specs.Prelude.{if◌then◌else◌}
use Rattle.std.specs.List.{list_all}
use Rattle.chc_sorts.specs.declared.data.Data.{Data}
use Rattle.chc_sorts.specs.Signature.{Signature}
use Rattle.chc_sexpr.proofs.Written.{Writes}
use Rattle.chc_script.specs.declared.whole.progress.Progress.{Progress}
use Rattle.chc_script.specs.declared.whole.progress.Progress.TheVariants as progress
use Rattle.chc_print.specs.Datatypes.{group_text, groups_text}
use Rattle.read_again.specs.FirstGroups.{before_group, first_groups, group_at, groups_reached, ComesInGroups}
use Rattle.term_again.proofs.TermTrees.{writes_wider}
use Rattle.read_again.proofs.WrittenSorts.{AreWritable}
use Rattle.read_again.proofs.WrittenGroups.{GroupIs, group_line, group_line_ends, group_written, is_writable_data}
use Rattle.read_again.proofs.GroupsAdded.{total_next, grouped, group_command}
use Rattle.read_again.proofs.Lines.{Turns, Runs, runs_same, runs_line}

-- what stands from a number on
record StandsFrom (sizes : List ℕ) (n size : ℕ) (more : List ℕ) : Type 0 where
  low : n < length sizes
  here : get_or sizes n 0 ≡ size
  next : drop (suc n) sizes ≡ more

stands_from : (all : List ℕ) (n size : ℕ) (more : List ℕ) → drop n all ≡ size ∷ more → StandsFrom all n size more
stands_from [] zero size more e = absurd (let h : 0 ≡ length (size ∷ more) = ap length e in omega (arith, h))
stands_from [] (suc n) size more e = absurd (let h : 0 ≡ length (size ∷ more) = ap length e in omega (arith, h))
stands_from (x ∷ xs) zero size more e = record { low = omega arith; here = ap (λ l. get_or l 0 0) e; next = ap (drop 1) e }
stands_from (x ∷ xs) (suc n) size more e =
    let h = stands_from xs n size more e in
    record { low = (let l = h.low in omega (arith, l)); here = h.here; next = h.next }

module _ (sig : Signature) (comes : ComesInGroups sig) (writable : AreWritable sig) (named : (n : ℕ) → list_all is_writable_data (group_at sig n) ≡ true) (reach : ℕ) where
  abbrev at_group : ℕ → Progress
  at_group n = progress.Going (grouped sig comes n)

  line_writes : (n : ℕ) → n < length sig.groups → Writes (Turns (at_group n) (at_group (suc n))) 1000 (group_line sig (group_at sig n))
  line_writes n low =
      writes_wider (GroupIs sig (group_at sig n)) (Turns (at_group n) (at_group (suc n))) 21 1000 (omega arith) (group_command sig comes n low)
      (group_line sig (group_at sig n)) (group_written sig (group_at sig n) (first_groups sig (suc n)) writable (comes.fields n low) (named n))

  one_group : (n size : ℕ) (more : List ℕ) (end : Progress) (rest : List ℕ) → drop n sig.groups ≡ size ∷ more
      → Runs (at_group (suc n)) end (groups_text sig reach (before_group sig n + size) more ++ rest)
      → Runs (at_group n) end ((group_text sig (take size (drop (before_group sig n) sig.datatypes)) ++ groups_text sig reach (before_group sig n + size) more) ++ rest)
  one_group n size more end rest e runs =
      let h = stands_from sig.groups n size more e in
      let ts : List Data = group_at sig n in
      let lines : List ℕ = groups_text sig reach (before_group sig n + size) more in
      let there : ts ≡ take size (drop (before_group sig n) sig.datatypes) = ap (λ k. take k (drop (before_group sig n) sig.datatypes)) h.here in
      let text : (group_line sig ts ++ 10 ∷ []) ++ (lines ++ rest) ≡ (group_text sig (take size (drop (before_group sig n) sig.datatypes)) ++ lines) ++ rest =
      ap (λ (l : List ℕ). l ++ (lines ++ rest)) (sym (group_line_ends sig ts))
      ∙ ap (λ (ds : List Data). group_text sig ds ++ (lines ++ rest)) there
      ∙ sym (append_assoc (group_text sig (take size (drop (before_group sig n) sig.datatypes))) lines rest) in
      runs_same (at_group n) end ((group_line sig ts ++ 10 ∷ []) ++ (lines ++ rest)) ((group_text sig (take size (drop (before_group sig n) sig.datatypes)) ++ lines) ++ rest) text
      (runs_line (at_group n) (at_group (suc n)) end (group_line sig ts) (lines ++ rest) (line_writes n h.low) runs)

  -- the lines from the group of number n on, which begins with the datatype of number `from`
  abbrev Follow : ℕ → ℕ → ℕ → List ℕ → Progress → List ℕ → Bool → Type 0
  Follow n from size more end rest b =
      Runs (at_group (n + (if b then 1 + groups_reached reach (from + size) more else 0))) end rest
      → Runs (at_group n) end ((if b then group_text sig (take size (drop from sig.datatypes)) ++ groups_text sig reach (from + size) more else []) ++ rest)

  pub groups_from : (sizes : List ℕ) (n from : ℕ) (end : Progress) (rest : List ℕ) → drop n sig.groups ≡ sizes → before_group sig n ≡ from
      → Runs (at_group (n + groups_reached reach from sizes)) end rest → Runs (at_group n) end (groups_text sig reach from sizes ++ rest)
  groups_from [] n from end rest e begins runs = subst (λ k. Runs (at_group k) end rest) (let z : n + 0 ≡ n = omega arith in z) runs
  groups_from (size ∷ more) n from end rest e begins runs =
      let h = stands_from sig.groups n size more e in
      let moved : before_group sig (suc n) ≡ from + size = total_next sig.groups n h.low ∙ (λ i. begins i + h.here i) in
      by (nat_lt from reach) refl (groups_from more (suc n) (from + size) end rest h.next moved) runs
    where
      next : (Runs (at_group (suc n + groups_reached reach (from + size) more)) end rest → Runs (at_group (suc n)) end (groups_text sig reach (from + size) more ++ rest)) → Follow n from size more end rest true
      next later runs =
          let count : n + (1 + groups_reached reach (from + size) more) ≡ suc n + groups_reached reach (from + size) more = omega arith in
          let rests = later (subst (λ k. Runs (at_group k) end rest) count runs) in
          subst (λ k. Runs (at_group n) end ((group_text sig (take size (drop k sig.datatypes)) ++ groups_text sig reach (k + size) more) ++ rest)) begins
          (one_group n size more end rest e (subst (λ k. Runs (at_group (suc n)) end (groups_text sig reach (k + size) more ++ rest)) (sym begins) rests))

      none : Follow n from size more end rest false
      none runs = subst (λ k. Runs (at_group k) end rest) (let z : n + 0 ≡ n = omega arith in z) runs

      by : (b : Bool) → nat_lt from reach ≡ b
          → (Runs (at_group (suc n + groups_reached reach (from + size) more)) end rest → Runs (at_group (suc n)) end (groups_text sig reach (from + size) more ++ rest))
          → Follow n from size more end rest (nat_lt from reach)
      by true is later = subst (Follow n from size more end rest) (sym is) (next later)
      by false is later = subst (Follow n from size more end rest) (sym is) none
