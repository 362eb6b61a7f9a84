-- The connectives of a clause's formula are written as trees that stand for them.
use Rattle.std.proofs.Common.{◌≡◌, ◌∙◌, sym, ap, refl, subst, ℕ, suc, ◌+◌, ◌≤◌, true, false, nat_lt, List, [], ◌∷◌, ◌++◌, length, map, Some, codes, append_assoc, arith}
use Rattle.std.specs.Prelude.{IsTrue, ⊤}
use Rattle.std.specs.List.{list_all}
use Rattle.std.proofs.lemmas.Bool.{and_from, lt-ltb}
use Rattle.std.proofs.lemmas.List.{append-nil}
use Rattle.chc_sorts.specs.declared.sort.Sort.TheVariants as sort
use Rattle.chc_sorts.specs.declared.op.Op.TheVariants as op
use Rattle.chc_sorts.specs.declared.op_table.ReadOp.{ReadOp}
use Rattle.chc_sorts.specs.declared.op_table.ReadOp.TheVariants as read
use Rattle.chc_sorts.specs.Sorts.{same_sort}
use Rattle.chc_sexpr.specs.Writing.{spaced}
use Rattle.chc_sexpr.specs.declared.tree.Tree.{Tree}
use Rattle.chc_sexpr.specs.declared.tree.Tree.TheVariants.{Symbol, Group}
use Rattle.chc_sexpr.proofs.Written.{TreesAt, Writes, is_parted, no_more_at, next_at}
use Rattle.chc_terms.specs.declared.term.Term.{Term}
use Rattle.chc_terms.specs.declared.term.Term.TheVariants as term
use Rattle.chc_terms.specs.Counts.{size_all, depth_all}
use Rattle.chc_terms.specs.Sorted.{when}
use Rattle.chc_terms.proofs.CountLaws.{size-App, size_all-cons, depth-App}
use Rattle.chc_terms.proofs.SameSort.{same_itself}
use Rattle.chc_elab.specs.declared.typed.Typed.{Typed}
use Rattle.chc_elab.specs.declared.head.Head.TheVariants as head
use Rattle.chc_elab.specs.Building.{sole, on_all, operation}
use Rattle.chc_elab.specs.Limits.{most_nodes, most_levels}
use Rattle.chc_elab.specs.Sites.{Site, Setting}
use Rattle.chc_elab.specs.Stands.{IsNegative, StandAll, IsWithin, AreFew, IsRead}
use Rattle.chc_elab.specs.Stands as stands
use Rattle.chc_print.specs.Script.{tail_text, implied}
use Rattle.term_again.proofs.TermLimits.{IsSmall}
use Rattle.term_again.proofs.TermTrees.{Begins, IsSymbolOf, writes_wider, text_writes, begin_at, group_writes, bare_writes, spaced_parted}
use Rattle.term_again.proofs.TermTyped.{typed}
use Rattle.read_again.specs.ClauseTerms.{implied_term}

-- a term of sort Bool
abbrev pub truth : Term → Typed
truth t = typed t sort.Bool

terms_of_truths : (ts : List Term) → map (λ (a : Typed). a.term) (map truth ts) ≡ ts
terms_of_truths [] = refl
terms_of_truths (t ∷ ts) = ap (λ us. t ∷ us) (terms_of_truths ts)

truths_on_all : (ts : List Term) → list_all (same_sort sort.Bool) (map (λ (a : Typed). a.sort) (map truth ts)) ≡ true
truths_on_all [] = refl
truths_on_all (t ∷ ts) = and_from (same_sort sort.Bool sort.Bool) (list_all (same_sort sort.Bool) (map (λ (a : Typed). a.sort) (map truth ts))) (same_itself sort.Bool) (truths_on_all ts)

truths_sort : (ts : List Term) → on_all sort.Bool sort.Bool (map (λ (a : Typed). a.sort) (map truth ts)) ≡ Some sort.Bool
truths_sort ts = ap (λ b. when b sort.Bool) (truths_on_all ts)

-- ---- what is under a connective is smaller

-- terms that are small together
pub record AllSmall (ts : List Term) : Type 0 where
  pub nodes : size_all ts ≤ most_nodes
  pub levels : depth_all ts ≤ most_levels

pub first_small : (t : Term) (ts : List Term) → AllSmall (t ∷ ts) → IsSmall t
first_small t ts h = (omega (arith, h.nodes, size_all-cons t ts), omega (arith, h.levels))

pub others_small : (t : Term) (ts : List Term) → AllSmall (t ∷ ts) → AllSmall ts
others_small t ts h = record { nodes = omega (arith, h.nodes, size_all-cons t ts); levels = omega (arith, h.levels) }

tail_small : (t : Term) (ts : List Term) → IsSmall (sole op.And (t ∷ ts)) → AllSmall (t ∷ ts)
tail_small t [] h = record { nodes = omega (arith, h.0, size_all-cons t []); levels = omega (arith, h.1) }
tail_small t (u ∷ ts) h = record { nodes = omega (arith, h.0, size-App op.And (t ∷ u ∷ ts)); levels = omega (arith, h.1, depth-App op.And (t ∷ u ∷ ts)) }

record Under (tail conclusion : Term) : Type 0 where
  tail_is_small : IsSmall tail
  conclusion_is_small : IsSmall conclusion
  together : 1 + size_all (tail ∷ conclusion ∷ []) ≤ most_nodes

under_implication : (tail conclusion : Term) → IsSmall (term.App op.Or (term.App op.Not (tail ∷ []) ∷ conclusion ∷ [])) → Under tail conclusion
under_implication tail conclusion h =
    let negation = term.App op.Not (tail ∷ []) in
    let whole = size-App op.Or (negation ∷ conclusion ∷ []) in
    let deep = depth-App op.Or (negation ∷ conclusion ∷ []) in
    let inner = size-App op.Not (tail ∷ []) in
    let down = depth-App op.Not (tail ∷ []) in
    let two = size_all-cons negation (conclusion ∷ []) in
    let last = size_all-cons conclusion [] in
    let one = size_all-cons tail [] in
    let both = size_all-cons tail (conclusion ∷ []) in
    record {
      tail_is_small = (omega (arith, h.0), omega (arith, h.1));
      conclusion_is_small = (omega (arith, h.0), omega (arith, h.1));
      together = omega (arith, h.0);
    }

-- the parts and the conclusion of a matrix
pub record PartsSmall (ts : List Term) (conclusion : Term) : Type 0 where
  pub parts : AllSmall ts
  pub conclusion_is_small : IsSmall conclusion

pub parts_small : (ts : List Term) (conclusion : Term) → IsSmall (implied_term ts conclusion) → PartsSmall ts conclusion
parts_small [] conclusion h = record { parts = record { nodes = omega arith; levels = omega arith }; conclusion_is_small = h }
parts_small (t ∷ ts) conclusion h =
    let u = under_implication (sole op.And (t ∷ ts)) conclusion h in
    record { parts = tail_small t ts u.tail_is_small; conclusion_is_small = u.conclusion_is_small }

-- ---- trees

few : (ts : List Term) → 1 + size_all ts ≤ most_nodes → AreFew (map truth ts)
few ts h = subst (λ (us : List Term). 1 + size_all us ≤ most_nodes) (sym (terms_of_truths ts)) h

under_and : (t u : Term) (ts : List Term) → IsSmall (term.App op.And (t ∷ u ∷ ts)) → 1 + size_all (t ∷ u ∷ ts) ≤ most_nodes
under_and t u ts h = omega (arith, size-App op.And (t ∷ u ∷ ts), h.0)

some_taken : (n : ℕ) → nat_lt 0 (suc (suc n)) ≡ true
some_taken n = lt-ltb 0 (suc (suc n)) (omega arith)

not_minus : (o : ReadOp) (args : List Tree) → (head.Operator o ≡ head.Operator read.Sub → ⊥) → IsNegative (head.Operator o) args → ⊥
not_minus o args other h = other h.3

-- a head and what is behind it, between parentheses
headed_writes : (first : Tree → Type 0) (rest : List Tree → Type 0) (kind : Tree → Type 0) (deep : ℕ) (text more : List ℕ) → Writes first deep text
    → ((place : ℕ) → TreesAt rest deep false place more) → IsTrue (is_parted more) → ((place : ℕ) (t : Tree) (ts : List Tree) → first t → rest ts → kind (Group place (t ∷ ts)))
    → Writes kind (deep + 1) (40 ∷ (text ++ more) ++ 41 ∷ [])
headed_writes first rest kind deep text more writes trees parted joins =
    group_writes (Begins first rest) kind deep (text ++ more)
    (λ place. begin_at deep false first rest place [] text more refl (writes (place + 0) more parted) (trees (place + 0 + length text)))
    grouped
  where
    grouped : (place : ℕ) (ts : List Tree) → Begins first rest ts → kind (Group place ts)
    grouped place [] h = absurd h
    grouped place (t ∷ ts) h = joins place t ts h.0 h.1

module _ (setting : Setting) (site : Site) where
  -- the tree stands for the term of that sort
  abbrev pub ReadsAs : Typed → Tree → Type 0
  ReadsAs v tree = IsRead setting site tree v

  abbrev AllReadAs : List Typed → List Tree → Type 0
  AllReadAs vs trees = StandAll setting IsWithin AreFew site trees vs

  -- each text is written as a tree that stands for its term
  abbrev pub EachWrites : ℕ → List Typed → List (List ℕ) → Type 0
  EachWrites deep [] [] = ⊤
  EachWrites deep (v ∷ vs) (t ∷ ts) = Writes (ReadsAs v) deep t × EachWrites deep vs ts
  EachWrites deep vs ts = ⊥

  spaced_stand : (deep : ℕ) (vs : List Typed) (texts : List (List ℕ)) → EachWrites deep vs texts → (place : ℕ) → TreesAt (AllReadAs vs) deep false place (spaced texts)
  spaced_stand deep [] [] h place = no_more_at (AllReadAs []) deep false place [] refl (stands.no_tree site)
  spaced_stand deep [] (t ∷ ts) h place = absurd h
  spaced_stand deep (v ∷ vs) [] h place = absurd h
  spaced_stand deep (v ∷ vs) (t ∷ ts) h place =
      next_at (ReadsAs v) (AllReadAs vs) (AllReadAs (v ∷ vs)) deep false place (32 ∷ []) t (spaced ts) refl
      (h.0 (place + 1) (spaced ts) (spaced_parted ts)) (spaced_stand deep vs ts h.1 (place + 1 + length t))
      (λ one more is are. stands.tree_before site one more v vs is are)

  and_reads : (place at : ℕ) (trees : List Tree) (t u : Term) (ts : List Term) → AllReadAs (map truth (t ∷ u ∷ ts)) trees → IsSmall (term.App op.And (t ∷ u ∷ ts))
      → ReadsAs (truth (term.App op.And (t ∷ u ∷ ts))) (Group place (Symbol at (codes "and") ∷ trees))
  and_reads place at trees t u ts f h =
      stands.application site place (Symbol at (codes "and")) trees (head.Operator read.And) (map truth (t ∷ u ∷ ts)) (truth (term.App op.And (t ∷ u ∷ ts)))
      (stands.named_head at (codes "and") (head.Operator read.And) (stands.operator read.And refl))
      (not_minus read.And trees (λ e. cc)) f (few (t ∷ u ∷ ts) (under_and t u ts h))
      (record { takes = some_taken (length (map truth ts)); sorted = truths_sort (t ∷ u ∷ ts); term = ap (λ us. operation read.And us) (sym (terms_of_truths (t ∷ u ∷ ts))) })
      h

  implication_reads : (place at : ℕ) (trees : List Tree) (tail conclusion : Term) → AllReadAs (truth tail ∷ truth conclusion ∷ []) trees
      → IsSmall (term.App op.Or (term.App op.Not (tail ∷ []) ∷ conclusion ∷ []))
      → ReadsAs (truth (term.App op.Or (term.App op.Not (tail ∷ []) ∷ conclusion ∷ []))) (Group place (Symbol at (codes "=>") ∷ trees))
  implication_reads place at trees tail conclusion f h =
      stands.application site place (Symbol at (codes "=>")) trees (head.Operator read.Implies) (truth tail ∷ truth conclusion ∷ [])
      (truth (term.App op.Or (term.App op.Not (tail ∷ []) ∷ conclusion ∷ [])))
      (stands.named_head at (codes "=>") (head.Operator read.Implies) (stands.operator read.Implies refl))
      (not_minus read.Implies trees (λ e. cc)) f (few (tail ∷ conclusion ∷ []) (under_implication tail conclusion h).together)
      (record { takes = refl; sorted = truths_sort (tail ∷ conclusion ∷ []); term = refl })
      h

  -- ---- texts

  at_symbol : (v : Typed) (place : ℕ) (name : List ℕ) (t : Tree) (ts : List Tree) → IsSymbolOf name t → ((at : ℕ) → ReadsAs v (Group place (Symbol at name ∷ ts))) → ReadsAs v (Group place (t ∷ ts))
  at_symbol v place name t ts is h = subst (λ x. ReadsAs v (Group place (x ∷ ts))) (sym is.1) (h is.0)

  wider : (v : Typed) (deep deeper : ℕ) (text : List ℕ) → deep ≤ deeper → Writes (ReadsAs v) deep text → Writes (ReadsAs v) deeper text
  wider v deep deeper text le writes = writes_wider (ReadsAs v) (ReadsAs v) deep deeper le (λ t h. h) text writes

  -- the one part, or `(and ..)`
  tail_writes : (deep : ℕ) (t : Term) (ts : List Term) (text : List ℕ) (texts : List (List ℕ)) → EachWrites deep (map truth (t ∷ ts)) (text ∷ texts) → IsSmall (sole op.And (t ∷ ts))
      → Writes (ReadsAs (truth (sole op.And (t ∷ ts)))) (deep + 1) (tail_text (text ∷ texts))
  tail_writes deep t [] text [] w h = wider (truth t) deep (deep + 1) text (omega arith) w.0
  tail_writes deep t [] text (u ∷ us) w h = absurd w.1
  tail_writes deep t (x ∷ ts) text [] w h = absurd w.1
  tail_writes deep t (x ∷ ts) text (u ∷ us) w h =
      headed_writes (IsSymbolOf (codes "and")) (AllReadAs (map truth (t ∷ x ∷ ts))) (ReadsAs (truth (term.App op.And (t ∷ x ∷ ts)))) deep (codes "and") (spaced (text ∷ u ∷ us))
      (bare_writes deep (codes "and") refl refl) (spaced_stand deep (map truth (t ∷ x ∷ ts)) (text ∷ u ∷ us) w) refl
      (λ place y ys is are. at_symbol (truth (term.App op.And (t ∷ x ∷ ts))) place (codes "and") y ys is (λ at. and_reads place at ys t x ts are h))

  implied_text : (tail conclusion : List ℕ) → 40 ∷ (codes "=>" ++ spaced (tail ∷ conclusion ∷ [])) ++ 41 ∷ [] ≡ codes "(=> " ++ tail ++ codes " " ++ conclusion ++ codes ")"
  implied_text tail conclusion =
      ap (λ (l : List ℕ). codes "(=> " ++ (l ++ 41 ∷ [])) (ap (λ (h : List ℕ). tail ++ (32 ∷ h)) (append-nil conclusion) ∙ sym (append_assoc tail (32 ∷ []) conclusion))

  -- the conclusion, where there are parts behind them in `(=> tail conclusion)`
  pub matrix_writes : (deep : ℕ) (ts : List Term) (conclusion : Term) (texts : List (List ℕ)) (last : List ℕ) → EachWrites deep (map truth ts) texts → Writes (ReadsAs (truth conclusion)) deep last
      → IsSmall (implied_term ts conclusion) → Writes (ReadsAs (truth (implied_term ts conclusion))) (deep + 2) (implied texts last)
  matrix_writes deep [] conclusion [] last w v h = wider (truth conclusion) deep (deep + 2) last (omega arith) v
  matrix_writes deep [] conclusion (u ∷ us) last w v h = absurd w
  matrix_writes deep (t ∷ ts) conclusion [] last w v h = absurd w
  matrix_writes deep (t ∷ ts) conclusion (u ∷ us) last w v h =
      let tail = sole op.And (t ∷ ts) in
      let whole : Typed = truth (implied_term (t ∷ ts) conclusion) in
      let text : List ℕ = 40 ∷ (codes "=>" ++ spaced (tail_text (u ∷ us) ∷ last ∷ [])) ++ 41 ∷ [] in
      text_writes (ReadsAs whole) (deep + 2) text (implied (u ∷ us) last) (implied_text (tail_text (u ∷ us)) last)
      (wider whole (deep + 1 + 1) (deep + 2) text (omega arith)
      (headed_writes (IsSymbolOf (codes "=>")) (AllReadAs (truth tail ∷ truth conclusion ∷ [])) (ReadsAs whole) (deep + 1) (codes "=>") (spaced (tail_text (u ∷ us) ∷ last ∷ []))
      (bare_writes (deep + 1) (codes "=>") refl refl)
      (spaced_stand (deep + 1) (truth tail ∷ truth conclusion ∷ []) (tail_text (u ∷ us) ∷ last ∷ [])
      (tail_writes deep t ts u us w (under_implication tail conclusion h).tail_is_small, (wider (truth conclusion) deep (deep + 1) last (omega arith) v, tt)))
      refl
      (λ place y ys is are. at_symbol whole place (codes "=>") y ys is (λ at. implication_reads place at ys tail conclusion are h))))
