-- How far trees are taken, one after another: so far they are those of a trace.
use Rattle.std.proofs.Common.{◌≡◌, ◌∙◌, ◌<◌, ◌^◌, arith, ◌⊎◌, inl, inr, ℕ, Bool, true, cond, List, [], ◌∷◌, ◌++◌, map, length, codes, Option, Some, None, Result, Ok, Err, ap, sym, refl, subst, append_assoc, append-nil}
use Rattle.std.specs.List.{All}
use Rattle.std.specs.Option.{option_map, option_or}
use Rattle.std.specs.Str.{bytes_eq}
use Rattle.std.proofs.lemmas.Bool.{eqb-true, false≢true}
use Rattle.std.proofs.lemmas.List.{map-append}
use Rattle.std.proofs.lemmas.List.Elements.{All-cons, All-head, All-tail, All-append}
use Rattle.std.proofs.lemmas.Option.{cond_some}
use Rattle.std.proofs.lemmas.Slice.Eq.{bytes_eq-Decides}
use Rattle.hex.specs.Hex.{encode_lower, decode_sized}
use Rattle.hex.specs.declared.error.FromHexError.{FromHexError}
use Rattle.hex.proofs.HexLemmas.{decode_sized-ok, decode_sized-twice, decode_sized-encode_lower, decode_of-ok}
use Rattle.chc_sexpr.specs.declared.tree.Tree.{Tree}
use Rattle.chc_sexpr.specs.declared.tree.Tree.TheVariants.{Text}
use Rattle.chc_sexpr.specs.Readings.{◌>>=◌}
use Rattle.chc_sexpr.specs.Shapes.{form_of}
use Rattle.chc_sexpr.specs.Writing.{unplaced}
use Rattle.chc_state.specs.declared.step.Step.{Step}
use Rattle.chc_trace.specs.declared.progress.Progress.{Progress}
use Rattle.chc_trace.specs.declared.progress.Progress.TheVariants as progress
use Rattle.chc_trace.specs.declared.trace.Trace.{Trace}
use Rattle.chc_trace.specs.Numbers.{number, one_number}
use Rattle.chc_trace.specs.Kinds.{HasSmallNumbers}
use Rattle.chc_trace.specs.Places.{place_of, wanted_at, ◌>>>◌}
use Rattle.chc_trace.specs.Readings.{behind, behind_name, string_behind, is_one, is_mark, if_written, digest_of, source_of, target_of, step_in, step_of, with_step, with_target, taken, read_on}
use Rattle.chc_trace.specs.Traces.{form, mark_tree, source_tree, step_tree, target_tree, trace_trees, IsDigest, AreTraceOf}
use Rattle.chc_trace.proofs.Shapes.{Exact, exact_as, exact_map, exact_then, one_number_exact, behind_is, behind_to, form_exact, string_behind_exact}
use Rattle.chc_trace.proofs.KindLaws.{step_exact}

-- ---- the mark

one_is : (o : Option ℕ) → is_one o ≡ true → o ≡ Some 1
one_is None h = absurd (false≢true h)
one_is (Some n) h = ap Some (eqb-true n 1 h)

version_exact : (t : Tree) → Exact ℕ (behind_name (codes "chc-trace") t >>= one_number) (λ n. (trees : List Tree) × (unplaced t ≡ form (codes "chc-trace") trees) × ((trees ≡ number n ∷ []) × (n < 2 ^ 32)))
version_exact = form_exact ℕ (codes "chc-trace") one_number (λ n trees. (trees ≡ number n ∷ []) × (n < 2 ^ 32)) one_number_exact

mark_from : (t : Tree) → is_mark t ≡ true → unplaced t ≡ mark_tree
mark_from t h =
    let v = (version_exact t).from 1 (one_is (behind_name (codes "chc-trace") t >>= one_number) h) in
    v.1 ∙ ap (form (codes "chc-trace")) v.2.0

mark_to : (t : Tree) → unplaced t ≡ mark_tree → is_mark t ≡ true
mark_to t e = ap is_one ((version_exact t).to 1 (number 1 ∷ [], e, (refl, omega arith)))

-- ---- the source

written_exact : (digits : List ℕ) (r : Result (List ℕ) FromHexError) → Exact (List ℕ) (if_written digits r) (λ d. (r ≡ Ok d) × (encode_lower d ≡ digits))
written_exact digits (Ok bytes) = record {
  from = λ d e. (
      let h = cond_some (bytes_eq (encode_lower bytes) digits) bytes d e in
      (ap Ok h.1, subst (λ (x : List ℕ). encode_lower x ≡ digits) h.1 ((bytes_eq-Decides (encode_lower bytes) digits).0 h.0))
      );
  to = λ d h. (
      let same : bytes ≡ d = (let e = h.0 in cc) in
      ap (λ (b : Bool). cond b (Some bytes) None) ((bytes_eq-Decides (encode_lower bytes) digits).1 (ap encode_lower same ∙ h.1)) ∙ ap Some same
      );
}
written_exact digits (Err fault) = record { from = λ d e. cc; to = λ d h. (let e = h.0 in cc) }

digest_from : (digits d : List ℕ) → decode_sized digits 32 ≡ Ok d → IsDigest d
digest_from digits d e =
    let long = decode_sized-ok digits 32 d e in
    let ok = decode_of-ok digits d (sym (decode_sized-twice digits 32 long) ∙ e) in
    (omega (arith, long, ok.2), ok.3)

digest_exact : (digits : List ℕ) → Exact (List ℕ) (digest_of digits) (λ d. IsDigest d × (encode_lower d ≡ digits))
digest_exact digits =
    exact_as (List ℕ) (digest_of digits) _ _
    (λ d h. (digest_from digits d h.0, h.1))
    (λ d h. (ap (λ (text : List ℕ). decode_sized text 32) (sym h.1) ∙ decode_sized-encode_lower d 32 h.0.0 h.0.1, h.1)) (written_exact digits (decode_sized digits 32))

source_exact : (t : Tree) → Exact (List ℕ) (source_of t) (λ d. (unplaced t ≡ source_tree d) × IsDigest d)
source_exact t =
    exact_as (List ℕ) (source_of t) _ _
    (λ d h. (h.1 ∙ ap (λ (text : List ℕ). form (codes "source") (Text 0 text ∷ [])) (sym h.2.1), h.2.0))
    (λ d h. (encode_lower d, h.0, (h.1, refl)))
    (exact_then (List ℕ) (List ℕ) (string_behind (codes "source") t) _ digest_of _ (string_behind_exact (codes "source") t) digest_exact)

-- ---- the target

target_exact : (t : Tree) → Exact (List ℕ) (target_of t) (λ text. unplaced t ≡ target_tree text)
target_exact = string_behind_exact (codes "target")

-- the target is no step
target_is_no_step : (t : Tree) (text : List ℕ) → unplaced t ≡ target_tree text → step_of t ≡ None
target_is_no_step t text e =
    let b = behind_to (codes "target") t (Text 0 text ∷ []) e in
    ap (λ o. behind (codes "step") o >>= step_in) (behind_is (codes "target") (form_of t) b.0 b.1)

-- ---- one tree

-- the trees so far, but for their places
abbrev pub so_far : Progress → List Tree
so_far progress.Start = []
so_far progress.Marked = mark_tree ∷ []
so_far (progress.Stepping d xs) = mark_tree ∷ source_tree d ∷ map step_tree xs
so_far (progress.Ended t) = trace_trees t

-- the source is a digest, and the numbers of the steps are below 2^32
abbrev pub IsSound : Progress → Type 0
IsSound progress.Start = Unit {0}
IsSound progress.Marked = Unit {0}
IsSound (progress.Stepping d xs) = IsDigest d × All HasSmallNumbers xs
IsSound (progress.Ended t) = IsDigest t.source × All HasSmallNumbers t.steps

-- with one more tree
abbrev pub IsNext : Progress → Tree → Progress → Type 0
IsNext p t q = (so_far q ≡ so_far p ++ unplaced t ∷ []) × IsSound q

or_some : {A : Type 0} (o p : Option A) (y : A) → option_or o p ≡ Some y → (o ≡ Some y) ⊎ (p ≡ Some y)
or_some (Some x) p y e = inl e
or_some None p y e = inr e

next_step : (d : List ℕ) (xs : List Step) (t : Tree) (x : Step) → IsSound (progress.Stepping d xs) → unplaced t ≡ step_tree x → HasSmallNumbers x → IsNext (progress.Stepping d xs) t (with_step d xs x)
next_step d xs t x sound e small = (
  ap (λ ts. mark_tree ∷ source_tree d ∷ ts) (map-append step_tree xs (x ∷ []) ∙ ap (λ u. map step_tree xs ++ u ∷ []) (sym e)),
  (sound.0, All-append HasSmallNumbers xs (x ∷ []) sound.1 (All-cons HasSmallNumbers x [] small (λ k y below. absurd (omega arith)))),
)

pub taken_from : (p : Progress) (t : Tree) (q : Progress) → IsSound p → taken p t ≡ Some q → IsNext p t q
taken_from progress.Start t q sound e =
    let h = cond_some (is_mark t) progress.Marked q e in
    subst (IsNext progress.Start t) h.1 (ap (λ u. u ∷ []) (sym (mark_from t h.0)), tt)
taken_from progress.Marked t q sound e =
    let h = (exact_map (List ℕ) Progress (source_of t) _ (λ d. progress.Stepping d []) (source_exact t)).from q e in
    subst (IsNext progress.Marked t) h.2 (ap (λ u. mark_tree ∷ u ∷ []) (sym h.1.0), (h.1.1, λ k y below. absurd (omega arith)))
taken_from (progress.Stepping d xs) t q sound e =
    elim (or_some (option_map (with_step d xs) (step_of t)) (option_map (with_target d xs) (target_of t)) q e) [
      | inl found ↦
          let h = (exact_map Step Progress (step_of t) _ (with_step d xs) (step_exact t)).from q found in
          subst (IsNext (progress.Stepping d xs) t) h.2 (next_step d xs t h.0 sound h.1.0 h.1.1)
      | inr found ↦
          let h = (exact_map (List ℕ) Progress (target_of t) _ (with_target d xs) (target_exact t)).from q found in
          subst (IsNext (progress.Stepping d xs) t) h.2 (ap (λ u. so_far (progress.Stepping d xs) ++ u ∷ []) (sym h.1), sound)
    ]
taken_from (progress.Ended t) u q sound e = cc

pub mark_taken : (t : Tree) → unplaced t ≡ mark_tree → taken progress.Start t ≡ Some progress.Marked
mark_taken t e = ap (λ (b : Bool). cond b (Some progress.Marked) None) (mark_to t e)

pub source_taken : (t : Tree) (d : List ℕ) → unplaced t ≡ source_tree d → IsDigest d → taken progress.Marked t ≡ Some (progress.Stepping d [])
source_taken t d e digest = ap (option_map (λ x. progress.Stepping x [])) ((source_exact t).to d (e, digest))

step_taken : (d : List ℕ) (xs : List Step) (t : Tree) (x : Step) → unplaced t ≡ step_tree x → HasSmallNumbers x → taken (progress.Stepping d xs) t ≡ Some (with_step d xs x)
step_taken d xs t x e small =
    ap (λ o. option_or (option_map (with_step d xs) o) (option_map (with_target d xs) (target_of t))) ((step_exact t).to x (e, small))

pub target_taken : (d : List ℕ) (xs : List Step) (t : Tree) (text : List ℕ) → unplaced t ≡ target_tree text → taken (progress.Stepping d xs) t ≡ Some (with_target d xs text)
target_taken d xs t text e =
    ap (λ o. option_or (option_map (with_step d xs) o) (option_map (with_target d xs) (target_of t))) (target_is_no_step t text e)
    ∙ ap (option_map (with_target d xs)) ((target_exact t).to text e)

-- ---- all trees

-- a tree that is taken leads on
pub reads_next : (length : ℕ) (p : Progress) (t : Tree) (ts : List Tree) (q : Progress) → taken p t ≡ Some q → read_on length p (t ∷ ts) ≡ read_on length q ts
reads_next length p t ts q e = ap (λ o. wanted_at (place_of t) o >>> (λ r. read_on length r ts)) e

steps_read : (length : ℕ) (d : List ℕ) (made xs : List Step) (text : List ℕ) (ts : List Tree) → map unplaced ts ≡ map step_tree xs ++ target_tree text ∷ [] → All HasSmallNumbers xs
    → read_on length (progress.Stepping d made) ts ≡ Ok (record { source = d; steps = made ++ xs; target = text })
steps_read length d made [] text [] e small = cc
steps_read length d made [] text (t ∷ []) e small =
    let target : unplaced t ≡ target_tree text = cc in
    reads_next length (progress.Stepping d made) t [] (with_target d made text) (target_taken d made t text target)
    ∙ ap (λ (xs : List Step). Ok (record { source = d; steps = xs; target = text })) (sym (append-nil made))
steps_read length d made [] text (t ∷ u ∷ us) e small = cc
steps_read length d made (x ∷ xs) text [] e small = cc
steps_read length d made (x ∷ xs) text (t ∷ ts) e small =
    let first : unplaced t ≡ step_tree x = cc in
    let rest : map unplaced ts ≡ map step_tree xs ++ target_tree text ∷ [] = cc in
    reads_next length (progress.Stepping d made) t ts (with_step d made x) (step_taken d made t x first (All-head HasSmallNumbers x xs small))
    ∙ steps_read length d (made ++ x ∷ []) xs text ts rest (All-tail HasSmallNumbers x xs small)
    ∙ ap (λ (ys : List Step). Ok (record { source = d; steps = ys; target = text })) (append_assoc made (x ∷ []) xs)

trees_read : (length : ℕ) (ts : List Tree) (t : Trace) → map unplaced ts ≡ trace_trees t → IsDigest t.source → All HasSmallNumbers t.steps → read_on length progress.Start ts ≡ Ok t
trees_read length [] t e digest small = cc
trees_read length (u ∷ []) t e digest small = cc
trees_read length (u ∷ v ∷ us) t e digest small =
    let mark : unplaced u ≡ mark_tree = cc in
    let source : unplaced v ≡ source_tree t.source = cc in
    let rest : map unplaced us ≡ map step_tree t.steps ++ target_tree t.target ∷ [] = cc in
    reads_next length progress.Start u (v ∷ us) progress.Marked (mark_taken u mark)
    ∙ reads_next length progress.Marked v us (progress.Stepping t.source []) (source_taken v t.source source digest)
    ∙ steps_read length t.source [] t.steps t.target us rest small

-- the trees of a trace are read as it
pub trace_read : (length : ℕ) (ts : List Tree) (t : Trace) → AreTraceOf ts t → read_on length progress.Start ts ≡ Ok t
trace_read length ts t h = trees_read length ts t h.alike h.digest h.small
