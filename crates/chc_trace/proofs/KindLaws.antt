-- A step is read exactly where its tree stands.
use Rattle.std.proofs.Common.{◌≡◌, ◌∙◌, ℕ, Bool, true, false, cond, List, [], ◌∷◌, map, codes, Option, Some, ap, sym, refl, subst}
use Rattle.std.specs.List.{AllByRecursion}
use Rattle.std.specs.Option.{option_map}
use Rattle.std.specs.Str.{bytes_eq}
use Rattle.std.proofs.lemmas.Slice.Eq.{bytes_eq-Decides}
use Rattle.chc_sexpr.specs.declared.tree.Tree.{Tree}
use Rattle.chc_sexpr.specs.declared.tree.Tree.TheVariants.{Symbol}
use Rattle.chc_sexpr.specs.Shapes.{symbol_of}
use Rattle.chc_sexpr.specs.Writing.{unplaced}
use Rattle.chc_state.specs.declared.step.Step.{Step}
use Rattle.chc_state.specs.declared.step.Step.TheVariants as step
use Rattle.chc_trace.specs.Numbers.{one_number, numbers_of}
use Rattle.chc_trace.specs.Kinds.{word_of, parts_of, HasSmallNumbers, Kind, kinds, told_by}
use Rattle.chc_trace.specs.Readings.{step_in, step_of}
use Rattle.chc_trace.specs.Traces.{form, step_tree}
use Rattle.chc_trace.proofs.Shapes.{Exact, exact_as, exact_map, exact_then, one_number_exact, numbers_exact, symbol_exact, form_exact}

-- the word and the trees behind it are those of the step
abbrev IsTold : List ℕ → List Tree → Step → Type 0
IsTold word trees x = (word_of x ≡ word) × (trees ≡ parts_of x) × HasSmallNumbers x

-- what a kind reads has its word
abbrev ReadsItsOwn : Kind → Type 0
ReadsItsOwn k = (ts : List Tree) (x : Step) → k.read ts ≡ Some x → IsTold k.word (map unplaced ts) x

-- a kind that makes its steps of something that is read exactly
reads_its_own : (A : Type 0) (word : List ℕ) (read : List Tree → Option A) (make : A → Step) → ((a : A) → word_of (make a) ≡ word)
    → ((ts : List Tree) → Exact A (read ts) (λ a. (map unplaced ts ≡ parts_of (make a)) × HasSmallNumbers (make a)))
    → ReadsItsOwn (record { word = word; read = λ ts. option_map make (read ts) })
reads_its_own A word read make named exact ts x e =
    let h = (exact_map A Step (read ts) _ make (exact ts)).from x e in
    subst (IsTold word (map unplaced ts)) h.2 (named h.0, h.1.0, h.1.1)

kinds_read : AllByRecursion ReadsItsOwn kinds
kinds_read = (
  reads_its_own ℕ (codes "void") one_number step.Void (λ a. refl) one_number_exact,
  (
    reads_its_own (List ℕ) (codes "unreached") numbers_of step.Unreached (λ a. refl) numbers_exact,
    (
      reads_its_own (List ℕ) (codes "unneeded") numbers_of step.Unneeded (λ a. refl) numbers_exact,
      tt,
    ),
  ),
)

-- what the first kind reads, or one of the others where the word is another, has the word
told_first : (k : Kind) (rest : Option Step) (word : List ℕ) (ts : List Tree) (x : Step) → ReadsItsOwn k → (rest ≡ Some x → IsTold word (map unplaced ts) x)
    → (b : Bool) → bytes_eq word k.word ≡ b → cond b (k.read ts) rest ≡ Some x → IsTold word (map unplaced ts) x
told_first k rest word ts x own others true same found =
    let h = own ts x found in
    (h.0 ∙ sym ((bytes_eq-Decides word k.word).0 same), h.1, h.2)
told_first k rest word ts x own others false other found = others found

told_from : (ks : List Kind) → AllByRecursion ReadsItsOwn ks → (word : List ℕ) (ts : List Tree) (x : Step) → told_by ks word ts ≡ Some x → IsTold word (map unplaced ts) x
told_from [] own word ts x e = cc
told_from (k ∷ ks) own word ts x e = told_first k (told_by ks word ts) word ts x own.0 (told_from ks own.1 word ts x) (bytes_eq word k.word) refl e

-- each step is read by its word
told_to : (x : Step) (ts : List Tree) → map unplaced ts ≡ parts_of x → HasSmallNumbers x → told_by kinds (word_of x) ts ≡ Some x
told_to (step.Void k) ts e small = ap (option_map step.Void) ((one_number_exact ts).to k (e, small))
told_to (step.Unreached ps) ts e small = ap (option_map step.Unreached) ((numbers_exact ts).to ps (e, small))
told_to (step.Unneeded ps) ts e small = ap (option_map step.Unneeded) ((numbers_exact ts).to ps (e, small))

told_exact : (word : List ℕ) (ts : List Tree) → Exact Step (told_by kinds word ts) (IsTold word (map unplaced ts))
told_exact word ts = record {
  from = told_from kinds kinds_read word ts;
  to = λ x h. ap (λ (w : List ℕ). told_by kinds w ts) (sym h.0) ∙ told_to x ts h.1 h.2;
}

-- a step behind its symbol
abbrev IsStepIn : Step → List Tree → Type 0
IsStepIn x trees = (trees ≡ Symbol 0 (word_of x) ∷ parts_of x) × HasSmallNumbers x

both : (kind : Tree) (parts : List Tree) (x : Step) → unplaced kind ≡ Symbol 0 (word_of x) → map unplaced parts ≡ parts_of x → map unplaced (kind ∷ parts) ≡ Symbol 0 (word_of x) ∷ parts_of x
both kind parts x first rest = λ i. first i ∷ rest i

step_in_exact : (ts : List Tree) → Exact Step (step_in ts) (λ x. IsStepIn x (map unplaced ts))
step_in_exact [] = record { from = λ x e. cc; to = λ x h. (let e = h.0 in cc) }
step_in_exact (kind ∷ parts) =
    exact_as Step (step_in (kind ∷ parts)) _ _
    (λ x h. (both kind parts x (h.1.0 ∙ ap (Symbol 0) (sym h.2.0)) h.2.1, h.2.2))
    (λ x h. (word_of x, ((let e = h.0 in cc), tt), (refl, (let e = h.0 in cc), h.1)))
    (exact_then (List ℕ) Step (symbol_of kind) _ (λ word. told_by kinds word parts) _ (symbol_exact kind) (λ word. told_exact word parts))

pub step_exact : (t : Tree) → Exact Step (step_of t) (λ x. (unplaced t ≡ step_tree x) × HasSmallNumbers x)
step_exact t =
    exact_as Step (step_of t) _ _
    (λ x h. (h.1 ∙ ap (form (codes "step")) h.2.0, h.2.1)) (λ x h. (Symbol 0 (word_of x) ∷ parts_of x, h.0, (refl, h.1)))
    (form_exact Step (codes "step") step_in IsStepIn step_in_exact t)
