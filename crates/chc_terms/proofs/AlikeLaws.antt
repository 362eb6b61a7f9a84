-- The equations of `same_term`, one for each variant of the first term, and what the test tells.
use Rattle.std.proofs.Common.{◌≡◌, ◌↔◌, IsTrue, ℕ, ℤ, List, [], ◌∷◌, map, length, Bool, true, false, ◌&&◌, nat_eq, refl, ap, sym, ◌∙◌, subst, arith}
use Rattle.std.specs.Cmp.{booleans_Decides}
use Rattle.std.specs.List.{AllByRecursion}
use Rattle.std.proofs.lemmas.Bool.{false≢true}
use Rattle.std.proofs.lemmas.Bool.Decides.{nat_tests, Decides-int_eq}
use Rattle.chc_sorts.specs.declared.sort.Sort.{Sort}
use Rattle.chc_sorts.specs.declared.op.Op.{Op}
use Rattle.chc_sorts.specs.declared.op.Op.TheVariants as op
use Rattle.chc_sorts.specs.Sorts.{same_sort, same_sorts}
use Rattle.chc_terms.specs.declared.term.Kind.{Kind}
use Rattle.chc_terms.specs.declared.term.Kind.TheVariants as kind
use Rattle.chc_terms.specs.declared.term.Term.{Term, Term-F, out-Term, roll-Term, roll-out-Term, fold-roll-Term}
use Rattle.chc_terms.specs.declared.term.Term.TheVariants.{Var, Num, Lit, App, Pred, Quant, Call, rolls-Var, rolls-Num, rolls-Lit, rolls-App, rolls-Pred, rolls-Quant, rolls-Call, outs-Var, outs-Num, outs-Lit, outs-App, outs-Pred, outs-Quant, outs-Call}
use Rattle.chc_terms.specs.Alike.{same_level, same_term, same_terms, same_op, same_kind}
use Rattle.chc_terms.proofs.Induction.{term_ind}
use Rattle.chc_terms.proofs.SameSort.{same_sort-Bool, same_sort-Int, same_sort-Data, same_sort-Array, same_from_test, same_itself, same_sorts_from_test, same_sorts_itself, both_true}

abbrev step : Term-F (Term → Bool) → Term → Bool
step level t = same_level level (out-Term t)

pub same_term-Var : (i : ℕ) (u : Term) → same_term (Var i) u ≡ same_level (Term-F.Var i) (out-Term u)
same_term-Var i u = λ x. (ap same_term (sym (rolls-Var i)) ∙ fold-roll-Term (Term → Bool) step (Term-F.Var i)) x u

pub same_term-Num : (n : ℤ) (u : Term) → same_term (Num n) u ≡ same_level (Term-F.Num n) (out-Term u)
same_term-Num n u = λ x. (ap same_term (sym (rolls-Num n)) ∙ fold-roll-Term (Term → Bool) step (Term-F.Num n)) x u

pub same_term-Lit : (b : Bool) (u : Term) → same_term (Lit b) u ≡ same_level (Term-F.Lit b) (out-Term u)
same_term-Lit b u = λ x. (ap same_term (sym (rolls-Lit b)) ∙ fold-roll-Term (Term → Bool) step (Term-F.Lit b)) x u

pub same_term-App : (o : Op) (ts : List Term) (u : Term) → same_term (App o ts) u ≡ same_level (Term-F.App o (map same_term ts)) (out-Term u)
same_term-App o ts u = λ x. (ap same_term (sym (rolls-App o ts)) ∙ fold-roll-Term (Term → Bool) step (Term-F.App o ts)) x u

pub same_term-Pred : (p : ℕ) (ts : List Term) (u : Term) → same_term (Pred p ts) u ≡ same_level (Term-F.Pred p (map same_term ts)) (out-Term u)
same_term-Pred p ts u = λ x. (ap same_term (sym (rolls-Pred p ts)) ∙ fold-roll-Term (Term → Bool) step (Term-F.Pred p ts)) x u

pub same_term-Quant : (k : Kind) (sorts : List Sort) (t : Term) (u : Term) → same_term (Quant k sorts t) u ≡ same_level (Term-F.Quant k sorts (same_term t)) (out-Term u)
same_term-Quant k sorts t u = λ x. (ap same_term (sym (rolls-Quant k sorts t)) ∙ fold-roll-Term (Term → Bool) step (Term-F.Quant k sorts t)) x u

pub same_term-Call : (k : ℕ) (ts : List Term) (u : Term) → same_term (Call k ts) u ≡ same_level (Term-F.Call k (map same_term ts)) (out-Term u)
same_term-Call k ts u = λ x. (ap same_term (sym (rolls-Call k ts)) ∙ fold-roll-Term (Term → Bool) step (Term-F.Call k ts)) x u

-- the test by the variant of the first term
pub ruleset levels = (same_term-Var, same_term-Num, same_term-Lit, same_term-App, same_term-Pred, same_term-Quant, same_term-Call)

-- the test of sorts by the variant of the first sort
pub ruleset sort_levels = (same_sort-Bool, same_sort-Int, same_sort-Data, same_sort-Array)

number_from_test : (i j : ℕ) → nat_eq i j ≡ true → i ≡ j
number_from_test i j h = grind (arith, nat_tests)

number_itself : (i : ℕ) → nat_eq i i ≡ true
number_itself i = grind (arith, nat_tests)

and_true : {a b : Bool} → a ≡ true → b ≡ true → (a && b) ≡ true
and_true {a} {b} p q = rw p q

-- what tells equal quantifiers and operators apart
kind_from_test : (k l : Kind) → same_kind k l ≡ true → k ≡ l
kind_from_test kind.Forall kind.Forall h = refl
kind_from_test kind.Exists kind.Exists h = refl
kind_from_test k l h = absurd (false≢true h)

kind_itself : (k : Kind) → same_kind k k ≡ true
kind_itself kind.Forall = refl
kind_itself kind.Exists = refl

pair_from_test : (i j d e : ℕ) → (nat_eq i j && nat_eq d e) ≡ true → (i ≡ j) × (d ≡ e)
pair_from_test i j d e h = let b = both_true (nat_eq i j) (nat_eq d e) h in (number_from_test i j b.0, number_from_test d e b.1)

op_from_test : (o p : Op) → same_op o p ≡ true → o ≡ p
op_from_test op.Not op.Not h = refl
op_from_test op.And op.And h = refl
op_from_test op.Or op.Or h = refl
op_from_test op.Eq op.Eq h = refl
op_from_test op.Ite op.Ite h = refl
op_from_test op.Add op.Add h = refl
op_from_test op.Sub op.Sub h = refl
op_from_test op.Mul op.Mul h = refl
op_from_test op.Div op.Div h = refl
op_from_test op.Mod op.Mod h = refl
op_from_test op.Le op.Le h = refl
op_from_test op.Lt op.Lt h = refl
op_from_test op.Select op.Select h = refl
op_from_test op.Store op.Store h = refl
op_from_test (op.Const s) (op.Const t) h = ap op.Const (same_from_test s t h)
op_from_test (op.Make d c) (op.Make e b) h = let p = pair_from_test d e c b h in λ i. op.Make (p.0 i) (p.1 i)
op_from_test (op.Get d c i) (op.Get e b j) h =
    let p = both_true (nat_eq d e && nat_eq c b) (nat_eq i j) h in
    let q = pair_from_test d e c b p.0 in let r = number_from_test i j p.1 in λ x. op.Get (q.0 x) (q.1 x) (r x)
op_from_test (op.Is d c) (op.Is e b) h = let p = pair_from_test d e c b h in λ i. op.Is (p.0 i) (p.1 i)
op_from_test o p h = absurd (false≢true h)

op_itself : (o : Op) → same_op o o ≡ true
op_itself op.Not = refl
op_itself op.And = refl
op_itself op.Or = refl
op_itself op.Eq = refl
op_itself op.Ite = refl
op_itself op.Add = refl
op_itself op.Sub = refl
op_itself op.Mul = refl
op_itself op.Div = refl
op_itself op.Mod = refl
op_itself op.Le = refl
op_itself op.Lt = refl
op_itself op.Select = refl
op_itself op.Store = refl
op_itself (op.Const s) = same_itself s
op_itself (op.Make d c) = and_true (number_itself d) (number_itself c)
op_itself (op.Get d c i) = and_true (and_true (number_itself d) (number_itself c)) (number_itself i)
op_itself (op.Is d c) = and_true (number_itself d) (number_itself c)

-- the test tells that the terms are equal
abbrev Tells : Term → Type 0
Tells t = (u : Term) → same_term t u ≡ true → t ≡ u

each_from_test : (ts : List Term) → AllByRecursion Tells ts → (us : List Term) → same_terms ts us ≡ true → ts ≡ us
each_from_test [] f [] h = refl
each_from_test [] f (u ∷ us) h = absurd (false≢true h)
each_from_test (t ∷ ts) f [] h = absurd (false≢true h)
each_from_test (t ∷ ts) f (u ∷ us) h =
    let b = both_true (same_term t u) (same_terms ts us) h in
    let p = f.0 u b.0 in let q = each_from_test ts f.1 us b.1 in λ i. p i ∷ q i

var_level : (i : ℕ) (x : Term-F Term) → same_level (Term-F.Var i) x ≡ true → Var i ≡ roll-Term x
var_level i (Term-F.Var j) h = ap Var (number_from_test i j h) ∙ sym (rolls-Var j)
var_level i x h = absurd (false≢true h)

num_level : (n : ℤ) (x : Term-F Term) → same_level (Term-F.Num n) x ≡ true → Num n ≡ roll-Term x
num_level m (Term-F.Num n) h = ap Num ((Decides-int_eq m n).0 h) ∙ sym (rolls-Num n)
num_level m x h = absurd (false≢true h)

lit_level : (b : Bool) (x : Term-F Term) → same_level (Term-F.Lit b) x ≡ true → Lit b ≡ roll-Term x
lit_level a (Term-F.Lit b) h = ap Lit ((booleans_Decides a b).0 h) ∙ sym (rolls-Lit b)
lit_level a x h = absurd (false≢true h)

app_level : (o : Op) (ts : List Term) → AllByRecursion Tells ts → (x : Term-F Term) → same_level (Term-F.App o (map same_term ts)) x ≡ true → App o ts ≡ roll-Term x
app_level o ts f (Term-F.App p us) h =
    let b = both_true (same_op o p) (same_terms ts us) h in
    let e = op_from_test o p b.0 in let g = each_from_test ts f us b.1 in (λ i. App (e i) (g i)) ∙ sym (rolls-App p us)
app_level o ts f x h = absurd (false≢true h)

pred_level : (p : ℕ) (ts : List Term) → AllByRecursion Tells ts → (x : Term-F Term) → same_level (Term-F.Pred p (map same_term ts)) x ≡ true → Pred p ts ≡ roll-Term x
pred_level p ts f (Term-F.Pred q us) h =
    let b = both_true (nat_eq p q) (same_terms ts us) h in
    let e = number_from_test p q b.0 in let g = each_from_test ts f us b.1 in (λ i. Pred (e i) (g i)) ∙ sym (rolls-Pred q us)
pred_level p ts f x h = absurd (false≢true h)

quant_level : (k : Kind) (sorts : List Sort) (t : Term) → Tells t → (x : Term-F Term) → same_level (Term-F.Quant k sorts (same_term t)) x ≡ true → Quant k sorts t ≡ roll-Term x
quant_level k sorts t f (Term-F.Quant l others u) h =
    let b = both_true (same_kind k l && same_sorts sorts others) (same_term t u) h in
    let c = both_true (same_kind k l) (same_sorts sorts others) b.0 in
    let e = kind_from_test k l c.0 in let g = same_sorts_from_test sorts others c.1 in let r = f u b.1 in
    (λ i. Quant (e i) (g i) (r i)) ∙ sym (rolls-Quant l others u)
quant_level k sorts t f x h = absurd (false≢true h)

call_level : (k : ℕ) (ts : List Term) → AllByRecursion Tells ts → (x : Term-F Term) → same_level (Term-F.Call k (map same_term ts)) x ≡ true → Call k ts ≡ roll-Term x
call_level k ts f (Term-F.Call l us) h =
    let b = both_true (nat_eq k l) (same_terms ts us) h in
    let e = number_from_test k l b.0 in let g = each_from_test ts f us b.1 in (λ i. Call (e i) (g i)) ∙ sym (rolls-Call l us)
call_level k ts f x h = absurd (false≢true h)

term_from_test : (t u : Term) → same_term t u ≡ true → t ≡ u
term_from_test = term_ind Tells (record {
  of_var = λ i u h. var_level i (out-Term u) (sym (same_term-Var i u) ∙ h) ∙ roll-out-Term u;
  of_num = λ n u h. num_level n (out-Term u) (sym (same_term-Num n u) ∙ h) ∙ roll-out-Term u;
  of_lit = λ b u h. lit_level b (out-Term u) (sym (same_term-Lit b u) ∙ h) ∙ roll-out-Term u;
  of_app = λ o ts f u h. app_level o ts f (out-Term u) (sym (same_term-App o ts u) ∙ h) ∙ roll-out-Term u;
  of_pred = λ p ts f u h. pred_level p ts f (out-Term u) (sym (same_term-Pred p ts u) ∙ h) ∙ roll-out-Term u;
  of_quant = λ k sorts t f u h. quant_level k sorts t f (out-Term u) (sym (same_term-Quant k sorts t u) ∙ h) ∙ roll-out-Term u;
  of_call = λ k ts f u h. call_level k ts f (out-Term u) (sym (same_term-Call k ts u) ∙ h) ∙ roll-out-Term u;
})

-- the test holds of a term and itself
abbrev Itself : Term → Type 0
Itself t = same_term t t ≡ true

each_itself : (ts : List Term) → AllByRecursion Itself ts → same_terms ts ts ≡ true
each_itself [] f = refl
each_itself (t ∷ ts) f = and_true f.0 (each_itself ts f.1)

term_itself : (t : Term) → same_term t t ≡ true
term_itself = term_ind Itself (record {
  of_var = λ i. same_term-Var i (Var i) ∙ ap (same_level (Term-F.Var i)) (outs-Var i) ∙ number_itself i;
  of_num = λ n. same_term-Num n (Num n) ∙ ap (same_level (Term-F.Num n)) (outs-Num n) ∙ (Decides-int_eq n n).1 refl;
  of_lit = λ b. same_term-Lit b (Lit b) ∙ ap (same_level (Term-F.Lit b)) (outs-Lit b) ∙ (booleans_Decides b b).1 refl;
  of_app = λ o ts f. same_term-App o ts (App o ts) ∙ ap (same_level (Term-F.App o (map same_term ts))) (outs-App o ts) ∙ and_true (op_itself o) (each_itself ts f);
  of_pred = λ p ts f. same_term-Pred p ts (Pred p ts) ∙ ap (same_level (Term-F.Pred p (map same_term ts))) (outs-Pred p ts) ∙ and_true (number_itself p) (each_itself ts f);
  of_quant = λ k sorts t f.
      same_term-Quant k sorts t (Quant k sorts t) ∙ ap (same_level (Term-F.Quant k sorts (same_term t))) (outs-Quant k sorts t)
      ∙ and_true (and_true (kind_itself k) (same_sorts_itself sorts)) f;
  of_call = λ k ts f. same_term-Call k ts (Call k ts) ∙ ap (same_level (Term-F.Call k (map same_term ts))) (outs-Call k ts) ∙ and_true (number_itself k) (each_itself ts f);
})

-- the test is true exactly of equal terms
pub tells : (t u : Term) → IsTrue (same_term t u) ↔ (t ≡ u)
tells t u = (term_from_test t u, λ e. subst (λ x. same_term t x ≡ true) e (term_itself t))

unless : (a b : Bool) → b ≡ false → (a && b) ≡ false
unless true b h = h
unless false b h = refl

-- lists of other lengths are others
pub other_lengths : (ts us : List Term) → (length ts ≡ length us → ⊥) → false ≡ same_terms ts us
other_lengths [] [] n = absurd (n refl)
other_lengths [] (u ∷ us) n = refl
other_lengths (t ∷ ts) [] n = refl
other_lengths (t ∷ ts) (u ∷ us) n = sym (unless (same_term t u) (same_terms ts us) (sym (other_lengths ts us (λ e. n (omega arith)))))

pub other_sort_lengths : (ss ts : List Sort) → (length ss ≡ length ts → ⊥) → false ≡ same_sorts ss ts
other_sort_lengths [] [] n = absurd (n refl)
other_sort_lengths [] (t ∷ ts) n = refl
other_sort_lengths (s ∷ ss) [] n = refl
other_sort_lengths (s ∷ ss) (t ∷ ts) n = sym (unless (same_sort s t) (same_sorts ss ts) (sym (other_sort_lengths ss ts (λ e. n (omega arith)))))
