-- The arguments of well-sorted atoms have values, each just one.
use Rattle.std.proofs.Common.{◌≡◌, true, ◌&&◌, List, [], ◌∷◌, map, Option, Some, None, refl, sym, ap, ◌∙◌}
use Rattle.std.specs.Prelude.{slice_get}
use Rattle.std.specs.List.{AllByRecursion, list_all}
use Rattle.std.proofs.lemmas.Bool.{and_parts, and_from, false≢true}
use Rattle.chc_sorts.specs.declared.sort.Sort.{Sort}
use Rattle.chc_sorts.specs.Signature.{Signature}
use Rattle.chc_sorts.specs.WellFounded.{IsWellFounded}
use Rattle.chc_values.specs.declared.value.Value.{Value}
use Rattle.chc_values.specs.declared.world.WorldEntry.{WorldEntry}
use Rattle.chc_values.specs.Values.{AreOf}
use Rattle.chc_values.specs.Worlds.{IsWorld}
use Rattle.chc_terms.specs.declared.term.Term.{Term}
use Rattle.chc_terms.specs.Has.{TermHas, EachHas, silent}
use Rattle.chc_terms.specs.Sorted.{sorts_of, is_plain, is_unquantified}
use Rattle.chc_terms.proofs.Induction.{term_ind}
use Rattle.chc_terms.proofs.SortLaws.{is_plain-App, is_plain-Pred, is_plain-Quant, is_plain-Call, is_unquantified-Var, is_unquantified-Num, is_unquantified-Lit, is_unquantified-App}
use Rattle.chc_terms.proofs.ForOthers.{nothing_meant, nothing_to_answer, one_list, some_list_under_any}
use Rattle.chc_state.specs.declared.clause.Atom.{Atom}
use Rattle.chc_state.specs.declared.clause.Clause.{Clause}
use Rattle.chc_state.specs.States.{head_all}
use Rattle.chc_state.specs.Sorts.{clause_context, are_sorts, is_condition, is_sorted_atom, is_sorted_clause}

-- a plain term has no quantifier
all_unquantified : (ts : List Term) → AllByRecursion (λ t. is_plain t ≡ true → is_unquantified t ≡ true) ts → list_all (λ b. b) (map is_plain ts) ≡ true → list_all (λ b. b) (map is_unquantified ts) ≡ true
all_unquantified [] k h = refl
all_unquantified (t ∷ ts) k h =
    let b = and_parts (is_plain t) (list_all (λ b. b) (map is_plain ts)) h in
    and_from (is_unquantified t) (list_all (λ b. b) (map is_unquantified ts)) (k.0 b.0) (all_unquantified ts k.1 b.1)

pub plain_unquantified : (t : Term) → is_plain t ≡ true → is_unquantified t ≡ true
plain_unquantified = term_ind (λ t. is_plain t ≡ true → is_unquantified t ≡ true) (record {
  of_var = λ i h. is_unquantified-Var i;
  of_num = λ n h. is_unquantified-Num n;
  of_lit = λ b h. is_unquantified-Lit b;
  of_app = λ o ts k h. is_unquantified-App o ts ∙ all_unquantified ts k (sym (is_plain-App o ts) ∙ h);
  of_pred = λ p ts k h. absurd (false≢true (sym (is_plain-Pred p ts) ∙ h));
  of_quant = λ q sorts t k h. absurd (false≢true (sym (is_plain-Quant q sorts t) ∙ h));
  of_call = λ n ts k h. absurd (false≢true (sym (is_plain-Call n ts) ∙ h));
})

plain_terms_unquantified : (ts : List Term) → list_all is_plain ts ≡ true → list_all (λ b. b) (map is_unquantified ts) ≡ true
plain_terms_unquantified [] h = refl
plain_terms_unquantified (t ∷ ts) h =
    let b = and_parts (is_plain t) (list_all is_plain ts) h in
    and_from (is_unquantified t) (list_all (λ b. b) (map is_unquantified ts)) (plain_unquantified t b.0) (plain_terms_unquantified ts b.1)

-- plain terms that have sorts
pub record SortedArgs (sig : Signature) (vars : List Sort) (ts : List Term) : Type 0 where
  pub plain : list_all is_plain ts ≡ true
  pub sorts : List Sort
  pub sorted : sorts_of (clause_context sig) ts vars ≡ Some sorts

pub SortedArgs-atom : (sig : Signature) (preds : List (List Sort)) (vars : List Sort) (a : Atom) → is_sorted_atom sig preds vars a ≡ true → SortedArgs sig vars a.args
SortedArgs-atom sig preds vars a h =
    let b = and_parts (list_all is_plain a.args) (are_sorts (sorts_of (clause_context sig) a.args vars) (slice_get preds a.pred)) h in
    there b.0 (sorts_of (clause_context sig) a.args vars) refl b.1
  where
    there : list_all is_plain a.args ≡ true → (o : Option (List Sort)) → sorts_of (clause_context sig) a.args vars ≡ o → are_sorts o (slice_get preds a.pred) ≡ true → SortedArgs sig vars a.args
    there plain None e f = absurd (false≢true f)
    there plain (Some sorts) e f = record { plain = plain; sorts = sorts; sorted = e }

-- the arguments of the head, where there is one, are plain and have sorts
pub SortedArgs-head : (sig : Signature) (preds : List (List Sort)) (c : Clause) (head : Atom) → is_sorted_clause sig preds c ≡ true → c.head ≡ Some head → SortedArgs sig c.vars head.args
SortedArgs-head sig preds c head h e =
    let rest = and_parts (list_all (is_condition sig c.vars) c.conj && list_all (is_sorted_atom sig preds c.vars) c.body) (head_all (is_sorted_atom sig preds c.vars) c.head) h in
    SortedArgs-atom sig preds c.vars head (ap (head_all (is_sorted_atom sig preds c.vars)) (sym e) ∙ rest.1)

module _ (sig : Signature) (w : List WorldEntry) (world : IsWorld sig w) (vars : List Sort) (env : List Value) (are : AreOf sig env vars)
    (ts : List Term) (args : SortedArgs sig vars ts) where
  -- the arguments have at most one list of values
  pub args_once : (us vs : List Value) → EachHas (TermHas sig w) ts env us → EachHas (TermHas sig w) ts env vs → us ≡ vs
  args_once = one_list (clause_context sig) w silent silent world (nothing_meant sig silent silent) ts vars args.sorts args.sorted env are

  -- and have one, where the signature is well founded
  pub args_valued : IsWellFounded sig → (us : List Value) × EachHas (TermHas sig w) ts env us
  args_valued founded =
      some_list_under_any (clause_context sig) w silent silent world (nothing_meant sig silent silent) ts vars args.sorts args.sorted env are founded
      (nothing_to_answer sig silent silent) (plain_terms_unquantified ts args.plain)
