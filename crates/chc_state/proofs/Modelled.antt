-- From truth of clauses to truth of other clauses, by a transfer of interpretations.
use Rattle.std.proofs.Common.{◌≡◌, true, List, [], Option, Some, None, refl, sym, subst}
use Rattle.std.specs.List.{list_all}
use Rattle.chc_sorts.specs.declared.sort.Sort.{Sort}
use Rattle.chc_sorts.specs.Signature.{Signature}
use Rattle.chc_sorts.specs.WellFounded.{IsWellFounded}
use Rattle.chc_values.specs.declared.world.WorldEntry.{WorldEntry}
use Rattle.chc_values.specs.Worlds.{IsWorld}
use Rattle.chc_state.specs.declared.clause.Atom.{Atom}
use Rattle.chc_state.specs.declared.clause.Clause.{Clause}
use Rattle.chc_state.specs.Sorts.{is_sorted_clause}
use Rattle.chc_state.specs.Meaning.{Interp, AtomHolds, Fails}
use Rattle.chc_state.specs.Definitions.{HeadHolds, AllTrue}
use Rattle.chc_state.proofs.Members.{all-at}
use Rattle.chc_state.proofs.Transfers.{Within, Closed, Transfer, Fires-within}
use Rattle.chc_state.proofs.Valued.{SortedArgs-head, args_once, args_valued}

module _ (sig : Signature) (w : List WorldEntry) (world : IsWorld sig w) where
  -- where clauses are true, what they conclude holds
  pub Closed-true : (preds : List (List Sort)) (cs : List Clause) → list_all (is_sorted_clause sig preds) cs ≡ true → (J : Interp) → AllTrue sig w J cs → Closed sig w cs J
  Closed-true preds cs sorted J holds p us n = says (subst (HeadHolds sig w J n.env) n.concludes (holds n.clause n.stands n.env n.fires))
    where
      says : AtomHolds sig w J n.env n.head → J p us
      says h =
          let args = SortedArgs-head sig preds n.clause n.head (all-at (is_sorted_clause sig preds) n.clause cs sorted n.stands) n.concludes in
          let same : h.0 ≡ us = args_once sig w world n.clause.vars n.env n.fires.sorted n.head.args args h.0 us h.1 n.gives in
          subst (λ q. J q us) n.on (subst (λ vs. J n.head.pred vs) same h.2)

  -- and no query fires
  pub no_failure : (cs : List Clause) (J : Interp) → AllTrue sig w J cs → Fails sig w cs J → ⊥
  no_failure cs J holds f = subst (HeadHolds sig w J f.env) f.query (holds f.clause f.stands f.env f.fires)

  -- an interpretation that makes the new clauses true is turned into one that makes the old ones true, where the signature
  -- is well founded
  pub modelled : IsWellFounded sig → (preds new_preds : List (List Sort)) (cs new : List Clause) (T : Interp → Interp) → Transfer sig w cs new T
      → list_all (is_sorted_clause sig preds) cs ≡ true → list_all (is_sorted_clause sig new_preds) new ≡ true
      → (J : Interp) → AllTrue sig w J new → AllTrue sig w (T J) cs
  modelled founded preds new_preds cs new T transfer sorted new_sorted J holds c stands env fires = at_head c.head refl
    where
      moved : Closed sig w cs (T J) × (Fails sig w cs (T J) → Fails sig w new J)
      moved = transfer J (Closed-true new_preds new new_sorted J holds)

      at_head : (o : Option Atom) → c.head ≡ o → HeadHolds sig w (T J) env c.head
      at_head None e = absurd (no_failure new J holds (moved.1 (record { clause = c; env = env; stands = stands; query = e; fires = fires })))
      at_head (Some head) e =
          let args = SortedArgs-head sig preds c head (all-at (is_sorted_clause sig preds) c cs sorted stands) e in
          let values = args_valued sig w world c.vars env fires.sorted head.args args founded in
          let says : T J head.pred values.0 = moved.0 head.pred values.0 (record {
            clause = c;
            head = head;
            env = env;
            stands = stands;
            concludes = e;
            on = refl;
            gives = values.1;
            fires = fires;
          }) in
          subst (HeadHolds sig w (T J) env) (sym e) (values.0, values.1, says)

-- clauses are true by interpretations that say the same
pub AllTrue-same : (sig : Signature) (w : List WorldEntry) (I J : Interp) → Within I J → Within J I → (cs : List Clause) → AllTrue sig w J cs → AllTrue sig w I cs
AllTrue-same sig w I J into out cs holds c stands env fires = head c.head (holds c stands env (Fires-within sig w I J into c env fires))
  where
    head : (o : Option Atom) → HeadHolds sig w J env o → HeadHolds sig w I env o
    head None h = h
    head (Some a) h = (h.0, h.1, out a.pred h.0 h.2)
