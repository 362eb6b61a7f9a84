-- Without a clause that concludes nothing new, the same is derived.
use Rattle.std.proofs.Common.{◌≡◌, ◌⊎◌, ℕ, zero, suc, true, false, List, [], ◌∷◌, Some, None, inl, inr, sym, ap, ◌∙◌, subst}
use Rattle.std.specs.Prelude.{slice_get, remove}
use Rattle.std.specs.List.{list_all}
use Rattle.std.proofs.lemmas.Option.{none-some}
use Rattle.chc_sorts.specs.declared.sort.Sort.{Sort}
use Rattle.chc_sorts.specs.Signature.{Signature}
use Rattle.chc_values.specs.declared.value.Value.{Value}
use Rattle.chc_values.specs.declared.value.Value.TheVariants as value
use Rattle.chc_values.specs.declared.world.WorldEntry.{WorldEntry}
use Rattle.chc_values.specs.Worlds.{IsWorld}
use Rattle.chc_terms.specs.declared.term.Term.{Term}
use Rattle.chc_terms.specs.declared.term.Term.TheVariants as term
use Rattle.chc_terms.specs.Has.{TermHas, AllHave, silent}
use Rattle.chc_terms.proofs.HasLaws.{Has-Lit}
use Rattle.chc_state.specs.declared.clause.Atom.{Atom}
use Rattle.chc_state.specs.declared.clause.Clause.{Clause}
use Rattle.chc_state.specs.Meaning.{In, Interp, Fires, ArgsHave}
use Rattle.chc_state.specs.Sorts.{is_sorted_clause}
use Rattle.chc_state.proofs.Members.{all-at}
use Rattle.chc_state.proofs.Places.{one_element}
use Rattle.chc_state.proofs.Transfers.{Transfer}
use Rattle.chc_state.proofs.Valued.{SortedArgs-head, args_once}
use Rattle.pass_slice.specs.Voids.{IsVoid}

-- what stands in the list still
pub In-removed : {X : Type 0} (xs : List X) (k : ℕ) (x : X) → In x (remove xs k) → In x xs
In-removed [] zero x i = i
In-removed [] (suc k) x i = i
In-removed (y ∷ xs) zero x i = inr i
In-removed (y ∷ xs) (suc k) x (inl same) = inl same
In-removed (y ∷ xs) (suc k) x (inr i) = inr (In-removed xs k x i)

-- what stood in the list stands there still, or was at the place
pub In-remove : {X : Type 0} (xs : List X) (k : ℕ) (x : X) → In x xs → In x (remove xs k) ⊎ (slice_get xs k ≡ Some x)
In-remove [] k x i = absurd i
In-remove (y ∷ xs) zero x (inl same) = inr (ap Some (sym same))
In-remove (y ∷ xs) zero x (inr i) = inl i
In-remove (y ∷ xs) (suc k) x (inl same) = inl (inl same)
In-remove (y ∷ xs) (suc k) x (inr i) = elim (In-remove xs k x i) [ inl j ↦ inl (inr j) | inr e ↦ inr e ]

module _ (sig : Signature) (w : List WorldEntry) where
  -- `false` isn't true
  never : (conj : List Term) (env : List Value) → In (term.Lit false) conj → AllHave (TermHas sig w) conj env (value.Bool true) → ⊥
  never [] env i h = i
  never (t ∷ conj) env (inl same) h = apart (subst (λ A. A) (Has-Lit sig w silent silent false env (value.Bool true)) (subst (λ (u : Term). TermHas sig w u env (value.Bool true)) (sym same) h.0))
    where
      apart : value.Bool true ≡ value.Bool false → ⊥
      apart e = cc
  never (t ∷ conj) env (inr i) h = never conj env i h.1

  module _ (preds : List (List Sort)) (cs : List Clause) (world : IsWorld sig w) (sorted : list_all (is_sorted_clause sig preds) cs ≡ true) where
    -- a void clause concludes what holds already
    concludes_nothing : (J : Interp) (c : Clause) (head : Atom) (env us : List Value) → In c cs → IsVoid c → c.head ≡ Some head
        → ArgsHave sig w head env us → Fires sig w J c env → J head.pred us
    concludes_nothing J c head env us stands (inl contradicted) concludes gives fires = absurd (never c.conj env contradicted fires.truths)
    concludes_nothing J c head env us stands (inr repeats) concludes gives fires =
        let same : head ≡ repeats.0 = one_element head repeats.0 concludes repeats.1 in
        let holds = fires.atoms head (subst (λ (a : Atom). In a c.body) (sym same) repeats.2) in
        let args = SortedArgs-head sig preds c head (all-at (is_sorted_clause sig preds) c cs sorted stands) concludes in
        subst (λ vs. J head.pred vs) (args_once sig w world c.vars env fires.sorted head.args args holds.0 us holds.1 gives) holds.2

    no_void_query : (J : Interp) (c : Clause) (env : List Value) → IsVoid c → c.head ≡ None → Fires sig w J c env → ⊥
    no_void_query J c env (inl contradicted) query fires = never c.conj env contradicted fires.truths
    no_void_query J c env (inr repeats) query fires = none-some repeats.0 (sym query ∙ repeats.1)

    -- so what is closed without it is closed with it
    pub voided : (k : ℕ) (v : Clause) → slice_get cs k ≡ Some v → IsVoid v → Transfer sig w cs (remove cs k) (λ J. J)
    voided k v at void J closed = (
      λ p us n. elim (In-remove cs k n.clause n.stands) [
        | inl stays ↦ closed p us (record {
          clause = n.clause;
          head = n.head;
          env = n.env;
          stands = stays;
          concludes = n.concludes;
          on = n.on;
          gives = n.gives;
          fires = n.fires;
        })
        | inr went ↦
            let same : v ≡ n.clause = one_element v n.clause at went in
            subst (λ q. J q us) n.on (concludes_nothing J n.clause n.head n.env us n.stands (subst IsVoid same void) n.concludes n.gives n.fires)
      ],
      λ f. elim (In-remove cs k f.clause f.stands) [
        | inl stays ↦ record { clause = f.clause; env = f.env; stands = stays; query = f.query; fires = f.fires }
        | inr went ↦ absurd (no_void_query J f.clause f.env (subst IsVoid (one_element v f.clause at went) void) f.query f.fires)
      ],
    )
