-- From one list of clauses to another: where interpretations closed under the one give interpretations
-- closed under the other, false is derived from the other wherever it is from the one.
use Rattle.std.proofs.Common.{◌≡◌, ℕ, zero, suc, ◌≤◌, max, List, [], ◌∷◌, inl, inr, refl, sym, subst, arith}
use Rattle.std.proofs.lemmas.Bool.{cases_lt}
use Rattle.chc_sorts.specs.Signature.{Signature}
use Rattle.chc_values.specs.declared.value.Value.{Value}
use Rattle.chc_values.specs.declared.world.WorldEntry.{WorldEntry}
use Rattle.chc_state.specs.declared.clause.Atom.{Atom}
use Rattle.chc_state.specs.declared.clause.Clause.{Clause}
use Rattle.chc_state.specs.Meaning.{Interp, In, AtomHolds, Fires, Next, Fails, Derives, FalseDerived}

-- what the first interpretation says, the second says
abbrev pub Within : Interp → Interp → Type 0
Within I J = (p : ℕ) (us : List Value) → I p us → J p us

module _ (sig : Signature) (w : List WorldEntry) where
  pub AtomHolds-within : (I J : Interp) → Within I J → (env : List Value) (a : Atom) → AtomHolds sig w I env a → AtomHolds sig w J env a
  AtomHolds-within I J i env a h = (h.0, h.1, i a.pred h.0 h.2)

  pub Fires-within : (I J : Interp) → Within I J → (c : Clause) (env : List Value) → Fires sig w I c env → Fires sig w J c env
  Fires-within I J i c env f =
      record { sorted = f.sorted; truths = f.truths; atoms = λ a stands. AtomHolds-within I J i env a (f.atoms a stands) }

  pub Next-within : (cs : List Clause) (I J : Interp) → Within I J → Within (Next sig w cs I) (Next sig w cs J)
  Next-within cs I J i p us n =
      record {
        clause = n.clause;
        head = n.head;
        env = n.env;
        stands = n.stands;
        concludes = n.concludes;
        on = n.on;
        gives = n.gives;
        fires = Fires-within I J i n.clause n.env n.fires;
      }

  pub Fails-within : (cs : List Clause) (I J : Interp) → Within I J → Fails sig w cs I → Fails sig w cs J
  Fails-within cs I J i f =
      record { clause = f.clause; env = f.env; stands = f.stands; query = f.query; fires = Fires-within I J i f.clause f.env f.fires }

  -- what the clauses conclude under the interpretation, it says already
  abbrev pub Closed : List Clause → Interp → Type 0
  Closed cs J = Within (Next sig w cs J) J

  pub derives_within : (cs : List Clause) (J : Interp) → Closed cs J → (n : ℕ) → Within (Derives sig w cs n) J
  derives_within cs J closed zero = λ p us d. absurd d
  derives_within cs J closed (suc n) =
      λ p us d. closed p us (Next-within cs (Derives sig w cs n) J (derives_within cs J closed n) p us d)

  -- what some derivation tree derives
  abbrev pub Derived : List Clause → Interp
  Derived cs = λ p us. (n : ℕ) × Derives sig w cs n p us

  derives_once_more : (cs : List Clause) (n : ℕ) → Within (Derives sig w cs n) (Derives sig w cs (suc n))
  derives_once_more cs zero = λ p us d. absurd d
  derives_once_more cs (suc n) = Next-within cs (Derives sig w cs n) (Derives sig w cs (suc n)) (derives_once_more cs n)

  pub derives_higher : (cs : List Clause) (m n : ℕ) → n ≤ m → Within (Derives sig w cs n) (Derives sig w cs m)
  derives_higher cs zero n below =
      let e : zero ≡ n = omega arith in let P : ℕ → Type 0 = λ k. Within (Derives sig w cs k) (Derives sig w cs zero) in subst P e (λ p us d. d)
  derives_higher cs (suc m) n below = elim (cases_lt n (suc m)) [
    | inl less ↦ λ p us d. derives_once_more cs m p us (derives_higher cs m n (omega arith) p us d)
    | inr same ↦
        let e : suc m ≡ n = omega arith in
        let P : ℕ → Type 0 = λ k. Within (Derives sig w cs k) (Derives sig w cs (suc m)) in
        subst P e (λ p us d. d)
  ]

  -- finitely many atoms have a height in common
  atoms_at_height : (cs : List Clause) (env : List Value) (body : List Atom)
      → ((a : Atom) → In a body → AtomHolds sig w (Derived cs) env a)
      → (n : ℕ) × ((a : Atom) → In a body → AtomHolds sig w (Derives sig w cs n) env a)
  atoms_at_height cs env [] h = (0, λ a i. absurd i)
  atoms_at_height cs env (b ∷ bs) h =
      let first = h b (inl refl) in
      let rest = atoms_at_height cs env bs (λ a i. h a (inr i)) in
      let n = max first.2.0 rest.0 in
      let P : Atom → Type 0 = λ a. AtomHolds sig w (Derives sig w cs n) env a in
      let here : P b = (first.0, first.1, derives_higher cs n first.2.0 (omega arith) b.pred first.0 first.2.1) in (
        n,
        λ a i. elim i [
          | inl e ↦ subst P (sym e) here
          | inr j ↦ AtomHolds-within (Derives sig w cs rest.0) (Derives sig w cs n) (derives_higher cs n rest.0 (omega arith)) env a (rest.1 a j)
        ],
      )

  fires_at_height : (cs : List Clause) (c : Clause) (env : List Value) → Fires sig w (Derived cs) c env → (n : ℕ) × Fires sig w (Derives sig w cs n) c env
  fires_at_height cs c env f =
      let found = atoms_at_height cs env c.body f.atoms in
      (found.0, record { sorted = f.sorted; truths = f.truths; atoms = found.1 })

  pub Closed-Derived : (cs : List Clause) → Closed cs (Derived cs)
  Closed-Derived cs p us n =
      let found = fires_at_height cs n.clause n.env n.fires in (
        suc found.0,
        record {
          clause = n.clause;
          head = n.head;
          env = n.env;
          stands = n.stands;
          concludes = n.concludes;
          on = n.on;
          gives = n.gives;
          fires = found.1;
        },
      )

  -- each interpretation closed under the new clauses is turned into one closed under the old clauses,
  -- under which no old query fires unless a new one does
  abbrev pub Transfer : List Clause → List Clause → (Interp → Interp) → Type 1
  Transfer cs new T = (J : Interp) → Closed new J → Closed cs (T J) × (Fails sig w cs (T J) → Fails sig w new J)

  pub transferred : (cs new : List Clause) (T : Interp → Interp) → Transfer cs new T → FalseDerived sig w cs → FalseDerived sig w new
  transferred cs new T t d =
      let moved = t (Derived new) (Closed-Derived new) in
      let within = derives_within cs (T (Derived new)) moved.0 d.0 in
      let fails = moved.1 (Fails-within cs (Derives sig w cs d.0) (T (Derived new)) within d.1) in
      let found = fires_at_height new fails.clause fails.env fails.fires in
      (found.0, record { clause = fails.clause; env = fails.env; stands = fails.stands; query = fails.query; fires = found.1 })

  -- clauses that stand among others derive no more
  pub fewer : (cs new : List Clause) → ((c : Clause) → In c new → In c cs) → Transfer new cs (λ J. J)
  fewer cs new among J closed = (
    λ p us n. closed p us (record {
      clause = n.clause;
      head = n.head;
      env = n.env;
      stands = among n.clause n.stands;
      concludes = n.concludes;
      on = n.on;
      gives = n.gives;
      fires = n.fires;
    }),
    λ f. record { clause = f.clause; env = f.env; stands = among f.clause f.stands; query = f.query; fires = f.fires },
  )
