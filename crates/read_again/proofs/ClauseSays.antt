-- The assertion of a well-formed clause says the clause.
use Rattle.std.proofs.Common.{◌≡◌, Bool, true, false, cond, ◌&&◌, List, [], ◌∷◌, ◌++◌, map, Option, Some, None, Result, Ok, Err, refl, ap, sym, ◌∙◌}
use Rattle.std.specs.List.{list_all}
use Rattle.std.proofs.lemmas.Bool.{and_parts, and_from}
use Rattle.std.proofs.lemmas.List.{append_assoc, append-nil}
use Rattle.chc_sorts.specs.declared.sort.Sort.{Sort}
use Rattle.chc_sorts.specs.declared.op.Op.TheVariants as op
use Rattle.chc_sorts.specs.Signature.{Signature}
use Rattle.chc_terms.specs.declared.term.Kind.TheVariants as kind
use Rattle.chc_terms.specs.declared.term.Term.{Term}
use Rattle.chc_terms.specs.declared.term.Term.TheVariants as term
use Rattle.chc_terms.specs.Sorted.{is_plain, is_unquantified}
use Rattle.chc_terms.proofs.SortLaws.{is_unquantified-Lit, is_unquantified-App, is_unquantified-Pred}
use Rattle.chc_elab.specs.Building.{sole}
use Rattle.chc_state.specs.declared.clause.Atom.{Atom}
use Rattle.chc_state.specs.declared.clause.Clause.{Clause}
use Rattle.chc_state.specs.States.{head_all}
use Rattle.chc_state.specs.Sorts.{is_condition, is_sorted_atom, is_sorted_clause}
use Rattle.chc_state.specs.WellFormed.{is_part, is_well_formed, clause_fits}
use Rattle.chc_script.specs.Horn.{left, prefix_of, collected, readings, each, and_more, atom_read, no_parts, closed, clause_behind, clause_of}
use Rattle.chc_script.specs.declared.horn.parts.Parts.{Parts}
use Rattle.chc_script.specs.declared.horn.refusal.HornErr.{HornErr}
use Rattle.chc_script.specs.declared.horn.refusal.HornErr.TheVariants as refusal
use Rattle.chc_script.specs.declared.horn.side.Side.{Side}
use Rattle.chc_script.specs.declared.horn.side.Side.TheVariants as side
use Rattle.chc_script.proofs.Collected.{collected-Lit, collected-App, collected-Pred}
use Rattle.chc_script.proofs.PrefixLaws.{prefix-Lit, prefix-App, prefix-Pred, prefix-Quant}
use Rattle.read_again.specs.ClauseTerms.{atom_term, head_term, part_terms, implied_term, matrix_term, closed_term, assertion_of, clause_again}
use Rattle.read_again.specs.ClauseLaws.{SaysItsClause}
use Rattle.read_again.proofs.PlainTerms.{none_mentioned, all_unquantified, plain_is_condition}

-- what is asked of a clause here: its terms are plain, and its conjuncts parts by themselves
abbrev pub is_plain_atom : Atom → Bool
is_plain_atom a = list_all is_plain a.args

pub record IsPlain (conj : List Term) (body : List Atom) (head : Option Atom) : Type 0 where
  pub conditions : list_all is_plain conj ≡ true
  pub singles : list_all is_part conj ≡ true
  pub atoms : list_all is_plain_atom body ≡ true
  pub head_plain : head_all is_plain_atom head ≡ true

-- a test that is part of another
pub all_weaker : {X : Type 0} (p q : X → Bool) → ((x : X) → p x ≡ true → q x ≡ true) → (xs : List X) → list_all p xs ≡ true → list_all q xs ≡ true
all_weaker p q f [] h = refl
all_weaker p q f (x ∷ xs) h =
    let b = and_parts (p x) (list_all p xs) h in
    and_from (q x) (list_all q xs) (f x b.0) (all_weaker p q f xs b.1)

pub head_weaker : (p q : Atom → Bool) → ((a : Atom) → p a ≡ true → q a ≡ true) → (head : Option Atom) → head_all p head ≡ true → head_all q head ≡ true
head_weaker p q f None h = refl
head_weaker p q f (Some a) h = f a h

-- atoms that are assumed, then conditions
atom_assumed : (a : Atom) (found : Parts) → is_plain_atom a ≡ true
    → collected (atom_term a) side.Assumed found ≡ Ok (record { conj = found.conj; body = found.body ++ a ∷ []; head = found.head })
atom_assumed a found h = collected-Pred side.Assumed found a.pred a.args ∙ ap (λ b. atom_read b a.pred a.args side.Assumed found) (none_mentioned a.args h)

conditions_read : (ts : List Term) (conj : List Term) (body : List Atom) (head : Option Atom) → list_all is_plain ts ≡ true → list_all is_part ts ≡ true
    → each (readings ts) side.Assumed (record { conj = conj; body = body; head = head }) ≡ Ok (record { conj = conj ++ ts; body = body; head = head })
conditions_read [] conj body head p s = ap (λ (us : List Term). Ok (record { conj = us; body = body; head = head })) (sym (append-nil conj))
conditions_read (t ∷ ts) conj body head p s =
    let plain = and_parts (is_plain t) (list_all is_plain ts) p in
    let part = and_parts (is_part t) (list_all is_part ts) s in
    ap (λ r. and_more r (each (readings ts) side.Assumed)) (plain_is_condition t (record { conj = conj; body = body; head = head }) plain.0 part.0)
    ∙ conditions_read ts (conj ++ t ∷ []) body head plain.1 part.1
    ∙ ap (λ (us : List Term). Ok (record { conj = us; body = body; head = head })) (append_assoc conj (t ∷ []) ts)

parts_read : (more : List Atom) (ts conj : List Term) (body : List Atom) (head : Option Atom) → list_all is_plain_atom more ≡ true → list_all is_plain ts ≡ true → list_all is_part ts ≡ true
    → each (readings (map atom_term more ++ ts)) side.Assumed (record { conj = conj; body = body; head = head }) ≡ Ok (record { conj = conj ++ ts; body = body ++ more; head = head })
parts_read [] ts conj body head a p s =
    conditions_read ts conj body head p s ∙ ap (λ (bs : List Atom). Ok (record { conj = conj ++ ts; body = bs; head = head })) (sym (append-nil body))
parts_read (b ∷ more) ts conj body head a p s =
    let atoms = and_parts (is_plain_atom b) (list_all is_plain_atom more) a in
    ap (λ r. and_more r (each (readings (map atom_term more ++ ts)) side.Assumed)) (atom_assumed b (record { conj = conj; body = body; head = head }) atoms.0)
    ∙ parts_read more ts conj (body ++ b ∷ []) head atoms.1 p s
    ∙ ap (λ (bs : List Atom). Ok (record { conj = conj ++ ts; body = bs; head = head })) (append_assoc body (b ∷ []) more)

-- the one part, or all of them
and_nothing : (r : Result Parts HornErr) (s : Side) → and_more r (each [] s) ≡ r
and_nothing (Err e) s = refl
and_nothing (Ok found) s = refl

tail_read : (t : Term) (ts : List Term) (found : Parts) → collected (sole op.And (t ∷ ts)) side.Assumed found ≡ each (readings (t ∷ ts)) side.Assumed found
tail_read t [] found = sym (and_nothing (collected t side.Assumed found) side.Assumed)
tail_read t (u ∷ ts) found = collected-App side.Assumed found op.And (t ∷ u ∷ ts)

-- the head
head_read : (head : Option Atom) (conj : List Term) (body : List Atom) → head_all is_plain_atom head ≡ true
    → collected (head_term head) side.Concluded (record { conj = conj; body = body; head = None }) ≡ Ok (record { conj = conj; body = body; head = head })
head_read None conj body h = collected-Lit side.Concluded (record { conj = conj; body = body; head = None }) false
head_read (Some a) conj body h =
    collected-Pred side.Concluded (record { conj = conj; body = body; head = None }) a.pred a.args
    ∙ ap (λ b. atom_read b a.pred a.args side.Concluded (record { conj = conj; body = body; head = None })) (none_mentioned a.args h)

-- what is implied, after the tail
implied_read : (t : Term) (ts : List Term) (head : Term) (found : Parts)
    → collected (implied_term (t ∷ ts) head) side.Concluded found ≡ and_more (each (readings (t ∷ ts)) side.Assumed found) (collected head side.Concluded)
implied_read t ts head found =
    collected-App side.Concluded found op.Or (term.App op.Not (sole op.And (t ∷ ts) ∷ []) ∷ head ∷ [])
    ∙ ap (λ r. and_more r (λ made. and_more (collected head side.Concluded made) (each [] side.Concluded))) negation_read
    ∙ head_last (each (readings (t ∷ ts)) side.Assumed found)
  where
    negation_read : collected (term.App op.Not (sole op.And (t ∷ ts) ∷ [])) side.Concluded found ≡ each (readings (t ∷ ts)) side.Assumed found
    negation_read =
        collected-App side.Concluded found op.Not (sole op.And (t ∷ ts) ∷ [])
        ∙ and_nothing (collected (sole op.And (t ∷ ts)) side.Assumed found) side.Assumed
        ∙ tail_read t ts found

    head_last : (r : Result Parts HornErr) → and_more r (λ made. and_more (collected head side.Concluded made) (each [] side.Concluded)) ≡ and_more r (collected head side.Concluded)
    head_last (Err e) = refl
    head_last (Ok made) = and_nothing (collected head side.Concluded made) side.Concluded

matrix_read : (parts : List Term) (conj : List Term) (body : List Atom) (head : Option Atom) → parts ≡ map atom_term body ++ conj → IsPlain conj body head
    → collected (implied_term parts (head_term head)) side.Concluded no_parts ≡ Ok (record { conj = conj; body = body; head = head })
matrix_read [] [] [] head e p = head_read head [] [] p.head_plain
matrix_read [] (t ∷ ts) [] head e p = absurd (none_more e)
  where
    none_more : ◌≡◌ {A = List Term} [] (t ∷ ts) → ⊥
    none_more f = cc
matrix_read [] conj (a ∷ more) head e p = absurd (none_more e)
  where
    none_more : ◌≡◌ {A = List Term} [] (atom_term a ∷ (map atom_term more ++ conj)) → ⊥
    none_more f = cc
matrix_read (t ∷ ts) conj body head e p =
    implied_read t ts (head_term head) no_parts
    ∙ ap (λ (us : List Term). and_more (each (readings us) side.Assumed no_parts) (collected (head_term head) side.Concluded)) e
    ∙ ap (λ r. and_more r (collected (head_term head) side.Concluded)) (parts_read body conj [] [] None p.atoms p.conditions p.singles)
    ∙ head_read head conj body p.head_plain

-- no quantifier stands in front of the matrix, nor in it
abbrev StaysLeft : Term → Type 0
StaysLeft t = (vars : List Sort) → prefix_of t side.Concluded vars ≡ left t side.Concluded vars

head_left : (head : Option Atom) → StaysLeft (head_term head)
head_left None vars = prefix-Lit side.Concluded vars false
head_left (Some a) vars = prefix-Pred side.Concluded vars a.pred a.args

matrix_left : (parts : List Term) (head : Option Atom) → StaysLeft (implied_term parts (head_term head))
matrix_left [] head vars = head_left head vars
matrix_left (t ∷ ts) head vars = prefix-App side.Concluded vars op.Or (term.App op.Not (sole op.And (t ∷ ts) ∷ []) ∷ head_term head ∷ [])

closed_left : (vars : List Sort) (matrix : Term) → StaysLeft matrix → prefix_of (closed_term vars matrix) side.Concluded [] ≡ left matrix side.Concluded vars
closed_left [] matrix h = h []
closed_left (s ∷ sorts) matrix h = prefix-Quant side.Concluded [] kind.Forall (s ∷ sorts) matrix ∙ h (s ∷ sorts)

abbrev Unquantified : Term → Type 0
Unquantified t = is_unquantified t ≡ true

head_unquantified : (head : Option Atom) → head_all is_plain_atom head ≡ true → Unquantified (head_term head)
head_unquantified None h = is_unquantified-Lit false
head_unquantified (Some a) h = is_unquantified-Pred a.pred a.args ∙ all_unquantified a.args h

abbrev are_unquantified : List Term → Bool
are_unquantified ts = list_all (λ b. b) (map is_unquantified ts)

parts_unquantified : (more : List Atom) (ts : List Term) → list_all is_plain_atom more ≡ true → list_all is_plain ts ≡ true → are_unquantified (map atom_term more ++ ts) ≡ true
parts_unquantified [] ts a p = all_unquantified ts p
parts_unquantified (b ∷ more) ts a p =
    let atoms = and_parts (is_plain_atom b) (list_all is_plain_atom more) a in
    and_from (is_unquantified (atom_term b)) (are_unquantified (map atom_term more ++ ts)) (is_unquantified-Pred b.pred b.args ∙ all_unquantified b.args atoms.0)
    (parts_unquantified more ts atoms.1 p)

tail_unquantified : (t : Term) (ts : List Term) → are_unquantified (t ∷ ts) ≡ true → Unquantified (sole op.And (t ∷ ts))
tail_unquantified t [] h = (and_parts (is_unquantified t) true h).0
tail_unquantified t (u ∷ ts) h = is_unquantified-App op.And (t ∷ u ∷ ts) ∙ h

matrix_unquantified : (parts : List Term) (head : Option Atom) → are_unquantified parts ≡ true → head_all is_plain_atom head ≡ true → Unquantified (implied_term parts (head_term head))
matrix_unquantified [] head u h = head_unquantified head h
matrix_unquantified (t ∷ ts) head u h =
    is_unquantified-App op.Or (negation ∷ head_term head ∷ [])
    ∙ and_from (is_unquantified negation) (is_unquantified (head_term head) && true)
    (is_unquantified-App op.Not (sole op.And (t ∷ ts) ∷ []) ∙ and_from (is_unquantified (sole op.And (t ∷ ts))) true (tail_unquantified t ts u) refl)
    (and_from (is_unquantified (head_term head)) true (head_unquantified head h) refl)
  where
    negation : Term
    negation = term.App op.Not (sole op.And (t ∷ ts) ∷ [])

-- the clause of plain terms is said, whatever their sorts
pub says_plain_clause : (c : Clause) → IsPlain c.conj c.body c.head → clause_of (assertion_of c) ≡ Ok (clause_again c)
says_plain_clause c p =
    ap clause_behind (closed_left c.vars (matrix_term c) (matrix_left (part_terms c) c.head))
    ∙ ap (λ b. cond b (closed c.vars (collected (matrix_term c) side.Concluded no_parts)) (Err refusal.QuantInside))
    (matrix_unquantified (part_terms c) c.head (parts_unquantified c.body c.conj p.atoms p.conditions) p.head_plain)
    ∙ ap (closed c.vars) (matrix_read (part_terms c) c.conj c.body c.head refl p)

-- what a well-formed clause is
module _ (sig : Signature) (preds : List (List Sort)) (c : Clause) where
  sorted_atom_is_plain : (a : Atom) → is_sorted_atom sig preds c.vars a ≡ true → is_plain_atom a ≡ true
  sorted_atom_is_plain a h = (and_parts (list_all is_plain a.args) _ h).0

  condition_is_plain : (t : Term) → is_condition sig c.vars t ≡ true → is_plain t ≡ true
  condition_is_plain t h = (and_parts (is_plain t) _ h).0

  pub record WellFormed : Type 0 where
    pub conditions : list_all (is_condition sig c.vars) c.conj ≡ true
    pub atoms : list_all (is_sorted_atom sig preds c.vars) c.body ≡ true
    pub head_sorted : head_all (is_sorted_atom sig preds c.vars) c.head ≡ true
    pub fits : clause_fits sig c ≡ true
    pub singles : list_all is_part c.conj ≡ true

  pub well_formed : is_well_formed sig preds c ≡ true → WellFormed
  well_formed h =
      let conditions = list_all (is_condition sig c.vars) c.conj in
      let atoms = list_all (is_sorted_atom sig preds c.vars) c.body in
      let head = head_all (is_sorted_atom sig preds c.vars) c.head in
      let whole = and_parts (is_sorted_clause sig preds c && clause_fits sig c) (list_all is_part c.conj) h in
      let both = and_parts (is_sorted_clause sig preds c) (clause_fits sig c) whole.0 in
      let sorted = and_parts (conditions && atoms) head both.0 in
      let terms = and_parts conditions atoms sorted.0 in
      record { conditions = terms.0; atoms = terms.1; head_sorted = sorted.1; fits = both.1; singles = whole.1 }

  pub well_formed_is_plain : is_well_formed sig preds c ≡ true → IsPlain c.conj c.body c.head
  well_formed_is_plain h =
      let w = well_formed h in
      record {
        conditions = all_weaker (is_condition sig c.vars) is_plain condition_is_plain c.conj w.conditions;
        singles = w.singles;
        atoms = all_weaker (is_sorted_atom sig preds c.vars) is_plain_atom sorted_atom_is_plain c.body w.atoms;
        head_plain = head_weaker (is_sorted_atom sig preds c.vars) is_plain_atom sorted_atom_is_plain c.head w.head_sorted;
      }

pub says_its_clause : SaysItsClause
says_its_clause sig preds c h = says_plain_clause c (well_formed_is_plain sig preds c h)
