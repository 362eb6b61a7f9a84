-- The names of helpers: as many numbers as names can be taken at most, and there is one list of so many.
use Rattle.std.proofs.Common.{◌≡◌, ◌∙◌, sym, ap, subst, refl, ℕ, zero, suc, ◌+◌, ◌^◌, ◌<◌, ◌≤◌, ◌++◌, ◌||◌, Bool, true, false, cond, List, [], ◌∷◌, length, take, get_or, append_assoc, inl, inr, codes, arith}
use Rattle.std.specs.Prelude.{decimal}
use Rattle.std.specs.Set.{remove_key}
use Rattle.std.specs.Str.{bytes_eq}
use Rattle.std.proofs.lemmas.Bool.{cases_lt, false≢true}
use Rattle.std.proofs.lemmas.Fmt.{decimal_injective}
use Rattle.std.proofs.lemmas.List.{append-nil, append_cancel_left, length-append, take_more}
use Rattle.std.proofs.lemmas.List.Folds.{list_any-append}
use Rattle.std.proofs.lemmas.Map.Made.{length-remove_key}
use Rattle.std.proofs.lemmas.Slice.Eq.{bytes_eq-Decides}
use Rattle.chc_sorts.specs.Names.{has_name}
use Rattle.chc_state.specs.States.{StateView}
use Rattle.chc_print.specs.Prefix.{used_names}
use Rattle.chc_print.specs.Helpers.{numbered, IsNextHelper, AreHelpers, if_free, NamesPredicates}

-- names that were made, with a table of them and of the names in use; so many numbers were tried
pub record AreMade (used : List (List ℕ)) (stem : List ℕ) (count before number : ℕ) (table names : List (List ℕ)) : Type 0 where
  pub next : AreHelpers used stem names
  pub same : (name : List ℕ) → has_name table name ≡ has_name (used ++ names) name
  pub taken : (k : ℕ) → k < number → has_name table (numbered stem k) ≡ true
  pub size : length table ≡ before + length names
  pub few : length names ≤ count
  pub within : number ≤ length table

-- the items before the i-th, and it
pub take_here : {X : Type 0} (xs : List X) (i : ℕ) (x : X) → i < length xs → x ≡ get_or xs i x → take (i + 1) xs ≡ take i xs ++ x ∷ []
take_here xs i x within e = take_more xs i x within ∙ ap (λ y. take i xs ++ y ∷ []) (sym e)

or_true : (a b : Bool) → b ≡ true → (a || b) ≡ true
or_true true b h = refl
or_true false b h = h

-- a name stays where another one goes
stays : (a b : List ℕ) (names : List (List ℕ)) → (a ≡ b → ⊥) → has_name names b ≡ true → has_name (remove_key (bytes_eq a) names) b ≡ true
stays a b [] other h = h
stays a b (x ∷ xs) other h = by (bytes_eq a x) refl (stays a b xs other)
  where
    both : (q : Bool) → (has_name xs b ≡ true → has_name (remove_key (bytes_eq a) xs) b ≡ true) → (q || has_name xs b) ≡ true
        → (q || has_name (remove_key (bytes_eq a) xs) b) ≡ true
    both true later g = refl
    both false later g = later g

    beside : (q : Bool) → bytes_eq b x ≡ q → a ≡ x → (q || has_name xs b) ≡ true → has_name xs b ≡ true
    beside true e same g = absurd (other (same ∙ sym ((bytes_eq-Decides b x).0 e)))
    beside false e same g = g

    by : (p : Bool) → bytes_eq a x ≡ p → (has_name xs b ≡ true → has_name (remove_key (bytes_eq a) xs) b ≡ true)
        → has_name (cond p xs (x ∷ remove_key (bytes_eq a) xs)) b ≡ true
    by true e later = beside (bytes_eq b x) refl ((bytes_eq-Decides a x).0 e) h
    by false e later = both (bytes_eq b x) later h

differ : (stem : List ℕ) (k n : ℕ) → k < n → n < 2 ^ 64 → numbered stem n ≡ numbered stem k → ⊥
differ stem k n low few e =
    let same = decimal_injective n k few (omega arith) (append_cancel_left stem (decimal n) (decimal k) e) in
    omega arith

-- as many names as numbers that are taken
pub enough : (stem : List ℕ) (n : ℕ) (names : List (List ℕ)) → n ≤ 2 ^ 64 → ((k : ℕ) → k < n → has_name names (numbered stem k) ≡ true) → n ≤ length names
enough stem zero names few taken = omega arith
enough stem (suc n) names few taken =
    let test = bytes_eq (numbered stem n) in
    let less = length-remove_key test names (taken n (omega arith)) in
    let rest = enough stem n (remove_key test names) (omega arith)
    (λ k low. stays (numbered stem n) (numbered stem k) names (differ stem k n low (omega arith)) (taken k (omega arith))) in
    omega arith

has_more : (names : List (List ℕ)) (name other : List ℕ) → has_name (names ++ name ∷ []) other ≡ (has_name names other || has_name (name ∷ []) other)
has_more names name other = list_any-append (bytes_eq other) names (name ∷ [])

-- one more name on either side
pub same_more : (xs ys : List (List ℕ)) (name : List ℕ) → ((other : List ℕ) → has_name xs other ≡ has_name ys other)
    → (other : List ℕ) → has_name (xs ++ name ∷ []) other ≡ has_name (ys ++ name ∷ []) other
same_more xs ys name same other = has_more xs name other ∙ ap (λ b. b || has_name (name ∷ []) other) (same other) ∙ sym (has_more ys name other)

or_false : (a : Bool) → a ≡ (a || false)
or_false true = refl
or_false false = refl

-- a name that is there already adds none
same_with : (names : List (List ℕ)) (name other : List ℕ) → has_name names name ≡ true → has_name names other ≡ has_name (names ++ name ∷ []) other
same_with names name other there = by (bytes_eq other name) refl ∙ sym (has_more names name other)
  where
    by : (b : Bool) → bytes_eq other name ≡ b → has_name names other ≡ (has_name names other || (b || false))
    by true e = (let found = ap (has_name names) ((bytes_eq-Decides other name).0 e) ∙ there in found ∙ sym (ap (λ b. b || true) found))
    by false e = or_false (has_name names other)

-- the names with one more, in a table that has it once
pub same_once : (table names : List (List ℕ)) (name : List ℕ) → ((other : List ℕ) → has_name table other ≡ has_name names other)
    → (other : List ℕ) → has_name (table ++ if_free table name) other ≡ has_name (names ++ name ∷ []) other
same_once table names name same other = by (has_name table name) refl
  where
    by : (b : Bool) → has_name table name ≡ b → has_name (table ++ cond b [] (name ∷ [])) other ≡ has_name (names ++ name ∷ []) other
    by true e = ap (λ l. has_name l other) (append-nil table) ∙ same other ∙ same_with names name other (sym (same name) ∙ e)
    by false e = same_more table names name same other

still : (names : List (List ℕ)) (name other : List ℕ) → has_name names other ≡ true → has_name (names ++ name ∷ []) other ≡ true
still names name other h = has_more names name other ∙ ap (λ b. b || has_name (name ∷ []) other) h

there : (names : List (List ℕ)) (name : List ℕ) → has_name (names ++ name ∷ []) name ≡ true
there names name = has_more names name name ∙ or_true (has_name names name) (has_name (name ∷ []) name) (ap (λ b. b || false) ((bytes_eq-Decides name name).1 refl))

-- the next helper behind those that there are
behind : (used : List (List ℕ)) (stem : List ℕ) (names : List (List ℕ)) (name : List ℕ) → AreHelpers used stem names → IsNextHelper (used ++ names) stem name
    → AreHelpers used stem (names ++ name ∷ [])
behind used stem [] name helpers next = (subst (λ u. IsNextHelper u stem name) (append-nil used) next, tt)
behind used stem (first ∷ names) name helpers next =
    (helpers.0, behind (used ++ first ∷ []) stem names name helpers.1 (subst (λ u. IsNextHelper u stem name) (sym (append_assoc used (first ∷ []) names)) next))

-- nothing is made at first
pub none_made : (used : List (List ℕ)) (stem : List ℕ) (count : ℕ) (table : List (List ℕ)) → ((name : List ℕ) → has_name table name ≡ has_name used name)
    → AreMade used stem count (length table) 0 table []
none_made used stem count table same = record {
  next = tt;
  same = λ name. same name ∙ ap (λ u. has_name u name) (sym (append-nil used));
  taken = λ k low. absurd (omega arith);
  size = omega arith;
  few = omega arith;
  within = omega arith;
}

up_to : (P : ℕ → Type 0) (n : ℕ) → ((k : ℕ) → k < n → P k) → P n → (k : ℕ) → k < n + 1 → P k
up_to P n below here k low = elim (cases_lt k n) [ inl less ↦ below k less | inr more ↦ subst P (omega arith) here ]

module _ (used : List (List ℕ)) (stem : List ℕ) (count before number : ℕ) (table names : List (List ℕ)) where
  made_with : (b : Bool) → has_name table (numbered stem number) ≡ b → AreMade used stem count before number table names → length names < count → number + 1 ≤ 2 ^ 64
      → AreMade used stem count before (number + 1) (table ++ cond b [] (numbered stem number ∷ [])) (names ++ cond b [] (numbered stem number ∷ []))
  made_with true e made more narrow =
      let taken = up_to (λ k. has_name table (numbered stem k) ≡ true) number made.taken e in
      rw (append-nil table, append-nil names) record {
        next = made.next;
        same = made.same;
        taken = taken;
        size = made.size;
        few = made.few;
        within = enough stem (number + 1) table narrow taken;
      }
  made_with false e made more narrow =
      let name = numbered stem number in
      let longer = length-append table (name ∷ []) in
      let more_names = length-append names (name ∷ []) in
      record {
        next = behind used stem names name made.next (record {
          number = number;
          form = refl;
          free = sym (made.same name) ∙ e;
          least = λ k low. sym (made.same (numbered stem k)) ∙ made.taken k low;
        });
        same = λ other. same_more table (used ++ names) name made.same other ∙ ap (λ u. has_name u other) (append_assoc used names (name ∷ []));
        taken = up_to (λ k. has_name (table ++ name ∷ []) (numbered stem k) ≡ true) number (λ k low. still table name (numbered stem k) (made.taken k low)) (there table name);
        size = (let size = made.size in omega arith);
        few = omega arith;
        within = (let within = made.within in omega arith);
      }

  -- one more number is tried
  pub one_more_made : AreMade used stem count before number table names → length names < count → number + 1 ≤ 2 ^ 64
      → AreMade used stem count before (number + 1) (table ++ if_free table (numbered stem number)) (names ++ if_free table (numbered stem number))
  one_more_made = made_with (has_name table (numbered stem number)) refl

one_next : (used : List (List ℕ)) (stem a b : List ℕ) → IsNextHelper used stem a → IsNextHelper used stem b → a ≡ b
one_next used stem a b p q =
    p.form ∙ ap (numbered stem) same ∙ sym q.form
  where
    not_less : (m n : ℕ) → has_name used (numbered stem m) ≡ false → ((k : ℕ) → k < n → has_name used (numbered stem k) ≡ true) → m < n → ⊥
    not_less m n free least low = false≢true (sym free ∙ least m low)

    free_a : has_name used (numbered stem p.number) ≡ false
    free_a = ap (has_name used) (sym p.form) ∙ p.free

    free_b : has_name used (numbered stem q.number) ≡ false
    free_b = ap (has_name used) (sym q.form) ∙ q.free

    same : p.number ≡ q.number
    same =
        let up = not_less p.number q.number free_a q.least in
        let down = not_less q.number p.number free_b p.least in
        elim (cases_lt p.number q.number) [ inl less ↦ absurd (up less) | inr more ↦ elim (cases_lt q.number p.number) [ inl less ↦ absurd (down less) | inr back ↦ omega arith ] ]

-- there is one list of so many helpers
pub one_list : (used : List (List ℕ)) (stem : List ℕ) (xs ys : List (List ℕ)) → AreHelpers used stem xs → AreHelpers used stem ys → length xs ≡ length ys → xs ≡ ys
one_list used stem [] [] h k e = refl
one_list used stem [] (y ∷ ys) h k e = absurd (omega arith)
one_list used stem (x ∷ xs) [] h k e = absurd (omega arith)
one_list used stem (x ∷ xs) (y ∷ ys) h k e =
    let same = one_next used stem x y h.0 k.0 in
    ap (λ name. name ∷ xs) same
    ∙ ap (λ names. y ∷ names) (one_list (used ++ y ∷ []) stem xs ys (subst (λ name. AreHelpers (used ++ name ∷ []) stem xs) same h.1) k.1 (omega arith))

-- there is one naming of predicates
pub one_naming : (s : StateView) (names a b : List (List ℕ)) → NamesPredicates s names a → NamesPredicates s names b → a ≡ b
one_naming s names a b p q =
    p.whole ∙ ap (λ helpers. names ++ helpers) (one_list (used_names s.sig names) (codes "goal!") p.helpers q.helpers p.are_next q.are_next (p.count ∙ sym q.count)) ∙ sym q.whole
