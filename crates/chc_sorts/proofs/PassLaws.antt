-- Checks of items one after the other.
use Rattle.std.proofs.Common.{◌≡◌, ◌<◌, ◌+◌, ℕ, List, [], ◌∷◌, ◌++◌, length, take, drop, get_or, Option, Some, None, Result, Ok, Err, subst, refl, sym, ap, ◌∙◌, arith, drop-cons, suc}
use Rattle.std.specs.Prelude.{⊤}
use Rattle.std.proofs.lemmas.List.{take_more}
use Rattle.std.specs.Option.{option_or}
use Rattle.chc_sorts.specs.declared.refusal.SigErr.{SigErr}
use Rattle.chc_sorts.specs.declared.refusal.SigErr.TheVariants as refusal
use Rattle.chc_sorts.specs.Checks.{Checks, Passes}

-- the items from the i-th on: the i-th, and those behind it
pub drop_here : {X : Type 0} (xs : List X) (i : ℕ) (x : X) → i < length xs → x ≡ get_or xs i x → drop i xs ≡ x ∷ drop (i + 1) xs
drop_here xs i x within e = drop-cons xs i x within ∙ ap (λ y. y ∷ drop (suc i) xs) (sym e) ∙ ap (λ n. x ∷ drop n xs) next
  where
    next : suc i ≡ i + 1
    next = omega arith

rejoined : {X : Type 0} (xs ys zs : List X) → (xs ++ ys) ++ zs ≡ xs ++ (ys ++ zs)
rejoined [] ys zs = refl
rejoined (x ∷ xs) ys zs = ap (λ l. x ∷ l) (rejoined xs ys zs)

append-nil : {X : Type 0} (xs : List X) → xs ++ [] ≡ xs
append-nil [] = refl
append-nil (x ∷ xs) = ap (λ l. x ∷ l) (append-nil xs)

module _ {S X : Type 0} (found : S → List X → Option SigErr) where
  -- what is found from one state in some items is what is found from another in others
  pub record Leads (a : S) (xs : List X) (b : S) (ys : List X) : Type 0 where
    pub same : (more : List X) → found a (xs ++ more) ≡ found b (ys ++ more)

  pub leads_start : (a : S) (xs : List X) → Leads a xs a xs
  leads_start a xs = record { same = λ more. refl }

  pub leads_on : (a : S) (xs : List X) (b c : S) (ys zs rest : List X) (done : ⊤) → Leads a xs b zs → zs ≡ ys ++ rest → Passes found b ys (Ok done) c → Leads a xs c rest
  leads_on a xs b c ys zs rest done l e p = record { same = λ more. l.same more ∙ ap (λ (items : List X). found b (items ++ more)) e ∙ ap (found b) (rejoined ys rest more) ∙ p (rest ++ more) }

  pub passes_ok : (a : S) (xs : List X) (b : S) (done : ⊤) → Leads a xs b [] → Passes found a xs (Ok done) b
  passes_ok a xs b done l = λ more. l.same more

  pub passes_err : (a : S) (xs : List X) (b c d : S) (ys zs rest : List X) (e : SigErr) → Leads a xs b zs → zs ≡ ys ++ rest → Passes found b ys (Err e) c → Passes found a xs (Err e) d
  passes_err a xs b c d ys zs rest e l q p = by e p
    where
      at_more : (fault : Option SigErr) → ((more : List X) → found b (ys ++ more) ≡ fault) → (more : List X) → found a (xs ++ more) ≡ fault
      at_more fault h more = l.same more ∙ ap (λ (items : List X). found b (items ++ more)) q ∙ ap (found b) (rejoined ys rest more) ∙ h (rest ++ more)

      by : (f : SigErr) → Passes found b ys (Err f) c → Passes found a xs (Err f) d
      by (refusal.NameTaken name) h = at_more (Some (refusal.NameTaken name)) h
      by (refusal.UnknownSort name) h = at_more (Some (refusal.UnknownSort name)) h
      by refusal.ArrayIndex h = h
      by refusal.SortTooDeep h = h
      by (refusal.TooMany l) h = h
      by (refusal.NotWellFounded name) h = h
      by refusal.NoMemory h = h

  -- a refusal of all items is what is found in them
  pub checks_err : (a : S) (xs : List X) (b : S) (e : SigErr) → Passes found a xs (Err e) b → Checks (Err e) (found a xs)
  checks_err a xs b e p = by e p
    where
      whole : (fault : Option SigErr) → ((more : List X) → found a (xs ++ more) ≡ fault) → found a xs ≡ fault
      whole fault h = ap (found a) (sym (append-nil xs)) ∙ h []

      by : (f : SigErr) → Passes found a xs (Err f) b → Checks (Err f) (found a xs)
      by (refusal.NameTaken name) h = whole (Some (refusal.NameTaken name)) h
      by (refusal.UnknownSort name) h = whole (Some (refusal.UnknownSort name)) h
      by refusal.ArrayIndex h = absurd h
      by refusal.SortTooDeep h = absurd h
      by (refusal.TooMany l) h = absurd h
      by (refusal.NotWellFounded name) h = h
      by refusal.NoMemory h = h

  -- what is found in all items is what is found behind them
  pub found_behind : (a : S) (xs : List X) (b : S) (done : ⊤) → Passes found a xs (Ok done) b → found a xs ≡ found b []
  found_behind a xs b done p = ap (found a) (sym (append-nil xs)) ∙ p []

-- a refusal by the first check is that of both
pub checks_first : (e : SigErr) (a b : Option SigErr) → Checks (Err e) a → Checks (Err e) (option_or a b)
checks_first (refusal.NameTaken name) a b h = ap (λ (o : Option SigErr). option_or o b) h
checks_first (refusal.UnknownSort name) a b h = ap (λ (o : Option SigErr). option_or o b) h
checks_first refusal.ArrayIndex a b h = ap (λ (o : Option SigErr). option_or o b) h
checks_first refusal.SortTooDeep a b h = ap (λ (o : Option SigErr). option_or o b) h
checks_first (refusal.TooMany l) a b h = ap (λ (o : Option SigErr). option_or o b) h
checks_first (refusal.NotWellFounded name) a b h = h
checks_first refusal.NoMemory a b h = h

-- after a check that finds nothing the next one decides
pub checks_next : (r : Result ⊤ SigErr) (a b : Option SigErr) → a ≡ None → Checks r b → Checks r (option_or a b)
checks_next r a b e h = subst (λ (o : Option SigErr). Checks r (option_or o b)) (sym e) h

-- the items before the i-th, and it
pub take_here : {X : Type 0} (xs : List X) (i : ℕ) (x : X) → i < length xs → x ≡ get_or xs i x → take (i + 1) xs ≡ take i xs ++ x ∷ []
take_here xs i x within e = take_more xs i x within ∙ ap (λ y. take i xs ++ y ∷ []) (sym e)
