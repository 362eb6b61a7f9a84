-- Retiring predicates one after the other.
use Rattle.std.proofs.Common.{◌≡◌, ℕ, ◌+◌, ◌<◌, Bool, not, ◌&&◌, List, [], ◌∷◌, ◌++◌, length, take, drop, get_or, set, sym, ap, ◌∙◌, arith, append_assoc, add-zero}
use Rattle.std.proofs.lemmas.List.{drop_more, take_more, set_at, get_or_at, length-take-le}
use Rattle.chc_state.specs.declared.clause.PredDecl.{PredDecl}
use Rattle.chc_state.specs.PredSets.{PredSet, retired}
use Rattle.chc_state.proofs.Retired.{length-retired}

-- the predicate of number n, no longer live if it is in the set
abbrev retired_one : PredSet → ℕ → PredDecl → PredDecl
retired_one set n d = record { sorts = d.sorts; live = d.live && not (set n) }

retired_push : (gone : PredSet) (n : ℕ) (ds : List PredDecl) (d : PredDecl) → retired gone n (ds ++ d ∷ []) ≡ retired gone n ds ++ retired_one gone (n + length ds) d ∷ []
retired_push gone n [] d = ap (λ k. retired_one gone k d ∷ []) (sym (add-zero n))
retired_push gone n (e ∷ ds) d =
    let k : n + 1 + length ds ≡ n + length (e ∷ ds) = omega arith in
    ap (λ xs. retired_one gone n e ∷ xs) (retired_push gone (n + 1) ds d ∙ ap (λ j. retired gone (n + 1) ds ++ retired_one gone j d ∷ []) k)

-- one step of a loop that goes over the predicates
pub retired_more : (gone : PredSet) (old items : List PredDecl) (i : ℕ) (d m : PredDecl) (live : Bool) → i < length old
    → items ≡ retired gone 0 (take i old) ++ drop i old → d ≡ get_or items i d → m ≡ get_or items i m → live ≡ (d.live && not (gone i))
    → set items i (record { sorts = m.sorts; live = live }) ≡ retired gone 0 (take (i + 1) old) ++ drop (i + 1) old
retired_more gone old items i d m live inside is d_is m_is live_is =
    let x = get_or old i d in
    let front = retired gone 0 (take i old) in
    let n : length (take i old) ≡ i = length-take-le i old (omega arith) in
    let long : length front ≡ i = length-retired gone 0 (take i old) ∙ n in
    let split : items ≡ front ++ x ∷ drop (i + 1) old = is ∙ ap (λ r. front ++ r) (drop_more old i d inside) in
    let d_x : d ≡ x = d_is ∙ ap (λ r. get_or r i d) split ∙ get_or_at front x (drop (i + 1) old) d i long in
    let m_x : m ≡ x = m_is ∙ ap (λ r. get_or r i m) split ∙ get_or_at front x (drop (i + 1) old) m i long in
    let k : 0 + length (take i old) ≡ i = omega (arith, n) in
    let new : PredDecl = record { sorts = m.sorts; live = live } in
    let one : new ≡ retired_one gone i x = one_is m d x live (gone i) m_x d_x live_is in
    ap (λ r. set r i new) split
    ∙ set_at front x (drop (i + 1) old) new i long
    ∙ ap (λ y. front ++ y ∷ drop (i + 1) old) one
    ∙ sym (append_assoc front (retired_one gone i x ∷ []) (drop (i + 1) old))
    ∙ ap (λ r. r ++ drop (i + 1) old) (sym (ap (retired gone 0) (take_more old i d inside) ∙ retired_push gone 0 (take i old) x ∙ ap (λ j. front ++ retired_one gone j x ∷ []) k))
  where
    one_is : (m d x : PredDecl) (live gone : Bool) → m ≡ x → d ≡ x → live ≡ (d.live && not gone) → ◌≡◌ {A = PredDecl} (record { sorts = m.sorts; live = live }) (record { sorts = x.sorts; live = x.live && not gone })
    one_is m d x live gone m_x d_x e = cc
