-- A text to which a front of another one was added.
use Rattle.std.proofs.Common.{◌≡◌, ◌∙◌, sym, ap, refl, subst, ℕ, ◌+◌, ◌≤◌, ◌<◌, List, [], ◌∷◌, ◌++◌, length, get_or, drop, map, codes, Result, Ok, Err, OnErr, append_assoc, append-nil, length-append, arith}
use Rattle.std.proofs.lemmas.List.{drop_more}
use Rattle.chc_sexpr.specs.declared.tree.Tree.{Tree}
use Rattle.chc_sexpr.specs.Writing.{spaced, tree_text, AddsFront}

-- a fact holds where there is an error
pub on_err : {T E : Type 0} (P : Type 0) (r : Result T E) → P → OnErr r P
on_err P (Ok x) p = tt
on_err P (Err e) p = p

-- nothing was added
pub unchanged : (old text new : List ℕ) → new ≡ old → AddsFront text old new
unchanged old text new e = record { front = []; rest = text; whole = refl; added = e ∙ sym (append-nil old) }

-- a text that begins with the old one, and that can go on to all of the other
pub on_the_way : (old text rest new : List ℕ) → new ++ rest ≡ old ++ text → length old ≤ length new → AddsFront text old new
on_the_way [] text rest new e h = record { front = new; rest = rest; whole = sym e; added = refl }
on_the_way (o ∷ old) text rest [] e h = absurd (omega arith)
on_the_way (o ∷ old) text rest (n ∷ new) e h =
    let same : n ≡ o = cc in
    let way : new ++ rest ≡ old ++ text = cc in
    let a : AddsFront text old new = on_the_way old text rest new way (omega arith) in
    record { front = a.front; rest = a.rest; whole = a.whole; added = λ i. same i ∷ a.added i }

pub stayed : (old text rest mid new : List ℕ) → mid ++ rest ≡ old ++ text → length old ≤ length mid → new ≡ mid → AddsFront text old new
stayed old text rest mid new e h same = subst (AddsFront text old) (sym same) (on_the_way old text rest mid e h)

-- the same where a front of a next text was added behind a space
pub next_begun : (old text more next mid spaced_mid new : List ℕ) → mid ++ (codes " " ++ next ++ more) ≡ old ++ text → length old ≤ length mid → spaced_mid ≡ mid ++ 32 ∷ [] → AddsFront next spaced_mid new
    → AddsFront text old new
next_begun old text more next mid spaced_mid new e h s a =
    let is : new ≡ mid ++ 32 ∷ a.front = a.added ∙ ap (λ t. t ++ a.front) s ∙ append_assoc mid (32 ∷ []) a.front in
    let way : new ++ (a.rest ++ more) ≡ old ++ text =
    ap (λ t. t ++ (a.rest ++ more)) is ∙ append_assoc mid (32 ∷ a.front) (a.rest ++ more)
    ∙ ap (λ t. mid ++ 32 ∷ t) (sym (append_assoc a.front a.rest more) ∙ ap (λ t. t ++ more) (sym a.whole)) ∙ e in
    let long : length new ≡ length mid + length (32 ∷ a.front) = ap (λ t. length t) is ∙ length-append mid (32 ∷ a.front) in
    on_the_way old text (a.rest ++ more) new way (omega arith)

-- the text of the next of some trees, behind a space, and the texts of those after it
pub next_text : (trees : List Tree) (i : ℕ) (tree : Tree) → i < length trees → tree ≡ get_or trees i tree
    → spaced (map tree_text (drop i trees)) ≡ codes " " ++ tree_text tree ++ spaced (map tree_text (drop (i + 1) trees))
next_text trees i tree h is =
    ap (λ ts. spaced (map tree_text ts)) (drop_more trees i tree h) ∙ ap (λ t. codes " " ++ tree_text t ++ spaced (map tree_text (drop (i + 1) trees))) (sym is)
