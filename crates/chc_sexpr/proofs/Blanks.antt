-- White space and comments may be left out in front of trees.
use Rattle.std.proofs.Common.{◌≡◌, ℕ, ◌+◌, Bool, true, false, not, ◌&&◌, ◌||◌, eqb, List, [], ◌∷◌, ◌++◌, length, ap, sym, refl, subst, ◌∙◌, arith, append_assoc}
use Rattle.std.specs.List.{list_all}
use Rattle.std.proofs.lemmas.Bool.{and_parts, cond-false, false≢true, eqb-true, not-true}
use Rattle.chc_sexpr.specs.Tokens.{is_white, is_commented}
use Rattle.chc_sexpr.specs.Spelling.{is_blank_in, stops, EachSpelled, TreeSpelled}
use Rattle.chc_sexpr.specs.declared.tree.Tree.{Tree}
use Rattle.chc_sexpr.proofs.Heads.{IsTail, whole, closing, BeginsNone, white_begins_none, semicolon_begins_none, not_begun, not_empty}

-- trees side by side, in front of which a comment may be open
abbrev EachIn : Bool → Bool → List Tree → ℕ → List ℕ → Type 0
EachIn ends inside [] place bs = is_blank_in ends inside bs ≡ true
EachIn ends inside (x ∷ xs) place bs =
    (gap text after : List ℕ) × (bs ≡ gap ++ text ++ after) × (is_blank_in false inside gap ≡ true)
    × TreeSpelled x (place + length gap) text after × EachSpelled TreeSpelled ends xs (place + length gap + length text) after

from_each : (ends : Bool) (more : List Tree) (place : ℕ) (bs : List ℕ) → EachSpelled TreeSpelled ends more place bs → EachIn ends false more place bs
from_each ends [] place bs h = h
from_each ends (x ∷ xs) place bs h = h

to_each : (ends : Bool) (more : List Tree) (place : ℕ) (bs : List ℕ) → EachIn ends false more place bs → EachSpelled TreeSpelled ends more place bs
to_each ends [] place bs h = h
to_each ends (x ∷ xs) place bs h = h

-- a byte of a gap, before and behind which a comment is open or not
record Passes (b : ℕ) (before behind : Bool) : Type 0 where
  same : (ends : Bool) (bs : List ℕ) → is_blank_in ends before (b ∷ bs) ≡ is_blank_in ends behind bs
  begins : is_blank_in false before [] ≡ true → BeginsNone b

step_there : (b : ℕ) (before behind ends : Bool) → Passes b before behind → (more : List Tree) (place : ℕ) (bs : List ℕ) → EachIn ends before more place (b ∷ bs) → EachIn ends behind more (place + 1) bs
step_there b before behind ends p [] place bs h = sym (p.same ends bs) ∙ h
step_there b before behind ends p (x ∷ xs) place bs (([]), text, after, e, gap, spelled, each) =
    absurd (not_begun b (p.begins gap) x (place + length {A = ℕ} []) text after bs e spelled)
step_there b before behind ends p (x ∷ xs) place bs ((c ∷ cs), text, after, e, gap, spelled, each) =
    let first : c ≡ b = cc in
    let rest : bs ≡ cs ++ text ++ after = cc in
    let far : place + length (c ∷ cs) ≡ place + 1 + length cs = omega arith in (
      cs,
      text,
      after,
      rest,
      sym (p.same false cs) ∙ ap (λ d. is_blank_in false before (d ∷ cs)) (sym first) ∙ gap,
      subst (λ q. TreeSpelled x q text after) far spelled,
      subst (λ q. EachSpelled TreeSpelled ends xs (q + length text) after) far each,
    )

step_back : (b : ℕ) (before behind ends : Bool) → Passes b before behind → (more : List Tree) (place : ℕ) (bs : List ℕ) → EachIn ends behind more (place + 1) bs → EachIn ends before more place (b ∷ bs)
step_back b before behind ends p [] place bs h = p.same ends bs ∙ h
step_back b before behind ends p (x ∷ xs) place bs (gap, text, after, e, is, spelled, each) =
    let far : place + 1 + length gap ≡ place + length (b ∷ gap) = omega arith in (
      b ∷ gap,
      text,
      after,
      ap (λ r. b ∷ r) e,
      p.same false gap ∙ is,
      subst (λ q. TreeSpelled x q text after) far spelled,
      subst (λ q. EachSpelled TreeSpelled ends xs (q + length text) after) far each,
    )

-- white space, the sign of a comment, a comment's bytes, and its line feed
white_blank : (w c : Bool) (x y : Bool) → w ≡ true → c ≡ false → ((w && x) || (c && y)) ≡ x
white_blank true false true y e f = refl
white_blank true false false y e f = refl
white_blank true true x y e f = absurd (false≢true (sym f))
white_blank false c x y e f = absurd (false≢true e)

not_semicolon : (b : ℕ) → is_white b ≡ true → eqb b 59 ≡ false
not_semicolon b w = by_test (eqb b 59) refl
  where
    by_test : (t : Bool) → eqb b 59 ≡ t → t ≡ false
    by_test true e = absurd (false≢true (ap is_white (sym (eqb-true b 59 e)) ∙ w))
    by_test false e = refl

white_passes : (b : ℕ) → is_white b ≡ true → Passes b false false
white_passes b w = record {
  same = λ ends bs. white_blank (is_white b) (eqb b 59) (is_blank_in ends false bs) (is_blank_in ends true bs) w (not_semicolon b w);
  begins = λ e. white_begins_none b w;
}

semicolon_passes : Passes 59 false true
semicolon_passes = record { same = λ ends bs. refl; begins = λ e. semicolon_begins_none }

commented_passes : (b : ℕ) → is_commented b ≡ true → Passes b true true
commented_passes b c = record {
  same = λ ends bs. cond-false (eqb b 10) _ _ (not-true (eqb b 10) c);
  begins = λ e. absurd (false≢true e);
}

feed_passes : Passes 10 true false
feed_passes = record { same = λ ends bs. refl; begins = λ e. absurd (false≢true e) }

-- what stands in front of what ends trees side by side
pub record Side (ends : Bool) (tail : List ℕ) (place : ℕ) (bs : List ℕ) (more : List Tree) : Type 0 where
  pub inner : List ℕ
  pub whole : inner ++ tail ≡ bs
  pub each : EachSpelled TreeSpelled ends more place inner

record SideIn (ends : Bool) (tail : List ℕ) (place : ℕ) (bs : List ℕ) (more : List Tree) : Type 0 where
  inner : List ℕ
  whole : inner ++ tail ≡ bs
  each : EachIn ends true more place inner

-- white space
pub white_there : (ends : Bool) (tail : List ℕ) → IsTail ends tail → (b : ℕ) (bs : List ℕ) → is_white b ≡ true → (more : List Tree) (place : ℕ) → Side ends tail place (b ∷ bs) more → Side ends tail (place + 1) bs more
white_there ends tail is b bs w more place s = by_inner s.inner s.whole s.each
  where
    at_end : (e : Bool) (t : List ℕ) → IsTail e t → t ≡ b ∷ bs → ⊥
    at_end true [] whole q = cc
    at_end false (c ∷ after) (closing k) q = let d : 41 ≡ b = cc in false≢true (ap is_white d ∙ w)
    at_end false [] k q = elim k [ ]
    at_end true (c ∷ after) k q = elim k [ ]

    by_inner : (inner : List ℕ) → inner ++ tail ≡ b ∷ bs → EachSpelled TreeSpelled ends more place inner → Side ends tail (place + 1) bs more
    by_inner [] q h = absurd (at_end ends tail is q)
    by_inner (c ∷ cs) q h =
        let first : c ≡ b = cc in
        let rest : cs ++ tail ≡ bs = cc in
        record {
          inner = cs;
          whole = rest;
          each = to_each ends more (place + 1) cs (step_there c false false ends (white_passes c (ap is_white first ∙ w)) more place cs (from_each ends more place (c ∷ cs) h));
        }

pub white_back : (ends : Bool) (tail : List ℕ) (b : ℕ) (bs : List ℕ) → is_white b ≡ true → (more : List Tree) (place : ℕ) → Side ends tail (place + 1) bs more → Side ends tail place (b ∷ bs) more
white_back ends tail b bs w more place s = record {
  inner = b ∷ s.inner;
  whole = ap (λ r. b ∷ r) s.whole;
  each = to_each ends more place (b ∷ s.inner) (step_back b false false ends (white_passes b w) more place s.inner (from_each ends more (place + 1) s.inner s.each));
}

-- nothing can end in a comment but the whole text
ends_open : (ends : Bool) (tail : List ℕ) → IsTail ends tail → (more : List Tree) (place : ℕ) → EachIn ends true more place [] → (tail ≡ []) × (more ≡ [])
ends_open true [] whole [] place h = (refl, refl)
ends_open false (c ∷ after) (closing k) [] place h = absurd (false≢true h)
ends_open false [] is [] place h = elim is [ ]
ends_open true (c ∷ after) is [] place h = elim is [ ]
ends_open ends tail is (x ∷ xs) place (([]), text, after, e, gap, spelled, each) = absurd (false≢true gap)
ends_open ends tail is (x ∷ xs) place ((c ∷ cs), text, after, e, gap, spelled, each) = absurd cc

comment_byte : (ends : Bool) (tail : List ℕ) → IsTail ends tail → (b : ℕ) (bs : List ℕ) → is_commented b ≡ true → (more : List Tree) (place : ℕ) → SideIn ends tail place (b ∷ bs) more → SideIn ends tail (place + 1) bs more
comment_byte ends tail is b bs on more place s = by_inner s.inner s.whole s.each
  where
    by_inner : (inner : List ℕ) → inner ++ tail ≡ b ∷ bs → EachIn ends true more place inner → SideIn ends tail (place + 1) bs more
    by_inner [] q h = let none = ends_open ends tail is more place h in let bad = sym none.0 ∙ q in absurd cc
    by_inner (c ∷ cs) q h =
        let first : c ≡ b = cc in
        let rest : cs ++ tail ≡ bs = cc in
        record { inner = cs; whole = rest; each = step_there c true true ends (commented_passes c (ap is_commented first ∙ on)) more place cs h }

comment_there : (ends : Bool) (tail : List ℕ) → IsTail ends tail → (text bs : List ℕ) → list_all is_commented text ≡ true → (more : List Tree) (place : ℕ) → SideIn ends tail place (text ++ bs) more → SideIn ends tail (place + length text) bs more
comment_there ends tail is [] bs all more place s = let z : place ≡ place + length {A = ℕ} [] = omega arith in subst (λ p. SideIn ends tail p bs more) z s
comment_there ends tail is (b ∷ text) bs all more place s =
    let both = and_parts (is_commented b) (list_all is_commented text) all in
    let far : place + 1 + length text ≡ place + length (b ∷ text) = omega arith in
    subst (λ p. SideIn ends tail p bs more) far (comment_there ends tail is text bs both.1 more (place + 1) (comment_byte ends tail is b (text ++ bs) both.0 more place s))

comment_back : (ends : Bool) (text inner : List ℕ) → list_all is_commented text ≡ true → (more : List Tree) (place : ℕ) → EachIn ends true more (place + length text) inner → EachIn ends true more place (text ++ inner)
comment_back ends [] inner all more place h = let z : place + length {A = ℕ} [] ≡ place = omega arith in subst (λ p. EachIn ends true more p inner) z h
comment_back ends (b ∷ text) inner all more place h =
    let both = and_parts (is_commented b) (list_all is_commented text) all in
    let far : place + length (b ∷ text) ≡ place + 1 + length text = omega arith in
    step_back b true true ends (commented_passes b both.0) more place (text ++ inner) (comment_back ends text inner both.1 more (place + 1) (subst (λ p. EachIn ends true more p inner) far h))

feed_is : (b : ℕ) → not (is_commented b) ≡ true → b ≡ 10
feed_is b h = by_test (eqb b 10) refl
  where
    by_test : (t : Bool) → eqb b 10 ≡ t → b ≡ 10
    by_test true e = eqb-true b 10 e
    by_test false e = absurd (false≢true (sym (ap (λ u. not (not u)) e) ∙ h))

-- in front of a line feed, and at the end of the text, a comment is as good as none
feed_there : (ends : Bool) (tail : List ℕ) → IsTail ends tail → (bs : List ℕ) → stops is_commented bs ≡ true → (more : List Tree) (place : ℕ) → SideIn ends tail place bs more → Side ends tail place bs more
feed_there ends tail is bs stop more place s = by_inner s.inner s.whole s.each
  where
    by_inner : (inner : List ℕ) → inner ++ tail ≡ bs → EachIn ends true more place inner → Side ends tail place bs more
    by_inner [] q h =
        let none = ends_open ends tail is more place h in
        record { inner = []; whole = q; each = subst (λ m. EachSpelled TreeSpelled ends m place []) (sym none.1) refl }
    by_inner (c ∷ cs) q h =
        let ten : c ≡ 10 = feed_is c (ap (stops is_commented) q ∙ stop) in
        let h10 : EachIn ends true more place (10 ∷ cs) = subst (λ d. EachIn ends true more place (d ∷ cs)) ten h in
        record {
          inner = 10 ∷ cs;
          whole = ap (λ d. d ∷ (cs ++ tail)) (sym ten) ∙ q;
          each = to_each ends more place (10 ∷ cs) (step_back 10 false false ends (white_passes 10 refl) more place cs (step_there 10 true false ends feed_passes more place cs h10));
        }

feed_back : (ends : Bool) (tail : List ℕ) → IsTail ends tail → (bs : List ℕ) → stops is_commented bs ≡ true → (more : List Tree) (place : ℕ) → Side ends tail place bs more → SideIn ends tail place bs more
feed_back ends tail is bs stop more place s = by_inner s.inner s.whole s.each
  where
    at_end : (e : Bool) (t : List ℕ) → IsTail e t → stops is_commented t ≡ true → e ≡ true
    at_end true [] whole q = refl
    at_end false (c ∷ after) (closing k) q = ap (λ d. not (is_commented d)) (sym k) ∙ q
    at_end false [] k q = elim k [ ]
    at_end true (c ∷ after) k q = elim k [ ]

    nothing : (m : List Tree) → EachSpelled TreeSpelled ends m place [] → ends ≡ true → EachIn ends true m place []
    nothing [] h e = e
    nothing (x ∷ xs) (([]), text, after, q, gap, spelled, each) e = absurd (not_empty x (place + length {A = ℕ} []) text after q spelled)
    nothing (x ∷ xs) ((c ∷ cs), text, after, q, gap, spelled, each) e = absurd cc

    by_inner : (inner : List ℕ) → inner ++ tail ≡ bs → EachSpelled TreeSpelled ends more place inner → SideIn ends tail place bs more
    by_inner [] q h = record { inner = []; whole = q; each = nothing more h (at_end ends tail is (ap (stops is_commented) q ∙ stop)) }
    by_inner (c ∷ cs) q h =
        let ten : c ≡ 10 = feed_is c (ap (stops is_commented) q ∙ stop) in
        let h10 : EachIn ends false more place (10 ∷ cs) = subst (λ d. EachIn ends false more place (d ∷ cs)) ten (from_each ends more place (c ∷ cs) h) in
        record {
          inner = 10 ∷ cs;
          whole = ap (λ d. d ∷ (cs ++ tail)) (sym ten) ∙ q;
          each = step_back 10 true false ends feed_passes more place cs (step_there 10 false false ends (white_passes 10 refl) more place cs h10);
        }

-- a comment, up to its line feed or the end of the text
pub comment_left : (ends : Bool) (tail : List ℕ) → IsTail ends tail → (text bs : List ℕ) → list_all is_commented text ≡ true → stops is_commented bs ≡ true → (more : List Tree) (place : ℕ) →
    Side ends tail place (59 ∷ (text ++ bs)) more → Side ends tail (place + 1 + length text) bs more
comment_left ends tail is text bs all stop more place s = by_inner s.inner s.whole s.each
  where
    at_end : (e : Bool) (t : List ℕ) → IsTail e t → t ≡ 59 ∷ (text ++ bs) → ⊥
    at_end true [] whole q = cc
    at_end false (c ∷ after) (closing k) q = let d : c ≡ 59 = cc in omega arith
    at_end false [] k q = elim k [ ]
    at_end true (c ∷ after) k q = elim k [ ]

    by_inner : (inner : List ℕ) → inner ++ tail ≡ 59 ∷ (text ++ bs) → EachSpelled TreeSpelled ends more place inner → Side ends tail (place + 1 + length text) bs more
    by_inner [] q h = absurd (at_end ends tail is q)
    by_inner (c ∷ cs) q h =
        let first : c ≡ 59 = cc in
        let rest : cs ++ tail ≡ text ++ bs = cc in
        let h59 : EachIn ends false more place (59 ∷ cs) = subst (λ d. EachIn ends false more place (d ∷ cs)) first (from_each ends more place (c ∷ cs) h) in
        feed_there ends tail is bs stop more (place + 1 + length text) (comment_there ends tail is text bs all more (place + 1) (record {
          inner = cs;
          whole = rest;
          each = step_there 59 false true ends semicolon_passes more place cs h59;
        }))

pub comment_put : (ends : Bool) (tail : List ℕ) → IsTail ends tail → (text bs : List ℕ) → list_all is_commented text ≡ true → stops is_commented bs ≡ true → (more : List Tree) (place : ℕ) →
    Side ends tail (place + 1 + length text) bs more → Side ends tail place (59 ∷ (text ++ bs)) more
comment_put ends tail is text bs all stop more place s =
    let f = feed_back ends tail is bs stop more (place + 1 + length text) s in
    record {
      inner = 59 ∷ (text ++ f.inner);
      whole = ap (λ r. 59 ∷ r) (append_assoc text f.inner tail ∙ ap (λ r. text ++ r) f.whole);
      each = to_each ends more place (59 ∷ (text ++ f.inner)) (step_back 59 false true ends semicolon_passes more place (text ++ f.inner) (comment_back ends text f.inner all more (place + 1) f.each));
    }
