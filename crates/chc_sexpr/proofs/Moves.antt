-- How what is completed moves on over a part of the text.
use Rattle.std.proofs.Common.{◌≡◌, ℕ, suc, ◌+◌, ◌≤◌, Bool, true, false, List, [], ◌∷◌, ◌++◌, length, take, drop, Ok, Err, ap, sym, refl, subst, ◌∙◌, arith, append_assoc, append-nil, length-append, length-drop}
use Rattle.std.specs.List.{prefix_len}
use Rattle.std.proofs.lemmas.Bool.{false_from_ne_true, ne_eqb}
use Rattle.std.proofs.lemmas.List.{take-append-drop, drop_at, length-take-le}
use Rattle.std.proofs.lemmas.List.Sums.{prefix_len-le-length}
use Rattle.std.proofs.lemmas.List.Folds.{length-prefix_len}
use Rattle.chc_sexpr.specs.Tokens.{is_white, is_commented}
use Rattle.chc_sexpr.specs.Spelling.{is_gap, EachSpelled, TreeSpelled}
use Rattle.chc_sexpr.specs.Scanning.{token_at}
use Rattle.chc_sexpr.specs.Drafts.{Completes}
use Rattle.chc_sexpr.specs.declared.draft.OpenGroup.{OpenGroup}
use Rattle.chc_sexpr.specs.declared.fault.TextFault.{TextFault}
use Rattle.chc_sexpr.specs.declared.token.Token.{Token}
use Rattle.chc_sexpr.specs.declared.tree.Tree.{Tree}
use Rattle.chc_sexpr.specs.declared.tree.Tree.TheVariants.{Group}
use Rattle.chc_sexpr.proofs.Blanks.{Side, white_there, white_back, comment_left, comment_put}
use Rattle.chc_sexpr.proofs.Heads.{IsTail, whole, closing, shorter, white_begins_none, semicolon_begins_none, close_begins_none, not_begun, not_empty, IsSolid, solid_is_no_blank, Head, head}
use Rattle.chc_sexpr.proofs.Runs.{run_all, run_stops}
use Rattle.chc_sexpr.proofs.Scans.{IsGroupText, Reads, as_token, as_group, reads}
use Rattle.chc_sexpr.proofs.Spelled.{spelled-Group, shut}
use Rattle.chc_sexpr.proofs.Stands.{stands}

-- what follows the trees of the innermost group, where it is open: its `)`, and what completes the groups around it
abbrev Onward : List OpenGroup → List Tree → ℕ → List ℕ → List Tree → Type 0
Onward [] trees end tail all = (tail ≡ []) × (all ≡ trees)
Onward (g ∷ gs) trees end tail all = (after : List ℕ) × (tail ≡ 41 ∷ after) × Completes gs (g.before ++ Group g.place trees ∷ []) (end + 1) after all

-- what completes a text, cut at the end of the innermost group
record Cut (gs : List OpenGroup) (trees : List Tree) (place : ℕ) (bs : List ℕ) (all : List Tree) : Type 0 where
  ends : Bool
  tail : List ℕ
  is : IsTail ends tail
  more : List Tree
  side : Side ends tail place bs more
  onward : Onward gs (trees ++ more) (place + length side.inner) tail all

cut : (gs : List OpenGroup) (trees : List Tree) (place : ℕ) (bs : List ℕ) (all : List Tree) → Completes gs trees place bs all → Cut gs trees place bs all
cut [] trees place bs all (more, e, each) = record {
  ends = true;
  tail = [];
  is = whole;
  more = more;
  side = record { inner = bs; whole = append-nil bs; each = each };
  onward = (refl, e);
}
cut (g ∷ gs) trees place bs all (more, inner, after, e, each, then) = record {
  ends = false;
  tail = 41 ∷ after;
  is = closing refl;
  more = more;
  side = record { inner = inner; whole = sym e; each = each };
  onward = (after, refl, then);
}

tail_ends : (ends : Bool) (tail : List ℕ) → IsTail ends tail → tail ≡ [] → ends ≡ true
tail_ends true [] is e = refl
tail_ends false [] is e = elim is [ ]
tail_ends ends (c ∷ cs) is e = absurd cc

tail_closes : (ends : Bool) (tail after : List ℕ) → IsTail ends tail → tail ≡ 41 ∷ after → ends ≡ false
tail_closes ends [] after is e = absurd cc
tail_closes true (c ∷ cs) after is e = elim is [ ]
tail_closes false (c ∷ cs) after is e = refl

join : (gs : List OpenGroup) (trees : List Tree) (place : ℕ) (bs : List ℕ) (all : List Tree) → Cut gs trees place bs all → Completes gs trees place bs all
join [] trees place bs all c =
    let inner_is : c.side.inner ≡ bs = sym (append-nil c.side.inner) ∙ ap (λ t. c.side.inner ++ t) (sym c.onward.0) ∙ c.side.whole in
    let e = tail_ends c.ends c.tail c.is c.onward.0 in
    (c.more, c.onward.1, subst (λ x. EachSpelled TreeSpelled true c.more place x) inner_is (subst (λ k. EachSpelled TreeSpelled k c.more place c.side.inner) e c.side.each))
join (g ∷ gs) trees place bs all c =
    let e = tail_closes c.ends c.tail c.onward.0 c.is c.onward.1 in
    (c.more, c.side.inner, c.onward.0, sym c.side.whole ∙ ap (λ t. c.side.inner ++ t) c.onward.1, subst (λ k. EachSpelled TreeSpelled k c.more place c.side.inner) e c.side.each, c.onward.2)

onward_same : (gs : List OpenGroup) (xs ys : List Tree) (m n : ℕ) (tail : List ℕ) (all : List Tree) → xs ≡ ys → m ≡ n → Onward gs xs m tail all → Onward gs ys n tail all
onward_same gs xs ys m n tail all e f h = subst (λ k. Onward gs ys k tail all) f (subst (λ ts. Onward gs ts m tail all) e h)

-- trees that begin with the new ones
pub record Moved (ends : Bool) (tail : List ℕ) (place : ℕ) (bs : List ℕ) (new more : List Tree) : Type 0 where
  pub rest : List Tree
  pub is : more ≡ new ++ rest
  pub side : Side ends tail place bs rest

-- n bytes of a text are the new trees, whatever stands around them
pub record Moves (place n : ℕ) (bs : List ℕ) (new : List Tree) : Type 0 where
  pub within : n ≤ length bs
  pub there : (ends : Bool) (tail : List ℕ) → IsTail ends tail → (more : List Tree) → Side ends tail place bs more → Moved ends tail (place + n) (drop n bs) new more
  pub back : (ends : Bool) (tail : List ℕ) → IsTail ends tail → (more : List Tree) → Side ends tail (place + n) (drop n bs) more → Side ends tail place bs (new ++ more)

same_end : (place n : ℕ) (bs : List ℕ) → n ≤ length bs → (before behind tail : List ℕ) → before ++ tail ≡ bs → behind ++ tail ≡ drop n bs → place + length before ≡ place + n + length behind
same_end place n bs within before behind tail e f =
    omega (arith, length-append before tail, ap length e, length-append behind tail, ap length f, length-drop n bs)

-- what is completed moves on with them, and back
pub completes_there : (place n : ℕ) (bs : List ℕ) (new : List Tree) → Moves place n bs new → (gs : List OpenGroup) (trees all : List Tree) → Completes gs trees place bs all → Completes gs (trees ++ new) (place + n) (drop n bs) all
completes_there place n bs new m gs trees all h =
    let c = cut gs trees place bs all h in
    let moved = m.there c.ends c.tail c.is c.more c.side in
    let trees_same : trees ++ c.more ≡ (trees ++ new) ++ moved.rest = ap (λ ts. trees ++ ts) moved.is ∙ sym (append_assoc trees new moved.rest) in
    join gs (trees ++ new) (place + n) (drop n bs) all (record {
      ends = c.ends;
      tail = c.tail;
      is = c.is;
      more = moved.rest;
      side = moved.side;
      onward = onward_same gs (trees ++ c.more) ((trees ++ new) ++ moved.rest) (place + length c.side.inner) (place + n + length moved.side.inner) c.tail all trees_same
          (same_end place n bs m.within c.side.inner moved.side.inner c.tail c.side.whole moved.side.whole) c.onward;
    })

pub completes_back : (place n : ℕ) (bs : List ℕ) (new : List Tree) → Moves place n bs new → (gs : List OpenGroup) (trees all : List Tree) → Completes gs (trees ++ new) (place + n) (drop n bs) all → Completes gs trees place bs all
completes_back place n bs new m gs trees all h =
    let c = cut gs (trees ++ new) (place + n) (drop n bs) all h in
    let side = m.back c.ends c.tail c.is c.more c.side in
    join gs trees place bs all (record {
      ends = c.ends;
      tail = c.tail;
      is = c.is;
      more = new ++ c.more;
      side = side;
      onward = onward_same gs ((trees ++ new) ++ c.more) (trees ++ (new ++ c.more)) (place + n + length c.side.inner) (place + length side.inner) c.tail all (append_assoc trees new c.more)
          (sym (same_end place n bs m.within side.inner c.side.inner c.tail side.whole c.side.whole)) c.onward;
    })

-- white space
pub white_moves : (place b : ℕ) (bs : List ℕ) → is_white b ≡ true → Moves place 1 (b ∷ bs) []
white_moves place b bs w = record {
  within = omega arith;
  there = λ ends tail is more s. record { rest = more; is = refl; side = white_there ends tail is b bs w more place s };
  back = λ ends tail is more s. white_back ends tail b bs w more place s;
}

-- a comment
pub comment_moves : (place : ℕ) (bs : List ℕ) → Moves place (1 + prefix_len is_commented bs) (59 ∷ bs) []
comment_moves place bs =
    let n : ℕ = prefix_len is_commented bs in
    let text = take n bs in
    let rest = drop n bs in
    let parts : text ++ rest ≡ bs = take-append-drop n bs in
    let size : length text ≡ n = length-prefix_len is_commented bs in
    let far : place + 1 + length text ≡ place + (1 + n) = omega arith in
    let s : 1 + n ≡ suc n = omega arith in
    let behind : rest ≡ drop (1 + n) (59 ∷ bs) = ap (λ k. drop k (59 ∷ bs)) (sym s) in
    record {
      within = omega (arith, prefix_len-le-length is_commented bs);
      there = λ ends tail is more side.
          let open_side : Side ends tail place (59 ∷ (text ++ rest)) more = subst (λ r. Side ends tail place (59 ∷ r) more) (sym parts) side in
          let moved = comment_left ends tail is text rest (run_all is_commented bs) (run_stops is_commented bs) more place open_side in
          record { rest = more; is = refl; side = subst (λ r. Side ends tail (place + (1 + n)) r more) behind (subst (λ p. Side ends tail p rest more) far moved) };
      back = λ ends tail is more side.
          let near : Side ends tail (place + 1 + length text) rest more = subst (λ p. Side ends tail p rest more) (sym far) (subst (λ r. Side ends tail (place + (1 + n)) r more) (sym behind) side) in
          subst (λ r. Side ends tail place (59 ∷ r) more) parts (comment_put ends tail is text rest (run_all is_commented bs) (run_stops is_commented bs) more place near);
    }

-- with what a token may begin
pub record IsStart (b : ℕ) : Type 0 where
  pub solid : IsSolid b
  pub close : b ≡ 41 → ⊥

pub token_start : (place b : ℕ) (bs : List ℕ) (t : Token) → token_at place (b ∷ bs) ≡ Ok t → IsStart b
token_start place b bs t e = record {
  solid = record {
    white = false_from_ne_true (is_white b) (λ w. (white_begins_none b w).token place bs t e);
    comment = ne_eqb b 59 (λ f. semicolon_begins_none.token place bs t (ap (λ c. token_at place (c ∷ bs)) (sym f) ∙ e));
  };
  close = λ f. close_begins_none.token place bs t (ap (λ c. token_at place (c ∷ bs)) (sym f) ∙ e);
}

-- no token begins with a `(`
open_is_no_token : (place : ℕ) (bs : List ℕ) (t : Token) → token_at place (40 ∷ bs) ≡ Ok t → ⊥
open_is_no_token place bs t e = cc

-- the first tree where a token may begin is the token that is read there
head_token : (ends : Bool) (tail : List ℕ) (place b : ℕ) (bs : List ℕ) (more : List Tree) → (b ≡ 40 → ⊥) → (h : Head ends tail (b ∷ bs) place more) → token_at place (b ∷ bs) ≡ Ok (record { tree = h.tree; length = length h.text })
head_token ends tail place b bs more apart h = by_read (reads h.tree place h.text (h.after ++ tail) h.spelled)
  where
    by_read : Reads h.tree place h.text (h.after ++ tail) → token_at place (b ∷ bs) ≡ Ok (record { tree = h.tree; length = length h.text })
    by_read (as_token r) = ap (token_at place) h.whole ∙ r
    by_read (as_group g) = absurd (apart (let w = h.whole ∙ ap (λ t. t ++ (h.after ++ tail)) g.whole in cc))

token_there : (place b : ℕ) (bs : List ℕ) (t : Token) → token_at place (b ∷ bs) ≡ Ok t → (ends : Bool) (tail : List ℕ) → IsTail ends tail → (more : List Tree) → Side ends tail place (b ∷ bs) more → Moved ends tail (place + t.length) (drop t.length (b ∷ bs)) (t.tree ∷ []) more
token_there place b bs t e ends tail is more s =
    let start = token_start place b bs t e in
    let apart : b ≡ 40 → ⊥ = λ f. open_is_no_token place bs t (ap (λ c. token_at place (c ∷ bs)) (sym f) ∙ e) in
    let h = head ends tail is b bs s.inner start.solid start.close s.whole more place s.each in
    let found : Ok (record { tree = h.tree; length = length h.text }) ≡ Ok t = sym (head_token ends tail place b bs more apart h) ∙ e in
    let same : record { tree = h.tree; length = length h.text } ≡ t = cc in
    let size : length h.text ≡ t.length = ap (λ (u : Token). u.length) same in
    let tree_is : h.tree ≡ t.tree = ap (λ (u : Token). u.tree) same in
    record {
      rest = h.rest;
      is = h.is ∙ ap (λ x. x ∷ h.rest) tree_is;
      side = record {
        inner = h.after;
        whole = sym (ap (drop t.length) h.whole ∙ drop_at h.text (h.after ++ tail) t.length size);
        each = subst (λ k. EachSpelled TreeSpelled ends h.rest (place + k) h.after) size h.each;
      };
    }

token_back : (place : ℕ) (bs : List ℕ) (t : Token) → token_at place bs ≡ Ok t → (ends : Bool) (tail : List ℕ) → IsTail ends tail → (more : List Tree) → Side ends tail (place + t.length) (drop t.length bs) more → Side ends tail place bs (t.tree ∷ more)
token_back place bs t e ends tail is more s =
    let st = stands place bs t e in
    let text = take t.length bs in
    let z : place ≡ place + length {A = ℕ} [] = omega arith in
    let size : length text ≡ t.length = length-take-le t.length bs st.within in
    let far : place + t.length ≡ place + length {A = ℕ} [] + length text = omega arith in
    let spelled = shorter ends tail is t.tree place text s.inner (subst (λ r. TreeSpelled t.tree place text r) (sym s.whole) st.spelled) in
    record {
      inner = text ++ s.inner;
      whole = append_assoc text s.inner tail ∙ ap (λ r. text ++ r) s.whole ∙ take-append-drop t.length bs;
      each = ([], text, s.inner, refl, refl, subst (λ p. TreeSpelled t.tree p text s.inner) z spelled, subst (λ p. EachSpelled TreeSpelled ends more p s.inner) far s.each);
    }

-- a token
pub token_moves : (place : ℕ) (bs : List ℕ) (t : Token) → token_at place bs ≡ Ok t → Moves place t.length bs (t.tree ∷ [])
token_moves place [] t e = absurd cc
token_moves place (b ∷ bs) t e = record {
  within = (stands place (b ∷ bs) t e).within;
  there = token_there place b bs t e;
  back = token_back place (b ∷ bs) t e;
}

-- nothing is completed where no token stands, and no group begins
pub completes_none : (place b : ℕ) (bs : List ℕ) (fault : TextFault) → token_at place (b ∷ bs) ≡ Err fault → IsStart b → (b ≡ 40 → ⊥) → (gs : List OpenGroup) (trees all : List Tree) → Completes gs trees place (b ∷ bs) all → ⊥
completes_none place b bs fault e start apart gs trees all h =
    let c = cut gs trees place (b ∷ bs) all h in
    let first = head c.ends c.tail c.is b bs c.side.inner start.solid start.close c.side.whole c.more place c.side.each in
    let found = head_token c.ends c.tail place b bs c.more apart first in
    let bad = sym e ∙ found in cc

-- a `(`
open_solid : IsSolid 40
open_solid = record { white = refl; comment = refl }

head_group : (ends : Bool) (tail : List ℕ) (place : ℕ) (bs : List ℕ) (more : List Tree) (h : Head ends tail (40 ∷ bs) place more) → IsGroupText h.tree place h.text
head_group ends tail place bs more h = by_read (reads h.tree place h.text (h.after ++ tail) h.spelled)
  where
    by_read : Reads h.tree place h.text (h.after ++ tail) → IsGroupText h.tree place h.text
    by_read (as_token r) = absurd (open_is_no_token place bs _ (ap (token_at place) h.whole ∙ r))
    by_read (as_group g) = g

pub open_there : (place : ℕ) (bs : List ℕ) (gs : List OpenGroup) (trees all : List Tree) → Completes gs trees place (40 ∷ bs) all → Completes (record { place = place; before = trees } ∷ gs) [] (place + 1) bs all
open_there place bs gs trees all h =
    let c = cut gs trees place (40 ∷ bs) all h in
    let first = head c.ends c.tail c.is 40 bs c.side.inner open_solid (λ e. omega arith) c.side.whole c.more place c.side.each in
    let g = head_group c.ends c.tail place bs c.more first in
    let parts : 40 ∷ bs ≡ 40 ∷ (g.inner ++ 41 ∷ (first.after ++ c.tail)) = first.whole ∙ ap (λ t. t ++ (first.after ++ c.tail)) g.whole ∙ ap (λ r. 40 ∷ r) (append_assoc g.inner (41 ∷ []) (first.after ++ c.tail)) in
    let rest : bs ≡ g.inner ++ 41 ∷ (first.after ++ c.tail) = cc in
    let end : place + length first.text ≡ place + 1 + length g.inner + 1 = omega (arith, ap length g.whole, length-append g.inner (41 ∷ [])) in
    let total : c.side.inner ++ c.tail ≡ first.text ++ (first.after ++ c.tail) = c.side.whole ∙ first.whole in
    let far : place + length c.side.inner ≡ place + 1 + length g.inner + 1 + length first.after =
    omega (arith, ap length total, length-append c.side.inner c.tail, length-append first.text (first.after ++ c.tail), length-append first.after c.tail) in
    let tree_is : c.more ≡ Group place g.trees ∷ first.rest = first.is ∙ ap (λ x. x ∷ first.rest) g.is in
    let trees_same : trees ++ c.more ≡ (trees ++ Group place g.trees ∷ []) ++ first.rest = ap (λ ts. trees ++ ts) tree_is ∙ sym (append_assoc trees (Group place g.trees ∷ []) first.rest) in (
      g.trees,
      g.inner,
      first.after ++ c.tail,
      rest,
      g.each,
      join gs (trees ++ Group place g.trees ∷ []) (place + 1 + length g.inner + 1) (first.after ++ c.tail) all (record {
        ends = c.ends;
        tail = c.tail;
        is = c.is;
        more = first.rest;
        side = record { inner = first.after; whole = refl; each = subst (λ p. EachSpelled TreeSpelled c.ends first.rest p first.after) end first.each };
        onward = onward_same gs (trees ++ c.more) ((trees ++ Group place g.trees ∷ []) ++ first.rest) (place + length c.side.inner) (place + 1 + length g.inner + 1 + length first.after) c.tail all trees_same far c.onward;
      }),
    )

pub open_back : (place : ℕ) (bs : List ℕ) (gs : List OpenGroup) (trees all : List Tree) → Completes (record { place = place; before = trees } ∷ gs) [] (place + 1) bs all → Completes gs trees place (40 ∷ bs) all
open_back place bs gs trees all (more, inner, after, e, each, then) =
    let c = cut gs (trees ++ Group place more ∷ []) (place + 1 + length inner + 1) after all then in
    let text = 40 ∷ inner ++ 41 ∷ [] in
    let z : place ≡ place + length {A = ℕ} [] = omega arith in
    let size : length text ≡ 1 + length inner + 1 = omega (arith, length-append inner (41 ∷ [])) in
    let end : place + 1 + length inner + 1 ≡ place + length {A = ℕ} [] + length text = omega arith in
    let parts : (text ++ c.side.inner) ++ c.tail ≡ 40 ∷ bs =
    append_assoc text c.side.inner c.tail ∙ ap (λ r. text ++ r) c.side.whole ∙ ap (λ r. 40 ∷ r) (append_assoc inner (41 ∷ []) after ∙ sym e) in
    let far : place + 1 + length inner + 1 + length c.side.inner ≡ place + length (text ++ c.side.inner) = omega (arith, length-append text c.side.inner) in
    let spelled = shut (spelled-Group place more) place text c.side.inner (refl, inner, refl, each) in
    join gs trees place (40 ∷ bs) all (record {
      ends = c.ends;
      tail = c.tail;
      is = c.is;
      more = Group place more ∷ c.more;
      side = record {
        inner = text ++ c.side.inner;
        whole = parts;
        each = ([], text, c.side.inner, refl, refl, subst (λ p. TreeSpelled (Group place more) p text c.side.inner) z spelled, subst (λ p. EachSpelled TreeSpelled c.ends c.more p c.side.inner) end c.side.each);
      };
      onward = onward_same gs ((trees ++ Group place more ∷ []) ++ c.more) (trees ++ Group place more ∷ c.more) (place + 1 + length inner + 1 + length c.side.inner) (place + length (text ++ c.side.inner)) c.tail all
          (append_assoc trees (Group place more ∷ []) c.more) far c.onward;
    })

-- a `)`
none_at_close : (ends : Bool) (more : List Tree) (place c : ℕ) (bs : List ℕ) → c ≡ 41 → EachSpelled TreeSpelled ends more place (c ∷ bs) → ⊥
none_at_close ends more place c bs e h = at_close more (subst (λ d. EachSpelled TreeSpelled ends more place (d ∷ bs)) e h)
  where
    solid : IsSolid 41
    solid = record { white = refl; comment = refl }

    at_close : (m : List Tree) → EachSpelled TreeSpelled ends m place (41 ∷ bs) → ⊥
    at_close [] k = solid_is_no_blank ends 41 bs solid k
    at_close (x ∷ xs) (([]), text, after, q, gap, spelled, each) = not_begun 41 close_begins_none x (place + length {A = ℕ} []) text after bs q spelled
    at_close (x ∷ xs) ((d ∷ ds), text, after, q, gap, spelled, each) =
        let same : d ≡ 41 = cc in solid_is_no_blank false 41 ds solid (ap (λ k. is_gap (k ∷ ds)) (sym same) ∙ gap)

nothing_spelled : (ends : Bool) (more : List Tree) (place : ℕ) → EachSpelled TreeSpelled ends more place [] → more ≡ []
nothing_spelled ends [] place h = refl
nothing_spelled ends (x ∷ xs) place (([]), text, after, q, gap, spelled, each) = absurd (not_empty x (place + length {A = ℕ} []) text after q spelled)
nothing_spelled ends (x ∷ xs) place ((d ∷ ds), text, after, q, gap, spelled, each) = absurd cc

pub close_there : (place : ℕ) (bs : List ℕ) (g : OpenGroup) (gs : List OpenGroup) (trees all : List Tree) → Completes (g ∷ gs) trees place (41 ∷ bs) all → Completes gs (g.before ++ Group g.place trees ∷ []) (place + 1) bs all
close_there place bs g gs trees all (more, ([]), after, e, each, then) =
    let none = nothing_spelled false more place each in
    let rest : after ≡ bs = cc in
    let near : place + length {A = ℕ} [] + 1 ≡ place + 1 = omega arith in
    let same : trees ++ more ≡ trees = ap (λ ts. trees ++ ts) none ∙ append-nil trees in
    subst (λ r. Completes gs (g.before ++ Group g.place trees ∷ []) (place + 1) r all) rest
    (subst (λ p. Completes gs (g.before ++ Group g.place trees ∷ []) p after all) near
    (subst (λ ts. Completes gs (g.before ++ Group g.place ts ∷ []) (place + length {A = ℕ} [] + 1) after all) same then))
close_there place bs g gs trees all (more, (c ∷ cs), after, e, each, then) = absurd (let same : c ≡ 41 = cc in none_at_close false more place c cs same each)

pub close_back : (place : ℕ) (bs : List ℕ) (g : OpenGroup) (gs : List OpenGroup) (trees all : List Tree) → Completes gs (g.before ++ Group g.place trees ∷ []) (place + 1) bs all → Completes (g ∷ gs) trees place (41 ∷ bs) all
close_back place bs g gs trees all h =
    let near : place + 1 ≡ place + length {A = ℕ} [] + 1 = omega arith in (
      [],
      [],
      bs,
      refl,
      refl,
      subst (λ p. Completes gs (g.before ++ Group g.place (trees ++ []) ∷ []) p bs all) near
          (subst (λ ts. Completes gs (g.before ++ Group g.place ts ∷ []) (place + 1) bs all) (sym (append-nil trees)) h),
    )

-- a `)` without partner
pub stray_none : (place : ℕ) (bs : List ℕ) (trees all : List Tree) → Completes [] trees place (41 ∷ bs) all → ⊥
stray_none place bs trees all (more, e, each) = none_at_close true more place 41 bs refl each

-- the end of the text
pub end_is : (trees : List Tree) (place : ℕ) (all : List Tree) → Completes [] trees place [] all → all ≡ trees
end_is trees place all (more, e, each) = e ∙ ap (λ ts. trees ++ ts) (nothing_spelled true more place each) ∙ append-nil trees

pub end_completes : (trees : List Tree) (place : ℕ) → Completes [] trees place [] trees
end_completes trees place = ([], sym (append-nil trees), refl)

pub end_open : (g : OpenGroup) (gs : List OpenGroup) (trees : List Tree) (place : ℕ) (all : List Tree) → Completes (g ∷ gs) trees place [] all → ⊥
end_open g gs trees place all (more, ([]), after, e, each, then) = cc
end_open g gs trees place all (more, (c ∷ cs), after, e, each, then) = cc
