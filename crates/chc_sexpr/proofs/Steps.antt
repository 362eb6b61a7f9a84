-- The steps of the reader on its draft.
use Rattle.std.proofs.Common.{◌≡◌, ℕ, suc, ◌+◌, ◌≤◌, ◌<◌, true, List, [], ◌∷◌, ◌++◌, length, map, get_or, reverse, take, drop, Result, Ok, Err, ap, sym, refl, subst, ◌∙◌, arith, append-nil}
use Rattle.std.specs.List.{prefix_len}
use Rattle.std.proofs.lemmas.Bool.{ne_eqb}
use Rattle.std.proofs.lemmas.List.Folds.{length-prefix_len}
use Rattle.std.proofs.lemmas.List.{reverse-append, length-reverse, length-drop, length-map, length-take-le, take-append-drop, drop-drop, drop_all}
use Rattle.chc_sexpr.specs.Tokens.{is_white, is_commented}
use Rattle.chc_sexpr.specs.Trees.{most_open}
use Rattle.chc_sexpr.specs.Spelling.{TreeSpelled, EachSpelled, Spells, SpellsNone, IsTreeReading, IsFirstFault, FirstFault, white, comment, token, opening, closing, bad_token, too_deep, stray, unclosed}
use Rattle.chc_sexpr.specs.Scanning.{fault_at, token_at, Gives}
use Rattle.chc_sexpr.specs.Drafts.{open_places, Closes, Completes, Ends, AreShallow, IsShallow, StepsTo, Fails, BeginsToken, StepsOn, Finishes}
use Rattle.chc_sexpr.specs.declared.draft.OpenGroup.{OpenGroup}
use Rattle.chc_sexpr.specs.declared.draft.Draft.{Draft}
use Rattle.chc_sexpr.specs.declared.fault.Fault.{Fault}
use Rattle.chc_sexpr.specs.declared.fault.Fault.TheVariants.{OpenParen, StrayParen, TooDeep}
use Rattle.chc_sexpr.specs.declared.fault.TextFault.{TextFault}
use Rattle.chc_sexpr.specs.declared.fault.TextErr.{TextErr}
use Rattle.chc_sexpr.specs.declared.fault.TextErr.TheVariants as text_err
use Rattle.chc_sexpr.specs.declared.token.Token.{Token}
use Rattle.chc_sexpr.specs.declared.tree.Tree.{Tree}
use Rattle.chc_sexpr.specs.declared.tree.Tree.TheVariants.{Group}
use Rattle.chc_sexpr.proofs.Depths.{depth_open, shallow_add, shallow_open_group, shallow_close}
use Rattle.chc_sexpr.proofs.Moves.{Moves, completes_there, completes_back, white_moves, comment_moves, token_moves, completes_none, open_there, open_back, close_there, close_back, stray_none, end_is, end_completes, end_open}
use Rattle.chc_sexpr.proofs.Stands.{Stands, stands, faulty}
use Rattle.chc_sexpr.proofs.Runs.{run_all, run_stops}

-- the same open groups and trees
module _ (P : List OpenGroup → List Tree → Type 0) where
  with_groups : (gs hs : List OpenGroup) (ts us : List Tree) → gs ≡ hs → ts ≡ us → P gs ts → P hs us
  with_groups gs hs ts us e f h = subst (λ x. P x us) e (subst (λ y. P gs y) f h)

innermost : (gs : List OpenGroup) (g : OpenGroup) → reverse (gs ++ g ∷ []) ≡ g ∷ reverse gs
innermost gs g = reverse-append gs (g ∷ [])

-- the places of open groups
abbrev places : List OpenGroup → List ℕ
places gs = map (λ g. g.place) gs

-- a fault behind a part of the text is one in front of it
abbrev FaultsBack : ℕ → ℕ → List ℕ → Type 0
FaultsBack place n rest = (opened : List ℕ) (fault : Fault) (at : ℕ) → FirstFault opened (place + n) (drop n rest) fault at → FirstFault opened place rest fault at

-- a part of the text that adds trees to the innermost group
moves_on : (old new : Draft) (place n : ℕ) (rest : List ℕ) (more : List Tree) → 0 < n → Moves place n rest more → FaultsBack place n rest → new.groups ≡ old.groups → new.trees ≡ old.trees ++ more →
    (AreShallow (reverse old.groups) old.trees → AreShallow (reverse old.groups) (old.trees ++ more)) → StepsTo old new place rest n
moves_on old new place n rest more some m back groups trees shallow =
    let gs = reverse old.groups in
    let same : gs ≡ reverse new.groups = ap reverse (sym groups) in
    record {
      some = some;
      within = m.within;
      there = λ all e. record { is = with_groups (λ x y. Completes x y (place + n) (drop n rest) all) gs (reverse new.groups) (old.trees ++ more) new.trees same (sym trees) (completes_there place n rest more m gs old.trees all e.is) };
      back = λ all e. record { is = completes_back place n rest more m gs old.trees all (with_groups (λ x y. Completes x y (place + n) (drop n rest) all) (reverse new.groups) gs new.trees (old.trees ++ more) (sym same) trees e.is) };
      shallow = λ s. record { is = with_groups AreShallow gs (reverse new.groups) (old.trees ++ more) new.trees same (sym trees) (shallow s.is) };
      faults = λ fault at f. back (places gs) fault at (subst (λ x. FirstFault (places x) (place + n) (drop n rest) fault at) (sym same) f);
    }

same_trees : (gs : List OpenGroup) (ts : List Tree) → AreShallow gs ts → AreShallow gs (ts ++ [])
same_trees gs ts s = subst (AreShallow gs) (sym (append-nil ts)) s

-- white space and comments
pub white_step : (d : Draft) (place b : ℕ) (bs : List ℕ) → is_white b ≡ true → StepsTo d d place (b ∷ bs) 1
white_step d place b bs w = moves_on d d place 1 (b ∷ bs) [] (omega arith) (white_moves place b bs w) (λ opened fault at f. white opened place b bs fault at w f) refl (sym (append-nil d.trees)) (same_trees (reverse d.groups) d.trees)

comment_faults : (place : ℕ) (bs : List ℕ) → FaultsBack place (1 + prefix_len is_commented bs) (59 ∷ bs)
comment_faults place bs opened fault at f =
    let n : ℕ = prefix_len is_commented bs in
    let text = take n bs in
    let rest = drop n bs in
    let s : 1 + n ≡ suc n = omega arith in
    let behind : drop (1 + n) (59 ∷ bs) ≡ rest = ap (λ k. drop k (59 ∷ bs)) s in
    let size : n ≡ length text = sym (length-prefix_len is_commented bs) in
    let near : FirstFault opened (place + (1 + length text)) rest fault at = subst (λ r. FirstFault opened (place + (1 + length text)) r fault at) behind (subst (λ k. FirstFault opened (place + (1 + k)) (drop (1 + n) (59 ∷ bs)) fault at) size f) in
    subst (λ r. FirstFault opened place (59 ∷ r) fault at) (take-append-drop n bs) (comment opened place text rest fault at (run_all is_commented bs) (run_stops is_commented bs) near)

comment_step : (d : Draft) (place : ℕ) (bs : List ℕ) → StepsTo d d place (59 ∷ bs) (1 + prefix_len is_commented bs)
comment_step d place bs = moves_on d d place (1 + prefix_len is_commented bs) (59 ∷ bs) [] (omega arith) (comment_moves place bs) (comment_faults place bs) refl (sym (append-nil d.trees)) (same_trees (reverse d.groups) d.trees)

pub comment_step_by : (d : Draft) (place n : ℕ) (rest : List ℕ) → rest ≡ 59 ∷ drop 1 rest → n ≡ 1 + prefix_len is_commented (drop 1 rest) → StepsTo d d place rest n
comment_step_by d place n rest first size =
    subst (λ bs. StepsTo d d place bs n) (sym first) (subst (StepsTo d d place (59 ∷ drop 1 rest)) (sym size) (comment_step d place (drop 1 rest)))

-- tokens
token_faults : (place : ℕ) (rest : List ℕ) (t : Token) → Stands place rest t → FaultsBack place t.length rest
token_faults place rest t s opened fault at f =
    let text = take t.length rest in
    let after = drop t.length rest in
    let size : t.length ≡ length text = sym (length-take-le t.length rest s.within) in
    let near : FirstFault opened (place + length text) after fault at = subst (λ k. FirstFault opened (place + k) after fault at) size f in
    subst (λ r. FirstFault opened place r fault at) (take-append-drop t.length rest) (token opened place t.tree text after fault at s.flat s.spelled near)

pub token_step : (old new : Draft) (place : ℕ) (rest : List ℕ) (t : Token) → token_at place rest ≡ Ok t → new.groups ≡ old.groups → new.trees ≡ old.trees ++ t.tree ∷ [] → StepsTo old new place rest t.length
token_step old new place rest t e groups trees =
    let s = stands place rest t e in
    moves_on old new place t.length rest (t.tree ∷ []) s.some (token_moves place rest t e) (token_faults place rest t s) groups trees (shallow_add (reverse old.groups) old.trees t.tree s.flat)

token_fails : (d : Draft) (place b : ℕ) (bs : List ℕ) (fault : TextFault) → BeginsToken b → token_at place (b ∷ bs) ≡ Err fault → Fails d place (b ∷ bs) fault
token_fails d place b bs fault begins e =
    let f = faulty place b bs fault begins e in
    record {
      first = bad_token (open_places d) place (b ∷ bs) fault.fault fault.place f.token;
      nameless = f.nameless;
      none = λ all shallow h. completes_none place b bs fault e (record { solid = record { white = begins.white; comment = ne_eqb b 59 begins.comment }; close = begins.closing }) begins.opening (reverse d.groups) d.trees all h.is;
    }

-- an answer that is passed on
pub token_error : (old new : Draft) (place b : ℕ) (rest : List ℕ) → rest ≡ b ∷ drop 1 rest → BeginsToken b → (e : TextErr) → Gives (Err e) (token_at place rest) → StepsOn old new place rest (Err e)
token_error old new place b rest first begins (text_err.At fault) g =
    subst (λ r. Fails old place r fault) (sym first) (token_fails old place b (drop 1 rest) fault begins (ap (token_at place) (sym first) ∙ g))
token_error old new place b rest first begins text_err.NoMemory g = tt

-- parentheses
pub open_step : (old new : Draft) (place : ℕ) (bs : List ℕ) → length old.groups < most_open → new.groups ≡ old.groups ++ record { place = place; before = old.trees } ∷ [] → new.trees ≡ [] → StepsTo old new place (40 ∷ bs) 1
open_step old new place bs few groups trees =
    let gs = reverse old.groups in
    let g : OpenGroup = record { place = place; before = old.trees } in
    let same : g ∷ gs ≡ reverse new.groups = sym (innermost old.groups g) ∙ ap reverse (sym groups) in
    record {
      some = omega arith;
      within = omega arith;
      there = λ all e. record { is = with_groups (λ x y. Completes x y (place + 1) bs all) (g ∷ gs) (reverse new.groups) [] new.trees same (sym trees) (open_there place bs gs old.trees all e.is) };
      back = λ all e. record { is = open_back place bs gs old.trees all (with_groups (λ x y. Completes x y (place + 1) bs all) (reverse new.groups) (g ∷ gs) new.trees [] (sym same) trees e.is) };
      shallow = λ s. record { is = with_groups AreShallow (g ∷ gs) (reverse new.groups) [] new.trees same (sym trees) (shallow_open_group gs old.trees place (omega (arith, length-reverse old.groups)) s.is) };
      faults = λ fault at f. opening (places gs) place bs fault at (omega (arith, length-reverse old.groups, length-map gs (λ (x : OpenGroup). x.place)))
          (subst (λ x. FirstFault (places x) (place + 1) bs fault at) (sym same) f);
    }

open_fails : (d : Draft) (place : ℕ) (bs : List ℕ) → most_open ≤ length d.groups → Fails d place (40 ∷ bs) (fault_at place TooDeep)
open_fails d place bs full =
    let gs = reverse d.groups in
    record {
      first = too_deep (places gs) place bs (omega (arith, length-reverse d.groups, length-map gs (λ (x : OpenGroup). x.place)));
      nameless = refl;
      none = λ all shallow h.
          let deep = depth_open (record { place = place; before = d.trees } ∷ gs) [] (place + 1) bs all (open_there place bs gs d.trees all h.is) in
          omega (arith, deep, length-reverse d.groups);
    }

pub open_refused : (d : Draft) (place : ℕ) (rest : List ℕ) → rest ≡ 40 ∷ drop 1 rest → most_open ≤ length d.groups → Fails d place rest (fault_at place TooDeep)
open_refused d place rest first full = subst (λ r. Fails d place r (fault_at place TooDeep)) (sym first) (open_fails d place (drop 1 rest) full)

pub close_step : (old new : Draft) (place : ℕ) (bs : List ℕ) → Closes old new → StepsTo old new place (41 ∷ bs) 1
close_step old new place bs c =
    let g = c.group in
    let gs = reverse new.groups in
    let same : reverse old.groups ≡ g ∷ gs = ap reverse c.was ∙ innermost new.groups g in
    let closed : List Tree = g.before ++ Group g.place old.trees ∷ [] in
    record {
      some = omega arith;
      within = omega arith;
      there = λ all e. record { is = subst (λ y. Completes gs y (place + 1) bs all) (sym c.trees) (close_there place bs g gs old.trees all (subst (λ x. Completes x old.trees place (41 ∷ bs) all) same e.is)) };
      back = λ all e. record { is = subst (λ x. Completes x old.trees place (41 ∷ bs) all) (sym same) (close_back place bs g gs old.trees all (subst (λ y. Completes gs y (place + 1) bs all) c.trees e.is)) };
      shallow = λ s. record { is = subst (AreShallow gs) (sym c.trees) (shallow_close gs g old.trees (subst (λ x. AreShallow x old.trees) same s.is)) };
      faults = λ fault at f. subst (λ x. FirstFault (places x) place (41 ∷ bs) fault at) (sym same) (closing g.place (places gs) place bs fault at f);
    }

none_open : {X : Type 0} (xs : List X) → length xs ≡ 0 → reverse xs ≡ []
none_open [] e = refl
none_open (x ∷ xs) e = absurd (omega arith)

close_fails : (d : Draft) (place : ℕ) (bs : List ℕ) → length d.groups ≡ 0 → Fails d place (41 ∷ bs) (fault_at place StrayParen)
close_fails d place bs none = record {
  first = subst (λ x. FirstFault (places x) place (41 ∷ bs) StrayParen place) (sym (none_open d.groups none)) (stray place bs);
  nameless = refl;
  none = λ all shallow h. stray_none place bs d.trees all (subst (λ x. Completes x d.trees place (41 ∷ bs) all) (none_open d.groups none) h.is);
}

pub close_refused : (d : Draft) (place : ℕ) (rest : List ℕ) → rest ≡ 41 ∷ drop 1 rest → length d.groups ≡ 0 → Fails d place rest (fault_at place StrayParen)
close_refused d place rest first none = subst (λ r. Fails d place r (fault_at place StrayParen)) (sym first) (close_fails d place (drop 1 rest) none)

-- the first byte of a text
pub first_byte : (rest : List ℕ) (b : ℕ) → 0 < length rest → get_or rest 0 0 ≡ b → rest ≡ b ∷ drop 1 rest
first_byte [] b some e = absurd (omega arith)
first_byte (c ∷ cs) b some e = ap (λ d. d ∷ cs) e

-- what a reading has come to
pub record IsReadTo (bytes : List ℕ) (at : ℕ) (d : Draft) : Type 0 where
  pub within : at ≤ length bytes
  pub shallow : IsShallow d
  pub there : (all : List Tree) → EachSpelled TreeSpelled true all 0 bytes → Ends d at (drop at bytes) all
  pub back : (all : List Tree) → Ends d at (drop at bytes) all → EachSpelled TreeSpelled true all 0 bytes
  pub faults : (fault : Fault) (place : ℕ) → FirstFault (open_places d) at (drop at bytes) fault place → FirstFault [] 0 bytes fault place

pub starts : (bytes : List ℕ) (d : Draft) → d.groups ≡ [] → d.trees ≡ [] → IsReadTo bytes 0 d
starts bytes d groups trees =
    let none : reverse d.groups ≡ [] = ap reverse groups in
    record {
      within = omega arith;
      shallow = record { is = with_groups AreShallow [] (reverse d.groups) [] d.trees (sym none) (sym trees) (omega arith) };
      there = λ all h. record { is = with_groups (λ x y. Completes x y 0 bytes all) [] (reverse d.groups) [] d.trees (sym none) (sym trees) (all, refl, h) };
      back = λ all e. let c = with_groups (λ x y. Completes x y 0 bytes all) (reverse d.groups) [] d.trees [] none trees e.is in subst (λ ts. EachSpelled TreeSpelled true ts 0 bytes) (sym c.1) c.2;
      faults = λ fault place f. subst (λ x. FirstFault (places x) 0 bytes fault place) none f;
    }

pub goes_on : (bytes : List ℕ) (at n : ℕ) (old new : Draft) → IsReadTo bytes at old → StepsTo old new at (drop at bytes) n → at < length bytes → IsReadTo bytes (at + n) new
goes_on bytes at n old new is s h =
    let far : drop n (drop at bytes) ≡ drop (at + n) bytes = drop-drop n at bytes in
    record {
      within = omega (arith, s.within, length-drop at bytes);
      shallow = s.shallow is.shallow;
      there = λ all e. subst (λ r. Ends new (at + n) r all) far (s.there all (is.there all e));
      back = λ all e. is.back all (s.back all (subst (λ r. Ends new (at + n) r all) (sym far) e));
      faults = λ fault place f. is.faults fault place (s.faults fault place (subst (λ r. FirstFault (open_places new) (at + n) r fault place) (sym far) f));
    }

pub fails : (bytes : List ℕ) (at : ℕ) (d : Draft) (fault : TextFault) → IsReadTo bytes at d → Fails d at (drop at bytes) fault → SpellsNone bytes × IsFirstFault bytes fault
fails bytes at d fault is f =
    (λ trees s. f.none trees s.shallow (is.there trees s.spelled), record { first = is.faults fault.fault fault.place f.first; nameless = f.nameless })

pub ends : (bytes : List ℕ) (at : ℕ) (d : Draft) → length bytes ≤ at → IsReadTo bytes at d → (r : Result (List Tree) TextErr) → Finishes d r → IsTreeReading bytes r
ends bytes at d h is (Ok trees) f =
    let none : drop at bytes ≡ [] = drop_all at bytes h in
    let no_groups : reverse d.groups ≡ [] = ap reverse f.0 in
    let end : Ends d at (drop at bytes) d.trees = record { is = subst (λ r. Completes (reverse d.groups) d.trees at r d.trees) (sym none) (subst (λ x. Completes x d.trees at [] d.trees) (sym no_groups) (end_completes d.trees at)) } in
    let shallow : AreShallow [] d.trees = subst (λ x. AreShallow x d.trees) no_groups is.shallow.is in
    let spells : Spells bytes d.trees = record { spelled = is.back d.trees end; shallow = shallow } in (
      subst (Spells bytes) (sym f.1) spells,
      λ others s. let e = is.there others s.spelled in
          f.1 ∙ sym (end_is d.trees at others (subst (λ x. Completes x d.trees at [] others) no_groups (subst (λ r. Completes (reverse d.groups) d.trees at r others) none e.is))),
    )
ends bytes at d h is (Err (text_err.At fault)) f =
    let none : drop at bytes ≡ [] = drop_all at bytes h in
    let same : reverse d.groups ≡ f.0 ∷ reverse f.1 = ap reverse f.2 ∙ innermost f.1 f.0 in
    let end : FirstFault (open_places d) at (drop at bytes) OpenParen f.0.place =
    subst (λ r. FirstFault (open_places d) at r OpenParen f.0.place) (sym none) (subst (λ x. FirstFault (places x) at [] OpenParen f.0.place) (sym same) (unclosed f.0.place (places (reverse f.1)) at)) in (
      λ trees s.
          let e = is.there trees s.spelled in
          end_open f.0 (reverse f.1) d.trees at trees (subst (λ x. Completes x d.trees at [] trees) same (subst (λ r. Completes (reverse d.groups) d.trees at r trees) none e.is)),
      subst (IsFirstFault bytes) (sym f.3) (record { first = is.faults OpenParen f.0.place end; nameless = refl }),
    )
ends bytes at d h is (Err text_err.NoMemory) f = tt
