-- The table of live predicates by name.
use Rattle.std.proofs.Common.{◌≡◌, ◌+◌, ◌&&◌, ℕ, zero, suc, Bool, true, false, cond, List, [], ◌∷◌, ◌++◌, drop, slice_get, Option, Some, None, refl, ap, sym, ◌∙◌, arith}
use Rattle.std.specs.Option.{is_some, option_or}
use Rattle.std.specs.Str.{bytes_eq}
use Rattle.chc_sorts.specs.declared.sort.Sort.{Sort}
use Rattle.chc_sorts.specs.Names.{look_up}
use Rattle.chc_elab.specs.declared.symbols.Symbol.{Symbol}
use Rattle.chc_elab.specs.declared.symbols.Symbol.TheVariants as symbol
use Rattle.chc_state.specs.declared.clause.PredDecl.{PredDecl}
use Rattle.ans_model.specs.Drafts.{ArePreds, owner_from, pred_number}

-- what stands under a name, with one more row at the end
look_up_more : (rows : List (List ℕ × Symbol)) (name other : List ℕ) (s : Symbol) → look_up (rows ++ (name, s) ∷ []) other ≡ option_or (look_up rows other) (cond (bytes_eq name other) (Some s) None)
look_up_more [] name other s = refl
look_up_more (row ∷ rows) name other s = by (bytes_eq row.0 other) (look_up_more rows name other s)
  where
    by : (b : Bool) → look_up (rows ++ (name, s) ∷ []) other ≡ option_or (look_up rows other) (cond (bytes_eq name other) (Some s) None)
        → cond b (Some row.1) (look_up (rows ++ (name, s) ∷ []) other) ≡ option_or (cond b (Some row.1) (look_up rows other)) (cond (bytes_eq name other) (Some s) None)
    by true e = refl
    by false e = e

-- and its number
pub number_more : (rows : List (List ℕ × Symbol)) (name other : List ℕ) (p : ℕ) (sorts : List Sort) → ArePreds rows
    → pred_number (look_up (rows ++ (name, symbol.Pred p sorts) ∷ []) other) ≡ option_or (pred_number (look_up rows other)) (cond (bytes_eq name other) (Some p) None)
number_more rows name other p sorts are = ap pred_number (look_up_more rows name other (symbol.Pred p sorts)) ∙ by (look_up rows other) (bytes_eq name other) (are other)
  where
    by : (o : Option Symbol) (b : Bool) → is_some (pred_number o) ≡ is_some o
        → pred_number (option_or o (cond b (Some (symbol.Pred p sorts)) None)) ≡ option_or (pred_number o) (cond b (Some p) None)
    by None true e = refl
    by None false e = refl
    by (Some (symbol.Pred q ss)) b e = refl
    by (Some (symbol.Def k f)) b e = cc

pub preds_more : (rows : List (List ℕ × Symbol)) (name : List ℕ) (p : ℕ) (sorts : List Sort) → ArePreds rows → ArePreds (rows ++ (name, symbol.Pred p sorts) ∷ [])
preds_more rows name p sorts are other =
    ap (λ o. is_some (pred_number o)) (look_up_more rows name other (symbol.Pred p sorts))
    ∙ by (look_up rows other) (bytes_eq name other) (are other)
    ∙ ap is_some (sym (look_up_more rows name other (symbol.Pred p sorts)))
  where
    by : (o : Option Symbol) (b : Bool) → is_some (pred_number o) ≡ is_some o
        → is_some (pred_number (option_or o (cond b (Some (symbol.Pred p sorts)) None))) ≡ is_some (option_or o (cond b (Some (symbol.Pred p sorts)) None))
    by None true e = refl
    by None false e = refl
    by (Some (symbol.Pred q ss)) b e = refl
    by (Some (symbol.Def k f)) b e = e

-- the list from a place on: an element and the rest, or nothing
pub from_here : {X : Type 0} (xs : List X) (i : ℕ) (x : X) → slice_get xs i ≡ Some x → drop i xs ≡ x ∷ drop (i + 1) xs
from_here [] i x e = cc
from_here (y ∷ xs) zero x e = cc
from_here (y ∷ xs) (suc i) x e =
    let same : suc i + 1 ≡ suc (i + 1) = omega arith in
    from_here xs i x e ∙ ap (λ j. x ∷ drop j (y ∷ xs)) (sym same)

pub none_here : {X : Type 0} (xs : List X) (i : ℕ) → slice_get xs i ≡ None → drop i xs ≡ []
none_here [] zero e = refl
none_here [] (suc i) e = refl
none_here (y ∷ xs) zero e = cc
none_here (y ∷ xs) (suc i) e = none_here xs i e

-- the owner from the next predicate on, where that is live
or_next : (o : Option ℕ) (b : Bool) (p : ℕ) (later : Option ℕ) → option_or (option_or o (cond b (Some p) None)) later ≡ option_or o (cond b (Some p) later)
or_next None true p later = refl
or_next None false p later = refl
or_next (Some q) b p later = refl

pub owner_live_next : (o : Option ℕ) (p : ℕ) (first name : List ℕ) (names : List (List ℕ)) (decl : PredDecl) (decls : List PredDecl) → decl.live ≡ true
    → option_or (option_or o (cond (bytes_eq first name) (Some p) None)) (owner_from (p + 1) names decls name) ≡ option_or o (owner_from p (first ∷ names) (decl ∷ decls) name)
owner_live_next o p first name names decl decls live =
    or_next o (bytes_eq first name) p (owner_from (p + 1) names decls name)
    ∙ ap (λ b. option_or o (cond (b && bytes_eq first name) (Some p) (owner_from (p + 1) names decls name))) (sym live)

-- and where it isn't
pub owner_dead_next : (p : ℕ) (first name : List ℕ) (names : List (List ℕ)) (decl : PredDecl) (decls : List PredDecl) → decl.live ≡ false
    → owner_from (p + 1) names decls name ≡ owner_from p (first ∷ names) (decl ∷ decls) name
owner_dead_next p first name names decl decls dead = ap (λ b. cond (b && bytes_eq first name) (Some p) (owner_from (p + 1) names decls name)) (sym dead)

nothing_else : (o : Option ℕ) → o ≡ option_or o None
nothing_else None = refl
nothing_else (Some p) = refl

no_decls : (p : ℕ) (names : List (List ℕ)) (name : List ℕ) → owner_from p names [] name ≡ None
no_decls p [] name = refl
no_decls p (first ∷ names) name = refl

module _ (names : List (List ℕ)) (decls : List PredDecl) (p : ℕ) (old : List (List ℕ × Symbol)) (whole : List ℕ → Option ℕ) where
  abbrev FoundFrom : Type 0
  FoundFrom = (name : List ℕ) → option_or (pred_number (look_up old name)) (owner_from p (drop p names) (drop p decls) name) ≡ whole name

  -- where no name or no predicate is left, all are found
  pub names_end : FoundFrom → drop p names ≡ [] → (name : List ℕ) → pred_number (look_up old name) ≡ whole name
  names_end found none name =
      nothing_else (pred_number (look_up old name)) ∙ ap (λ l. option_or (pred_number (look_up old name)) (owner_from p l (drop p decls) name)) (sym none) ∙ found name

  pub decls_end : FoundFrom → drop p decls ≡ [] → (name : List ℕ) → pred_number (look_up old name) ≡ whole name
  decls_end found none name =
      nothing_else (pred_number (look_up old name))
      ∙ ap (option_or (pred_number (look_up old name))) (sym (no_decls p (drop p names) name) ∙ ap (λ l. owner_from p (drop p names) l name) (sym none))
      ∙ found name

  module _ (first : List ℕ) (decl : PredDecl) (named : drop p names ≡ first ∷ drop (p + 1) names) (there : drop p decls ≡ decl ∷ drop (p + 1) decls) (found : FoundFrom) where
    opened : (name : List ℕ) → owner_from p (first ∷ drop (p + 1) names) (decl ∷ drop (p + 1) decls) name ≡ owner_from p (drop p names) (drop p decls) name
    opened name = (λ i. owner_from p (sym named i) (sym there i) name)

    -- with one more predicate, which is live
    pub live_found : (new : List (List ℕ × Symbol)) → decl.live ≡ true
        → ((other : List ℕ) → pred_number (look_up new other) ≡ option_or (pred_number (look_up old other)) (cond (bytes_eq first other) (Some p) None))
        → (name : List ℕ) → option_or (pred_number (look_up new name)) (owner_from (p + 1) (drop (p + 1) names) (drop (p + 1) decls) name) ≡ whole name
    live_found new live added name =
        ap (λ o. option_or o (owner_from (p + 1) (drop (p + 1) names) (drop (p + 1) decls) name)) (added name)
        ∙ owner_live_next (pred_number (look_up old name)) p first name (drop (p + 1) names) decl (drop (p + 1) decls) live
        ∙ ap (option_or (pred_number (look_up old name))) (opened name) ∙ found name

    -- and one that isn't
    pub dead_found : (new : List (List ℕ × Symbol)) → new ≡ old → decl.live ≡ false
        → (name : List ℕ) → option_or (pred_number (look_up new name)) (owner_from (p + 1) (drop (p + 1) names) (drop (p + 1) decls) name) ≡ whole name
    dead_found new same dead name =
        ap (λ t. option_or (pred_number (look_up t name)) (owner_from (p + 1) (drop (p + 1) names) (drop (p + 1) decls) name)) same
        ∙ ap (option_or (pred_number (look_up old name))) (owner_dead_next p first name (drop (p + 1) names) decl (drop (p + 1) decls) dead ∙ opened name) ∙ found name
