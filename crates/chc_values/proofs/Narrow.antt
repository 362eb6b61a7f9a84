-- Datatypes have few constructors.
use Rattle.std.proofs.Common.{◌≡◌, ◌<◌, ◌≤◌, ◌&&◌, ℕ, zero, suc, Bool, true, false, List, [], ◌∷◌, length, get_or, nat_lt, refl, ap, ◌∙◌, sym, subst, arith}
use Rattle.std.specs.List.{list_all}
use Rattle.std.proofs.lemmas.Bool.Decides.{nat_tests}
use Rattle.chc_sorts.specs.declared.data.Data.{Data}
use Rattle.chc_sorts.specs.Listing.{is_narrow}

first_true : (a b : Bool) → (a && b) ≡ true → a ≡ true
first_true true b h = refl
first_true false b h = cc

rest_true : (a b : Bool) → (a && b) ≡ true → b ≡ true
rest_true true b h = h
rest_true false b h = cc

few : (t : Data) → is_narrow t ≡ true → length t.ctors ≤ 256
few t h = let l = first_true (nat_lt (length t.ctors) 257) _ h in grind (arith, nat_tests, l)

pub few_at : (ds : List Data) (d : ℕ) (t : Data) → list_all is_narrow ds ≡ true → d < length ds → t ≡ get_or ds d t → length t.ctors ≤ 256
few_at [] d t h lt e = absurd (omega arith)
few_at (x ∷ ds) zero t h lt e = subst (λ (y : Data). length y.ctors ≤ 256) (sym e) (few x (first_true (is_narrow x) (list_all is_narrow ds) h))
few_at (x ∷ ds) (suc d) t h lt e = few_at ds d t (rest_true (is_narrow x) (list_all is_narrow ds) h) (omega arith) e
