-- The checks of a group, one after the other.
use Rattle.std.proofs.Common.{◌≡◌, ℕ, List, [], ◌∷◌, ◌++◌, Option, None, option_map, refl, ap, ◌∙◌}
use Rattle.chc_sorts.specs.declared.taken.NameSpaces.{NameSpaces}
use Rattle.chc_sorts.specs.declared.refusal.SigErr.{SigErr}
use Rattle.chc_sorts.specs.declared.refusal.SigErr.TheVariants as refusal
use Rattle.std.specs.Option.{option_or}
use Rattle.chc_sorts.specs.declared.limit.Limit.{Limit}
use Rattle.chc_sorts.specs.Signature.{Signature}
use Rattle.chc_sorts.specs.Named.{datatype_names}
use Rattle.chc_sorts.specs.Groups.{Declared, first_taken, taken_names, fixed_sorts}
use Rattle.chc_sorts.specs.Checks.{name_found}

end_of : {X : Type 0} (xs : List X) → xs ++ [] ≡ xs
end_of [] = refl
end_of (x ∷ xs) = ap (λ l. x ∷ l) (end_of xs)

-- what is found from the start on is the first name that is taken
pub found_at_start : (sig : Signature) (preds : List (List ℕ)) (own : NameSpaces) (names : List Declared) → own.sorts ≡ datatype_names sig → own.functions ≡ []
    → name_found sig preds own names ≡ option_map (λ name. refusal.NameTaken name) (first_taken (taken_names sig preds) names)
found_at_start sig preds own names s f =
    ap (λ (t : NameSpaces). option_map (λ name. refusal.NameTaken name) (first_taken t names)) (λ i. record { sorts = fixed_sorts ++ s i; functions = functions_are i })
  where
    functions_are : (taken_names sig preds).functions ++ own.functions ≡ (taken_names sig preds).functions
    functions_are = ap (λ l. (taken_names sig preds).functions ++ l) f ∙ end_of (taken_names sig preds).functions

-- where names and sorts bring no refusal, the limits decide
pub by_limit : (a b : Option SigErr) (l : Option Limit) → a ≡ None → b ≡ None → option_or a (option_or b (option_map (λ x. refusal.TooMany x) l)) ≡ option_map (λ x. refusal.TooMany x) l
by_limit a b l p q =
    ap (λ (o : Option SigErr). option_or o (option_or b (option_map (λ x. refusal.TooMany x) l))) p
    ∙ ap (λ (o : Option SigErr). option_or o (option_map (λ x. refusal.TooMany x) l)) q
