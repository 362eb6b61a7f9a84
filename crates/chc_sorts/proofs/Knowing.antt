-- Which names have a sort.
use Rattle.std.proofs.Common.{◌≡◌, ℕ, Bool, false, cond, Option, Some, None, option_map, ap, sym, ◌∙◌}
use Rattle.std.specs.Prelude.{is_some}
use Rattle.chc_sorts.specs.declared.sort.Sort.TheVariants as sort

pub known_by_number : (o : Option ℕ) (a b : Bool) → a ≡ false → b ≡ false → is_some o ≡ is_some (cond a (Some sort.Bool) (cond b (Some sort.Int) (option_map (λ d. sort.Data d) o)))
known_by_number None a b p q = sym (ap (λ c. is_some (cond c (Some sort.Bool) (cond b (Some sort.Int) None))) p ∙ ap (λ c. is_some (cond c (Some sort.Int) None)) q)
known_by_number (Some d) a b p q = sym (ap (λ c. is_some (cond c (Some sort.Bool) (cond b (Some sort.Int) (Some (sort.Data d))))) p ∙ ap (λ c. is_some (cond c (Some sort.Int) (Some (sort.Data d)))) q)
