-- The limits that terms are held to, and those of terms that are read.
use Rattle.std.proofs.Common.{◌≤◌, List, [], ◌∷◌, map, arith}
use Rattle.std.specs.List.{AllByRecursion}
use Rattle.chc_sorts.specs.declared.sort.Sort.{Sort}
use Rattle.chc_sorts.specs.declared.op.Op.{Op}
use Rattle.chc_terms.specs.declared.term.Kind.{Kind}
use Rattle.chc_terms.specs.declared.term.Term.{Term}
use Rattle.chc_terms.specs.declared.term.Term.TheVariants as term
use Rattle.chc_terms.specs.Counts.{size, size_all, depth, depth_all}
use Rattle.chc_terms.proofs.CountLaws.{size-App, size-Pred, size-Quant, size-Call, size_all-cons, depth-App, depth-Pred, depth-Quant, depth-Call}
use Rattle.chc_elab.specs.declared.symbols.Symbol.{Symbol}
use Rattle.chc_elab.specs.declared.symbols.Symbol.TheVariants as symbol
use Rattle.chc_elab.specs.declared.typed.Typed.{Typed}
use Rattle.chc_elab.specs.Building.{declared_term}
use Rattle.chc_elab.specs.Limits.{most_nodes, most_levels}
use Rattle.chc_elab.specs.Stands.{IsWithin, AreFew}

-- terms that are held to limits: those that are allowed fit, the arguments of one are allowed, and are few enough
pub record AreLimits (Fits : Typed → Type 0) (Few : List Typed → Type 0) (Allowed : Term → Type 0) : Type 0 where
  pub fits : (t : Term) (s : Sort) → Allowed t → Fits (record { term = t; sort = s })
  pub few : (o : Op) (values : List Typed) → Allowed (term.App o (map (λ (a : Typed). a.term) values)) → Few values
  pub parts : (o : Op) (ts : List Term) → Allowed (term.App o ts) → AllByRecursion Allowed ts
  pub few_of_symbol : (what : Symbol) (values : List Typed) → Allowed (declared_term what (map (λ (a : Typed). a.term) values)) → Few values
  pub parts_of_symbol : (what : Symbol) (ts : List Term) → Allowed (declared_term what ts) → AllByRecursion Allowed ts
  pub part_of_quantifier : (k : Kind) (sorts : List Sort) (t : Term) → Allowed (term.Quant k sorts t) → Allowed t

-- ---- the limits of terms that are read

-- a term within the limits
abbrev pub IsSmall : Term → Type 0
IsSmall t = (size t ≤ most_nodes) × (depth t ≤ most_levels)

small_parts : (ts : List Term) → size_all ts ≤ most_nodes → depth_all ts ≤ most_levels → AllByRecursion IsSmall ts
small_parts [] few low = tt
small_parts (t ∷ ts) few low = let sizes = size_all-cons t ts in ((omega arith, omega arith), small_parts ts (omega arith) (omega arith))

small_few : (what : Symbol) (values : List Typed) → IsSmall (declared_term what (map (λ (a : Typed). a.term) values)) → AreFew values
small_few (symbol.Pred p sorts) values small = (let sizes = size-Pred p (map (λ (a : Typed). a.term) values) in let few = small.0 in omega arith)
small_few (symbol.Def k f) values small = (let sizes = size-Call k (map (λ (a : Typed). a.term) values) in let few = small.0 in omega arith)

small_of_symbol : (what : Symbol) (ts : List Term) → IsSmall (declared_term what ts) → AllByRecursion IsSmall ts
small_of_symbol (symbol.Pred p sorts) ts small =
    (let sizes = size-Pred p ts in let levels = depth-Pred p ts in let few = small.0 in let low = small.1 in small_parts ts (omega arith) (omega arith))
small_of_symbol (symbol.Def k f) ts small =
    (let sizes = size-Call k ts in let levels = depth-Call k ts in let few = small.0 in let low = small.1 in small_parts ts (omega arith) (omega arith))

-- the limits of terms that are read
pub read_limits : AreLimits IsWithin AreFew IsSmall
read_limits = record {
  fits = λ t s small. small;
  few = λ o values small. (let sizes = size-App o (map (λ (a : Typed). a.term) values) in let few = small.0 in omega arith);
  parts = λ o ts small. (let sizes = size-App o ts in let levels = depth-App o ts in let few = small.0 in let low = small.1 in small_parts ts (omega arith) (omega arith));
  few_of_symbol = small_few;
  parts_of_symbol = small_of_symbol;
  part_of_quantifier = λ k sorts t small. (let sizes = size-Quant k sorts t in let levels = depth-Quant k sorts t in let few = small.0 in let low = small.1 in (omega arith, omega arith));
}

-- ---- no limits

any_parts : (ts : List Term) → AllByRecursion (λ (t : Term). Unit {0}) ts
any_parts [] = tt
any_parts (t ∷ ts) = (tt, any_parts ts)

-- no limits
pub no_limits : AreLimits (λ t. Unit {0}) (λ args. Unit {0}) (λ t. Unit {0})
no_limits = record {
  fits = λ t s h. tt;
  few = λ o values h. tt;
  parts = λ o ts h. any_parts ts;
  few_of_symbol = λ what values h. tt;
  parts_of_symbol = λ what ts h. any_parts ts;
  part_of_quantifier = λ k sorts t h. tt;
}
