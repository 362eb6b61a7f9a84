-- How names and reasons are written.
use Rattle.std.proofs.Common.{◌≡◌, ℕ, Bool, true, false, List, ◌++◌, ap}
use Rattle.std.specs.Prelude.{cond, codes}
use Rattle.chc_sexpr.specs.Faults.{fault_name}
use Rattle.chc_sexpr.specs.Symbols.{is_bare, symbol_text}
use Rattle.chc_sexpr.specs.declared.fault.TextFault.{TextFault}
use Rattle.chc_jobs.specs.Lines.{is_about_name, reason}

written : (name : List ℕ) (bare : Bool) → is_bare name ≡ bare → symbol_text name ≡ cond bare name ((codes "|" ++ name) ++ codes "|")
unfolding symbol_text
written name bare e = ap (λ (b : Bool). cond b name ((codes "|" ++ name) ++ codes "|")) e

-- a bare name as it is, and another one between bars
pub bare_written : (name : List ℕ) → is_bare name ≡ true → symbol_text name ≡ name
bare_written name e = written name true e

pub quoted_written : (name : List ℕ) → is_bare name ≡ false → symbol_text name ≡ (codes "|" ++ name) ++ codes "|"
quoted_written name e = written name false e

-- a fault that is about a name, with the name
pub named_reason : (f : TextFault) → is_about_name f.fault ≡ true → reason f ≡ (fault_name f.fault ++ codes " ") ++ symbol_text f.name
named_reason f e = ap (λ (b : Bool). cond b ((fault_name f.fault ++ codes " ") ++ symbol_text f.name) (fault_name f.fault)) e
