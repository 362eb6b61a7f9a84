use Rattle.std.proofs.Common.{rules, ◌≡◌, ℕ, true, List, sym, subst, arith, refl, codes}
use Rattle.std.proofs.lemmas.Slice.Eq.{text_from_reads}
use Rattle.chc_sexpr.specs.Tokens.{is_reserved}
use Rattle.chc_sexpr.proofs.token.is_reserved.Goals as goal

-- bytes that are one of the words
found : (bytes word : List ℕ) → bytes ≡ word → is_reserved word ≡ true → true ≡ is_reserved bytes
found bytes word e h = sym (subst (λ (x : List ℕ). is_reserved x ≡ true) (sym e) h)

pub returns-in-33-7 : goal.returns-in-33-7
returns-in-33-7 c = found c.args.bytes.now (codes "exists") (text_from_reads _ _ (omega arith) (search rules)) refl

pub returns-in-33-8 : goal.returns-in-33-8
returns-in-33-8 c = found c.args.bytes.now (codes "forall") (text_from_reads _ _ (omega arith) (search rules)) refl

pub returns-in-33-9 : goal.returns-in-33-9
returns-in-33-9 c = found c.args.bytes.now (codes "BINARY") (text_from_reads _ _ (omega arith) (search rules)) refl

pub returns-in-33-10 : goal.returns-in-33-10
returns-in-33-10 c = found c.args.bytes.now (codes "STRING") (text_from_reads _ _ (omega arith) (search rules)) refl

pub returns-in-33-11 : goal.returns-in-33-11
returns-in-33-11 c = found c.args.bytes.now (codes "DECIMAL") (text_from_reads _ _ (omega arith) (search rules)) refl

pub returns-in-33-12 : goal.returns-in-33-12
returns-in-33-12 c = found c.args.bytes.now (codes "NUMERAL") (text_from_reads _ _ (omega arith) (search rules)) refl

pub returns-in-33-13 : goal.returns-in-33-13
returns-in-33-13 c = found c.args.bytes.now (codes "HEXADECIMAL") (text_from_reads _ _ (omega arith) (search rules)) refl
