-- The laws of the value of a term.
use Rattle.chc_terms.specs.Laws.{OneValue, OneValueUnderAny, SomeValue, SomeValueUnderAny, SameMeaning}
use Rattle.chc_terms.proofs.OperatorLaws.{operators_fit, operators_answer, no_datatypes_answer}
use Rattle.chc_terms.proofs.DatatypeOperators.{datatypes_fit}
use Rattle.chc_terms.proofs.DatatypeAnswers.{datatypes_answer}
use Rattle.chc_terms.proofs.Uniqueness.{term_single}
use Rattle.chc_terms.proofs.Existence.{term_has}
use Rattle.chc_terms.proofs.Meanings as Meanings

pub one_value_under_any : OneValueUnderAny
one_value_under_any cx w preds defs world means t vars s h =
    let x = term_single cx w preds defs (operators_fit cx.sig w world.0 (datatypes_fit cx.sig w world)) means t vars s h in
    record { one = λ vs b. (x vs b).one; of = λ vs b. (x vs b).of }

pub one_value : OneValue
one_value cx w preds defs world none means t vars s h env a = one_value_under_any cx w preds defs world means t vars s h

pub some_value : SomeValue
some_value cx w preds defs world none means total t vars s h q env a =
    term_has cx w preds defs (operators_fit cx.sig w world.0 (datatypes_fit cx.sig w world)) (operators_answer cx.sig w (no_datatypes_answer cx.sig w none)) means total t q vars s h env a

pub some_value_under_any : SomeValueUnderAny
some_value_under_any cx w preds defs world founded means total t vars s h q env a =
    term_has cx w preds defs (operators_fit cx.sig w world.0 (datatypes_fit cx.sig w world)) (operators_answer cx.sig w (datatypes_answer cx.sig w founded)) means total t q vars s h env a

pub same_meaning : SameMeaning
same_meaning = Meanings.same_meaning
