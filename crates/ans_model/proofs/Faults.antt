-- What the bytes of an answer come to is one thing: definitions, or a fault.
use Rattle.std.proofs.Common.{◌≡◌, inl, inr, ℕ, List, length, Ok, Err, sym, ◌∙◌}
use Rattle.chc_sexpr.specs.Spelling.{HasOneFault, IsTreeReading, IsFirstFault, SpellsNone}
use Rattle.chc_sexpr.specs.declared.tree.Tree.{Tree}
use Rattle.chc_sexpr.specs.declared.fault.TextFault.{TextFault}
use Rattle.chc_sexpr.specs.declared.fault.TextErr.{TextErr}
use Rattle.chc_sexpr.specs.declared.fault.TextErr.TheVariants as text_err
use Rattle.chc_elab.specs.Sites.{Reading, Tells}
use Rattle.chc_print.specs.Helpers.{NamesPredicates}
use Rattle.chc_print.proofs.HelperLaws.{one_naming}
use Rattle.chc_state.specs.declared.defs.Defs.{Defs}
use Rattle.chc_state.specs.States.{StateView}
use Rattle.ans_model.specs.Answers.{Says, IsAnswerFault, IsModelReading, answer_of}
use Rattle.std.specs.Prelude.{Result}

module _ (s : StateView) (names : List (List ℕ)) (bytes : List ℕ) where
  only_fault : HasOneFault → (fault : TextFault) → SpellsNone bytes → IsFirstFault bytes fault → (other : TextFault) → IsAnswerFault s names bytes other → fault ≡ other
  only_fault law fault none first other (inl (unspelled, second)) = law bytes fault other first second
  only_fault law fault none first other (inr said) = absurd (none said.trees said.spelled)

  -- the first fault of a text that spells no trees is that of its answer
  pub unspelled_fault : HasOneFault → (why : TextErr) → IsTreeReading bytes (Err why) → IsModelReading s names bytes (Err why)
  unspelled_fault law (text_err.At fault) (none, first) = (λ d said. none said.trees said.spelled, inl (none, first), only_fault law fault none first)
  unspelled_fault law text_err.NoMemory h = tt

  module _ (trees : List Tree) (all : List (List ℕ)) (spelled : IsTreeReading bytes (Ok trees)) (named : NamesPredicates s names all) where
    abbrev answer : Reading Defs
    answer = answer_of (record { state = s; names = all }) (length bytes) trees

    said : (reading : Reading Defs) → answer ≡ reading → Says s names bytes reading
    said reading h = record { trees = trees; all = all; spelled = spelled.0; named = named; stands = h }

    one : (reading : Reading Defs) → Says s names bytes reading → answer ≡ reading
    one reading h =
        (λ i. answer_of (record { state = s; names = one_naming s names all h.all named h.named i }) (length bytes) (spelled.1 h.trees h.spelled i)) ∙ h.stands

    no_fault : (fault other : TextFault) → answer ≡ Err fault → IsAnswerFault s names bytes other → fault ≡ other
    no_fault fault other h (inl (unspelled, second)) = absurd (unspelled trees spelled.0)
    no_fault fault other h (inr there) = same (sym h ∙ one (Err other) there)
      where
        same : ◌≡◌ {A = Reading Defs} (Err fault) (Err other) → fault ≡ other
        same e = cc

    no_model : (fault : TextFault) (d : Defs) → answer ≡ Err fault → Says s names bytes (Ok d) → ⊥
    no_model fault d h there = apart (sym h ∙ one (Ok d) there)
      where
        apart : ◌≡◌ {A = Reading Defs} (Err fault) (Ok d) → ⊥
        apart e = cc

    -- what the trees come to is what the bytes do
    pub spelled_reading : (result : Result Defs TextErr) → Tells result answer → IsModelReading s names bytes result
    spelled_reading (Ok d) h = (said (Ok d) (sym h), λ other there. same other (h ∙ one (Ok other) there))
      where
        same : (other : Defs) → ◌≡◌ {A = Reading Defs} (Ok d) (Ok other) → d ≡ other
        same other e = cc
    spelled_reading (Err (text_err.At fault)) h =
        (λ d there. no_model fault d (sym h) there, inr (said (Err fault) (sym h)), λ other there. no_fault fault other (sym h) there)
    spelled_reading (Err text_err.NoMemory) h = tt
