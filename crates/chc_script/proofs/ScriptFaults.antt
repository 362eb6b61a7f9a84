-- What the bytes of a script come to is one thing: a script, or a fault.
use Rattle.std.proofs.Common.{◌≡◌, ◌⊎◌, inl, inr, ℕ, List, length, Ok, Err, sym, ap, ◌∙◌}
use Rattle.std.specs.Prelude.{Result}
use Rattle.chc_sexpr.specs.Spelling.{HasOneFault, IsTreeReading, IsFirstFault, SpellsNone}
use Rattle.chc_sexpr.specs.declared.tree.Tree.{Tree}
use Rattle.chc_sexpr.specs.declared.fault.TextFault.{TextFault}
use Rattle.chc_sexpr.specs.declared.fault.TextErr.{TextErr}
use Rattle.chc_sexpr.specs.declared.fault.TextErr.TheVariants as text_err
use Rattle.chc_elab.specs.Sites.{Reading, Tells}
use Rattle.chc_script.specs.Scripts.{ScriptView}
use Rattle.chc_script.specs.WholeScripts.{Says, IsScriptFault, IsScriptReading, script_of}

module _ (bytes : List ℕ) where
  only_fault : HasOneFault → (fault : TextFault) → SpellsNone bytes → IsFirstFault bytes fault → (other : TextFault) → IsScriptFault bytes other → fault ≡ other
  only_fault law fault none first other (inl (unspelled, second)) = law bytes fault other first second
  only_fault law fault none first other (inr said) = absurd (none said.trees said.spelled)

  -- the first fault of a text that spells no trees is that of its script
  pub unspelled_fault : HasOneFault → (why : TextErr) → IsTreeReading bytes (Err why) → IsScriptReading bytes (Err why)
  unspelled_fault law (text_err.At fault) (none, first) = (λ X said. none said.trees said.spelled, inl (none, first), only_fault law fault none first)
  unspelled_fault law text_err.NoMemory h = tt

  module _ (trees : List Tree) (spelled : IsTreeReading bytes (Ok trees)) where
    abbrev script : Reading ScriptView
    script = script_of trees (length bytes)

    said : (reading : Reading ScriptView) → script ≡ reading → Says bytes reading
    said reading h = record { trees = trees; spelled = spelled.0; stands = h }

    one : (reading : Reading ScriptView) → Says bytes reading → script ≡ reading
    one reading h = ap (λ (l : List Tree). script_of l (length bytes)) (spelled.1 h.trees h.spelled) ∙ h.stands

    no_fault : (fault other : TextFault) → script ≡ Err fault → IsScriptFault bytes other → fault ≡ other
    no_fault fault other h (inl (unspelled, second)) = absurd (unspelled trees spelled.0)
    no_fault fault other h (inr there) = same (sym h ∙ one (Err other) there)
      where
        same : ◌≡◌ {A = Reading ScriptView} (Err fault) (Err other) → fault ≡ other
        same e = cc

    no_script : (fault : TextFault) (X : ScriptView) → script ≡ Err fault → Says bytes (Ok X) → ⊥
    no_script fault X h there = apart (sym h ∙ one (Ok X) there)
      where
        apart : ◌≡◌ {A = Reading ScriptView} (Err fault) (Ok X) → ⊥
        apart e = cc

    -- what the trees come to is what the bytes do
    pub spelled_reading : (result : Result ScriptView TextErr) → Tells result script → IsScriptReading bytes result
    spelled_reading (Ok X) h = (said (Ok X) (sym h), λ other there. same other (h ∙ one (Ok other) there))
      where
        same : (other : ScriptView) → ◌≡◌ {A = Reading ScriptView} (Ok X) (Ok other) → X ≡ other
        same other e = cc
    spelled_reading (Err (text_err.At fault)) h =
        (λ X there. no_script fault X (sym h) there, inr (said (Err fault) (sym h)), λ other there. no_fault fault other (sym h) there)
    spelled_reading (Err text_err.NoMemory) h = tt
