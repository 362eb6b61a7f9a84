-- The texts of a state's terms spell trees that stand for them.
use Rattle.std.proofs.Common.{◌≡◌, ◌∙◌, refl, ap, ℕ, ◌+◌, ◌≤◌, ◌^◌, true, List, [], ◌∷◌, ◌++◌, length, map, Some, arith}
use Rattle.std.proofs.lemmas.Option.{none-some}
use Rattle.chc_sorts.specs.Signature.{Signature}
use Rattle.chc_sorts.specs.declared.sort.Sort.{Sort}
use Rattle.chc_sexpr.specs.Spelling.{Spells}
use Rattle.chc_sexpr.specs.Symbols.{symbol_text}
use Rattle.chc_sexpr.specs.declared.tree.Tree.{Tree}
use Rattle.chc_sexpr.proofs.Written.{TreesAt, Writes, spells_from}
use Rattle.chc_terms.specs.declared.term.Term.{Term}
use Rattle.chc_terms.specs.Counts.{size, depth, depth_all, greatest}
use Rattle.chc_terms.specs.Sorted.{Context}
use Rattle.chc_state.specs.Sorts.{clause_context}
use Rattle.chc_state.specs.States.{StateView}
use Rattle.chc_print.specs.Reach.{terms_reach}
use Rattle.chc_print.specs.Texts.{applied, term_text, term_texts}
use Rattle.chc_print.specs.Script.{names_over}
use Rattle.chc_elab.specs.declared.symbols.Symbol.{Symbol}
use Rattle.chc_elab.specs.declared.typed.Typed.{Typed}
use Rattle.chc_elab.specs.Building.{declared_sort, declared_term}
use Rattle.chc_elab.specs.Limits.{most_nodes, most_levels}
use Rattle.chc_elab.specs.Sites.{Setting}
use Rattle.chc_elab.specs.Stands.{Stands, IsRead, IsSaid, IsWithin, AreFew}
use Rattle.term_again.specs.Bound.{most_bound}
use Rattle.term_again.specs.Naming.{AreNamedFor, IsNamedContext, NamesAreRead, NamesSymbol, numbered_site}
use Rattle.term_again.specs.Terms.{CanAllBeWritten, IsTermOver, SpellsOne, TermsAreReadAgain, TermsAreSaidAgain}
use Rattle.term_again.proofs.TermLimits.{AreLimits, IsSmall, read_limits, no_limits}
use Rattle.term_again.proofs.TermNames.{names_are_read}
use Rattle.term_again.proofs.TermReach.{over, can_be_written_front, can_all_be_written_front}
use Rattle.term_again.proofs.TermTrees.{IsNone, Begins, writes_wider, last_at}
use Rattle.term_again.proofs.TermWritten.{term_written, symbol_written}

-- a text that is written as one tree spells it
spells_one : (kind : Tree → Type 0) (text : List ℕ) → Writes kind 1000 text → SpellsOne text kind
spells_one kind text writes =
    let all : TreesAt (Begins kind IsNone) 1000 true 0 text = last_at 1000 true kind 0 [] text refl writes in
    let found = spells_from (Begins kind IsNone) text all in
    alone found.0 found.1 found.2
  where
    alone : (trees : List Tree) → Spells text trees → Begins kind IsNone trees → SpellsOne text kind
    alone [] spells is = absurd is
    alone (t ∷ []) spells is = (t, spells, is.0)
    alone (t ∷ u ∷ more) spells is = absurd is.1

module _ (s : StateView) (preds all calls : List (List ℕ)) (prefix : List ℕ) (setting : Setting) (named : AreNamedFor s preds prefix setting) where
  -- the names of the state's texts are read under the setting
  pub names_read : NamesAreRead s.sig setting.sig prefix
  names_read = names_are_read s.sig setting.sig named.more preds prefix named.front named.fresh named.writable named.variables.free

  module _ (cx : Context) (context : IsNamedContext s all calls prefix setting cx) where
    first_datatypes : cx.sig.datatypes ≡ setting.sig.datatypes ++ named.more
    first_datatypes = ap (λ (sig : Signature). sig.datatypes) context.sig ∙ named.front

    -- a term of the state is written as a tree that stands for it, within any limits
    pub state_term_written : (Fits : Typed → Type 0) (Few : List Typed → Type 0) (Allowed : Term → Type 0) → AreLimits Fits Few Allowed
        → (vars : List Sort) (t : Term) (of : Sort) → IsTermOver cx setting vars t of → Allowed t
        → Writes (λ tree. Stands setting Fits Few (numbered_site prefix vars) tree (record { term = t; sort = of })) (depth t + 17)
        (term_text (names_over s all calls prefix) t (length vars))
    state_term_written Fits Few Allowed limits vars t of term allowed =
        term_written (names_over s all calls prefix) setting (over setting.sig cx) refl named.variables.marks named.variables.form names_read
        (record { predicate = context.predicate; definition = context.definition }) Fits Few Allowed limits t vars of
        (can_be_written_front cx setting.sig named.more first_datatypes vars t of term.near term.can) allowed term.few

    -- within the limits of terms that are read, it is read
    pub read_term_written : (vars : List Sort) (t : Term) (of : Sort) → IsTermOver cx setting vars t of → (size t ≤ most_nodes) × (depth t ≤ most_levels)
        → Writes (λ tree. IsRead setting (numbered_site prefix vars) tree (record { term = t; sort = of })) (depth t + 17) (term_text (names_over s all calls prefix) t (length vars))
    read_term_written = state_term_written IsWithin AreFew IsSmall read_limits

    -- without limits, it is said
    pub said_term_written : (vars : List Sort) (t : Term) (of : Sort) → IsTermOver cx setting vars t of
        → Writes (λ tree. IsSaid setting (numbered_site prefix vars) tree (record { term = t; sort = of })) (depth t + 17) (term_text (names_over s all calls prefix) t (length vars))
    said_term_written vars t of term = state_term_written (λ t. Unit {0}) (λ args. Unit {0}) (λ t. Unit {0}) no_limits vars t of term tt

    -- and so is what a declared name gives on such terms
    pub read_symbol_written : (what : Symbol) (name : List ℕ) → NamesSymbol setting prefix what name → (vars : List Sort) (ts : List Term) (ss : List Sort) (of : Sort) → declared_sort what ss ≡ Some of
        → CanAllBeWritten cx vars ts ss → terms_reach ts ≤ length setting.sig.datatypes → IsSmall (declared_term what ts) → length vars + greatest (map most_bound ts) ≤ 2 ^ 64
        → Writes (λ tree. IsRead setting (numbered_site prefix vars) tree (record { term = declared_term what ts; sort = of })) (depth_all ts + 18)
        (applied (symbol_text name) (term_texts (names_over s all calls prefix) (length vars) ts))
    read_symbol_written what name called vars ts ss of sorted can near small few =
        symbol_written (names_over s all calls prefix) setting (over setting.sig cx) refl named.variables.marks named.variables.form names_read
        (record { predicate = context.predicate; definition = context.definition }) IsWithin AreFew IsSmall read_limits what name called ts vars ss of sorted
        (can_all_be_written_front cx setting.sig named.more first_datatypes vars ts ss near can) small few

-- clauses name no predicate and no definition in their terms
pub clause_names : (s : StateView) (all calls : List (List ℕ)) (prefix : List ℕ) (setting : Setting) → IsNamedContext s all calls prefix setting (clause_context s.sig)
clause_names s all calls prefix setting = record { sig = refl; predicate = λ p sorts h. absurd (none-some sorts h); definition = λ k f h. absurd (none-some f h) }

pub terms_are_read_again : TermsAreReadAgain
terms_are_read_again s preds all calls prefix setting named cx context vars t of term small =
    let text = term_text (names_over s all calls prefix) t (length vars) in
    let kind : Tree → Type 0 = λ tree. IsRead setting (numbered_site prefix vars) tree (record { term = t; sort = of }) in
    let low = small.1 in
    spells_one kind text
    (writes_wider kind kind (depth t + 17) 1000 (omega arith) (λ tree is. is) text (read_term_written s preds all calls prefix setting named cx context vars t of term small))

pub terms_are_said_again : TermsAreSaidAgain
terms_are_said_again s preds all calls prefix setting named cx context vars t of term low =
    let text = term_text (names_over s all calls prefix) t (length vars) in
    let kind : Tree → Type 0 = λ tree. IsSaid setting (numbered_site prefix vars) tree (record { term = t; sort = of }) in
    spells_one kind text
    (writes_wider kind kind (depth t + 17) 1000 (omega arith) (λ tree is. is) text (said_term_written s preds all calls prefix setting named cx context vars t of term))
