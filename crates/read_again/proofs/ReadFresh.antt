-- The names of the signature of a script that is read differ, and none is fixed.
use Rattle.std.proofs.Common.{◌≡◌, refl, subst, ℕ, Bool, true, false, cond, List, [], ◌∷◌, length, Option, Some, None, Ok, Err, codes}
use Rattle.std.specs.Str.{bytes_eq}
use Rattle.chc_sorts.specs.declared.refusal.SigErr.{SigErr}
use Rattle.chc_sorts.specs.declared.refusal.SigErr.TheVariants as refusal
use Rattle.chc_sorts.specs.declared.spec.DataSpec.{DataSpec}
use Rattle.chc_sorts.specs.declared.sort.Sort.{Sort}
use Rattle.chc_sorts.specs.Signature.{no_datatypes}
use Rattle.chc_sorts.specs.Groups.{with_group, first_refusal}
use Rattle.chc_sexpr.specs.declared.tree.Tree.{Tree, out-Tree}
use Rattle.chc_sexpr.specs.Shapes.{symbol_of, group_of, form_of}
use Rattle.chc_elab.specs.Sites.{Reading, faulty, ◌>>>◌}
use Rattle.chc_elab.specs.SortTrees.{place_at}
use Rattle.chc_elab.specs.Reads.{elaborated_with_sort}
use Rattle.chc_terms.specs.declared.term.Term.{Term}
use Rattle.chc_state.specs.declared.clause.Clause.{Clause}
use Rattle.chc_sexpr.specs.declared.fault.Fault.TheVariants.{OtherLogic, UnknownCommand, AfterCheck, NoCheck}
use Rattle.chc_script.specs.declared.whole.progress.Progress.{Progress}
use Rattle.chc_script.specs.declared.whole.progress.Progress.TheVariants as progress
use Rattle.chc_script.specs.Asserts.{condition, clause_at, clause_added, assertion_added, asserted, assert}
use Rattle.chc_script.specs.Commands.{bad, under_logic, horn_set, logic_set, set_logic, free_name, truth_values, sorts_after, predicate_added, declared, fun_parts, declare_fun, const_parts, declare_const, group_added, group_declared, datatypes_parts, declare_datatypes, single_declared, datatype_parts, declare_datatype, script, check_sat, unknown}
use Rattle.chc_script.specs.Datatypes.{verdict_at, group_verdict, added_at, group_read, single_read, are_shaped, is_body}
use Rattle.chc_script.specs.Drafts.{DraftView, fresh as no_draft, setting, with_logic, with_sig, with_preds, with_asserted, with_predicate, with_assertion, held_to, passed_by_predicate, passed_by_clause, passed_by_all}
use Rattle.chc_script.specs.Horn.{clause_of}
use Rattle.chc_script.specs.Inhabited.{first_without_value}
use Rattle.chc_script.specs.Scripts.{ScriptView}
use Rattle.chc_script.specs.WholeScripts.{is_ignored, declaring, going_on, command_named, command_at, may_follow, command, commands, at_end, Says}
use Rattle.term_again.specs.Naming.{AreFresh}
use Rattle.term_again.proofs.FreshSignatures.{fresh_with_group}

-- ---- readings

-- what is read, if anything is, has the property
abbrev pub OnRead : {A : Type 0} → (A → Type 0) → Reading A → Type 0
OnRead P (Ok a) = P a
OnRead P (Err fault) = Unit {0}

read_then : {A B : Type 0} (P : B → Type 0) (Q : A → Type 0) (r : Reading A) (f : A → Reading B) → OnRead Q r → ((a : A) → Q a → OnRead P (f a)) → OnRead P (r >>> f)
read_then P Q (Ok a) f q h = h a q
read_then P Q (Err fault) f q h = tt

whatever_then : {A B : Type 0} (P : B → Type 0) (r : Reading A) (f : A → Reading B) → ((a : A) → OnRead P (f a)) → OnRead P (r >>> f)
whatever_then P (Ok a) f h = h a
whatever_then P (Err fault) f h = tt

either_read : {A : Type 0} (P : A → Type 0) (b : Bool) (r s : Reading A) → OnRead P r → OnRead P s → OnRead P (cond b r s)
either_read P true r s h k = h
either_read P false r s h k = k

-- the signature of a draft is fresh
abbrev IsFresh : DraftView → Type 0
IsFresh d = AreFresh d.sig

module _ (d : DraftView) (place : ℕ) (fresh : IsFresh d) where
  logic_fresh : (o : Option (List ℕ)) → OnRead IsFresh (logic_set d place o)
  logic_fresh None = tt
  logic_fresh (Some name) =
      either_read IsFresh (bytes_eq name (codes "HORN")) (horn_set d place) (faulty place OtherLogic name)
      (either_read IsFresh d.logic (faulty place UnknownCommand (codes "set-logic")) (Ok (with_logic d)) tt fresh) tt

  set_logic_fresh : (args : List Tree) → OnRead IsFresh (set_logic d place args)
  set_logic_fresh [] = tt
  set_logic_fresh (logic ∷ []) = logic_fresh (symbol_of logic)
  set_logic_fresh (a ∷ b ∷ more) = tt

  added_fresh : (t : Term) (c : Clause) → OnRead IsFresh (clause_added d place t c)
  added_fresh t c = whatever_then IsFresh (held_to place (passed_by_clause d.asserted.clauses c)) (λ _. Ok (with_asserted (with_assertion d.asserted t c) d)) (λ a. fresh)

  asserted_fresh : (tree : Tree) → OnRead IsFresh (asserted d place tree)
  asserted_fresh tree =
      whatever_then IsFresh (under_logic d place) (λ _. elaborated_with_sort (setting d) [] [] tree >>> (λ t. condition place t >>> (λ _. assertion_added d place t.term)))
      (λ _. whatever_then IsFresh (elaborated_with_sort (setting d) [] [] tree) (λ t. condition place t >>> (λ _. assertion_added d place t.term))
      (λ t. whatever_then IsFresh (condition place t) (λ _. assertion_added d place t.term)
      (λ _. whatever_then IsFresh (clause_at place (clause_of t.term)) (λ c. clause_added d place t.term c) (added_fresh t.term))))

  assert_fresh : (args : List Tree) → OnRead IsFresh (assert d place args)
  assert_fresh [] = tt
  assert_fresh (tree ∷ []) = asserted_fresh tree
  assert_fresh (a ∷ b ∷ more) = tt

  predicate_fresh : (name : List ℕ) (sorts : List Sort) → OnRead IsFresh (predicate_added d place name sorts)
  predicate_fresh name sorts = whatever_then IsFresh (held_to place (passed_by_predicate d.preds.decls sorts)) (λ _. Ok (with_preds (with_predicate d.preds name sorts) d)) (λ a. fresh)

  declared_fresh : (name : List ℕ) (positions : List Tree) (values : Tree) → OnRead IsFresh (declared d place name positions values)
  declared_fresh name positions values =
      whatever_then IsFresh (under_logic d place) (λ _. free_name d place name >>> (λ _. truth_values place name values >>> (λ _. sorts_after d.sig [] positions >>> (λ sorts. predicate_added d place name sorts))))
      (λ _. whatever_then IsFresh (free_name d place name) (λ _. truth_values place name values >>> (λ _. sorts_after d.sig [] positions >>> (λ sorts. predicate_added d place name sorts)))
      (λ _. whatever_then IsFresh (truth_values place name values) (λ _. sorts_after d.sig [] positions >>> (λ sorts. predicate_added d place name sorts))
      (λ _. whatever_then IsFresh (sorts_after d.sig [] positions) (λ sorts. predicate_added d place name sorts) (predicate_fresh name))))

  fun_fresh : (values : Tree) (name : Option (List ℕ)) (positions : Option (List Tree)) → OnRead IsFresh (fun_parts d place values name positions)
  fun_fresh values None positions = tt
  fun_fresh values (Some name) None = tt
  fun_fresh values (Some name) (Some positions) = declared_fresh name positions values

  declare_fun_fresh : (args : List Tree) → OnRead IsFresh (declare_fun d place args)
  declare_fun_fresh [] = tt
  declare_fun_fresh (a ∷ []) = tt
  declare_fun_fresh (a ∷ b ∷ []) = tt
  declare_fun_fresh (name ∷ positions ∷ values ∷ []) = fun_fresh values (symbol_of name) (group_of positions)
  declare_fun_fresh (a ∷ b ∷ c ∷ e ∷ more) = tt

  const_fresh : (values : Tree) (name : Option (List ℕ)) → OnRead IsFresh (const_parts d place values name)
  const_fresh values None = tt
  const_fresh values (Some name) = declared_fresh name [] values

  declare_const_fresh : (args : List Tree) → OnRead IsFresh (declare_const d place args)
  declare_const_fresh [] = tt
  declare_const_fresh (a ∷ []) = tt
  declare_const_fresh (name ∷ values ∷ []) = const_fresh values (symbol_of name)
  declare_const_fresh (a ∷ b ∷ c ∷ more) = tt

  -- ---- groups of datatypes

  verdict_fresh : (group : List DataSpec) (o : Option SigErr) (empty : Option (List ℕ)) → first_refusal d.sig group d.preds.names ≡ o
      → OnRead (λ sig. AreFresh sig) (added_at place (verdict_at o empty (with_group d.sig group)))
  verdict_fresh group (Some (refusal.NameTaken name)) empty e = tt
  verdict_fresh group (Some (refusal.UnknownSort name)) empty e = tt
  verdict_fresh group (Some refusal.ArrayIndex) empty e = tt
  verdict_fresh group (Some refusal.SortTooDeep) empty e = tt
  verdict_fresh group (Some (refusal.TooMany limit)) empty e = tt
  verdict_fresh group (Some (refusal.NotWellFounded name)) empty e = tt
  verdict_fresh group (Some refusal.NoMemory) empty e = tt
  verdict_fresh group None (Some name) e = tt
  verdict_fresh group None None e = fresh_with_group d.sig group d.preds.names e fresh

  group_fresh : (group : List DataSpec) → OnRead IsFresh (group_added d place group)
  group_fresh group =
      read_then IsFresh (λ sig. AreFresh sig) (added_at place (group_verdict d.sig group d.preds.names)) (λ sig. Ok (with_sig sig d))
      (verdict_fresh group (first_refusal d.sig group d.preds.names) (first_without_value (with_group d.sig group).datatypes) refl) (λ sig f. f)

  group_declared_fresh : (heads bodies : List Tree) → OnRead IsFresh (group_declared d place heads bodies)
  group_declared_fresh heads bodies =
      whatever_then IsFresh (under_logic d place) (λ _. group_read place heads bodies >>> (λ group. group_added d place group))
      (λ _. whatever_then IsFresh (group_read place heads bodies) (λ group. group_added d place group) group_fresh)

  datatypes_fresh : (heads bodies : Option (List Tree)) → OnRead IsFresh (datatypes_parts d place heads bodies)
  datatypes_fresh None bodies = tt
  datatypes_fresh (Some heads) None = tt
  datatypes_fresh (Some heads) (Some bodies) = either_read IsFresh (are_shaped heads bodies) (group_declared d place heads bodies) (bad place) (group_declared_fresh heads bodies) tt

  declare_datatypes_fresh : (args : List Tree) → OnRead IsFresh (declare_datatypes d place args)
  declare_datatypes_fresh [] = tt
  declare_datatypes_fresh (a ∷ []) = tt
  declare_datatypes_fresh (heads ∷ bodies ∷ []) = datatypes_fresh (group_of heads) (group_of bodies)
  declare_datatypes_fresh (a ∷ b ∷ c ∷ more) = tt

  single_fresh : (name : List ℕ) (body : Tree) → OnRead IsFresh (single_declared d place name body)
  single_fresh name body =
      whatever_then IsFresh (under_logic d place) (λ _. single_read place name body >>> (λ group. group_added d place group))
      (λ _. whatever_then IsFresh (single_read place name body) (λ group. group_added d place group) group_fresh)

  datatype_fresh : (body : Tree) (name : Option (List ℕ)) → OnRead IsFresh (datatype_parts d place body name)
  datatype_fresh body None = tt
  datatype_fresh body (Some name) = either_read IsFresh (is_body body) (single_declared d place name body) (bad place) (single_fresh name body) tt

  declare_datatype_fresh : (args : List Tree) → OnRead IsFresh (declare_datatype d place args)
  declare_datatype_fresh [] = tt
  declare_datatype_fresh (a ∷ []) = tt
  declare_datatype_fresh (name ∷ body ∷ []) = datatype_fresh body (symbol_of name)
  declare_datatype_fresh (a ∷ b ∷ c ∷ more) = tt

  -- ---- commands

  unknown_fresh : (name : List ℕ) → OnRead IsFresh (unknown d place name)
  unknown_fresh name = whatever_then IsFresh (under_logic d place) (λ _. faulty place UnknownCommand name) (λ _. tt)

  declaring_fresh : (name : List ℕ) (args : List Tree) → OnRead IsFresh (declaring d place name args)
  declaring_fresh name args =
      either_read IsFresh (bytes_eq name (codes "declare-fun")) (declare_fun d place args) _ (declare_fun_fresh args)
      (either_read IsFresh (bytes_eq name (codes "declare-const")) (declare_const d place args) _ (declare_const_fresh args)
      (either_read IsFresh (bytes_eq name (codes "declare-datatypes")) (declare_datatypes d place args) _ (declare_datatypes_fresh args)
      (either_read IsFresh (bytes_eq name (codes "declare-datatype")) (declare_datatype d place args) _ (declare_datatype_fresh args) (unknown_fresh name))))

  going_on_fresh : (name : List ℕ) (args : List Tree) → OnRead IsFresh (going_on d place name args)
  going_on_fresh name args =
      either_read IsFresh (is_ignored name) (Ok d) _ fresh
      (either_read IsFresh (bytes_eq name (codes "set-logic")) (set_logic d place args) _ (set_logic_fresh args)
      (either_read IsFresh (bytes_eq name (codes "assert")) (assert d place args) _ (assert_fresh args) (declaring_fresh name args)))

  -- the signature of a script is fresh
  abbrev IsFreshScript : ScriptView → Type 0
  IsFreshScript X = AreFresh X.state.sig

  check_fresh : (args : List Tree) → OnRead IsFreshScript (check_sat d place args)
  check_fresh [] =
      whatever_then IsFreshScript (under_logic d place) (λ _. held_to place (passed_by_all d.preds.decls d.asserted.clauses) >>> (λ _. Ok (script d)))
      (λ _. whatever_then IsFreshScript (held_to place (passed_by_all d.preds.decls d.asserted.clauses)) (λ _. Ok (script d)) (λ _. fresh))
  check_fresh (a ∷ more) = tt

-- the signature so far is fresh
abbrev HasFresh : Progress → Type 0
HasFresh (progress.Going d) = AreFresh d.sig
HasFresh (progress.Ended X) = AreFresh X.state.sig

named_fresh : (d : DraftView) (place : ℕ) → IsFresh d → (name : List ℕ) (args : List Tree) → OnRead HasFresh (command_named d place name args)
named_fresh d place fresh name args =
    either_read HasFresh (bytes_eq name (codes "check-sat")) (check_sat d place args >>> (λ X. Ok (progress.Ended X))) (going_on d place name args >>> (λ e. Ok (progress.Going e)))
    (read_then HasFresh (λ (X : ScriptView). AreFresh X.state.sig) (check_sat d place args) (λ X. Ok (progress.Ended X)) (check_fresh d place fresh args) (λ X f. f))
    (read_then HasFresh IsFresh (going_on d place name args) (λ e. Ok (progress.Going e)) (going_on_fresh d place fresh name args) (λ e f. f))

at_fresh : (d : DraftView) (place : ℕ) → IsFresh d → (form : Option (List ℕ × List Tree)) → OnRead HasFresh (command_at d place form)
at_fresh d place fresh None = tt
at_fresh d place fresh (Some (name, args)) = named_fresh d place fresh name args

command_fresh : (p : Progress) (tree : Tree) → HasFresh p → OnRead HasFresh (command p tree)
command_fresh (progress.Going d) tree fresh = at_fresh d (place_at (out-Tree tree)) fresh (form_of tree)
command_fresh (progress.Ended X) tree fresh =
    either_read HasFresh (may_follow (form_of tree)) (Ok (progress.Ended X)) (faulty (place_at (out-Tree tree)) AfterCheck []) fresh tt

commands_fresh : (trees : List Tree) (p : Progress) → HasFresh p → OnRead HasFresh (commands p trees)
commands_fresh [] p fresh = fresh
commands_fresh (t ∷ ts) p fresh = read_then HasFresh HasFresh (command p t) (λ next. commands next ts) (command_fresh p t fresh) (λ next f. commands_fresh ts next f)

end_fresh : (place : ℕ) (p : Progress) → HasFresh p → OnRead (λ (X : ScriptView). AreFresh X.state.sig) (at_end place p)
end_fresh place (progress.Going d) fresh = whatever_then (λ (X : ScriptView). AreFresh X.state.sig) (under_logic d place) (λ _. faulty place NoCheck []) (λ _. tt)
end_fresh place (progress.Ended X) fresh = fresh

none_fresh : AreFresh no_datatypes
none_fresh = record { sorts_apart = refl; sorts_free = refl; functions_apart = refl; functions_free = refl }

-- the names of a script that bytes stand for differ, and none is fixed
pub read_fresh : (bytes : List ℕ) (X : ScriptView) → Says bytes (Ok X) → AreFresh X.state.sig
read_fresh bytes X says =
    subst (OnRead (λ (X : ScriptView). AreFresh X.state.sig)) says.stands
    (read_then (λ (X : ScriptView). AreFresh X.state.sig) HasFresh (commands (progress.Going no_draft) says.trees) (at_end (length bytes)) (commands_fresh says.trees (progress.Going no_draft) none_fresh) (end_fresh (length bytes)))
