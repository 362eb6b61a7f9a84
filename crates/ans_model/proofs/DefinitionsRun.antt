-- The trees of definitions, read one after the other: each adds its own definition to the draft.
use Rattle.std.proofs.Common.{◌≡◌, ◌∙◌, sym, ap, refl, subst, ℕ, ◌+◌, true, false, cond, List, [], ◌∷◌, ◌++◌, length, Option, Some, None, Ok, slice_get, append_assoc}
use Rattle.std.specs.Prelude.{is_some}
use Rattle.chc_sorts.specs.Names.{look_up}
use Rattle.chc_sexpr.specs.declared.fault.Fault.TheVariants.{NameTaken, Twice, WrongParams}
use Rattle.chc_sexpr.specs.declared.tree.Tree.{Tree, out-Tree}
use Rattle.chc_sexpr.proofs.Written.{TreesAt, Writes, next_at, no_more_at}
use Rattle.chc_elab.specs.Sites.{Reading, faulty, ◌>>>◌}
use Rattle.chc_elab.specs.SortTrees.{place_at}
use Rattle.chc_state.specs.declared.defs.Def.{Def}
use Rattle.ans_model.specs.declared.draft.Draft.{Draft}
use Rattle.ans_model.specs.Answers.{all_defined, defined, defined_by}
use Rattle.ans_model.specs.Defining.{definition, is_taken, new_name}
use Rattle.ans_model.specs.Drafts.{TargetView, owner, placed, setting, suits, with_definition, with_entry}
use Rattle.ans_model.specs.Forms.{FormView, all_fit, definition_form, misfit}
use Rattle.ans_model.proofs.FormsWritten.{IsBody, IsDefinitionTree, form_reads}

-- ---- trees in order

module _ (Step : Draft → Draft → Tree → Type 0) where
  -- the trees take the one draft to the other, each of them by one step
  abbrev pub Leads : Draft → Draft → List Tree → Type 0
  Leads d end [] = d ≡ end
  Leads d end (t ∷ ts) = (next : Draft) × Step d next t × Leads next end ts

  -- behind a line feed, the text is such trees, inside a group
  abbrev pub Runs : Draft → Draft → List ℕ → Type 0
  Runs d end bytes = (place : ℕ) → TreesAt (Leads d end) 999 false place (10 ∷ bytes)

  pub runs_out : (d : Draft) → Runs d d []
  runs_out d place = no_more_at (Leads d d) 999 false place (10 ∷ []) refl refl

  pub runs_line : (d next end : Draft) (line rest : List ℕ) → Writes (Step d next) 999 line → Runs next end rest → Runs d end ((line ++ 10 ∷ []) ++ rest)
  runs_line d next end line rest writes runs place =
      subst (λ (bytes : List ℕ). TreesAt (Leads d end) 999 false place (10 ∷ bytes)) (sym (append_assoc line (10 ∷ []) rest))
      (next_at (Step d next) (Leads next end) (Leads d end) 999 false place (10 ∷ []) line (10 ∷ rest) refl
      (writes (place + 1) (10 ∷ rest) refl) (runs (place + 1 + length line))
      (λ t ts one more. (next, one, more)))

module _ (target : TargetView) where
  -- the tree has the form of a definition, and takes the one draft to the other
  pub record Adds (d e : Draft) (tree : Tree) : Type 0 where
    pub fits : is_some (definition_form tree) ≡ true
    pub adds : defined_by target d tree (definition_form tree) ≡ Ok e

  pub all_fitting : (d end : Draft) (trees : List Tree) → Leads Adds d end trees → all_fit trees ≡ Ok tt
  all_fitting d end [] h = refl
  all_fitting d end (t ∷ ts) (next, one, more) = ap (λ b. cond b (all_fit ts) (misfit t)) one.fits ∙ all_fitting next end ts more

  pub all_adding : (d end : Draft) (trees : List Tree) → Leads Adds d end trees → all_defined target d trees ≡ Ok end
  all_adding d end [] h = ap Ok h
  all_adding d end (t ∷ ts) (next, one, more) = ap (λ r. r >>> (λ e. all_defined target e ts)) one.adds ∙ all_adding next end ts more

  -- ---- one definition

  -- a new name, by what it is not
  pub record IsNew (d : Draft) (name : List ℕ) : Type 0 where
    pub untaken : is_taken target.state.sig name ≡ false
    pub undefined : look_up d.symbols name ≡ None

  pub new_is : (d : Draft) (place : ℕ) (name : List ℕ) → IsNew d name → new_name (setting target d) place name ≡ Ok tt
  new_is d place name new =
      ap (λ b. cond b (faulty place NameTaken name) (cond (is_some (look_up d.symbols name)) (faulty place Twice name) (Ok tt))) new.untaken
      ∙ ap (λ o. cond (is_some o) (faulty place Twice name) (Ok tt)) new.undefined

  -- the draft with the definition of that name and owner
  abbrev pub with_owner : Draft → List ℕ → Def → Option ℕ → Draft
  with_owner d name def None = with_definition d name def
  with_owner d name def (Some p) = with_definition (with_entry d p) name def

  -- the definition is of the sorts of its owner
  abbrev pub SuitsOwner : Def → Option ℕ → Type 0
  SuitsOwner def None = Unit {0}
  SuitsOwner def (Some p) = suits (slice_get target.state.preds p) def ≡ true

  pub placed_is : (d : Draft) (place : ℕ) (name : List ℕ) (def : Def) (o : Option ℕ) → SuitsOwner def o → placed target d place name def o ≡ Ok (with_owner d name def o)
  placed_is d place name def None h = refl
  placed_is d place name def (Some p) h = ap (λ b. cond b (Ok (with_definition (with_entry d p) name def)) (faulty place WrongParams name)) h

  defined_is : (d : Draft) (place : ℕ) (name : List ℕ) (def : Def) (f : FormView) (o : Option ℕ) → f.name ≡ name → IsNew d name → definition (setting target d) place f ≡ Ok def
      → owner target name ≡ o → SuitsOwner def o → defined target d place f ≡ Ok (with_owner d name def o)
  defined_is d place name def f o same new read whose suits =
      let more : List ℕ → Reading Draft = λ n. definition (setting target d) place f >>> (λ e. placed target d place n e (owner target n)) in
      ap (λ n. new_name (setting target d) place n >>> (λ _. more n)) same
      ∙ ap (λ r. r >>> (λ _. more name)) (new_is d place name new)
      ∙ ap (λ r. r >>> (λ e. placed target d place name e (owner target name))) read
      ∙ ap (placed target d place name def) whose
      ∙ placed_is d place name def o suits

  -- a tree of that form adds the definition
  pub tree_adds : (d : Draft) (prefix name : List ℕ) (def : Def) (o : Option ℕ) → IsNew d name → owner target name ≡ o → SuitsOwner def o
      → (tree : Tree) → IsDefinitionTree (setting target d) prefix name def (IsBody (setting target d) prefix def) tree → Adds d (with_owner d name def o) tree
  tree_adds d prefix name def o new whose suits tree t = record {
    fits = ap is_some t.is;
    adds = ap (defined_by target d tree) t.is
        ∙ defined_is d (place_at (out-Tree tree)) name def t.form o t.named new (form_reads (setting target d) prefix def name tree t (place_at (out-Tree tree))) whose suits;
  }
