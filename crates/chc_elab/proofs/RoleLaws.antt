-- The ways in which trees of each kind are read.
use Rattle.std.proofs.Common.{◌≡◌, ap, ℕ, ℤ, List, [], Ok}
use Rattle.chc_sexpr.specs.declared.tree.Tree.{Tree}
use Rattle.chc_sexpr.specs.declared.tree.Tree.TheVariants as tree
use Rattle.chc_sexpr.specs.declared.fault.Fault.TheVariants.{BadCommand}
use Rattle.chc_sexpr.proofs.Folds.{para-Symbol, para-Word, para-Keyword, para-Numeral, para-Text, para-Other, para-Group}
use Rattle.chc_elab.specs.Sites.{Site, Setting, faulty}
use Rattle.chc_elab.specs.Heads.{unsupported}
use Rattle.chc_elab.specs.Reads.{Roles, roles_step, roles_of, read_at, beside, alone, number, lone_word, symbol_read, group_read, second_read, seconds_read}

-- all the roles of trees of each kind
module _ (setting : Setting) where
  pub roles-Symbol : (place : ℕ) (name : List ℕ) → roles_of setting (tree.Symbol place name) ≡ alone (symbol_read setting place name)
  unfolding roles_of
  roles-Symbol place name = para-Symbol Roles (roles_step setting) place name

  pub roles-Word : (place : ℕ) (word : List ℕ) → roles_of setting (tree.Word place word) ≡ alone (λ site. lone_word place word)
  unfolding roles_of
  roles-Word place word = para-Word Roles (roles_step setting) place word

  pub roles-Keyword : (place : ℕ) (word : List ℕ) → roles_of setting (tree.Keyword place word) ≡ alone (λ site. faulty place BadCommand [])
  unfolding roles_of
  roles-Keyword place word = para-Keyword Roles (roles_step setting) place word

  pub roles-Numeral : (place : ℕ) (n : ℤ) → roles_of setting (tree.Numeral place n) ≡ alone (λ site. Ok (number n))
  unfolding roles_of
  roles-Numeral place n = para-Numeral Roles (roles_step setting) place n

  pub roles-Text : (place : ℕ) (bytes : List ℕ) → roles_of setting (tree.Text place bytes) ≡ alone (λ site. unsupported (tree.Text place bytes))
  unfolding roles_of
  roles-Text place bytes = para-Text Roles (roles_step setting) place bytes

  pub roles-Other : (place : ℕ) (token : List ℕ) → roles_of setting (tree.Other place token) ≡ alone (λ site. unsupported (tree.Other place token))
  unfolding roles_of
  roles-Other place token = para-Other Roles (roles_step setting) place token

  pub roles-Group : (place : ℕ) (trees : List Tree)
      → roles_of setting (tree.Group place trees)
      ≡ record {
        whole = group_read setting place (beside setting trees);
        second = second_read (beside setting trees);
        seconds = seconds_read (beside setting trees);
      }
  unfolding roles_of
  roles-Group place trees = para-Group Roles (roles_step setting) place trees

-- each as a term
module _ (setting : Setting) where
  pub whole-Symbol : (place : ℕ) (name : List ℕ) (site : Site) → read_at setting (tree.Symbol place name) site ≡ symbol_read setting place name site
  whole-Symbol place name site = ap (λ (r : Roles). r.whole site) (roles-Symbol setting place name)

  pub whole-Word : (place : ℕ) (word : List ℕ) (site : Site) → read_at setting (tree.Word place word) site ≡ lone_word place word
  whole-Word place word site = ap (λ (r : Roles). r.whole site) (roles-Word setting place word)

  pub whole-Keyword : (place : ℕ) (word : List ℕ) (site : Site) → read_at setting (tree.Keyword place word) site ≡ faulty place BadCommand []
  whole-Keyword place word site = ap (λ (r : Roles). r.whole site) (roles-Keyword setting place word)

  pub whole-Numeral : (place : ℕ) (n : ℤ) (site : Site) → read_at setting (tree.Numeral place n) site ≡ Ok (number n)
  whole-Numeral place n site = ap (λ (r : Roles). r.whole site) (roles-Numeral setting place n)

  pub whole-Text : (place : ℕ) (bytes : List ℕ) (site : Site) → read_at setting (tree.Text place bytes) site ≡ unsupported (tree.Text place bytes)
  whole-Text place bytes site = ap (λ (r : Roles). r.whole site) (roles-Text setting place bytes)

  pub whole-Other : (place : ℕ) (token : List ℕ) (site : Site) → read_at setting (tree.Other place token) site ≡ unsupported (tree.Other place token)
  whole-Other place token site = ap (λ (r : Roles). r.whole site) (roles-Other setting place token)

  pub whole-Group : (place : ℕ) (trees : List Tree) (site : Site)
      → read_at setting (tree.Group place trees) site ≡ group_read setting place (beside setting trees) site
  whole-Group place trees site = ap (λ (r : Roles). r.whole site) (roles-Group setting place trees)

-- groups in their other roles
module _ (setting : Setting) where
  pub second-Group : (place : ℕ) (trees : List Tree) (site : Site)
      → (roles_of setting (tree.Group place trees)).second site ≡ second_read (beside setting trees) site
  second-Group place trees site = ap (λ (r : Roles). r.second site) (roles-Group setting place trees)

  pub seconds-Group : (place : ℕ) (trees : List Tree) (site : Site)
      → (roles_of setting (tree.Group place trees)).seconds site ≡ seconds_read (beside setting trees) site
  seconds-Group place trees site = ap (λ (r : Roles). r.seconds site) (roles-Group setting place trees)

-- the equations of readings
pub ruleset role_equations = (whole-Symbol, whole-Word, whole-Keyword, whole-Numeral, whole-Text, whole-Other, whole-Group, second-Group, seconds-Group)
