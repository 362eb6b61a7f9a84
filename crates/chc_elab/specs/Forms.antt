-- What the first tree of a group makes of the group.
use Rattle.std.specs.Prelude.{ℕ, cond, List, [], ◌∷◌, Ok, codes}
use Rattle.std.specs.Str.{bytes_eq}
use Rattle.chc_sexpr.specs.declared.tree.Tree.{Tree, out-Tree}
use Rattle.chc_sexpr.specs.declared.tree.Tree.TheOpen.{Tree-F}
use Rattle.chc_sexpr.specs.declared.tree.Tree.TheVariants as tree
use Rattle.chc_sexpr.specs.declared.fault.Fault.TheVariants.{BadCommand}
use Rattle.chc_terms.specs.declared.term.Kind.TheVariants as kind
use Rattle.chc_elab.specs.declared.form.Form.{Form}
use Rattle.chc_elab.specs.declared.form.Form.TheVariants as form
use Rattle.chc_elab.specs.Sites.{Setting, Reading, faulty, ◌>>>◌}
use Rattle.chc_elab.specs.Heads.{symbol_head, group_head, lone_qualified, unsupported}

module _ (setting : Setting) where
  -- a group headed by a reserved word
  abbrev pub word_form : ℕ → Tree → List ℕ → List Tree → Reading Form
  word_form place first word args =
      cond (bytes_eq word (codes "let")) (Ok form.Let)
      (cond (bytes_eq word (codes "forall")) (Ok (form.Quantifier kind.Forall))
      (cond (bytes_eq word (codes "exists")) (Ok (form.Quantifier kind.Exists))
      (cond (bytes_eq word (codes "!")) (Ok form.Annotated)
      (cond (bytes_eq word (codes "as")) (lone_qualified setting (tree.Group place (first ∷ args)) args >>> (λ h. Ok (form.Alone h)))
      (cond (bytes_eq word (codes "_")) (unsupported (tree.Group place (first ∷ args)))
      (cond (bytes_eq word (codes "match")) (unsupported first)
      (faulty place BadCommand [])))))))

  -- a group by the level of its first tree
  abbrev pub form_at : ℕ → Tree → List Tree → Tree-F Tree → Reading Form
  form_at place first args (Tree-F.Symbol at name) = symbol_head setting at name >>> (λ h. Ok (form.Applied h))
  form_at place first args (Tree-F.Word at word) = word_form place first word args
  form_at place first args (Tree-F.Keyword at word) = faulty place BadCommand []
  form_at place first args (Tree-F.Numeral at n) = faulty place BadCommand []
  form_at place first args (Tree-F.Text at bytes) = unsupported first
  form_at place first args (Tree-F.Other at token) = unsupported first
  form_at place first args (Tree-F.Group at trees) = group_head setting place first trees >>> (λ h. Ok (form.Applied h))

  -- the form of a group at the place, of these trees
  abbrev pub form_of : ℕ → List Tree → Reading Form
  form_of place [] = faulty place BadCommand []
  form_of place (first ∷ args) = form_at place first args (out-Tree first)
