-- The sort and the text of each variant of a value.
use Rattle.std.proofs.Common.{◌≡◌, ◌∙◌, sym, ap, ℕ, ℤ, Bool, List, [], ◌∷◌, ◌++◌, length, codes, append_assoc}
use Rattle.std.proofs.lemmas.List.{length-map, append-nil}
use Rattle.chc_sorts.specs.declared.sort.Sort.{Sort-F, fold-roll-Sort}
use Rattle.chc_sorts.specs.declared.sort.Sort.TheVariants as sort
use Rattle.chc_sorts.specs.declared.op.Op.TheVariants as op
use Rattle.chc_sorts.specs.Signature.{Signature}
use Rattle.chc_values.specs.declared.value.Value.{Value, Value-F, fold-roll-Value}
use Rattle.chc_values.specs.declared.value.Value.TheVariants as value
use Rattle.chc_sexpr.specs.Symbols.{symbol_text}
use Rattle.chc_print.specs.Texts.{applied, number_text, truth_text, sort_step, sort_text, op_text, ctor_name, data_name}
use Rattle.chc_print.specs.Values.{Written, written, written_step, value_sort, value_text, value_texts, entry_texts, constant_text, store_text, store_ending, stores_text, store_openings, store_endings}

written-Bool : (sig : Signature) (b : Bool) → written sig (value.Bool b) ≡ record { sort = sort.Bool; text = truth_text b }
written-Bool sig b = ap (written sig) (sym (value.rolls-Bool b)) ∙ fold-roll-Value Written (written_step sig) (Value-F.Bool b)

written-Int : (sig : Signature) (n : ℤ) → written sig (value.Int n) ≡ record { sort = sort.Int; text = number_text n }
written-Int sig n = ap (written sig) (sym (value.rolls-Int n)) ∙ fold-roll-Value Written (written_step sig) (Value-F.Int n)

written-Data : (sig : Signature) (d c : ℕ) (vs : List Value)
    → written sig (value.Data d c vs) ≡ record { sort = sort.Data d; text = applied (op_text sig (op.Make d c)) (value_texts sig vs) }
written-Data sig d c vs = ap (written sig) (sym (value.rolls-Data d c vs)) ∙ fold-roll-Value Written (written_step sig) (Value-F.Data d c vs)

written-Array : (sig : Signature) (v : Value) (es : List (ℤ × Value))
    → written sig (value.Array v es) ≡ record { sort = sort.Array (value_sort sig v); text = stores_text (constant_text sig (written sig v)) (entry_texts sig es) }
written-Array sig v es = ap (written sig) (sym (value.rolls-Array v es)) ∙ fold-roll-Value Written (written_step sig) (Value-F.Array v es)

regrouped : (before opening array ending after : List ℕ)
    → before ++ (opening ++ array ++ ending) ++ after ≡ (before ++ opening) ++ array ++ (ending ++ after)
regrouped before opening array ending after = simp append_assoc

-- the text of a constant array, as it is written
constant_in_order : (sig : Signature) (w : Written)
    → constant_text sig w ≡ (codes "((as const (Array Int " ++ sort_text sig w.sort ++ codes ")) ") ++ w.text ++ codes ")"
constant_in_order sig w =
    ap (λ (t : List ℕ). (codes "((as const (Array Int " ++ t) ++ w.text ++ codes ")") (append_assoc (sort_text sig w.sort) (codes "))") (codes " "))

-- stores in the order of their text
stores_in_order : (array : List ℕ) (es : List (ℤ × List ℕ)) → stores_text array es ≡ store_openings (length es) ++ array ++ store_endings es
stores_in_order array [] = sym (append-nil array)
stores_in_order array (e ∷ es) =
    stores_in_order (store_text array e) es ∙ regrouped (store_openings (length es)) (codes "(store ") array (store_ending e) (store_endings es)

pub sort-Bool : (sig : Signature) (b : Bool) → value_sort sig (value.Bool b) ≡ sort.Bool
sort-Bool sig b = ap (λ (w : Written). w.sort) (written-Bool sig b)

pub sort-Int : (sig : Signature) (n : ℤ) → value_sort sig (value.Int n) ≡ sort.Int
sort-Int sig n = ap (λ (w : Written). w.sort) (written-Int sig n)

pub sort-Data : (sig : Signature) (d c : ℕ) (vs : List Value) → value_sort sig (value.Data d c vs) ≡ sort.Data d
sort-Data sig d c vs = ap (λ (w : Written). w.sort) (written-Data sig d c vs)

pub sort-Array : (sig : Signature) (v : Value) (es : List (ℤ × Value)) → value_sort sig (value.Array v es) ≡ sort.Array (value_sort sig v)
sort-Array sig v es = ap (λ (w : Written). w.sort) (written-Array sig v es)

pub text-Bool : (sig : Signature) (b : Bool) → value_text sig (value.Bool b) ≡ truth_text b
text-Bool sig b = ap (λ (w : Written). w.text) (written-Bool sig b)

pub text-Int : (sig : Signature) (n : ℤ) → value_text sig (value.Int n) ≡ number_text n
text-Int sig n = ap (λ (w : Written). w.text) (written-Int sig n)

pub text-Data : (sig : Signature) (d c : ℕ) (vs : List Value) → value_text sig (value.Data d c vs) ≡ applied (symbol_text (ctor_name sig d c)) (value_texts sig vs)
text-Data sig d c vs = ap (λ (w : Written). w.text) (written-Data sig d c vs)

pub text-Array : (sig : Signature) (v : Value) (es : List (ℤ × Value))
    → value_text sig (value.Array v es)
    ≡ store_openings (length es)
    ++ ((codes "((as const (Array Int " ++ sort_text sig (value_sort sig v) ++ codes ")) ") ++ value_text sig v ++ codes ")")
    ++ store_endings (entry_texts sig es)
text-Array sig v es =
    ap (λ (w : Written). w.text) (written-Array sig v es) ∙ stores_in_order (constant_text sig (written sig v)) (entry_texts sig es)
    ∙ ap (λ (n : ℕ). store_openings n ++ constant_text sig (written sig v) ++ store_endings (entry_texts sig es)) (entries_count sig es)
    ∙ ap (λ (t : List ℕ). store_openings (length es) ++ t ++ store_endings (entry_texts sig es)) (constant_in_order sig (written sig v))
  where
    entries_count : (sig : Signature) (es : List (ℤ × Value)) → length (entry_texts sig es) ≡ length es
    entries_count sig es = simp length-map

-- the same where the parts are read again from the value
pub text_of_array : (sig : Signature) (whole v sorted written : Value) (es : List (ℤ × Value)) (n : ℕ)
    → whole ≡ value.Array v es → n ≡ length es → sorted ≡ v → written ≡ v
    → value_text sig whole
    ≡ store_openings n
    ++ ((codes "((as const (Array Int " ++ sort_text sig (value_sort sig sorted) ++ codes ")) ") ++ value_text sig written ++ codes ")")
    ++ store_endings (entry_texts sig es)
text_of_array sig whole v sorted written es n is count first second = rw (is, count, first, second) (text-Array sig v es)

-- what is written part by part
pub part_by_part : (start opened headed filled closed ended openings before sort behind text close endings whole : List ℕ)
    → opened ≡ start ++ openings → headed ≡ opened ++ before ++ sort ++ behind → filled ≡ headed ++ text → closed ≡ filled ++ close → ended ≡ closed ++ endings
    → whole ≡ openings ++ ((before ++ sort ++ behind) ++ text ++ close) ++ endings
    → ended ≡ start ++ whole
part_by_part start opened headed filled closed ended openings before sort behind text close endings whole e1 e2 e3 e4 e5 w =
    simp (e5, e4, e3, e2, e1, w, append_assoc)

-- the texts of the sorts
pub sorted-Bool : (sig : Signature) (b : Bool) → sort_text sig (value_sort sig (value.Bool b)) ≡ codes "Bool"
sorted-Bool sig b = ap (sort_text sig) (sort-Bool sig b ∙ sym sort.rolls-Bool) ∙ fold-roll-Sort (List ℕ) (sort_step sig) Sort-F.Bool

pub sorted-Int : (sig : Signature) (n : ℤ) → sort_text sig (value_sort sig (value.Int n)) ≡ codes "Int"
sorted-Int sig n = ap (sort_text sig) (sort-Int sig n ∙ sym sort.rolls-Int) ∙ fold-roll-Sort (List ℕ) (sort_step sig) Sort-F.Int

pub sorted-Data : (sig : Signature) (d c : ℕ) (vs : List Value) → sort_text sig (value_sort sig (value.Data d c vs)) ≡ symbol_text (data_name sig d)
sorted-Data sig d c vs = ap (sort_text sig) (sort-Data sig d c vs ∙ sym (sort.rolls-Data d)) ∙ fold-roll-Sort (List ℕ) (sort_step sig) (Sort-F.Data d)

pub sorted-Array : (sig : Signature) (v : Value) (es : List (ℤ × Value))
    → sort_text sig (value_sort sig (value.Array v es)) ≡ codes "(Array Int " ++ sort_text sig (value_sort sig v) ++ codes ")"
sorted-Array sig v es =
    ap (sort_text sig) (sort-Array sig v es ∙ sym (sort.rolls-Array (value_sort sig v))) ∙ fold-roll-Sort (List ℕ) (sort_step sig) (Sort-F.Array (value_sort sig v))

-- the texts
pub ruleset equations = (text-Bool, text-Int, text-Data, text-Array)
