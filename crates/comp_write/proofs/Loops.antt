-- Loops over the items of a section of types, and over the sections of a component.
use Rattle.std.proofs.Common.{◌≡◌, ℕ, suc, ◌+◌, ◌<◌, cond, List, ◌∷◌, ◌++◌, length, drop, get_or, sym, ap, subst, ◌∙◌, append_assoc, arith, add-one}
use Rattle.std.proofs.Math.Seq.{drop-cons}
use Rattle.wasm_format.specs.Format.{choose}
use Rattle.wasm_ast.specs.declared.component.TypeItem.{TypeItem}
use Rattle.wasm_ast.specs.declared.component.Section.{Section}
use Rattle.comp_grammar.specs.Trees.{plain_section}
use Rattle.comp_grammar.specs.TypeSections.{definition, declaration, is_none_open, open_after, own_types}
use Rattle.comp_write.specs.Copying.{section_bytes, IsWritable}
use Rattle.comp_write.specs.Forms.{ItemsFit, items_bytes, AllWritable, bytes_of}

pub next : {A : Type 0} (items : List A) (i : ℕ) (x : A) → i < length items → x ≡ get_or items i x → drop i items ≡ x ∷ drop (i + 1) items
next items i x lt e = rw add-one (drop-cons items i x lt ∙ ap (λ y. y ∷ drop (suc i) items) (sym e))

-- ---- sections

sections_fit : (source : List ℕ) (sections : List Section) (i : ℕ) (x : Section) → i < length sections → x ≡ get_or sections i x → AllWritable source (drop i sections) → IsWritable source (plain_section x) × AllWritable source (drop (i + 1) sections)
sections_fit source sections i x lt e h = subst (λ (l : List Section). AllWritable source l) (next sections i x lt e) h

pub section_fits : (source : List ℕ) (sections : List Section) (i : ℕ) (x : Section) → i < length sections → x ≡ get_or sections i x → AllWritable source (drop i sections) → IsWritable source (plain_section x)
section_fits source sections i x lt e h = (sections_fit source sections i x lt e h).0

pub rest_fits : (source : List ℕ) (sections : List Section) (i : ℕ) (x : Section) → i < length sections → x ≡ get_or sections i x → AllWritable source (drop i sections) → AllWritable source (drop (i + 1) sections)
rest_fits source sections i x lt e h = (sections_fit source sections i x lt e h).1

pub one_section : (source old all : List ℕ) (sections : List Section) (i : ℕ) (x : Section) → i < length sections → x ≡ get_or sections i x → old ++ bytes_of source (drop i sections) ≡ all
    → (old ++ section_bytes source (plain_section x)) ++ bytes_of source (drop (i + 1) sections) ≡ all
one_section source old all sections i x lt e h =
    append_assoc old (section_bytes source (plain_section x)) (bytes_of source (drop (i + 1) sections)) ∙ ap (λ (l : List Section). old ++ bytes_of source l) (sym (next sections i x lt e)) ∙ h

-- ---- items

items_split : (open_now : List ℕ) (items : List TypeItem) (i : ℕ) (x : TypeItem) → i < length items → x ≡ get_or items i x → ItemsFit open_now (drop i items) → (choose (is_none_open open_now) definition declaration).Fits x × ItemsFit (open_after open_now x) (drop (i + 1) items)
items_split open_now items i x lt e h = subst (λ (l : List TypeItem). ItemsFit open_now l) (next items i x lt e) h

pub item_fits : (open_now : List ℕ) (items : List TypeItem) (i : ℕ) (x : TypeItem) → i < length items → x ≡ get_or items i x → ItemsFit open_now (drop i items) → (choose (is_none_open open_now) definition declaration).Fits x
item_fits open_now items i x lt e h = (items_split open_now items i x lt e h).0

pub items_left : (open_now : List ℕ) (items : List TypeItem) (i : ℕ) (x : TypeItem) → i < length items → x ≡ get_or items i x → ItemsFit open_now (drop i items) → ItemsFit (open_after open_now x) (drop (i + 1) items)
items_left open_now items i x lt e h = (items_split open_now items i x lt e h).1

pub one_item : (open_now : List ℕ) (old all : List ℕ) (items : List TypeItem) (i : ℕ) (x : TypeItem) → i < length items → x ≡ get_or items i x → old ++ items_bytes open_now (drop i items) ≡ all
    → (old ++ (choose (is_none_open open_now) definition declaration).write x) ++ items_bytes (open_after open_now x) (drop (i + 1) items) ≡ all
one_item open_now old all items i x lt e h =
    append_assoc old ((choose (is_none_open open_now) definition declaration).write x) (items_bytes (open_after open_now x) (drop (i + 1) items)) ∙ ap (λ (l : List TypeItem). old ++ items_bytes open_now l) (sym (next items i x lt e)) ∙ h

-- the number of own definitions after an item
pub one_counted : (open_now : List ℕ) (n total : ℕ) (items : List TypeItem) (i : ℕ) (x : TypeItem) → i < length items → x ≡ get_or items i x → n + own_types open_now (drop i items) ≡ total
    → n + cond (is_none_open open_now) 1 0 + own_types (open_after open_now x) (drop (i + 1) items) ≡ total
one_counted open_now n total items i x lt e h =
    let split : own_types open_now (drop i items) ≡ cond (is_none_open open_now) 1 0 + own_types (open_after open_now x) (drop (i + 1) items) = ap (own_types open_now) (next items i x lt e) in
    omega (arith, split, h)
