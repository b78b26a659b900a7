-- Types and the items of a section of types are written one after the other.
use Rattle.std.proofs.Common.{◌≡◌, ℕ, ◌<◌, ◌^◌, List, [], ◌∷◌, ◌++◌, refl, sym, ap, ◌∙◌, append_assoc}
use Rattle.virt_base.specs.Leb.{shortest_unsigned}
use Rattle.wasm_format.specs.Format.{choose, u32_format}
use Rattle.wasm_format.specs.Sections.{write_parts}
use Rattle.wasm_format.specs.Until.{UntilFits}
use Rattle.wasm_ast.specs.declared.component.Primitive.{Primitive}
use Rattle.wasm_ast.specs.declared.component.Primitive.TheVariants as primitives
use Rattle.wasm_ast.specs.declared.component.TypeDef.TheVariants as defs
use Rattle.wasm_ast.specs.declared.component.TypeItem.{TypeItem}
use Rattle.comp_grammar.specs.Types.{primitive_of, primitive, type_def}
use Rattle.comp_grammar.specs.TypeSections.{definition, declaration, is_none_open, Due, type_walk, all_due, own_types, type_items}
use Rattle.comp_write.specs.Forms.{ItemsFit, items_bytes}

pub primitive_fits : (p : Primitive) → type_def.Fits (defs.Primitive p) → primitive.Fits p
unfolding type_def primitive primitive_of
primitive_fits primitives.Bool h = refl
primitive_fits primitives.S8 h = refl
primitive_fits primitives.U8 h = refl
primitive_fits primitives.S16 h = refl
primitive_fits primitives.U16 h = refl
primitive_fits primitives.S32 h = refl
primitive_fits primitives.U32 h = refl
primitive_fits primitives.S64 h = refl
primitive_fits primitives.U64 h = refl
primitive_fits primitives.Char h = refl
primitive_fits primitives.String h = refl

pub primitive_written : (p : Primitive) → type_def.write (defs.Primitive p) ≡ primitive.write p
unfolding type_def primitive primitive_of
primitive_written primitives.Bool = refl
primitive_written primitives.S8 = refl
primitive_written primitives.U8 = refl
primitive_written primitives.S16 = refl
primitive_written primitives.U16 = refl
primitive_written primitives.S32 = refl
primitive_written primitives.U32 = refl
primitive_written primitives.S64 = refl
primitive_written primitives.U64 = refl
primitive_written primitives.Char = refl
primitive_written primitives.String = refl

-- ---- items

all_fit : (items : List TypeItem) (s : Due) → UntilFits type_walk s items → ItemsFit s.open_types items
unfolding type_walk
all_fit [] s h = tt
all_fit (item ∷ items) s h = (h.1, all_fit items _ h.2)

pub items_fit : (items : List TypeItem) → type_items.Fits items → ItemsFit [] items
unfolding type_items
items_fit items h = all_fit items (all_due (own_types [] items)) h.1

pub few_items : (items : List TypeItem) → type_items.Fits items → own_types [] items < 2 ^ 32
unfolding type_items
few_items items h = h.0

all_written : (items : List TypeItem) (s : Due) → write_parts type_walk s items ≡ items_bytes s.open_types items
unfolding type_walk
all_written [] s = refl
all_written (item ∷ items) s = ap (λ (z : List ℕ). (choose (is_none_open s.open_types) definition declaration).write item ++ z) (all_written items _)

pub items_written : (items : List TypeItem) → type_items.write items ≡ u32_format.write (own_types [] items) ++ items_bytes [] items
unfolding type_items
items_written items = ap (λ (z : List ℕ). u32_format.write (own_types [] items) ++ z) (all_written items (all_due (own_types [] items)))

-- a count, and items after it
pub section_written : (old mid new bytes : List ℕ) (n : ℕ) (items : List TypeItem) → n ≡ own_types [] items → bytes ≡ items_bytes [] items → mid ≡ old ++ shortest_unsigned 4 n → new ≡ mid ++ bytes → new ≡ old ++ type_items.write items
unfolding u32_format
section_written old mid new bytes n items count is first last =
    last ∙ ap (λ (z : List ℕ). z ++ bytes) first ∙ append_assoc old (shortest_unsigned 4 n) bytes
    ∙ ap (λ (z : List ℕ). old ++ (shortest_unsigned 4 n ++ z)) is ∙ ap (λ (k : ℕ). old ++ (shortest_unsigned 4 k ++ items_bytes [] items)) count ∙ ap (λ (z : List ℕ). old ++ z) (sym (items_written items))
