-- What bytes spell as an item of a component is written in no more bytes.
use Rattle.std.proofs.Common.{◌≡◌, ℕ, suc, ◌+◌, ◌≤◌, ◌<◌, ◌^◌, Bool, true, false, eqb, ltb, List, [], ◌∷◌, ◌++◌, length, refl, sym, ap, subst, arith}
use Rattle.std.proofs.lemmas.List.{length-append}
use Rattle.wasm_format.specs.Format.{Format, AreBytes, choose, lacking, TaggedSpells, is_tag_byte, u32_format, name}
use Rattle.wasm_format.specs.Until.{until}
use Rattle.wasm_format.proofs.LeastLaws.{IsLeast, HasTag, BeginsAs, parts_bytes, u32_small, least_choose, least_lacking, least_tagged, least_peeked, least_literal, least_value, least_both, least_image, least_behind, least_closed_by, least_u32, least_vec, least_sized, least_name, tag_choose, tag_either, tag_lacking, tag_value, tag_image, tag_inside, tag_behind, tag_tagged, begins_tagged, begins_image}
use Rattle.wasm_format.proofs.LeastNumbers.{least_s33_index, begins_s33_index}
use Rattle.wasm_format.proofs.LeastLists.{least_until}
use Rattle.wasm_ast.specs.declared.component.Primitive.{Primitive}
use Rattle.wasm_ast.specs.declared.component.Primitive.TheVariants as primitives
use Rattle.wasm_ast.specs.declared.component.TypeDef.TheVariants as defs
use Rattle.wasm_ast.specs.ComponentItems.{alias_tag, desc_tag}
use Rattle.wasm_ast.specs.ComponentItems.{sort, extern_name, argument, inline_export, instance, core_alias_format, type_alias_format, alias, type_bound, extern_desc, stated_desc, component_export}
use Rattle.comp_grammar.specs.CoreInstances.{core_sort, core_arg, core_export, core_instance}
use Rattle.comp_grammar.specs.Items.{canon_option, canon, component_import}
use Rattle.comp_grammar.specs.Types.{primitive_of, primitive, val_type, maybe_type, label_type, case_type, func_result, destructor, aggregate_def, other_def, type_def}
use Rattle.comp_grammar.specs.TypeSections.{type_alias, definition, declaration, is_none_open, type_walk, all_due, own_types, led_by, type_items}
use Rattle.comp_grammar.specs.Types.{primitive_tag, primitive_type, indexed_type, is_primitive, def_tag, primitive_in_def, primitive_def}
use Rattle.comp_grammar.proofs.TypeSectionLaws.{own_types_are}

same : {A : Type 0} (a : A) → a ≡ a
same a = refl

ruleset tags = (same, tag_choose, tag_either, tag_lacking, tag_value, tag_behind, tag_image, tag_inside, tag_tagged)

ruleset least = (tags, least_choose, least_lacking, least_tagged, least_literal, least_value, least_both, least_behind, least_closed_by, least_image, least_u32, least_vec, least_sized, least_name)

-- ---- names

either_name : (c d : Bool) (b at : ℕ) (a : List ℕ) (text : List ℕ) → (choose c name (choose d name (lacking b))).Spells at a text → name.Spells at a text
either_name true d b at a text s = s
either_name false true b at a text s = s
either_name false false b at a text s = absurd s

extern_least : (at : ℕ) (a text : List ℕ) → AreBytes text → TaggedSpells (λ b. choose (eqb b 0) name (choose (eqb b 1) name (lacking b))) at a text → name.Fits a × (suc (length (name.write a)) ≤ length text)
extern_least at a [] h s = absurd s
extern_least at a (b ∷ text) h s =
    let w = least_name.least (at + 1) a text h.1 (either_name (eqb b 0) (eqb b 1) b (at + 1) a text s) in
    (w.0, omega (arith, w.1))

-- the byte before a name is 00, though 01 is read alike
pub least_extern_name : IsLeast extern_name
unfolding extern_name
least_extern_name = record { least = extern_least }

pub least_sort : IsLeast sort
unfolding sort
least_sort = search least depth 16

pub least_argument : IsLeast argument
unfolding argument
least_argument = search (least, least_sort) depth 12

pub least_inline_export : IsLeast inline_export
unfolding inline_export
least_inline_export = search (least, least_sort, least_extern_name) depth 12

pub least_instance : IsLeast instance
unfolding instance
least_instance = search (least, least_argument, least_inline_export) depth 16

least_core_alias : IsLeast core_alias_format
unfolding core_alias_format
least_core_alias = search least depth 24

least_type_alias : IsLeast type_alias_format
unfolding type_alias_format
least_type_alias = search least depth 16

core_alias_tags : HasTag alias_tag 0 core_alias_format
unfolding core_alias_format
core_alias_tags = search tags depth 24

type_alias_tags : HasTag alias_tag 3 type_alias_format
unfolding type_alias_format
type_alias_tags = search tags depth 16

pub least_alias : IsLeast alias
unfolding alias
least_alias = search (least, core_alias_tags, type_alias_tags, least_core_alias, least_type_alias) depth 24

least_type_bound : IsLeast type_bound
unfolding type_bound
least_type_bound = search least depth 12

type_bound_tags : HasTag desc_tag 3 type_bound
unfolding type_bound
type_bound_tags = search tags depth 12

pub least_extern_desc : IsLeast extern_desc
unfolding extern_desc
least_extern_desc = search (least, type_bound_tags, least_type_bound) depth 16

pub least_stated_desc : IsLeast stated_desc
unfolding stated_desc
least_stated_desc = search (least, least_extern_desc) depth 12

pub least_component_export : IsLeast component_export
unfolding component_export
least_component_export = search (least, least_extern_name, least_sort, least_stated_desc) depth 12

pub least_core_sort : IsLeast core_sort
unfolding core_sort
least_core_sort = search least depth 16

pub least_core_arg : IsLeast core_arg
unfolding core_arg
least_core_arg = search least depth 12

pub least_core_export : IsLeast core_export
unfolding core_export
least_core_export = search (least, least_core_sort) depth 12

pub least_core_instance : IsLeast core_instance
unfolding core_instance
least_core_instance = search (least, least_core_arg, least_core_export) depth 16

pub least_canon_option : IsLeast canon_option
unfolding canon_option
least_canon_option = search least depth 16

pub least_canon : IsLeast canon
unfolding canon
least_canon = search (least, least_canon_option) depth 20

pub least_component_import : IsLeast component_import
unfolding component_import
least_component_import = search (least, least_extern_name, least_extern_desc) depth 8

pub least_primitive_of : (b : ℕ) → IsLeast (primitive_of b)
unfolding primitive_of
least_primitive_of b = search least depth 28

primitive_tags : (b : ℕ) → HasTag primitive_tag b (primitive_of b)
unfolding primitive_of
primitive_tags b = search tags depth 28

pub least_primitive : IsLeast primitive
unfolding primitive
least_primitive = search (least, primitive_tags, least_primitive_of) depth 4

primitive_first : (p : Primitive) → (primitive_of (primitive_tag p)).Fits p → is_tag_byte (primitive_tag p) ≡ true
primitive_first primitives.Bool h = refl
primitive_first primitives.S8 h = refl
primitive_first primitives.U8 h = refl
primitive_first primitives.S16 h = refl
primitive_first primitives.U16 h = refl
primitive_first primitives.S32 h = refl
primitive_first primitives.U32 h = refl
primitive_first primitives.S64 h = refl
primitive_first primitives.U64 h = refl
primitive_first primitives.Char h = refl
primitive_first primitives.String h = refl

begins_primitive_type : BeginsAs is_tag_byte true primitive_type
unfolding primitive
begins_primitive_type = begins_image is_tag_byte true _ _ primitive (begins_tagged is_tag_byte true primitive_tag primitive_of primitive_first)

begins_indexed_type : BeginsAs is_tag_byte false indexed_type
begins_indexed_type = search (begins_image, begins_s33_index) depth 4

least_primitive_type : IsLeast primitive_type
least_primitive_type = search (least, least_primitive) depth 6

least_indexed_type : IsLeast indexed_type
least_indexed_type = search (least, least_s33_index) depth 6

are_primitive : HasTag is_primitive true primitive_type
are_primitive = search tags depth 8

are_indexed : HasTag is_primitive false indexed_type
are_indexed = search tags depth 8

pub least_val_type : IsLeast val_type
unfolding val_type
least_val_type = least_peeked is_tag_byte is_primitive primitive_type indexed_type least_primitive_type least_indexed_type are_primitive are_indexed begins_primitive_type begins_indexed_type

pub least_maybe_type : IsLeast maybe_type
unfolding maybe_type
least_maybe_type = search (least, least_val_type) depth 12

pub least_label_type : IsLeast label_type
unfolding label_type
least_label_type = search (least, least_val_type) depth 8

pub least_case_type : IsLeast case_type
unfolding case_type
least_case_type = search (least, least_maybe_type) depth 8

pub least_func_result : IsLeast func_result
unfolding func_result
least_func_result = search (least, least_val_type) depth 12

pub least_destructor : IsLeast destructor
unfolding destructor
least_destructor = search least depth 12

pub least_aggregate_def : (b : ℕ) → IsLeast (aggregate_def b)
unfolding aggregate_def
least_aggregate_def b = search (least, least_val_type, least_label_type, least_case_type) depth 20

pub least_other_def : (b : ℕ) → IsLeast (other_def b)
unfolding other_def
least_other_def b = search (least, least_val_type, least_maybe_type, least_label_type, least_func_result, least_destructor) depth 22

primitive_codes : (b : ℕ) → HasTag (λ (p : Primitive). def_tag (defs.Primitive p)) b (primitive_of b)
unfolding primitive_of
primitive_codes b = search tags depth 28

aggregate_tags : (b : ℕ) → HasTag def_tag b (aggregate_def b)
unfolding aggregate_def
aggregate_tags b = search tags depth 20

other_tags : (b : ℕ) → HasTag def_tag b (other_def b)
unfolding other_def
other_tags b = search tags depth 22

primitive_def_tags : (b : ℕ) → HasTag def_tag b (primitive_def b)
primitive_def_tags b = tag_inside def_tag b (λ p. defs.Primitive p) primitive_in_def (primitive_of b) (primitive_codes b)

def_tags : (b : ℕ) → HasTag def_tag b (choose (ltb 0x72 b) (primitive_def b) (choose (ltb 0x6C b) (aggregate_def b) (other_def b)))
def_tags b = search (tag_either, primitive_def_tags, aggregate_tags, other_tags) depth 4

least_primitive_def : (b : ℕ) → IsLeast (primitive_def b)
least_primitive_def b = search (least, least_primitive_of) depth 4

pub least_type_def : IsLeast type_def
unfolding type_def
least_type_def = search (least_tagged, least_choose, def_tags, least_primitive_def, least_aggregate_def, least_other_def) depth 8

pub least_declared_alias : IsLeast type_alias
unfolding type_alias
least_declared_alias = search least depth 14

pub least_definition : IsLeast definition
unfolding definition
least_definition = search (least, least_type_def) depth 4

pub least_declaration : IsLeast declaration
unfolding declaration
least_declaration = search (least, least_type_def, least_declared_alias, least_extern_name, least_extern_desc) depth 14

least_led_by : {A : Type 0} (count : A → ℕ) (form : ℕ → Format A) → ((n : ℕ) → IsLeast (form n)) → ((n at : ℕ) (a : A) (text : List ℕ) → (form n).Spells at a text → count a ≡ n) → IsLeast (led_by count form)
least_led_by count form f is = record {
  least = λ at a text h s.
      let b = parts_bytes text s.1 s.2 s.5 h in
      let e : count a ≡ s.0 = is s.0 (at + length s.1) a s.2 s.4 in
      let x = least_u32.least at s.0 s.1 b.0 s.3 in
      let y = (f s.0).least (at + length s.1) a s.2 b.1 s.4 in
      subst (λ (n : ℕ). ((n < 2 ^ 32) × (form n).Fits a) × (length (u32_format.write n ++ (form n).write a) ≤ length text)) (sym e)
      ((u32_small s.0 x.0, y.0), omega (arith, x.1, y.1, ap length s.5, length-append s.1 s.2, length-append (u32_format.write s.0) ((form s.0).write a)));
}

pub least_type_items : IsLeast type_items
unfolding type_items type_walk
least_type_items =
    least_led_by (own_types []) (λ types. until type_walk (all_due types)) (λ n. least_until type_walk (all_due n) (λ s. least_choose (is_none_open s.open_types) definition declaration least_definition least_declaration))
    (λ n at a text s. own_types_are a (all_due n) at text s)
