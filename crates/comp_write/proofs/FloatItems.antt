-- The formats of a component's items keep no places.
use Rattle.std.proofs.Common.{ℕ, ◌+◌, [], length}
use Rattle.wasm_format.specs.Format.{Format}
use Rattle.wasm_format.specs.Until.{until}
use Rattle.wasm_ast.specs.ComponentItems.{sort, extern_name, argument, inline_export, instance, core_alias_format, type_alias_format, alias, type_bound, extern_desc, stated_desc, component_export}
use Rattle.comp_grammar.specs.CoreInstances.{core_sort, core_arg, core_export, core_instance}
use Rattle.comp_grammar.specs.Items.{canon_option, canon, component_import}
use Rattle.comp_grammar.specs.Types.{primitive_of, primitive, val_type, maybe_type, label_type, case_type, func_result, destructor, aggregate_def, other_def, type_def}
use Rattle.comp_grammar.specs.TypeSections.{type_alias, definition, declaration, is_none_open, type_walk, all_due, own_types, led_by, type_items}
use Rattle.comp_write.proofs.FloatLaws.{IsFloating, floating_choose, floating_tagged, floating_peeked, floating_image, floating_u32, floating_s33_index, floating_until}
use Rattle.comp_write.proofs.FloatCore.{floating}

pub floating_sort : IsFloating sort
unfolding sort
floating_sort = search floating depth 16

pub floating_extern_name : IsFloating extern_name
unfolding extern_name
floating_extern_name = search floating depth 12

pub floating_argument : IsFloating argument
unfolding argument
floating_argument = search (floating, floating_sort) depth 12

pub floating_inline_export : IsFloating inline_export
unfolding inline_export
floating_inline_export = search (floating, floating_sort, floating_extern_name) depth 12

pub floating_instance : IsFloating instance
unfolding instance
floating_instance = search (floating, floating_argument, floating_inline_export) depth 16

floating_core_alias : IsFloating core_alias_format
unfolding core_alias_format
floating_core_alias = search floating depth 24

floating_type_alias : IsFloating type_alias_format
unfolding type_alias_format
floating_type_alias = search floating depth 16

pub floating_alias : IsFloating alias
unfolding alias
floating_alias = search (floating, floating_core_alias, floating_type_alias) depth 24

floating_type_bound : IsFloating type_bound
unfolding type_bound
floating_type_bound = search floating depth 12

pub floating_extern_desc : IsFloating extern_desc
unfolding extern_desc
floating_extern_desc = search (floating, floating_type_bound) depth 16

pub floating_stated_desc : IsFloating stated_desc
unfolding stated_desc
floating_stated_desc = search (floating, floating_extern_desc) depth 12

pub floating_component_export : IsFloating component_export
unfolding component_export
floating_component_export = search (floating, floating_extern_name, floating_sort, floating_stated_desc) depth 12

pub floating_core_sort : IsFloating core_sort
unfolding core_sort
floating_core_sort = search floating depth 16

pub floating_core_arg : IsFloating core_arg
unfolding core_arg
floating_core_arg = search floating depth 12

pub floating_core_export : IsFloating core_export
unfolding core_export
floating_core_export = search (floating, floating_core_sort) depth 12

pub floating_core_instance : IsFloating core_instance
unfolding core_instance
floating_core_instance = search (floating, floating_core_arg, floating_core_export) depth 16

pub floating_canon_option : IsFloating canon_option
unfolding canon_option
floating_canon_option = search floating depth 16

pub floating_canon : IsFloating canon
unfolding canon
floating_canon = search (floating, floating_canon_option) depth 20

pub floating_component_import : IsFloating component_import
unfolding component_import
floating_component_import = search (floating, floating_extern_name, floating_extern_desc) depth 8

pub floating_primitive_of : (b : ℕ) → IsFloating (primitive_of b)
unfolding primitive_of
floating_primitive_of b = search floating depth 28

pub floating_primitive : IsFloating primitive
unfolding primitive
floating_primitive = search (floating, floating_primitive_of) depth 4

pub floating_val_type : IsFloating val_type
unfolding val_type primitive
floating_val_type = search (floating_peeked, floating_tagged, floating_image, floating_primitive_of, floating_s33_index) depth 12

pub floating_maybe_type : IsFloating maybe_type
unfolding maybe_type
floating_maybe_type = search (floating, floating_val_type) depth 12

pub floating_label_type : IsFloating label_type
unfolding label_type
floating_label_type = search (floating, floating_val_type) depth 8

pub floating_case_type : IsFloating case_type
unfolding case_type
floating_case_type = search (floating, floating_maybe_type) depth 8

pub floating_func_result : IsFloating func_result
unfolding func_result
floating_func_result = search (floating, floating_val_type) depth 12

pub floating_destructor : IsFloating destructor
unfolding destructor
floating_destructor = search floating depth 12

pub floating_aggregate_def : (b : ℕ) → IsFloating (aggregate_def b)
unfolding aggregate_def
floating_aggregate_def b = search (floating, floating_val_type, floating_label_type, floating_case_type) depth 20

pub floating_other_def : (b : ℕ) → IsFloating (other_def b)
unfolding other_def
floating_other_def b = search (floating, floating_val_type, floating_maybe_type, floating_label_type, floating_func_result, floating_destructor) depth 22

pub floating_type_def : IsFloating type_def
unfolding type_def
floating_type_def = search (floating, floating_primitive_of, floating_aggregate_def, floating_other_def) depth 8

pub floating_declared_alias : IsFloating type_alias
unfolding type_alias
floating_declared_alias = search floating depth 14

pub floating_definition : IsFloating definition
unfolding definition
floating_definition = search (floating, floating_type_def) depth 4

pub floating_declaration : IsFloating declaration
unfolding declaration
floating_declaration = search (floating, floating_type_def, floating_declared_alias, floating_extern_name, floating_extern_desc) depth 14

floating_led_by : {A : Type 0} (count : A → ℕ) (form : ℕ → Format A) → ((n : ℕ) → IsFloating (form n)) → IsFloating (led_by count form)
floating_led_by count form f = record { floats = λ at to a text s. (s.0, s.1, s.2, floating_u32.floats at to s.0 s.1 s.3, (f s.0).floats (at + length s.1) (to + length s.1) a s.2 s.4, s.5) }

pub floating_type_items : IsFloating type_items
unfolding type_items type_walk
floating_type_items = floating_led_by (own_types []) (λ types. until type_walk (all_due types)) (λ n. floating_until type_walk (all_due n) (λ s. floating_choose (is_none_open s.open_types) definition declaration floating_definition floating_declaration))
