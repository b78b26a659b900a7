-- The formats of a component's items are exact, by the laws of what they are made of.
use Rattle.wasm_format.proofs.Laws.{IsExact, exact_choose, exact_lacking, exact_tagged, exact_value, exact_both, exact_image, exact_behind, exact_u32, exact_vec, exact_name}
use Rattle.wasm_ast.specs.declared.component.Sort.{Sort}
use Rattle.wasm_ast.specs.ComponentItems.{sort, extern_name, argument, inline_export, instance, core_alias_format, type_alias_format, alias, type_bound, extern_desc, stated_desc, component_export}

ruleset exact = (exact_choose, exact_lacking, exact_tagged, exact_value, exact_both, exact_image, exact_behind, exact_u32, exact_vec, exact_name)

pub exact_sort : IsExact sort
unfolding sort
exact_sort = search exact depth 16

pub exact_extern_name : IsExact extern_name
unfolding extern_name
exact_extern_name = search exact depth 12

pub exact_argument : IsExact argument
unfolding argument
exact_argument = search (exact, exact_sort) depth 12

pub exact_inline_export : IsExact inline_export
unfolding inline_export
exact_inline_export = search (exact, exact_sort, exact_extern_name) depth 12

pub exact_instance : IsExact instance
unfolding instance
exact_instance = search (exact, exact_argument, exact_inline_export) depth 16

exact_core_alias : IsExact core_alias_format
unfolding core_alias_format
exact_core_alias = search exact depth 24

exact_type_alias : IsExact type_alias_format
unfolding type_alias_format
exact_type_alias = search exact depth 16

pub exact_alias : IsExact alias
unfolding alias
exact_alias = search (exact, exact_core_alias, exact_type_alias) depth 24

exact_type_bound : IsExact type_bound
unfolding type_bound
exact_type_bound = search exact depth 12

pub exact_extern_desc : IsExact extern_desc
unfolding extern_desc
exact_extern_desc = search (exact, exact_type_bound) depth 16

pub exact_stated_desc : IsExact stated_desc
unfolding stated_desc
exact_stated_desc = search (exact, exact_extern_desc) depth 12

pub exact_component_export : IsExact component_export
unfolding component_export
exact_component_export = search (exact, exact_extern_name, exact_sort, exact_stated_desc) depth 12
