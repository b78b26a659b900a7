-- Reading a component's items stops at a tag for a cause, by the laws of what their formats are made of.
use Rattle.wasm_format.proofs.Laws.{exact_name}
use Rattle.wasm_ast.specs.ComponentItems.{sort, extern_name, argument, inline_export, instance, core_alias_format, type_alias_format, alias, type_bound, extern_desc, stated_desc, component_export}
use Rattle.wasm_ast.proofs.TypeLaws.{exact}
use Rattle.wasm_ast.proofs.ComponentGrammar.{exact_sort, exact_extern_name, exact_argument, exact_inline_export}
use Rattle.comp_grammar.specs.CoreInstances.{core_sort, core_arg, core_export, core_instance}
use Rattle.comp_grammar.specs.Items.{canon_option, canon, component_import}
use Rattle.comp_grammar.proofs.CoreInstanceLaws.{exact_core_sort, exact_core_arg, exact_core_export}
use Rattle.comp_grammar.proofs.ItemLaws.{exact_canon_option}
use Rattle.format_causes.specs.Causes.{IsCaused}
use Rattle.format_causes.proofs.ListCauses.{caused_name}
use Rattle.format_causes.proofs.TypeCauses.{causes}

-- ---- instances, aliases and exports

caused_sort : IsCaused sort
unfolding sort
caused_sort = search causes depth 18

pub caused_extern_name : IsCaused extern_name
unfolding extern_name
caused_extern_name = search (causes, caused_name) depth 14

caused_argument : IsCaused argument
unfolding argument
caused_argument = search (causes, exact, exact_name, caused_name, exact_sort, caused_sort) depth 12

caused_inline_export : IsCaused inline_export
unfolding inline_export
caused_inline_export = search (causes, exact, exact_sort, caused_sort, exact_extern_name, caused_extern_name) depth 12

pub caused_instance : IsCaused instance
unfolding instance
caused_instance = search (causes, exact, exact_argument, caused_argument, exact_inline_export, caused_inline_export) depth 18

caused_core_alias : IsCaused core_alias_format
unfolding core_alias_format
caused_core_alias = search (causes, exact, caused_name) depth 26

caused_type_alias : IsCaused type_alias_format
unfolding type_alias_format
caused_type_alias = search (causes, exact, caused_name) depth 18

pub caused_alias : IsCaused alias
unfolding alias
caused_alias = search (causes, exact, caused_name, caused_core_alias, caused_type_alias) depth 26

caused_type_bound : IsCaused type_bound
unfolding type_bound
caused_type_bound = search causes depth 14

pub caused_extern_desc : IsCaused extern_desc
unfolding extern_desc
caused_extern_desc = search (causes, caused_type_bound) depth 18

caused_stated_desc : IsCaused stated_desc
unfolding stated_desc
caused_stated_desc = search (causes, caused_extern_desc) depth 14

pub caused_component_export : IsCaused component_export
unfolding component_export
caused_component_export = search (causes, exact, exact_extern_name, exact_sort, caused_extern_name, caused_sort, caused_stated_desc) depth 12

-- ---- core instances

caused_core_sort : IsCaused core_sort
unfolding core_sort
caused_core_sort = search causes depth 18

caused_core_arg : IsCaused core_arg
unfolding core_arg
caused_core_arg = search (causes, exact_name, caused_name) depth 14

caused_core_export : IsCaused core_export
unfolding core_export
caused_core_export = search (causes, exact_name, caused_name, exact_core_sort, caused_core_sort) depth 14

pub caused_core_instance : IsCaused core_instance
unfolding core_instance
caused_core_instance = search (causes, exact, exact_core_arg, exact_core_export, caused_core_arg, caused_core_export) depth 18

-- ---- canonical functions and imports

caused_canon_option : IsCaused canon_option
unfolding canon_option
caused_canon_option = search causes depth 18

pub caused_canon : IsCaused canon
unfolding canon
caused_canon = search (causes, exact, exact_canon_option, caused_canon_option) depth 22

pub caused_component_import : IsCaused component_import
unfolding component_import
caused_component_import = search (causes, exact_extern_name, caused_extern_name, caused_extern_desc) depth 8
