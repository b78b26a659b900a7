-- The formats of core instances are exact, by the laws of what they are made of.
use Rattle.wasm_format.proofs.Laws.{IsExact, exact_choose, exact_lacking, exact_tagged, exact_value, exact_both, exact_image, exact_behind, exact_u32, exact_vec, exact_name}
use Rattle.comp_grammar.specs.CoreInstances.{core_sort, core_arg, core_export, core_instance}

ruleset exact = (exact_choose, exact_lacking, exact_tagged, exact_value, exact_both, exact_image, exact_behind, exact_u32, exact_vec, exact_name)

pub exact_core_sort : IsExact core_sort
unfolding core_sort
exact_core_sort = search exact depth 16

pub exact_core_arg : IsExact core_arg
unfolding core_arg
exact_core_arg = search exact depth 12

pub exact_core_export : IsExact core_export
unfolding core_export
exact_core_export = search (exact, exact_core_sort) depth 12

pub exact_core_instance : IsExact core_instance
unfolding core_instance
exact_core_instance = search (exact, exact_core_arg, exact_core_export) depth 16
