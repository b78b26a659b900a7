-- The formats of canonical functions and imports are exact, by the laws of what they are made of.
use Rattle.wasm_format.proofs.Laws.{IsExact, exact_choose, exact_lacking, exact_tagged, exact_value, exact_both, exact_image, exact_behind, exact_u32, exact_vec}
use Rattle.wasm_ast.proofs.ComponentGrammar.{exact_extern_name, exact_extern_desc}
use Rattle.comp_grammar.specs.Items.{canon_option, canon, component_import}

ruleset exact = (exact_choose, exact_lacking, exact_tagged, exact_value, exact_both, exact_image, exact_behind, exact_u32, exact_vec)

pub exact_canon_option : IsExact canon_option
unfolding canon_option
exact_canon_option = search exact depth 16

pub exact_canon : IsExact canon
unfolding canon
exact_canon = search (exact, exact_canon_option) depth 20

pub exact_component_import : IsExact component_import
unfolding component_import
exact_component_import = search (exact, exact_extern_name, exact_extern_desc) depth 8
