-- What is told of a definition at once is what the grammar says of it.
use Rattle.std.specs.Prelude.{◌≡◌, refl, unwrap_or}
use Rattle.wasm_ast.specs.declared.component.TypeDef.{TypeDef}
use Rattle.wasm_ast.specs.declared.component.TypeDef.TheVariants as defs
use Rattle.wasm_ast.specs.KeptTypes.{declaration_count}
use Rattle.comp_grammar.specs.Types.{declarations_in}

pub declarations_counted : (def : TypeDef) → unwrap_or (declaration_count def) 0 ≡ declarations_in def
declarations_counted (defs.Instance declarations) = refl
declarations_counted _ = refl
