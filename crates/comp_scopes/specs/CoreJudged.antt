-- What is said of a module: it is not valid, or it is and has this type.
use Rattle.std.specs.Prelude.{Option, Some, None}
use Rattle.wasm_ast.specs.declared.module.Module.{Module}
use Rattle.core_validate.specs.Typed.{type_of}
use Rattle.core_validate.specs.Validity.{IsValidModule}
use Rattle.comp_scopes.specs.declared.modules.KnownModule.{KnownModule}
use Rattle.comp_scopes.specs.Found.{IsKnownModule}

abbrev pub IsJudged : Module → Option KnownModule → Type 0
IsJudged m None = IsValidModule m → ⊥
IsJudged m (Some known) = IsValidModule m × IsKnownModule (type_of m) known
