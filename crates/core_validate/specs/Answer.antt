-- What validation answers.
use Rattle.std.specs.Prelude.{◌≡◌, Result, Ok, Err}
use Rattle.wasm_ast.specs.declared.module.Module.{Module}
use Rattle.core_validate.specs.declared.item.ModuleType.{ModuleType}
use Rattle.core_validate.specs.declared.item.CoreFault.{CoreFault}
use Rattle.core_validate.specs.declared.item.CoreFault.TheVariants.{Invalid, NoMemory}
use Rattle.core_validate.specs.Typed.{type_of}
use Rattle.core_validate.specs.Validity.{IsValidModule, Breaks}

-- a valid module's type; or the least rule that the first faulty item breaks; or that memory ran out
abbrev pub Answers : Module → Result ModuleType CoreFault → Type 0
Answers m (Ok t) = IsValidModule m × (t ≡ type_of m)
Answers m (Err (Invalid rule)) = Breaks m rule
Answers m (Err NoMemory) = Unit {0}
