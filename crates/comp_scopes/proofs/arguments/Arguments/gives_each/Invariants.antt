use Rattle.std.proofs.Common.{◌≡◌, List, length}
use Rattle.std.specs.List.{list_all}
use Rattle.wasm_ast.specs.declared.component.CoreArg.{CoreArg}
use Rattle.comp_types.specs.Rules.{core_import_given}
use Rattle.comp_types.specs.Spaces.{Space}
use Rattle.comp_scopes.specs.Arguments.{HasArguments}
use Rattle.comp_scopes.specs.Scopes.{IsCoreOf}
use Rattle.comp_scopes.proofs.arguments.Arguments.gives_each.Given as goal

abbrev pub invariant-loop-import : goal.invariant-loop-import
invariant-loop-import l = (s : Space) → (args : List CoreArg) → IsCoreOf s l.scope → HasArguments args l.self
    → list_all (core_import_given s args) l.imports ≡ list_all (core_import_given s args) l.rest

abbrev pub decreases-loop-import : goal.decreases-loop-import
decreases-loop-import l = length l.rest
