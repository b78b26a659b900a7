use Rattle.std.proofs.Common.{List, length}
use Rattle.wasm_ast.specs.Boxed.{Held}
use Rattle.wasm_ast.specs.declared.module.Module.{Module}
use Rattle.comp_types.specs.Declarations.{grouped}
use Rattle.comp_types.specs.Definitions.{types_in}
use Rattle.comp_types.specs.Validity.{AreValid}
use Rattle.comp_linking.specs.Walks.{At, spaces, Walks}
use Rattle.comp_linking.proofs.RestLemmas.{DefinitionsLeft}
use Rattle.comp_linking.proofs.types.plan_types.Given as goal

abbrev pub invariant-loop-item : goal.invariant-loop-item
invariant-loop-item l =
    (ms todo : List (Held Module)) (outer : List At) (a : At) → AreValid (spaces outer) a.space (types_in (grouped l.items)) → Walks ms todo outer a l.fn.planner → DefinitionsLeft ms todo outer a (types_in (grouped l.items)) (types_in (grouped l.rest)) l.planner

abbrev pub decreases-loop-item : goal.decreases-loop-item
decreases-loop-item l = length l.rest
