use Rattle.std.proofs.Common.{List, map, length}
use Rattle.wasm_ast.specs.Boxed.{Held}
use Rattle.wasm_ast.specs.declared.module.Module.{Module}
use Rattle.comp_types.specs.Validity.{AreValid}
use Rattle.comp_linking.specs.Walks.{At, spaces, Walks}
use Rattle.comp_linking.proofs.RestLemmas.{DefinitionsLeft}
use Rattle.comp_linking.proofs.definitions.plan_all.Given as goal

abbrev pub invariant-loop-item : goal.invariant-loop-item
invariant-loop-item g l =
    (ms todo : List (Held Module)) (outer : List At) (a : At) → AreValid (spaces outer) a.space (map g.T.Planned.definition l.items) → Walks ms todo outer a l.fn.planner → DefinitionsLeft ms todo outer a (map g.T.Planned.definition l.items) (map g.T.Planned.definition l.rest) l.planner

abbrev pub decreases-loop-item : goal.decreases-loop-item
decreases-loop-item g l = length l.rest
