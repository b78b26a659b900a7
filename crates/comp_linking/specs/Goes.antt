-- What a step of the planner does: valid definitions and sections lead where they lead in the plan.
use Rattle.std.specs.Prelude.{List, ◌++◌}
use Rattle.wasm_ast.specs.Boxed.{Held}
use Rattle.wasm_ast.specs.declared.module.Module.{Module}
use Rattle.comp_grammar.specs.Trees.{Part, Tree}
use Rattle.comp_types.specs.Definitions.{Definition}
use Rattle.comp_types.specs.Validity.{IsValidDefinition, AreValid, IsValidPart, IsValidTree}
use Rattle.comp_linking.specs.declared.planner.Planner.{Planner}
use Rattle.comp_linking.specs.Walks.{At, spaces, at_after, at_all, at_part, at_tree, Walks}
use Rattle.comp_linking.specs.Modules.{modules_in_part, modules_in}

abbrev pub Plans : Definition → Planner → Planner → Type 0
Plans d x y = (ms todo : List (Held Module)) (outer : List At) (a : At) → IsValidDefinition (spaces outer) a.space d → Walks ms todo outer a x → Walks ms todo outer (at_after outer a d) y

abbrev pub PlansAll : List Definition → Planner → Planner → Type 0
PlansAll ds x y = (ms todo : List (Held Module)) (outer : List At) (a : At) → AreValid (spaces outer) a.space ds → Walks ms todo outer a x → Walks ms todo outer (at_all outer a ds) y

abbrev pub PlansPart : Part → Planner → Planner → Type 0
PlansPart part x y = (ms todo : List (Held Module)) (outer : List At) (a : At) → IsValidPart (spaces outer) a.space part → Walks ms (modules_in_part part ++ todo) outer a x → Walks ms todo outer (at_part outer a part) y

abbrev pub PlansTree : Tree → Planner → Planner → Type 0
PlansTree tree x y = (ms todo : List (Held Module)) (outer : List At) (a : At) → IsValidTree (spaces outer) a.space tree → Walks ms (modules_in tree ++ todo) outer a x → Walks ms todo outer (at_tree outer a tree) y
