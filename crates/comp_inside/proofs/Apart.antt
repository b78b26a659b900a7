-- A component in one whose scope holds nothing yet is planned as alone: no outer alias finds anything there.
use Rattle.std.proofs.Common.{◌≡◌, ℕ, zero, suc, List, [], ◌∷◌, ◌++◌, Some, None, refl, sym, ◌∙◌, ap}
use Rattle.std.specs.Prelude.{slice_get}
use Rattle.wasm_ast.specs.declared.component.OuterSort.{OuterSort}
use Rattle.wasm_ast.specs.declared.component.OuterSort.TheVariants as outer_sorts
use Rattle.wasm_ast.specs.declared.component.Alias.{Alias}
use Rattle.wasm_ast.specs.declared.component.Alias.TheVariants as aliases
use Rattle.wasm_ast.specs.declared.component.TypeAlias.{TypeAlias}
use Rattle.wasm_ast.specs.declared.component.TypeAlias.TheVariants as type_aliases
use Rattle.comp_grammar.specs.Trees.{Part, Tree, CoreModule, Nested, CoreInstances, Instances, Aliases, Types, Canons, Imports, Exports, Custom, End as NoParts, More as Section}
use Rattle.comp_types.specs.Declarations.{Declaration, Declarations, ATypeDef, AnInstanceType, ATypeAlias, ATypeExport, Done, Then}
use Rattle.comp_types.specs.Definitions.{Definition, ACoreInstance, AnInstance, AnAlias, AType, ACanon, AnImport, AnExport, definitions}
use Rattle.comp_types.specs.Spaces.{Space}
use Rattle.comp_types.specs.Added.{and_outer, and_alias, and_type_alias, and_depth, and_instance_type, instance_type, opened, after_declaration, after_declarations, after, after_all, entered, and_nested, after_part, after_tree, root}
use Rattle.comp_link.specs.Plans.{Scope, no_scope, and_plan, Plan, End, followed, planned_by, and_outer as scope_and_outer, scope_after, Reached, behind, plan_all, plan_part, plan_tree}

-- ---- the spaces

outer_root : (s : Space) (sort : OuterSort) (index : ℕ) → and_outer s sort (Some root) index ≡ s
outer_root s outer_sorts.CoreModule index = refl
outer_root s outer_sorts.Type index = refl
outer_root s outer_sorts.Component index = refl

outer_apart : (s : Space) (sort : OuterSort) (index : ℕ) (around : List Space) (count : ℕ) → and_outer s sort (slice_get (around ++ root ∷ []) count) index ≡ and_outer s sort (slice_get around count) index
outer_apart s sort index [] zero = outer_root s sort index
outer_apart s sort index [] (suc count) = refl
outer_apart s sort index (a ∷ around) zero = refl
outer_apart s sort index (a ∷ around) (suc count) = outer_apart s sort index around count

alias_apart : (around : List Space) (s : Space) (a : Alias) → and_alias (around ++ root ∷ []) s a ≡ and_alias around s a
alias_apart around s (aliases.Export sort instance name) = refl
alias_apart around s (aliases.CoreExport sort instance name) = refl
alias_apart around s (aliases.Outer sort count index) = outer_apart s sort index (s ∷ around) count

type_alias_apart : (around : List Space) (s : Space) (a : TypeAlias) → and_type_alias (around ++ root ∷ []) s a ≡ and_type_alias around s a
type_alias_apart around s (type_aliases.Export instance name) = refl
type_alias_apart around s (type_aliases.Outer count index) = outer_apart s outer_sorts.Type index (s ∷ around) count

mutual
  declaration_apart : (around : List Space) (s : Space) (d : Declaration) → after_declaration (around ++ root ∷ []) s d ≡ after_declaration around s d
  declaration_apart around s (ATypeDef d) = refl
  declaration_apart around s (AnInstanceType ds) = ap (λ inner. and_depth (and_instance_type s inner) (instance_type inner).depth) (declarations_apart (s ∷ around) (opened s) ds)
  declaration_apart around s (ATypeAlias a) = type_alias_apart around s a
  declaration_apart around s (ATypeExport name desc) = refl

  declarations_apart : (around : List Space) (s : Space) (ds : Declarations) → after_declarations (around ++ root ∷ []) s ds ≡ after_declarations around s ds
  declarations_apart around s Done = refl
  declarations_apart around s (Then d ds) = ap (λ z. after_declarations (around ++ root ∷ []) z ds) (declaration_apart around s d) ∙ declarations_apart around (after_declaration around s d) ds

after_apart : (around : List Space) (s : Space) (d : Definition) → after (around ++ root ∷ []) s d ≡ after around s d
after_apart around s (ACoreInstance i) = refl
after_apart around s (AnInstance i) = refl
after_apart around s (AnAlias a) = alias_apart around s a
after_apart around s (AType d) = declaration_apart around s d
after_apart around s (ACanon c) = refl
after_apart around s (AnImport i) = refl
after_apart around s (AnExport e) = refl

all_apart : (around : List Space) (s : Space) (ds : List Definition) → after_all (around ++ root ∷ []) s ds ≡ after_all around s ds
all_apart around s [] = refl
all_apart around s (d ∷ ds) = ap (λ z. after_all (around ++ root ∷ []) z ds) (after_apart around s d) ∙ all_apart around (after around s d) ds

mutual
  part_apart : (around : List Space) (s : Space) (part : Part) → after_part (around ++ root ∷ []) s part ≡ after_part around s part
  part_apart around s (CoreModule span m) = refl
  part_apart around s (Nested span tree) = ap (and_nested s) (tree_apart (s ∷ around) (entered s) tree)
  part_apart around s (CoreInstances items) = all_apart around s (definitions (CoreInstances items))
  part_apart around s (Instances items) = all_apart around s (definitions (Instances items))
  part_apart around s (Aliases items) = all_apart around s (definitions (Aliases items))
  part_apart around s (Types items) = all_apart around s (definitions (Types items))
  part_apart around s (Canons items) = all_apart around s (definitions (Canons items))
  part_apart around s (Imports items) = all_apart around s (definitions (Imports items))
  part_apart around s (Exports items) = all_apart around s (definitions (Exports items))
  part_apart around s (Custom span) = refl

  pub tree_apart : (around : List Space) (s : Space) (tree : Tree) → after_tree (around ++ root ∷ []) s tree ≡ after_tree around s tree
  tree_apart around s NoParts = refl
  tree_apart around s (Section part rest) = ap (λ z. after_tree (around ++ root ∷ []) z rest) (part_apart around s part) ∙ tree_apart around (after_part around s part) rest

-- ---- the plans

scope_root : (scope : Scope) (sort : OuterSort) (index : ℕ) → scope_and_outer scope sort (Some no_scope) index ≡ scope
scope_root scope outer_sorts.CoreModule index = refl
scope_root scope outer_sorts.Component index = refl
scope_root scope outer_sorts.Type index = refl

scope_none : (scope : Scope) (sort : OuterSort) (index : ℕ) → scope_and_outer scope sort None index ≡ scope
scope_none scope outer_sorts.CoreModule index = refl
scope_none scope outer_sorts.Component index = refl
scope_none scope outer_sorts.Type index = refl

scope_outer : (scope : Scope) (sort : OuterSort) (index : ℕ) (outside : List Scope) (count : ℕ) → scope_and_outer scope sort (slice_get (outside ++ no_scope ∷ []) count) index ≡ scope_and_outer scope sort (slice_get outside count) index
scope_outer scope sort index [] zero = scope_root scope sort index ∙ sym (scope_none scope sort index)
scope_outer scope sort index [] (suc count) = refl
scope_outer scope sort index (o ∷ outside) zero = refl
scope_outer scope sort index (o ∷ outside) (suc count) = scope_outer scope sort index outside count

scope_apart : (outside : List Scope) (scope : Scope) (d : Definition) → scope_after (outside ++ no_scope ∷ []) scope d ≡ scope_after outside scope d
scope_apart outside scope (AnAlias (aliases.Outer sort count index)) = scope_outer scope sort index (scope ∷ outside) count
scope_apart outside scope (AnAlias (aliases.Export sort instance name)) = refl
scope_apart outside scope (AnAlias (aliases.CoreExport sort instance name)) = refl
scope_apart outside scope (ACoreInstance i) = refl
scope_apart outside scope (AnInstance i) = refl
scope_apart outside scope (AType d) = refl
scope_apart outside scope (ACanon c) = refl
scope_apart outside scope (AnImport i) = refl
scope_apart outside scope (AnExport e) = refl

plan_all_apart : (around : List Space) (outside : List Scope) (s : Space) (scope : Scope) (ds : List Definition) → plan_all (around ++ root ∷ []) (outside ++ no_scope ∷ []) s scope ds ≡ plan_all around outside s scope ds
plan_all_apart around outside s scope [] = refl
plan_all_apart around outside s scope (d ∷ ds) =
    ap (λ z. behind (planned_by scope s d) (plan_all (around ++ root ∷ []) (outside ++ no_scope ∷ []) z (scope_after (outside ++ no_scope ∷ []) scope d) ds)) (after_apart around s d)
    ∙ ap (λ z. behind (planned_by scope s d) (plan_all (around ++ root ∷ []) (outside ++ no_scope ∷ []) (after around s d) z ds)) (scope_apart outside scope d)
    ∙ ap (behind (planned_by scope s d)) (plan_all_apart around outside (after around s d) (scope_after outside scope d) ds)

abbrev nested_reached : Scope → Plan → Reached
nested_reached scope plan = record { plan = End; scope = and_plan scope (Some plan) }

mutual
  plan_part_apart : (around : List Space) (outside : List Scope) (s : Space) (scope : Scope) (part : Part) → plan_part (around ++ root ∷ []) (outside ++ no_scope ∷ []) s scope part ≡ plan_part around outside s scope part
  plan_part_apart around outside s scope (CoreModule span m) = refl
  plan_part_apart around outside s scope (Nested span tree) = ap (nested_reached scope) (plan_apart (s ∷ around) (scope ∷ outside) (entered s) no_scope tree)
  plan_part_apart around outside s scope (CoreInstances items) = plan_all_apart around outside s scope (definitions (CoreInstances items))
  plan_part_apart around outside s scope (Instances items) = plan_all_apart around outside s scope (definitions (Instances items))
  plan_part_apart around outside s scope (Aliases items) = plan_all_apart around outside s scope (definitions (Aliases items))
  plan_part_apart around outside s scope (Types items) = plan_all_apart around outside s scope (definitions (Types items))
  plan_part_apart around outside s scope (Canons items) = plan_all_apart around outside s scope (definitions (Canons items))
  plan_part_apart around outside s scope (Imports items) = plan_all_apart around outside s scope (definitions (Imports items))
  plan_part_apart around outside s scope (Exports items) = plan_all_apart around outside s scope (definitions (Exports items))
  plan_part_apart around outside s scope (Custom span) = refl

  pub plan_apart : (around : List Space) (outside : List Scope) (s : Space) (scope : Scope) (tree : Tree) → plan_tree (around ++ root ∷ []) (outside ++ no_scope ∷ []) s scope tree ≡ plan_tree around outside s scope tree
  plan_apart around outside s scope NoParts = refl
  plan_apart around outside s scope (Section part rest) =
      ap (λ z. followed z.plan (plan_tree (around ++ root ∷ []) (outside ++ no_scope ∷ []) (after_part (around ++ root ∷ []) s part) z.scope rest)) (plan_part_apart around outside s scope part)
      ∙ ap (λ z. followed (plan_part around outside s scope part).plan (plan_tree (around ++ root ∷ []) (outside ++ no_scope ∷ []) z (plan_part around outside s scope part).scope rest)) (part_apart around s part)
      ∙ ap (followed (plan_part around outside s scope part).plan) (plan_apart around outside (after_part around s part) (plan_part around outside s scope part).scope rest)
