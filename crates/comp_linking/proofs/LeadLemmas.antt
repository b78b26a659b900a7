-- Where sections lead is where the definition of the plan leads.
use Rattle.std.proofs.Common.{◌≡◌, ◌∙◌, ap, sym, refl, List, [], ◌∷◌, Some}
use Rattle.comp_grammar.specs.Trees.{Part, Tree, CoreModule, Nested, CoreInstances, Instances, Aliases, Types, Canons, Imports, Exports, Custom, End as NoParts, More as Section}
use Rattle.comp_types.specs.Definitions.{Definition, definitions}
use Rattle.comp_types.specs.Added.{after_all, after_part, after_tree, and_nested}
use Rattle.comp_link.specs.Plans.{and_plan, followed, plan_all, plan_part, plan_tree, plan_of, planned_by}
use Rattle.comp_link.proofs.Earlier.{followed-end, followed-assoc}
use Rattle.comp_linking.specs.Walks.{At, spaces, scopes, at_after, at_all, at_entered, at_part, at_tree, at_root}

-- ---- definitions

pub all_space : (outer : List At) (a : At) (ds : List Definition) → (at_all outer a ds).space ≡ after_all (spaces outer) a.space ds
all_space outer a [] = refl
all_space outer a (d ∷ ds) = all_space outer (at_after outer a d) ds

all_scope : (outer : List At) (a : At) (ds : List Definition) → (at_all outer a ds).scope ≡ (plan_all (spaces outer) (scopes outer) a.space a.scope ds).scope
all_scope outer a [] = refl
all_scope outer a (d ∷ ds) = all_scope outer (at_after outer a d) ds

all_plan : (outer : List At) (a : At) (ds : List Definition) → (at_all outer a ds).plan ≡ followed a.plan (plan_all (spaces outer) (scopes outer) a.space a.scope ds).plan
all_plan outer a [] = sym (followed-end a.plan)
all_plan outer a (d ∷ ds) =
    all_plan outer (at_after outer a d) ds
    ∙ followed-assoc a.plan (planned_by a.scope a.space d) (plan_all (spaces outer) (scopes outer) (at_after outer a d).space (at_after outer a d).scope ds).plan

-- ---- sections

mutual
  pub part_space : (outer : List At) (a : At) (part : Part) → (at_part outer a part).space ≡ after_part (spaces outer) a.space part
  part_space outer a (CoreModule span m) = refl
  part_space outer a (Nested span tree) = ap (and_nested a.space) (tree_space (a ∷ outer) (at_entered a) tree)
  part_space outer a (CoreInstances items) = all_space outer a (definitions (CoreInstances items))
  part_space outer a (Instances items) = all_space outer a (definitions (Instances items))
  part_space outer a (Aliases items) = all_space outer a (definitions (Aliases items))
  part_space outer a (Types items) = all_space outer a (definitions (Types items))
  part_space outer a (Canons items) = all_space outer a (definitions (Canons items))
  part_space outer a (Imports items) = all_space outer a (definitions (Imports items))
  part_space outer a (Exports items) = all_space outer a (definitions (Exports items))
  part_space outer a (Custom span) = refl

  pub tree_space : (outer : List At) (a : At) (tree : Tree) → (at_tree outer a tree).space ≡ after_tree (spaces outer) a.space tree
  tree_space outer a NoParts = refl
  tree_space outer a (Section part rest) = tree_space outer (at_part outer a part) rest ∙ ap (λ s. after_tree (spaces outer) s rest) (part_space outer a part)

mutual
  part_scope : (outer : List At) (a : At) (part : Part) → (at_part outer a part).scope ≡ (plan_part (spaces outer) (scopes outer) a.space a.scope part).scope
  part_scope outer a (CoreModule span m) = refl
  part_scope outer a (Nested span tree) = ap (λ plan. and_plan a.scope (Some plan)) (tree_plan (a ∷ outer) (at_entered a) tree)
  part_scope outer a (CoreInstances items) = all_scope outer a (definitions (CoreInstances items))
  part_scope outer a (Instances items) = all_scope outer a (definitions (Instances items))
  part_scope outer a (Aliases items) = all_scope outer a (definitions (Aliases items))
  part_scope outer a (Types items) = all_scope outer a (definitions (Types items))
  part_scope outer a (Canons items) = all_scope outer a (definitions (Canons items))
  part_scope outer a (Imports items) = all_scope outer a (definitions (Imports items))
  part_scope outer a (Exports items) = all_scope outer a (definitions (Exports items))
  part_scope outer a (Custom span) = refl

  part_plan : (outer : List At) (a : At) (part : Part) → (at_part outer a part).plan ≡ followed a.plan (plan_part (spaces outer) (scopes outer) a.space a.scope part).plan
  part_plan outer a (CoreModule span m) = sym (followed-end a.plan)
  part_plan outer a (Nested span tree) = sym (followed-end a.plan)
  part_plan outer a (CoreInstances items) = all_plan outer a (definitions (CoreInstances items))
  part_plan outer a (Instances items) = all_plan outer a (definitions (Instances items))
  part_plan outer a (Aliases items) = all_plan outer a (definitions (Aliases items))
  part_plan outer a (Types items) = all_plan outer a (definitions (Types items))
  part_plan outer a (Canons items) = all_plan outer a (definitions (Canons items))
  part_plan outer a (Imports items) = all_plan outer a (definitions (Imports items))
  part_plan outer a (Exports items) = all_plan outer a (definitions (Exports items))
  part_plan outer a (Custom span) = sym (followed-end a.plan)

  pub tree_plan : (outer : List At) (a : At) (tree : Tree) → (at_tree outer a tree).plan ≡ followed a.plan (plan_tree (spaces outer) (scopes outer) a.space a.scope tree)
  tree_plan outer a NoParts = sym (followed-end a.plan)
  tree_plan outer a (Section part rest) =
      let reached = plan_part (spaces outer) (scopes outer) a.space a.scope part in
      tree_plan outer (at_part outer a part) rest
      ∙ ((λ j. followed (part_plan outer a part j) (plan_tree (spaces outer) (scopes outer) (part_space outer a part j) (part_scope outer a part j) rest))
      ∙ followed-assoc a.plan reached.plan (plan_tree (spaces outer) (scopes outer) (after_part (spaces outer) a.space part) reached.scope rest))

pub plan_is : (tree : Tree) → (at_tree [] at_root tree).plan ≡ plan_of tree
plan_is tree = tree_plan [] at_root tree
