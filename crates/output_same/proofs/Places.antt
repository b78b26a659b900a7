-- The places of a component's parts make no difference to the group that it is.
use Rattle.std.proofs.Common.{◌≡◌, ◌∙◌, ap, sym, refl, List, [], ◌∷◌, Some}
use Rattle.std.proofs.Math.Path.{ap₂}
use Rattle.comp_grammar.specs.Trees.{Part, Tree, CoreModule, Nested, CoreInstances, Instances, Aliases, Types, Canons, Imports, Exports, Custom, End, More}
use Rattle.comp_write.specs.Copying.{bare_part, bare}
use Rattle.comp_types.specs.Spaces.{Space}
use Rattle.comp_types.specs.Added.{entered, after_part, root}
use Rattle.comp_link.specs.Plans.{Plan, End as NoPlan, Scope, no_scope, and_plan, Reached, followed, plan_part, plan_tree}
use Rattle.comp_worlds.specs.Groups.{Group}
use Rattle.comp_link.specs.Linking.{Making, begun, link, all_outside, all_known, behind_known, known_in, canon_in, owner_in, target_in, resource_of, exported, group_of}
use Rattle.output_same.proofs.Bare.{part_adds, tree_adds}
use Rattle.output_same.specs.Laws.{PlacesMakeNoDifference}

mutual
  unfolding bare_part bare

  part_planned : (around : List Space) (outside : List Scope) (s : Space) (scope : Scope) (part : Part) → plan_part around outside s scope (bare_part part) ≡ plan_part around outside s scope part
  part_planned around outside s scope (CoreModule span m) = refl
  part_planned around outside s scope (Nested span tree) = ap (λ (plan : Plan). record { plan = NoPlan; scope = and_plan scope (Some plan) }) (tree_planned (s ∷ around) (scope ∷ outside) (entered s) no_scope tree)
  part_planned around outside s scope (CoreInstances items) = refl
  part_planned around outside s scope (Instances items) = refl
  part_planned around outside s scope (Aliases items) = refl
  part_planned around outside s scope (Types items) = refl
  part_planned around outside s scope (Canons items) = refl
  part_planned around outside s scope (Imports items) = refl
  part_planned around outside s scope (Exports items) = refl
  part_planned around outside s scope (Custom span) = refl

  tree_planned : (around : List Space) (outside : List Scope) (s : Space) (scope : Scope) (tree : Tree) → plan_tree around outside s scope (bare tree) ≡ plan_tree around outside s scope tree
  tree_planned around outside s scope End = refl
  tree_planned around outside s scope (More part rest) =
      ap₂ (λ (r : Reached) (t : Space). followed r.plan (plan_tree around outside t r.scope (bare rest))) (part_planned around outside s scope part) (part_adds around s part)
      ∙ ap (followed (plan_part around outside s scope part).plan) (tree_planned around outside (after_part around s part) (plan_part around outside s scope part).scope rest)

-- the group of a plan in these index spaces
abbrev group_by : Plan → Space → Group
group_by plan s =
    let m : Making = link plan (begun (record { next_instance = 0; next_resource = behind_known (all_known [] s.imports); stages = []; canons = []; owners = [] }) (all_outside [] s.imports)) in
    record {
      canons = canon_in m.whole.canons;
      owner = owner_in m.whole.owners;
      imported = known_in (all_known [] s.imports);
      exports = λ interface name. target_in (exported m.exports interface name);
      given = λ r. resource_of (exported m.exports r.interface r.name);
      stages = m.whole.stages;
    }

bare_group : (t : Tree) → group_of (bare t) ≡ group_of t
bare_group t = ap₂ group_by (tree_planned [] [] root no_scope t) (tree_adds [] root t)

pub same_group : PlacesMakeNoDifference
same_group t u same = sym (bare_group t) ∙ ap group_of same ∙ bare_group u
