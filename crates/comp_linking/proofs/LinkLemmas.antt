-- At the end of a valid component the draft is its plan.
use Rattle.std.proofs.Common.{◌≡◌, ◌∙◌, ap, sym, subst, List, []}
use Rattle.std.proofs.lemmas.List.{append-nil}
use Rattle.wasm_ast.specs.Boxed.{Held}
use Rattle.wasm_ast.specs.declared.module.Module.{Module}
use Rattle.comp_grammar.specs.Trees.{Tree}
use Rattle.comp_types.specs.Items.{Entries}
use Rattle.comp_types.specs.Added.{after_tree, root}
use Rattle.comp_types.specs.Validity.{IsValidComponent}
use Rattle.comp_worlds.specs.Groups.{Group}
use Rattle.comp_link.specs.Linking.{Making, begun, link, all_known, behind_known, all_outside, known_in, canon_in, owner_in, target_in, resource_of, exported, group_of}
use Rattle.comp_link.specs.Plans.{Plan, plan_of}
use Rattle.comp_link.specs.declared.items.PlanItem.{PlanItem}
use Rattle.comp_link.specs.declared.linked.ComponentPlan.{ComponentPlan}
use Rattle.comp_link.specs.declared.linked.Linked.{Linked}
use Rattle.comp_link.specs.Planned.{plan_in, plan_items}
use Rattle.comp_link.specs.Groups.{linked_group}
use Rattle.comp_linking.specs.Modules.{modules_in}
use Rattle.comp_linking.specs.declared.planner.Planner.{Planner}
use Rattle.comp_linking.specs.Walks.{Walks, at_root, at_tree, made}
use Rattle.comp_linking.specs.Goes.{PlansTree}
use Rattle.comp_linking.proofs.LeadLemmas.{plan_is}

pub ended : (tree : Tree) (x y : Planner) → IsValidComponent tree → Walks (modules_in tree) (modules_in tree) [] at_root x → PlansTree tree x y → Walks (modules_in tree) [] [] (at_tree [] at_root tree) y
ended tree x y valid h step =
    step (modules_in tree) [] [] at_root valid (subst (λ (more : List (Held Module)). Walks (modules_in tree) more [] at_root x) (sym (append-nil (modules_in tree))) h)

pub plan_found : (tree : Tree) (y : Planner) → Walks (modules_in tree) [] [] (at_tree [] at_root tree) y → plan_items (modules_in tree) (made (modules_in tree) y.components.items) y.inner.items.items ≡ plan_of tree
plan_found tree y h =
    let cs = made (modules_in tree) y.components.items in
    ap (λ l. plan_items (modules_in tree) l y.inner.items.items) (sym (append-nil cs)) ∙ (h.inner.items [] ∙ plan_is tree)

pub same_plan : (ms ms' : List (Held Module)) (cs cs' : List ComponentPlan) (items items' : List PlanItem) → ms ≡ ms' → cs ≡ cs' → items ≡ items' → plan_items ms (made ms cs) items ≡ plan_items ms' (made ms' cs') items'
same_plan ms ms' cs cs' items items' m c e = (λ i. plan_items (m i) (made (m i) (c i)) (e i))

abbrev making : Plan → Entries → Making
making plan imports = link plan (begun (record { next_instance = 0; next_resource = behind_known (all_known [] imports); stages = []; canons = []; owners = [] }) (all_outside [] imports))

abbrev grouped_by : Making → Entries → Group
grouped_by m imports = record {
  canons = canon_in m.whole.canons;
  owner = owner_in m.whole.owners;
  imported = known_in (all_known [] imports);
  exports = λ interface name. target_in (exported m.exports interface name);
  given = λ r. resource_of (exported m.exports r.interface r.name);
  stages = m.whole.stages;
}

pub group_found : (tree : Tree) (linked : Linked) → plan_in linked ≡ plan_of tree → linked.imports ≡ (after_tree [] root tree).imports → linked_group linked ≡ group_of tree
group_found tree linked p i = (λ j. grouped_by (making (p j) (i j)) (i j))
