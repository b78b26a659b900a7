use Rattle.std.proofs.Common.{◌≡◌, ℕ, suc, ◌+◌, List, [], ◌∷◌, ◌++◌, length, map, sym, ap, subst, ◌∙◌, arith}
use Rattle.tree_table.specs.declared.entries.NamedTree.{NamedTree}
use Rattle.tree_table.specs.declared.order.Key.{Key}
use Rattle.tree_table.specs.Trees.{AreTrees}
use Rattle.tree_table.specs.Tables.{Row, IsSound, Holds}
use Rattle.tree_table.specs.Slots.{row_of, AreWithin}
use Rattle.tree_table.specs.Orders.{IsOrder}
use Rattle.tree_table.specs.Linked.{AreLinks, row_for, rows_upto}
use Rattle.tree_table.proofs.BuildLemmas.{is_sound, holds}
use Rattle.tree_table.proofs.SlotLemmas.{within-keep, rows-keep, within-push, rows-push}
use Rattle.tree_table.proofs.table.Table.build.Goals as goal

pub loop-node-preserved : goal.loop-node-preserved
loop-node-preserved c =
    let named = c.as_slice-named.result.now in
    let order = c.in_ok-order.order.items in
    let parents = c.in_ok-links.links.parents.items in
    let first = c.in_ok-links.links.first.items in
    let inv = c.loop-node.invariant in
    let node = c.loop-node.node in
    let slots = c.loop-node.slots.items in
    let slot = c.in_ok-slot.slot in
    let bytes = c.slot_for.new.bytes.items in
    let kept = c.in_ok-slot.ensures.bytes in
    let items : c.push.new.self.items ≡ slots ++ slot ∷ [] = c.in_ok-push.ensures.items in
    let old : map (row_of bytes) slots ≡ rows_upto named order parents first node = ap (λ (b : List ℕ). map (row_of b) slots) kept.1 ∙ rows-keep c.loop-node.bytes.items kept.0 slots inv.within ∙ inv.rows in
    let new : row_of bytes slot ≡ row_for named order parents first node = c.in_ok-slot.ensures.row ∙ ap (λ (ks : List Key). row_for named ks parents first node) c.as_slice-in-loop-node.ensures.value in
    let still : AreWithin bytes slots = subst (λ (b : List ℕ). AreWithin b slots) (sym kept.1) (within-keep c.loop-node.bytes.items kept.0 slots inv.within) in
    let more : suc node ≡ node + 1 = omega arith in
    record {
      rows = ap (map (row_of bytes)) items ∙ rows-push (row_of bytes) slots slot ∙ ap (λ (rs : List Row). rs ++ row_of bytes slot ∷ []) old ∙ ap (λ (r : Row). rows_upto named order parents first node ++ r ∷ []) new ∙ ap (rows_upto named order parents first) more;
      within = subst (AreWithin bytes) (sym items) (within-push bytes slots slot still c.in_ok-slot.ensures.within);
    }

pub invariant_of-result : goal.invariant_of-result
invariant_of-result c =
    let named = c.as_slice-named.result.now in
    let order = c.in_ok-order.order.items in
    let parents = c.in_ok-links.links.parents.items in
    let first = c.in_ok-links.links.first.items in
    let inv = c.loop-node.invariant in
    let same : named ≡ c.args.trees.now = c.as_slice-named.ensures in
    let sound : AreTrees named = subst AreTrees (sym same) c.requires in
    let laid : IsOrder named order = c.in_ok-order.ensures in
    let links : AreLinks named order parents first = subst (λ (ks : List Key). AreLinks named ks parents first) c.as_slice.ensures.value c.in_ok-links.ensures in
    let done : c.loop-node.node ≡ length order = omega (arith, c.loop-node-test.false, c.loop-node.auto.node-end) in
    let all : map (row_of c.loop-node.bytes.items) c.loop-node.slots.items ≡ rows_upto named order parents first (length order) = inv.rows ∙ ap (rows_upto named order parents first) done in
    (subst (λ (rs : List Row). IsSound (record { roots = length named; rows = rs })) (sym all) (is_sound named order parents first sound laid links), inv.within)

pub returns : goal.returns
returns c =
    let named = c.as_slice-named.result.now in
    let order = c.in_ok-order.order.items in
    let parents = c.in_ok-links.links.parents.items in
    let first = c.in_ok-links.links.first.items in
    let inv = c.loop-node.invariant in
    let same : named ≡ c.args.trees.now = c.as_slice-named.ensures in
    let sound : AreTrees named = subst AreTrees (sym same) c.requires in
    let laid : IsOrder named order = c.in_ok-order.ensures in
    let links : AreLinks named order parents first = subst (λ (ks : List Key). AreLinks named ks parents first) c.as_slice.ensures.value c.in_ok-links.ensures in
    let done : c.loop-node.node ≡ length order = omega (arith, c.loop-node-test.false, c.loop-node.auto.node-end) in
    let all : map (row_of c.loop-node.bytes.items) c.loop-node.slots.items ≡ rows_upto named order parents first (length order) = inv.rows ∙ ap (rows_upto named order parents first) done in
    subst (λ (ts : List NamedTree). Holds ts (record { roots = length named; rows = map (row_of c.loop-node.bytes.items) c.loop-node.slots.items })) same
    (subst (λ (rs : List Row). Holds named (record { roots = length named; rows = rs })) (sym all) (holds named order parents first sound laid links))
