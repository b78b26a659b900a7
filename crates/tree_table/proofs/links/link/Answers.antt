use Rattle.std.proofs.Common.{◌≡◌, ◌≢◌, ℕ, suc, true≢false, ◌+◌, ◌<◌, ◌∷◌, [], ◌++◌, List, length, IsSome, refl, sym, ap, subst, ◌∙◌, arith}
use Rattle.tree_table.specs.Orders.{key_at}
use Rattle.tree_table.specs.Linked.{IsFolderOf}
use Rattle.tree_table.proofs.LayLemmas.{laid, entry-there, some-folder, folders-rise}
use Rattle.tree_table.proofs.LinkLemmas.{Linked, first-moves, linked-more}
use Rattle.std.proofs.lemmas.List.{length_push}
use Rattle.tree_table.proofs.links.link.Goals as goal

pub loop-parent-init : goal.loop-parent-init
loop-parent-init c =
    let trees = c.args.trees.now in
    let order = c.args.order.now in
    let inv = c.loop-node.invariant in
    let within = c.loop-node-test.true in
    let found = some-folder trees (length order) (length trees) (key_at order) (laid trees order c.requires.trees c.requires.order) c.loop-node.node inv.enough (omega arith) in
    record {
      first_size = inv.first_size;
      linked = inv.linked;
      folder = (found.0, inv.later found.0 (omega arith) found.1 found.2, found.1, found.2);
    }

pub is_folder_of-requires-clause-upper : goal.is_folder_of-requires-clause-upper
is_folder_of-requires-clause-upper c =
    let trees = c.args.trees.now in
    let order = c.args.order.now in
    let folder = c.loop-parent.invariant.folder in
    let within = c.loop-node-test.true in
    let there = entry-there trees order c.requires.trees c.requires.order c.loop-parent.parent (omega (arith, folder.1, folder.2)) in
    subst IsSome (sym there.1) refl

pub loop-parent-preserved : goal.loop-parent-preserved
loop-parent-preserved c =
    let trees = c.args.trees.now in
    let order = c.args.order.now in
    let inv = c.loop-parent.invariant in
    let items : c.push.new.self.items ≡ c.loop-parent.first.items ++ c.loop-node.node ∷ [] = c.in_ok-push.ensures.items in
    let other : c.loop-parent.parent ≢ inv.folder.0 = λ same.
    let folder : IsFolderOf trees (key_at order c.loop-parent.parent) (key_at order c.loop-node.node) = subst (λ q. IsFolderOf trees (key_at order q) (key_at order c.loop-node.node)) (sym same) inv.folder.3 in
    true≢false (sym (c.is_folder_of.ensures.1 folder) ∙ c.loop-parent-test.true) in
    record {
      first_size = ap length items ∙ length_push c.loop-parent.first.items c.loop-node.node ∙ ap (λ n. n + 1) inv.first_size;
      linked = subst (λ (f : List ℕ). Linked trees (length trees) (key_at order) c.loop-node.node c.loop-node.parents.items f) (sym items) (first-moves trees (length trees) (key_at order) c.loop-node.node c.loop-node.parents.items c.loop-parent.first.items inv.linked);
      folder = (inv.folder.0, omega (arith, inv.folder.1, other), inv.folder.2, inv.folder.3);
    }

pub loop-node-preserved : goal.loop-node-preserved
loop-node-preserved c =
    let trees = c.args.trees.now in
    let order = c.args.order.now in
    let inv = c.loop-parent.invariant in
    let outer = c.loop-node.invariant in
    let node = c.loop-node.node in
    let parent = c.loop-parent.parent in
    let items : c.push-in-loop-node.new.self.items ≡ c.loop-node.parents.items ++ parent ∷ [] = c.in_ok-push-2.ensures.items in
    let is : IsFolderOf trees (key_at order parent) (key_at order node) = c.is_folder_of.ensures.0 c.loop-parent-test.false in
    let below : parent < node = omega (arith, inv.folder.1, inv.folder.2) in
    let within = c.loop-node-test.true in
    let more : suc node ≡ node + 1 = omega arith in
    let linked = linked-more trees (length trees) (key_at order) node parent c.loop-node.parents.items c.loop-parent.first.items inv.linked outer.enough outer.parents_size (omega (arith, inv.first_size)) below is in
    record {
      parents_size = ap length items ∙ length_push c.loop-node.parents.items parent ∙ ap (λ n. n + 1) outer.parents_size;
      first_size = inv.first_size;
      enough = omega (arith, outer.enough);
      before = omega arith;
      linked = subst (λ (ps : List ℕ). Linked trees (length trees) (key_at order) (node + 1) ps c.loop-parent.first.items) (sym items) (subst (λ n. Linked trees (length trees) (key_at order) n (c.loop-node.parents.items ++ parent ∷ []) c.loop-parent.first.items) more linked);
      later = λ q less before folder.
          folders-rise trees (length order) (length trees) (key_at order) (laid trees order c.requires.trees c.requires.order) parent q node (node + 1) (omega arith) less (omega arith) (omega arith) is folder;
    }

pub loop-first-preserved : goal.loop-first-preserved
loop-first-preserved c =
    let trees = c.args.trees.now in
    let order = c.args.order.now in
    let inv = c.loop-first.invariant in
    let items : c.push-in-loop-first.new.self.items ≡ c.loop-first.first.items ++ length order ∷ [] = c.in_ok-push-3.ensures.items in
    record {
      first_size = omega (arith, ap length items, length_push c.loop-first.first.items (length order));
      linked = subst (λ (f : List ℕ). Linked trees (length trees) (key_at order) (length order) c.loop-node.parents.items f) (sym items) (first-moves trees (length trees) (key_at order) (length order) c.loop-node.parents.items c.loop-first.first.items inv.linked);
    }
