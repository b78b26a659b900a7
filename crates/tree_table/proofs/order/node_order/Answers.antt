use Rattle.std.proofs.Common.{◌≡◌, ◌++◌, List, length, sym, ap, subst, ◌∙◌}
use Rattle.std.specs.List.Sorted.{IsPermutation, IsSorted}
use Rattle.tree_table.specs.declared.order.Key.{Key}
use Rattle.tree_table.specs.Orders.{roots_upto, inner_from, IsOrder}
use Rattle.tree_table.proofs.OrderLemmas.{key_cmp, is_order}
use Rattle.tree_table.proofs.order.node_order.Goals as goal

pub returns : goal.returns
returns c =
    let trees = c.args.trees.now in
    let sorted = c.sort.new.self.items in
    let moved : IsPermutation (inner_from 0 trees) sorted = subst (λ (ks : List Key). IsPermutation ks sorted) c.in_ok-inner.ensures c.sort.ensures.permutation in
    let up : IsSorted key_cmp sorted = c.in_ok-sort.ensures.sorted in
    let items : c.extend_from_slice.new.self.items ≡ roots_upto (length trees) ++ sorted =
    c.in_ok-extend_from_slice.ensures.items ∙ ap (λ (ks : List Key). ks ++ c.as_slice.result.now) c.in_ok-order.ensures ∙ ap (λ (ks : List Key). roots_upto (length trees) ++ ks) c.as_slice.ensures.value in
    subst (λ (ks : List Key). IsOrder trees ks) (sym items) (is_order trees sorted moved up c.requires)
