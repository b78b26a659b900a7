use Rattle.std.proofs.Common.{rules, ℕ, List, [], length, sym, ap, subst, ◌∙◌}
use Rattle.std.specs.List.Sorted.{IsPermutation, IsSortedBy}
use Rattle.std.specs.Ordering.{is_lt}
use Rattle.std.proofs.lemmas.Cmp.{nat_list_cmp_total, lists_total}
use Rattle.std.proofs.lemmas.List.MinMax.{ranks_by}
use Rattle.std.proofs.lemmas.Fn.{always_returns_same}
use Rattle.tree_table.specs.declared.entries.Entry.{Entry}
use Rattle.tree_table.specs.Trees.{path_cmp}
use Rattle.tree_table.specs.Stored.{entry_at, numbers_upto, path_at, root_entry}
use Rattle.tree_table.proofs.StoredLemmas.{first-from, permuted, whole, sorted-entries}
use Rattle.tree_table.proofs.nodes.Nodes.in_order.Goals as goal

pub new-requires-clause-first : goal.new-requires-clause-first
new-requires-clause-first c = ap (λ (es : List Entry). entry_at es 0) (sym c.self.view_is) ∙ first-from root_entry [] c.self.inside.below.items

pub new-requires-clause-whole : goal.new-requires-clause-whole
new-requires-clause-whole c =
    let moved : IsPermutation (numbers_upto (length c.args.self)) c.sort_by.new.self.items = subst (λ (ns : List ℕ). IsPermutation ns c.sort_by.new.self.items) c.in_ok-order.ensures c.sort_by.ensures.permutation in
    whole (length c.args.self) c.sort_by.new.self.items moved

pub returns-clause-same : goal.returns-clause-same
returns-clause-same c =
    let moved : IsPermutation (numbers_upto (length c.args.self)) c.sort_by.new.self.items = subst (λ (ns : List ℕ). IsPermutation ns c.sort_by.new.self.items) c.in_ok-order.ensures c.sort_by.ensures.permutation in
    subst (λ (es : List Entry). IsPermutation c.args.self es) (sym c.new.ensures) (permuted c.args.self c.sort_by.new.self.items moved)

pub returns-clause-ordered : goal.returns-clause-ordered
returns-clause-ordered c =
    let es = c.args.self in
    subst (λ (xs : List Entry). IsSortedBy (λ a b. is_lt (path_cmp a.path b.path)) xs) (sym c.new.ensures)
    (sorted-entries es c.sort_by.new.self.items
    (c.in_ok-sort_by.ensures.sorted (λ i j. is_lt (path_cmp (path_at es i) (path_at es j))) (ranks_by (lists_total nat_list_cmp_total) (λ i. path_at es i)) (always_returns_same _ _ _ (λ a r g h. search rules))))
