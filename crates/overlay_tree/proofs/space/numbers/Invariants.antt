use Rattle.std.proofs.Common.{◌≡◌, ◌≤◌, ◌<◌, ℕ, All, length, vec_len, vec_capacity}
use Rattle.overlay_tree.specs.Blocks.{times}
use Rattle.overlay_tree.proofs.space.numbers.Given as goal

abbrev pub invariant-loop-number : goal.invariant-loop-number
invariant-loop-number l = record {
  count : length l.order.items ≡ l.number;
  inside : All (λ k. k < l.number) l.order.items;
  once : (k : ℕ) → times k l.order.items ≤ 1;
  len : vec_len l.order ≡ l.number;
  room : vec_capacity l.order ≡ l.fn.count;
}
