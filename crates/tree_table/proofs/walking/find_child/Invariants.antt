use Rattle.std.proofs.Common.{◌≡◌, ℕ, ◌+◌, ◌-◌, ◌^◌, ◌<◌, ◌≤◌, nat_cmp}
use Rattle.std.specs.Cmp.Lexicographic.{slice_cmp}
use Rattle.std.specs.declared.cmp.Ordering.TheVariants.{Less, Greater}
use Rattle.tree_table.proofs.walking.find_child.Given as goal

abbrev pub invariant-loop-low : goal.invariant-loop-low
invariant-loop-low g l =
    let name = g.N.NameRead.name l.names in
    record {
      low : l.fn.from ≤ l.low;
      high : l.high ≤ l.fn.to;
      below : (i : ℕ) → l.fn.from ≤ i → i < l.low → slice_cmp nat_cmp (name i) l.part ≡ Less;
      above : (i : ℕ) → l.high ≤ i → i < l.fn.to → slice_cmp nat_cmp (name i) l.part ≡ Greater;
      probes : (digits : ℕ) → l.fn.to - l.fn.from < 2 ^ digits → (left : ℕ) × (l.steps + left ≡ l.fn.steps + digits) × (l.high - l.low < 2 ^ left);
    }

abbrev pub decreases-loop-low : goal.decreases-loop-low
decreases-loop-low g l = l.high - l.low
