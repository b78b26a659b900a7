use Rattle.std.proofs.Common.{◌≡◌, ◌+◌, ◌-◌, ◌≤◌, length, take}
use Rattle.std.specs.List.{splice}
use Rattle.overlay_tree.specs.Blocks.{in_order, IsSpace}
use Rattle.overlay_tree.proofs.blocks.write_all.Given as goal

abbrev pub invariant-loop-done : goal.invariant-loop-done
invariant-loop-done l = record {
  within : l.done ≤ length l.new;
  space : IsSpace l.order l.bytes.items;
  bytes : in_order l.order l.bytes.items ≡ splice (in_order l.order l.fn.bytes.items) l.at (l.at + l.done) (take l.done l.new);
}

abbrev pub decreases-loop-done : goal.decreases-loop-done
decreases-loop-done l = length l.new - l.done
