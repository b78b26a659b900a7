use Rattle.std.proofs.Common.{◌≡◌, ◌+◌, ◌≤◌, length}
use Rattle.path_names.specs.Paths.{names_of}
use Rattle.mount_tree.proofs.paths.depth_of.Given as goal

abbrev pub invariant-loop-byte : goal.invariant-loop-byte
invariant-loop-byte l = (length (names_of l.path) + 1 ≡ l.depth + length (names_of l.rest)) × (l.depth + length l.rest ≤ length l.path + 1)

abbrev pub decreases-loop-byte : goal.decreases-loop-byte
decreases-loop-byte l = length l.rest
