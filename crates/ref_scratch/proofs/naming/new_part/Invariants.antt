use Rattle.std.proofs.Common.{◌≡◌, length}
use denote.Text.{Utf8}
use denote.Shadow.{shadow}
use Rattle.tree_table.specs.Paths.{parts_of}
use Rattle.ref_scratch.specs.Names.{new_of}
use Rattle.ref_scratch.proofs.naming.new_part.Given as goal

abbrev pub invariant-loop-part : goal.invariant-loop-part
invariant-loop-part l = shadow (Utf8 l.rest) × (new_of (parts_of l.text) ≡ new_of (parts_of l.rest))

abbrev pub decreases-loop-part : goal.decreases-loop-part
decreases-loop-part l = length l.rest
