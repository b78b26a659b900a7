use Rattle.std.proofs.Common.{◌≡◌, length}
use denote.Text.{Utf8}
use denote.Shadow.{shadow}
use Rattle.tree_table.specs.Paths.{parts_of}
use Rattle.ref_scratch.specs.Leads.{lead_parts}
use Rattle.ref_scratch.proofs.finding.lead_parts.Given as goal

abbrev pub invariant-loop-part : goal.invariant-loop-part
invariant-loop-part l = shadow (Utf8 l.rest) × (lead_parts l.folder (parts_of l.text) ≡ lead_parts l.folder (parts_of l.rest))

abbrev pub decreases-loop-part : goal.decreases-loop-part
decreases-loop-part l = length l.rest
