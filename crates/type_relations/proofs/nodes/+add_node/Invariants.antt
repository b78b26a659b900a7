use Rattle.std.proofs.Common.{◌+◌, ◌*◌, drop}
use Rattle.wit_types.specs.Plain.{plain}
use Rattle.type_table.specs.Slots.{slots_of}
use Rattle.type_table.specs.Tables.{trees, AreLinks, IsSound}
use Rattle.type_relations.specs.Searches.{named_in_slots}
use Rattle.type_relations.proofs.SearchLemmas.{Going}
use Rattle.type_relations.proofs.nodes.+add_node.Given as goal

abbrev pub invariant-add_parts-loop-index : goal.invariant-add_parts-loop-index
invariant-add_parts-loop-index l = IsSound l.types → AreLinks (trees l.types) l.links (slots_of (plain l.ty))
    → Going (trees l.types) l.fn.search l.search (named_in_slots (slots_of (plain l.ty))) (named_in_slots (drop l.index (slots_of (plain l.ty))))

abbrev pub decreases-add_part : goal.decreases-add_part
decreases-add_part l = 4 * l.below

abbrev pub decreases-add_parts : goal.decreases-add_parts
decreases-add_parts l = 4 * l.at + 1

abbrev pub decreases-add_unsearched : goal.decreases-add_unsearched
decreases-add_unsearched l = 4 * l.at + 2

abbrev pub decreases-add_node : goal.decreases-add_node
decreases-add_node l = 4 * l.at + 3
