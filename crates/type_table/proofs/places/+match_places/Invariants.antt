use Rattle.std.proofs.Common.{◌≡◌, ◌+◌, ◌*◌, length}
use Rattle.wit_types.specs.Plain.{plain}
use Rattle.type_table.specs.Slots.{slots_of}
use Rattle.type_table.specs.Tables.{trees, AreLinks, IsSound}
use Rattle.type_table.proofs.WalkParts.{Comes}
use Rattle.type_table.proofs.places.+match_places.Given as goal

abbrev pub invariant-match_slots-loop-index : goal.invariant-match_slots-loop-index
invariant-match_slots-loop-index l = record {
  as_many : length (slots_of (plain l.a)) ≡ length (slots_of (plain l.b));
  met : IsSound l.types → AreLinks (trees l.types) l.links (slots_of (plain l.a)) → AreLinks (trees l.types) l.others (slots_of (plain l.b))
      → Comes l.types l.fn.walked l.walked (slots_of (plain l.a)) (slots_of (plain l.b)) l.index;
}

abbrev pub decreases-match_parts : goal.decreases-match_parts
decreases-match_parts l = 4 * l.below

abbrev pub decreases-match_slots : goal.decreases-match_slots
decreases-match_slots l = 4 * l.at + 1

abbrev pub decreases-match_nodes : goal.decreases-match_nodes
decreases-match_nodes l = 4 * l.at + 2

abbrev pub decreases-match_places : goal.decreases-match_places
decreases-match_places l = 4 * l.at + 3
