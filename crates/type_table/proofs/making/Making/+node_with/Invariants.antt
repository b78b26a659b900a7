use Rattle.std.proofs.Common.{◌≡◌, ◌+◌, ◌*◌, take, map}
use Rattle.wit_types.specs.Plain.{plain}
use Rattle.comp_types.specs.Substitution.{partner_in, answer_with}
use Rattle.type_table.specs.Slots.{Part, slots_of}
use Rattle.type_table.specs.Tables.{trees, AreLinks, IsSound, Grew}
use Rattle.type_table.specs.Nodes.{HasEach, IsLonger}
use Rattle.type_table.specs.Retyped.{Fits, values_of}
use Rattle.type_table.proofs.making.Making.+node_with.Given as goal

abbrev pub invariant-parts_with-loop-index : goal.invariant-parts_with-loop-index
invariant-parts_with-loop-index l = record {
  by : l.self.by ≡ l.fn.self.by;
  longer : IsLonger l.fn.self.types l.self.types;
  grew : IsSound l.fn.self.types → Grew l.fn.self.types l.self.types;
  fits : Fits (take l.index (slots_of (plain l.ty))) (values_of l.parts.items);
  made : IsSound l.fn.self.types → AreLinks (trees l.fn.self.types) l.links (slots_of (plain l.ty))
      → values_of l.parts.items ≡ map (λ (p : Part). answer_with (partner_in l.fn.self.by) p.1) (take l.index (slots_of (plain l.ty)));
  has : IsSound l.fn.self.types → HasEach l.self.types (values_of l.parts.items);
}

abbrev pub decreases-parts_with : goal.decreases-parts_with
decreases-parts_with l = 5 * l.below + 3

abbrev pub decreases-slot_with : goal.decreases-slot_with
decreases-slot_with l = 5 * l.below + 2

abbrev pub decreases-part_with : goal.decreases-part_with
decreases-part_with l = 5 * l.below + 1

abbrev pub decreases-node_with : goal.decreases-node_with
decreases-node_with l = 5 * l.at + 5

abbrev pub decreases-known_with : goal.decreases-known_with
decreases-known_with l = 5 * l.below + 4
