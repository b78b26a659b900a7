use Rattle.std.proofs.Common.{◌≡◌, ◌+◌, ◌*◌, take, map}
use Rattle.wit_types.specs.Plain.{plain}
use Rattle.wit_types.specs.Limits.{parts}
use Rattle.comp_types.specs.Substitution.{partner_in, answer_with}
use Rattle.type_table.specs.Slots.{Part, slots_of}
use Rattle.type_table.specs.Tables.{IsSound, Grew}
use Rattle.type_table.specs.Nodes.{HasEach, IsLonger}
use Rattle.type_table.specs.Retyped.{Fits, values_of}
use Rattle.type_table.proofs.RetypedLemmas.{part_size}
use Rattle.type_table.proofs.table.TypeTable.+add_tree.Given as goal

abbrev pub invariant-add_parts-loop-index : goal.invariant-add_parts-loop-index
invariant-add_parts-loop-index l = record {
  fits : Fits (take l.index (slots_of (plain l.ty))) (values_of l.parts.items);
  parts : IsSound l.fn.self → values_of l.parts.items ≡ map (λ (p : Part). answer_with (partner_in l.by) p.1) (take l.index (slots_of (plain l.ty)));
  grew : IsSound l.fn.self → Grew l.fn.self l.self;
  longer : IsLonger l.fn.self l.self;
  has : IsSound l.fn.self → HasEach l.self (values_of l.parts.items);
}

abbrev pub decreases-add_parts : goal.decreases-add_parts
decreases-add_parts l = 4 * parts (plain l.ty.now) + 1

abbrev pub decreases-add_part : goal.decreases-add_part
decreases-add_part l = part_size l.ty

abbrev pub decreases-tree_with : goal.decreases-tree_with
decreases-tree_with l = 4 * parts (plain l.ty.now) + 2

abbrev pub decreases-add_tree : goal.decreases-add_tree
decreases-add_tree l = 4 * parts (plain l.ty.now) + 3
