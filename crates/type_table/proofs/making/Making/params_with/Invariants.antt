use Rattle.std.proofs.Common.{◌≡◌, take}
use Rattle.wit_types.specs.Plain.{fields_of}
use Rattle.comp_types.specs.Known.{AreKnownOf}
use Rattle.comp_types.specs.Substitution.{partner_in, parts_with}
use Rattle.type_table.specs.Tables.{IsSound, HasParts, Grew}
use Rattle.type_table.proofs.making.Making.params_with.Given as goal

abbrev pub invariant-loop-index : goal.invariant-loop-index
invariant-loop-index l = record {
  by : l.self.by ≡ l.fn.self.by;
  grew : IsSound l.fn.self.types → Grew l.fn.self.types l.self.types;
  kept : AreKnownOf (fields_of l.items.items) l.known;
  made : IsSound l.fn.self.types → HasParts l.fn.self.types (fields_of l.params) → fields_of l.items.items ≡ parts_with (partner_in l.fn.self.by) (fields_of (take l.index l.params));
  has : IsSound l.fn.self.types → HasParts l.fn.self.types (fields_of l.params) → HasParts l.self.types (fields_of l.items.items);
}
