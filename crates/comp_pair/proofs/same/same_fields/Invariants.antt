use Rattle.std.proofs.Common.{◌≡◌, length}
use Rattle.wit_types.specs.Plain.{fields_of}
use Rattle.comp_pair.proofs.same.same_fields.Given as goal

abbrev pub invariant-loop-x : goal.invariant-loop-x
invariant-loop-x l = fields_of l.rest ≡ fields_of l.others → fields_of l.a ≡ fields_of l.b

abbrev pub decreases-loop-x : goal.decreases-loop-x
decreases-loop-x l = length l.rest
