use Rattle.std.proofs.Common.{◌≡◌, drop}
use Rattle.wit_types.specs.Plain.{fields_of}
use Rattle.wit_types.specs.PlainValue.{values_of}
use Rattle.wit_types.specs.HasType.{are_of}
use Rattle.ref_guards.proofs.arguments.are_each_of.Given as goal

abbrev pub invariant-loop-i : goal.invariant-loop-i
invariant-loop-i l = are_of (fields_of (drop l.i l.params)) (values_of (drop l.i l.values)) ≡ are_of (fields_of l.params) (values_of l.values)
