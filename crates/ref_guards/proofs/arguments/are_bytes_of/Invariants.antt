use Rattle.std.proofs.Common.{◌≡◌, drop}
use Rattle.wit_types.specs.Plain.{fields_of}
use Rattle.wit_types.specs.PlainValue.{byte_values}
use Rattle.wit_types.specs.HasType.{are_of}
use Rattle.ref_guards.proofs.arguments.are_bytes_of.Given as goal

abbrev pub invariant-loop-i : goal.invariant-loop-i
invariant-loop-i l = are_of (fields_of (drop l.i l.params)) (byte_values (drop l.i l.bytes)) ≡ are_of (fields_of l.params) (byte_values l.bytes)
