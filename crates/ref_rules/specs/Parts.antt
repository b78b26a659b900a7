-- The value that a part of arguments is.
use Rattle.std.specs.Prelude.{pos}
use Rattle.wit_types.specs.PlainValue.{PlainValue, IntValue, plain_value}
use Rattle.reference_step.specs.Values.{none}
use Rattle.ref_rules.specs.declared.part.Part.{Part}
use Rattle.ref_rules.specs.declared.part.Part.TheVariants.{Value, Byte, Missing}

abbrev pub shown : Part → PlainValue
shown (Value value) = plain_value value.now
shown (Byte byte) = IntValue (pos byte)
shown Missing = none
