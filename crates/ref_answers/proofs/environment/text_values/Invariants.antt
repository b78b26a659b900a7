use Rattle.std.proofs.Common.{◌≡◌, map, take}
use Rattle.wit_types.specs.PlainValue.{plain_value, StringValue}
use Rattle.ref_answers.proofs.environment.text_values.Given as goal

abbrev pub invariant-loop-item : goal.invariant-loop-item
invariant-loop-item l = map plain_value l.values.items ≡ map StringValue (take l.item-index l.texts)
