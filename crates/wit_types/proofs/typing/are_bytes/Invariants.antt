use Rattle.std.proofs.Common.{◌≡◌, drop}
use Rattle.wit_types.specs.Plain.{plain}
use Rattle.wit_types.specs.PlainValue.{byte_values}
use Rattle.wit_types.specs.HasType.{is_of, all_pass}
use Rattle.wit_types.proofs.typing.are_bytes.Given as goal

abbrev pub invariant-loop-byte : goal.invariant-loop-byte
invariant-loop-byte l = all_pass (λ v. is_of (plain l.item) v) (byte_values (drop l.byte-index l.bytes)) ≡ all_pass (λ v. is_of (plain l.item) v) (byte_values l.bytes)
