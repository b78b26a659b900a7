use Rattle.std.proofs.Common.{◌≡◌, drop}
use Rattle.wit_types.specs.PlainValue.{values_of}
use Rattle.reference_step.specs.Values.{items}
use Rattle.reference_step.specs.Refused.{refuses_any}
use Rattle.ref_rules.proofs.addresses.refuses_each.Given as goal

abbrev pub invariant-loop-datagram : goal.invariant-loop-datagram
invariant-loop-datagram l = refuses_any l.rules (items (values_of (drop l.datagram-index l.datagrams))) ≡ refuses_any l.rules (items (values_of l.datagrams))
