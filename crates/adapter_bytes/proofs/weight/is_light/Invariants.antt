use Rattle.std.proofs.Common.{◌≡◌, ◌+◌, drop}
use Rattle.adapter_bytes.specs.Weight.{weight_in, most_weight, AreNumberedStubs}
use Rattle.adapter_bytes.proofs.weight.is_light.Given as goal

abbrev pub invariant-loop-stub : goal.invariant-loop-stub
invariant-loop-stub l = record {
  spent : l.left + weight_in l.stubs ≡ most_weight + weight_in (drop l.stub-index l.stubs);
  numbered : AreNumberedStubs (drop l.stub-index l.stubs) → AreNumberedStubs l.stubs;
}
