use Rattle.std.proofs.Common.{◌≡◌, false, take}
use Rattle.std.specs.List.{list_any}
use Rattle.adapter_bytes.specs.Emit.{needs}
use Rattle.adapter_bytes.proofs.posts.is_needed.Given as goal

abbrev pub invariant-loop-stub : goal.invariant-loop-stub
invariant-loop-stub l = record {
  none : list_any (needs l.flat) (take l.stub-index l.stubs) ≡ false;
}
