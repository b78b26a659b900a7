use Rattle.std.proofs.Common.{length}
use Rattle.host_script.specs.Script.{AreTyped, exports_seen}
use Rattle.host_script.specs.Taken.{Taken, IsCall}
use Rattle.host_script.proofs.regular.keep_calls.Given as goal

abbrev pub invariant-calls : goal.invariant-calls
invariant-calls l = record {
  due : Taken (IsCall (exports_seen l.exports)) l.calls l.initial.reader l.reader;
  typed : AreTyped (exports_seen l.exports) l.calls;
}

abbrev pub decreases-calls : goal.decreases-calls
decreases-calls l = length l.reader
