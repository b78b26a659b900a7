use Rattle.std.proofs.Common.{◌≡◌, ◌+◌, ◌≤◌, ◌++◌, drop}
use Rattle.adapter_stubs.specs.Stubs.{stub_functions}
use Rattle.adapter_stubs.proofs.functions.functions.Given as goal

abbrev pub invariant-loop-stub : goal.invariant-loop-stub
invariant-loop-stub l = record {
  so_far : l.list.items ++ stub_functions l.calls l.place l.at l.ty (drop l.stub-index l.stubs) ≡ stub_functions l.calls 0 l.initial.at l.initial.ty l.stubs;
  place : l.place ≡ l.stub-index;
  asked : l.at ≤ l.initial.at + l.stub-index;
  types : l.ty ≡ l.initial.ty + l.stub-index;
}
