use Rattle.std.proofs.Common.{◌≡◌, ◌++◌, drop}
use Rattle.comp_types.specs.Views.{entries_of}
use Rattle.host_script.specs.Script.{exports_seen}
use Rattle.component_judge.specs.Callable.{callable}
use Rattle.component_judge.proofs.functions.callable.Given as goal

abbrev pub invariant-loop-entry : goal.invariant-loop-entry
invariant-loop-entry l = exports_seen l.exports ++ callable (entries_of (drop l.entry-index l.entries)) ≡ callable (entries_of l.entries)
