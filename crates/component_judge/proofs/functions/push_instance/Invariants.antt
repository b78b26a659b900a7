use Rattle.std.proofs.Common.{◌≡◌, ◌++◌, drop}
use Rattle.comp_types.specs.Views.{entries_of}
use Rattle.host_script.specs.Script.{exports_seen}
use Rattle.component_judge.specs.Callable.{inner_functions}
use Rattle.component_judge.proofs.functions.push_instance.Given as goal

abbrev pub invariant-loop-entry : goal.invariant-loop-entry
invariant-loop-entry l =
    exports_seen l.exports ++ inner_functions l.instance (entries_of (drop l.entry-index l.entries)) ≡ exports_seen l.fn.exports ++ inner_functions l.instance (entries_of l.entries)
