use Rattle.std.proofs.Common.{◌∙◌, ap}
use Rattle.comp_types.specs.Views.{entries_of}
use Rattle.host_script.specs.Script.{exports_seen}
use Rattle.component_judge.specs.Callable.{callable}
use Rattle.component_judge.proofs.Gathering.{more, all}
use Rattle.component_judge.proofs.functions.callable.Goals as goal

pub loop-entry-preserved : goal.loop-entry-preserved
loop-entry-preserved c =
    more (exports_seen c.loop-entry.exports) (exports_seen c.push_functions.new.exports) (callable (entries_of c.as_slice-entries.result.now))
    c.as_slice-entries.result.now c.loop-entry.entry-index c.entry-item.result c.loop-entry-test.true c.entry-item.is c.loop-entry.invariant c.in_ok-push_functions.ensures

pub returns : goal.returns
returns c =
    all (exports_seen c.loop-entry.exports) (callable (entries_of c.as_slice-entries.result.now)) c.as_slice-entries.result.now c.loop-entry.entry-index c.loop-entry-test.false c.loop-entry.invariant
    ∙ ap callable c.as_slice-entries.ensures
