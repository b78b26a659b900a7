use Rattle.std.proofs.Common.{◌++◌}
use Rattle.comp_types.specs.Views.{entries_of}
use Rattle.host_script.specs.Script.{exports_seen}
use Rattle.component_judge.specs.Callable.{inner_functions}
use Rattle.component_judge.proofs.Gathering.{inner_more, inner_all}
use Rattle.component_judge.proofs.functions.push_instance.Goals as goal

pub loop-entry-preserved : goal.loop-entry-preserved
loop-entry-preserved c =
    inner_more c.args.instance.now (exports_seen c.loop-entry.exports) (exports_seen c.push_inner.new.exports) (exports_seen c.args.exports.now ++ inner_functions c.args.instance.now (entries_of c.args.entries.now))
    c.args.entries.now c.loop-entry.entry-index c.entry-item.result c.loop-entry-test.true c.entry-item.is c.loop-entry.invariant c.in_ok-push_inner.ensures

pub returns : goal.returns
returns c =
    inner_all c.args.instance.now (exports_seen c.loop-entry.exports) (exports_seen c.args.exports.now ++ inner_functions c.args.instance.now (entries_of c.args.entries.now))
    c.args.entries.now c.loop-entry.entry-index c.loop-entry-test.false c.loop-entry.invariant
