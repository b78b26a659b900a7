use Rattle.std.proofs.Common.{rules, map}
use Rattle.comp_grammar.specs.Trees.{plain}
use Rattle.host_port.specs.Scripts.{script}
use Rattle.host_script.specs.Script.{item_seen}
use Rattle.host_script.specs.Hosts.{kept_by}
use Rattle.component_judge.specs.Callable.{callable}
use Rattle.virt_engine.proofs.ComponentRuns.{shown_over}
use Rattle.virt_engine.proofs.Showing.{alone_refused, alone_shown}
use Rattle.virt_engine.proofs.running.show_alone.Goals as goal

pub returns-in_err-inputs : goal.returns-in_err-inputs
returns-in_err-inputs g c = alone_refused _ _ _ c.in_err-inputs.field-0.0 c.from_residual.result (search (rules, c.from_residual.ensures)) c.in_err-inputs.ensures

pub returns : goal.returns
returns g c =
    let inputs = c.in_ok-inputs.inputs in
    alone_shown _ _ _ inputs c.in_ok-shown.shown c.in_ok-inputs.ensures c.in_ok-shown.ensures.ends
    (shown_over (plain inputs.judged.component) script (callable inputs.judged.ty.exports) (kept_by c.new-host.result) (map item_seen inputs.scripted.script.answers) inputs.scripted.script.calls c.as_slice.result.now _ c.in_ok-shown.shown
    c.as_slice.ensures c.new-host.ensures.state c.new-host.ensures.seen c.in_ok-inputs.ensures.ready.scripted.typed c.in_ok-shown.ensures.told)
