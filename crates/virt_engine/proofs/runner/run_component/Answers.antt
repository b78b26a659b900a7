use Rattle.std.proofs.Common.{refl}
use Rattle.host_script.specs.Script.{exports_seen}
use Rattle.virt_engine.proofs.Making.{judged_can_be_made}
use Rattle.virt_engine.proofs.ComponentRuns.{component_told}
use Rattle.virt_engine.proofs.runner.run_component.Goals as goal

pub new-requires : goal.new-requires
new-requires g c = judged_can_be_made c.args.judged c.in_ok-linked.linked c.requires.can c.in_ok-linked.ensures.plan c.in_ok-linked.ensures.imports

pub returns-clause-told : goal.returns-clause-told
returns-clause-told g c =
    component_told _ _ c.args.judged c.requires.can c.args.host c.args.steps c.in_ok-linked.linked (exports_seen c.args.functions.now) c.args.calls.now (record { run = c.new.result; lines = c.none.result; tally = c.none-2.result; shown = 0 })
    c.go.new.self c.in_ok-end.end c.in_ok-linked.ensures.group c.requires.functions c.new.ensures c.none.ensures c.none-2.ensures refl c.in_ok-end.ensures.told
