use Rattle.std.proofs.Common.{ap, ◌∙◌}
use Rattle.host_port.specs.declared.call.Resource.{Resource}
use Rattle.host_port.specs.Hosts.{drops}
use Rattle.ref_guards.specs.Contents.{Nothing}
use Rattle.ref_guards.proofs.KeepLaws.{on_always, keeps-free}
use Rattle.ref_host_calls.proofs.LossLemmas.{on_map, loses_theirs, loses_ours}
use Rattle.ref_host_calls.proofs.dropping.lose.Goals as goal

pub returns-in_ok-resource-in-Some-clause-loss : goal.returns-in_ok-resource-in-Some-clause-loss
returns-in_ok-resource-in-Some-clause-loss g c = on_map c.drop_handle.result _ _ (λ e f r.
    loses_theirs g.H.Host.step f r c.args.listed.now c.args.live.now c.remove.new.self c.args.id c.args.kind c.remove.ensures c.args.content c.in-Some.theirs (g.H.Host.kept c.args.inner.now) (g.H.Host.kept c.drop_handle.new.self) c.in-Some.ensures.some
    (e ∙ ap (λ (x : Resource). drops g.H.Host.step (g.H.Host.kept c.args.inner.now) x c.in-Some.theirs) c.in_ok-resource-in-Some.ensures)) c.drop_handle.ensures

pub returns-in-None-clause-loss : goal.returns-in-None-clause-loss
returns-in-None-clause-loss g c = λ f r. loses_ours g.H.Host.step f r c.args.listed.now c.args.live.now c.remove.new.self c.args.id c.args.kind c.remove.ensures c.args.content (g.H.Host.kept c.args.inner.now) (c.in-None.ensures.none f)

pub returns-in_ok-resource-in-Some-clause-keeps : goal.returns-in_ok-resource-in-Some-clause-keeps
returns-in_ok-resource-in-Some-clause-keeps g c = on_always c.drop_handle.result _ (keeps-free Nothing c.args.live.now c.remove.new.self c.args.id c.remove.ensures)

pub returns-in-None-clause-keeps : goal.returns-in-None-clause-keeps
returns-in-None-clause-keeps g c = keeps-free Nothing c.args.live.now c.remove.new.self c.args.id c.remove.ensures
