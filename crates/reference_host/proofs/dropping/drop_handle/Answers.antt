use Rattle.std.proofs.Common.{refl}
use Rattle.ref_guards.specs.Contents.{Nothing}
use Rattle.reference_host.specs.States.{reference_of}
use Rattle.reference_host.proofs.KeepLemmas.{holding_kept}
use Rattle.reference_host.proofs.StepLemmas.{on_map, on_two}
use Rattle.reference_host.proofs.dropping.drop_handle.Goals as goal

pub returns-clause-loss : goal.returns-clause-loss
returns-clause-loss g c = on_map c.drop_live.result _ _ (λ e. e c.args.state.now.setting.table (reference_of c.args.state.now (g.H.Host.kept c.args.inner.now).state)) c.drop_live.ensures.loss

pub returns-clause-keeps : goal.returns-clause-keeps
returns-clause-keeps g c = on_two c.drop_live.result _ _ _ (λ keeps limits. record {
  setting = c.requires.setting;
  holding = holding_kept c.args.state.now.setting c.args.state.now.holding (record { live = c.drop_live.new.live; folder = c.args.state.now.holding.folder }) Nothing refl limits keeps tt tt c.requires.holding;
}) c.drop_live.ensures.keeps c.drop_live.ensures.limits
