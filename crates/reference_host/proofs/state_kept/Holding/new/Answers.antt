use Rattle.std.proofs.Common.{ap, ◌∙◌}
use Rattle.ref_rules.specs.Lives.{LiveTable}
use Rattle.reference_host.proofs.StateLemmas.{holding_new}
use Rattle.reference_host.proofs.state_kept.Holding.new.Goals as goal

pub returns-clause-holding : goal.returns-clause-holding
returns-clause-holding c = λ g same. holding_new c.args.policy.now _ _ _ c.in_ok-live.ensures c.in_ok-folder.ensures c.quota-blocks.ensures.files g same

pub returns-clause-handles : goal.returns-clause-handles
returns-clause-handles c = ap (λ (l : LiveTable). l.handles) c.in_ok-live.ensures

pub returns-clause-folder : goal.returns-clause-folder
returns-clause-folder c = c.in_ok-folder.ensures ∙ c.quota-blocks.ensures.folder
