use Rattle.std.proofs.Common.{List, [], Option, ap, ◌∙◌}
use Rattle.tree_table.specs.Scratches.{ScratchMap}
use Rattle.reference_step.specs.State.{Setup}
use Rattle.ref_answers.specs.Seen.{live_in}
use Rattle.ref_answers.specs.Versions.{version_in}
use Rattle.ref_rules.specs.declared.content.Handle.{Handle}
use Rattle.reference_host.proofs.StateLemmas.{few_slots}
use Rattle.reference_host.proofs.state.State.new.Goals as goal

pub new-requires : goal.new-requires
new-requires c = few_slots c.args.policy c.requires.limits

pub new-requires-2 : goal.new-requires-2
new-requires-2 c = record { slots = few_slots c.args.policy c.requires.limits; trees = c.requires.trees; texts = c.requires.texts; versions = c.requires.versions }

pub returns-clause-opening : goal.returns-clause-opening
returns-clause-opening c =
    let g = c.in_ok-setting.setting in
    let h = c.in_ok-holding.holding in
    let setup : Setup = record { policy = c.args.policy; trees = c.args.trees; version = version_in c.args.versions.items } in
    ap (λ (x : Setup). record { setup = x; live = live_in g.table h.live.handles; scratch = h.folder; inner = tt {0} }) c.in_ok-setting.ensures.setup
    ∙ ap (λ (hs : List (Option Handle)). record { setup = setup; live = live_in g.table hs; scratch = h.folder; inner = tt {0} }) c.in_ok-holding.ensures.handles
    ∙ ap (λ (m : ScratchMap). record { setup = setup; live = []; scratch = m; inner = tt {0} }) c.in_ok-holding.ensures.folder

pub returns-clause-state : goal.returns-clause-state
returns-clause-state c = record { setting = c.in_ok-setting.ensures.setting; holding = c.in_ok-holding.ensures.holding c.in_ok-setting.setting (ap (λ (s : Setup). s.policy) c.in_ok-setting.ensures.setup) }
