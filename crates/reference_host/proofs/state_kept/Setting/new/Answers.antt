use Rattle.std.proofs.Common.{List, ap}
use Rattle.wit_types.specs.Plain.{Name}
use Rattle.ref_answers.specs.Versions.{version_in}
use Rattle.reference_host.proofs.StateLemmas.{table_texts}
use Rattle.reference_host.proofs.state_kept.Setting.new.Goals as goal

pub returns-clause-setup : goal.returns-clause-setup
returns-clause-setup c = ap (λ (names : List Name). record { policy = c.args.policy; trees = c.args.trees; version = version_in names }) c.in_ok-listed.ensures

pub returns-clause-setting : goal.returns-clause-setting
returns-clause-setting c = record { slots = c.requires.slots; trees = c.requires.trees; holds = c.in_ok-table.ensures; texts = table_texts c.args.trees c.in_ok-table.table c.in_ok-table.ensures c.requires.texts }
