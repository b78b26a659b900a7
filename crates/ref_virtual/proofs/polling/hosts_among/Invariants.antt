use Rattle.std.proofs.Common.{◌≡◌, map, take}
use Rattle.tree_table.specs.Tables.{Forest}
use Rattle.wit_types.specs.PlainValue.{plain_values}
use Rattle.reference_step.specs.Handles.{content_of, is_host}
use Rattle.reference_step.specs.Values.{id_in, items}
use Rattle.ref_answers.specs.Seen.{live_in}
use Rattle.ref_virtual.proofs.polling.hosts_among.Given as goal

abbrev pub invariant-loop-place : goal.invariant-loop-place
invariant-loop-place l = (f : Forest) → l.hosts.items ≡ map (λ v. is_host (content_of (live_in f l.live.handles) (id_in v))) (take l.place (items (plain_values l.values)))
