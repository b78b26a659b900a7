use Rattle.std.proofs.Common.{◌≡◌, ◌∙◌, ap, Some, true, is_some}
use Rattle.std.specs.List.{list_any}
use Rattle.std.specs.Str.{bytes_eq}
use Rattle.std.proofs.lemmas.Map.Text.{btree_map_updates_str}
use Rattle.core_validate.proofs.SeenLemmas.{knows-more, turned}
use Rattle.core_validate.proofs.names.add.Goals as goal

pub returns : goal.returns
returns c = λ names knows. (
  knows-more c.args.seen.now c.insert.new.self names c.args.name.now knows (λ q. btree_map_updates_str c.args.name.now c.args.seen.now c.insert.new.self (Some true) c.in_ok-old.ensures.updates q),
  turned (is_some c.in_ok-old.old) c.is_none.result (list_any (bytes_eq c.args.name.now) names) c.is_none.ensures (ap is_some c.in_ok-old.ensures.old ∙ knows c.args.name.now),
)
