use Rattle.serde_json.specs.View.{view}
use Rattle.host_script.proofs.InMemory.{is_next, nests}
use Rattle.host_script.proofs.regular.next_item.Goals as goal

pub returns-clause-next : goal.returns-clause-next
returns-clause-next c = is_next (view c.in_ok-json.json) c.args.reader.now c.read_json.new.reader c.in_ok-json.ensures.ok

pub returns-clause-nests : goal.returns-clause-nests
returns-clause-nests c = nests (view c.in_ok-json.json) c.args.reader.now c.read_json.new.reader c.in_ok-json.ensures.ok
