use Rattle.std.specs.Prelude.{Some, string_bytes}
use Rattle.std.proofs.lemmas.Map.Text.{btree_map_updates_text}
use Rattle.outside.proofs.mem_tables.put.Goals as goal

pub returns-clause-ok : goal.returns-clause-ok
returns-clause-ok g c = λ other. btree_map_updates_text (string_bytes c.args.name) c.args.table.now c.insert.new.self (Some c.args.value) c.in_ok-insert.ensures.updates other
