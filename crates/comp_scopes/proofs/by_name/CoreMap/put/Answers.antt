use Rattle.std.proofs.Common.{◌∙◌, ap}
use Rattle.std.specs.Prelude.{Some, string_bytes, if◌then◌else◌}
use Rattle.std.specs.Str.{bytes_eq}
use Rattle.std.proofs.lemmas.Map.Text.{btree_map_updates_text}
use Rattle.comp_scopes.specs.Found.{found}
use Rattle.comp_scopes.proofs.by_name.CoreMap.put.Goals as goal

pub returns : goal.returns
unfolding found
returns c = λ q.
    btree_map_updates_text (string_bytes c.into_string.result) c.args.self.now.items c.insert.new.self (Some c.args.item) c.in_ok-insert.ensures.updates q
    ∙ ap (λ n. if bytes_eq n q then Some c.args.item else found c.args.self.now q) c.into_string.ensures
