use Rattle.std.proofs.Common.{◌≡◌, ◌∙◌, ap, sym, Some, true, false}
use Rattle.std.specs.Prelude.{string_bytes, is_some}
use Rattle.std.proofs.lemmas.Map.Text.{btree_map_updates_text}
use Rattle.host_script.specs.Exports.{place_of}
use Rattle.host_script.proofs.ExportPlaces.{known-name, new-name, on_err, same-places}
use Rattle.host_script.proofs.places.Places.add.Goals as goal

pub returns-then-contains_key-clause-ok : goal.returns-then-contains_key-clause-ok
unfolding place_of
returns-then-contains_key-clause-ok c =
    let is : is_some (place_of c.args.self.now (string_bytes c.args.name)) ≡ true = ap (λ w. is_some (place_of c.args.self.now w)) (sym c.as_str.ensures.value) ∙ (sym c.contains_key.ensures ∙ c.if-contains_key.true) in
    λ q. known-name (place_of c.args.self.now) (string_bytes c.args.name) q c.args.place is

pub returns-in_err-insert-clause-err : goal.returns-in_err-insert-clause-err
returns-in_err-insert-clause-err c = on_err c.from_residual.result (same-places _ c.args.self.now c.in_err-insert.ensures.err)

pub returns-clause-ok : goal.returns-clause-ok
unfolding place_of
returns-clause-ok c =
    let none : is_some (place_of c.args.self.now (string_bytes c.args.name)) ≡ false = ap (λ w. is_some (place_of c.args.self.now w)) (sym c.as_str.ensures.value) ∙ (sym c.contains_key.ensures ∙ c.if-contains_key.false) in
    λ q.
    btree_map_updates_text (string_bytes c.args.name) c.args.self.now.by_name c.insert.new.self (Some c.args.place) c.in_ok-insert.ensures.updates q
    ∙ new-name (place_of c.args.self.now) (string_bytes c.args.name) q c.args.place none
