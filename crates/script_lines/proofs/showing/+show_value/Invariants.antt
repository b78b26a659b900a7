use Rattle.std.proofs.Common.{◌≡◌, drop}
use Rattle.serde_json.specs.Data.{no_members}
use Rattle.serde_json.specs.View.{items_view, members_view}
use Rattle.wit_types.specs.Plain.{plain, fields_of, types_of}
use Rattle.wit_types.specs.PlainValue.{plain_values}
use Rattle.script_lines.specs.Shown.{shown, each_shown, parts_shown, fields_shown}
use Rattle.script_lines.specs.Shows.{items_then, values_from}
use Rattle.script_lines.proofs.showing.+show_value.Given as goal

abbrev pub invariant-show_each-loop-place : goal.invariant-show_each-loop-place
invariant-show_each-loop-place l =
    each_shown (λ v. shown (plain l.item) v) (plain_values l.values)
    ≡ items_then (items_view l.items.items) (each_shown (λ v. shown (plain l.item) v) (values_from l.place (plain_values l.values)))

abbrev pub invariant-show_parts-loop-place : goal.invariant-show_parts-loop-place
invariant-show_parts-loop-place l =
    parts_shown (types_of l.types) (plain_values l.values)
    ≡ items_then (items_view l.items.items) (parts_shown (types_of (drop l.place l.types)) (values_from l.place (plain_values l.values)))

abbrev pub invariant-show_fields-loop-place : goal.invariant-show_fields-loop-place
invariant-show_fields-loop-place l =
    fields_shown (fields_of l.fields) (plain_values l.values) no_members
    ≡ fields_shown (fields_of (drop l.place l.fields)) (values_from l.place (plain_values l.values)) (members_view l.members.entries)
