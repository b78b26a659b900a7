use Rattle.json.specs.Written.{Written}
use Rattle.wit_types.specs.Plain.{plain}
use Rattle.wit_types.specs.PlainValue.{plain_values}
use Rattle.script_lines.specs.Added.{AddsItems}
use Rattle.script_lines.specs.Shown.{shown, each_shown}
use Rattle.script_lines.specs.Shows.{values_from}
use Rattle.script_lines.proofs.writing.+write_value.Given as goal

-- whatever ends the values well from here ends them well from the start
abbrev pub invariant-write_each-loop-place : goal.invariant-write_each-loop-place
invariant-write_each-loop-place l =
    (end : Written) → AddsItems l.out end (each_shown (λ v. shown (plain l.item) v) (values_from l.place (plain_values l.values))) → AddsItems l.initial.out end (each_shown (λ v. shown (plain l.item) v) (plain_values l.values))
