use Rattle.std.proofs.Common.{drop}
use Rattle.json.specs.Written.{Written}
use Rattle.wit_types.specs.Plain.{fields_of}
use Rattle.wit_types.specs.PlainValue.{plain_values}
use Rattle.script_lines.specs.Added.{AddsItems}
use Rattle.script_lines.specs.Shown.{parts_shown}
use Rattle.script_lines.specs.Shows.{values_from}
use Rattle.script_lines.proofs.writing.write_each_arg.Given as goal

-- whatever ends the arguments well from here ends them well from the start
abbrev pub invariant-loop-place : goal.invariant-loop-place
invariant-loop-place l =
    (end : Written) → AddsItems l.out end (parts_shown (fields_of (drop l.place l.params)) (values_from l.place (plain_values l.args))) → AddsItems l.initial.out end (parts_shown (fields_of l.params) (plain_values l.args))
