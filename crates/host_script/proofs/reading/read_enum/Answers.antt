use Rattle.std.proofs.Common.{◌≡◌, rules}
use Rattle.wit_types.specs.Plain.{bare}
use Rattle.wit_types.proofs.ValueLemmas.{plain_value-Variant}
use Rattle.host_port.specs.Untyped.{case_named}
use Rattle.std.specs.Prelude.{Some, string_bytes}
use Rattle.host_script.proofs.Views.{untyped-String}
use Rattle.host_script.proofs.Fields.{enum_is}
use Rattle.host_script.proofs.reading.read_enum.Goals as goal

pub returns-in_ok-kept_number-in-Some : goal.returns-in_ok-kept_number-in-Some
returns-in_ok-kept_number-in-Some c =
    let named : Some c.in-Some.number ≡ case_named (string_bytes c.in-String.label) (bare c.args.labels.now) = search (rules, c.in-Some.ensures.value, c.as_str.ensures.value) in
    rw (c.in-String.is, untyped-String, plain_value-Variant)
    (enum_is c.args.labels.now (string_bytes c.in-String.label) c.in-Some.number c.in_ok-kept_number-in-Some.field-0 named c.in-Some.ensures.within c.in_ok-kept_number-in-Some.ensures)
