use Rattle.std.proofs.Common.{◌≡◌, ℕ, map, ap, sym, ◌∙◌}
use Rattle.wit_types.specs.declared.value.Value.{Value}
use Rattle.wit_types.specs.PlainValue.{plain_value, plain_values}
use Rattle.wit_types.proofs.ValueLemmas.{plain_values-Each}
use Rattle.reference_step.specs.Values.{number_in, numbers_of, items}
use Rattle.ref_virtual.proofs.ByteLemmas.{each_number, small_values}
use Rattle.ref_virtual.proofs.bytes.bytes_among.Goals as goal

pub bytes_of-requires : goal.bytes_of-requires
bytes_of-requires c =
    let g : Value → ℕ = λ v. number_in (plain_value v) in
    let vs = c.as_slice.result.now in
    let is : numbers_of (items (plain_values c.args.values.now)) ≡ map g vs =
    ap (λ w. numbers_of (items (plain_values w))) c.in-Each.is
    ∙ ap (λ w. numbers_of (items w)) (plain_values-Each c.in-Each.values)
    ∙ each_number c.in-Each.values.items ∙ ap (map g) (sym c.as_slice.ensures.value) in
    small_values vs _ is c.requires
