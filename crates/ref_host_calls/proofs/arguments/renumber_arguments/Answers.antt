use Rattle.std.proofs.Common.{◌≡◌, length, ap, sym, ◌∙◌, arith}
use Rattle.wit_types.specs.Plain.{fields_of}
use Rattle.wit_types.specs.PlainValue.{plain_values, values_of, byte_values}
use Rattle.wit_types.proofs.ValueLemmas.{plain_values-Each, plain_values-Bytes}
use Rattle.abi_layout.specs.Handles.{field_handles, renumbered_fields}
use Rattle.host_port.specs.Calls.{fields_in}
use Rattle.value_handles.proofs.Changes.{bytes_fields_stay}
use Rattle.ref_host_calls.proofs.ArgumentLemmas.{fields_count, fields_same}
use Rattle.ref_host_calls.proofs.arguments.renumber_arguments.Goals as goal

pub renumber_each-requires : goal.renumber_each-requires
renumber_each-requires c =
    let args : plain_values c.args.args ≡ values_of c.in-Each.values.items = ap plain_values c.in-Each.is ∙ plain_values-Each _ in
    let fields : fields_in c.args.params.now ≡ fields_of c.deref.result.now = ap fields_of (sym c.deref.ensures.value) in
    let same = fields_count (fields_in c.args.params.now) (plain_values c.args.args) in
    let few = c.requires in
    let one : length (field_handles (fields_of c.deref.result.now) (values_of c.in-Each.values.items)) ≡ length (field_handles (fields_in c.args.params.now) (plain_values c.args.args)) =
    ap (λ fs. length (field_handles fs (values_of c.in-Each.values.items))) (sym fields) ∙ ap (λ vs. length (field_handles (fields_in c.args.params.now) vs)) (sym args) in
    omega (arith, one, same, few)

pub returns-in-Each : goal.returns-in-Each
returns-in-Each c =
    let args : plain_values c.args.args ≡ values_of c.in-Each.values.items = ap plain_values c.in-Each.is ∙ plain_values-Each _ in
    let fields : fields_in c.args.params.now ≡ fields_of c.deref.result.now = ap fields_of (sym c.deref.ensures.value) in
    plain_values-Each c.renumber_each.result
    ∙ c.renumber_each.ensures
    ∙ ap (λ fs. renumbered_fields fs (values_of c.in-Each.values.items) c.args.numbers.now) (sym fields)
    ∙ ap (λ vs. renumbered_fields (fields_in c.args.params.now) vs c.args.numbers.now) (sym args)
    ∙ fields_same (fields_in c.args.params.now) (plain_values c.args.args) c.args.numbers.now c.requires

pub returns-in-Bytes : goal.returns-in-Bytes
returns-in-Bytes c =
    let args : plain_values c.args.args ≡ byte_values c.in-Bytes.bytes = ap plain_values c.in-Bytes.is ∙ plain_values-Bytes _ in
    let stays : renumbered_fields (fields_in c.args.params.now) (plain_values c.args.args) c.args.numbers.now ≡ plain_values c.args.args =
    ap (λ vs. renumbered_fields (fields_in c.args.params.now) vs c.args.numbers.now) args ∙ bytes_fields_stay (fields_in c.args.params.now) c.in-Bytes.bytes c.args.numbers.now ∙ sym args in
    ap plain_values (sym c.in-Bytes.is) ∙ sym stays ∙ fields_same (fields_in c.args.params.now) (plain_values c.args.args) c.args.numbers.now c.requires
