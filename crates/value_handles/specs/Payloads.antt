-- Handles and other numbers by the forms of a type.
use Rattle.std.specs.Prelude.{ℕ, List, [], Option, Some, None}
use Rattle.wit_types.specs.Plain.{Plain, Parts}
use Rattle.wit_types.specs.PlainValue.{PlainValue, Payload, ListValue, RecordValue, VariantValue, With}
use Rattle.abi_layout.specs.Storing.{on_list, on_record, on_variant, on_payload}
use Rattle.abi_layout.specs.Handles.{Handle, handles, item_handles, field_handles, case_handles, renumbered, renumbered_items, renumbered_fields, renumbered_case}

abbrev pub renumbered_present : Plain → Payload → List ℕ → Payload
renumbered_present ty payload numbers = on_payload payload (λ v. With (renumbered ty v numbers)) payload

abbrev pub renumbered_payload : Option Plain → Payload → List ℕ → Payload
renumbered_payload None payload numbers = payload
renumbered_payload (Some ty) payload numbers = renumbered_present ty payload numbers

-- a list of items of a type, a record of these fields, and a variant of these cases
abbrev pub list_handles : Plain → PlainValue → List Handle
list_handles item v = on_list [] (λ vs. item_handles (λ x. handles item x) vs) v

abbrev pub renumbered_list : Plain → PlainValue → List ℕ → PlainValue
renumbered_list item v numbers = on_list v (λ vs. ListValue (renumbered_items (λ x. handles item x) (λ x ns. renumbered item x ns) vs numbers)) v

abbrev pub record_handles : Parts → PlainValue → List Handle
record_handles fields v = on_record [] (λ vs. field_handles fields vs) v

abbrev pub renumbered_record : Parts → PlainValue → List ℕ → PlainValue
renumbered_record fields v numbers = on_record v (λ vs. RecordValue (renumbered_fields fields vs numbers)) v

abbrev pub variant_handles : Parts → PlainValue → List Handle
variant_handles cases v = on_variant [] (λ n payload. case_handles cases n payload) v

abbrev pub renumbered_variant : Parts → PlainValue → List ℕ → PlainValue
renumbered_variant cases v numbers = on_variant v (λ n payload. VariantValue n (renumbered_case cases n payload numbers)) v
