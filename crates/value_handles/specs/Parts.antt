-- The handles of a payload, by the type of its case.
use Rattle.std.specs.Prelude.{List, [], Option, Some, None}
use Rattle.wit_types.specs.Plain.{Plain}
use Rattle.wit_types.specs.PlainValue.{Payload}
use Rattle.abi_layout.specs.Storing.{on_payload}
use Rattle.abi_layout.specs.Handles.{Handle, handles}

abbrev pub payload_handles : Option Plain → Payload → List Handle
payload_handles None payload = []
payload_handles (Some ty) payload = on_payload [] (λ v. handles ty v) payload
