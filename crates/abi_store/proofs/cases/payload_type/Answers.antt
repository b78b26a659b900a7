use Rattle.abi_store.proofs.Only.{other_payload}
use Rattle.abi_store.proofs.cases.payload_type.Goals as goal

pub returns-in_default : goal.returns-in_default
returns-in_default c = other_payload _ _ c.in_default.not-Variant c.in_default.not-Option c.in_default.not-Result
