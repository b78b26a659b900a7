use Rattle.abi_store.proofs.Only.{other_place}
use Rattle.abi_store.proofs.cases.payload_place.Goals as goal

pub returns-in_default-clause-value : goal.returns-in_default-clause-value
returns-in_default-clause-value c = other_place _ c.in_default.not-Variant c.in_default.not-Enum c.in_default.not-Option c.in_default.not-Result
