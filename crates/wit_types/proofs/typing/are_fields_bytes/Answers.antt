use Rattle.std.proofs.Common.{sym}
use Rattle.wit_types.proofs.TypingLemmas.{are_of-fields_of-bytes}
use Rattle.wit_types.proofs.typing.are_fields_bytes.Goals as goal

pub returns-then-bytes-fields : goal.returns-then-bytes-fields
returns-then-bytes-fields c = sym (are_of-fields_of-bytes _ _ c.if-bytes-fields.true)
