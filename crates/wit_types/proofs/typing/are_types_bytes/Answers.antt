use Rattle.std.proofs.Common.{sym}
use Rattle.wit_types.proofs.TypingLemmas.{are_of-types_of-bytes}
use Rattle.wit_types.proofs.typing.are_types_bytes.Goals as goal

pub returns-then-bytes-types : goal.returns-then-bytes-types
returns-then-bytes-types c = sym (are_of-types_of-bytes _ _ c.if-bytes-types.true)
