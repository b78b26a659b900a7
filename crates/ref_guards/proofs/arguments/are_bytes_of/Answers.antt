use Rattle.std.proofs.Common.{sym}
use Rattle.wit_types.proofs.TypingLemmas.{are_of-fields_of-bytes}
use Rattle.ref_guards.proofs.arguments.are_bytes_of.Goals as goal

pub returns-then-bytes-params : goal.returns-then-bytes-params
returns-then-bytes-params c = sym (are_of-fields_of-bytes _ _ c.if-bytes-params.true)
