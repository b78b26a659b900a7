use Rattle.std.proofs.Common.{sym, arith}
use Rattle.wit_types.proofs.PlainLemmas.{plain-U8}
use Rattle.wit_types.proofs.TypingLemmas.{are_bytes}
use Rattle.wit_types.proofs.typing.are_bytes.Goals as goal

pub returns-in-U8 : goal.returns-in-U8
returns-in-U8 c = rw (c.in-U8.is, plain-U8) (sym (are_bytes c.args.bytes.now (λ k. omega (arith, c.type_inv.bytes k))))
