use Rattle.std.proofs.Common.{rules}
use Rattle.wit_types.proofs.ValueLemmas.{plain_value-Char}
use Rattle.host_script.proofs.Views.{untyped-String}
use Rattle.host_script.proofs.Chars.{one_char, no_char}
use Rattle.host_script.proofs.scalars.char_in.Goals as goal

pub returns-in-Ok : goal.returns-in-Ok
returns-in-Ok c = rw (c.in-String.is, untyped-String, plain_value-Char, ← c.as_str.ensures.value) (one_char _ _ (search rules) c.in-Ok.ensures.value)

pub returns-in-Err : goal.returns-in-Err
returns-in-Err c = rw (c.in-String.is, untyped-String, ← c.as_str.ensures.value) (no_char _ c.as_str.utf8 c.in-Err.ensures.value)
