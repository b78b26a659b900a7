use Rattle.std.proofs.Common.{◌≡◌, ◌++◌, drop, string_bytes}
use Rattle.inspect_engine.specs.Texts.{names_text}
use Rattle.inspect_engine.proofs.texts.push_names.Given as goal

abbrev pub invariant-loop-name : goal.invariant-loop-name
invariant-loop-name l = string_bytes l.text ++ names_text l.import (drop l.name-index l.names) ≡ string_bytes l.fn.text ++ names_text l.import l.names
