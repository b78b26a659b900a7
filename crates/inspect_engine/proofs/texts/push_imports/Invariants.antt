use Rattle.std.proofs.Common.{◌≡◌, ◌++◌, drop, map, string_bytes}
use Rattle.adapter_world.specs.Names.{named}
use Rattle.inspect_engine.specs.Texts.{imports_text}
use Rattle.inspect_engine.proofs.texts.push_imports.Given as goal

abbrev pub invariant-loop-one : goal.invariant-loop-one
invariant-loop-one l = string_bytes l.text ++ imports_text (map named (drop l.one-index l.needed)) ≡ string_bytes l.fn.text ++ imports_text (map named l.needed)
