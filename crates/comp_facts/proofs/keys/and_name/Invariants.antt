use Rattle.std.proofs.Common.{◌≡◌, take}
use Rattle.comp_facts.specs.Keys.{and_bytes}
use Rattle.comp_facts.proofs.keys.and_name.Given as goal

abbrev pub invariant-loop-byte : goal.invariant-loop-byte
invariant-loop-byte l = l.key ≡ and_bytes l.fn.key (take l.byte-index l.name)
