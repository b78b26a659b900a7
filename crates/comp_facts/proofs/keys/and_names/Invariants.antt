use Rattle.std.proofs.Common.{◌≡◌, take}
use Rattle.comp_facts.specs.Keys.{and_names}
use Rattle.comp_facts.proofs.keys.and_names.Given as goal

abbrev pub invariant-loop-name : goal.invariant-loop-name
invariant-loop-name l = l.key ≡ and_names l.fn.key (take l.name-index l.names)
