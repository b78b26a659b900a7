use Rattle.std.proofs.Common.{◌≡◌, map}
use Rattle.wasi_listed.specs.Listed.{described}
use Rattle.adapter_world.specs.Behind.{below}
use Rattle.adapter_world.specs.Names.{named, needed_import}
use Rattle.adapter_world.proofs.needs.imports_with.Given as goal

abbrev pub invariant-loop-number : goal.invariant-loop-number
invariant-loop-number l = map named l.interfaces ≡ below (λ number. needed_import l.policy l.uses l.types number (described number)) l.number
