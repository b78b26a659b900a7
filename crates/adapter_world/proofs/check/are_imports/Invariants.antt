use Rattle.std.proofs.Common.{◌≡◌, drop, map}
use Rattle.comp_types.specs.Views.{entries_of}
use Rattle.adapter_world.specs.Names.{named}
use Rattle.adapter_world.specs.Imports.{import_names}
use Rattle.adapter_world.proofs.check.are_imports.Given as goal

abbrev pub invariant-loop-i : goal.invariant-loop-i
invariant-loop-i l = import_names (entries_of (drop l.i l.entries)) ≡ map named (drop l.i l.needed) → import_names (entries_of l.entries) ≡ map named l.needed
