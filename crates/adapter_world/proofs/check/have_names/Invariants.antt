use Rattle.std.proofs.Common.{◌≡◌, drop}
use Rattle.comp_types.specs.Views.{entries_of}
use Rattle.adapter_world.specs.Imports.{names_in}
use Rattle.adapter_world.proofs.check.have_names.Given as goal

abbrev pub invariant-loop-i : goal.invariant-loop-i
invariant-loop-i l = names_in (entries_of (drop l.i l.entries)) ≡ drop l.i l.names → names_in (entries_of l.entries) ≡ l.names
