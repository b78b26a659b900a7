use Rattle.std.proofs.Common.{◌≡◌, ◌++◌, map, drop}
use Rattle.comp_types.specs.Views.{entries_of}
use Rattle.wasi_table.specs.Plain.{plain_named_func}
use Rattle.wasi_match.specs.Listed.{places}
use Rattle.wasi_match.proofs.entries.places.Given as goal

abbrev pub invariant-loop-i : goal.invariant-loop-i
invariant-loop-i l = l.found ++ places (map plain_named_func l.functions) (entries_of (drop l.i l.entries)) ≡ places (map plain_named_func l.functions) (entries_of l.entries)
