use Rattle.std.proofs.Common.{◌≡◌, ◌++◌, drop, map}
use Rattle.std.specs.List.{flat_map}
use Rattle.wasi_table.specs.Plain.{PlainNamed, plain_named}
use Rattle.adapter_world.specs.Names.{if_among}
use Rattle.adapter_world.proofs.shown.shown_types.Given as goal

abbrev pub invariant-loop-i : goal.invariant-loop-i
invariant-loop-i l = l.shown ++ flat_map (λ (t : PlainNamed). if_among l.among l.interface t.name) (map plain_named (drop l.i l.types)) ≡ flat_map (λ (t : PlainNamed). if_among l.among l.interface t.name) (map plain_named l.types)
