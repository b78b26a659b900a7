use Rattle.std.proofs.Common.{◌≡◌, ◌++◌, drop}
use Rattle.std.specs.List.{flat_map}
use Rattle.wasi_table.specs.declared.interface.Use.{Use}
use Rattle.adapter_world.specs.Names.{if_among}
use Rattle.adapter_world.proofs.shown.shown_uses.Given as goal

abbrev pub invariant-loop-i : goal.invariant-loop-i
invariant-loop-i l = l.shown ++ flat_map (λ (u : Use). if_among l.among l.interface u.name) (drop l.i l.uses) ≡ flat_map (λ (u : Use). if_among l.among l.interface u.name) l.uses
