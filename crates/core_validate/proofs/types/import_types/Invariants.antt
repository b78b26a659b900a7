use Rattle.std.proofs.Common.{◌≡◌, map, take}
use Rattle.core_body.specs.Views.{context_at}
use Rattle.core_validate.specs.Typed.{core_import}
use Rattle.core_validate.proofs.types.import_types.Given as goal

abbrev pub invariant-loop-import : goal.invariant-loop-import
invariant-loop-import l = record {
  list : l.list.items ≡ map (core_import (context_at l.spaces)) (take l.import-index l.imports);
  types : l.types ≡ l.spaces.types.now;
}
