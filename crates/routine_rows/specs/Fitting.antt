-- A routine that may stand in a stub.
use Rattle.std.specs.Prelude.{ℕ, ◌+◌, ◌<◌, ◌≤◌, ◌^◌, List, [], length}
use Rattle.adapter_code.specs.declared.statement.Width.{Width}
use Rattle.adapter_code.specs.Code.{Code}
use Rattle.adapter_code.specs.WellFormed.{IsWellFormed}
use Rattle.adapter_compile.specs.Bounds.{nesting, brackets}

pub record Fits (widths : List Width) (code : Code) : Type 0 where
  pub fine : IsWellFormed widths [] code
  pub shallow : length widths + brackets code < 2 ^ 32
  pub few : length widths + nesting code ≤ 40000
