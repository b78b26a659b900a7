-- For which group of the definition this stands.
use Rattle.std.specs.Prelude.{ℕ, List, Option, Vec, slice_get}
use Rattle.std.specs.Option.{option_map, option_and_then}
use Rattle.std.specs.Global.{Global}
use Rattle.comp_worlds.specs.Groups.{Func}
use Rattle.instance_state.specs.declared.canon.Canon.{Canon}
use Rattle.instance_state.specs.Targets.{func_of}

-- the canonical function of a number, in the lists of all instances
abbrev pub canon_in : List (Vec Canon Global) → ℕ → ℕ → Option Func
canon_in canons k number = option_map func_of (option_and_then (λ (row : Vec Canon Global). slice_get row.items number) (slice_get canons k))
