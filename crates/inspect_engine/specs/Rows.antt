-- What is imported, function by function, in the order of the listed interfaces and of the functions in each.
use Rattle.std.specs.Prelude.{ℕ, ◌+◌, List, [], ◌∷◌, ◌++◌, Option, option_map, if◌then◌else◌}
use Rattle.wit_types.specs.Plain.{Name}
use Rattle.policy_data.specs.declared.policy.Policy.{Policy}
use Rattle.wasi_table.specs.Plain.{PlainNamedFunc, PlainInterface}
use Rattle.wasi_listed.specs.Listed.{described}
use Rattle.wasi_match.specs.declared.listed.ListedUse.{ListedUse}
use Rattle.adapter_world.specs.Needed.{is_asked}
use Rattle.adapter_world.specs.Names.{import_name}
use Rattle.adapter_world.specs.Behind.{below}
use Rattle.inspect_engine.specs.declared.fate.Fate.{Fate}
use Rattle.inspect_engine.specs.declared.rows.Row.{Row}
use Rattle.inspect_engine.specs.Fates.{fate}

-- a name in an import: the import's, `#`, and its own
abbrev pub name_in : Name → Name → Name
name_in import name = import ++ 35 ∷ name

abbrev pub fate_under : Option Policy → List ListedUse → ℕ → ℕ → PlainNamedFunc → Option Fate
fate_under policy uses interface place f = option_map (λ p. fate p uses interface place f) policy

abbrev pub row : Option Policy → List ListedUse → ℕ → Name → ℕ → PlainNamedFunc → Row
row policy uses interface import place f = record { name = name_in import f.name; interface = interface; fate = fate_under policy uses interface place f }

-- the function at a place, where it is imported
abbrev pub if_asked : Option Policy → List ListedUse → ℕ → Name → ℕ → PlainNamedFunc → List Row
if_asked policy uses interface import place f = if is_asked uses interface place then row policy uses interface import place f ∷ [] else []

-- the functions of an interface from a place on
abbrev pub rows_from : Option Policy → List ListedUse → ℕ → Name → ℕ → List PlainNamedFunc → List Row
rows_from policy uses interface import place [] = []
rows_from policy uses interface import place (f ∷ fs) = if_asked policy uses interface import place f ++ rows_from policy uses interface import (place + 1) fs

abbrev pub rows_of : Option Policy → List ListedUse → ℕ → PlainInterface → List Row
rows_of policy uses interface i = rows_from policy uses interface (import_name uses interface i.name) 0 i.functions

unfoldable pub rows : Option Policy → List ListedUse → List Row
rows policy uses = below (λ interface. rows_of policy uses interface (described interface)) 27
