-- What the answers of a table's calls say.
use Rattle.std.specs.Prelude.{ℕ, true, false}
use Rattle.handle_space.specs.declared.table.Taken.{Taken}
use Rattle.handle_space.specs.declared.table.Taken.TheVariants.{Own, Borrow}
use Rattle.handle_space.specs.HandleMap.{Held}

abbrev pub held_of : Taken → Held ℕ
held_of (Own rep) = record { owned = true; rep = rep }
held_of (Borrow rep) = record { owned = false; rep = rep }
