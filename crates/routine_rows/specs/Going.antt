-- A machine that is at some call.
use Rattle.std.specs.Prelude.{ℕ, List}
use Rattle.core_store.specs.declared.value.CoreValue.{CoreValue}
use Rattle.core_store.specs.State.{State}
use Rattle.core_store.specs.Config.{Reply}
use Rattle.core_interp.specs.declared.machine.Machine.{Machine}
use Rattle.core_interp.specs.Session.{Follows}

abbrev pub Goes : Machine → State → Type 0
Goes m s = (first : State) × (f : ℕ) × (args : List CoreValue) × (used : List Reply) × (taken : ℕ) × Follows first f args used taken m s
