-- What contracts see of an instance, and what an operation on it did.
use Rattle.std.specs.Prelude.{◌≡◌, ℕ, Option, Some, None, Result, Ok, Err}
use Rattle.virt_base.specs.declared.fault.Trap.{Trap as TrapType}
use Rattle.comp_worlds.specs.Groups.{Config}
use Rattle.comp_worlds.specs.Locals.{Local}
use Rattle.instance_state.specs.declared.fault.HandleFault.{HandleFault}
use Rattle.instance_state.specs.declared.fault.HandleFault.TheVariants.{Trap, NoMemory}
use Rattle.instance_state.specs.declared.instance.Instance.{Instance}

abbrev pub config_of : Instance → Config ℕ
config_of i = record { store = i.code.store; map = i.handles; entered = i.entered; closed = i.closed }

-- The operation went, and left the instance so; or it does not go.
abbrev pub Goes : Option (Local ℕ (Unit {0})) → Config ℕ → Result (Unit {0}) TrapType → Type 0
Goes due new (Ok done) = due ≡ Some (record { config = new; answer = done })
Goes due new (Err trap) = due ≡ None

-- The same of one that answers, with what its answer stands for.
abbrev pub Answers : {A B : Type 0} → (A → B) → Option (Local ℕ B) → Config ℕ → Result A TrapType → Type 0
Answers of due new (Ok a) = due ≡ Some (record { config = new; answer = of a })
Answers of due new (Err trap) = due ≡ None

-- The same of one for which memory may run out.
abbrev pub AnswersInMemory : {A B : Type 0} → (A → B) → Option (Local ℕ B) → Config ℕ → Result A HandleFault → Type 0
AnswersInMemory of due new (Ok a) = due ≡ Some (record { config = new; answer = of a })
AnswersInMemory of due new (Err Trap) = due ≡ None
AnswersInMemory of due new (Err NoMemory) = Unit {0}
