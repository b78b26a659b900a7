-- The call of an import, and what the host's answer to it leads to.
use Rattle.std.specs.Prelude.{◌≡◌, Result, Ok, Err}
use Rattle.wit_types.specs.PlainValue.{PlainValue, plain_value}
use Rattle.wit_types.specs.declared.value.Value.{Value}
use Rattle.host_port.specs.Calls.{PlainCall, PlainAnswer, Gives, Trap, Ended, Bad}
use Rattle.comp_worlds.specs.Groups.{Import}
use Rattle.comp_worlds.specs.Passing.{in_tuple, values_in}
use Rattle.call_moments.specs.declared.end.Stop.{Stop}
use Rattle.call_moments.specs.declared.end.Stop.TheVariants as stops

-- with this tuple of arguments
abbrev pub called : Import → PlainValue → PlainCall
called i args = record { interface = i.interface; function = i.function; params = i.ty.params; args = values_in args; answer = i.ty.answer }

abbrev pub GivesTuple : PlainAnswer → PlainValue → Type 0
GivesTuple (Gives value) tuple = tuple ≡ in_tuple value
GivesTuple Trap tuple = ⊥
GivesTuple Ended tuple = ⊥
GivesTuple Bad tuple = ⊥

abbrev pub Asks : PlainAnswer → Result Value Stop → Type 0
Asks answer (Ok value) = GivesTuple answer (plain_value value)
Asks answer (Err stops.Trapped) = answer ≡ Trap
Asks answer (Err stops.ScriptEnded) = answer ≡ Ended
Asks answer (Err stops.BadAnswer) = answer ≡ Bad
Asks answer (Err stops.Spent) = ⊥
Asks answer (Err stops.TooDeep) = ⊥
Asks answer (Err stops.NoMemory) = Unit {0}

-- unless memory ran out
abbrev pub WithMemory : {A : Type 0} → Result A Stop → Type 0 → Type 0
WithMemory (Ok a) P = P
WithMemory (Err stops.Trapped) P = P
WithMemory (Err stops.ScriptEnded) P = P
WithMemory (Err stops.BadAnswer) P = P
WithMemory (Err stops.Spent) P = P
WithMemory (Err stops.TooDeep) P = P
WithMemory (Err stops.NoMemory) P = Unit {0}
