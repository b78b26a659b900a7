use Rattle.inspect_engine.proofs.Inspecting.{none_said, no_command, no_memory}
use Rattle.inspect_engine.proofs.engine.inspect_words.Goals as goal

pub returns-in-Ok : goal.returns-in-Ok
returns-in-Ok g c = c.inspect_named.ensures _ c.in-Ok.ensures

pub returns-in-Err-Usage : goal.returns-in-Err-Usage
returns-in-Err-Usage g c =
    let none = none_said c.args.words.now c.in-Err-Usage.field-0 c.in-Err-Usage.field-0-is c.in-Err-Usage.ensures in
    no_command c.args.words.now _ _ _ _ none c.refuse.ensures.report c.refuse.ensures.silent

pub returns-in-Err-NoMemory : goal.returns-in-Err-NoMemory
returns-in-Err-NoMemory g c = no_memory c.args.words.now _ _
