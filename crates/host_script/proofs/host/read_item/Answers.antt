use Rattle.std.proofs.Common.{rules, sym}
use Rattle.serde_json.specs.View.{view}
use Rattle.serde_json.specs.Errors.{IsMemory}
use Rattle.host_script.specs.Json.{untyped}
use Rattle.host_script.specs.Script.{item_read}
use Rattle.host_script.proofs.Whole.{json_is, none_read}
use Rattle.host_script.proofs.OnePass.{seen_item, seen_trap, seen_none}
use Rattle.host_script.proofs.host.read_item.Goals as goal

pub returns-in-Some : goal.returns-in-Some
returns-in-Some c =
    let d = view c.in-Ok.json in
    sym (seen_item c.args.text.now (untyped d) (item_read c.in-Some.item) (json_is c.args.text.now d c.in-Ok.ensures.ok.0 c.in-Ok.ensures.ok.1) c.in-Some.ensures)

pub returns-in-None : goal.returns-in-None
returns-in-None c =
    let d = view c.in-Ok.json in
    sym (seen_trap c.args.text.now (untyped d) (json_is c.args.text.now d c.in-Ok.ensures.ok.0 c.in-Ok.ensures.ok.1) c.in-None.ensures)

pub returns-else-is_memory : goal.returns-else-is_memory
returns-else-is_memory c =
    let other : IsMemory c.in-Err.e → ⊥ = λ m. search (rules, c.is_memory.ensures, c.if-is_memory.false, m) in
    sym (seen_none c.args.text.now (none_read c.args.text.now (c.in-Err.ensures.err other)))
