use Rattle.std.proofs.Common.{rules, ◌∙◌, sym}
use Rattle.host_script.proofs.Keys.{known_turn, unknown_turn}
use Rattle.host_script.proofs.top.first_unknown.Goals as goal

pub returns-then-not-is_known : goal.returns-then-not-is_known
returns-then-not-is_known c =
    sym (c.loop-key.invariant ∙ unknown_turn c.loop-key.key-iterator c.next.new.self c.in-Some.key.now c.in-Some.field-0-1.now
    c.as_str-then-not-is_known.result.now c.in-Some.ensures.steps c.as_str-then-not-is_known.ensures.value (search (rules, c.if-not-is_known.ensures)))

pub loop-key-preserved : goal.loop-key-preserved
loop-key-preserved c =
    c.loop-key.invariant ∙ known_turn c.loop-key.key-iterator c.next.new.self c.in-Some.key.now c.in-Some.field-0-1.now
    c.as_str.result.now c.in-Some.ensures.steps c.as_str.ensures.value (search (rules, c.if-not-is_known.ensures))
