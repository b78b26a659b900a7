use Rattle.std.proofs.Common.{rules, ◌∙◌, sym, map}
use Rattle.policy_toml.proofs.Turns.{is_known-now, known_turn, unknown_turn}
use Rattle.policy_toml.proofs.keys.first_unknown.Goals as goal

pub returns-then-not-is_listed : goal.returns-then-not-is_listed
returns-then-not-is_listed c =
    sym (c.loop-key.invariant ∙ unknown_turn (map (λ k. k.now) c.args.known.now) c.loop-key.key-iterator c.next.new.self c.in-Some.key.now c.in-Some.field-0-1.now
    c.as_str-then-not-is_listed.result.now c.in-Some.ensures.steps c.as_str-then-not-is_listed.ensures.value (sym (is_known-now c.args.known.now _) ∙ search (rules, c.if-not-is_listed.ensures)))

pub loop-key-preserved : goal.loop-key-preserved
loop-key-preserved c =
    c.loop-key.invariant ∙ known_turn (map (λ k. k.now) c.args.known.now) c.loop-key.key-iterator c.next.new.self c.in-Some.key.now c.in-Some.field-0-1.now
    c.as_str.result.now c.in-Some.ensures.steps c.as_str.ensures.value (sym (is_known-now c.args.known.now _) ∙ search (rules, c.if-not-is_listed.ensures))
