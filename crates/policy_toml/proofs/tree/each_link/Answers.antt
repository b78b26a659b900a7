use Rattle.std.proofs.Common.{◌∙◌, ap, sym, ◌++◌, map, true}
use Rattle.std.specs.Prelude.{◌||◌}
use Rattle.std.specs.List.{list_any}
use Rattle.toml.specs.View.{members_view, view}
use Rattle.policy_toml.specs.Reading.{each_member}
use Rattle.policy_toml.specs.Trees.{link_at, link_placed}
use Rattle.policy_toml.proofs.Placing.{member_turn, link_turn, any-placed_more}
use Rattle.policy_toml.proofs.tree.each_link.Goals as goal

pub loop-key-preserved : goal.loop-key-preserved
loop-key-preserved c = record {
  read = c.loop-key.invariant.read ∙ (member_turn (link_at c.args.path.now c.args.paths.now) c.loop-key.links c.in_ok-link.link c.loop-key.key-iterator c.next.new.self
      c.in-Some.key.now c.in-Some.value.now c.as_str-key.result.now c.in-Some.ensures.steps c.as_str-key.ensures.value
      (link_turn c.args.path.now c.as_str-key.result.now c.as_str-at.result.now (view c.in-Some.value.now) c.args.paths.now c.loop-key.links c.in_ok-link.link c.as_str.result.now
      c.loop-key.paths (c.as_str-at.ensures ∙ c.in_ok-at.ensures) c.in_ok-link.ensures c.as_str.ensures c.in_ok-place.ensures.fits c.loop-key.invariant.placed)
      ∙ ap (λ xs. each_member (link_at c.args.path.now c.args.paths.now) xs (members_view c.next.new.self)) (sym c.in_ok-push.ensures.ok));
  placed = λ test. c.in_ok-place.ensures.added test
      ∙ (ap (λ p. test (record { path = p; leaf = true }) || list_any test c.loop-key.paths) c.as_str.ensures
      ∙ (ap (λ b. test (link_placed c.in_ok-link.link) || b) (c.loop-key.invariant.placed test)
      ∙ (any-placed_more test link_placed c.args.paths.now c.loop-key.links c.in_ok-link.link
      ∙ ap (λ xs. list_any test (c.args.paths.now ++ map link_placed xs)) (sym c.in_ok-push.ensures.ok))));
}
