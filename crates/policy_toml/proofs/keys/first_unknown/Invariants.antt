use Rattle.std.proofs.Common.{◌≡◌, map}
use Rattle.toml.specs.View.{table_view, members_view}
use Rattle.policy_toml.specs.Keys.{first_unknown}
use Rattle.policy_toml.proofs.keys.first_unknown.Given as goal

abbrev pub invariant-loop-key : goal.invariant-loop-key
invariant-loop-key l =
    first_unknown (map (λ k. k.now) l.known) (table_view l.table) ≡ first_unknown (map (λ k. k.now) l.known) (members_view l.key-iterator)
