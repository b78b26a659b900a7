use Rattle.std.proofs.Common.{◌≡◌}
use Rattle.serde_json.specs.View.{members_view}
use Rattle.host_script.specs.Json.{untyped_members}
use Rattle.host_script.specs.Script.{first_unknown}
use Rattle.host_script.proofs.top.first_unknown.Given as goal

abbrev pub invariant-loop-key : goal.invariant-loop-key
invariant-loop-key l = first_unknown (untyped_members (members_view l.members.entries)) ≡ first_unknown (untyped_members (members_view l.key-iterator))
