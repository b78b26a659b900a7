use Rattle.std.proofs.Common.{◌≡◌, []}
use Rattle.toml.specs.View.{table_view, members_view}
use Rattle.policy_toml.specs.Reading.{each_member}
use Rattle.policy_toml.specs.Environment.{variable_of}
use Rattle.policy_toml.proofs.env.each_variable.Given as goal

abbrev pub invariant-loop-name : goal.invariant-loop-name
invariant-loop-name l =
    each_member (variable_of l.path) [] (table_view l.table) ≡ each_member (variable_of l.path) l.variables (members_view l.name-iterator)
