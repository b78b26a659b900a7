use Rattle.std.proofs.Common.{◌≡◌}
use Rattle.reference_host.specs.Versions.{first_versions}
use Rattle.reference_host.proofs.versions.versions_of.Given as goal

abbrev pub invariant-loop-interface : goal.invariant-loop-interface
invariant-loop-interface l = l.versions.items ≡ first_versions l.listed.uses l.interface
