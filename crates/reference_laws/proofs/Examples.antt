-- A policy that allows nothing, and what no handle stands for under it.
use Rattle.std.proofs.Common.{◌≡◌, refl, ℕ, true, false, [], None}
use Rattle.policy_data.specs.declared.policy.Policy.{Policy}
use Rattle.policy_data.specs.declared.words.Stream.TheVariants.{Ignore as IgnoredStream, Deny as NoStream}
use Rattle.policy_data.specs.declared.words.Access.TheVariants.{Deny}
use Rattle.policy_data.specs.declared.words.Sockets.TheVariants.{Deny as NoSockets}
use Rattle.policy_data.specs.declared.words.HostFiles.TheVariants.{Deny as NoFiles}
use Rattle.policy_data.specs.declared.data.Arguments.TheVariants.{Deny as NoArguments}
use Rattle.policy_data.specs.declared.data.WorkingDirectory.TheVariants.{Deny as NoFolder}
use Rattle.policy_data.specs.declared.data.WallClock.TheVariants.{Deny as NoWall}
use Rattle.policy_data.specs.declared.data.MonotonicClock.TheVariants.{Fixed as FixedMonotonic}
use Rattle.reference_step.specs.Handles.{Host, ScratchRoot, descriptor}
use Rattle.reference_laws.specs.Closed.{AllowsNothing}
use Rattle.reference_laws.specs.Standing.{MayStand}

-- any policy, with what it leaves to the host taken away: some of it denied, some of it the policy's own
abbrev shut : Policy → Policy
shut p = record p {
  env_pass = false;
  env_allow = [];
  env_arguments = NoArguments;
  env_cwd = NoFolder;
  exit = Deny;
  stdio_stdin = NoStream;
  stdio_stdout = IgnoredStream;
  stdio_stderr = NoStream;
  clocks_wall = NoWall;
  clocks_monotonic = FixedMonotonic 5;
  random = Deny;
  fs_host = NoFiles;
  fs_pass = [];
  sockets = NoSockets;
}

shut_allows_nothing : (p : Policy) → AllowsNothing (shut p)
shut_allows_nothing p = record {
  variables = refl;
  arguments = refl;
  folder = refl;
  exit = refl;
  stdin = refl;
  stdout = refl;
  stderr = refl;
  wall = refl;
  monotonic = refl;
  random = refl;
  folders = refl;
  sockets = refl;
}

no_false : false ≡ true → ⊥
no_false e = absurd cc

-- no descriptor is the host's under it
none_of_the_host : (p : Policy) (id : ℕ) → MayStand (shut p) (record { kind = descriptor; content = Host id }) → ⊥
none_of_the_host p id may = no_false (may.host refl)

-- and without a scratch folder none is that folder
none_of_scratch : (p : Policy) → MayStand (record p { fs_scratch = None }) (record { kind = descriptor; content = ScratchRoot }) → ⊥
none_of_scratch p may = no_false (may.scratch refl)
