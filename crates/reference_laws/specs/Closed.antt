-- A policy that leaves nothing to the host, and what its reference host does of itself. (This project's own.)
use Rattle.std.specs.Prelude.{◌≡◌, ℕ, false, ◌||◌, List, [], ◌∷◌}
use Rattle.policy_data.specs.declared.policy.Policy.{Policy}
use Rattle.host_port.specs.declared.call.Resource.{Resource}
use Rattle.host_port.specs.Calls.{PlainCall}
use Rattle.host_port.specs.Hosts.{HostStep, Kept, reacts, drops}
use Rattle.reference_step.specs.Access.{is_hosted, is_host_stream, is_some_text, by_word, by_sockets, by_wall, by_monotonic, by_arguments, by_folder, asks_folders}
use Rattle.reference_step.specs.State.{Setup, Reference, opening}
use Rattle.reference_step.specs.Steps.{reference_step}

-- The policy leaves to the host no function that needs no handle: what it says of each is a value of its own or a refusal.
pub record AllowsNothing (p : Policy) : Type 0 where
  pub variables : (p.env_pass || is_some_text p.env_allow) ≡ false
  pub arguments : is_hosted (by_arguments p.env_arguments) ≡ false
  pub folder : is_hosted (by_folder p.env_cwd) ≡ false
  pub exit : is_hosted (by_word p.exit) ≡ false
  pub stdin : is_host_stream p.stdio_stdin ≡ false
  pub stdout : is_host_stream p.stdio_stdout ≡ false
  pub stderr : is_host_stream p.stdio_stderr ≡ false
  pub wall : is_hosted (by_wall p.clocks_wall) ≡ false
  pub monotonic : is_hosted (by_monotonic p.clocks_monotonic) ≡ false
  pub random : is_hosted (by_word p.random) ≡ false
  pub folders : asks_folders p ≡ false
  pub sockets : is_hosted (by_sockets p.sockets) ≡ false

-- what an application does to a host: it calls a function, or drops a handle
pub data Act : Type 0 where
  Calls : (call : PlainCall) → Act
  Drops : (resource : Resource) → (id : ℕ) → Act

-- what a host comes to by some acts, one after another
abbrev pub after : {S : Type 0} → HostStep S → Kept S → List Act → Kept S
after h k [] = k
after h k (Calls c ∷ acts) = after h (reacts h k c) acts
after h k (Drops resource id ∷ acts) = after h (drops h k resource id) acts

-- before the first act
abbrev pub begun : {S : Type 0} → Setup → S → Kept (Reference S)
begun setup inner = record { state = opening setup inner; seen = [] }

-- By these acts nothing is seen of the host, whose state stays.
pub record StaysClosed {S : Type 0} (h : HostStep S) (setup : Setup) (inner : S) (acts : List Act) : Type 0 where
  pub silent : (after (reference_step h) (begun setup inner) acts).seen ≡ []
  pub untouched : (after (reference_step h) (begun setup inner) acts).state.inner ≡ inner
  -- and over every other host they come to the same
  pub alone : (g : HostStep S) → after (reference_step g) (begun setup inner) acts ≡ after (reference_step h) (begun setup inner) acts

-- whatever an application does under a policy that allows nothing
abbrev pub NothingReachesTheHost : {S : Type 0} → HostStep S → Type 0
NothingReachesTheHost {S} h = (setup : Setup) (inner : S) (acts : List Act) → AllowsNothing setup.policy → StaysClosed h setup inner acts
