-- What is observed of a component over a host.
use Rattle.std.specs.Prelude.{ℕ, List, []}
use Rattle.host_port.specs.Calls.{PlainObservation}
use Rattle.host_port.specs.Hosts.{HostStep}
use Rattle.comp_grammar.specs.Trees.{Tree}
use Rattle.comp_worlds.specs.Observed.{Call, AreCallsOf, obs, seen, obs_deep, SameObservations}
use Rattle.comp_link.specs.Linking.{group_of}

abbrev pub component_obs : {S : Type 0} → Tree → HostStep S → S → List Call → ℕ → List PlainObservation
component_obs tree h s calls n = obs (group_of tree) [] h s calls n

abbrev pub component_seen : {S : Type 0} → Tree → HostStep S → S → List Call → ℕ → List PlainObservation
component_seen tree h s calls n = seen (group_of tree) [] h s calls n

-- with at most 65,536 calls in progress
abbrev pub component_obs_deep : {S : Type 0} → Tree → HostStep S → S → List Call → ℕ → List PlainObservation
component_obs_deep tree h s calls n = obs_deep (group_of tree) [] h s calls n

-- each call is of an export, with arguments of its types
abbrev pub AreCalls : Tree → List Call → Type 0
AreCalls tree calls = AreCallsOf (group_of tree) calls

-- One component over a host is seen to do what another does over another host, for every list of calls of its exports.
abbrev pub DoSame : {S T : Type 0} → Tree → HostStep S → S → Tree → HostStep T → T → Type 0
DoSame c h s d h' t = (calls : List Call) → AreCalls d calls → SameObservations (component_seen c h s calls) (component_seen d h' t calls)
