-- What holds of every group.
use Rattle.std.specs.Prelude.{ℕ, ◌+◌, List}
use Rattle.host_port.specs.declared.call.Resource.{Resource}
use Rattle.host_port.specs.Hosts.{HostStep}
use Rattle.comp_worlds.specs.Acts.{Extends, Grows}
use Rattle.comp_worlds.specs.Passing.{Passed}
use Rattle.comp_worlds.specs.Groups.{Nesting, Import, Group, Due, Origin, Ports}
use Rattle.comp_worlds.specs.Calls.{group}
use Rattle.comp_worlds.specs.Hosts.{hosted}
use Rattle.comp_worlds.specs.Observed.{Call, runs_calls}

-- ---- more steps: what was done is done alike, and as many more steps are left

pub record PortsGrow {S : Type 0} (p : Ports S) : Type 0 where
  pub ask : (d : Nesting) (from : Origin) (import : Import) (passed : Passed ℕ) → Grows (p.ask d from import passed)
  pub leave : (d : Nesting) (due : Due) → Grows (p.leave d due)
  pub drop : (d : Nesting) (resource : Resource) (x : ℕ) → Grows (p.drop d resource x)

-- for what is over a host, from its making on
abbrev pub MoreStepsExtend : {S : Type 0} → HostStep S → Type 0
MoreStepsExtend {S} h =
    (d : Nesting) (G : Group) (below : List Group) (s : S) (calls : List Call) (n k : ℕ) → Extends k (runs_calls d G below h s calls n) (runs_calls d G below h s calls (k + n))

-- a host meets imports so, and so does a group over what does
abbrev pub HostsGrow : {S : Type 0} → HostStep S → Type 0
HostsGrow h = PortsGrow (hosted h)

abbrev pub GroupsGrow : {S : Type 0} → Ports S → Type 0
GroupsGrow p = PortsGrow p → (G : Group) → PortsGrow (group G p)
