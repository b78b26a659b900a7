-- Hosts by what they were asked: a host from a state answers by all that it was asked before, so it is one whose state is that list.
-- (This project's own.)
use Rattle.std.specs.Prelude.{◌≡◌, ℕ, List, [], ◌∷◌}
use Rattle.host_port.specs.declared.call.Resource.{Resource}
use Rattle.host_port.specs.Calls.{PlainCall}
use Rattle.host_port.specs.Hosts.{HostStep}
use Rattle.comp_grammar.specs.Trees.{Tree}
use Rattle.comp_worlds.specs.Acts.{observed_of, seen_of}
use Rattle.comp_worlds.specs.Groups.{Nesting, Group}
use Rattle.comp_worlds.specs.Observed.{Call, runs_calls}
use Rattle.comp_inside.specs.Laws.{SeenWrapped}

pub data Asked : Type 0 where
  Called : (call : PlainCall) → Asked
  Dropped : (resource : Resource) → (id : ℕ) → Asked

-- the host's state after all this, of which the last is first
abbrev pub state_after : {S : Type 0} → HostStep S → S → List Asked → S
state_after h s [] = s
state_after h s (Called c ∷ before) = (h.call (state_after h s before) c).next
state_after h s (Dropped resource id ∷ before) = (h.drop (state_after h s before) resource id).next

abbrev pub strategy : {S : Type 0} → HostStep S → S → HostStep (List Asked)
strategy h s = record {
  call = λ before c. let r = h.call (state_after h s before) c in record { seen = r.seen; answer = r.answer; next = Called c ∷ before };
  drop = λ before resource id. record { seen = (h.drop (state_after h s before) resource id).seen; next = Dropped resource id ∷ before };
}

-- A group over the host is observed to do, step by step, what it does over the strategy of the host.
pub record SeenByStrategy {S : Type 0} (G : Group) (h : HostStep S) (s : S) (d : Nesting) (calls : List Call) (n : ℕ) : Type 0 where
  pub observed : observed_of (runs_calls d G [] h s calls n) ≡ observed_of (runs_calls d G [] (strategy h s) [] calls n)
  pub seen : seen_of (runs_calls d G [] h s calls n) ≡ seen_of (runs_calls d G [] (strategy h s) [] calls n)

abbrev pub IsItsStrategy : {S : Type 0} → HostStep S → Type 0
IsItsStrategy {S} h = (G : Group) (s : S) (d : Nesting) (calls : List Call) (n : ℕ) → SeenByStrategy G h s d calls n

-- Over every strategy, from whatever was asked before, the one component is seen to do what the other does, in one step more.
abbrev pub DoesTheSame : Tree → Tree → Type 0
DoesTheSame w c = (h : HostStep (List Asked)) (before : List Asked) (calls : List Call) → SeenWrapped w c h before calls

-- so it does over every host
abbrev pub SameOverHost : {S : Type 0} → HostStep S → Type 0
SameOverHost {S} h = (w c : Tree) → DoesTheSame w c → (s : S) (calls : List Call) → SeenWrapped w c h s calls
