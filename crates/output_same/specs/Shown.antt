-- What is seen of a host's calls without their types. A component has numbers of resources of its own, which stand in the types of its
-- imports, so what is compared of a call is its interface, its function and its arguments. (This project's own.)
use Rattle.std.specs.Prelude.{◌≡◌, ℕ, List, map, None}
use Rattle.wit_types.specs.Plain.{End}
use Rattle.host_port.specs.Calls.{PlainObservation, Called}
use Rattle.host_port.specs.Hosts.{HostStep}
use Rattle.comp_grammar.specs.Trees.{Tree}
use Rattle.comp_worlds.specs.Acts.{observed_of, seen_of}
use Rattle.comp_worlds.specs.Groups.{Nesting, Group}
use Rattle.comp_worlds.specs.Observed.{Call, runs_calls, SameObservations}
use Rattle.comp_link.specs.Components.{AreCalls, component_seen, DoSame}

-- a host's call without its types, and whatever else is seen as it is
abbrev pub untyped : PlainObservation → PlainObservation
untyped (Called c) = Called (record c { params = End; answer = None })
untyped o = o

-- the host whose calls and drops are shown so
abbrev pub showing : {S : Type 0} → (PlainObservation → PlainObservation) → HostStep S → HostStep S
showing f h = record {
  call = λ s c. let r = h.call s c in record { seen = map f r.seen; answer = r.answer; next = r.next };
  drop = λ s resource id. let l = h.drop s resource id in record { seen = map f l.seen; next = l.next };
}

-- Over the host that shows no types the same is seen as over the host, without types.
pub record SeenShown {S : Type 0} (G : Group) (below : List Group) (h : HostStep S) (s : S) (d : Nesting) (calls : List Call) (n : ℕ) : Type 0 where
  pub observed : observed_of (runs_calls d G below (showing untyped h) s calls n) ≡ map untyped (observed_of (runs_calls d G below h s calls n))
  pub seen : seen_of (runs_calls d G below (showing untyped h) s calls n) ≡ map untyped (seen_of (runs_calls d G below h s calls n))

abbrev pub ShowsUntyped : {S : Type 0} → HostStep S → Type 0
ShowsUntyped {S} h = (G : Group) (below : List Group) (s : S) (d : Nesting) (calls : List Call) (n : ℕ) → SeenShown G below h s d calls n

-- Two are seen to do the same, where a call of the host is compared without its types.
abbrev pub SameUpToTypes : (one two : ℕ → List PlainObservation) → Type 0
SameUpToTypes one two = SameObservations (λ n. map untyped (one n)) (λ n. map untyped (two n))

-- So an output does over its host what the application does over another host, for every list of calls of its exports.
abbrev pub DoSameUpToTypes : {S T : Type 0} → Tree → HostStep S → S → Tree → HostStep T → T → Type 0
DoSameUpToTypes output h s app h' t = (calls : List Call) → AreCalls app calls → SameUpToTypes (component_seen output h s calls) (component_seen app h' t calls)

-- This is to do the same over hosts that show no types.
pub record ByHosts {S T : Type 0} (h : HostStep S) (h' : HostStep T) : Type 0 where
  pub over : (output app : Tree) (s : S) (t : T) → DoSame output (showing untyped h) s app (showing untyped h') t → DoSameUpToTypes output h s app h' t
  pub back : (output app : Tree) (s : S) (t : T) → DoSameUpToTypes output h s app h' t → DoSame output (showing untyped h) s app (showing untyped h') t
