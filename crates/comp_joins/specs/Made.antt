-- What stores hold as a component is made: as many items as the plan counts, so that the places which it gives are theirs. (This
-- project's own.)
use Rattle.std.specs.Prelude.{◌≡◌, ℕ, ◌≤◌, ◌<◌, List, ◌∷◌, ◌++◌, length}
use Rattle.wasm_ast.specs.declared.module.Module.{Module}
use Rattle.core_store.specs.State.{State as Store, empty}
use Rattle.core_instance.specs.declared.external.Extern.{Extern}
use Rattle.core_instance.specs.Instantiation.{instance_of}
use Rattle.host_port.specs.Calls.{PlainObservation}
use Rattle.host_port.specs.Hosts.{HostStep}
use Rattle.comp_grammar.specs.Trees.{Tree}
use Rattle.comp_worlds.specs.Acts.{Next}
use Rattle.comp_worlds.specs.Groups.{Nesting, Stage, Group, World}
use Rattle.comp_worlds.specs.Calls.{runs, does_all}
use Rattle.comp_worlds.specs.Hosts.{hosted}
use Rattle.comp_worlds.specs.Observed.{State, stack, first_state, Call, makes_calls}
use Rattle.comp_link.specs.Plans.{Plan}
use Rattle.comp_link.specs.Linking.{Making, link, group_of}
use Rattle.comp_inside.specs.Linked.{unmade}

-- how many items of each kind a store has
pub record Items : Type 0 where
  pub functions : ℕ
  pub tables : ℕ
  pub memories : ℕ
  pub globals : ℕ
  pub segments : ℕ
  pub elements : ℕ
  pub instances : ℕ

abbrev pub items_of : Store → Items
items_of s = record {
  functions = length s.functions;
  tables = length s.tables;
  memories = length s.memories;
  globals = length s.globals;
  segments = length s.segments;
  elements = length s.elements;
  instances = length s.instances;
}

-- The store of the instance that is being made has as many items as its shadow, and instances that are not begun have none.
pub record IsAsPlanned {S : Type 0} (m : Making) (w : World S) : Type 0 where
  pub begun : m.instance < m.whole.next_instance
  pub store : items_of (w.configs m.instance).store ≡ items_of m.shadow
  pub later : (k : ℕ) → m.whole.next_instance ≤ k → items_of (w.configs k).store ≡ items_of empty

-- each instance's store has as many items as before
abbrev pub SameItems : {S : Type 0} → World S → World S → Type 0
SameItems w w' = (k : ℕ) → items_of (w.configs k).store ≡ items_of (w'.configs k).store

-- over whatever groups over a host
pub record StoresAreAsPlanned {S : Type 0} (h : HostStep S) : Type 0 where
  -- before anything is made
  pub begins : (c : Tree) (groups : List Group) (s : S) → IsAsPlanned (unmade c) (first_state (group_of c ∷ groups) s)
  -- once the stages that a plan adds are done, or those of any part of it
  pub goes_on : (G : Group) (groups : List Group) (d : Nesting) (fuel : ℕ) (plan : Plan) (m : Making) (stages : List Stage) (w w' : World (State groups S)) (n left : ℕ) (seen : List PlainObservation) →
      IsAsPlanned m w → (link plan m).whole.stages ≡ m.whole.stages ++ stages →
      does_all G (stack groups (hosted h)) (runs G (stack groups (hosted h)) fuel) d stages w n ≡ Next seen left w' tt → IsAsPlanned (link plan m) w'
  -- once it is made, calls leave each store as many items
  pub stays : (G : Group) (groups : List Group) (d : Nesting) (calls : List Call) (w w' : World (State groups S)) (n left : ℕ) (seen : List PlainObservation) →
      makes_calls G (stack groups (hosted h)) d calls w n ≡ Next seen left w' tt → SameItems w w'
  -- in stores with as many items a module's instance has the same places
  pub places : (s t : Store) (m : Module) (imports : List Extern) → items_of s ≡ items_of t → instance_of s m imports ≡ instance_of t m imports
