-- Instances as the configurations of the definition.
use Rattle.std.specs.Prelude.{◌≡◌, ℕ, List, [], Option, Some, None, slice_get, slice_set}
use Rattle.wit_types.specs.Plain.{Plain}
use Rattle.wit_types.specs.PlainValue.{PlainValue}
use Rattle.abi_layout.specs.Handles.{renumbered}
use Rattle.abi_store.specs.Plan.{Plan}
use Rattle.host_port.specs.Hosts.{HostStep}
use Rattle.comp_worlds.specs.Acts.{Trapped, Next, Over, Act, ◌>>◌}
use Rattle.comp_worlds.specs.Groups.{Config, World}
use Rattle.comp_worlds.specs.Locals.{Local, gives_in, close}
use Rattle.comp_worlds.specs.Calls.{on, at_rest}
use Rattle.instance_state.specs.declared.instance.Instance.{Instance}
use Rattle.instance_state.specs.Shown.{config_of}
use Rattle.call_moments.specs.Stores.{BeginsToStore}

abbrev pub config_or_rest : Option Instance → Config ℕ
config_or_rest None = at_rest
config_or_rest (Some i) = config_of i

-- instances that are not made yet are at rest
abbrev pub configs_of : List Instance → ℕ → Config ℕ
configs_of instances k = config_or_rest (slice_get instances k)

abbrev pub world_of : {S : Type 0} → List Instance → S → World S
world_of instances s = record { configs = configs_of instances; below = s }

-- what is done to one instance is done to the world, and where it does not go, the run traps
pub record InstancesAct {S : Type 0} (h : HostStep S) : Type 0 where
  pub does : (instances : List Instance) (k : ℕ) (i j : Instance) (s : S) (n : ℕ) (op : Config ℕ → Option (Local ℕ (Unit {0}))) → slice_get instances k ≡ Some i → op (config_of i) ≡ Some (gives_in tt (config_of j)) →
      on k op (world_of instances s) n ≡ Next [] n (world_of (slice_set instances k j) s) tt
  pub numbers : (instances : List Instance) (k : ℕ) (i j : Instance) (s : S) (n : ℕ) (op : Config ℕ → Option (Local ℕ (List ℕ))) (a : List ℕ) → slice_get instances k ≡ Some i → op (config_of i) ≡ Some (gives_in a (config_of j)) →
      on k op (world_of instances s) n ≡ Next [] n (world_of (slice_set instances k j) s) a
  pub traps : (instances : List Instance) (k : ℕ) (i : Instance) (s : S) (n : ℕ) (op : Config ℕ → Option (Local ℕ (List ℕ))) → slice_get instances k ≡ Some i → op (config_of i) ≡ None → on k op (world_of instances s) n ≡ Over [] Trapped

-- Values begin to be stored in an instance: their handles are added and the instance is closed, and the plan is that of the value with
-- the indexes that were given.
pub record Begins {S : Type 0} (k : ℕ) (op : Config ℕ → Option (Local ℕ (List ℕ))) (ty : Plain) (v : PlainValue) (due_plan : PlainValue → Plan) (plan : Plan) (w after : World S) : Type 0 where
  pub indexes : List ℕ
  pub planned : plan ≡ due_plan (renumbered ty v indexes)
  pub closed : (f : List ℕ → Act (World S) (List ℕ)) (n : ℕ) → (on k op >> λ is. on k close >> λ _. f is) w n ≡ f indexes after n

abbrev pub StoresBegin : {S : Type 0} → HostStep S → Type 0
StoresBegin {S} h =
    (instances : List Instance) (k : ℕ) (i j : Instance) (s : S) (op : Config ℕ → Option (Local ℕ (List ℕ))) (ty : Plain) (v : PlainValue) (due_plan : PlainValue → Plan) (plan : Plan) → slice_get instances k ≡ Some i →
    BeginsToStore ty v due_plan (op (config_of i)) (config_of j) plan → Begins k op ty v due_plan plan (world_of instances s) (world_of (slice_set instances k j) s)
