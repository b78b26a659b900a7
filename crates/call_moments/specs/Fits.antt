-- What the canonical functions of a group of code name is there, in the group of the definition and in the stores of the instances. It
-- depends on nothing that core code or a canonical call changes: stores are their scenes.
use Rattle.std.specs.Prelude.{◌≡◌, ◌<◌, ℕ, List, [], ◌∷◌, length, map, Option, Some, None, true, nat_eq, slice_get, IsSomeAnd}
use Rattle.virt_base.specs.declared.core_type.CoreType.{CoreType}
use Rattle.virt_base.specs.declared.core_type.CoreType.TheVariants.{I32}
use Rattle.wasm_ast.specs.declared.module.CoreFunc.{CoreFunc}
use Rattle.core_store.specs.declared.value.StoreFunc.TheVariants.{Outside}
use Rattle.core_store.specs.Scene.{Scene, scene_of, results_at}
use Rattle.core_interp.specs.Session.{IsCallable}
use Rattle.wit_types.specs.Plain.{PlainFunc}
use Rattle.abi_layout.specs.Functions.{FlatFunc, lifted, lowered, core_params}
use Rattle.indexmap.specs.IndexMap.{get}
use Rattle.host_port.specs.declared.call.Resource.{Resource}
use Rattle.comp_worlds.specs.Passing.{Passed, params_tuple, answer_tuple, handles_of, most_params, most_results}
use Rattle.comp_worlds.specs.Groups.{Options, Lifting, Target, Mine, Theirs, type_of, Func, LoweredFunc, ResourceNew, ResourceDrop, ResourceRep, Owner, Config, Group}
use Rattle.comp_worlds.specs.Locals.{adds_handles}
use Rattle.comp_worlds.specs.Calls.{owned_by, owns, borrowed, plainly}
use Rattle.instance_state.specs.declared.owners.Owners.{Owners}
use Rattle.instance_state.specs.Owning.{owner_in, plain_for}
use Rattle.instance_state.specs.Passed.{needs_memory}
use Rattle.instance_state.specs.declared.instance.Instance.{Instance}
use Rattle.call_moments.specs.declared.group.Group.{Group as CodeGroup}
use Rattle.call_moments.specs.Grouped.{canon_in}

-- the stores of instances, but for what core code changes
abbrev pub scenes_of : List Instance → List Scene
scenes_of instances = map (λ (i : Instance). scene_of i.code.store) instances

-- the core function by which core code calls a canonical function
abbrev pub core_type_of : Func → FlatFunc
core_type_of (LoweredFunc target options) = lowered (type_of target)
core_type_of (ResourceNew r) = record { params = I32 ∷ []; results = I32 ∷ [] }
core_type_of (ResourceRep r) = record { params = I32 ∷ []; results = I32 ∷ [] }
core_type_of (ResourceDrop r) = record { params = I32 ∷ []; results = [] }

-- the types of what a function answers
abbrev pub answers_in : ℕ → Option Scene → List CoreType
answers_in f None = []
answers_in f (Some w) = results_at w f

module _ (scenes : List Scene) where
  -- in the store of the instance k is a function that takes that many values
  abbrev pub Takes : (k f count : ℕ) → Type 0
  Takes k f count = IsSomeAnd (slice_get scenes k) (λ w. IsCallable (slice_get w.functions f) count)

  -- what it answers
  abbrev pub answers_of : (k f : ℕ) → List CoreType
  answers_of k f = answers_in f (slice_get scenes k)

  -- the memory that options name is in that store
  abbrev pub HasMemory : ℕ → Options → Type 0
  HasMemory k o = IsSomeAnd o.memory (λ at. IsSomeAnd (slice_get scenes k) (λ w. at < w.memories))

  -- options for a function of this type: `realloc` takes four numbers and answers one, and values that need a memory find it
  pub record OptionsFit (k : ℕ) (o : Options) (ty : PlainFunc) : Type 0 where
    pub realloc : (f : ℕ) → o.realloc ≡ Some f → Takes k f 4 × (answers_of k f ≡ I32 ∷ [])
    pub params : needs_memory most_params (params_tuple ty) ≡ true → HasMemory k o
    pub result : needs_memory most_results (answer_tuple ty) ≡ true → HasMemory k o

  pub record LiftingFits (k : ℕ) (l : Lifting) : Type 0 where
    pub code : Takes k l.code (length (core_params l.ty))
    -- what it answers is lifted, or where that lies
    pub results : answers_of k l.code ≡ (lifted l.ty).results
    pub options : OptionsFit k l.options l.ty
    -- a post-return takes what its function answers
    pub post : (f : ℕ) → l.post ≡ Some f → Takes k f (length (answers_of k l.code))

  module _ (G : Group) (owners : Owners) where
    -- parameters of this type are lowered into the instance as the group says, by the owners that are known
    abbrev pub PassesAlike : ℕ → PlainFunc → Type 0
    PassesAlike k ty = (passed : Passed ℕ) (c : Config ℕ) →
        adds_handles (plain_for owners (Some k)) (handles_of (params_tuple ty) passed) c ≡ adds_handles (borrowed G plainly k) (handles_of (params_tuple ty) passed) c

    abbrev pub TargetFits : Target → Type 0
    TargetFits (Mine k lifting) = LiftingFits k lifting × PassesAlike k lifting.ty
    TargetFits (Theirs import) = Unit {0}

    -- with the names of the host's resources
    module _ (named : ℕ → Option Resource) where
      -- a resource of the host has its name, and the destructor of another one takes what a handle stands for
      abbrev pub OwnerFits : ℕ → Option Owner → Type 0
      OwnerFits r None = named r ≡ Some (G.imported r)
      OwnerFits r (Some o) = (o.instance < length scenes) × ((f : ℕ) → o.destructor ≡ Some f → Takes o.instance f 1)

      abbrev pub FuncFits : ℕ → Func → Type 0
      FuncFits k (LoweredFunc target options) = TargetFits target × OptionsFit k options (type_of target)
      FuncFits k (ResourceNew r) = owned_by (owner_in owners r) k ≡ owns G k r
      FuncFits k (ResourceRep r) = owned_by (owner_in owners r) k ≡ owns G k r
      FuncFits k (ResourceDrop r) = (owner_in owners r ≡ G.owner r) × OwnerFits r (G.owner r)

-- a host function of the store of the instance k is a canonical function, of the type that this has for core code
pub record IsProvided (canons : ℕ → ℕ → Option Func) (k number : ℕ) (ty : CoreFunc) : Type 0 where
  pub func : Func
  pub is : canons k number ≡ Some func
  pub params : ty.params ≡ (core_type_of func).params
  pub results : ty.results ≡ (core_type_of func).results

-- The group may have more than the code knows: core code asks for what its store has alone.
pub record Fits (G : Group) (group : CodeGroup) (scenes : List Scene) : Type 0 where
  pub canons : (k number : ℕ) (f : Func) → canon_in group.canons.items k number ≡ Some f → (G.canons k number ≡ Some f) × FuncFits scenes G group.owners (λ r. get nat_eq group.imported r) k f
  pub provided : (k place number : ℕ) (w : Scene) (ty : CoreFunc) → slice_get scenes k ≡ Some w → slice_get w.functions place ≡ Some (Outside ty number) → IsProvided (canon_in group.canons.items) k number ty
  pub deepest : (k : ℕ) (w : Scene) → slice_get scenes k ≡ Some w → w.deepest ≡ Some 65536
