-- The arguments of a call of an adapter's function: each of their handles is lent, of a resource of the adapter's own (Component Model,
-- CanonicalABI.md, `lower_borrow`).
use Rattle.std.specs.Prelude.{◌≡◌, ℕ, List, [], ◌∷◌}
use Rattle.wit_types.specs.Plain.{PlainFunc}
use Rattle.abi_layout.specs.Storing.{Lowered}
use Rattle.abi_layout.specs.Handles.{handles, renumbered}
use Rattle.adapter_code.specs.Run.{own_resource}
use Rattle.adapter_compile.specs.Handles.{Numbers}
use Rattle.comp_types.specs.Substitution.{func_with}
use Rattle.host_port.specs.Hosts.{HostStep}
use Rattle.comp_worlds.specs.Groups.{Endless, Config, Group, Options, World}
use Rattle.comp_worlds.specs.Passing.{Kind, IsOwn, IsBorrow, kinds_in, Passed, params_tuple, lower_params}
use Rattle.comp_worlds.specs.Calls.{lowers_params, lowers_closed}
use Rattle.comp_worlds.specs.Hosts.{hosted}
use Rattle.comp_frames.specs.Running.{running}
use Rattle.adapter_calls.specs.Handling.{IsKind, KnowsKinds}
use Rattle.adapter_calls.specs.Instance.{standing}

-- a function's type by the group's numbers: its handles are of the adapter's own resources
abbrev pub type_in : (ℕ → ℕ) → PlainFunc → PlainFunc
type_in to ty = func_with to (func_with own_resource ty)

-- a handle is lent for each of these numbers
abbrev pub AreLent : List Kind → List ℕ → Type 0
AreLent [] [] = Unit {0}
AreLent [] (x ∷ xs) = ⊥
AreLent (IsBorrow kind ∷ ks) (x ∷ xs) = IsKind kind × AreLent ks xs
AreLent (IsBorrow kind ∷ ks) [] = ⊥
AreLent (IsOwn kind ∷ ks) xs = ⊥

abbrev pub HandlesAreLent : PlainFunc → Passed ℕ → Type 0
HandlesAreLent ty passed = AreLent (kinds_in (handles (params_tuple ty) passed.value)) passed.reps

-- the arguments with what their handles stand for in the places of these
abbrev pub lowered_of : PlainFunc → Passed ℕ → Lowered
lowered_of ty passed = lower_params (params_tuple ty) (renumbered (params_tuple ty) passed.value passed.reps)

-- A lent handle becomes what it stands for: no entry is added, and the arguments are lowered with these numbers.
abbrev pub LentAreNumbers : {S : Type 0} → HostStep S → Type 0
LentAreNumbers {S} h =
    (G : Group) (instance : ℕ) (numbers : Numbers) (to : ℕ → ℕ) → KnowsKinds G instance numbers to → (options : Options) (ty : PlainFunc) (passed : Passed ℕ) → HandlesAreLent ty passed → (w : World S) (c : Config ℕ) (s : S) (n : ℕ) →
    lowers_params G (hosted h) (running G (hosted h)) Endless instance options (params_tuple (type_in to ty)) passed (standing w instance c s) n
    ≡ lowers_closed G (hosted h) (running G (hosted h)) Endless instance options 0 (lowered_of ty passed) (standing w instance c s) n
