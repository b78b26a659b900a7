-- A stub's function does what its routines say, whatever memories and globals hold.
use Rattle.std.proofs.Common.{◌∙◌, sym, ap, subst, ℕ, ◌<◌, slice_get, Option, Some, None}
use Rattle.core_store.specs.Config.{spaces_of}
use Rattle.core_store.specs.State.{State as StoreState, allows}
use Rattle.adapter_compile.specs.declared.calls.HandleCalls.{HandleCalls}
use Rattle.adapter_compile.specs.Handles.{Numbers, IsOutside, AreHosted}
use Rattle.adapter_compile.specs.Does.{Home, IsHome}
use Rattle.adapter_transfer.specs.Transfer.{Stands}
use Rattle.adapter_stubs.specs.declared.stub.HostFunc.{HostFunc}
use Rattle.adapter_stubs.specs.declared.stub.Stub.{Stub}
use Rattle.adapter_stubs.specs.Bodies.{stub_body}
use Rattle.adapter_stubs.specs.Calls.{HasHost}
use Rattle.adapter_stubs.proofs.Calling.{stubs_run}
use Rattle.adapter_calls.specs.Instance.{IsQuiet}
use Rattle.adapter_calls.specs.Standing.{StubsStand}
use Rattle.adapter_calls.specs.Storing.{SameBut}

module _ (home : Home) (u : StoreState) (same : SameBut home.store u) where
  abbrev there : Home
  there = record { spaces = home.spaces; store = u; memory = home.memory }

  home_there : (calls : HandleCalls) (numbers : Numbers) → IsHome calls numbers home → IsHome calls numbers there
  home_there calls numbers is = record {
    memory = is.memory;
    within = subst (λ n. home.memory < n) (sym same.memories) is.within;
    hosted = subst (AreHosted calls numbers home.spaces) (sym same.functions) is.hosted;
  }

  stands_there : IsQuiet u → (calls : HandleCalls) (f at : ℕ) (stub : Stub) → Stands stub.flat (stub_body calls at stub) home.spaces home.store f → Stands stub.flat (stub_body calls at stub) home.spaces u f
  stands_there quiet calls f at stub is = record {
    instance = is.instance;
    function = ap (λ fs. slice_get fs f) same.functions ∙ is.function;
    own = ap (λ is'. spaces_of is' is.instance) same.instances ∙ is.own;
    enters = ap (λ d. allows d u.nesting) quiet.deepest;
  }

  host_there : (asks : ℕ → ℕ) (at : ℕ) (o : Option HostFunc) → HasHost asks home at o → HasHost asks there at o
  host_there asks at None is = is
  host_there asks at (Some h) is = subst (λ fs. IsOutside home.spaces fs at h.flat (asks h.function)) (sym same.functions) is

pub stubs_stand_law : StubsStand
stubs_stand_law calls numbers asks home f at stub is has_before has_after good stands hosted u same quiet t made wide zeros range =
    stubs_run calls numbers asks (there home u same) f at stub t made is has_before has_after (home_there home u same calls numbers good) (stands_there home u same quiet calls f at stub stands) (host_there home u same asks at stub.host hosted) wide zeros range
