-- What the drop of a handle does.
use Rattle.std.specs.Prelude.{◌≡◌, ◌==◌, ℕ, List, [], ◌∷◌, ◌++◌, Option, Some, None, Bool, true, false}
use Rattle.host_port.specs.declared.call.Resource.{Resource}
use Rattle.host_port.specs.Hosts.{HostStep, Kept, drops}
use Rattle.call_moments.specs.declared.frame.Frame.{Frame}
use Rattle.call_moments.specs.declared.frame.Purpose.TheVariants.{Destroys}
use Rattle.call_moments.specs.declared.frame.Visit.{Visit}
use Rattle.call_moments.specs.declared.frame.Visit.TheVariants.{Own, Other}

-- the host lost a handle of a resource that it has
abbrev pub IsDropped : {S : Type 0} → HostStep S → Kept S → Option Resource → ℕ → Kept S → Type 0
IsDropped step old None rep new = ⊥
IsDropped step old (Some resource) rep new = new ≡ drops step old resource rep

-- another instance is entered for its destructor
abbrev pub visit_by : Bool → Visit
visit_by true = Own
visit_by false = Other

-- the destructor of an instance runs, where a handle is dropped by the instance of the number
abbrev pub destroying : Option ℕ → ℕ → ℕ → List Frame → List Frame
destroying None number owner frames = frames
destroying (Some f) number owner frames = frames ++ record { instance = owner; purpose = Destroys (visit_by (owner == number)) } ∷ []
