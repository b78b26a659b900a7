-- Frames that stand for what awaits in the definition. Frames are given innermost first here.
use Rattle.std.specs.Prelude.{◌≡◌, ◌==◌, ℕ, List, [], ◌∷◌, ◌++◌}
use Rattle.core_store.specs.State.{State}
use Rattle.core_store.specs.declared.value.CoreValue.{CoreValue}
use Rattle.core_store.specs.Scene.{CameBack}
use Rattle.instance_state.specs.declared.calls.CoreCall.{CoreCall}
use Rattle.host_port.specs.Hosts.{HostStep}
use Rattle.comp_worlds.specs.Acts.{Act}
use Rattle.comp_worlds.specs.Groups.{Group, World}
use Rattle.comp_worlds.specs.Calls.{pick}
use Rattle.comp_worlds.specs.Hosts.{hosted}
use Rattle.comp_frames.specs.Pausing.{IsRunBy}
use Rattle.comp_frames.specs.Frames.{Awaiting}
use Rattle.call_moments.specs.declared.frame.Frame.{Frame}
use Rattle.call_moments.specs.CodeLaws.{nested, AwaitsSince}
use Rattle.call_moments.specs.Shown.{purpose_of}

-- the calls in progress in each instance, the innermost last
abbrev pub Calls : Type 0
Calls = ℕ → List CoreCall

abbrev pub with_calls : Calls → ℕ → List CoreCall → Calls
with_calls calls k cs m = pick (m == k) cs (calls m)

abbrev pub with_store : (ℕ → State) → ℕ → State → ℕ → State
with_store stores k s m = pick (m == k) s (stores m)

module _ {S : Type 0} (h : HostStep S) (G : Group) (stores : ℕ → State) where
  -- this call awaits results for the frame, since its store was this, which only grew and came back
  pub record Stands (f : Frame) (c : CoreCall) (a : Awaiting S) : Type 0 where
    pub instance : a.instance ≡ f.instance
    pub purpose : a.purpose ≡ purpose_of f.purpose
    pub now : a.now ≡ c.nesting
    -- as it began that many calls were in progress
    pub begun : ℕ
    pub since : State
    pub resumes : AwaitsSince h G (nested begun) f.instance c.machine since a.resume
    pub back : CameBack since (record (stores f.instance) { nesting = c.nesting })

  -- each frame has the innermost call of its instance that no frame inside it has
  abbrev pub AllStand : Calls → List Frame → List (Awaiting S) → Type 0
  AllStand calls [] [] = (k : ℕ) → calls k ≡ []
  AllStand calls [] (a ∷ waiting) = ⊥
  AllStand calls (f ∷ fs) [] = ⊥
  AllStand calls (f ∷ fs) (a ∷ waiting) = (rest : List CoreCall) × (c : CoreCall) × (calls f.instance ≡ rest ++ c ∷ []) × Stands f c a × AllStand (with_calls calls f.instance rest) fs waiting

  -- the innermost frame's code goes on, and the others await
  pub record Goes (calls : Calls) (f : Frame) (fs : List Frame) (code : Act (World S) (List CoreValue)) (waiting : List (Awaiting S)) : Type 0 where
    pub rest : List CoreCall
    pub call : CoreCall
    pub begun : ℕ
    pub last : calls f.instance ≡ rest ++ call ∷ []
    pub runs : IsRunBy G (hosted h) (nested begun) f.instance call.machine (stores f.instance) code
    pub others : AllStand (with_calls calls f.instance rest) fs waiting
