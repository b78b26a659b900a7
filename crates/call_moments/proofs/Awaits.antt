-- What awaits results does so in stores that have the same items.
use Rattle.std.proofs.Common.{◌≡◌, ℕ, List, [], ◌∷◌, sym, subst}
use Rattle.core_store.specs.State.{State}
use Rattle.core_store.specs.Scene.{Scene, scene_of, Grows, CameBack}
use Rattle.instance_state.specs.declared.calls.CoreCall.{CoreCall}
use Rattle.host_port.specs.Hosts.{HostStep}
use Rattle.comp_worlds.specs.Groups.{Group}
use Rattle.comp_frames.specs.Frames.{Awaiting}
use Rattle.call_moments.specs.declared.frame.Frame.{Frame}
use Rattle.call_moments.specs.Standing.{Calls, with_calls, Stands, AllStand}

module _ {S : Type 0} (h : HostStep S) (G : Group) (stores stores' : ℕ → State) (same : (k : ℕ) → scene_of (stores' k) ≡ scene_of (stores k)) where
  back_on : (k n : ℕ) (since : State) → CameBack since (record (stores k) { nesting = n }) → CameBack since (record (stores' k) { nesting = n })
  back_on k n since b = record { grew = subst (λ (w : Scene). Grows (scene_of since) w) (sym (same k)) b.grew; nesting = b.nesting }

  stands_on : (f : Frame) (c : CoreCall) (a : Awaiting S) → Stands h G stores f c a → Stands h G stores' f c a
  stands_on f c a s = record {
    instance = s.instance;
    purpose = s.purpose;
    now = s.now;
    begun = s.begun;
    since = s.since;
    resumes = s.resumes;
    back = back_on f.instance c.nesting s.since s.back;
  }

  pub all_stand_on : (calls : Calls) (fs : List Frame) (waiting : List (Awaiting S)) → AllStand h G stores calls fs waiting → AllStand h G stores' calls fs waiting
  all_stand_on calls [] [] s = s
  all_stand_on calls [] (a ∷ waiting) s = s
  all_stand_on calls (f ∷ fs) [] s = s
  all_stand_on calls (f ∷ fs) (a ∷ waiting) s = (s.0, s.1, s.2, stands_on f s.1 a s.3, all_stand_on (with_calls calls f.instance s.0) fs waiting s.4)
