-- Results that come back to the innermost code that awaits some.
use Rattle.std.specs.Prelude.{◌≡◌, ℕ, List, [], ◌∷◌, ◌++◌, length, Some, Ok}
use Rattle.core_store.specs.State.{State}
use Rattle.core_store.specs.declared.value.CoreValue.{CoreValue}
use Rattle.core_interp.specs.Session.{awaited}
use Rattle.instance_state.specs.declared.calls.CoreCall.{CoreCall}
use Rattle.instance_state.specs.Ready.{Runs}
use Rattle.instance_state.specs.Done.{Resumes}
use Rattle.host_port.specs.Hosts.{HostStep}
use Rattle.comp_worlds.specs.Acts.{Act, ◌>>◌}
use Rattle.comp_worlds.specs.Groups.{Group, World}
use Rattle.comp_worlds.specs.Hosts.{hosted}
use Rattle.comp_frames.specs.Frames.{Awaiting, resumes, ends_in}
use Rattle.call_moments.specs.declared.frame.Frame.{Frame}
use Rattle.call_moments.specs.CodeLaws.{nested, HasBegun}
use Rattle.call_moments.specs.Shown.{purpose_of}
use Rattle.call_moments.specs.Standing.{Calls, with_calls, with_store, AllStand, Goes}

module _ {S : Type 0} (h : HostStep S) (G : Group) where
  -- the code that goes on, and that what was left there is this code and what is left after it
  pub record GoOn (d : ℕ) (stores : ℕ → State) (calls : Calls) (f : Frame) (fs : List Frame) (a : Awaiting S) (waiting : List (Awaiting S)) (old : State) (results : List CoreValue) : Type 0 where
    pub code : Act (World S) (List CoreValue)
    pub goes : Goes h G stores calls f fs code waiting
    pub is : (w : World S) (n : ℕ) → (w.configs f.instance).store ≡ old → resumes G (hosted h) (nested d) (a ∷ waiting) results w n ≡ (code >> ends_in G (hosted h) (nested d) waiting f.instance (purpose_of f.purpose)) w n

  abbrev pub ResultsComeBack : Type 0
  ResultsComeBack =
      (d : ℕ) (stores : ℕ → State) (calls : Calls) (f : Frame) (fs : List Frame) (a : Awaiting S) (waiting : List (Awaiting S)) (old new : Runs) (results : List CoreValue) → old.store ≡ stores f.instance → old.calls ≡ calls f.instance →
      old.store.deepest ≡ Some 65536 → AllStand h G stores calls (f ∷ fs) (a ∷ waiting) → ((rest : List CoreCall) (c : CoreCall) → calls f.instance ≡ rest ++ c ∷ [] → length results ≡ awaited c.machine) → Resumes old results new (Ok tt) →
      GoOn d (with_store stores f.instance new.store) (with_calls calls f.instance new.calls) f fs a waiting old.store results

  -- Code that an instance begins, while all others await, is the innermost that goes on, and they stand as before.
  abbrev pub CodeBeginsInside : Type 0
  CodeBeginsInside =
      (stores : ℕ → State) (calls : Calls) (frame : Frame) (fs : List Frame) (waiting : List (Awaiting S)) (f : ℕ) (args : List CoreValue) (nesting : ℕ) (old new : Runs) → old.store ≡ stores frame.instance → old.calls ≡ calls frame.instance →
      AllStand h G stores calls fs waiting → (begun : HasBegun h G frame.instance f args nesting old new) → new.store ≡ record old.store { nesting = nesting } →
      Goes h G (with_store stores frame.instance new.store) (with_calls calls frame.instance new.calls) frame fs begun.code waiting
