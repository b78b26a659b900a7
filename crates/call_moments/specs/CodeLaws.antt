-- Core code of an instance as the definition's acts. `d` is how many calls were in progress as the outermost began.
use Rattle.std.specs.Prelude.{◌≡◌, ℕ, List, [], ◌∷◌, ◌++◌, true, length, Some, Ok}
use Rattle.core_store.specs.State.{State}
use Rattle.core_store.specs.declared.value.CoreValue.{CoreValue}
use Rattle.core_store.specs.Config.{Reply}
use Rattle.core_store.specs.Scene.{CameBack}
use Rattle.core_interp.specs.declared.machine.Machine.{Machine}
use Rattle.core_interp.specs.declared.machine.Pause.{Pause}
use Rattle.core_interp.specs.Session.{IsAnswer, awaited, resumed}
use Rattle.instance_state.specs.declared.calls.CoreCall.{CoreCall}
use Rattle.instance_state.specs.Ready.{Runs}
use Rattle.instance_state.specs.Done.{Begun, Goes, Resumes, stays_by, goes_by, left_if}
use Rattle.host_port.specs.Hosts.{HostStep}
use Rattle.comp_worlds.specs.Acts.{Act, ◌>>◌}
use Rattle.comp_worlds.specs.Groups.{Nesting, Nested, store_at, Group, World}
use Rattle.comp_worlds.specs.Calls.{store_of}
use Rattle.comp_worlds.specs.Hosts.{hosted}
use Rattle.comp_frames.specs.Running.{running}
use Rattle.comp_frames.specs.Pausing.{IsRunBy, LeadsTo}

-- of at most 65,536 calls that many are in progress
abbrev pub nested : ℕ → Nesting
nested calls = Nested 65536 calls

module _ {S : Type 0} (h : HostStep S) (G : Group) where
  abbrev pub Code : Type 0
  Code = Act (World S) (List CoreValue)

  -- A machine runs a call that began after the others, and it does this in every world where the instance has that store.
  pub record HasBegun (k f : ℕ) (args : List CoreValue) (calls : ℕ) (old new : Runs) : Type 0 where
    pub machine : Machine
    pub last : new.calls ≡ old.calls ++ record { machine = machine; nesting = calls } ∷ []
    pub code : Code
    pub runs : IsRunBy G (hosted h) (nested calls) k machine new.store code
    pub is : (w : World S) (n : ℕ) → (w.configs k).store ≡ old.store → running G (hosted h) (nested calls) k f args w n ≡ code w n

  abbrev pub CodeBegins : Type 0
  CodeBegins = (k f : ℕ) (args : List CoreValue) (calls : ℕ) (old new : Runs) → old.store.deepest ≡ Some 65536 → Begun old f args calls new → HasBegun k f args calls old new

  -- The innermost call went to a pause, and so does the code that it runs.
  pub record HasPaused (d : Nesting) (k : ℕ) (code : Code) (outer : List CoreCall) (before : ℕ) (pause : Pause) (new : Runs) (after : ℕ) : Type 0 where
    pub machine : Machine
    pub last : new.calls ≡ left_if (stays_by pause) outer machine new.store.nesting
    pub going : new.going ≡ goes_by pause
    pub leads : LeadsTo G (hosted h) d k code before after pause machine new.store

  abbrev pub CodeGoes : Type 0
  CodeGoes =
      (d : Nesting) (k : ℕ) (code : Code) (outer : List CoreCall) (call : CoreCall) (old new : Runs) (before after : ℕ) (pause : Pause) → old.calls ≡ outer ++ call ∷ [] → old.going ≡ true → IsRunBy G (hosted h) d k call.machine old.store code →
      Goes old before pause new after → HasPaused d k code outer before pause new after

  -- what code awaits results since this store, which goes on so with each reply
  abbrev pub AwaitsSince : Nesting → ℕ → Machine → State → (Reply → Code) → Type 0
  AwaitsSince d k m since resume = (r : Reply) → IsAnswer (awaited m) since r → IsRunBy G (hosted h) d k (resumed m r.results) r.store (resume r)

  -- It got them, and goes on as the definition does from there.
  pub record HasResults (d k : ℕ) (outer : List CoreCall) (inner : CoreCall) (old : Runs) (results : List CoreValue) (resume : Reply → Code) (new : Runs) : Type 0 where
    pub last : new.calls ≡ outer ++ record { machine = resumed inner.machine results; nesting = inner.nesting } ∷ []
    pub going : new.going ≡ true
    pub runs : IsRunBy G (hosted h) (nested d) k (resumed inner.machine results) new.store (resume (record { results = results; store = new.store }))
    pub is : (w : World S) (n : ℕ) → (w.configs k).store ≡ old.store →
        (store_of k >> λ store. resume (record { results = results; store = record (store_at (nested d) store) { nesting = inner.nesting } })) w n ≡ resume (record { results = results; store = new.store }) w n

  abbrev pub CodeGetsResults : Type 0
  CodeGetsResults =
      (d k : ℕ) (outer : List CoreCall) (inner : CoreCall) (since : State) (old new : Runs) (results : List CoreValue) (resume : Reply → Code) → old.store.deepest ≡ Some 65536 → old.calls ≡ outer ++ inner ∷ [] →
      AwaitsSince (nested d) k inner.machine since resume → length results ≡ awaited inner.machine → CameBack since (record old.store { nesting = inner.nesting }) → Resumes old results new (Ok tt) →
      HasResults d k outer inner old results resume new
