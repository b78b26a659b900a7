-- What holds of core code without a bound on how deep questions are nested.
use Rattle.std.specs.Prelude.{◌≡◌, ℕ, ◌<◌, List, [], ◌∷◌, ◌++◌, Option}
use Rattle.core_store.specs.State.{State}
use Rattle.core_store.specs.declared.value.CoreValue.{CoreValue}
use Rattle.core_store.specs.Config.{Reply}
use Rattle.core_store.specs.Eval.{eval}
use Rattle.wit_types.specs.Plain.{Plain}
use Rattle.abi_layout.specs.Storing.{Step, Lowered}
use Rattle.core_interp.specs.Session.{granted}
use Rattle.host_port.specs.Hosts.{HostStep}
use Rattle.comp_worlds.specs.Acts.{Act, ◌>>◌, with_more}
use Rattle.comp_worlds.specs.Passing.{Passed}
use Rattle.comp_worlds.specs.Groups.{Nesting, store_at, Options, Target, Func, Owner, Stage, Group, Due, Origin, Outside, Ports}
use Rattle.comp_worlds.specs.Calls.{core, store_of, stores, lowers_closed, lowers_params, lowers_result, post_returns, answers, leaves, calls, destructs, drops, performs, goes_on, runs, answers_if, group, does_all, is_made}
use Rattle.comp_worlds.specs.Hosts.{hosted}
use Rattle.comp_worlds.specs.Observed.{first_state, Call, without_handles, asks_export, leaves_export, makes_calls, runs_calls}
use Rattle.comp_frames.specs.Running.{Rest, IsRest, comes_to, running, driving, going, meeting, serves}

-- acts that do the same in less than b steps
abbrev pub SameBelow : {W A : Type 0} → ℕ → Act W A → Act W A → Type 0
SameBelow {W} b x y = (w : W) (n : ℕ) → n < b → x w n ≡ y w n

-- Whatever is done with fuel, in fewer steps than that, is done without.
pub record NeedsNoFuel {S : Type 0} (G : Group) (p : Ports S) : Type 0 where
  pub core_code : (b : ℕ) (d : Nesting) (k f : ℕ) (args : List CoreValue) → SameBelow b (runs G p b d k f args) (running G p d k f args)
  pub storing : (b : ℕ) (d : Nesting) (k : ℕ) (options : Options) (target : ℕ) (made : List ℕ) (steps : List Step) → SameBelow b (stores G p (runs G p b) d k options target made steps) (stores G p (running G p) d k options target made steps)
  pub lowering : (b : ℕ) (d : Nesting) (k : ℕ) (options : Options) (target : ℕ) (l : Lowered) → SameBelow b (lowers_closed G p (runs G p b) d k options target l) (lowers_closed G p (running G p) d k options target l)
  pub params : (b : ℕ) (d : Nesting) (k : ℕ) (options : Options) (ty : Plain) (passed : Passed ℕ) → SameBelow b (lowers_params G p (runs G p b) d k options ty passed) (lowers_params G p (running G p) d k options ty passed)
  pub result : (b : ℕ) (d : Nesting) (k : ℕ) (options : Options) (ty : Plain) (at : ℕ) (passed : Passed ℕ) → SameBelow b (lowers_result G p (runs G p b) d k options ty at passed) (lowers_result G p (running G p) d k options ty at passed)
  pub post : (b : ℕ) (d : Nesting) (k : ℕ) (results : List CoreValue) (f : Option ℕ) → SameBelow b (post_returns G p (runs G p b) d k results f) (post_returns G p (running G p) d k results f)
  pub answering : (b : ℕ) (d : Nesting) (from : Origin) (target : Target) (passed : Passed ℕ) → SameBelow b (answers G p (runs G p b) d from target passed) (answers G p (running G p) d from target passed)
  pub leaving : (b : ℕ) (d : Nesting) (due : Due) → SameBelow b (leaves G p (runs G p b) d due) (leaves G p (running G p) d due)
  pub calling : (b : ℕ) (d : Nesting) (k : ℕ) (target : Target) (options : Options) (args : List ℕ) → SameBelow b (calls G p (runs G p b) d k target options args) (calls G p (running G p) d k target options args)
  pub destroying : (b : ℕ) (d : Nesting) (k x : ℕ) (f : Option ℕ) → SameBelow b (destructs G p (runs G p b) d k x f) (destructs G p (running G p) d k x f)
  pub dropping : (b : ℕ) (d : Nesting) (r x : ℕ) (o : Option Owner) → SameBelow b (drops G p (runs G p b) d r x o) (drops G p (running G p) d r x o)
  pub performing : (b : ℕ) (d : Nesting) (k : ℕ) (args : List ℕ) (f : Option Func) → SameBelow b (performs G p (runs G p b) d k args f) (performs G p (running G p) d k args f)
  pub making : (b : ℕ) (d : Nesting) (stages : List Stage) → SameBelow b (does_all G p (runs G p b) d stages) (does_all G p (running G p) d stages)

-- What a group does for what is above it needs no fuel.
pub record MeetsWithoutFuel {S : Type 0} (G : Group) (p : Ports S) : Type 0 where
  pub ports : group G p ≡ meeting G p
  pub making : (d : Nesting) → is_made G p d ≡ does_all G p (running G p) d G.stages
  pub asking : (d : Nesting) (call : Call) → asks_export G p d call ≡ answers_if G p (running G p) d Outside (G.exports call.interface call.function) (without_handles call)
  pub leaving : (d : Nesting) (due : Due) → leaves_export G p d due ≡ leaves G p (running G p) d due
  pub serving : (d : Nesting) (list : List Call) → makes_calls G p d list ≡ serves G p d list

-- What is observed of a group over a host: it is made, and then serves the calls.
abbrev pub RunsServe : {S : Type 0} → HostStep S → Type 0
RunsServe {S} h =
    (d : Nesting) (G : Group) (s : S) (list : List Call) (n : ℕ) →
    runs_calls d G [] h s list n ≡ (does_all G (hosted h) (running G (hosted h)) d G.stages >> λ _. serves G (hosted h) d list) (first_state (G ∷ []) s) n

-- Core code runs from its beginning to its end or its next question, has that answered, and begins again with one reply more.
pub record Unfolds {S : Type 0} (G : Group) (p : Ports S) : Type 0 where
  pub running_is : (d : Nesting) (k f : ℕ) (args : List CoreValue) → running G p d k f args ≡ (store_of k >> λ store. driving G p d k f args (store_at d store) [])
  pub driving_is : (d : Nesting) (k f : ℕ) (args : List CoreValue) (store : State) (replies : List Reply) →
      driving G p d k f args store replies ≡ (core k store f args replies >> goes_on G p (running G p) (λ reply. driving G p d k f args store (replies ++ reply ∷ [])) d k)

-- What core code does from where it stands depends on the rest of it alone.
pub record GoesByItsRest {S : Type 0} (G : Group) (p : Ports S) : Type 0 where
  pub begun : (d : Nesting) (k f : ℕ) (args : List CoreValue) (store : State) (used : List Reply) →
      driving G p d k f args store used ≡ going G p d k (λ replies n. eval store f args (used ++ replies) n)
  pub unfolds : (d : Nesting) (k : ℕ) (X : Rest) → IsRest X →
      going G p d k X ≡ (comes_to k X >> goes_on G p (running G p) (λ reply. going G p d k (λ replies. X (reply ∷ replies))) d k)
  -- the steps that were taken count once
  pub taken : (d : Nesting) (k : ℕ) (X : Rest) (steps : ℕ) → IsRest X → IsRest (granted X steps) → with_more steps (going G p d k X) ≡ going G p d k (granted X steps)
  pub alike : (d : Nesting) (k : ℕ) (X Y : Rest) → ((replies : List Reply) (n : ℕ) → X replies n ≡ Y replies n) → going G p d k X ≡ going G p d k Y
