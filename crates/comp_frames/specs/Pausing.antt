-- Core code of a group, where a machine runs it: what its pauses lead to.
use Rattle.std.specs.Prelude.{◌≡◌, ℕ, List, []}
use Rattle.core_store.specs.State.{State}
use Rattle.core_store.specs.declared.value.CoreValue.{CoreValue}
use Rattle.core_store.specs.Words.{words}
use Rattle.core_store.specs.Config.{Reply}
use Rattle.core_interp.specs.declared.machine.Machine.{Machine}
use Rattle.core_interp.specs.declared.machine.Pause.{Pause}
use Rattle.core_interp.specs.declared.machine.Pause.TheVariants as pauses
use Rattle.core_interp.specs.Session.{goes_on, IsAnswer, awaited, resumed, Follows, Pauses}
use Rattle.comp_worlds.specs.Acts.{Trapped, TooDeep, Next, Over, Spent, Act, ◌>>◌, with_more}
use Rattle.comp_worlds.specs.Groups.{Nesting, deeper, at_depth, store_at, Group, World, Ports}
use Rattle.comp_worlds.specs.Calls.{store_of, begins_call, performs}
use Rattle.comp_frames.specs.Running.{IsRest, stored, running, driving, going}

module _ {S : Type 0} (G : Group) (p : Ports S) (d : Nesting) (k : ℕ) where
  -- This act is what is left of core code of the instance k that the machine runs: of a call that began in `first`, these replies
  -- were used and that many steps taken.
  pub record IsRunBy (m : Machine) (s : State) (act : Act (World S) (List CoreValue)) : Type 0 where
    pub first : State
    pub function : ℕ
    pub args : List CoreValue
    pub used : List Reply
    pub taken : ℕ
    pub follows : Follows first function args used taken m s
    pub is : act ≡ with_more taken (driving G p d k function args first used)

  -- a question is answered by a canonical call, where that many calls are in progress, and then
  abbrev pub asks : (number : ℕ) (args : List CoreValue) (now : ℕ) → (Reply → Act (World S) (List CoreValue)) → Act (World S) (List CoreValue)
  asks number args now resume =
      begins_call (at_depth d now) >> λ _.
      performs G p (running G p) (deeper (at_depth d now)) k (words args) (G.canons k number) >> λ results.
      store_of k >> λ store.
      resume (record { results = results; store = record (store_at d store) { nesting = now } })

  -- what the act does in b steps, where the machine pauses so, with these steps left
  abbrev pub LeadsTo : (act : Act (World S) (List CoreValue)) (b left : ℕ) → Pause → Machine → State → Type 0
  LeadsTo act b left (pauses.Done values) m s = (w : World S) → act w b ≡ Next [] left (stored w k s) values
  LeadsTo act b left pauses.Trapped m s = (w : World S) → act w b ≡ Over [] Trapped
  LeadsTo act b left (pauses.AtHost number args) m s =
      (resume : Reply → Act (World S) (List CoreValue))
      × ((w : World S) → act w b ≡ asks number args s.nesting resume (stored w k s) left)
      × ((r : Reply) → IsAnswer (awaited m) s r → IsRunBy (resumed m r.results) r.store (resume r))
  LeadsTo act b left pauses.Spent m s = ((w : World S) → act w b ≡ Spent []) × IsRunBy m s (with_more b act)
  LeadsTo act b left pauses.TooDeep m s = (w : World S) → act w b ≡ Over [] TooDeep

-- Where a machine runs core code, each of its pauses says how that goes on.
pub record PausesLead {S : Type 0} (G : Group) (p : Ports S) : Type 0 where
  pub starts : (d : Nesting) (k f : ℕ) (args : List CoreValue) (store : State) (m : Machine) → Follows store f args [] 0 m store → IsRunBy G p d k m store (driving G p d k f args store [])
  pub leads : (d : Nesting) (k : ℕ) (m : Machine) (s : State) (act : Act (World S) (List CoreValue)) (b : ℕ) (pause : Pause) (m' : Machine) (s' : State) (left : ℕ) →
      IsRunBy G p d k m s act → Pauses m s b pause m' s' left → LeadsTo G p d k act b left pause m' s'
  -- the store that stands in the world meanwhile is not looked at
  pub aside : (d : Nesting) (k : ℕ) (m : Machine) (s : State) (act : Act (World S) (List CoreValue)) → IsRunBy G p d k m s act → (store : State) (w : World S) (n : ℕ) → act (stored w k store) n ≡ act w n
  -- what is left depends on the machine and the store alone
  pub by_rest : (d : Nesting) (k : ℕ) (m : Machine) (s : State) (act : Act (World S) (List CoreValue)) → IsRunBy G p d k m s act → act ≡ going G p d k (goes_on m s)

-- The rest of a machine's run leaves no more steps than it gets.
abbrev pub MachinesRest : Type 0
MachinesRest = (m : Machine) (s : State) → IsRest (goes_on m s)
