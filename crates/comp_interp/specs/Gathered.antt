-- For what an assembly stands in the definition between two items of the innermost plan: what the plan has made there so far, and the
-- group and the stores that go with it.
use Rattle.std.specs.Prelude.{◌≡◌, ◌+◌, nat_eq, ℕ, List, [], ◌∷◌, ◌++◌, length, Option, Some, None, Result, Ok, Err, Vec, slice_get}
use Rattle.std.specs.Option.{option_map}
use Rattle.std.specs.Global.{Global}
use Rattle.indexmap.specs.IndexMap.{get}
use Rattle.wasm_ast.specs.declared.module.Module.{Module}
use Rattle.wasm_ast.specs.declared.component.CoreArg.{CoreArg}
use Rattle.core_store.specs.Scene.{Scene, scene_of}
use Rattle.core_instance.specs.Instantiation.{instantiated, instance_of}
use Rattle.comp_types.specs.Items.{Entries}
use Rattle.comp_types.specs.GivenResources.{numbered}
use Rattle.host_port.specs.Hosts.{HostStep, Kept}
use Rattle.comp_worlds.specs.Acts.{Next, Act}
use Rattle.comp_worlds.specs.Groups.{Stage, Begins as BeginsStage, Makes as MakesStage, Group, World}
use Rattle.comp_worlds.specs.Calls.{does_all, starts}
use Rattle.comp_worlds.specs.Hosts.{hosted}
use Rattle.comp_frames.specs.Running.{running}
use Rattle.comp_link.specs.Plans.{NamedArg}
use Rattle.comp_link.specs.Linking.{Givens, Whole, Making, begun, and_stage, givens_of, externs_for, with_module, with_component, canon_in, owner_in, all_outside, all_known, behind_known}
use Rattle.comp_link.specs.declared.linked.Linked.{Linked}
use Rattle.comp_joins.specs.Fits.{ModuleFits}
use Rattle.instance_state.specs.Owning.{owner_in as owner_known}
use Rattle.instance_state.specs.declared.canon.Canon.{Canon}
use Rattle.instance_state.specs.declared.instance.Instance.{Instance}
use Rattle.call_moments.specs.declared.end.Stop.{Stop}
use Rattle.call_moments.specs.declared.end.Stop.TheVariants as stops
use Rattle.call_moments.specs.Grouped.{canon_in as canon_known}
use Rattle.call_moments.specs.CodeLaws.{nested}
use Rattle.call_moments.specs.Configs.{world_of}
use Rattle.call_moments.specs.Held.{AllLend}
use Rattle.call_moments.specs.Fits.{scenes_of, Takes}
use Rattle.call_moments.specs.Leads.{Moment, calls_of, maps_of, so_far, AreStill, IsAtRest, Ends}
use Rattle.instance_making.specs.declared.named.Named.{Named}
use Rattle.instance_making.specs.declared.given.Given.{Given}
use Rattle.instance_making.specs.declared.making.Making.{Making as CodeMaking}
use Rattle.instance_making.specs.Made.{AreMade, Holds}
use Rattle.instance_making.specs.Outside.{first_known}
use Rattle.instance_making.specs.Shown.{Stands}
use Rattle.comp_interp.specs.declared.level.Level.{Level as CodeLevel}
use Rattle.comp_interp.specs.Parts.{part_own}

-- how many canonical functions the instance of a number has
abbrev pub row_at : List (Vec Canon Global) → ℕ → Option ℕ
row_at canons k = option_map (λ (row : Vec Canon Global). length row.items) (slice_get canons k)

abbrev pub scene_at : List Instance → ℕ → Option Scene
scene_at instances k = slice_get (scenes_of instances) k

module _ {S : Type 0} where
  -- the instance that is made has that many canonical functions, and a store of the items that its plan counts
  pub record HasOwn (m : Moment S) (g : Making) : Type 0 where
    pub canons : row_at m.group.canons.items g.instance ≡ Some g.canons
    pub store : scene_at m.instances g.instance ≡ Some (scene_of g.shadow)

  -- the instances, canonical functions and resources of the group are these
  pub record HasWhole (m : Moment S) (w : Whole) : Type 0 where
    pub instances : length m.instances ≡ w.next_instance
    pub rows : length m.group.canons.items ≡ w.next_instance
    pub canons : (k n : ℕ) → canon_known m.group.canons.items k n ≡ canon_in w.canons k n
    pub next : m.group.owners.first + length m.group.owners.items.items ≡ w.next_resource
    pub owners : (r : ℕ) → owner_known m.group.owners r ≡ owner_in w.owners r

  -- `before` are the exports of the instances that were made
  pub record Gathers (before : List Givens) (listed : List (Named Given)) (m : Moment S) (l : CodeMaking) (g : Making) : Type 0 where
    pub made : AreMade listed before
    pub stands : Stands before l g
    pub own : HasOwn m g
    pub whole : HasWhole m g.whole

  -- no code runs, and none awaits; so no handle is lent
  pub record IsIdle (m : Moment S) : Type 0 where
    pub still : AreStill m.instances
    pub calls : (k : ℕ) → calls_of m.instances k ≡ []
    pub frames : m.frames ≡ []
    pub lend : AllLend (maps_of m.instances) [] []

  -- what other instances have stays
  pub record LeavesOthers (k : ℕ) (old new : Moment S) : Type 0 where
    pub rows : (j : ℕ) → (j ≡ k → ⊥) → row_at new.group.canons.items j ≡ row_at old.group.canons.items j
    pub scenes : (j : ℕ) → (j ≡ k → ⊥) → scene_at new.instances j ≡ scene_at old.instances j

  -- an item of the plan was made, and with it perhaps further instances of items
  pub record Made (before : List Givens) (old new : Moment S) (made : List (Named Given)) (l : CodeMaking) (g : Making) : Type 0 where
    pub more : List Givens
    pub gathers : Gathers (before ++ more) made new l g
    pub idle : IsIdle new
    pub others : LeavesOthers g.instance old new
    pub imported : new.group.imported ≡ old.group.imported

-- the stage in which a module is instantiated
abbrev pub stage_of : Making → Module → List CoreArg → Stage
stage_of g m args = MakesStage g.instance (λ s. instantiated s m (externs_for g m args)) (instance_of g.shadow m (externs_for g m args)).start

module _ {S : Type 0} (h : HostStep S) (G : Group) where
  abbrev pub stages_act : List Stage → Act (World S) (Unit {0})
  stages_act stages = does_all G (hosted h) (running G (hosted h)) (nested 0) stages

  -- these stages of the group were done
  abbrev pub AreDone : List Stage → Moment S → Moment S → Type 0
  AreDone stages old new = so_far old (stages_act stages) ≡ Next new.kept.seen new.budget (world_of new.instances new.kept.state) tt

-- Something of a plan is made: what it adds is what the definition adds, and the stages that it adds are done; or they end the run.
module _ {S : Type 0} (h : HostStep S) where
  abbrev pub Came : List Givens → List Stage → Moment S → Making → Result (Unit {0}) Stop → Moment S → List (Named Given) → CodeMaking → Type 0
  Came before stages old g (Ok u) new made l = Made before old new made l g × ((G : Group) → AreDone h G stages old new)
  Came before stages old g (Err stop) new made l = (G : Group) → Ends h G (so_far old (stages_act h G stages)) new stop

  -- an item of the innermost plan that is no module and no component
  abbrev pub Makes : (Making → Making) → List (Named Given) → Moment S → CodeMaking → Result (Unit {0}) Stop → List (Named Given) → Moment S → CodeMaking → Type 0
  Makes item made old l result made' new l' =
      (before : List Givens) (g : Making) (stages : List Stage) → Gathers before made old l g → IsIdle old → (item g).whole.stages ≡ g.whole.stages ++ stages → Came before stages old (item g) result new made' l'

  -- an instance that is given these items, of which nothing is made yet
  abbrev pub Enters : List (Named Given) → Moment S → Named Given → Result CodeLevel Stop → List (Named Given) → Moment S → Type 0
  Enters made old given (Ok level) made' new =
      (before : List Givens) (w : Whole) (items : Givens) → AreMade made before → HasWhole old w → IsIdle old → Holds before given items →
      Made before old new made' level.making (begun w items) × (world_of new.instances new.kept.state ≡ world_of old.instances old.kept.state) × (new.kept ≡ old.kept) × (new.budget ≡ old.budget)
  Enters made old given (Err stop) made' new = stop ≡ stops.NoMemory

  -- a component in the component begins to be made
  abbrev pub Begins : List NamedArg → List (Named Given) → Moment S → CodeMaking → Result CodeLevel Stop → List (Named Given) → Moment S → Type 0
  Begins args made old l (Ok level) made' new =
      (before : List Givens) (g : Making) → Gathers before made old l g → IsIdle old →
      Made before old new made' level.making (begun (and_stage g.whole BeginsStage) (givens_of g args)) × ((G : Group) → AreDone h G (BeginsStage ∷ []) old new)
  Begins args made old l (Err stop) made' new = (G : Group) → Ends h G (so_far old (stages_act h G (BeginsStage ∷ []))) new stop

  -- A module is instantiated, up to its start function, which comes next; or that ends the run.
  abbrev pub IsInstantiated : Module → List CoreArg → List (Named Given) → Moment S → CodeMaking → Result (Option ℕ) Stop → List (Named Given) → Moment S → CodeMaking → Type 0
  IsInstantiated m args made old l (Ok start) made' new l' =
      (before : List Givens) (g : Making) → Gathers before made old l g → IsIdle old → ModuleFits g.shadow m (externs_for g m args) →
      Made before old new made' l' (with_module g m (externs_for g m args)) × (start ≡ (instance_of g.shadow m (externs_for g m args)).start)
      × ((G : Group) → so_far old (stages_act h G (stage_of g m args ∷ [])) ≡ so_far new (starts G (hosted h) (running G (hosted h)) (nested 0) g.instance start))
  IsInstantiated m args made old l (Err stop) made' new l' =
      (before : List Givens) (g : Making) (G : Group) → Gathers before made old l g → IsIdle old → ModuleFits g.shadow m (externs_for g m args) → Ends h G (so_far old (stages_act h G (stage_of g m args ∷ []))) new stop

-- A module is instantiated and its start function has run, where that may be called once its instance is there.
module _ {S : Type 0} (h : HostStep S) where
  pub record CanStart (G : Group) (before : List Givens) (old : Moment S) (g : Making) (m : Module) (args : List CoreArg) : Type 0 where
    pub rest : (mid : Moment S) (listed : List (Named Given)) (l : CodeMaking) → Made before old mid listed l (with_module g m (externs_for g m args)) → IsAtRest h G mid
    pub takes : (mid : Moment S) (listed : List (Named Given)) (l : CodeMaking) (f : ℕ) → Made before old mid listed l (with_module g m (externs_for g m args)) → (instance_of g.shadow m (externs_for g m args)).start ≡ Some f →
        Takes (scenes_of mid.instances) g.instance f 0

  abbrev pub ModuleComes : Module → List CoreArg → List (Named Given) → Moment S → CodeMaking → Result (Unit {0}) Stop → List (Named Given) → Moment S → CodeMaking → Type 0
  ModuleComes m args made old l (Ok u) made' new l' =
      (before : List Givens) (g : Making) (G : Group) → Gathers before made old l g → IsIdle old → ModuleFits g.shadow m (externs_for g m args) → CanStart G before old g m args →
      Made before old new made' l' (with_module g m (externs_for g m args)) × AreDone h G (stage_of g m args ∷ []) old new
  ModuleComes m args made old l (Err stop) made' new l' =
      (before : List Givens) (g : Making) (G : Group) → Gathers before made old l g → IsIdle old → ModuleFits g.shadow m (externs_for g m args) → CanStart G before old g m args →
      Ends h G (so_far old (stages_act h G (stage_of g m args ∷ []))) new stop

-- a world in which nothing is made yet
pub record IsUnmade {S : Type 0} (m : Moment S) (kept : Kept S) (budget : ℕ) : Type 0 where
  pub host : m.kept ≡ kept
  pub steps : m.budget ≡ budget
  pub instances : m.instances ≡ []
  pub frames : m.frames ≡ []

-- What the outermost component is given is there, and with it perhaps the instances that it is given; no instance is made.
pub record Imported {S : Type 0} (imports : Entries) (old : Moment S) (listed : List (Named Given)) (given : Named Given) (new : Moment S) : Type 0 where
  pub before : List Givens
  pub made : AreMade listed before
  pub holds : Holds before given (all_outside [] imports)
  pub whole : HasWhole new (record { next_instance = 0; next_resource = behind_known (all_known [] imports); stages = []; canons = []; owners = [] })
  pub known : (r : ℕ) → get nat_eq new.group.imported r ≡ first_known (all_known [] imports) r
  pub is : new ≡ record old { group = new.group }

-- or memory ran out
abbrev pub IsImported : {S : Type 0} → Entries → List (Named Given) → Moment S → Result (Named Given) Stop → List (Named Given) → Moment S → Type 0
IsImported imports made old (Ok given) made' new = made ≡ [] → old.instances ≡ [] → Imported imports old made' given new
IsImported imports made old (Err stop) made' new = stop ≡ stops.NoMemory

-- A component was made: its exports are given out where it is the outermost, and else the one that it stands in holds it.
abbrev pub IsHeld : Linked → List (Named Given) → List CodeLevel → CodeLevel → Option (Named Given) → List (Named Given) → List CodeLevel → Type 0
IsHeld linked made levels done (Some exports) made' levels' = (levels ≡ []) × (exports ≡ done.making.exports) × (made' ≡ made)
IsHeld linked made levels done None made' levels' =
    (outer : List CodeLevel) × (holder : CodeLevel) × (l : CodeMaking) × (levels ≡ outer ++ holder ∷ []) × (levels' ≡ outer ++ record holder { making = l } ∷ [])
    × ((before : List Givens) (g h : Making) → AreMade made before → Stands before holder.making g → Stands before done.making h →
    AreMade made' (before ++ h.exports ∷ []) × Stands (before ++ h.exports ∷ []) l (with_component g (numbered (part_own linked done.part) done.first) h))

-- or memory ran out
abbrev pub IsHeldIfAny : Linked → List (Named Given) → List CodeLevel → CodeLevel → Result (Option (Named Given)) Stop → List (Named Given) → List CodeLevel → Type 0
IsHeldIfAny linked made levels done (Ok exports) made' levels' = IsHeld linked made levels done exports made' levels'
IsHeldIfAny linked made levels done (Err stop) made' levels' = stop ≡ stops.NoMemory
