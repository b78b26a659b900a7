-- What comes of the making of a component, level by level and item by item.
use Rattle.std.specs.Prelude.{◌≡◌, ◌<◌, ◌≤◌, ℕ, List, [], ◌∷◌, ◌++◌, Option, Some, None, Result, Ok, Err, slice_get}
use Rattle.wasm_ast.specs.Boxed.{Held as HeldValue}
use Rattle.wasm_ast.specs.declared.module.Module.{Module}
use Rattle.wasm_ast.specs.declared.component.CoreArg.{CoreArg}
use Rattle.host_port.specs.Hosts.{HostStep}
use Rattle.comp_worlds.specs.Acts.{Out}
use Rattle.comp_worlds.specs.Groups.{Target, World}
use Rattle.comp_link.specs.Linking.{Givens}
use Rattle.comp_link.specs.declared.items.PlanItem.{PlanItem}
use Rattle.comp_link.specs.declared.items.PlanItem.TheVariants as items
use Rattle.comp_link.specs.declared.linked.Linked.{Linked}
use Rattle.comp_link.specs.Planned.{args_named}
use Rattle.call_moments.specs.declared.end.Stop.{Stop}
use Rattle.call_moments.specs.Fits.{scenes_of, TargetFits}
use Rattle.call_moments.specs.Leads.{Moment, so_far, IsAtRest, Ends}
use Rattle.instance_making.specs.declared.named.Named.{Named}
use Rattle.instance_making.specs.declared.given.Given.{Given}
use Rattle.instance_making.specs.declared.making.Making.{Making as CodeMaking}
use Rattle.instance_making.specs.Made.{AreMade, Holds}
use Rattle.comp_interp.specs.declared.level.Level.{Level}
use Rattle.comp_interp.specs.declared.part.Part.TheVariants.{Held}
use Rattle.comp_interp.specs.Gathered.{stages_act, AreDone, Begins, ModuleComes, Makes}
use Rattle.comp_link.specs.Groups.{making_of, linked_group}
use Rattle.comp_interp.specs.Others.{other_item}
use Rattle.comp_interp.specs.Between.{Stood}

-- ---- an item of the innermost plan

-- nothing was made
abbrev pub IsNothing : {S : Type 0} → List (Named Given) → Moment S → CodeMaking → List (Named Given) → Moment S → CodeMaking → Type 0
IsNothing listed old l listed' new l' = (listed' ≡ listed) × (new ≡ old) × (l' ≡ l)

-- a component that a plan below this limit names begins to be made
pub record IsEntered (limit number from : ℕ) (inner : Level) : Type 0 where
  pub named : number < limit
  pub part : inner.part ≡ Held number
  pub first : inner.first ≡ from
  pub at : inner.at ≡ 0

module _ {S : Type 0} (h : HostStep S) where
  abbrev pub ModuleIf : Option (HeldValue Module) → List CoreArg → List (Named Given) → Moment S → CodeMaking → Result (Unit {0}) Stop → List (Named Given) → Moment S → CodeMaking → Type 0
  ModuleIf (Some m) args listed old l result listed' new l' = ModuleComes h m.value args listed old l result listed' new l'
  ModuleIf None args listed old l (Ok u) listed' new l' = IsNothing listed old l listed' new l'
  ModuleIf None args listed old l (Err stop) listed' new l' = ⊥

  abbrev pub ItemComes : (limit : ℕ) → Linked → PlanItem → List (Named Given) → Moment S → CodeMaking → Result (Option Level) Stop → List (Named Given) → Moment S → CodeMaking → Type 0
  ItemComes limit linked (items.OfComponent number first args) listed old l (Ok (Some inner)) listed' new l' = IsEntered limit number first inner × Begins h (args_named args) listed old l (Ok inner) listed' new × (l' ≡ l)
  ItemComes limit linked (items.OfComponent number first args) listed old l (Ok None) listed' new l' = (limit ≤ number) × IsNothing listed old l listed' new l'
  ItemComes limit linked (items.OfComponent number first args) listed old l (Err stop) listed' new l' = (number < limit) × Begins h (args_named args) listed old l (Err stop) listed' new
  ItemComes limit linked (items.OfModule number args) listed old l (Ok (Some inner)) listed' new l' = ⊥
  ItemComes limit linked (items.OfModule number args) listed old l (Ok None) listed' new l' = ModuleIf (slice_get linked.modules number) args listed old l (Ok tt) listed' new l'
  ItemComes limit linked (items.OfModule number args) listed old l (Err stop) listed' new l' = ModuleIf (slice_get linked.modules number) args listed old l (Err stop) listed' new l'
  ItemComes limit linked item listed old l (Ok (Some inner)) listed' new l' = ⊥
  ItemComes limit linked item listed old l (Ok None) listed' new l' = Makes h (other_item item) listed old l (Ok tt) listed' new l'
  ItemComes limit linked item listed old l (Err stop) listed' new l' = Makes h (other_item item) listed old l (Err stop) listed' new l'

  -- ---- all levels

  module _ (linked : Linked) where
    -- the component is made: nothing is in progress, and what it exports can be called
    pub record IsReady (listed : List (Named Given)) (exports : Named Given) (m : Moment S) : Type 0 where
      pub before : List Givens
      pub made : AreMade listed before
      pub holds : Holds before exports (making_of linked).exports
      pub rest : IsAtRest h (linked_group linked) m
      pub fits : (interface name : List ℕ) (target : Target) → (linked_group linked).exports interface name ≡ Some target → TargetFits (scenes_of m.instances) (linked_group linked) m.group.owners target

    module _ (first : Moment S) where
      -- the run of all its stages
      abbrev pub whole_run : Out (World S) (Unit {0})
      whole_run = so_far first (stages_act h (linked_group linked) (linked_group linked).stages)

      pub record IsAllMade (listed : List (Named Given)) (exports : Named Given) (m : Moment S) : Type 0 where
        pub ready : IsReady listed exports m
        pub done : AreDone h (linked_group linked) (linked_group linked).stages first m

      -- the innermost level is the last
      pub record LevelsStand (listed : List (Named Given)) (levels : List Level) (m : Moment S) : Type 0 where
        pub outer : List Level
        pub inner : Level
        pub are : levels ≡ outer ++ inner ∷ []
        pub stood : Stood h linked first listed outer inner m

      abbrev pub GoesOn : List (Named Given) → List Level → Result (Option (Named Given)) Stop → Moment S → Type 0
      GoesOn listed levels (Ok None) m = LevelsStand listed levels m
      GoesOn listed levels (Ok (Some exports)) m = IsAllMade listed exports m
      GoesOn listed levels (Err stop) m = Ends h (linked_group linked) whole_run m stop

    -- the innermost level goes on by an item
    abbrev pub LevelGoes : List (Named Given) → List Level → Level → Moment S → Result (Option (Named Given)) Stop → List (Named Given) → List Level → Moment S → Type 0
    LevelGoes listed levels level old result listed' levels' new = (first : Moment S) → Stood h linked first listed levels level old → GoesOn first listed' levels' result new

    -- all is made, or the run ends so
    abbrev pub MakesAll : Moment S → Result (Named Given) Stop → List (Named Given) → Moment S → Type 0
    MakesAll first (Ok exports) listed m = IsAllMade first listed exports m
    MakesAll first (Err stop) listed m = Ends h (linked_group linked) (whole_run first) m stop
