-- What is left of a plan, as it is done to a world.
use Rattle.std.specs.Prelude.{ℕ, List, [], ◌∷◌, map, slice_set, Option, Some, None}
use Rattle.core_memory.specs.Linear.{Linear}
use Rattle.core_store.specs.State.{State}
use Rattle.core_store.specs.Words.{words}
use Rattle.abi_layout.specs.Storing.{Lowered}
use Rattle.abi_store.specs.Plan.{Halt, Asks, Ends, Traps, Due, Nothing, Given, Asked, answered, number_in}
use Rattle.comp_worlds.specs.Acts.{Trapped, Next, Over, Act, ◌>>◌, gives, traps}
use Rattle.comp_worlds.specs.Groups.{Nesting, Options, Group, Config, World, Ports}
use Rattle.comp_worlds.specs.Locals.{with_store, flat_word, has_place, is_granted}
use Rattle.comp_worlds.specs.Calls.{with_config, on, Run, asks_for, stores}

-- a store, an instance and a world with another memory at a place of the store
abbrev pub store_with : State → ℕ → Linear → State
store_with s at m = record s { memories = slice_set s.memories at m }

abbrev pub config_with : Config ℕ → ℕ → Linear → Config ℕ
config_with c at m = with_store c (store_with c.store at m)

abbrev pub world_with : {S : Type 0} → World S → ℕ → ℕ → Linear → World S
world_with w k at m = with_config w k (config_with (w.configs k) at m)

module _ {S : Type 0} (G : Group) (p : Ports S) (run : Run S) (d : Nesting) (k : ℕ) (options : Options) where
  -- values are stored, and then there are the flat values
  abbrev pub finishes : ℕ → List ℕ → Lowered → Act (World S) (List ℕ)
  finishes target answers left = stores G p run d k options target answers left.steps >> λ all. gives (map (flat_word all) left.flats)

  -- what is left, where each place is known
  abbrev pub does_left : Lowered → Act (World S) (List ℕ)
  does_left left = finishes 0 [] left

  -- the same after a request, with what realloc answered to it
  abbrev pub goes_granted : (align len : ℕ) → Lowered → List ℕ → Act (World S) (List ℕ)
  goes_granted align len left results = on k (is_granted options align len results) >> λ at. does_left (answered at left)

  -- the same after what is due
  abbrev pub does_due : Due → Lowered → Option ℕ → Act (World S) (List ℕ)
  does_due Nothing left answer = does_left left
  does_due (Given place align len) left answer = on k (has_place options align len place) >> λ _. does_left left
  does_due (Asked align len) left None = traps
  does_due (Asked align len) left (Some at) = goes_granted align len left (at ∷ [])

  -- what comes where a plan halts: realloc is asked, and the plan goes on; or there are the flat values; or it traps
  abbrev pub goes_from : ℕ → Halt → Act (World S) (List ℕ)
  goes_from at (Asks align len left memory) w n =
      (asks_for G p run d k options.realloc align len >> λ results. goes_granted align len left (words results)) (world_with w k at memory) n
  goes_from at (Ends flats memory) w n = Next [] n (world_with w k at memory) (map number_in flats)
  goes_from at (Traps memory) w n = Over [] Trapped
