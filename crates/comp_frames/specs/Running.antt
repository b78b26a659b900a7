-- Core code of a group, with no bound on how deep questions are nested, and from where it stands. (This project's own.)
use Rattle.std.specs.Prelude.{ℕ, zero, suc, List, [], ◌∷◌}
use Rattle.core_store.specs.State.{State}
use Rattle.core_store.specs.declared.value.CoreValue.{CoreValue}
use Rattle.core_store.specs.Config.{Reply, Outcome}
use Rattle.core_store.specs.Laws.{Within}
use Rattle.host_port.specs.Calls.{Returned}
use Rattle.comp_worlds.specs.Acts.{Act, ◌>>◌, gives, spent, shows}
use Rattle.comp_worlds.specs.Passing.{out_of_tuple}
use Rattle.comp_worlds.specs.Groups.{Nesting, Group, World, Outside, Ports}
use Rattle.comp_worlds.specs.Locals.{with_store}
use Rattle.comp_worlds.specs.Calls.{with_config, Pause, core_end, Run, answers_if, leaves, drops_given, goes_on, drives, runs, deep_enough}
use Rattle.comp_worlds.specs.Observed.{Call, without_handles}

-- what core code does with the replies that it is still given, in that many steps more
abbrev pub Rest : Type 0
Rest = List Reply → ℕ → Outcome

-- of these steps no more are left
abbrev pub IsRest : Rest → Type 0
IsRest X = (replies : List Reply) (n : ℕ) → Within n (X replies n)

-- it goes on to its end or its next question
unfoldable pub comes_to : {S : Type 0} → ℕ → Rest → Act (World S) Pause
comes_to k X w n = core_end w k n (X [] n)

-- the store of the instance k is this one
abbrev pub stored : {S : Type 0} → World S → ℕ → State → World S
stored w k store = with_config w k (with_store (w.configs k) store)

module _ {S : Type 0} (G : Group) (p : Ports S) where
  -- core code from its beginning
  abbrev pub running : Run S
  running d k f args = deep_enough (λ fuel. runs G p fuel d k f args)

  -- the same in this store, where its first questions had these replies
  abbrev pub driving : Nesting → ℕ → ℕ → List CoreValue → State → List Reply → Act (World S) (List CoreValue)
  driving d k f args store replies = deep_enough (λ fuel. drives G p fuel d k f args store replies)

  -- core code from where it stands, its questions being at most that many
  abbrev pub goes_to : (fuel : ℕ) → Nesting → ℕ → Rest → Act (World S) (List CoreValue)
  goes_to zero d k X = spent
  goes_to (suc fuel) d k X = comes_to k X >> goes_on G p (running) (λ reply. goes_to fuel d k (λ replies. X (reply ∷ replies))) d k

  -- with n steps they are no more than this
  abbrev pub going : Nesting → ℕ → Rest → Act (World S) (List CoreValue)
  going d k X = deep_enough (λ fuel. goes_to fuel d k X)

  -- how the group meets the imports of others
  abbrev pub meeting : Ports (World S)
  meeting = record {
    ask = λ d from import passed. answers_if G p running d from (G.exports import.interface import.function) passed;
    leave = λ d due. leaves G p running d due;
    drop = λ d resource x. drops_given G p running d x (G.given resource);
  }

  -- calls from outside, one after the other
  abbrev pub serves : Nesting → List Call → Act (World S) (Unit {0})
  serves d [] = gives tt
  serves d (call ∷ rest) =
      answers_if G p running d Outside (G.exports call.interface call.function) (without_handles call) >> λ answer.
      leaves G p running d answer.due >> λ _.
      shows (Returned (out_of_tuple answer.passed.value) ∷ []) >> λ _.
      serves d rest
