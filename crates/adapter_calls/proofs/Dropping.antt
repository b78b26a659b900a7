-- A destructor leaves what its routine leaves.
use Rattle.std.proofs.Common.{◌≡◌, ◌∙◌, refl, ap, ℕ, suc, ◌+◌, List, [], ◌∷◌, length, Some, Bool, true, false, not, append-nil}
use Rattle.core_store.specs.declared.value.CoreValue.TheVariants.{I32}
use Rattle.handle_space.specs.HandleMap.{HandleMap}
use Rattle.adapter_code.specs.declared.state.CodeEnd.TheVariants.{Answer}
use Rattle.adapter_code.specs.Run.{RoutineRun}
use Rattle.adapter_compile.specs.Handles.{Numbers}
use Rattle.adapter_compile.specs.Does.{Home, store_with, DoesCalled}
use Rattle.adapter_state.specs.Destructor.{destructor_state}
use Rattle.host_port.specs.Hosts.{HostStep, Loss}
use Rattle.comp_worlds.specs.Acts.{Next, seen_before, then_do, Act, ◌>>◌, gives}
use Rattle.comp_worlds.specs.Groups.{Endless, Config, Group, World}
use Rattle.comp_worlds.specs.Locals.{also, done, enter, exit}
use Rattle.comp_worlds.specs.Calls.{on, destructs, drops}
use Rattle.comp_worlds.specs.Hosts.{hosted}
use Rattle.comp_frames.specs.Running.{running}
use Rattle.comp_frames.specs.RunsLaws.{Unfolds, GoesByItsRest}
use Rattle.adapter_calls.specs.Dropping.{DropsByDestructor}
use Rattle.adapter_calls.specs.Handling.{KnowsKinds, map_to, OfKinds, lost}
use Rattle.adapter_calls.specs.Instance.{standing, with_both}
use Rattle.adapter_calls.specs.Routines.{IsAt}
use Rattle.adapter_calls.proofs.Instance.{seen_none, on_k, begins}
use Rattle.adapter_calls.proofs.Routines.{returns_so}

module _ {S : Type 0} (h : HostStep S) (G : Group) (unfolds : Unfolds G (hosted h)) (by : GoesByItsRest G (hosted h)) (k : ℕ) (numbers : Numbers) (to : ℕ → ℕ) (know : KnowsKinds G k numbers to) (home : Home) (f at : ℕ) (memory : List ℕ) (table : HandleMap ℕ) (made : List Bool) (run : RoutineRun)
    (does : DoesCalled numbers home f 1 (destructor_state at memory table []) made run) (kinds : OfKinds does.effects) (ends : run.end ≡ Answer) (w : World S) (c : Config ℕ) (s : S) (is : IsAt home to (destructor_state at memory table []) made c) (outside : c.entered ≡ false) where
  abbrev inside : Config ℕ
  inside = record { store = c.store; map = c.map; entered = true; closed = c.closed }

  abbrev is_inside : IsAt home to (destructor_state at memory table []) made inside
  is_inside = record { store = is.store; quiet = is.quiet; handles = is.handles; unclosed = is.unclosed; owned = is.owned }

  abbrev l : Loss S
  l = lost h G to does.effects s

  abbrev left : Config ℕ
  left = with_both inside (store_with home run.state.memory does.made') (map_to to run.state.table)

  abbrev gone : Config ℕ
  gone = record { store = left.store; map = left.map; entered = false; closed = left.closed }

  abbrev leaving : Unit {0} → Act (World S) (Unit {0})
  leaving u = on k exit

  entered_so : (n : ℕ) → on k enter (standing w k c s) n ≡ Next [] n (standing w k inside s) tt
  entered_so n = on_k w k enter c inside s tt n (ap (λ b. also (not b) (Some (done inside))) outside)

  destroyed : (n : ℕ) → destructs G (hosted h) (running G (hosted h)) Endless k at (Some f) (standing w k inside s) (suc (does.steps + (length does.effects + n))) ≡ Next l.seen n (standing w k left l.next) tt
  unfolding ◌>>◌ gives
  destroyed n =
      let go : Act (World S) (Unit {0}) = running G (hosted h) Endless k f (I32 at ∷ []) >> λ x. gives tt in
      ap (λ o. then_do o (λ x. go)) (begins (standing w k inside s) (does.steps + (length does.effects + n)))
      ∙ seen_none (go (standing w k inside s) (does.steps + (length does.effects + n)))
      ∙ ap (λ o. then_do o (λ x. gives tt)) (returns_so h G unfolds by k numbers to know home f 1 (destructor_state at memory table []) made run does kinds w inside s is_inside ends n)
      ∙ ap (λ z. Next z n (standing w k left l.next) tt) (append-nil l.seen)

  pub dropped_so : (r n : ℕ) → drops G (hosted h) (running G (hosted h)) Endless r at (Some (record { instance = k; destructor = Some f })) (standing w k c s) (suc (does.steps + (length does.effects + n))) ≡ Next l.seen n (standing w k gone l.next) tt
  unfolding ◌>>◌
  dropped_so r n =
      let rest : Unit {0} → Act (World S) (Unit {0}) = λ x. destructs G (hosted h) (running G (hosted h)) Endless k at (Some f) >> leaving in
      let N : ℕ = suc (does.steps + (length does.effects + n)) in
      ap (λ o. then_do o rest) (entered_so N)
      ∙ seen_none (rest tt (standing w k inside s) N)
      ∙ ap (λ o. then_do o leaving) (destroyed n)
      ∙ ap (seen_before l.seen) (on_k w k exit left gone l.next tt n refl)
      ∙ ap (λ z. Next z n (standing w k gone l.next) tt) (append-nil l.seen)

pub drops_by_destructor : {S : Type 0} → (h : HostStep S) → ((G : Group) → Unfolds G (hosted h)) → ((G : Group) → GoesByItsRest G (hosted h)) → DropsByDestructor h
drops_by_destructor h unfolds by G k numbers to know home f at memory table made run does kinds ends w c s is outside r n =
    dropped_so h G (unfolds G) (by G) k numbers to know home f at memory table made run does kinds ends w c s is outside r n
