-- What runs over a host does alike with more steps.
use Rattle.std.proofs.Common.{ℕ, ◌+◌, List, [], ◌∷◌, refl}
use Rattle.host_port.specs.declared.call.Resource.{Resource}
use Rattle.host_port.specs.Calls.{PlainAnswer, Gives, Trap, Ended, Bad}
use Rattle.host_port.specs.Hosts.{HostStep}
use Rattle.comp_worlds.specs.Acts.{Extends}
use Rattle.comp_worlds.specs.Passing.{Passed, answer_tuple}
use Rattle.comp_worlds.specs.Groups.{Nesting, Import, Group, Origin, Inside, Outside, Ports}
use Rattle.comp_worlds.specs.Hosts.{call_of, answered_by, reacts, loses, stays, asks_host, hosted}
use Rattle.comp_worlds.specs.Observed.{stack, first_state, are_made, Call, makes_calls, runs_calls}
use Rattle.comp_worlds.specs.Laws.{PortsGrow, MoreStepsExtend, HostsGrow}
use Rattle.comp_worlds.proofs.Growing.{Same, then_longer, gives_longer, shows_longer}
use Rattle.comp_worlds.proofs.GroupGrowing.{begins_longer, below_longer, asked_longer, left_longer, group_grows, made_longer}

stays_longer : (S : Type 0) → Same (stays {S = S})
unfolding stays
stays_longer S = record { each = λ s n k. refl }

module _ {S : Type 0} (h : HostStep S) where
  reacts_longer : (import : Import) (passed : Passed ℕ) → Same (reacts h import passed)
  unfolding reacts
  reacts_longer import passed = record { each = λ s n k. at s n k (h.call s (call_of import passed)).answer }
    where
      at : (s : S) (n k : ℕ) (a : PlainAnswer) → Extends k (answered_by (h.call s (call_of import passed)).seen (h.call s (call_of import passed)).next (answer_tuple import.ty) a n) (answered_by (h.call s (call_of import passed)).seen (h.call s (call_of import passed)).next (answer_tuple import.ty) a (k + n))
      at s n k (Gives value) = refl
      at s n k Trap = refl
      at s n k Ended = refl
      at s n k Bad = refl

  loses_longer : (resource : Resource) (x : ℕ) → Same (loses h resource x)
  unfolding loses
  loses_longer resource x = record { each = λ s n k. refl }

  asks_longer : (d : Nesting) (from : Origin) (import : Import) (passed : Passed ℕ) → Same (asks_host h d from import passed)
  asks_longer d Inside import passed = reacts_longer import passed
  asks_longer d Outside import passed = then_longer _ _ _ _ (begins_longer d) (λ _. reacts_longer import passed)

  pub host_grows : HostsGrow h
  host_grows = record { ask = λ d from import passed. (asks_longer d from import passed).each; leave = λ d due. (stays_longer S).each; drop = λ d resource x. (loses_longer resource x).each }

module _ {S : Type 0} (p : Ports S) (grow : PortsGrow p) where
  pub stack_grows : (groups : List Group) → PortsGrow (stack groups p)
  stack_grows [] = grow
  stack_grows (G ∷ Gs) = group_grows G (stack Gs p) (stack_grows Gs)

  pub are_made_longer : (d : Nesting) (groups : List Group) → Same (are_made d groups p)
  are_made_longer d [] = gives_longer tt
  are_made_longer d (G ∷ Gs) = then_longer _ _ _ _ (below_longer _ _ (are_made_longer d Gs)) (λ _. made_longer G (stack Gs p) (stack_grows Gs) d)

  pub calls_longer : (G : Group) (d : Nesting) (calls : List Call) → Same (makes_calls G p d calls)
  calls_longer G d [] = gives_longer tt
  calls_longer G d (call ∷ rest) =
      then_longer _ _ _ _ (asked_longer G p grow d Outside (G.exports call.interface call.function) _) (λ answer.
      then_longer _ _ _ _ (left_longer G p grow d answer.due) (λ _.
      then_longer _ _ _ _ (shows_longer _) (λ _. calls_longer G d rest)))

pub more_steps : {S : Type 0} → (h : HostStep S) → MoreStepsExtend h
unfolding runs_calls
more_steps h d G Gs s calls n k =
    (then_longer _ _ _ _ (are_made_longer (hosted h) (host_grows h) d (G ∷ Gs))
    (λ _. calls_longer (stack Gs (hosted h)) (stack_grows (hosted h) (host_grows h) Gs) G d calls)).each (first_state (G ∷ Gs) s) n k
