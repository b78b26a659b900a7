-- What a host does for the group over it.
use Rattle.std.proofs.Common.{◌≡◌, ℕ, refl, ap}
use Rattle.std.specs.Prelude.{Option}
use Rattle.wit_types.specs.PlainValue.{PlainValue}
use Rattle.host_port.specs.declared.call.Resource.{Resource}
use Rattle.host_port.specs.Calls.{Gives, Trap, Ended, Bad}
use Rattle.host_port.specs.Hosts.{HostStep}
use Rattle.comp_worlds.specs.Acts.{Trapped, ScriptEnded, BadAnswer, Over, seen_before, Act, ◌>>◌}
use Rattle.comp_worlds.specs.Passing.{Passed, answer_tuple, in_tuple}
use Rattle.comp_worlds.specs.Groups.{Nesting, Import, World, Due, Nothing, Answer, Inside}
use Rattle.comp_worlds.specs.Calls.{below}
use Rattle.comp_worlds.specs.Hosts.{call_of, passed_by, answered_by, reacts, loses, stays, hosted}
use Rattle.comp_worlds.proofs.Whole.{nothing_before}
use Rattle.comp_frames.proofs.Heads.{below_next, below_over}

module _ {S A : Type 0} (h : HostStep S) (d : Nesting) (w : World S) (n : ℕ) where
  module _ (import : Import) (passed : Passed ℕ) (go : Answer → Act (World S) A) where
    -- it answers a call
    pub host_gives : (value : Option PlainValue) → (h.call w.below (call_of import passed)).answer ≡ Gives value → (below ((hosted h).ask d Inside import passed) >> go) w n ≡
        seen_before (h.call w.below (call_of import passed)).seen (go (record { passed = passed_by (answer_tuple import.ty) (in_tuple value); due = Nothing }) (record { configs = w.configs; below = (h.call w.below (call_of import passed)).next }) n)
    unfolding reacts
    host_gives value is = below_next w n (reacts h import passed) go _ _ _ _ (ap (λ a. answered_by (h.call w.below (call_of import passed)).seen (h.call w.below (call_of import passed)).next (answer_tuple import.ty) a n) is)

    pub host_traps : (h.call w.below (call_of import passed)).answer ≡ Trap → (below ((hosted h).ask d Inside import passed) >> go) w n ≡ Over (h.call w.below (call_of import passed)).seen Trapped
    unfolding reacts
    host_traps is = below_over w n (reacts h import passed) go _ _ (ap (λ a. answered_by (h.call w.below (call_of import passed)).seen (h.call w.below (call_of import passed)).next (answer_tuple import.ty) a n) is)

    pub host_ended : (h.call w.below (call_of import passed)).answer ≡ Ended → (below ((hosted h).ask d Inside import passed) >> go) w n ≡ Over (h.call w.below (call_of import passed)).seen ScriptEnded
    unfolding reacts
    host_ended is = below_over w n (reacts h import passed) go _ _ (ap (λ a. answered_by (h.call w.below (call_of import passed)).seen (h.call w.below (call_of import passed)).next (answer_tuple import.ty) a n) is)

    pub host_bad : (h.call w.below (call_of import passed)).answer ≡ Bad → (below ((hosted h).ask d Inside import passed) >> go) w n ≡ Over (h.call w.below (call_of import passed)).seen BadAnswer
    unfolding reacts
    host_bad is = below_over w n (reacts h import passed) go _ _ (ap (λ a. answered_by (h.call w.below (call_of import passed)).seen (h.call w.below (call_of import passed)).next (answer_tuple import.ty) a n) is)

  -- nothing is left to do after a call
  pub host_left : (due : Due) (go : Unit {0} → Act (World S) A) → (below ((hosted h).leave d due) >> go) w n ≡ go tt w n
  unfolding ◌>>◌ below stays
  host_left due go = nothing_before (go tt w n)

  -- it loses a handle
  pub host_loses : (resource : Resource) (x : ℕ) (go : Unit {0} → Act (World S) A) → (below ((hosted h).drop d resource x) >> go) w n ≡
      seen_before (h.drop w.below resource x).seen (go tt (record { configs = w.configs; below = (h.drop w.below resource x).next }) n)
  unfolding ◌>>◌ below loses
  host_loses resource x go = refl
