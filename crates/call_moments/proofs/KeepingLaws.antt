-- Core code of an instance goes on, or stores values there: what waits, waits on, and no memory becomes shorter.
use Rattle.std.proofs.Common.{◌≡◌, ◌≤◌, ◌==◌, ℕ, Bool, true, false, List, [], ◌∷◌, length, set, reverse, Option, Some, refl, sym, ap, subst, ◌∙◌, arith}
use Rattle.std.specs.Prelude.{slice_get}
use Rattle.std.proofs.lemmas.Bool.Decides.{nat_tests}
use Rattle.core_store.specs.State.{memory_at}
use Rattle.core_store.specs.Scene.{scene_of}
use Rattle.abi_layout.specs.Storing.{Lowered}
use Rattle.abi_store.specs.Plan.{Due, Nothing, Given, Asked}
use Rattle.host_port.specs.Hosts.{HostStep}
use Rattle.comp_worlds.specs.Groups.{Group}
use Rattle.comp_worlds.specs.Calls.{pick}
use Rattle.comp_frames.specs.Within.{IsRoomy}
use Rattle.comp_frames.proofs.Rooms.{grown_within}
use Rattle.comp_frames.specs.Frames.{Awaiting}
use Rattle.instance_state.specs.declared.instance.Instance.{Instance}
use Rattle.instance_state.specs.declared.loan.Loan.{Loan}
use Rattle.call_moments.specs.declared.frame.Frame.{Frame}
use Rattle.call_moments.specs.declared.frame.Purpose.{Purpose}
use Rattle.call_moments.specs.declared.frame.Purpose.TheVariants as purposes
use Rattle.call_moments.specs.declared.frame.Storing.{Storing}
use Rattle.call_moments.specs.Held.{AllLend}
use Rattle.call_moments.specs.MemoryLaws.{NoShorter}
use Rattle.call_moments.specs.Standing.{with_calls, AllStand}
use Rattle.call_moments.specs.Fits.{scenes_of, Fits}
use Rattle.call_moments.specs.Waiting.{IsRoomyFor, RoomOf, AllRoomy, AllAwait}
use Rattle.call_moments.specs.Leads.{Moment, stores_of, calls_of, maps_of, sizes_of, Same, Waits}
use Rattle.call_moments.proofs.Awaits.{all_stand_on}
use Rattle.call_moments.proofs.Instances.{store_here, calls_here, stores_set, calls_set, maps_same, scene_same, scenes_set, still_set}
use Rattle.call_moments.proofs.Following.{with_instance}
use Rattle.call_moments.proofs.Resuming.{same_calls}

roomy_on : (memory more : ℕ) (due : Due) (left : Lowered) → memory ≤ more → IsRoomy memory due left → IsRoomy more due left
roomy_on memory more Nothing left le r = grown_within memory more [] left.steps le r
roomy_on memory more (Given place align len) left le r = r
roomy_on memory more (Asked align len) left le r = grown_within memory more (len ∷ []) left.steps le r

module _ (sizes more : ℕ → ℕ → ℕ) (grown : (k at : ℕ) → sizes k at ≤ more k at) where
  pub roomy_for : (s : Storing) → IsRoomyFor sizes s → IsRoomyFor more s
  roomy_for s r at e = roomy_on (sizes s.instance at) (more s.instance at) s.plan.due s.plan.left (grown s.instance at) (r at e)

  pub room_of : (p : Purpose) → RoomOf sizes p → RoomOf more p
  room_of purposes.Starts r = tt
  room_of (purposes.Serves service) r = tt
  room_of (purposes.Grants s) r = roomy_for s r
  room_of (purposes.Returns back) r = tt
  room_of (purposes.Destroys visit) r = tt

  pub all_roomy : (fs : List Frame) → AllRoomy sizes fs → AllRoomy more fs
  all_roomy [] r = tt
  all_roomy (f ∷ fs) r = (room_of f.purpose r.0, all_roomy fs r.1)

module _ (is : List Instance) (k : ℕ) (i : Instance) (found : slice_get is k ≡ Some i) (j : Instance) (longer : NoShorter i.code.store j.code.store) where
  grown_at : (m at : ℕ) (b : Bool) → (m == k) ≡ b → length (memory_at (stores_of is m) at).bytes ≤ length (memory_at (pick b j.code.store (stores_of is m)) at).bytes
  grown_at m at true e =
      let same : m ≡ k = grind (arith, nat_tests) in
      subst (λ s. length (memory_at s at).bytes ≤ length (memory_at j.code.store at).bytes) (sym (ap (stores_of is) same ∙ store_here is k i found)) (longer at)
  grown_at m at false e = omega arith

  pub sizes_grown : (m at : ℕ) → sizes_of is m at ≤ sizes_of (set is k j) m at
  sizes_grown m at = subst (λ ss. length (memory_at (stores_of is m) at).bytes ≤ length (memory_at (ss m) at).bytes) (sym (stores_set is k i found j)) (grown_at m at (m == k) refl)

module _ {S : Type 0} (h : HostStep S) (G : Group) (m : Moment S) (k : ℕ) (i j : Instance) (found : slice_get m.instances k ≡ Some i) (scene : scene_of j.code.store ≡ scene_of i.code.store) where
  abbrev is : List Instance
  is = m.instances

  abbrev is' : List Instance
  is' = set m.instances k j

  scenes_are : scenes_of is' ≡ scenes_of is
  scenes_are = scenes_set is k i j found scene

  pub same_code : Same m (with_instance m k j)
  same_code = record { group = refl; scenes = scenes_are }

  pub waits_code : j.code.calls ≡ i.code.calls → j.code.going ≡ i.code.going → j.handles ≡ i.handles → NoShorter i.code.store j.code.store → (waiting : List (Awaiting S)) (loans : List Loan) (count : Option ℕ) →
      Waits h G m waiting loans count → Waits h G (with_instance m k j) waiting loans count
  waits_code calls going map longer waiting loans count w =
      let calls_are : calls_of is' ≡ calls_of is = calls_set is k i found j ∙ ap (λ cs. with_calls (calls_of is) k cs) (calls ∙ sym (calls_here is k i found)) ∙ same_calls (calls_of is) k in
      record {
        fits = subst (λ ss. Fits G m.group ss) (sym scenes_are) w.fits;
        still = still_set is k i found j w.still (going ∙ w.still k i found);
        stand =
            subst (λ cs. AllStand h G (stores_of is') cs (reverse m.frames) waiting) (sym calls_are)
            (all_stand_on h G (stores_of is) (stores_of is') (scene_same is k i found j scene) (calls_of is) (reverse m.frames) waiting w.stand);
        await = subst (λ cs. AllAwait (scenes_of is') cs (reverse m.frames) count) (sym calls_are) (subst (λ ss. AllAwait ss (calls_of is) (reverse m.frames) count) (sym scenes_are) w.await);
        room = all_roomy (sizes_of is) (sizes_of is') (sizes_grown is k i found j longer) (reverse m.frames) w.room;
        lend = subst (λ ms. AllLend ms loans (reverse m.frames)) (sym (maps_same is k i found j map)) w.lend;
      }
