-- The innermost frame, and its instance.
use Rattle.std.proofs.Common.{◌≡◌, ◌≤◌, ◌<◌, ◌-◌, ◌++◌, ℕ, zero, suc, List, [], ◌∷◌, length, reverse, Option, Some, None, Ok, Err, false, refl, sym, ap, subst, ◌∙◌, arith}
use Rattle.std.specs.Prelude.{slice_get}
use Rattle.std.proofs.lemmas.List.{reverse-reverse, reverse-append}
use Rattle.std.proofs.lemmas.Option.{slice_get_within}
use Rattle.core_store.specs.State.{State}
use Rattle.core_store.specs.Scene.{Scene}
use Rattle.core_store.specs.declared.value.CoreValue.{CoreValue}
use Rattle.virt_base.specs.declared.fault.Trap.{Trap as IsTrap}
use Rattle.core_interp.specs.Session.{awaited}
use Rattle.instance_state.specs.Ready.{Runs}
use Rattle.instance_state.specs.Done.{Resumes}
use Rattle.host_port.specs.Hosts.{HostStep}
use Rattle.comp_worlds.specs.Groups.{Group}
use Rattle.comp_frames.specs.Frames.{Awaiting, instance_in}
use Rattle.instance_state.specs.declared.instance.Instance.{Instance}
use Rattle.instance_state.specs.declared.loan.Loan.{Loan}
use Rattle.call_moments.specs.declared.frame.Frame.{Frame}
use Rattle.call_moments.specs.declared.end.Stop.{Stop}
use Rattle.call_moments.specs.declared.end.Stop.TheVariants as stops
use Rattle.call_moments.specs.Standing.{Calls, AllStand}
use Rattle.call_moments.specs.Fits.{scenes_of}
use Rattle.call_moments.specs.Waiting.{instance_of, AllAwait}
use Rattle.call_moments.specs.Leads.{Moment, stores_of, calls_of, Waits}
use Rattle.call_moments.specs.Functions.{IsInnermost}
use Rattle.call_moments.proofs.Instances.{found_by, calls_here}

at_last : {A : Type 0} (ys : List A) (y : A) → slice_get (ys ++ y ∷ []) (length (ys ++ y ∷ []) - 1) ≡ Some y
at_last [] y = refl
at_last (z ∷ []) y = refl
at_last (z ∷ x ∷ ys) y =
    let e : length (z ∷ x ∷ (ys ++ y ∷ [])) - 1 ≡ suc (length (x ∷ (ys ++ y ∷ [])) - 1) = omega arith in
    ap (slice_get (z ∷ x ∷ (ys ++ y ∷ []))) e ∙ at_last (x ∷ ys) y

pub innermost_of : (xs : List Frame) (x : Frame) → slice_get xs (length xs - 1) ≡ Some x → IsInnermost (reverse xs) (Ok x.instance)
innermost_of xs x e = go (reverse xs) (sym (reverse-reverse xs))
  where
    go : (ys : List Frame) → xs ≡ reverse ys → IsInnermost ys (Ok x.instance)
    go [] same = let none : slice_get [] (length xs - 1) ≡ Some x = ap (λ (zs : List Frame). slice_get zs (length xs - 1)) (sym same) ∙ e in absurd (cc)
    go (y ∷ ys) same =
        let all : xs ≡ reverse ys ++ y ∷ [] = same ∙ reverse-append (y ∷ []) ys in
        let one : slice_get xs (length xs - 1) ≡ Some y = ap (λ (zs : List Frame). slice_get zs (length zs - 1)) all ∙ at_last (reverse ys) y in
        let both : x ≡ y = cc in ap (λ (f : Frame). f.instance) both

pub innermost_none : (xs : List Frame) → length xs ≤ 0 → IsInnermost (reverse xs) (Err stops.Trapped)
innermost_none [] le = refl
innermost_none (x ∷ xs) le = absurd (omega arith)

none_there : (scenes : List Scene) (calls : Calls) (fs : List Frame) (stop : Stop) (count : ℕ) → IsInnermost fs (Err stop) → AllAwait scenes calls fs (Some count) → ⊥
none_there scenes calls [] stop count i a = a
none_there scenes calls (f ∷ fs) stop count i a = i

there : (is : List Instance) (k : ℕ) (fs : List Frame) (count : ℕ) → IsInnermost fs (Ok k) → AllAwait (scenes_of is) (calls_of is) fs (Some count) → (i : Instance) × (slice_get is k ≡ Some i)
there is k [] count i a = absurd i
there is k (f ∷ fs) count i a = found_by is k a.0 a.1 (ap (calls_of is) i ∙ a.2)

no_trap : (is : List Instance) (k : ℕ) (i : Instance) (fs : List Frame) (results : List CoreValue) (new : Runs) (trap : IsTrap) → slice_get is k ≡ Some i → IsInnermost fs (Ok k) → i.code.going ≡ false → AllAwait (scenes_of is) (calls_of is) fs (Some (length results)) →
    Resumes i.code results new (Err trap) → ⊥
no_trap is k i [] results new trap found inside still a r = inside
no_trap is k i (f ∷ fs) results new trap found inside still a r = r a.0 a.1 (sym (calls_here is k i found) ∙ ap (calls_of is) inside ∙ a.2) still (sym a.3)

same_instance : {S : Type 0} (h : HostStep S) (G : Group) (stores : ℕ → State) (scenes : List Scene) (calls : Calls) (fs : List Frame) (waiting : List (Awaiting S)) (count : ℕ) → AllStand h G stores calls fs waiting → AllAwait scenes calls fs (Some count) →
    instance_in waiting ≡ instance_of fs
same_instance h G stores scenes calls [] waiting count s a = absurd a
same_instance h G stores scenes calls (f ∷ fs) [] count s a = absurd s
same_instance h G stores scenes calls (f ∷ fs) (x ∷ waiting) count s a = s.3.instance

module _ {S : Type 0} (h : HostStep S) (G : Group) (m : Moment S) (waiting : List (Awaiting S)) (count : ℕ) (loans : List Loan) (w : Waits h G m waiting loans (Some count)) where
  -- what awaits innermost is of the instance of the innermost frame
  pub waiting_at : instance_in waiting ≡ instance_of (reverse m.frames)
  waiting_at = same_instance h G (stores_of m.instances) (scenes_of m.instances) (calls_of m.instances) (reverse m.frames) waiting count w.stand w.await

  -- its instance is there
  pub not_there : (k : ℕ) → k ≡ instance_of (reverse m.frames) → length m.instances ≤ k → ⊥
  not_there k e le = go (reverse m.frames) w.await e
    where
      go : (fs : List Frame) → AllAwait (scenes_of m.instances) (calls_of m.instances) fs (Some count) → k ≡ instance_of fs → ⊥
      go [] a e = a
      go (f ∷ fs) a e = let found = found_by m.instances f.instance a.0 a.1 a.2 in let lt : f.instance < length m.instances = slice_get_within m.instances f.instance found.0 found.1 in absurd (omega (arith, lt, e, le))

  pub has_frames : (stop : Stop) → IsInnermost (reverse m.frames) (Err stop) → ⊥
  has_frames stop i = none_there (scenes_of m.instances) (calls_of m.instances) (reverse m.frames) stop count i w.await

  pub has_instance : (k : ℕ) → IsInnermost (reverse m.frames) (Ok k) → length m.instances ≤ k → ⊥
  has_instance k i le =
      let found = there m.instances k (reverse m.frames) count i w.await in
      let within : k < length m.instances = slice_get_within m.instances k found.0 found.1 in
      omega arith

module _ {S : Type 0} (h : HostStep S) (G : Group) (m : Moment S) (waiting : List (Awaiting S)) (results : List CoreValue) (w : Waits h G m waiting [] (Some (length results))) where
  pub gets_results : (k : ℕ) (i : Instance) (new : Runs) (trap : IsTrap) → slice_get m.instances k ≡ Some i → IsInnermost (reverse m.frames) (Ok k) → Resumes i.code results new (Err trap) → ⊥
  gets_results k i new trap found inside r = no_trap m.instances k i (reverse m.frames) results new trap found inside (w.still k i found) w.await r
