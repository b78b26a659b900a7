-- A component that is made is called, and can be called again.
use Rattle.std.proofs.Common.{◌≡◌, ◌∙◌, ap, sym, subst, ℕ, List, Option, Some, None, Result, Ok, Err}
use Rattle.wit_types.specs.PlainValue.{PlainValue, PlainValues}
use Rattle.wit_types.specs.declared.value.Value.{Value}
use Rattle.host_port.specs.Calls.{plain_option}
use Rattle.host_port.specs.Hosts.{HostStep, Kept}
use Rattle.comp_worlds.specs.Acts.{Trapped, Out, Next, Over, traps}
use Rattle.comp_worlds.specs.Groups.{Target, World}
use Rattle.comp_frames.proofs.Heads.{before_over}
use Rattle.comp_link.specs.declared.linked.Linked.{Linked}
use Rattle.comp_link.specs.Groups.{linked_group}
use Rattle.call_moments.specs.declared.end.RunEnd.{RunEnd}
use Rattle.call_moments.specs.declared.end.RunEnd.TheVariants as ends
use Rattle.call_moments.specs.declared.end.Stop.{Stop}
use Rattle.call_moments.specs.declared.end.Stop.TheVariants as stops
use Rattle.call_moments.specs.Configs.{world_of}
use Rattle.call_moments.specs.Fits.{scenes_of, TargetFits}
use Rattle.call_moments.specs.Leads.{Moment, so_far, Same, IsAtRest, Ends}
use Rattle.call_moments.specs.Outside.{ComesOut, calls_from_outside, RunsCall}
use Rattle.instance_making.specs.declared.named.Named.{Named}
use Rattle.instance_making.specs.declared.given.Given.{Given}
use Rattle.comp_interp.specs.declared.run.Run.{Run}
use Rattle.comp_interp.specs.Going.{IsReady, IsAllMade, whole_run}
use Rattle.comp_interp.specs.Outcomes.{group_in, moment_in, IsEndOf, CanServe, Left, calls_target, export_named, MayCall}

module _ {S : Type 0} (h : HostStep S) (linked : Linked) (listed : List (Named Given)) (exports : Named Given) (m new : Moment S) where
  -- a call changes nothing that names what can be called
  pub ready_still : IsReady h linked listed exports m → Same m new → IsAtRest h (linked_group linked) new → IsReady h linked listed exports new
  ready_still r same rest = record {
    before = r.before;
    made = r.made;
    holds = r.holds;
    rest = rest;
    fits = λ interface name target is.
        subst (λ ss. TargetFits ss (linked_group linked) new.group.owners target) (sym same.scenes)
        (subst (λ g. TargetFits (scenes_of m.instances) (linked_group linked) g.owners target) (sym same.group) (r.fits interface name target is));
  }

module _ {H S : Type 0} (h : HostStep S) (kept : H → Kept S) (old new : Run H) (same : new.linked ≡ old.linked) where
  same_group : group_in new ≡ group_in old
  same_group = ap linked_group same

  module _ {A : Type 0} (of : Option PlainValue → A) (whole : Out (World S) A) where
    pub left_returned : (value : Option Value) (end : RunEnd) → IsEndOf (Ok value) end → whole ≡ Next (moment_in kept new).kept.seen (moment_in kept new).budget (world_of (moment_in kept new).instances (moment_in kept new).kept.state) (of (plain_option value)) → CanServe h kept new →
        Left h kept of whole old end new
    left_returned value end e is serves = subst (λ x. Left h kept of whole old x new) (sym e) (record { comes = is; serves = serves; group = same_group })

    pub left_ended : (stop : Stop) (end : RunEnd) → IsEndOf (Err stop) end → Ends h (group_in old) whole (moment_in kept new) stop → Left h kept of whole old end new
    left_ended stops.Trapped end e is = subst (λ x. Left h kept of whole old x new) (sym e) (record { comes = is; serves = tt; group = same_group })
    left_ended stops.ScriptEnded end e is = subst (λ x. Left h kept of whole old x new) (sym e) (record { comes = is; serves = tt; group = same_group })
    left_ended stops.BadAnswer end e is = subst (λ x. Left h kept of whole old x new) (sym e) (record { comes = is; serves = tt; group = same_group })
    left_ended stops.Spent end e is = subst (λ x. Left h kept of whole old x new) (sym e) (record { comes = is; serves = tt; group = same_group })
    left_ended stops.TooDeep end e is = subst (λ x. Left h kept of whole old x new) (sym e) (record { comes = is; serves = tt; group = same_group })
    left_ended stops.NoMemory end e is = absurd e

  -- ---- a call

  module _ (serves : CanServe h kept old) (args : PlainValues) (listed : new.assembly.made.items ≡ old.assembly.made.items) (exports : new.exports ≡ old.exports) where
    serves_still : Same (moment_in kept old) (moment_in kept new) → IsAtRest h (group_in old) (moment_in kept new) → CanServe h kept new
    serves_still still rest =
        subst (λ l. IsReady h l new.assembly.made.items new.exports (moment_in kept new)) (sym same)
        (subst (λ xs. IsReady h old.linked xs new.exports (moment_in kept new)) (sym listed)
        (subst (λ e. IsReady h old.linked old.assembly.made.items e (moment_in kept new)) (sym exports) (ready_still h old.linked old.assembly.made.items old.exports (moment_in kept old) (moment_in kept new) serves still rest)))

    pub call_left : (name : List ℕ) (target : Target) → export_named h kept (group_in old) name ≡ Some target → MayCall h kept target args → (result : Result (Option Value) Stop) → RunsCall h (moment_in kept old) target args result (moment_in kept new) → (end : RunEnd) → IsEndOf result end →
        Left h kept (λ v. v) (so_far (moment_in kept old) (calls_target h kept (group_in old) (export_named h kept (group_in old) name) args)) old end new
    call_left name target is may result runs end e =
        subst (λ o. Left h kept (λ v. v) (so_far (moment_in kept old) (calls_target h kept (group_in old) o args)) old end new) (sym is)
        (go result (runs (group_in old) serves.rest (record { fits = serves.fits _ _ target is; params = may.params; answer = may.answer; typed = may.typed })) e)
      where
        whole : Out (World S) (Option PlainValue)
        whole = so_far (moment_in kept old) (calls_from_outside h (group_in old) target args)

        go : (r : Result (Option Value) Stop) → ComesOut h plain_option (group_in old) whole (moment_in kept old) r (moment_in kept new) → IsEndOf r end → Left h kept (λ v. v) whole old end new
        go (Ok value) came e' = left_returned (λ v. v) whole value end e' came.2 (serves_still came.0 came.1)
        go (Err stop) came e' = left_ended (λ v. v) whole stop end e' came

  -- what is not exported traps
  pub nothing_left : (name : List ℕ) (args : PlainValues) → export_named h kept (group_in old) name ≡ None → (moment_in kept new).kept ≡ (moment_in kept old).kept → (end : RunEnd) → end ≡ ends.Trapped →
      Left h kept (λ v. v) (so_far (moment_in kept old) (calls_target h kept (group_in old) (export_named h kept (group_in old) name) args)) old end new
  unfolding traps
  nothing_left name args none kept_same end e =
      subst (λ o. Left h kept (λ v. v) (so_far (moment_in kept old) (calls_target h kept (group_in old) o args)) old end new) (sym none)
      (left_ended (λ v. v) (so_far (moment_in kept old) (calls_target h kept (group_in old) None args)) stops.Trapped end e
      (before_over (moment_in kept old).kept.seen Trapped ∙ ap (λ k. Over k.seen Trapped) (sym kept_same)))

  -- ---- the making

  pub made_left : (exports : Named Given) → new.exports ≡ exports → IsAllMade h old.linked (moment_in kept old) new.assembly.made.items exports (moment_in kept new) → (end : RunEnd) → end ≡ ends.Returned None → Left h kept (λ v. tt) (whole_run h old.linked (moment_in kept old)) old end new
  made_left exports is all end e =
      left_returned (λ v. tt) (whole_run h old.linked (moment_in kept old)) None end e all.done
      (subst (λ l. IsReady h l new.assembly.made.items new.exports (moment_in kept new)) (sym same) (subst (λ x. IsReady h old.linked new.assembly.made.items x (moment_in kept new)) (sym is) all.ready))
