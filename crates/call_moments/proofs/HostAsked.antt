-- A host that is asked answers as is defined, or ends the run.
use Rattle.std.proofs.Common.{◌≡◌, ◌++◌, Bool, true, false, List, [], Option, Some, None, Ok, Err, refl, sym, ap, subst, ◌∙◌}
use Rattle.std.specs.Prelude.{IsErrAnd, Result, ◌&&◌}
use Rattle.wit_types.specs.Plain.{Plain, AsTuple, RecordType}
use Rattle.wit_types.specs.PlainValue.{PlainValue, plain_value}
use Rattle.wit_types.specs.HasType.{is_of}
use Rattle.wit_types.specs.declared.value.Value.{Value}
use Rattle.host_port.specs.Calls.{PlainAnswer, Gives, Trap, Ended, Bad}
use Rattle.host_port.specs.Hosts.{HostStep, Kept, IsResult, IsAnswerTo, answer_of, reacts}
use Rattle.comp_worlds.specs.Acts.{Trapped, ScriptEnded, BadAnswer, Out, Next, Over, seen_before, Act, ◌>>◌}
use Rattle.comp_worlds.specs.Passing.{params_tuple, answer_tuple, answer_parts, in_tuple}
use Rattle.comp_worlds.specs.Groups.{Nesting, Group, World, Answer, Nothing, Inside, Import}
use Rattle.comp_worlds.specs.Calls.{below}
use Rattle.comp_worlds.specs.Hosts.{passed_by, hosted}
use Rattle.comp_frames.proofs.Heads.{before_before, after_next, after_over}
use Rattle.call_moments.specs.Asking.{called, GivesTuple, Asks}
use Rattle.call_moments.specs.declared.end.Stop.{Stop}
use Rattle.call_moments.specs.declared.end.Stop.TheVariants as stops
use Rattle.call_moments.specs.Configs.{configs_of, world_of}
use Rattle.call_moments.proofs.Answers.{comes_out}
use Rattle.call_moments.specs.Leads.{Moment, so_far, Ends}
use Rattle.call_moments.specs.Canonical.{AsksHost}

-- the tuple of a result has the tuple's type
tuple_typed : (a : Option Plain) (v : Option PlainValue) → IsResult a v → is_of (RecordType AsTuple (answer_parts a)) (in_tuple v) ≡ true
tuple_typed None None r = refl
tuple_typed None (Some v) r = absurd r
tuple_typed (Some ty) None r = absurd r
tuple_typed (Some ty) (Some v) r = both (is_of ty v) r
  where
    both : (b : Bool) → b ≡ true → (b && true) ≡ true
    both true e = refl
    both false e = e

gives_typed : (a : Option Plain) (answer : PlainAnswer) (tuple : PlainValue) → GivesTuple answer tuple → IsAnswerTo a answer → is_of (RecordType AsTuple (answer_parts a)) tuple ≡ true
gives_typed a (Gives v) tuple g t = ap (is_of (RecordType AsTuple (answer_parts a))) g ∙ tuple_typed a v t
gives_typed a Trap tuple g t = absurd g
gives_typed a Ended tuple g t = absurd g
gives_typed a Bad tuple g t = absurd g

module _ {S : Type 0} (h : HostStep S) (old : Moment S) (import : Import) (args : PlainValue) where
  abbrev answer : PlainAnswer
  answer = answer_of h old.kept (called import args)

  module _ (d : Nesting) (go : Answer → Act (World S) (Option PlainValue)) where
    abbrev asked : Act (World S) Answer
    asked = below ((hosted h).ask d Inside import (passed_by (params_tuple import.ty) args))

    over_so : (new : Moment S) (e : _) → new.kept ≡ reacts h old.kept (called import args) → asked (world_of old.instances old.kept.state) old.budget ≡ Over (h.call old.kept.state (called import args)).seen e → so_far old (asked >> go) ≡ Over new.kept.seen e
    over_so new e same is =
        ap (seen_before old.kept.seen) (after_over asked go (world_of old.instances old.kept.state) old.budget (h.call old.kept.state (called import args)).seen e is)
        ∙ ap (λ (k : Kept S). Over k.seen e) (sym same)

  pub asked_value : (value : Value) (new : Moment S) → GivesTuple answer (plain_value value) → IsAnswerTo import.ty.answer answer → new ≡ record old { kept = reacts h old.kept (called import args) } → AsksHost h old import args (Ok value) new
  asked_value value new g t is = (
    λ d go.
        ap (seen_before old.kept.seen)
        (after_next (asked d go) go (world_of old.instances old.kept.state) old.budget (h.call old.kept.state (called import args)).seen old.budget _ _ (comes_out h (configs_of old.instances) old.kept.state import args old.budget d (Ok value) g))
        ∙ before_before old.kept.seen _ _
        ∙ ap (λ m. so_far m (go (record { passed = passed_by (answer_tuple import.ty) (plain_value value); due = Nothing }))) (sym is),
    gives_typed import.ty.answer answer (plain_value value) g t,
    is ∙ ap (λ k. record old { kept = k }) (sym (ap (λ (m : Moment S). m.kept) is)),
  )

  pub asked_trap : (new : Moment S) → answer ≡ Trap → new.kept ≡ reacts h old.kept (called import args) → AsksHost h old import args (Err stops.Trapped) new
  asked_trap new e same = λ G d go. over_so d go new Trapped same (comes_out h (configs_of old.instances) old.kept.state import args old.budget d (Err stops.Trapped) e)

  pub asked_ended : (new : Moment S) → answer ≡ Ended → new.kept ≡ reacts h old.kept (called import args) → AsksHost h old import args (Err stops.ScriptEnded) new
  asked_ended new e same = λ G d go. over_so d go new ScriptEnded same (comes_out h (configs_of old.instances) old.kept.state import args old.budget d (Err stops.ScriptEnded) e)

  pub asked_bad : (new : Moment S) → answer ≡ Bad → new.kept ≡ reacts h old.kept (called import args) → AsksHost h old import args (Err stops.BadAnswer) new
  asked_bad new e same = λ G d go. over_so d go new BadAnswer same (comes_out h (configs_of old.instances) old.kept.state import args old.budget d (Err stops.BadAnswer) e)
