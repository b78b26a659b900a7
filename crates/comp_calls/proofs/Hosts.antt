-- What a host answers as it is asked, by the call that was made for it; a call from outside, by its target.
use Rattle.std.proofs.Common.{◌≡◌, Option, Ok, Err, refl, sym, ap, subst, ◌∙◌}
use Rattle.std.specs.Prelude.{Result, IsErrAnd}
use Rattle.wit_types.specs.PlainValue.{PlainValue, PlainValues, plain_value}
use Rattle.wit_types.specs.declared.value.Value.{Value}
use Rattle.host_port.specs.Calls.{PlainCall, PlainAnswer, Gives, Trap, Ended, Bad}
use Rattle.host_port.specs.Hosts.{HostStep, Kept, IsAnswerTo, answer_of, reacts}
use Rattle.comp_worlds.specs.Groups.{Import}
use Rattle.comp_worlds.specs.Passing.{in_tuple}
use Rattle.instance_state.specs.Targets.{target_of}
use Rattle.instance_state.specs.declared.target.Target.{Target}
use Rattle.call_moments.specs.Asking.{called, GivesTuple}
use Rattle.call_moments.specs.declared.end.Stop.{Stop}
use Rattle.call_moments.specs.declared.end.Stop.TheVariants as stops
use Rattle.call_moments.specs.Leads.{Moment}
use Rattle.call_moments.specs.Canonical.{AsksHost}
use Rattle.call_moments.specs.Outside.{RunsCall}
use Rattle.call_moments.proofs.HostAsked.{asked_value, asked_trap, asked_ended, asked_bad}

module _ {S : Type 0} (h : HostStep S) (old : Moment S) (import : Import) (args : PlainValue) where
  pub asked_fails : (new : Moment S) (result : Result Value Stop) → IsErrAnd result (λ stop. stop ≡ stops.NoMemory) → AsksHost h old import args result new
  asked_fails new (Ok value) e = absurd e
  asked_fails new (Err stop) e = subst (λ s. AsksHost h old import args (Err s) new) (sym e) (λ G d go. tt)

  -- after the call that was made, and its answer
  module _ (call : PlainCall) (is : call ≡ called import args) (answer : PlainAnswer) (answers : answer ≡ answer_of h old.kept call) (after : Kept S) (next : after ≡ reacts h old.kept call) where
    abbrev pub behind : Moment S
    behind = record old { kept = after }

    answered : (given : PlainAnswer) → answer ≡ given → answer_of h old.kept (called import args) ≡ given
    answered given e = ap (answer_of h old.kept) (sym is) ∙ sym answers ∙ e

    reacted : after ≡ reacts h old.kept (called import args)
    reacted = next ∙ ap (reacts h old.kept) is

    pub value_asked : (value : Option PlainValue) → answer ≡ Gives value → IsAnswerTo call.answer answer → (tuple : Value) → plain_value tuple ≡ in_tuple value → AsksHost h old import args (Ok tuple) behind
    value_asked value gives typed tuple whole =
        asked_value h old import args tuple behind (subst (λ x. GivesTuple x (plain_value tuple)) (sym (answered (Gives value) gives)) whole)
        (subst (λ x. IsAnswerTo import.ty.answer x) (sym (answered answer refl)) (subst (λ (c : PlainCall). IsAnswerTo c.answer answer) is typed))
        (ap (λ (k : Kept S). record old { kept = k }) reacted)

    pub trap_asked : answer ≡ Trap → AsksHost h old import args (Err stops.Trapped) behind
    trap_asked e = asked_trap h old import args behind (answered Trap e) reacted

    pub end_asked : answer ≡ Ended → AsksHost h old import args (Err stops.ScriptEnded) behind
    end_asked e = asked_ended h old import args behind (answered Ended e) reacted

    pub bad_asked : answer ≡ Bad → AsksHost h old import args (Err stops.BadAnswer) behind
    bad_asked e = asked_bad h old import args behind (answered Bad e) reacted

-- ---- a call from outside

-- the target is this one
pub runs_call_at : {S : Type 0} (h : HostStep S) (old new : Moment S) (target target' : Target) (args : PlainValues) (result : Result (Option Value) Stop) → target ≡ target' → RunsCall h old (target_of target') args result new → RunsCall h old (target_of target) args result new
runs_call_at h old new target target' args result is runs = subst (λ t. RunsCall h old (target_of t) args result new) (sym is) runs
