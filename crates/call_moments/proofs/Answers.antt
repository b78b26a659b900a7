-- How a host answers.
use Rattle.std.proofs.Common.{◌≡◌, ℕ, List, [], Ok, Err, refl, sym, ap, ◌∙◌, subst}
use Rattle.std.specs.Prelude.{Result}
use Rattle.wit_types.specs.PlainValue.{PlainValue}
use Rattle.wit_types.specs.declared.value.Value.{Value}
use Rattle.abi_layout.specs.Handles.{handles}
use Rattle.host_port.specs.Calls.{PlainCall, PlainAnswer, Gives, Trap, Ended, Bad, PlainObservation}
use Rattle.host_port.specs.Hosts.{HostStep}
use Rattle.comp_worlds.specs.Acts.{Out, Next}
use Rattle.comp_worlds.specs.Passing.{params_tuple, answer_tuple, values_in}
use Rattle.comp_worlds.specs.Groups.{Nesting, Config, World, Nothing, Answer, Inside, Import}
use Rattle.comp_worlds.specs.Calls.{below, below_end}
use Rattle.comp_worlds.specs.Hosts.{call_of, passed_by, answered_by, reacts, hosted}
use Rattle.value_handles.proofs.Twice.{twice}
use Rattle.call_moments.specs.declared.end.Stop.{Stop}
use Rattle.call_moments.specs.declared.end.Stop.TheVariants as stops
use Rattle.call_moments.specs.Asking.{called, Asks}
use Rattle.call_moments.specs.Laws.{ComesOut, HostsAnswer}
use Rattle.call_moments.proofs.Own.{numbers, own_numbers}

-- the call that the ports make is that of the value itself
same_call : (i : Import) (args : PlainValue) → call_of i (passed_by (params_tuple i.ty) args) ≡ called i args
same_call i args =
    let ty = params_tuple i.ty in
    ap (λ v. record { interface = i.interface; function = i.function; params = i.ty.params; args = values_in v; answer = i.ty.answer })
    (twice ty args [] (numbers (handles ty args)) ∙ own_numbers ty args)

module _ {S : Type 0} (h : HostStep S) (configs : ℕ → Config ℕ) (s : S) (i : Import) (args : PlainValue) (n : ℕ) where
  abbrev world : World S
  world = record { configs = configs; below = s }

  abbrev out_by : List PlainObservation → S → PlainAnswer → Out (World S) Answer
  out_by seen next a = below_end world (answered_by seen next (answer_tuple i.ty) a n)

  abbrev out_of : PlainCall → Out (World S) Answer
  out_of c = out_by (h.call s c).seen (h.call s c).next (h.call s c).answer

  by_answer : (a : PlainAnswer) (result : Result Value Stop) → Asks a result → ComesOut h configs s i args n (out_by (h.call s (called i args)).seen (h.call s (called i args)).next a) result
  by_answer (Gives v) (Ok value) g =
      ap (λ (x : PlainValue). Next (h.call s (called i args)).seen n (record { configs = configs; below = (h.call s (called i args)).next }) (record { passed = passed_by (answer_tuple i.ty) x; due = Nothing })) (sym g)
  by_answer Trap (Ok value) g = absurd g
  by_answer Ended (Ok value) g = absurd g
  by_answer Bad (Ok value) g = absurd g
  by_answer a (Err stops.Trapped) e = ap (out_by (h.call s (called i args)).seen (h.call s (called i args)).next) e
  by_answer a (Err stops.ScriptEnded) e = ap (out_by (h.call s (called i args)).seen (h.call s (called i args)).next) e
  by_answer a (Err stops.BadAnswer) e = ap (out_by (h.call s (called i args)).seen (h.call s (called i args)).next) e
  by_answer a (Err stops.Spent) e = e
  by_answer a (Err stops.TooDeep) e = e
  by_answer a (Err stops.NoMemory) e = tt

  port_is : (d : Nesting) → below ((hosted h).ask d Inside i (passed_by (params_tuple i.ty) args)) world n ≡ out_of (call_of i (passed_by (params_tuple i.ty) args))
  unfolding below reacts
  port_is d = refl

  pub comes_out : (d : Nesting) (result : Result Value Stop) → Asks (h.call s (called i args)).answer result →
      ComesOut h configs s i args n (below ((hosted h).ask d Inside i (passed_by (params_tuple i.ty) args)) world n) result
  comes_out d result g =
      subst (λ out. ComesOut h configs s i args n out result) (sym (port_is d ∙ ap out_of (same_call i args))) (by_answer (h.call s (called i args)).answer result g)

pub hosts_answer : {S : Type 0} (h : HostStep S) → HostsAnswer h
hosts_answer h d configs k i args n result g = comes_out h configs k.state i args n d result g
