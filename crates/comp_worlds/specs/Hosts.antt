-- A host meets imports by itself.
use Rattle.std.specs.Prelude.{ℕ, List, [], map}
use Rattle.wit_types.specs.Plain.{Plain}
use Rattle.wit_types.specs.PlainValue.{PlainValue}
use Rattle.abi_layout.specs.Handles as abi
use Rattle.abi_layout.specs.Handles.{handles, renumbered}
use Rattle.host_port.specs.declared.call.Resource.{Resource}
use Rattle.host_port.specs.Calls.{PlainCall, PlainAnswer, PlainObservation, Gives, Trap, Ended, Bad}
use Rattle.host_port.specs.Hosts.{HostStep}
use Rattle.comp_worlds.specs.Acts.{Trapped, ScriptEnded, BadAnswer, Out, Next, Over, Act, ◌>>◌}
use Rattle.comp_worlds.specs.Passing.{Passed, params_tuple, answer_tuple, in_tuple, values_in, blank}
use Rattle.comp_worlds.specs.Groups.{Nesting, Import, Nothing, Answer, Origin, Inside, Outside, Ports}
use Rattle.comp_worlds.specs.Calls.{begins_call}

-- the call of an import: for the host a handle is what it stands for
abbrev pub call_of : Import → Passed ℕ → PlainCall
call_of import passed = record {
  interface = import.interface;
  function = import.function;
  params = import.ty.params;
  args = values_in (renumbered (params_tuple import.ty) passed.value passed.reps);
  answer = import.ty.answer;
}

abbrev pub passed_by : Plain → PlainValue → Passed ℕ
passed_by ty v = record { value = blank ty v; reps = map (λ (h : abi.Handle). h.number) (handles ty v) }

abbrev pub answered_by : {S : Type 0} → List PlainObservation → S → Plain → PlainAnswer → ℕ → Out S Answer
answered_by o s ty (Gives value) n = Next o n s (record { passed = passed_by ty (in_tuple value); due = Nothing })
answered_by o s ty Trap n = Over o Trapped
answered_by o s ty Ended n = Over o ScriptEnded
answered_by o s ty Bad n = Over o BadAnswer

unfoldable pub reacts : {S : Type 0} → HostStep S → Import → Passed ℕ → Act S Answer
reacts h import passed s n =
    let r = h.call s (call_of import passed) in
    answered_by r.seen r.next (answer_tuple import.ty) r.answer n

unfoldable pub loses : {S : Type 0} → HostStep S → Resource → ℕ → Act S (Unit {0})
loses h resource x s n = let l = h.drop s resource x in Next l.seen n l.next tt

unfoldable pub stays : {S : Type 0} → Act S (Unit {0})
stays s n = Next [] n s tt

-- A call from outside of a function of the host is a canonical call. One from inside is that of its lowered function.
abbrev pub asks_host : {S : Type 0} → HostStep S → Nesting → Origin → Import → Passed ℕ → Act S Answer
asks_host h d Inside import passed = reacts h import passed
asks_host h d Outside import passed = begins_call d >> λ _. reacts h import passed

abbrev pub hosted : {S : Type 0} → HostStep S → Ports S
hosted h = record {
  ask = asks_host h;
  leave = λ d due. stays;
  drop = λ d resource x. loses h resource x;
}
