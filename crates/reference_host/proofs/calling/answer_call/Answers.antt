use Rattle.host_port.specs.Calls.{plain_call, plain_answer}
use Rattle.reference_host.specs.States.{reference_of}
use Rattle.reference_host.proofs.StepLemmas.{ok_with, on_map}
use Rattle.reference_host.proofs.TypedLemmas.{call_typed}
use Rattle.reference_host.proofs.calling.answer_call.Goals as goal

pub returns-clause-keeps : goal.returns-clause-keeps
returns-clause-keeps g c = on_map c.called.result _ _ (λ kept. record { setting = c.requires.setting; holding = kept }) c.called.ensures.keeps

pub returns-clause-typed : goal.returns-clause-typed
returns-clause-typed g c = ok_with c.called.result _ _ _ (λ a is asks.
    call_typed g.H.Host.step (reference_of c.args.state.now (g.H.Host.kept c.args.inner.now).state) (plain_call c.args.call.now) (plain_answer a) c.answers_are_typed.ensures.asked c.state_is_sound.ensures asks is.answer) c.called.ensures.reaction c.called.ensures.typed
