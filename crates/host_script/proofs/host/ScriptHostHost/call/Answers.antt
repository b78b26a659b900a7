use Rattle.std.proofs.Common.{◌≡◌, ◌∙◌, ◌∷◌, refl, ap, sym, rules}
use Rattle.std.proofs.lemmas.Result.{IfOk-weaker}
use Rattle.wit_types.specs.Plain.{plain_result}
use Rattle.host_port.specs.declared.answer.Observation.TheVariants as observations
use Rattle.host_port.specs.Calls.{plain_call}
use Rattle.host_port.specs.Scripts.{item_answer}
use Rattle.host_port.specs.declared.call.HostFunc.{HostFunc}
use Rattle.host_script.specs.Script.{item_read}
use Rattle.host_script.proofs.HostLaws.{by_func, takes_item, takes_none, next_item, next_none, answer_typed, on_ok}
use Rattle.host_script.proofs.host.ScriptHostHost.call.Goals as goal

pub returns-in-None-clause-answer : goal.returns-in-None-clause-answer
returns-in-None-clause-answer c = takes_none c.args.self.now.left c.args.self.now.seen (plain_call c.args.call) c.in-None.ensures

pub returns-in-None-clause-next : goal.returns-in-None-clause-next
returns-in-None-clause-next c =
    next_none c.args.self.now.left c.args.self.now.left c.args.self.now.seen c.push.new.self (plain_call c.args.call) (observations.Called c.args.call) c.in-None.ensures c.in-None.ensures c.in_ok-push.ensures.ok refl

pub returns-clause-answer : goal.returns-clause-answer
returns-clause-answer c =
    let left = c.args.self.now.left in
    let text = c.in-Some.text.now in
    let same : c.deref.result.now ≡ c.args.call.func.value = search (rules, c.deref.ensures, c.in_ok-func.ensures) in
    let items : left ≡ text ∷ c.pass.new.self = c.in-Some.ensures ∙ ap (λ rest. text ∷ rest) (sym c.pass.ensures) in
    IfOk-weaker c.answer_by.result _ _
    (λ a h. h ∙ ap (item_answer (plain_result c.deref.result.now.result)) c.in_ok-item-in-Some.ensures ∙ by_func text same ∙ takes_item left c.pass.new.self c.args.self.now.seen (plain_call c.args.call) text items) c.answer_by.ensures

pub returns-clause-next : goal.returns-clause-next
returns-clause-next c =
    let left = c.args.self.now.left in
    let text = c.in-Some.text.now in
    let items : left ≡ text ∷ c.pass.new.self = c.in-Some.ensures ∙ ap (λ rest. text ∷ rest) (sym c.pass.ensures) in
    on_ok c.answer_by.result (next_item left c.pass.new.self c.args.self.now.seen c.push.new.self (plain_call c.args.call) text (observations.Called c.args.call) items c.in_ok-push.ensures.ok refl)

pub returns-clause-typed : goal.returns-clause-typed
returns-clause-typed c =
    let same : c.deref.result.now ≡ c.args.call.func.value = search (rules, c.deref.ensures, c.in_ok-func.ensures) in
    IfOk-weaker c.answer_by.result _ _ (λ a h. answer_typed (plain_result c.args.call.func.value.result) c.in_ok-item-in-Some.item a (h ∙ ap (λ (f : HostFunc). item_answer (plain_result f.result) (item_read c.in_ok-item-in-Some.item)) same)) c.answer_by.ensures
