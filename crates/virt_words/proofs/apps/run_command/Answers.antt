use Rattle.std.proofs.Common.{ap₂, codes, ◌≡◌, ◌∙◌}
use Rattle.std.proofs.lemmas.Result.{IfOk-weaker}
use Rattle.clap.specs.Words.{app_of, with_rule}
use Rattle.virt_words.specs.Apps.{plain_app, positional, required_option, option_named}
use Rattle.virt_words.proofs.apps.run_command.Goals as goal

pub returns : goal.returns
returns c =
    let one : app_of c.in_ok-arg.field-0 ≡ with_rule (plain_app (codes "run")) (positional (codes "COMPONENT")) =
    c.in_ok-arg.ensures.shape c.word-component.ensures.local ∙ ap₂ with_rule c.plain.ensures c.word-component.ensures.rule in
    let two : app_of c.in_ok-arg-2.field-0 ≡ with_rule (with_rule (plain_app (codes "run")) (positional (codes "COMPONENT"))) (required_option (codes "script") 115) =
    c.in_ok-arg-2.ensures.shape c.needed-script.ensures.local ∙ ap₂ with_rule one c.needed-script.ensures.rule in
    let three : app_of c.in_ok-arg-3.field-0 ≡ with_rule (with_rule (with_rule (plain_app (codes "run")) (positional (codes "COMPONENT"))) (required_option (codes "script") 115)) (option_named (codes "policy") 112) =
    c.in_ok-arg-3.ensures.shape c.allowed-policy.ensures.local ∙ ap₂ with_rule two c.allowed-policy.ensures.rule in
    IfOk-weaker c.arg-4.result _ _ (λ r h. h.shape c.spelled-steps.ensures.local ∙ ap₂ with_rule three c.spelled-steps.ensures.rule) c.arg-4.ensures
