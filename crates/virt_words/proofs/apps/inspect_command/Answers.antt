use Rattle.std.proofs.Common.{ap₂, codes, ◌≡◌, ◌∙◌}
use Rattle.std.proofs.lemmas.Result.{IfOk-weaker}
use Rattle.clap.specs.Words.{app_of, with_rule}
use Rattle.virt_words.specs.Apps.{plain_app, positional}
use Rattle.virt_words.proofs.apps.inspect_command.Goals as goal

pub returns : goal.returns
returns c =
    let one : app_of c.in_ok-arg.field-0 ≡ with_rule (plain_app (codes "inspect")) (positional (codes "COMPONENT")) =
    c.in_ok-arg.ensures.shape c.word-component.ensures.local ∙ ap₂ with_rule c.plain.ensures c.word-component.ensures.rule in
    IfOk-weaker c.arg-2.result _ _ (λ r h. h.shape c.allowed-policy.ensures.local ∙ ap₂ with_rule one c.allowed-policy.ensures.rule) c.arg-2.ensures
