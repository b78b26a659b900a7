use Rattle.std.proofs.Common.{ap₂, codes, ◌≡◌, ◌∙◌}
use Rattle.std.proofs.lemmas.Result.{IfOk-weaker}
use Rattle.clap.specs.Words.{app_of, with_rule}
use Rattle.virt_words.specs.Apps.{plain_app, positional, required_option}
use Rattle.virt_words.proofs.apps.virt_command.Goals as goal

pub returns : goal.returns
returns c =
    let one : app_of c.in_ok-arg.field-0 ≡ with_rule (plain_app (codes "virt")) (positional (codes "APP")) =
    c.in_ok-arg.ensures.shape c.word-app.ensures.local ∙ ap₂ with_rule c.plain.ensures c.word-app.ensures.rule in
    let two : app_of c.in_ok-arg-2.field-0 ≡ with_rule (with_rule (plain_app (codes "virt")) (positional (codes "APP"))) (required_option (codes "policy") 112) =
    c.in_ok-arg-2.ensures.shape c.needed-policy.ensures.local ∙ ap₂ with_rule one c.needed-policy.ensures.rule in
    IfOk-weaker c.arg-3.result _ _ (λ r h. h.shape c.needed-out.ensures.local ∙ ap₂ with_rule two c.needed-out.ensures.rule) c.arg-3.ensures
