use Rattle.std.proofs.Common.{ap₂, codes, ◌≡◌, ◌∙◌}
use Rattle.std.proofs.lemmas.Result.{IfOk-weaker}
use Rattle.clap.specs.Words.{app_of, with_rule}
use Rattle.virt_words.specs.Apps.{plain_app, positional, required_option}
use Rattle.virt_words.proofs.apps.plug_command.Goals as goal

pub returns : goal.returns
returns c =
    let one : app_of c.in_ok-arg.field-0 ≡ with_rule (plain_app (codes "plug")) (positional (codes "A")) =
    c.in_ok-arg.ensures.shape c.word-first.ensures.local ∙ ap₂ with_rule c.plain.ensures c.word-first.ensures.rule in
    let two : app_of c.in_ok-arg-2.field-0 ≡ with_rule (with_rule (plain_app (codes "plug")) (positional (codes "A"))) (positional (codes "B")) =
    c.in_ok-arg-2.ensures.shape c.word-second.ensures.local ∙ ap₂ with_rule one c.word-second.ensures.rule in
    let three : app_of c.in_ok-arg-3.field-0 ≡ with_rule (with_rule (with_rule (plain_app (codes "plug")) (positional (codes "A"))) (positional (codes "B"))) (required_option (codes "policy") 112) =
    c.in_ok-arg-3.ensures.shape c.needed-policy.ensures.local ∙ ap₂ with_rule two c.needed-policy.ensures.rule in
    IfOk-weaker c.arg-4.result _ _ (λ r h. h.shape c.needed-out.ensures.local ∙ ap₂ with_rule three c.needed-out.ensures.rule) c.arg-4.ensures
