use Rattle.std.proofs.Common.{◌≡◌, [], ◌∷◌, ap, ◌∙◌}
use Rattle.adapter_code.specs.declared.statement.IntOp.TheVariants.{Add}
use Rattle.adapter_code.specs.declared.statement.Statement.{Const, Int}
use Rattle.adapter_code.specs.Code.{Turns, code_of, followed_by}
use Rattle.adapter_code.proofs.write.each.Goals as goal

pub returns : goal.returns
returns c = λ rest.
    let w = c.args.walk in
    let list : c.in_ok-onward.onward.items ≡ Const w.scratch w.step ∷ Int Add w.at w.at w.scratch ∷ [] =
    c.in_ok-onward.ensures.items ∙ ap (λ x. x ∷ c.add.result ∷ []) c.constant.ensures ∙ ap (λ x. Const w.scratch w.step ∷ x ∷ []) c.add.ensures in
    c.repeat.ensures rest ∙ ap (λ b. Turns w.name w.count b rest) (c.in_ok-append.ensures ∙ ap (λ l. followed_by (code_of c.args.body.items) (code_of l)) list)
