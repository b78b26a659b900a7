use Rattle.std.proofs.Common.{◌≡◌, ◌++◌, Option, sym, subst, ap, ◌∙◌}
use Rattle.wasm_ast.specs.declared.module.Body.{Body}
use Rattle.adapter_code.specs.declared.statement.Width.{Width}
use Rattle.adapter_transfer.specs.Transfer.{reset_code, body_of, IsReset}
use Rattle.adapter_transfer.proofs.Closed.{if_ok_map}
use Rattle.adapter_transfer.proofs.Reallocating.{put_back}
use Rattle.adapter_transfer.proofs.transfer.reset.Goals as goal

pub returns-clause-code : goal.returns-clause-code
returns-clause-code c =
    let l = c.args.layout.now in
    let written = c.in_ok-put_reset.ensures ∙ ap (λ o. o ++ reset_code l) c.new-code.ensures.items in
    if_ok_map c.closed.result (λ b. b ≡ body_of c.put_reset.new.out.items) (λ b. b ≡ body_of (reset_code l)) c.closed.ensures (λ b e. e ∙ ap body_of written)

pub returns-clause-does : goal.returns-clause-does
returns-clause-does c =
    let l = c.args.layout.now in
    let written = c.in_ok-put_reset.ensures ∙ ap (λ o. o ++ reset_code l) c.new-code.ensures.items in
    let P : Body → Type 0 = λ b. (flat : Option Width) → IsReset l flat b in
    if_ok_map c.closed.result (λ b. b ≡ body_of c.put_reset.new.out.items) P c.closed.ensures (λ b e. subst P (sym (e ∙ ap body_of written)) (λ flat. put_back l flat c.requires))
