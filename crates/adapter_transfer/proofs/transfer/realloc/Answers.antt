use Rattle.std.proofs.Common.{◌≡◌, sym, subst, ap, ◌∙◌}
use Rattle.wasm_ast.specs.declared.module.Body.{Body}
use Rattle.adapter_transfer.specs.Transfer.{room_code, next_code, give_code, realloc_code, body_of, IsRealloc}
use Rattle.adapter_transfer.proofs.Closed.{if_ok_map, three_parts}
use Rattle.adapter_transfer.proofs.Reallocating.{reallocs}
use Rattle.adapter_transfer.proofs.transfer.realloc.Goals as goal

pub returns-clause-code : goal.returns-clause-code
returns-clause-code c =
    let l = c.args.layout.now in
    let written = three_parts (room_code l) next_code give_code c.new-code.result.items c.put_room.new.out.items c.put_next.new.out.items c.put_give.new.out.items c.new-code.ensures.items c.in_ok-put_room.ensures c.in_ok-put_next.ensures c.in_ok-put_give.ensures in
    if_ok_map c.closed.result (λ b. b ≡ body_of c.put_give.new.out.items) (λ b. b ≡ body_of (realloc_code l)) c.closed.ensures (λ b e. e ∙ ap body_of written)

pub returns-clause-does : goal.returns-clause-does
returns-clause-does c =
    let l = c.args.layout.now in
    let written = three_parts (room_code l) next_code give_code c.new-code.result.items c.put_room.new.out.items c.put_next.new.out.items c.put_give.new.out.items c.new-code.ensures.items c.in_ok-put_room.ensures c.in_ok-put_next.ensures c.in_ok-put_give.ensures in
    let P : Body → Type 0 = λ b. IsRealloc l b in
    if_ok_map c.closed.result (λ b. b ≡ body_of c.put_give.new.out.items) P c.closed.ensures (λ b e. subst P (sym (e ∙ ap body_of written)) (reallocs l c.requires))
