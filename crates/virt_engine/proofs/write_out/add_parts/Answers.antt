use Rattle.virt_engine.proofs.Adding.{first_broken, second_broken, all_parts}
use Rattle.virt_engine.proofs.write_out.add_parts.Goals as goal

pub returns-in_err-append : goal.returns-in_err-append
returns-in_err-append g c = first_broken _ c.args.front.now c.args.middle.now c.args.back.now _ _ _ _ c.from_residual.ensures.0 c.in_err-append.ensures

pub returns-in_err-add_pieces : goal.returns-in_err-add_pieces
returns-in_err-add_pieces g c = second_broken _ c.args.front.now c.args.middle.now c.args.back.now _ _ _ _ _ c.from_residual-in_err-add_pieces.ensures.0 c.in_ok-append.ensures c.in_err-add_pieces.ensures

pub returns : goal.returns
returns g c = all_parts _ c.args.front.now c.args.middle.now c.args.back.now _ _ _ _ _ c.in_ok-append.ensures c.in_ok-add_pieces.ensures c.append-2.ensures
