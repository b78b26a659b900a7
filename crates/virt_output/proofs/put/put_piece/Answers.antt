use Rattle.virt_output.proofs.PieceLaws.{piece_added}
use Rattle.virt_output.proofs.put.put_piece.Goals as goal

pub returns-clause-spelled : goal.returns-clause-spelled
returns-clause-spelled c = piece_added c.args.piece.now c.args.out.now.items c.put_section.new.out.items c.put_section.result c.requires c.put_section.ensures
