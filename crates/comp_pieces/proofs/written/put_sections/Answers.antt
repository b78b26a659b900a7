use Rattle.comp_pieces.proofs.ExtendLaws.{extends_none, extends_on}
use Rattle.comp_pieces.proofs.written.put_sections.Goals as goal

pub loop-piece-init : goal.loop-piece-init
loop-piece-init c = extends_none c.args.to.now.items c.args.out.now.items

pub loop-piece-preserved : goal.loop-piece-preserved
loop-piece-preserved c =
    extends_on c.args.to.now.items c.loop-piece.to.items c.put_section.new.to.items c.args.out.now.items c.loop-piece.out.items c.put_section.new.out.items c.loop-piece.invariant
    (c.in_ok-put_section.ensures c.if-not-branch.false)
