use Rattle.std.proofs.Common.{◌+◌, ◌*◌, ◌-◌, ◌∙◌, min, ap, length, take, arith}
use Rattle.overlay_tree.proofs.BlockLemmas.{length_exchanged, exchanged_front, grown_rest, cut_rest}
use Rattle.overlay_tree.proofs.pieces.move_rest.Goals as goal

pub returns-then-held-wanted-clause-long : goal.returns-then-held-wanted-clause-long
returns-then-held-wanted-clause-long c = ap length c.exchange.ensures ∙ length_exchanged c.args.space.now ((c.args.first + c.args.held) * 4096) (c.args.used * 4096) ((c.args.used + (c.args.wanted - c.args.held)) * 4096) (omega (arith, c.requires.held)) (omega arith) (omega (arith, c.requires.fits, c.if-held-wanted.true))

pub returns-then-held-wanted-clause-front : goal.returns-then-held-wanted-clause-front
returns-then-held-wanted-clause-front c =
    ap (take ((c.args.first + min c.args.held c.args.wanted) * 4096)) c.exchange.ensures ∙ exchanged_front c.args.space.now ((c.args.first + c.args.held) * 4096) (c.args.used * 4096) ((c.args.used + (c.args.wanted - c.args.held)) * 4096) ((c.args.first + min c.args.held c.args.wanted) * 4096) (omega arith) (omega (arith, c.requires.held, c.requires.within))

pub returns-then-held-wanted-clause-rest : goal.returns-then-held-wanted-clause-rest
returns-then-held-wanted-clause-rest c = grown_rest c.args.space.now c.exchange.new.self c.args.first c.args.used c.args.held c.args.wanted c.if-held-wanted.true c.requires.held (omega (arith, c.requires.fits, c.if-held-wanted.true)) c.exchange.ensures

pub returns-else-held-wanted-clause-long : goal.returns-else-held-wanted-clause-long
returns-else-held-wanted-clause-long c = ap length c.exchange-else-held-wanted.ensures ∙ length_exchanged c.args.space.now ((c.args.first + c.args.wanted) * 4096) ((c.args.first + c.args.held) * 4096) (c.args.used * 4096) (omega (arith, c.if-held-wanted.false)) (omega (arith, c.requires.held)) c.requires.within

pub returns-else-held-wanted-clause-front : goal.returns-else-held-wanted-clause-front
returns-else-held-wanted-clause-front c =
    ap (take ((c.args.first + min c.args.held c.args.wanted) * 4096)) c.exchange-else-held-wanted.ensures ∙ exchanged_front c.args.space.now ((c.args.first + c.args.wanted) * 4096) ((c.args.first + c.args.held) * 4096) (c.args.used * 4096) ((c.args.first + min c.args.held c.args.wanted) * 4096) (omega (arith, c.if-held-wanted.false)) (omega (arith, c.if-held-wanted.false, c.requires.held, c.requires.within))

pub returns-else-held-wanted-clause-rest : goal.returns-else-held-wanted-clause-rest
returns-else-held-wanted-clause-rest c = cut_rest c.args.space.now c.exchange-else-held-wanted.new.self c.args.first c.args.used c.args.held c.args.wanted (omega (arith, c.if-held-wanted.false)) c.requires.held c.requires.within c.exchange-else-held-wanted.ensures
