use Rattle.std.proofs.Common.{◌≡◌, ◌+◌, ◌-◌, ap, sym, length, arith, get_or, true, false}
use Rattle.virt_base.specs.declared.core_type.CoreType.TheVariants.{I32}
use Rattle.core_body.specs.declared.operand.Operand.TheVariants.{Known}
use Rattle.core_body.specs.Machine.{below}
use Rattle.core_body.specs.Pieces.{piece_of}
use Rattle.core_body.specs.Views.{context_of}
use Rattle.core_body.proofs.PieceLemmas.{meet-none, meet-one, never-one}
use Rattle.core_body.proofs.piece.bite_one.Goals as goal

pub returns-then-count-eq0 : goal.returns-then-count-eq0
returns-then-count-eq0 c =
    meet-none (context_of c.args.scope.now) c.args.found c.args.due c.front-want.result.now c.front-want.ensures c.if-count-eq0.true

pub returns-then-below : goal.returns-then-below
returns-then-below c =
    let d = context_of c.args.scope.now in
    let want = c.front-want.result.now in
    let k = length want - 1 in
    let more : k + 1 ≡ length want = omega arith in
    let yes : below c.args.found (Known (get_or want k I32)) ≡ true = sym c.if-below.ensures in
    meet-one d c.args.found c.args.due c.nothing.result want k I32 c.front-want.ensures more yes (ap (piece_of d) c.nothing.ensures)

pub returns-else-below : goal.returns-else-below
returns-else-below c =
    let want = c.front-want.result.now in
    let k = length want - 1 in
    let more : k + 1 ≡ length want = omega arith in
    let no : below c.args.found (Known (get_or want k I32)) ≡ false = sym c.if-below.ensures in
    never-one (context_of c.args.scope.now) c.args.found c.args.due want k I32 c.front-want.ensures more no
