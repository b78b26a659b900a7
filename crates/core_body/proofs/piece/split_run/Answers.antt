use Rattle.std.proofs.Common.{◌≡◌, ◌+◌, ◌-◌, length, arith}
use Rattle.virt_base.specs.declared.core_type.CoreType.TheVariants.{I32}
use Rattle.core_body.specs.Sources.{listed}
use Rattle.core_body.specs.Views.{context_of}
use Rattle.core_body.proofs.PieceLemmas.{front-none, front-top}
use Rattle.core_body.proofs.piece.split_run.Goals as goal

pub returns-then-count-eq0 : goal.returns-then-count-eq0
returns-then-count-eq0 c =
    front-none (listed (context_of c.args.scope.now) c.args.run.of) c.front-held.result.now c.args.run.len c.front-held.ensures c.if-count-eq0.true

pub returns : goal.returns
returns c =
    let held = c.front-held.result.now in
    let more : (length held - 1) + 1 ≡ length held = omega arith in
    front-top (listed (context_of c.args.scope.now) c.args.run.of) held c.args.run.len (length held - 1) I32 c.front-held.ensures more
