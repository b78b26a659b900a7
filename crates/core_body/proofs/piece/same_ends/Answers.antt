use Rattle.std.proofs.Common.{arith, refl, length}
use Rattle.core_body.specs.Sources.{listed}
use Rattle.core_body.specs.Views.{context_of}
use Rattle.core_body.proofs.PartLemmas.{slices-equal}
use Rattle.core_body.proofs.piece.same_ends.Goals as goal

pub returns-then-same_slices : goal.returns-then-same_slices
returns-then-same_slices c =
    let d = context_of c.args.scope.now in (
      λ e.
          slices-equal (listed d c.args.run.of) (listed d c.args.due.of) c.args.run.len c.args.due.len c.args.kept c.args.left (length c.args.first.now) c.args.first.now c.args.second.now
          c.requires.first c.requires.second c.requires.len refl (omega (arith, c.if-len-lt-LONG.false)) c.if-same_slices.ensures,
      λ e. refl,
    )
