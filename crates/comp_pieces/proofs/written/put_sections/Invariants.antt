use Rattle.comp_pieces.specs.Extending.{Extends}
use Rattle.comp_pieces.proofs.written.put_sections.Given as goal

abbrev pub invariant-loop-piece : goal.invariant-loop-piece
invariant-loop-piece l = Extends l.initial.to.items l.to.items l.initial.out.items l.out.items
