use Rattle.std.proofs.Common.{drop}
use Rattle.virt_words.specs.Lines.{cut, text_of}
use Rattle.virt_words.proofs.Putting.{PutSoFar}
use Rattle.virt_words.proofs.lines.put_lines.Given as goal

abbrev pub invariant-loop-size : goal.invariant-loop-size
invariant-loop-size g l = PutSoFar (text_of (cut l.sizes l.text)) (g.S.Sink.state l.fn.out) (g.S.Sink.state l.out) (text_of (cut (drop l.size-index l.sizes) l.rest))
