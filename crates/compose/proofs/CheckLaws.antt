-- What is read of an adapter.
use Rattle.std.proofs.Common.{refl, ℕ, List}
use Rattle.comp_grammar.specs.Trees.{Tree}
use Rattle.comp_write.specs.Copying.{SpellsBare}
use Rattle.comp_read.specs.Answers.{IsTheComponent}

pub read_spelled : (t : Tree) (text : List ℕ) → IsTheComponent t text → SpellsBare 0 t text
read_spelled t text h = (t, h.0.0, refl)
