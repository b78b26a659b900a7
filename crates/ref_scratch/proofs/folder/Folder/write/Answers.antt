use Rattle.tree_table.specs.Scratches.{written}
use Rattle.std.proofs.Common.{◌≡◌, Some}
use Rattle.ref_scratch.proofs.TextLemmas.{texts_or, texts_written}
use Rattle.ref_scratch.proofs.folder.Folder.write.Goals as goal

pub invariant_of-self : goal.invariant_of-self
invariant_of-self c = texts_or c.self.inside.scratch c.write.new.self c.self.invariant c.write.result (λ x. written c.self.inside.scratch c.args.number c.args.at c.args.bytes.now ≡ Some c.write.new.self) (λ x e. texts_written c.self.inside.scratch c.self.invariant c.args.number c.args.at c.args.bytes.now c.write.new.self e) c.write.ensures.ok c.write.ensures.same
