use Rattle.comp_grammar.specs.Trees.{plain}
use Rattle.comp_write.proofs.FromInput.{read_may_be_written}
use Rattle.comp_rows.proofs.writing.written.Goals as goal

pub write_component-requires : goal.write_component-requires
write_component-requires c = read_may_be_written (plain c.args.component.now) c.args.bytes.now c.requires.bytes c.requires.few c.requires.read.0
