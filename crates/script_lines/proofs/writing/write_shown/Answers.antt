use Rattle.wit_types.specs.Plain.{plain}
use Rattle.wit_types.specs.PlainValue.{plain_value}
use Rattle.script_lines.proofs.Added.{exact_data}
use Rattle.script_lines.proofs.Floats.{shown_exact}
use Rattle.script_lines.proofs.writing.write_shown.Goals as goal

pub returns : goal.returns
returns c = exact_data c.args.out.now c.write_tree.new.out _ _ c.in_ok-tree.ensures (shown_exact (plain c.args.ty.now) (plain_value c.args.value.now)) c.in_ok-write_tree.ensures
