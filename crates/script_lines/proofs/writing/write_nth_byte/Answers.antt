use Rattle.wit_types.specs.Plain.{plain}
use Rattle.wit_types.specs.PlainValue.{byte_values}
use Rattle.script_lines.specs.Shows.{value_at}
use Rattle.script_lines.proofs.Added.{exact_data}
use Rattle.script_lines.proofs.Floats.{shown_exact}
use Rattle.script_lines.proofs.writing.write_nth_byte.Goals as goal

pub returns : goal.returns
returns c =
    let v = value_at c.args.place (byte_values c.args.bytes.now) in
    exact_data c.args.out.now c.write_tree.new.out _ _ c.show_nth_byte-tree.ensures (shown_exact (plain c.args.ty.now) v) c.in_ok-write_tree.ensures
