use Rattle.std.proofs.Common.{◌∙◌, ap, sym}
use Rattle.wit_types.specs.Plain.{plain}
use Rattle.script_lines.specs.Shown.{shown}
use Rattle.script_lines.proofs.Places.{at_bytes}
use Rattle.script_lines.proofs.values.show_nth_byte.Goals as goal

pub returns : goal.returns
returns c = c.show_byte.ensures ∙ ap (λ v. shown (plain c.args.ty.now) v) (sym (at_bytes c.args.bytes.now c.args.place _ c.requires))
