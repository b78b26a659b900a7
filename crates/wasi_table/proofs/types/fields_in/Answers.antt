use Rattle.std.proofs.Common.{◌∙◌, sym, ap, map}
use Rattle.wit_types.specs.declared.types.Fields.{out-roll-Fields}
use Rattle.wasi_table.specs.Plain.{plain_known}
use Rattle.wasi_table.specs.Texts.{lines_in}
use Rattle.wasi_table.specs.Types.{fields_in}
use Rattle.wasi_table.specs.Before.{fields_before}
use Rattle.wasi_table.proofs.OperandLemmas.{fields_before-End}
use Rattle.wasi_table.proofs.types.fields_in.Goals as goal

pub returns : goal.returns
returns c =
    rw out-roll-Fields
    (sym (fields_before-End c.push_fields.new.fields.items) ∙ c.in_ok-push_fields.ensures ∙ ap (λ fs. fields_before fs (fields_in (map plain_known c.args.known.now) (lines_in c.args.lines))) c.new-items.ensures.items)
