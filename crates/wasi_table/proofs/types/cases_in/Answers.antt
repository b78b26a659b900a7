use Rattle.std.proofs.Common.{◌∙◌, sym, ap, map}
use Rattle.wit_types.specs.declared.types.Cases.{out-roll-Cases}
use Rattle.wasi_table.specs.Plain.{plain_known}
use Rattle.wasi_table.specs.Texts.{lines_in}
use Rattle.wasi_table.specs.Types.{cases_in}
use Rattle.wasi_table.specs.Before.{cases_before}
use Rattle.wasi_table.proofs.ItemLemmas.{cases_before-End}
use Rattle.wasi_table.proofs.types.cases_in.Goals as goal

pub returns : goal.returns
returns c =
    rw out-roll-Cases
    (sym (cases_before-End c.push_cases.new.cases.items) ∙ c.in_ok-push_cases.ensures ∙ ap (λ cs. cases_before cs (cases_in (map plain_known c.args.known.now) (lines_in c.args.lines))) c.new-items.ensures.items)
