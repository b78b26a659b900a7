use Rattle.std.proofs.Common.{◌∙◌, sym, ap, option_map}
use Rattle.std.specs.Str.{bytes_eq}
use Rattle.std.specs.List.{find}
use Rattle.wasi_table.specs.Plain.{PlainInterface, plain_named}
use Rattle.wasi_table.proofs.OperandLemmas.{find-map}
use Rattle.wasi_match.proofs.offered.defined.Goals as goal

pub returns : goal.returns
returns c =
    ap (option_map plain_named) c.take_named.ensures
    ∙ sym (find-map plain_named (λ t. bytes_eq t.name c.args.name.now) c.in_ok-interface.interface.types)
    ∙ ap (λ (i : PlainInterface). find (λ t. bytes_eq t.name c.args.name.now) i.types) c.in_ok-interface.ensures
