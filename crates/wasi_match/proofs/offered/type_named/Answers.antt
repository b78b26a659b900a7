use Rattle.std.proofs.Common.{◌∙◌, sym, ap, option_map}
use Rattle.std.specs.Str.{bytes_eq}
use Rattle.wasi_table.specs.Plain.{plain_named}
use Rattle.wasi_table.proofs.OperandLemmas.{find-map}
use Rattle.wasi_match.proofs.FoundLemmas.{now_type}
use Rattle.wasi_match.proofs.offered.type_named.Goals as goal

pub returns : goal.returns
returns c = now_type c.type_by.result ∙ ap (option_map plain_named) c.type_by.ensures ∙ sym (find-map plain_named (λ t. bytes_eq t.name c.args.name.now) c.args.types.now)
