use Rattle.std.proofs.Common.{◌∙◌, sym, ap, option_map}
use Rattle.std.specs.Str.{bytes_eq}
use Rattle.wasi_table.specs.Plain.{plain_known}
use Rattle.wasi_table.proofs.OperandLemmas.{now_known, find-map}
use Rattle.wasi_table.proofs.words.known_by.Goals as goal

pub returns : goal.returns
returns c =
    now_known c.found_by.result ∙ ap (option_map plain_known) c.found_by.ensures ∙ sym (find-map plain_known (λ k. bytes_eq k.named.name c.args.name.now) c.args.known.now)
