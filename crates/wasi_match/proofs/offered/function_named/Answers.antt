use Rattle.std.proofs.Common.{◌∙◌, sym, ap, option_map}
use Rattle.std.specs.Str.{bytes_eq}
use Rattle.wasi_table.specs.Plain.{plain_named_func}
use Rattle.wasi_table.proofs.OperandLemmas.{find-map}
use Rattle.wasi_match.proofs.FoundLemmas.{now_function}
use Rattle.wasi_match.proofs.offered.function_named.Goals as goal

pub returns : goal.returns
returns c = now_function c.function_by.result ∙ ap (option_map plain_named_func) c.function_by.ensures ∙ sym (find-map plain_named_func (λ f. bytes_eq f.name c.args.name.now) c.args.functions.now)
