use Rattle.std.proofs.Common.{◌∙◌, ap, sym, Some, None}
use Rattle.wit_types.proofs.ValueLemmas.{plain_value-Variant}
use Rattle.abi_load.specs.Lifted.{words}
use Rattle.abi_load.proofs.Lifts.{enum_chosen}
use Rattle.abi_load.proofs.lifting.lift_enum.Goals as goal

pub returns-clause-ok : goal.returns-clause-ok
returns-clause-ok c = enum_chosen c.args.labels (words c.args.flat.now) c.args.k c.low_word-number.result c.low_word-number.ensures c.if-number-labels.false ∙ ap Some (sym (plain_value-Variant c.low_word-number.result None))
