use Rattle.std.proofs.Common.{arith}
use Rattle.std.proofs.lemmas.Bool.Decides.{nat_tests}
use Rattle.wit_types.proofs.ValueLemmas.{plain_value-Variant}
use Rattle.abi_load.specs.Loaded.{bytes_at}
use Rattle.abi_load.proofs.Steps.{enum_of}
use Rattle.abi_load.proofs.loading.load_enum.Goals as goal

pub returns-clause-ok : goal.returns-clause-ok
returns-clause-ok c =
    rw plain_value-Variant
    (enum_of (bytes_at c.args.store.now c.args.memory) c.args.labels c.args.at c.discriminant_width.result c.in_ok-number.number _ c.discriminant_width.ensures.value c.in_ok-number.ensures.ok (grind (arith, nat_tests)))
