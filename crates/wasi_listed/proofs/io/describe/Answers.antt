use Rattle.std.proofs.Common.{◌≡◌, List, subst, map}
use Rattle.std.specs.Prelude.{IfOk}
use Rattle.wasi_table.specs.declared.interface.Known.{Known}
use Rattle.wasi_table.specs.Plain.{plain_known, plain_interface}
use Rattle.wasi_table.specs.Texts.{table_of}
use Rattle.wasi_table.specs.Tables.{described as described_by}
use Rattle.wasi_listed.specs.declared.io_table.TheConstants.{TABLE}
use Rattle.wasi_listed.specs.IoListed.{described}
use Rattle.wasi_listed.proofs.io.describe.Goals as goal

pub returns : goal.returns
unfolding described
returns c =
    subst (λ (known : List Known). IfOk c.describe.result (λ i. plain_interface i ≡ described_by (map plain_known known) 0 (table_of TABLE.now) c.args.number))
    c.new.ensures.items c.describe.ensures
