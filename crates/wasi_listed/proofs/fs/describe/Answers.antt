use Rattle.std.proofs.Common.{◌≡◌, List, subst, map}
use Rattle.std.specs.Prelude.{IfOk}
use Rattle.wasi_table.specs.Plain.{PlainKnown, plain_interface}
use Rattle.wasi_table.specs.Texts.{table_of}
use Rattle.wasi_table.specs.Tables.{described as described_by}
use Rattle.wasi_listed.specs.declared.fs.TheConstants.{FIRST}
use Rattle.wasi_listed.specs.declared.fs_table.TheConstants.{TABLE}
use Rattle.wasi_listed.specs.FsListed.{described}
use Rattle.wasi_listed.proofs.fs.describe.Goals as goal

pub returns : goal.returns
unfolding described
returns c =
    subst (λ (known : List PlainKnown). IfOk c.describe.result (λ i. plain_interface i ≡ described_by known FIRST (table_of TABLE.now) c.args.number))
    c.in_ok-known.ensures c.describe.ensures
