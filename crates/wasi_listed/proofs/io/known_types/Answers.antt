use Rattle.std.proofs.Common.{◌∙◌, ap, map}
use Rattle.wasi_table.specs.Plain.{plain_known}
use Rattle.wasi_table.specs.Texts.{table_of}
use Rattle.wasi_table.specs.Tables.{declared_all}
use Rattle.wasi_listed.specs.declared.io_table.TheConstants.{TABLE}
use Rattle.wasi_listed.specs.IoListed.{known_types}
use Rattle.wasi_listed.proofs.io.known_types.Goals as goal

pub returns : goal.returns
unfolding known_types
returns c = c.in_ok-declare_all.ensures ∙ ap (λ ks. declared_all 0 (map plain_known ks) (table_of TABLE.now)) c.new-known.ensures.items
