use Rattle.std.proofs.Common.{refl}
use Rattle.wasi_table.specs.Forms.{form_named}
use Rattle.wasi_table.specs.Types.{kind_of}
use Rattle.wasi_listed.specs.IoWit.{IsWit, IsKnown}
use Rattle.wasi_listed.proofs.io.table_is_wit.Goals as goal

pub returns-clause-text : goal.returns-clause-text
unfolding IsWit form_named kind_of
returns-clause-text c = refl

pub returns-clause-known : goal.returns-clause-known
unfolding IsKnown form_named kind_of
returns-clause-known c = refl
