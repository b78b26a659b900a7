use Rattle.std.proofs.Common.{refl}
use Rattle.wasi_table.specs.Forms.{form_named}
use Rattle.wasi_table.specs.Types.{kind_of}
use Rattle.wasi_listed.specs.IoListed.{known_types}
use Rattle.wasi_listed.specs.FsWit.{IsWit, IsKnown}
use Rattle.wasi_listed.proofs.fs.table_is_wit.Goals as goal

pub returns-clause-text : goal.returns-clause-text
unfolding IsWit known_types form_named kind_of
returns-clause-text c = refl

pub returns-clause-known : goal.returns-clause-known
unfolding IsKnown known_types form_named kind_of
returns-clause-known c = refl
