-- What is offered, as it is kept.
use Rattle.std.specs.Prelude.{map}
use Rattle.comp_types.specs.Items.{Entries}
use Rattle.wasi_table.specs.Plain.{plain_named, plain_named_func}
use Rattle.wasi_match.specs.declared.offered.Offered.{Offered}
use Rattle.wasi_match.specs.Offered.{with_types}

abbrev pub entries_in : Offered → Entries
entries_in o = with_types (map plain_named o.types) (map plain_named_func o.functions)
