-- Rows that may change the scratch folder.
use Rattle.std.specs.Prelude.{Some, option_map, unwrap_or}
use Rattle.tree_table.specs.Tables.{Forest}
use Rattle.tree_table.specs.Scratches.{ScratchMap}
use Rattle.host_port.specs.Calls.{plain_option}
use Rattle.reference_step.specs.State.{Row as PlainRow, Traps, Does}
use Rattle.ref_answers.specs.declared.row.Row.{Row}
use Rattle.ref_answers.specs.declared.row.Row.TheVariants.{Traps as Traps', Does as Does'}
use Rattle.ref_answers.specs.Seen.{content_in}
use Rattle.ref_answers.specs.Shown.{made}

-- a row of the code, and the scratch folder as it is then
abbrev pub told : Forest → Row → ScratchMap → PlainRow
told f Traps' m = Traps
told f (Does' e) m = Does (record { value = plain_option e.value; makes = made f e.makes; becomes = option_map (content_in f) e.becomes; scratch = Some m })

-- a row of the definition, and what becomes of the scratch folder by it
abbrev pub settled : ScratchMap → PlainRow → PlainRow
settled m Traps = Traps
settled m (Does e) = Does (record e { scratch = Some (unwrap_or e.scratch m) })
