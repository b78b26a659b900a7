-- A row of the code as one of the definition, by the table of the trees.
use Rattle.std.specs.Prelude.{List, [], ◌∷◌, Option, Some, None, option_map}
use Rattle.tree_table.specs.Tables.{Forest}
use Rattle.reference_step.specs.Handles.{Content as PlainContent}
use Rattle.reference_step.specs.State.{Row as PlainRow, Traps, Does}
use Rattle.host_port.specs.Calls.{plain_option}
use Rattle.ref_rules.specs.declared.content.Content.{Content}
use Rattle.ref_answers.specs.declared.row.Row.{Row}
use Rattle.ref_answers.specs.declared.row.Row.TheVariants.{Traps as Traps', Does as Does'}
use Rattle.ref_answers.specs.Seen.{content_in}

abbrev pub made : Forest → Option Content → List PlainContent
made f None = []
made f (Some content) = content_in f content ∷ []

-- the scratch folder is not told: the code changes it in place
abbrev pub shown : Forest → Row → PlainRow
shown f Traps' = Traps
shown f (Does' e) = Does (record { value = plain_option e.value; makes = made f e.makes; becomes = option_map (content_in f) e.becomes; scratch = None })
