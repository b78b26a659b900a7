-- What the code finds in the scratch folder.
use Rattle.std.specs.Prelude.{◌<◌, length, IsSome}
use Rattle.tree_table.specs.Paths.{Part, Stay, Up, Named}
use Rattle.tree_table.specs.Scratches.{ScratchMap, file_at}
use Rattle.reference_step.specs.Nodes.{Found, TheRoot, TheFile, Missing, NewName, Named as NamedNew, Unnamed}
use Rattle.ref_scratch.specs.declared.parts.PartKind.{PartKind}
use Rattle.ref_scratch.specs.declared.parts.PartKind.TheVariants.{Stay as Stay', Up as Up', Named as Named'}
use Rattle.ref_scratch.specs.declared.finding.Found.{Found as CodeFound}
use Rattle.ref_scratch.specs.declared.finding.Found.TheVariants.{Root as Root', File as File', Missing as Missing'}
use Rattle.ref_scratch.specs.declared.naming.NewName.{NewName as CodeName}
use Rattle.ref_scratch.specs.declared.naming.NewName.TheVariants.{Named as Named'', Unnamed as Unnamed''}

abbrev pub shown_part : PartKind → Part
shown_part Stay' = Stay
shown_part Up' = Up
shown_part Named' = Named

abbrev pub shown_found : CodeFound → Found
shown_found Root' = TheRoot
shown_found (File' number) = TheFile number
shown_found (Missing' code) = Missing code

abbrev pub shown_name : CodeName → NewName
shown_name (Named'' name) = NamedNew name.now
shown_name (Unnamed'' code) = Unnamed code

-- a file that is found is there
abbrev pub IsThere : ScratchMap → CodeFound → Type 0
IsThere m Root' = Unit {0}
IsThere m (File' number) = (number < length m.files) × IsSome (file_at m number)
IsThere m (Missing' code) = Unit {0}
