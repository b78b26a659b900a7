-- An output does what the application does.
use Rattle.std.specs.Prelude.{◌≡◌}
use Rattle.comp_grammar.specs.Trees.{Tree}
use Rattle.comp_write.specs.Copying.{bare}
use Rattle.comp_link.specs.Linking.{group_of}
use Rattle.comp_inside.specs.Wrapping.{Wraps}
use Rattle.comp_link.specs.Sections.{DefinesTypes}
use Rattle.output_same.specs.ValidLaws.{StandsAlone, output_of}
use Rattle.output_same.specs.Strategies.{DoesTheSame}

-- it wraps the application
abbrev pub OutputsWrap : Type 0
OutputsWrap = (app : Tree) → StandsAlone app → DefinesTypes app → Wraps (output_of app) app

-- components that are the same but for the places of their parts are one group
abbrev pub PlacesMakeNoDifference : Type 0
PlacesMakeNoDifference = (t u : Tree) → bare t ≡ bare u → group_of t ≡ group_of u

-- wherever its parts stand
abbrev pub OutputsDoTheSame : Type 0
OutputsDoTheSame = (app output : Tree) → StandsAlone app → DefinesTypes app → bare output ≡ bare (output_of app) → DoesTheSame output app
