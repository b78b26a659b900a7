-- Which scratch file a content holds open.
use Rattle.std.specs.Prelude.{ℕ, Option, Some, None}
use Rattle.ref_rules.specs.declared.content.Content.{Content}
use Rattle.ref_rules.specs.declared.content.Content.TheVariants.{ScratchFile, ScratchIn, ScratchOut}

abbrev pub open_file : Content → Option ℕ
open_file (ScratchFile number may_write) = Some number
open_file (ScratchIn number place) = Some number
open_file (ScratchOut number place) = Some number
open_file _ = None
