-- The names of the scratch folder are text.
use Rattle.std.specs.Prelude.{◌≡◌, ℕ, Some, IsUtf8}
use Rattle.tree_table.specs.Scratches.{ScratchMap, ScratchFile, file_at}

abbrev pub AreTexts : ScratchMap → Type 0
AreTexts m = (number : ℕ) (file : ScratchFile) → file_at m number ≡ Some file → IsUtf8 file.name
