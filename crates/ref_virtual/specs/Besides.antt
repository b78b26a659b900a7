-- What stands beside a descriptor of the scratch folder.
use Rattle.std.specs.Prelude.{ℕ, ◌==◌, Bool, true, false}
use Rattle.reference_step.specs.Descriptors.{Pair, BothRoots, WithFile, Mixed}
use Rattle.ref_rules.specs.declared.content.Content.{Content}
use Rattle.ref_rules.specs.declared.content.Content.TheVariants.{ScratchRoot, ScratchFile}
use Rattle.ref_virtual.specs.declared.beside.Beside.{Beside}
use Rattle.ref_virtual.specs.declared.beside.Beside.TheVariants.{Root, File, Elsewhere}

abbrev pub beside_of : Content → Beside
beside_of ScratchRoot = Root
beside_of (ScratchFile number may_write) = File number
beside_of _ = Elsewhere

abbrev pub is_root : Beside → Bool
is_root Root = true
is_root (File number) = false
is_root Elsewhere = false

abbrev pub is_file : Beside → ℕ → Bool
is_file Root file = false
is_file (File other) file = file == other
is_file Elsewhere file = false

-- what it is together with the scratch folder
abbrev pub root_pair : Beside → Pair
root_pair Root = BothRoots
root_pair (File number) = WithFile
root_pair Elsewhere = Mixed

-- and together with a file of it
abbrev pub file_pair : Beside → Pair
file_pair Root = WithFile
file_pair (File number) = WithFile
file_pair Elsewhere = Mixed
