-- What files in memory are seen as.
use Rattle.outside.specs.MemFiles.{MemFilesState}
use Rattle.outside.specs.MemInside.{held_in}
use Rattle.outside.specs.declared.mem_files.MemFiles.{MemFiles}

abbrev pub mem_state : MemFiles → MemFilesState
mem_state m = record { calls = m.calls; held = held_in m.files m.folders.table }
