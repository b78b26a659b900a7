use Rattle.std.proofs.Common.{◌≡◌, List, ℕ, vec_len}
use Rattle.std.specs.Prelude.{option_map}
use Rattle.std.specs.BTreeMap.{get_by_text}
use Rattle.outside.specs.MemFiles.{first_named}
use Rattle.outside.specs.MemInside.{full}
use Rattle.outside.proofs.TableLaws.{first_or}
use Rattle.outside.proofs.mem_tables.file_table.Given as goal

abbrev pub invariant-loop-file : goal.invariant-loop-file
invariant-loop-file l = (name : List ℕ) → first_or full l.rest.items name (get_by_text l.table name) ≡ option_map full (first_named l.fn.files name)

abbrev pub decreases-loop-file : goal.decreases-loop-file
decreases-loop-file l = vec_len l.rest
