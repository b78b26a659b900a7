use Rattle.std.proofs.Common.{◌≡◌, List, ℕ, vec_len}
use Rattle.std.specs.BTreeMap.{get_by_text}
use Rattle.outside.specs.MemFiles.{first_named}
use Rattle.outside.specs.declared.files.Entry.{Entry}
use Rattle.outside.proofs.TableLaws.{first_or}
use Rattle.outside.proofs.folders.table_of.Given as goal

abbrev pub invariant-loop-folder : goal.invariant-loop-folder
invariant-loop-folder l = (name : List ℕ) → first_or (λ (x : List Entry). x) l.rest.items name (get_by_text l.table name) ≡ first_named l.fn.folders name

abbrev pub decreases-loop-folder : goal.decreases-loop-folder
decreases-loop-folder l = vec_len l.rest
