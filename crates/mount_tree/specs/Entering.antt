-- What adding an entry of a folder does, without what is in it.
use Rattle.std.specs.Prelude.{ℕ, ◌≡◌, List, true, Option, Some, None, Result, Ok, Err}
use Rattle.path_names.specs.Paths.{is_path}
use Rattle.outside.specs.Files.{FilesState}
use Rattle.outside.specs.declared.files.Entry.{Entry}
use Rattle.mount_tree.specs.declared.fault.TreeFault.{TreeFault}
use Rattle.mount_tree.specs.declared.mount.Inner.{Inner}
use Rattle.mount_tree.specs.declared.mount.Entered.{Entered}
use Rattle.mount_tree.specs.Runs.{Run, Gives}
use Rattle.mount_tree.specs.Making.{Sofar}
use Rattle.mount_tree.specs.Building.{entry_due}

-- a run of what is in a folder
abbrev pub Deeper : Type 0
Deeper = List ℕ → List ℕ → Sofar → Run Sofar

-- the entry is all there is to add, or what is in the folder is due next, of which the path is legal
abbrev pub EntersBy : List ℕ → List ℕ → Sofar → Entry → FilesState → FilesState → Sofar → Option Inner → Type 0
EntersBy folder path sofar entry s t made None = (deeper : Deeper) → Gives (entry_due deeper s.held folder path sofar entry) s t (Ok made)
EntersBy folder path sofar entry s t made (Some inner) = (is_path inner.path ≡ true) × ((deeper : Deeper) (u : FilesState) (r : Result Sofar TreeFault)
    → Gives (deeper inner.outside inner.path made) t u r → Gives (entry_due deeper s.held folder path sofar entry) s u r)

abbrev pub Enters : List ℕ → List ℕ → Sofar → Entry → FilesState → FilesState → Result Entered TreeFault → Type 0
Enters folder path sofar entry s t (Ok entered) = (t.held ≡ s.held) × EntersBy folder path sofar entry s t entered.making entered.inner
Enters folder path sofar entry s t (Err fault) = (deeper : Deeper) → Gives (entry_due deeper s.held folder path sofar entry) s t (Err fault)
