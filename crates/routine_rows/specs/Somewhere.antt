-- Items of a store that an instance gives.
use Rattle.std.specs.Prelude.{List}
use Rattle.core_validate.specs.declared.item.CoreExport.{CoreExport}
use Rattle.core_store.specs.State.{State}
use Rattle.core_instance.specs.declared.external.NamedExtern.{NamedExtern}
use Rattle.core_instance.specs.Exported.{AreGiven}

abbrev pub AreSomewhere : State → List NamedExtern → Type 0
AreSomewhere s xs = (es : List CoreExport) × AreGiven s es xs
