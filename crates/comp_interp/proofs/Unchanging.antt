-- Items that leave the group and the store of their instance as they are.
use Rattle.std.proofs.Common.{refl, ℕ, Option, Some, None, slice_get}
use Rattle.std.specs.Option.{option_and_then}
use Rattle.core_instance.specs.declared.external.Extern.{Extern}
use Rattle.core_instance.specs.declared.external.Extern.TheVariants.{Func, Table, Memory, Global}
use Rattle.wasm_ast.specs.declared.component.CoreSort.{CoreSort}
use Rattle.wasm_ast.specs.declared.component.Sort.{Sort}
use Rattle.wit_types.specs.Plain.{Name}
use Rattle.comp_types.specs.Items.{Item}
use Rattle.comp_link.specs.Plans.{Named, CoreItemOf, ItemOf, Imports, Exports}
use Rattle.comp_link.specs.Linking.{Given, GivenFunc, GivenInstance, GivenResource, GivenType, find, Making, core_find, and_core_item, given_at, and_item, item_in, and_export, link_item}
use Rattle.comp_interp.proofs.Gathering.{Unchanged}

core_unchanged : (m : Making) (o : Option Extern) → Unchanged m (and_core_item m o)
core_unchanged m None = record { whole = refl; instance = refl; shadow = refl; canons = refl }
core_unchanged m (Some (Func at)) = record { whole = refl; instance = refl; shadow = refl; canons = refl }
core_unchanged m (Some (Table at)) = record { whole = refl; instance = refl; shadow = refl; canons = refl }
core_unchanged m (Some (Memory at)) = record { whole = refl; instance = refl; shadow = refl; canons = refl }
core_unchanged m (Some (Global at)) = record { whole = refl; instance = refl; shadow = refl; canons = refl }

item_unchanged : (m : Making) (o : Option Given) → Unchanged m (and_item m o)
item_unchanged m None = record { whole = refl; instance = refl; shadow = refl; canons = refl }
item_unchanged m (Some (GivenFunc target)) = record { whole = refl; instance = refl; shadow = refl; canons = refl }
item_unchanged m (Some (GivenInstance items)) = record { whole = refl; instance = refl; shadow = refl; canons = refl }
item_unchanged m (Some (GivenResource r)) = record { whole = refl; instance = refl; shadow = refl; canons = refl }
item_unchanged m (Some GivenType) = record { whole = refl; instance = refl; shadow = refl; canons = refl }

exported_unchanged : (m : Making) (name : Name) (o : Option Given) (stated : Option Item) → Unchanged m (and_export m name o stated)
exported_unchanged m name None stated = record { whole = refl; instance = refl; shadow = refl; canons = refl }
exported_unchanged m name (Some item) stated = let u = item_unchanged m (Some item) in record { whole = u.whole; instance = u.instance; shadow = u.shadow; canons = u.canons }

pub core_alias_unchanged : (m : Making) (sort : CoreSort) (instance : ℕ) (name : Name) → Unchanged m (link_item (CoreItemOf sort instance name) m)
core_alias_unchanged m sort instance name = core_unchanged m (option_and_then (core_find name) (slice_get m.core_instances instance))

pub alias_unchanged : (m : Making) (sort : Sort) (instance : ℕ) (name : Name) → Unchanged m (link_item (ItemOf sort instance name) m)
alias_unchanged m sort instance name = item_unchanged m (item_in (slice_get m.instances instance) name)

pub import_unchanged : (m : Making) (name : Name) (item : Item) → Unchanged m (link_item (Imports name item) m)
import_unchanged m name item = let u = item_unchanged m (find name m.given) in record { whole = u.whole; instance = u.instance; shadow = u.shadow; canons = u.canons }

pub export_unchanged : (m : Making) (name : Name) (item : Named) (stated : Option Item) → Unchanged m (link_item (Exports name item stated) m)
export_unchanged m name item stated = exported_unchanged m name (given_at m item) stated
