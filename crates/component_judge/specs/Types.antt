-- Which types of components can be run by a host that answers by a script: each import is an instance of functions and types, and no
-- export holds a resource type or a handle. (The choice of this project.)
use Rattle.std.specs.Prelude.{◌≡◌, Bool, true, false, Option, Some, None, option_map, Result, Ok, Err, if◌then◌else◌}
use Rattle.virt_base.specs.declared.fault.AppFault.{AppFault}
use Rattle.virt_base.specs.declared.fault.AppFault.TheVariants.{Unlisted, HandleExport}
use Rattle.wit_types.specs.Plain.{Name}
use Rattle.comp_types.specs.Items.{Item, Entries, Signature, FuncItem, InstanceItem, KindItem, End, More}
use Rattle.comp_types.specs.Resources.{item_has_resource}
use Rattle.component_judge.specs.declared.refusal.Refusal.{Refusal}
use Rattle.component_judge.specs.declared.refusal.Refusal.TheVariants.{Refused, NoMemory}

-- a function or a type
abbrev pub is_plain : Item → Bool
is_plain (FuncItem ty) = true
is_plain (InstanceItem entries) = false
is_plain (KindItem kind) = true

abbrev pub are_plain : Entries → Bool
are_plain End = true
are_plain (More name item rest) = if is_plain item then are_plain rest else false

-- a host can meet the import
abbrev pub is_met : Item → Bool
is_met (FuncItem ty) = false
is_met (InstanceItem entries) = are_plain entries
is_met (KindItem kind) = false

abbrev pub first_unmet : Entries → Option Name
first_unmet End = None
first_unmet (More name item rest) = if is_met item then first_unmet rest else Some name

abbrev pub first_handle : Entries → Option Name
first_handle End = None
first_handle (More name item rest) = if item_has_resource item then Some name else first_handle rest

abbrev pub or_later : Option AppFault → Option AppFault → Option AppFault
or_later (Some fault) later = Some fault
or_later None later = later

-- what is at fault first, if anything is
abbrev pub type_fault : Signature → Option AppFault
type_fault ty = or_later (option_map Unlisted (first_unmet ty.imports)) (option_map HandleExport (first_handle ty.exports))

-- ---- for private clauses

abbrev pub Fits : Signature → Result (Unit {0}) Refusal → Type 0
Fits ty (Ok u) = type_fault ty ≡ None
Fits ty (Err (Refused fault)) = type_fault ty ≡ Some fault
Fits ty (Err NoMemory) = Unit {0}
Fits ty (Err _) = ⊥
