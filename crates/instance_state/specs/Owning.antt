-- Which instance defines a resource.
use Rattle.std.specs.Prelude.{ℕ, ◌-◌, nat_lt, if◌then◌else◌, Option, Some, None, option_map, slice_get}
use Rattle.comp_worlds.specs.Groups.{Owner as GroupOwner}
use Rattle.comp_worlds.specs.Calls.{owned_by, number_if}
use Rattle.instance_state.specs.declared.owners.Owner.{Owner}
use Rattle.instance_state.specs.declared.owners.Owners.{Owners}

abbrev pub owner_of : Owner → GroupOwner
owner_of o = record { instance = o.instance; destructor = o.destructor }

abbrev pub owner_in : Owners → ℕ → Option GroupOwner
owner_in os r = if nat_lt r os.first then None else option_map owner_of (slice_get os.items.items (r - os.first))

-- how a borrowed handle is lowered: into this instance, as its number where the instance defines the resource; in a result, which
-- holds none, as 0
abbrev pub plain_for : Owners → Option ℕ → ℕ → ℕ → Option ℕ
plain_for os None r x = Some 0
plain_for os (Some k) r x = number_if (owned_by (owner_in os r) k) x
