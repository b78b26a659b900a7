-- Lists of at most 16 core types.
use Rattle.std.specs.Prelude.{nat_le, if◌then◌else◌, List, ◌++◌, length, take, Option, Some, None}
use Rattle.virt_base.specs.declared.core_type.CoreType.{CoreType}
use Rattle.abi_layout.specs.declared.flat_types.Flat.{Flat}
use Rattle.wit_types.specs.Layout.{join}

-- the list, or nothing where it is longer than 16
abbrev pub within : List CoreType → Option (List CoreType)
within xs = if nat_le (length xs) 16 then Some xs else None

-- the list that a `Flat` stands for, or nothing where it is longer than 16
abbrev pub types_of : Flat → Option (List CoreType)
types_of f = if nat_le f.count 16 then Some (take f.count f.types) else None

-- what is left of one list after another, and of two lists joined
unfoldable pub add_within : Option (List CoreType) → List CoreType → Option (List CoreType)
add_within None xs = None
add_within (Some ys) xs = within (ys ++ xs)

unfoldable pub append_within : Option (List CoreType) → Option (List CoreType) → Option (List CoreType)
append_within o None = None
append_within o (Some xs) = add_within o xs

unfoldable pub join_within : Option (List CoreType) → Option (List CoreType) → Option (List CoreType)
join_within None _ = None
join_within (Some _) None = None
join_within (Some xs) (Some ys) = within (join xs ys)
