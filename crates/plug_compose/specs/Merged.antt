-- What several uses of listed interfaces ask of the host together.
use Rattle.std.specs.Prelude.{ℕ, ◌==◌, List, [], ◌∷◌, ◌++◌, length, Option, Some, None, if◌then◌else◌}
use Rattle.std.specs.List.{find}
use Rattle.wasi_listed.specs.Listed.{described}
use Rattle.wasi_match.specs.declared.listed.ListedUse.{ListedUse}
use Rattle.adapter_world.specs.Needed.{is_asked}
use Rattle.adapter_world.specs.Behind.{below}

-- the place of a function of an interface, where one of the uses asks for it
abbrev pub if_asked : List ListedUse → ℕ → ℕ → List ℕ
if_asked uses interface place = if is_asked uses interface place then place ∷ [] else []

-- the places of the functions of an interface that the uses ask for, in order, each once
abbrev pub places_asked : List ListedUse → ℕ → List ℕ
places_asked uses interface = below (if_asked uses interface) (length (described interface).functions)

-- the first use of an interface
abbrev pub use_of : List ListedUse → ℕ → Option ListedUse
use_of uses interface = find (λ u. u.interface == interface) uses

-- an interface by the version of one use of it, with the functions that all ask for
abbrev pub in_version_of : Option ListedUse → List ListedUse → ℕ → List ListedUse
in_version_of None uses interface = []
in_version_of (Some one) uses interface = record { interface = interface; version = one.version; functions = places_asked uses interface } ∷ []

abbrev pub whole_use : List ListedUse → ℕ → List ListedUse
whole_use uses interface = in_version_of (use_of uses interface) uses interface

-- each interface that is used once, in the order of their numbers
unfoldable pub whole_uses : List ListedUse → List ListedUse
whole_uses uses = below (whole_use uses) 27

-- what two components ask of the host together, each interface by the version of the first that uses it
abbrev pub merged_uses : List ListedUse → List ListedUse → List ListedUse
merged_uses first second = whole_uses (first ++ second)
