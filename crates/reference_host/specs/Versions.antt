-- The versions under which interfaces are listed.
use Rattle.std.specs.Prelude.{ℕ, zero, suc, ◌==◌, List, [], ◌∷◌, ◌++◌, codes, find}
use Rattle.std.specs.Option.{option_map_or}
use Rattle.wit_types.specs.Plain.{Name}
use Rattle.wasi_match.specs.declared.listed.ListedUse.{ListedUse}

-- the version by which an interface is imported, or `0.2.0`
abbrev pub version_of : List ListedUse → ℕ → Name
version_of uses interface = option_map_or (λ u. u.version) (find (λ u. u.interface == interface) uses) (codes "0.2.0")

-- those of the first that many interfaces
abbrev pub first_versions : List ListedUse → ℕ → List Name
first_versions uses zero = []
first_versions uses (suc count) = first_versions uses count ++ version_of uses count ∷ []

-- those of all interfaces, each at the place of its number
abbrev pub versions_of : List ListedUse → List Name
versions_of uses = first_versions uses 27
