-- The functions that can be called, by their names.
use Rattle.std.specs.Prelude.{◌≡◌, ℕ, suc, List, [], ◌∷◌, Option, Some, None, option_map, if◌then◌else◌}
use Rattle.std.specs.BTreeMap.{get_by_text}
use Rattle.std.specs.Str.{bytes_eq}
use Rattle.host_script.specs.declared.places.Places.{Places}
use Rattle.host_script.specs.declared.script.ExportType.{ExportType}

-- the first with a name
abbrev pub export_named : List ℕ → List ExportType → Option ExportType
export_named name [] = None
export_named name (e ∷ es) = if bytes_eq e.name name then Some e else export_named name es

-- ---- for private clauses

-- the place that is kept under a name
unfoldable pub place_of : Places → List ℕ → Option ℕ
place_of m q = get_by_text m.by_name q

-- where a name stands first
abbrev pub first_place : List ℕ → List ExportType → Option ℕ
first_place q [] = None
first_place q (e ∷ es) = if bytes_eq e.name q then Some 0 else option_map suc (first_place q es)

abbrev pub HasPlaces : List ExportType → Places → Type 0
HasPlaces exports m = (q : List ℕ) → place_of m q ≡ first_place q exports
