-- Where names stand among entries.
use Rattle.std.specs.Prelude.{◌≡◌, ℕ, List, if◌then◌else◌, option_map, suc, Option as Opt, Some, None}
use Rattle.std.specs.BTreeMap.{get_by_text}
use Rattle.comp_types.specs.Items.{Entries, End, More, same_name}
use Rattle.comp_types.specs.declared.places.Places.{Places}

-- the place that is kept under a name
unfoldable pub place_of : Places → List ℕ → Opt ℕ
place_of m q = get_by_text m.by_name q

-- where a name stands first
abbrev pub first_place : List ℕ → Entries → Opt ℕ
first_place q End = None
first_place q (More name _ rest) = if same_name name q then Some 0 else option_map suc (first_place q rest)

abbrev pub HasPlaces : Entries → Places → Type 0
HasPlaces entries m = (q : List ℕ) → place_of m q ≡ first_place q entries
