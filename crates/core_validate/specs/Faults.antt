-- The least rule that an item breaks, as the code finds it.
use Rattle.std.specs.Prelude.{ℕ, Bool, true, false, Option, Some, None, List, [], ◌∷◌, if◌then◌else◌}
use Rattle.core_body.specs.Context.{Context}
use Rattle.core_body.specs.Conditions.{lesser, least}
use Rattle.core_body.specs.Faults.{code_fault}
use Rattle.core_validate.specs.Items.{Item, Part, item_conditions, parts, fits}

abbrev pub part_fault : Part → Option ℕ
part_fault p = code_fault p.context p.in_body p.code

abbrev pub parts_fault : List Part → Option ℕ
parts_fault [] = None
parts_fault (p ∷ ps) = lesser (part_fault p) (parts_fault ps)

abbrev pub fit_fault : Bool → Option ℕ
fit_fault true = None
fit_fault false = Some 7

abbrev pub fault : Context → Item → Option ℕ
fault c item = lesser (least c (item_conditions item)) (lesser (fit_fault (fits c item)) (parts_fault (parts c item)))

abbrev pub or_else : Option ℕ → Option ℕ → Option ℕ
or_else None b = b
or_else (Some a) b = Some a

-- the fault of the first item that has one
abbrev pub first_fault : Context → List Item → Option ℕ
first_fault c [] = None
first_fault c (item ∷ rest) = or_else (fault c item) (first_fault c rest)
