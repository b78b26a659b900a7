-- The least rule that a definition breaks, but for rules 22 and 23, of which a law alone says what holds.
use Rattle.std.specs.Prelude.{ℕ, zero, suc, List, [], ◌∷◌, Bool, true, false, Option, Some, None}
use Rattle.std.specs.Option.{option_map}
use Rattle.comp_types.specs.Spaces.{Space}
use Rattle.comp_types.specs.Definitions.{Definition}
use Rattle.comp_types.specs.Rules as rules

-- whether each rule holds, from rule 0 on
abbrev pub tests : List Space → Space → Definition → List Bool
tests around s d =
    true ∷ true ∷ true ∷ rules.indexes_stand around s d ∷ rules.core_arguments_given s d ∷ rules.core_arguments_meet s d
    ∷ rules.inline_names_differ d ∷ rules.alias_names_export s d ∷ rules.stays_inside around s d ∷ rules.types_are_filled d
    ∷ rules.types_are_small s d ∷ rules.kinds_are_due s d ∷ rules.resources_are_due s d ∷ rules.functions_are_sound s d
    ∷ rules.resources_are_sound s d ∷ rules.declared_name_is_new s d ∷ rules.lifts_flat_type s d ∷ rules.options_are_sound s d
    ∷ rules.resource_is_own s d ∷ rules.imported_name_is_new s d ∷ rules.names_are_legal d ∷ rules.exported_name_is_new s d
    ∷ true ∷ true ∷ rules.annotations_fit s d ∷ []

-- the test of a rule
abbrev pub test_at : List Bool → ℕ → Bool
test_at [] n = true
test_at (b ∷ bs) zero = b
test_at (b ∷ bs) (suc n) = test_at bs n

-- the place of the first that fails
abbrev pub first_failing : List Bool → Option ℕ
first_failing [] = None
first_failing (false ∷ bs) = Some 0
first_failing (true ∷ bs) = option_map (λ n. suc n) (first_failing bs)

abbrev pub fault : List Space → Space → Definition → Option ℕ
fault around s d = first_failing (tests around s d)
