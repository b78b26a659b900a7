-- Tables of value types as trees of numbers, by which the logic tells them apart.
use Rattle.std.specs.Prelude.{ℕ, List, Option as Opt, refl}
use Rattle.std.specs.Coded.{Coded, code_by, coded×, coded_option, coded_ℕ, coded_list}
use Rattle.wit_types.specs.Plain.{Plain}
use Rattle.comp_types.specs.Codes.{value_code}
use Rattle.type_table.specs.Tables.{Placed, Types}

abbrev pub placed_code : Coded Placed
placed_code = code_by (Plain × List (Opt ℕ)) (coded× value_code (coded_list (coded_option coded_ℕ))) (λ p. (p.tree, p.links)) (λ p. record { tree = p.0; links = p.1 }) (λ _. refl)

abbrev pub types_code : Coded Types
types_code = coded_list placed_code
