-- What stands after a walk through two types, or after the making of types with other resources: the types of a table, and pairs of
-- resources.
use Rattle.std.specs.Prelude.{refl}
use Rattle.std.specs.Coded.{Coded, code_by, coded×, coded_ℕ, coded_list}
use Rattle.comp_types.specs.Matching.{Pairs}
use Rattle.type_table.specs.Tables.{Types}
use Rattle.type_table.specs.Codes.{types_code}

pub record Walk : Type 0 where
  pub types : Types
  pub by : Pairs

abbrev pub walk_code : Coded Walk
walk_code = code_by (Types × Pairs) (coded× types_code (coded_list (coded× coded_ℕ coded_ℕ))) (λ w. (w.types, w.by)) (λ p. record { types = p.0; by = p.1 }) (λ _. refl)
