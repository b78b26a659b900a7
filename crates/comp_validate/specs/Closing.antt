-- An instance type is whole: its scope is closed, and the type stands in the next one, where it is within the limits.
use Rattle.std.specs.Prelude.{◌≡◌, ℕ, List, Option, Some, None, IsTrue}
use Rattle.comp_types.specs.Spaces.{Space}
use Rattle.comp_types.specs.Added.{and_depth, and_instance_type, instance_type}
use Rattle.comp_types.specs.Rules.{is_within_limits}
use Rattle.comp_scopes.specs.declared.scope.Scope.{Scope}
use Rattle.comp_scopes.specs.Stands.{Stands}
use Rattle.comp_defining.specs.declared.scopes.Scopes.{Scopes}
use Rattle.comp_defining.specs.Around.{StandAll}

abbrev pub closed : Space → Space → Space
closed t inner = and_depth (and_instance_type t inner) (instance_type inner).depth

abbrev pub Closes : Space → Space → Scope → Option ℕ → Type 0
Closes t inner x None = IsTrue (is_within_limits (instance_type inner)) × Stands (closed t inner) x
Closes t inner x (Some rule) = (rule ≡ 10) × (IsTrue (is_within_limits (instance_type inner)) → ⊥)

abbrev pub ClosesIn : List Space → Space → Space → Scopes → Option ℕ → Type 0
ClosesIn around t inner x None = IsTrue (is_within_limits (instance_type inner)) × StandAll around (closed t inner) x
ClosesIn around t inner x (Some rule) = (rule ≡ 10) × (IsTrue (is_within_limits (instance_type inner)) → ⊥)
