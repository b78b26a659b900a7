-- What is kept of the index spaces of a definition and of those around it, the innermost first, and of the value types in them.
use Rattle.std.specs.Prelude.{◌≡◌, ℕ, ◌+◌, List, [], ◌∷◌, reverse, if◌then◌else◌, Option, Some, None, ⊤}
use Rattle.comp_types.specs.Spaces.{Space}
use Rattle.comp_scopes.specs.declared.scope.Scope.{Scope}
use Rattle.comp_scopes.specs.Stands.{Stands}
use Rattle.type_table.specs.Covers.{Covers, CoversEach}
use Rattle.comp_defining.specs.declared.scopes.Level.{Level}
use Rattle.comp_defining.specs.declared.scopes.Scopes.{Scopes}

-- how many instance types stand before the innermost component
abbrev pub border : List Space → ℕ
border [] = 0
border (s ∷ around) = if s.is_component then 0 else border around + 1

abbrev pub StandEach : List Space → List Level → Type 0
StandEach [] [] = ⊤
StandEach (s ∷ around) (l ∷ levels) = Stands s l.scope × (l.inside ≡ border (s ∷ around)) × StandEach around levels
StandEach _ _ = ⊥

pub record StandAll (around : List Space) (s : Space) (x : Scopes) : Type 0 where
  pub inner : Stands s x.inner
  pub inside : x.inside ≡ border (s ∷ around)
  pub outer : StandEach around (reverse x.outer.items)
  pub covered : CoversEach x.types (s ∷ around)

-- the innermost scope is handed out, and the next one is the innermost
abbrev pub IsClosed : List Space → Space → Space → Option Scope → Scopes → Type 0
IsClosed around t s None x = ⊥
IsClosed around t s (Some inner) x = (Stands s inner × Covers x.types s) × StandAll around t x
