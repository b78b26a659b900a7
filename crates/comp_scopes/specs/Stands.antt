-- What a scope keeps of the index spaces of a component or of an instance type.
use Rattle.std.specs.Prelude.{◌≡◌, map, min}
use Rattle.comp_types.specs.Views.{kind_of}
use Rattle.comp_types.specs.Spaces.{Space, TypeEntry, NestedComponent}
use Rattle.comp_scopes.specs.Found.{Each}
use Rattle.comp_scopes.specs.Scopes.{IsCoreOf}
use Rattle.comp_scopes.specs.Named.{HasNamed}
use Rattle.comp_scopes.specs.Numbers.{HasNumbers}
use Rattle.comp_scopes.specs.declared.entries.KnownEntry.{KnownEntry}
use Rattle.comp_scopes.specs.declared.entries.KnownComponent.{KnownComponent}
use Rattle.comp_scopes.specs.declared.scope.Scope.{Scope}

-- a depth beyond the limit is kept as the least beyond it
pub record IsEntry (e : TypeEntry) (k : KnownEntry) : Type 0 where
  pub kind : kind_of k.kind ≡ e.kind
  pub depth : k.depth ≡ min e.depth 101

pub record IsNested (c : NestedComponent) (k : KnownComponent) : Type 0 where
  pub imports : k.imports ≡ c.signature.imports
  pub exports : k.exports ≡ c.signature.exports
  pub own : k.own ≡ c.own

-- all but the core index spaces
pub record HasRest (s : Space) (x : Scope) : Type 0 where
  pub is_component : x.is_component ≡ s.is_component
  pub functions : map (λ f. f.value) x.functions.items ≡ s.functions
  pub types : Each IsEntry s.types x.types.items
  pub instances : map (λ i. i.value.entries) x.instances.items ≡ s.instances
  pub components : Each IsNested s.components x.components.items
  pub imports : HasNamed s.imports x.imports
  pub exports : HasNamed s.exports x.exports
  pub imported : HasNumbers s.imported x.imported
  pub defined : HasNumbers s.defined x.defined
  pub deepest : x.deepest ≡ min s.deepest 101
  pub next : x.next ≡ s.next

-- these are the index spaces
pub record Stands (s : Space) (x : Scope) : Type 0 where
  pub core : IsCoreOf s x.core
  pub rest : HasRest s x
