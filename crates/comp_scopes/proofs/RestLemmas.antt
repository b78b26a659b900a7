-- What core definitions add leaves the other index spaces as they were, and the other way round.
use Rattle.std.proofs.Common.{List, Option, Some, None}
use Rattle.core_validate.specs.declared.item.CoreItem.{CoreItem}
use Rattle.core_validate.specs.declared.item.CoreExport.{CoreExport}
use Rattle.core_validate.specs.declared.item.CoreItem.TheVariants.{Func, Table, Memory, Global}
use Rattle.comp_types.specs.Spaces.{Space, TypeEntry, NestedComponent, and_core_item, and_type}
use Rattle.comp_types.specs.Added.{and_some_core_item, and_component, and_core_instance}
use Rattle.comp_scopes.specs.declared.core_scope.CoreScope.{CoreScope}
use Rattle.comp_scopes.specs.Scopes.{IsCoreOf}
use Rattle.comp_scopes.specs.declared.scope.Scope.{Scope}
use Rattle.comp_scopes.specs.Stands.{HasRest}

pub rest-core_item : (s : Space) (x : Scope) (i : CoreItem) → HasRest s x → HasRest (and_core_item s i) x
rest-core_item s x (Func ty) h = record { is_component = h.is_component; functions = h.functions; types = h.types; instances = h.instances; components = h.components; imports = h.imports; exports = h.exports; imported = h.imported; defined = h.defined; deepest = h.deepest; next = h.next }
rest-core_item s x (Table ty l) h = record { is_component = h.is_component; functions = h.functions; types = h.types; instances = h.instances; components = h.components; imports = h.imports; exports = h.exports; imported = h.imported; defined = h.defined; deepest = h.deepest; next = h.next }
rest-core_item s x (Memory l) h = record { is_component = h.is_component; functions = h.functions; types = h.types; instances = h.instances; components = h.components; imports = h.imports; exports = h.exports; imported = h.imported; defined = h.defined; deepest = h.deepest; next = h.next }
rest-core_item s x (Global ty v) h = record { is_component = h.is_component; functions = h.functions; types = h.types; instances = h.instances; components = h.components; imports = h.imports; exports = h.exports; imported = h.imported; defined = h.defined; deepest = h.deepest; next = h.next }

pub rest-some_core_item : (s : Space) (x : Scope) (o : Option CoreItem) → HasRest s x → HasRest (and_some_core_item s o) x
rest-some_core_item s x None h = h
rest-some_core_item s x (Some i) h = rest-core_item s x i h

pub core-type : (s : Space) (e : TypeEntry) (c : CoreScope) → IsCoreOf s c → IsCoreOf (and_type s e) c
core-type s e c h = record { functions = h.functions; tables = h.tables; memories = h.memories; globals = h.globals; modules = h.modules; instances = h.instances }

pub core-component : (s : Space) (n : NestedComponent) (c : CoreScope) → IsCoreOf s c → IsCoreOf (and_component s n) c
core-component s n c h = record { functions = h.functions; tables = h.tables; memories = h.memories; globals = h.globals; modules = h.modules; instances = h.instances }

pub rest-core_instance : (s : Space) (x : Scope) (es : List CoreExport) → HasRest s x → HasRest (and_core_instance s es) x
rest-core_instance s x es h = record { is_component = h.is_component; functions = h.functions; types = h.types; instances = h.instances; components = h.components; imports = h.imports; exports = h.exports; imported = h.imported; defined = h.defined; deepest = h.deepest; next = h.next }

-- the other index spaces stay where only the core ones of a scope change
pub rest-other : (s : Space) (x : Scope) (c : CoreScope) → HasRest s x → HasRest s (record x { core = c })
rest-other s x c h = record { is_component = h.is_component; functions = h.functions; types = h.types; instances = h.instances; components = h.components; imports = h.imports; exports = h.exports; imported = h.imported; defined = h.defined; deepest = h.deepest; next = h.next }
