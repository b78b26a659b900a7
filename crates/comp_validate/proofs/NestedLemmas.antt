-- A component more, and the number of the next resource after it.
use Rattle.std.proofs.Common.{◌≡◌, ℕ}
use Rattle.comp_types.specs.Spaces.{Space, NestedComponent}
use Rattle.comp_types.specs.Added.{and_component}
use Rattle.comp_scopes.specs.declared.scope.Scope.{Scope}
use Rattle.comp_scopes.specs.Stands.{Stands}

pub with_next : (t : Space) (c : NestedComponent) (x : Scope) (next n : ℕ) → Stands (and_component t c) x → n ≡ next → Stands (record (and_component t c) { next = next }) (record x { next = n })
with_next t c x next n h e = record {
  core = record { functions = h.core.functions; tables = h.core.tables; memories = h.core.memories; globals = h.core.globals; modules = h.core.modules; instances = h.core.instances };
  rest = record {
    is_component = h.rest.is_component;
    functions = h.rest.functions;
    types = h.rest.types;
    instances = h.rest.instances;
    components = h.rest.components;
    imports = h.rest.imports;
    exports = h.rest.exports;
    imported = h.rest.imported;
    defined = h.rest.defined;
    deepest = h.rest.deepest;
    next = e;
  };
}
