-- What stands where the next number of a scope changes.
use Rattle.std.proofs.Common.{◌≡◌, ℕ}
use Rattle.comp_types.specs.Spaces.{Space}
use Rattle.comp_scopes.specs.declared.scope.Scope.{Scope}
use Rattle.comp_scopes.specs.Stands.{Stands}

pub stands-next : (t : Space) (x : Scope) (next new : ℕ) → Stands t x → new ≡ next → Stands (record t { next = next }) (record x { next = new })
stands-next t x next new h e =
    let k = h.core in
    let r = h.rest in
    record {
      core = record { functions = k.functions; tables = k.tables; memories = k.memories; globals = k.globals; modules = k.modules; instances = k.instances };
      rest = record {
        is_component = r.is_component;
        functions = r.functions;
        types = r.types;
        instances = r.instances;
        components = r.components;
        imports = r.imports;
        exports = r.exports;
        imported = r.imported;
        defined = r.defined;
        deepest = r.deepest;
        next = e;
      };
    }
