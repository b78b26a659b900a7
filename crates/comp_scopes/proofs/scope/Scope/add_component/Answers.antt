use Rattle.std.proofs.Common.{sym, subst, ◌++◌, ◌∷◌, []}
use Rattle.comp_scopes.specs.Found.{Each}
use Rattle.comp_scopes.proofs.EachLemmas.{each_and}
use Rattle.comp_scopes.specs.Stands.{IsNested}
use Rattle.comp_scopes.proofs.RestLemmas.{core-component}
use Rattle.comp_scopes.proofs.scope.Scope.add_component.Goals as goal

pub returns : goal.returns
returns c = λ s n h k.
    let r = h.rest in
    record {
      core = core-component s n c.args.self.now.core h.core;
      rest = record {
        is_component = r.is_component;
        functions = r.functions;
        types = r.types;
        instances = r.instances;
        components = subst (Each IsNested (s.components ++ n ∷ [])) (sym c.in_ok-push.ensures.items) (each_and IsNested s.components c.args.self.now.components.items n c.args.known r.components k);
        imports = r.imports;
        exports = r.exports;
        imported = r.imported;
        defined = r.defined;
        deepest = r.deepest;
        next = r.next;
      };
    }
