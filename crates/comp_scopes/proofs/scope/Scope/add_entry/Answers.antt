use Rattle.std.proofs.Common.{sym, subst, ◌++◌, ◌∷◌, []}
use Rattle.comp_scopes.specs.Found.{Each}
use Rattle.comp_scopes.proofs.EachLemmas.{each_and}
use Rattle.comp_scopes.specs.Stands.{IsEntry}
use Rattle.comp_scopes.proofs.RestLemmas.{core-type}
use Rattle.comp_scopes.proofs.scope.Scope.add_entry.Goals as goal

pub returns : goal.returns
returns c = λ s e h k.
    let r = h.rest in
    record {
      core = core-type s e c.args.self.now.core h.core;
      rest = record {
        is_component = r.is_component;
        functions = r.functions;
        types = subst (Each IsEntry (s.types ++ e ∷ [])) (sym c.in_ok-push.ensures.items) (each_and IsEntry s.types c.args.self.now.types.items e c.args.entry r.types k);
        instances = r.instances;
        components = r.components;
        imports = r.imports;
        exports = r.exports;
        imported = r.imported;
        defined = r.defined;
        deepest = r.deepest;
        next = r.next;
      };
    }
