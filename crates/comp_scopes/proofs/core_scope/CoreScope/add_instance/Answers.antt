use Rattle.std.proofs.Common.{sym, subst, ◌++◌, ◌∷◌, []}
use Rattle.comp_scopes.specs.Found.{Each, HasExports}
use Rattle.comp_scopes.proofs.EachLemmas.{each_and}
use Rattle.comp_scopes.proofs.core_scope.CoreScope.add_instance.Goals as goal

pub returns : goal.returns
returns c = λ s exports h k. record {
  functions = h.functions;
  tables = h.tables;
  memories = h.memories;
  globals = h.globals;
  modules = h.modules;
  instances = subst (Each HasExports (s.core_instances ++ exports ∷ [])) (sym c.in_ok-push.ensures.items)
      (each_and HasExports s.core_instances c.args.self.now.instances.items exports c.args.instance h.instances k);
}
