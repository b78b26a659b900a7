use Rattle.std.proofs.Common.{sym, subst, ◌++◌, ◌∷◌, []}
use Rattle.comp_scopes.specs.Found.{Each, IsKnownModule}
use Rattle.comp_scopes.proofs.EachLemmas.{each_and}
use Rattle.comp_scopes.proofs.core_scope.CoreScope.add_module.Goals as goal

pub returns : goal.returns
returns c = λ s m h k. record {
  functions = h.functions;
  tables = h.tables;
  memories = h.memories;
  globals = h.globals;
  modules = subst (Each IsKnownModule (s.core_modules ++ m ∷ [])) (sym c.in_ok-push.ensures.items)
      (each_and IsKnownModule s.core_modules c.args.self.now.modules.items m c.args.known h.modules k);
  instances = h.instances;
}
