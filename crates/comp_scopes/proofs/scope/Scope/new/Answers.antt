use Rattle.std.proofs.Common.{◌≡◌, refl, rules, sym, subst, []}
use Rattle.comp_scopes.specs.Found.{Each}
use Rattle.comp_scopes.specs.Stands.{IsEntry, IsNested}
use Rattle.comp_scopes.proofs.scope.Scope.new.Goals as goal

pub returns : goal.returns
returns c =
    let e3 : c.new-3.result.items ≡ [] = search rules in
    let e5 : c.new-5.result.items ≡ [] = search rules in
    record {
      core = c.new.ensures c.args.is_component c.args.next;
      rest = record {
        is_component = refl;
        functions = search rules;
        types = subst (Each IsEntry []) (sym e3) tt;
        instances = search rules;
        components = subst (Each IsNested []) (sym e5) tt;
        imports = c.none.ensures;
        exports = c.none-2.ensures;
        imported = c.none-3.ensures;
        defined = c.none-4.ensures;
        deepest = refl;
        next = refl;
      };
    }
