use Rattle.std.proofs.Common.{◌≡◌, ◌∙◌, ap, sym, subst, slice_get}
use Rattle.std.specs.Prelude.{option_map}
use Rattle.comp_scopes.specs.Found.{EachSome, HasExports}
use Rattle.comp_scopes.proofs.EachLemmas.{each_get, got}
use Rattle.comp_scopes.proofs.core_scope.CoreScope.instance_at.Goals as goal

pub returns : goal.returns
returns c = λ s h.
    let e : option_map (λ i. i.now) c.get.result ≡ slice_get c.args.self.now.instances.items c.args.index = got c.get.result c.deref.result.now c.args.index c.get.ensures.lookup.0 c.get.ensures.lookup.1 ∙ ap (λ xs. slice_get xs c.args.index) c.deref.ensures.value in
    subst (EachSome HasExports (slice_get s.core_instances c.args.index)) (sym e) (each_get HasExports s.core_instances c.args.self.now.instances.items h.instances c.args.index)
